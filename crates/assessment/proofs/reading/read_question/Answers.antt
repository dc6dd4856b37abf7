use Rattle.std.proofs.Common.{sym, ◌∙◌}
use Rattle.assessment.proofs.Asking.{asks}
use Rattle.assessment.proofs.reading.read_question.Goals as goal

pub returns : goal.returns
returns c =
    let pairs = rw c.len.ensures.value at c.in_ok-rows.ensures in
    asks _ c.in_ok-next.field-0.now c.in_ok-next-2.field-0.now c.next.new.self c.next-2.new.self c.read_members.new.words
    c.in_ok-standard.standard c.in_ok-required.required c.in_ok-levels.levels.items c.in_ok-rows.rows
    (sym c.new-words.ensures ∙ c.in_ok-next.ensures.steps) c.in_ok-standard.ensures.value c.in_ok-next-2.ensures.steps c.in_ok-required.ensures
    c.in_ok-levels.ensures.read c.in_ok-levels.ensures.few pairs
