use Rattle.std.proofs.Common.{◌≡◌, take, sym, ◌∙◌}
use Rattle.arrayvec.specs.ArrayVec.{array_vec_len}
use Rattle.text.specs.Text.{words_of}
use Rattle.assessment.specs.declared.Assessment.TheVariants.{Met, NotMet, Refused}
use Rattle.assessment.specs.Reading.{read_question, assessed}
use Rattle.assessment.proofs.Assessing.{told, answers_none, answers_some}
use Rattle.assessment.proofs.assess.Goals as goal

pub returns-in_default : goal.returns-in_default
returns-in_default c =
    let value : Refused ≡ assessed c.args.line.now = answers_none (read_question (words_of c.args.line.now)) c.in_default.ensures in
    let t = told c.args.line.now Refused value in
    record { value = value; met = t.met; not_met = t.not_met; refused = t.refused }

pub returns-then-met : goal.returns-then-met
returns-then-met c =
    let q = c.in-Some.question in
    let value : Met ≡ assessed c.args.line.now =
    answers_some (read_question (words_of c.args.line.now)) q.standard q.required q.levels.items (take (array_vec_len q.levels) q.rows) _ c.in-Some.ensures (sym c.if-met.true ∙ c.met.ensures) in
    let t = told c.args.line.now Met value in
    record { value = value; met = t.met; not_met = t.not_met; refused = t.refused }

pub returns-else-met : goal.returns-else-met
returns-else-met c =
    let q = c.in-Some.question in
    let value : NotMet ≡ assessed c.args.line.now =
    answers_some (read_question (words_of c.args.line.now)) q.standard q.required q.levels.items (take (array_vec_len q.levels) q.rows) _ c.in-Some.ensures (sym c.if-met.false ∙ c.met.ensures) in
    let t = told c.args.line.now NotMet value in
    record { value = value; met = t.met; not_met = t.not_met; refused = t.refused }
