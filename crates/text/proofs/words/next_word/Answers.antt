use Rattle.std.proofs.Common.{◌-◌, ◌<◌, ◌∷◌, length, drop, sym, ap, ◌∙◌, arith, length-drop, length-take, ltb-false, ltb-true}
use Rattle.std.proofs.lemmas.List.{nil_from_length}
use Rattle.text.specs.Text.{up_to, on_from, fields_of}
use Rattle.text.proofs.Cuts.{past_rest, fields_cut}
use Rattle.text.proofs.words.next_word.Goals as goal

pub returns-in-empty : goal.returns-in-empty
returns-in-empty c =
    let e = nil_from_length c.args.fields.now (omega (arith, ltb-true)) in
    record { cut = e; words = ap fields_of e; less = e }

pub returns-in-len1-up : goal.returns-in-len1-up
returns-in-len1-up c =
    let fields = c.args.fields.now in
    let some : 0 < length fields = omega (arith, ltb-false) in
    let rest = past_rest fields some in
    let front = c.cut_at.ensures.front ∙ ap (up_to 32) rest in
    let back = c.cut_at.ensures.back ∙ ap (on_from 32) rest in
    record {
      cut = (some, front, back);
      words = fields_cut fields some ∙ sym (λ i. front i ∷ fields_of (back i));
      less = omega (arith, c.cut_at.ensures.len, length-take (length fields - 1) (drop 1 fields), length-drop 1 fields);
    }
