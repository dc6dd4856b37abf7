use Rattle.std.proofs.Common.{[], ◌∷◌, sym, ap, ◌∙◌, rules}
use Rattle.std.specs.Option.{option_map_or}
use Rattle.text.specs.Text.{up_to, words_of, fields_of}
use Rattle.text.proofs.Cuts.{words_of_cut, left_words}
use Rattle.text.proofs.words.WordsIterator.next.Goals as goal

pub returns : goal.returns
returns c =
    let line = c.in_ok-self.field-0.now in
    let front = c.cut_at.ensures.front in
    let back = c.cut_at.ensures.back in
    let rest = left_words c.cut_at.result.1.now c.get-self-inside.result c.get-self-inside.ensures.lookup.0 in
    let whole = sym c.self.view_is ∙ ap (λ left. option_map_or (λ text. words_of text.now) left []) c.in_ok-self.was ∙ words_of_cut line in
    let steps = whole ∙ sym ((λ i. front i ∷ rest i) ∙ ap (λ l. up_to 32 line ∷ fields_of l) back) in
    record { steps = steps; goes = search rules }
