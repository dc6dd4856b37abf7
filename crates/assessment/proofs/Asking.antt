-- A question, as its parts are read one after another. Assumes nothing.
use Rattle.std.proofs.Common.{◌≡◌, ℕ, ◌≤◌, List, ◌∷◌, length, take, Some, None, Option, sym, ap, ◌∙◌, arith}
use Rattle.std.specs.Option.{option_map}
use Rattle.std.proofs.lemmas.List.FromFn.{take-map-range_with_len}
use Rattle.standard.specs.Letters.{read_level}
use Rattle.scale.specs.Rows.{row_of}
use Rattle.standard.specs.Standards.{Standard, standard_of}
use Rattle.text.specs.Text.{Word}
use Rattle.assessment.specs.Scales.{level_names}
use Rattle.assessment.specs.Question.{Pair, Question}
use Rattle.assessment.specs.Reading.{and_then, each, read_pair, read_members, read_question, declared, rows_of, asked}

-- what is left to read after each part
abbrev pub by_pairs : Standard → ℕ → List ℕ → List Pair → Option Question
by_pairs standard required members pairs = Some (record { standard = standard; required = required; members = members; pairs = pairs })

abbrev pub by_members : Standard → ℕ → List ℕ × List Word → Option Question
by_members standard required found = and_then (each (read_pair (length found.0)) found.1) (by_pairs standard required found.0)

abbrev pub by_required : List Word → Standard → ℕ → Option Question
by_required ws standard required = and_then (read_members (level_names standard) ws) (by_members standard required)

abbrev pub by_standard : Word → List Word → Standard → Option Question
by_standard level ws standard = and_then (read_level (level_names standard) level) (by_required ws standard)

-- the rows of the pairs that were read
rows_asked : (standard : Standard) (required : ℕ) (members rows : List ℕ) (o : Option (List Pair)) → length members ≤ 8 → Some rows ≡ option_map (λ pairs. rows_of pairs 8) o → Some (standard, required, members, take (length members) rows) ≡ option_map asked (and_then o (by_pairs standard required members))
rows_asked standard required members rows None few e = absurd (let z : ◌≡◌ {A = ℕ} 0 1 = cc in omega arith)
rows_asked standard required members rows (Some pairs) few e =
    let is : rows ≡ rows_of pairs 8 = cc in
    let taken : take (length members) rows ≡ rows_of pairs (length members) =
    ap (take (length members)) is ∙ take-map-range_with_len (λ i. row_of (declared pairs i) 8) 0 8 (length members) few in
    ap (λ rs. Some (standard, required, members, rs)) taken

-- each part was read from the words that the last one left
pub asks :
    (words : List Word) (first word : Word) (after left last : List Word) (standard : Standard) (required : ℕ) (levels rows : List ℕ)
    → words ≡ first ∷ after → Some standard ≡ standard_of first → after ≡ word ∷ left → Some required ≡ read_level (level_names standard) word
    → Some (levels, last) ≡ read_members (level_names standard) left → length levels ≤ 8 → Some rows ≡ option_map (λ pairs. rows_of pairs 8) (each (read_pair (length levels)) last)
    → Some (standard, required, levels, take (length levels) rows) ≡ option_map asked (read_question words)
asks words first word after left last standard required levels rows begins known next level found few pairs =
    rows_asked standard required levels rows (each (read_pair (length levels)) last) few pairs
    ∙ sym (ap (option_map asked) (
    ap read_question (begins ∙ ap (λ ws. first ∷ ws) next)
    ∙ ap (λ o. and_then o (by_standard word left)) (sym known)
    ∙ ap (λ o. and_then o (by_required left standard)) (sym level)
    ∙ ap (λ o. and_then o (by_members standard required)) (sym found)))
