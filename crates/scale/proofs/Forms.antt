-- What a well-formed question has. Assumes nothing.
use Rattle.std.proofs.Common.{◌≡◌, ℕ, ◌<◌, ◌≤◌, Bool, true, ◌&&◌, leb, List, length, get_or, Decides, sym, ap, ◌∙◌, arith, w8, Fits}
use Rattle.std.proofs.lemmas.Bool.{and_parts, and_from, le-leb}
use Rattle.std.proofs.lemmas.Bool.Decides.{nat_tests, Decides-at}
use Rattle.std.proofs.lemmas.List.Elements.{All-from_get_or}
use Rattle.std.proofs.lemmas.List.Sums.{list_all-from_AllPass}
use Rattle.scale.specs.Question.{Meaning, all_at_most, formed, answer}

pub record Formed (required : ℕ) (levels rows : List ℕ) : Type 0 where
  pub top : required ≤ 4
  pub same : length levels ≡ length rows
  pub some : 0 < length levels
  pub few : length levels ≤ 8
  pub fit : all_at_most 4 levels ≡ true
  pub bytes : all_at_most 255 rows ≡ true

pub formed_parts : (required : ℕ) (levels rows : List ℕ) → formed required levels rows ≡ true → Formed required levels rows
formed_parts required levels rows e = record {
  top = grind (arith, nat_tests);
  same = grind (arith, nat_tests);
  some = grind (arith, nat_tests);
  few = grind (arith, nat_tests);
  fit = grind (arith, nat_tests);
  bytes = grind (arith, nat_tests);
}

-- bytes are at most 255
pub bytes_fit : (rows : List ℕ) → ((i : ℕ) → Fits w8 (get_or rows i 0)) → all_at_most 255 rows ≡ true
bytes_fit rows h =
    list_all-from_AllPass (λ row. leb row 255) rows
    (All-from_get_or (λ row. leb row 255 ≡ true) rows 0 (λ i less. let fits : get_or rows i 0 < 256 = (h i).fits in le-leb (get_or rows i 0) 255 (omega arith)))

-- an answer by a test that decides, for well-formed questions, what is said
pub answer_decides : {P : Type 0} (shaped met r : Bool) → (shaped ≡ true → Decides met P) → r ≡ (shaped && met) → Decides r ((shaped ≡ true) × P)
answer_decides shaped met r decides e =
    Decides-at r (shaped && met) e (
      (λ t. let both = and_parts shaped met t in (both.0, (decides both.0).0 both.1)),
      (λ s. and_from shaped met s.0 ((decides s.0).1 s.1)),
    )

-- what `met` owes of a well-formed question whose test came out as r
pub answered : (means : Meaning) (required : ℕ) (levels rows : List ℕ) (r : Bool) → formed required levels rows ≡ true → r ≡ means required levels rows → r ≡ answer means required levels rows
answered means required levels rows r f e = e ∙ sym (ap (λ b. b && means required levels rows) f)
