-- Raise, Reach and Bottom of the avionics scale. Assumes nothing.
use Rattle.std.specs.Prelude.{◌≡◌, ℕ, zero, suc, ◌<◌, ◌≤◌, true, false, ◌⊎◌, List, length, slice_index, slice_index_or}
use Rattle.std.proofs.Common.{inl, inr, ⊎_elim, arith}
use Rattle.std.specs.List.{AllZip, All}
use Rattle.std.proofs.lemmas.Bool.{cases_Bool}
use Rattle.std.proofs.lemmas.List.Elements.{length_all_zip, AllZip-get_or, All-get_or}
use Rattle.scale.specs.Question.{Laws}
use Rattle.dal.specs.Options.{Full, Pair, DalMet, dal_test}
use Rattle.scale.proofs.Forms.{formed_parts}
use Rattle.dal.specs.OptionTests.{dal_decides}

module _ (levels higher rows : List ℕ) (rise : AllZip (λ low high. low ≤ high) levels higher) where
  same : length levels ≡ length higher
  same = length_all_zip (λ low high. low ≤ high) levels higher rise

  up : (k : ℕ) → k < length levels → slice_index levels k ≤ slice_index higher k
  up k less = AllZip-get_or (λ low high. low ≤ high) levels higher k 0 0 rise less

  full_rises : (full low : ℕ) → Full levels full low → Full higher full low
  full_rises full low s = (
    s.0,
    omega (arith, s.1, same),
    omega (arith, s.2, up s.0 s.1),
    λ k less differ. let here : k < length levels = omega (arith, same) in omega (arith, s.3 k here differ, up k here),
  )

  pair_rises : (each low : ℕ) → Pair levels rows each low → Pair higher rows each low
  pair_rises each low s = (
    s.0,
    s.1,
    s.2,
    omega (arith, s.3, same),
    s.4,
    omega (arith, s.5, up s.0 (omega (arith, s.2, s.3))),
    omega (arith, s.6, up s.1 s.3),
    λ k less not_i not_j. let here : k < length levels = omega (arith, same) in omega (arith, s.7 k here not_i not_j, up k here),
  )

  either_rises : (full each low : ℕ) → Full levels full low ⊎ Pair levels rows each low → Full higher full low ⊎ Pair higher rows each low
  either_rises full each low = ⊎_elim (λ s. inl (full_rises full low s)) (λ s. inr (pair_rises each low s))

  rises : (required : ℕ) → DalMet required levels rows → DalMet required higher rows
  rises zero s = s
  rises (suc zero) s = full_rises 1 0 s
  rises (suc (suc zero)) s = either_rises 2 1 0 s
  rises (suc (suc (suc zero))) s = either_rises 3 2 1 s
  rises (suc (suc (suc (suc zero)))) s = either_rises 4 3 2 s
  rises (suc (suc (suc (suc (suc _))))) s = s

module _ (levels rows : List ℕ) (some : 0 < length levels) where
  full_reached : (full low : ℕ) → low ≤ full → All (λ level. full ≤ level) levels → Full levels full low
  full_reached full low below h =
      let at : (k : ℕ) → k < length levels → full ≤ slice_index_or levels k 0 = λ k less. All-get_or (λ level. full ≤ level) levels k 0 less h in
      (0, some, at 0 some, λ k less differ. omega (arith, at k less))

  reached : (required : ℕ) → required ≤ 4 → All (λ level. required ≤ level) levels → DalMet required levels rows
  reached zero top h = tt
  reached (suc zero) top h = full_reached 1 0 (omega arith) h
  reached (suc (suc zero)) top h = inl (full_reached 2 0 (omega arith) h)
  reached (suc (suc (suc zero))) top h = inl (full_reached 3 1 (omega arith) h)
  reached (suc (suc (suc (suc zero)))) top h = inl (full_reached 4 2 (omega arith) h)
  reached (suc (suc (suc (suc (suc r))))) top h = absurd (omega arith)

module _ (levels rows : List ℕ) (none : All (λ level. level ≡ 0) levels) where
  at_none : (k : ℕ) → k < length levels → slice_index levels k ≡ 0
  at_none k less = All-get_or (λ level. level ≡ 0) levels k 0 less none

  full_none : (full low : ℕ) → 0 < full → Full levels full low → ⊥
  full_none full low pos s = omega (arith, s.2, at_none s.0 s.1)

  pair_none : (each low : ℕ) → 0 < each → Pair levels rows each low → ⊥
  pair_none each low pos s = omega (arith, s.6, at_none s.1 s.3)

  nothing : (required : ℕ) → 0 < required → DalMet required levels rows → ⊥
  nothing zero pos s = omega arith
  nothing (suc zero) pos s = full_none 1 0 (omega arith) s
  nothing (suc (suc zero)) pos s = ⊎_elim (full_none 2 0 (omega arith)) (pair_none 1 0 (omega arith)) s
  nothing (suc (suc (suc zero))) pos s = ⊎_elim (full_none 3 1 (omega arith)) (pair_none 2 1 (omega arith)) s
  nothing (suc (suc (suc (suc zero)))) pos s = ⊎_elim (full_none 4 2 (omega arith)) (pair_none 3 2 (omega arith)) s
  nothing (suc (suc (suc (suc (suc _))))) pos s = s

pub dal_laws : Laws dal_test
dal_laws = record {
  raise = λ required levels higher rows f f' rise e.
      (dal_decides higher rows required).1 (rises levels higher rows rise required ((dal_decides levels rows required).0 e));
  reach = λ required levels rows f h.
      let parts = formed_parts required levels rows f in
      (dal_decides levels rows required).1 (reached levels rows parts.some required parts.top h);
  bottom = λ required levels rows f h pos. ⊎_elim
      (λ (t : dal_test required levels rows ≡ true). absurd (nothing levels rows h required pos ((dal_decides levels rows required).0 t)))
      (λ (t : dal_test required levels rows ≡ false). t)
      (cases_Bool (dal_test required levels rows));
}
