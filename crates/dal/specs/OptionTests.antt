-- The tests of the avionics scale decide what is said of it. Assumes nothing.
use Rattle.std.specs.Prelude.{◌≡◌, ℕ, zero, suc, ◌<◌, ◌≤◌, Bool, true, false, ◌&&◌, ◌||◌, ◌⊎◌, List, length, Decides, ◌==◌, ◌≢◌, nat_le, slice_index, refl}
use Rattle.std.proofs.Common.{sym, inl, inr, ⊎_elim, arith}
use Rattle.std.proofs.lemmas.Bool.{cases_eq, true≢false}
use Rattle.std.proofs.lemmas.Bool.Decides.{Decides-and, Decides-or, Decides-eqb, Decides-like, same_from_decides}
use Rattle.scale.specs.Question.{apart}
use Rattle.scale.specs.Rows.{any_below, all_below}
use Rattle.dal.specs.Options.{Full, Pair, DalMet, full_test, pair_test, dal_test}
use Rattle.scale.proofs.Below.{decides_leb, decides_itself, any_decides, all_decides}

otherwise : {P Q : Type 0} → P ⊎ Q → (P → ⊥) → Q
otherwise (inl p) h = absurd (h p)
otherwise (inr q) h = q

-- a test that passes where A holds, and otherwise where Q does
unless : {A Q : Type 0} (a q : Bool) → Decides a A → Decides q Q → Decides (a || q) (¬ A → Q)
unless true q on rest = ((λ e not. absurd (not (on.0 refl))), (λ h. refl))
unless false q on rest = ((λ e not. rest.0 e), (λ h. rest.1 (h (λ x. true≢false (sym (on.1 x))))))

module _ (levels : List ℕ) (low : ℕ) where
  others_but : (i : ℕ) → Decides (all_below (λ k. k == i || nat_le low (slice_index levels k)) (length levels)) ((k : ℕ) → k < length levels → k ≢ i → low ≤ slice_index levels k)
  others_but i =
      all_decides (λ k. k == i || nat_le low (slice_index levels k)) (λ k. k ≢ i → low ≤ slice_index levels k)
      (λ k. unless (k == i) (nat_le low (slice_index levels k)) (Decides-eqb k i) (decides_leb low (slice_index levels k))) (length levels)

  others_but_two : (i j : ℕ) → Decides (all_below (λ k. k == i || k == j || nat_le low (slice_index levels k)) (length levels)) ((k : ℕ) → k < length levels → k ≢ i → k ≢ j → low ≤ slice_index levels k)
  others_but_two i j =
      all_decides (λ k. k == i || k == j || nat_le low (slice_index levels k)) (λ k. k ≢ i → k ≢ j → low ≤ slice_index levels k)
      (λ k. Decides-like (k == i || k == j || nat_le low (slice_index levels k))
      (λ h not_i not_j. h (⊎_elim not_i not_j)) (λ h neither. h (λ e. neither (inl e)) (λ e. neither (inr e)))
      (unless (k == i || k == j) (nat_le low (slice_index levels k)) (Decides-or (k == i) (k == j) (Decides-eqb k i) (Decides-eqb k j)) (decides_leb low (slice_index levels k)))) (length levels)

  pub full_decides : (full : ℕ) → Decides (full_test levels full low) (Full levels full low)
  full_decides full =
      Decides-like (full_test levels full low)
      (λ s. (s.0, s.1, s.2.0, s.2.1))
      (λ s. (s.0, s.1, (s.2, s.3)))
      (any_decides (λ i. nat_le full (slice_index levels i) && all_below (λ k. k == i || nat_le low (slice_index levels k)) (length levels))
      (λ i. (full ≤ slice_index levels i) × ((k : ℕ) → k < length levels → k ≢ i → low ≤ slice_index levels k))
      (λ i. Decides-and (nat_le full (slice_index levels i)) (all_below (λ k. k == i || nat_le low (slice_index levels k)) (length levels)) (decides_leb full (slice_index levels i)) (others_but i)) (length levels))

  module _ (rows : List ℕ) (each : ℕ) where
    abbrev pair_at : ℕ → ℕ → Bool
    pair_at j i = apart rows i j && nat_le each (slice_index levels i) && nat_le each (slice_index levels j) && all_below (λ k. k == i || k == j || nat_le low (slice_index levels k)) (length levels)

    abbrev PairAt : ℕ → ℕ → Type 0
    PairAt j i = (((apart rows i j ≡ true) × (each ≤ slice_index levels i)) × (each ≤ slice_index levels j)) × ((k : ℕ) → k < length levels → k ≢ i → k ≢ j → low ≤ slice_index levels k)

    pair_at_decides : (j i : ℕ) → Decides (pair_at j i) (PairAt j i)
    pair_at_decides j i =
        Decides-and (apart rows i j && nat_le each (slice_index levels i) && nat_le each (slice_index levels j)) (all_below (λ k. k == i || k == j || nat_le low (slice_index levels k)) (length levels))
        (Decides-and (apart rows i j && nat_le each (slice_index levels i)) (nat_le each (slice_index levels j))
        (Decides-and (apart rows i j) (nat_le each (slice_index levels i)) (decides_itself (apart rows i j)) (decides_leb each (slice_index levels i)))
        (decides_leb each (slice_index levels j)))
        (others_but_two i j)

    pub pair_decides : Decides (pair_test levels rows each low) (Pair levels rows each low)
    pair_decides =
        Decides-like (pair_test levels rows each low)
        (λ s. let t = s.2 in (t.0, s.0, t.1, s.1, t.2.0.0.0, t.2.0.0.1, t.2.0.1, t.2.1))
        (λ s. (s.1, s.3, (s.0, s.2, (((s.4, s.5), s.6), s.7))))
        (any_decides (λ j. any_below (pair_at j) j) (λ j. (i : ℕ) × (i < j) × PairAt j i) (λ j. any_decides (pair_at j) (PairAt j) (pair_at_decides j) j) (length levels))

module _ (levels rows : List ℕ) where
  pub both_decide : (full each low : ℕ) → Decides (full_test levels full low || pair_test levels rows each low) (Full levels full low ⊎ Pair levels rows each low)
  both_decide full each low = Decides-or (full_test levels full low) (pair_test levels rows each low) (full_decides levels low full) (pair_decides levels low rows each)

  pub dal_decides : (required : ℕ) → Decides (dal_test required levels rows) (DalMet required levels rows)
  dal_decides zero = ((λ e. tt), (λ e. refl))
  dal_decides (suc zero) = full_decides levels 0 1
  dal_decides (suc (suc zero)) = both_decide 2 1 0
  dal_decides (suc (suc (suc zero))) = both_decide 3 2 1
  dal_decides (suc (suc (suc (suc zero)))) = both_decide 4 3 2
  dal_decides (suc (suc (suc (suc (suc _))))) = ((λ e. true≢false (sym e)), (λ e. absurd e))

-- where no member is below `low`, either option is one member at `full`, or two that are apart at `each`
module _ (levels rows : List ℕ) (full each low : ℕ) (low_full : low ≤ full) (low_each : low ≤ each) where
  abbrev pub Every : Type 0
  Every = (k : ℕ) → k < length levels → low ≤ slice_index levels k

  abbrev pub One : Type 0
  One = (k : ℕ) × (k < length levels) × (full ≤ slice_index levels k)

  abbrev pub Two : Type 0
  Two = (i : ℕ) × (j : ℕ) × (i < j) × (j < length levels) × (apart rows i j ≡ true) × (each ≤ slice_index levels i) × (each ≤ slice_index levels j)

  pub option_every : Full levels full low ⊎ Pair levels rows each low → Every
  option_every (inl s) k less = ⊎_elim (λ (is : k ≡ s.0). rw is (omega (arith, s.2))) (λ differ. s.3 k less differ) (cases_eq k s.0)
  option_every (inr s) k less =
      ⊎_elim (λ (is : k ≡ s.0). rw is (omega (arith, s.5)))
      (λ (not_i : k ≡ s.0 → ⊥). ⊎_elim (λ (is : k ≡ s.1). rw is (omega (arith, s.6))) (λ not_j. s.7 k less not_i not_j) (cases_eq k s.1))
      (cases_eq k s.0)

  pub option_either : Full levels full low ⊎ Pair levels rows each low → One ⊎ Two
  option_either (inl s) = inl (s.0, s.1, s.2)
  option_either (inr s) = inr (s.0, s.1, s.2, s.3, s.4, s.5, s.6)

  pub option_by_one : Every → One → Full levels full low ⊎ Pair levels rows each low
  option_by_one every s = inl (s.0, s.1, s.2, λ k less differ. every k less)

  pub option_by_two : Every → Two → Full levels full low ⊎ Pair levels rows each low
  option_by_two every s = inr (s.0, s.1, s.2, s.3, s.4, s.5, s.6, λ k less not_i not_j. every k less)

-- at required level 1 no member is too low
pub full_one : (levels : List ℕ) (r : Bool) → Decides r ((k : ℕ) × (k < length levels) × (1 ≤ slice_index levels k)) → r ≡ full_test levels 1 0
full_one levels r d =
    same_from_decides r (full_test levels 1 0)
    (Decides-like r (λ s. (s.0, s.1, s.2, λ k less differ. omega arith)) (λ s. (s.0, s.1, s.2)) d)
    (full_decides levels 0 1)
