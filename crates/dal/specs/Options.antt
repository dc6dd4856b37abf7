-- The avionics scale: one member at the full level, or two that are apart at the pair's, and no other too low. Assumes nothing.
use Rattle.std.specs.Prelude.{◌≡◌, ℕ, zero, suc, ◌<◌, ◌≤◌, Bool, true, false, ◌&&◌, ◌||◌, ◌⊎◌, List, length, ◌==◌, ◌≢◌, nat_le, slice_index, ⊤}
use Rattle.scale.specs.Question.{Meaning, apart}
use Rattle.scale.specs.Rows.{any_below, all_below}

-- the full option: one member has at least `full`, and all others at least `low`
abbrev pub Full : List ℕ → ℕ → ℕ → Type 0
Full levels full low =
    (i : ℕ) × (i < length levels) × (full ≤ slice_index levels i)
    × ((k : ℕ) → k < length levels → k ≢ i → low ≤ slice_index levels k)

-- the pair option: two members that are apart have at least `each`, and all others at least `low`
abbrev pub Pair : List ℕ → List ℕ → ℕ → ℕ → Type 0
Pair levels rows each low =
    (i : ℕ) × (j : ℕ) × (i < j) × (j < length levels) × (apart rows i j ≡ true)
    × (each ≤ slice_index levels i) × (each ≤ slice_index levels j)
    × ((k : ℕ) → k < length levels → k ≢ i → k ≢ j → low ≤ slice_index levels k)

-- the meaning: at each required level, the full option or the pair option
abbrev pub DalMet : ℕ → List ℕ → List ℕ → Type 0
DalMet zero levels rows = ⊤
DalMet (suc zero) levels rows = Full levels 1 0
DalMet (suc (suc zero)) levels rows = Full levels 2 0 ⊎ Pair levels rows 1 0
DalMet (suc (suc (suc zero))) levels rows = Full levels 3 1 ⊎ Pair levels rows 2 1
DalMet (suc (suc (suc (suc zero)))) levels rows = Full levels 4 2 ⊎ Pair levels rows 3 2
DalMet (suc (suc (suc (suc (suc _))))) levels rows = ⊥

-- the full option as a test
abbrev pub full_test : List ℕ → ℕ → ℕ → Bool
full_test levels full low =
    any_below (λ i. nat_le full (slice_index levels i) && all_below (λ k. k == i || nat_le low (slice_index levels k)) (length levels)) (length levels)

-- the pair option as a test
abbrev pub pair_test : List ℕ → List ℕ → ℕ → ℕ → Bool
pair_test levels rows each low =
    any_below (λ j. any_below (λ i. apart rows i j && nat_le each (slice_index levels i) && nat_le each (slice_index levels j)
    && all_below (λ k. k == i || k == j || nat_le low (slice_index levels k)) (length levels)) j) (length levels)

-- the same as a test
abbrev pub dal_test : Meaning
dal_test zero levels rows = true
dal_test (suc zero) levels rows = full_test levels 1 0
dal_test (suc (suc zero)) levels rows = full_test levels 2 0 || pair_test levels rows 1 0
dal_test (suc (suc (suc zero))) levels rows = full_test levels 3 1 || pair_test levels rows 2 1
dal_test (suc (suc (suc (suc zero)))) levels rows = full_test levels 4 2 || pair_test levels rows 3 2
dal_test (suc (suc (suc (suc (suc _))))) levels rows = false
