-- Allocations of levels to the parts of a project: what is inside the ranges, what meets the sets, what it costs, and what is earlier.
use Rattle.std.specs.Prelude.{◌≡◌, ℕ, ◌<◌, ◌≤◌, Bool, true, ◌&&◌, ◌⊎◌, List, [], ◌∷◌, map, length, nat_lt, slice_index, slice_index_or}
use Rattle.std.specs.List.{AllByRecursion}
use Rattle.scale.specs.Question.{Meaning, answer, bit}
use Rattle.scale.specs.Rows.{row_of}
use Rattle.cost.specs.declared.quote.Quote.{Quote}
use Rattle.cost.specs.Totals.{cost_of}
use Rattle.theory.specs.declared.part.Part.{Part}
use Rattle.theory.specs.Model.{CutSet, Model}

-- The meaning of a cost rule whose amounts are of the type A.
pub record Rule (A : Type 0) : Type 0 where
  pub begins : A
  pub joined : A → Quote → A
  pub lesser : A → A → Bool

-- An allocation is a list of levels, one for each part; it is inside the ranges when each lies from its part's floor to its ceiling.
abbrev pub Inside : List Part → List ℕ → Type 0
Inside [] [] = Unit {0}
Inside [] (l ∷ ls) = ⊥
Inside (p ∷ ps) [] = ⊥
Inside (p ∷ ps) (l ∷ ls) = (p.floor ≤ l) × (l ≤ p.ceiling) × Inside ps ls

-- The row of part m in a set: bit j is set exactly when m is apart from member j.
abbrev pub row : (ℕ → ℕ → Bool) → List ℕ → ℕ → ℕ
row apart members m = row_of (λ j. apart m (slice_index members j)) (length members)

-- The rows of a set's members, in their order.
abbrev pub rows : (ℕ → ℕ → Bool) → List ℕ → List ℕ
rows apart members = map (row apart members) members

-- The levels of a set's members, in their order.
abbrev pub levels_of : List ℕ → List ℕ → List ℕ
levels_of levels members = map (λ m. slice_index levels m) members

-- An allocation meets a set by the scale's whole answer.
abbrev pub meets : Meaning → Model → List ℕ → CutSet → Bool
meets means model levels set = answer means set.required (levels_of levels set.members) (rows model.apart set.members)

-- An allocation meets every set.
abbrev pub MeetsAll : Meaning → Model → List ℕ → Type 0
MeetsAll means model levels = AllByRecursion (λ set. meets means model levels set ≡ true) model.sets

-- The quote of a part at a level.
abbrev pub quote_at : Part → ℕ → Quote
quote_at p l = slice_index_or p.quotes l (record { price = 0; weeks = 0 })

-- The quotes that an allocation, or the front of one, chooses, in part order.
abbrev pub chosen_quotes : List Part → List ℕ → List Quote
chosen_quotes ps [] = []
chosen_quotes [] (l ∷ ls) = []
chosen_quotes (p ∷ ps) (l ∷ ls) = quote_at p l ∷ chosen_quotes ps ls

-- What an allocation costs by a rule.
abbrev pub cost : {A : Type 0} → Rule A → Model → List ℕ → A
cost rule model levels = cost_of rule.joined rule.begins (chosen_quotes model.parts levels)

-- The first of two allocations has the lower level at the first part where they differ.
abbrev pub Earlier : List ℕ → List ℕ → Type 0
Earlier xs [] = ⊥
Earlier [] (y ∷ ys) = ⊥
Earlier (x ∷ xs) (y ∷ ys) = (x < y) ⊎ ((x ≡ y) × Earlier xs ys)

-- Bit j of the row of member i is set exactly when both are members and they are apart, for at most eight members; every other bit is 0.
abbrev pub RowsRight : Type 0
RowsRight =
    (apart : ℕ → ℕ → Bool) (members : List ℕ) → length members ≤ 8 → (i j : ℕ) → i < length members →
    bit (slice_index (rows apart members) i) j ≡ (nat_lt j (length members) && apart (slice_index members i) (slice_index members j))
