-- How the tables of a search are tied to the model of its draft.
use Rattle.std.specs.Prelude.{◌≡◌, ℕ, ◌<◌, ◌≤◌, Bool, true, List, map, length, take, Some, None, ◌==◌, slice_index, slice_index_or}
use Rattle.arrayvec.specs.ArrayVec.{ArrayVec}
use Rattle.cost.specs.declared.rule.CostRule.{Ghosts}
use Rattle.cost.specs.Totals.{cost_of}
use Rattle.theory.specs.declared.part.Part.{Part}
use Rattle.theory.specs.Model.{Model}
use Rattle.theory.specs.Allocations.{Rule, rows, chosen_quotes}
use Rattle.theory.specs.Walks.{ceilings}
use Rattle.search.specs.declared.path.Path.{Path}
use Rattle.search.specs.declared.progress.Progress.{Progress}
use Rattle.search.specs.declared.progress.Progress.TheVariants.{Running, Settled, Blocked}

-- The table has the rows of the members of every set.
abbrev pub RowsTied : Model → ArrayVec (ArrayVec ℕ) → Type 0
RowsTied model table = map (λ r. r.items) table.items ≡ map (λ set. rows model.apart set.members) model.sets

-- A path is on the parts: no level is above its part's ceiling, and beyond the path each level is that ceiling.
abbrev pub PathTied : List Part → Path → Type 0
PathTied parts path =
    (path.count ≤ length parts)
    × ((i : ℕ) → i < length parts → slice_index path.levels i ≤ slice_index (ceilings parts) i)
    × ((i : ℕ) → path.count ≤ i → i < length parts → slice_index path.levels i ≡ slice_index (ceilings parts) i)

-- A best plan covers all of n parts.
abbrev pub best_covers : {A : Type 0} → ℕ → Progress A → Bool
best_covers n (Running None) = true
best_covers n (Running (Some best)) = best.path.count == n
best_covers n (Settled best) = best.path.count == n
best_covers n (Blocked set) = true

-- The meaning of a cost rule, as the theory has it.
abbrev pub rule_of : {C A : Type 0} → Ghosts C A → C → Rule A
rule_of ghosts rule = record { begins = ghosts.begins rule; joined = ghosts.joined rule; lesser = ghosts.lesser rule }

-- Each of the first amounts, up to place n, is what a front of the levels costs.
abbrev pub AmountsUpto : {A : Type 0} → Rule A → List Part → List ℕ → List A → ℕ → Type 0
AmountsUpto {A} rule parts levels amounts n =
    (m : ℕ) (d : A) → m ≤ n → slice_index_or amounts m d ≡ cost_of rule.joined rule.begins (chosen_quotes parts (take m levels))

-- Every front of a path has its amount.
abbrev pub AmountsTied : {A : Type 0} → Rule A → List Part → Path → List A → Type 0
AmountsTied rule parts path amounts = AmountsUpto rule parts path.levels amounts path.count
