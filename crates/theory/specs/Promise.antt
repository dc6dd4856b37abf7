-- What is promised of a search, in words of allocations, ranges, sets and costs.
use Rattle.std.specs.Prelude.{◌≡◌, ℕ, ◌+◌, ◌<◌, ◌≤◌, true, false, ◌↔◌, List, length, Some, None, ◌≢◌, slice_index, slice_index_or}
use Rattle.std.specs.List.{AllByRecursion}
use Rattle.scale.specs.Question.{Meaning, Laws}
use Rattle.cost.specs.Laws.{AtMost, CostLaws}
use Rattle.theory.specs.declared.verdict.Verdict.{Verdict}
use Rattle.theory.specs.declared.verdict.Verdict.TheVariants.{Running, Settled, Blocked}
use Rattle.theory.specs.Model.{CutSet, Model, Sound}
use Rattle.theory.specs.Allocations.{Rule, Inside, MeetsAll, meets, cost, Earlier}
use Rattle.theory.specs.Walks.{Walk, running, settled, blocked, new_walk, ceilings, work, taken, told}
use Rattle.theory.specs.Partials.{partials}

-- A search has ended once it tells settled or blocked.
abbrev pub Ended : {A : Type 0} → Verdict A → Type 0
Ended Running = ⊥
Ended (Settled amount) = Unit {0}
Ended (Blocked n) = Unit {0}

-- The verdict is blocked.
abbrev pub IsBlocked : {A : Type 0} → Verdict A → Type 0
IsBlocked Running = ⊥
IsBlocked (Settled amount) = ⊥
IsBlocked (Blocked n) = Unit {0}

module _ {A : Type 0} (means : Meaning) (rule : Rule A) (model : Model) where
  -- No allocation inside the ranges meets every set.
  abbrev pub Hopeless : Type 0
  Hopeless = (levels : List ℕ) → Inside model.parts levels → MeetsAll means model levels → ⊥

  -- Set n is the first that the ceilings do not meet.
  pub record FirstUnmet (n : ℕ) : Type 0 where
    pub standing : n < length model.sets
    pub unmet : (d : CutSet) → meets means model (ceilings model.parts) (slice_index_or model.sets n d) ≡ false
    pub before_met : (k : ℕ) → k < n → (d : CutSet) → meets means model (ceilings model.parts) (slice_index_or model.sets k d) ≡ true

  -- These levels can be bought: they are inside the ranges, meet every set, and cost the amount.
  pub record FitPlan (levels : List ℕ) (amount : A) : Type 0 where
    pub inside : Inside model.parts levels
    pub meets_all : MeetsAll means model levels
    pub costs : amount ≡ cost rule model levels

  -- Of all such plans the cheapest, and of those the earliest: every other allocation inside the ranges that meets every set costs at least as much, and comes later if it costs no more.
  pub record BestPlan (levels : List ℕ) (amount : A) : Type 0 where
    pub fit : FitPlan levels amount
    pub cheapest : (other : List ℕ) → Inside model.parts other → MeetsAll means model other → AtMost rule.lesser amount (cost rule model other)
    pub earliest : (other : List ℕ) → Inside model.parts other → MeetsAll means model other → AtMost rule.lesser (cost rule model other) amount → (other ≢ levels) → Earlier levels other

  -- The ceiling of each member of each set reaches the level that the set requires.
  abbrev pub InReach : Type 0
  InReach = AllByRecursion (λ set. AllByRecursion (λ m. set.required ≤ slice_index (ceilings model.parts) m) set.members) model.sets

  -- What is promised of a verdict after some steps were granted.
  pub record Promised (granted : ℕ) (verdict : Verdict A) : Type 0 where
    -- once ended, it is blocked exactly when no allocation inside the ranges meets every set
    pub blocked_exactly : Ended verdict → (IsBlocked verdict ↔ Hopeless)
    -- a set that blocks is the first that the ceilings do not meet
    pub blocked_by : (n : ℕ) → verdict ≡ Blocked n → FirstUnmet n
    -- an amount that is settled with is that of the best plan
    pub settled_with : (amount : A) → verdict ≡ Settled amount → (levels : List ℕ) × BestPlan levels amount
    -- it has ended once the steps granted reach the number of partial allocations
    pub ends : partials model.parts ≤ granted → Ended verdict
    -- it is not blocked where each member's ceiling reaches its set's level
    pub within_reach : InReach → IsBlocked verdict → ⊥
    -- with a set standing, no plan has every part at level 0
    pub never_idle : 0 < length model.sets → (levels : List ℕ) (amount : A) → FitPlan levels amount → ((i : ℕ) → slice_index levels i ≡ 0) → ⊥

  -- What a walk holds is right: a best is a plan that can be bought, and a settled plan is the best plan.
  abbrev pub Right : Walk A → Type 0
  Right (running path None) = Unit {0}
  Right (running path (Some best)) = FitPlan best.levels best.amount
  Right (settled best) = BestPlan best.levels best.amount
  Right (blocked n) = Hopeless × FirstUnmet n

  -- What holds of a new walk after any number of steps.
  pub record Exact : Type 0 where
    pub promised : (k : ℕ) → Promised k (told means rule model (work means rule model k new_walk))
    pub right : (k : ℕ) → Right (work means rule model k new_walk)
    -- j steps and then k are j + k steps, in the walk and in the steps taken
    pub adds_up : (j k : ℕ) (walk : Walk A) → work means rule model (j + k) walk ≡ work means rule model k (work means rule model j walk)
    pub taken_adds_up : (j k : ℕ) (walk : Walk A) → taken means rule model (j + k) walk ≡ taken means rule model j walk + taken means rule model k (work means rule model j walk)
    -- while it runs it has taken all that was granted, and never more
    pub takes_all : (k : ℕ) (walk : Walk A) → (Ended (told means rule model (work means rule model k walk)) → ⊥) → taken means rule model k walk ≡ k
    pub takes_no_more : (k : ℕ) (walk : Walk A) → taken means rule model k walk ≤ k
    -- two best plans are one, and where there is one, the walk settles with it
    pub one_best : (xs ys : List ℕ) (a b : A) → BestPlan xs a → BestPlan ys b → xs ≡ ys
    pub settles : (xs : List ℕ) (a : A) → BestPlan xs a → (k : ℕ) → partials model.parts ≤ k → work means rule model k new_walk ≡ settled (record { levels = xs; amount = a })

-- That holds of every sound model, every scale's meaning with its laws, and every rule's meaning with its laws, over amounts of a type.
abbrev pub SearchExact : Type 0 → Type 0
SearchExact A = (means : Meaning) → Laws means → (rule : Rule A) → CostLaws rule.joined rule.lesser → (model : Model) → Sound model → Exact means rule model
