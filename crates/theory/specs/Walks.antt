-- The search as a walk: what it holds, what one step does, and what a grant of steps answers.
use Rattle.std.specs.Prelude.{ℕ, zero, suc, Bool, true, false, if◌then◌else◌, not, List, [], ◌∷◌, ◌++◌, map, length, drop, Some, None, Ok, Err, Option, Result, nat_lt}
use Rattle.std.specs.List.{list_all}
use Rattle.scale.specs.Question.{Meaning}
use Rattle.theory.specs.declared.part.Part.{Part}
use Rattle.theory.specs.declared.verdict.Verdict.{Verdict}
use Rattle.theory.specs.declared.verdict.Verdict.TheVariants.{Running, Settled, Blocked}
use Rattle.theory.specs.Model.{CutSet, Model}
use Rattle.theory.specs.Allocations.{Rule, meets, cost}

-- An allocation with its amount.
pub record Plan (A : Type 0) : Type 0 where
  pub levels : List ℕ
  pub amount : A

-- A walk is running with a path, which gives levels to the first parts, and perhaps a best plan; or settled with a plan; or blocked with a set's number.
pub data Walk (A : Type 0) : Type 0 where
  running : List ℕ → Option (Plan A) → Walk A
  settled : Plan A → Walk A
  blocked : ℕ → Walk A

-- A new walk is running, with an empty path and no best.
abbrev pub new_walk : {A : Type 0} → Walk A
new_walk = running [] None

-- The parts beyond a path.
abbrev pub beyond : List Part → List ℕ → List Part
beyond parts path = drop (length path) parts

-- The parts' ceilings.
abbrev pub ceilings : List Part → List ℕ
ceilings parts = map (λ p. p.ceiling) parts

-- A path, with the parts beyond it at their ceilings.
abbrev pub filled : List Part → List ℕ → List ℕ
filled parts path = path ++ ceilings (beyond parts path)

-- Every set passes a test.
abbrev pub all_pass : (CutSet → Bool) → List CutSet → Bool
all_pass = list_all

-- The number of the first set that does not pass.
abbrev pub first_failing : (CutSet → Bool) → List CutSet → ℕ
first_failing test [] = 0
first_failing test (s ∷ ss) = if test s then suc (first_failing test ss) else 0

-- A later part has risen, or this one rises by one if it is below its ceiling.
abbrev pub raised : Part → ℕ → Option (List ℕ) → Option (List ℕ)
raised p l (Some later) = Some (l ∷ later)
raised p l None = if nat_lt l p.ceiling then Some (suc l ∷ []) else None

-- The last part on the path that is below its ceiling rises by one and all parts after it are removed; or there is none.
abbrev pub advance : List Part → List ℕ → Option (List ℕ)
advance ps [] = None
advance [] (l ∷ ls) = None
advance (p ∷ ps) (l ∷ ls) = raised p l (advance ps ls)

-- There is a best, and an amount is not less than the best's.
abbrev pub too_dear : {A : Type 0} → Rule A → Option (Plan A) → A → Bool
too_dear rule None a = false
too_dear rule (Some best) a = not (rule.lesser a best.amount)

module _ {A : Type 0} (means : Meaning) (rule : Rule A) (model : Model) where
  -- The walk goes on at the next path, or ends: settled if there is a best, otherwise blocked with the first set that the ceilings do not meet.
  abbrev pub onward : Option (List ℕ) → Option (Plan A) → Walk A
  onward (Some path) best = running path best
  onward None (Some best) = settled best
  onward None None = blocked (first_failing (meets means model (ceilings model.parts)) model.sets)

  -- One step, by whether the filled path meets every set, whether the path is too dear, and the parts beyond it.
  abbrev pub decide : Bool → Bool → List Part → List ℕ → Option (Plan A) → Walk A
  decide false dear rest path best = onward (advance model.parts path) best
  decide true true rest path best = onward (advance model.parts path) best
  decide true false [] path best = onward (advance model.parts path) (Some (record { levels = path; amount = cost rule model path }))
  decide true false (p ∷ ps) path best = running (path ++ (p.floor ∷ [])) best

  -- One step of a walk; an ended walk takes none.
  abbrev pub step : Walk A → Walk A
  step (running path best) =
      decide
      (all_pass (meets means model (filled model.parts path)) model.sets)
      (too_dear rule best (cost rule model path))
      (beyond model.parts path)
      path
      best
  step (settled best) = settled best
  step (blocked n) = blocked n

  -- The walk after a grant of k steps, or fewer if it ends.
  abbrev pub work : ℕ → Walk A → Walk A
  work zero walk = walk
  work (suc k) walk = work k (step walk)

  -- The steps taken of a grant of k: all of them, or fewer if the walk ends.
  abbrev pub taken : ℕ → Walk A → ℕ
  taken zero walk = 0
  taken (suc k) (running path best) = suc (taken k (step (running path best)))
  taken (suc k) (settled best) = 0
  taken (suc k) (blocked n) = 0

  -- What is told of a walk.
  abbrev pub told : Walk A → Verdict A
  told (running path best) = Running
  told (settled best) = Settled best.amount
  told (blocked n) = Blocked n

  -- What working with a grant answers, and the walk after it.
  abbrev pub work_call : ℕ → Walk A → (ℕ × Verdict A) × Walk A
  work_call k walk = ((taken k walk, told (work k walk)), work k walk)

-- What asking for the plan of n parts answers, and the buffer after it: the levels at its front, and what came after them as it was.
abbrev pub plan_call : {A : Type 0} → ℕ → Walk A → List ℕ → Result ℕ ℕ × List ℕ
plan_call n (running path best) buffer = (Err 10, buffer)
plan_call n (settled best) buffer = if nat_lt (length buffer) n then (Err 11, buffer) else (Ok n, best.levels ++ drop n buffer)
plan_call n (blocked k) buffer = (Err 10, buffer)
