-- What the state of a search stands for in the walk.
use Rattle.std.specs.Prelude.{ℕ, Bool, true, false, List, take, Some, None, Option, if◌then◌else◌}
use Rattle.std.specs.Option.{option_map}
use Rattle.theory.specs.declared.verdict.Verdict.{Verdict}
use Rattle.theory.specs.declared.verdict.Verdict.TheVariants as told
use Rattle.theory.specs.Model.{CutSet}
use Rattle.theory.specs.Walks.{Plan, Walk, running, settled, blocked, all_pass, first_failing}
use Rattle.search.specs.declared.path.Path.{Path}
use Rattle.search.specs.declared.progress.Best.{Best}
use Rattle.search.specs.declared.progress.Progress.{Progress}
use Rattle.search.specs.declared.progress.Progress.TheVariants.{Running, Settled, Blocked}

-- The levels of the parts on a path.
abbrev pub path_of : Path → List ℕ
path_of path = take path.count path.levels

-- The number of the first set that fails a test, or none where all pass.
abbrev pub first_unmet : (CutSet → Bool) → List CutSet → Option ℕ
first_unmet test sets = if all_pass test sets then None else Some (first_failing test sets)

module _ {A : Type 0} where
  -- A best plan, as the walk has it.
  abbrev pub plan_of : Best A → Plan A
  plan_of best = record { levels = path_of best.path; amount = best.amount }

  -- The walk that a search is at.
  abbrev pub walk_of : Path → Progress A → Walk A
  walk_of path (Running best) = running (path_of path) (option_map plan_of best)
  walk_of path (Settled best) = settled (plan_of best)
  walk_of path (Blocked set) = blocked set

  abbrev pub is_running : Progress A → Bool
  is_running (Running best) = true
  is_running (Settled best) = false
  is_running (Blocked set) = false

  -- What is told of it.
  abbrev pub verdict_of : Progress A → Verdict A
  verdict_of (Running best) = told.Running
  verdict_of (Settled best) = told.Settled best.amount
  verdict_of (Blocked set) = told.Blocked set
