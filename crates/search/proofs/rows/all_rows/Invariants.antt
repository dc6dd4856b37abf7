use Rattle.std.proofs.Common.{◌≡◌, map, take}
use Rattle.theory.specs.Allocations.{rows}
use Rattle.draft.specs.Drafts.{model}
use Rattle.search.proofs.rows.all_rows.Given as goal

abbrev pub invariant-loop-set : goal.invariant-loop-set
invariant-loop-set l = map (λ r. r.items) l.table.items ≡ map (λ set. rows (model l.draft).apart set.members) (take l.set-index l.set-items)
