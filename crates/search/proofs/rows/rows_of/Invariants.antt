use Rattle.std.proofs.Common.{◌≡◌, map, take}
use Rattle.theory.specs.Allocations.{row}
use Rattle.draft.specs.Drafts.{model}
use Rattle.search.proofs.rows.rows_of.Given as goal

abbrev pub invariant-loop-member : goal.invariant-loop-member
invariant-loop-member l = l.rows.items ≡ map (row (model l.draft).apart l.set.members) (take l.member-index l.member-items)
