use Rattle.std.proofs.Common.{◌≡◌, slice_index}
use Rattle.scale.specs.Rows as scale
use Rattle.draft.specs.Drafts.{model}
use Rattle.search.proofs.rows.row_of.Given as goal

abbrev pub invariant-loop-j : goal.invariant-loop-j
invariant-loop-j l = l.bits ≡ scale.row_of (λ k. (model l.draft).apart l.part (slice_index l.member-items k)) l.j
