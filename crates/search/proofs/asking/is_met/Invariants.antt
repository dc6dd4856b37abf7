use Rattle.std.proofs.Common.{◌≡◌, map, length, take, slice_index}
use Rattle.search.proofs.asking.is_met.Given as goal

abbrev pub invariant-loop-i : goal.invariant-loop-i
invariant-loop-i g l = (length l.at ≡ 8) × (take l.i l.at ≡ map (λ m. slice_index l.levels m) (take l.i l.members))
