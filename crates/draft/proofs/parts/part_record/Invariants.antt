use Rattle.std.proofs.Common.{take}
use Rattle.std.specs.List.{AllByRecursion}
use Rattle.cost.specs.Totals.{Fits32}
use Rattle.draft.proofs.parts.part_record.Given as goal

abbrev pub invariant-loop-quote : goal.invariant-loop-quote
invariant-loop-quote l = AllByRecursion Fits32 (take l.quote-index l.quote-items)
