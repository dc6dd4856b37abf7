use Rattle.std.proofs.Common.{arith}
use Rattle.search.proofs.Asked.{bit_value, row_small, row_more}
use Rattle.search.proofs.rows.row_of.Goals as goal

pub overflow_add-bits : goal.overflow_add-bits
overflow_add-bits c = grind (arith, bit_value, row_small)

pub loop-j-preserved : goal.loop-j-preserved
loop-j-preserved c = grind (arith, bit_value, row_more, c.loop-j.invariant)
