use Rattle.std.proofs.Common.{arith}
use Rattle.assessment.proofs.Declaring.{both_bits_at, both_bits_below}
use Rattle.assessment.proofs.reading.declare.Goals as goal

pub returns : goal.returns
returns c = record {
  bits = λ k b _ hb. both_bits_at c.args.rows.now c.args.i c.args.j k b (omega arith) (omega arith) (omega arith) hb;
  bytes = both_bits_below c.args.rows.now c.args.i c.args.j (omega arith) (omega arith) (omega arith);
}
