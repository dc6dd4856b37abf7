use Rattle.theory.proofs.Rows.{rows_right}
use Rattle.theory.proofs.theorems.rows_are_right.Goals as goal

pub returns : goal.returns
returns c = rows_right
