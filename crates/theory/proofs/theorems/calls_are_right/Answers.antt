use Rattle.theory.proofs.CallsRight.{calls_right}
use Rattle.theory.proofs.theorems.calls_are_right.Goals as goal

pub returns : goal.returns
returns g c = calls_right _
