use Rattle.theory.proofs.HistoriesRight.{histories_right}
use Rattle.theory.proofs.theorems.histories_are_right.Goals as goal

pub returns : goal.returns
returns g c = histories_right _
