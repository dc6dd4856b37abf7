use Rattle.theory.proofs.Exactness.{search_exact}
use Rattle.theory.proofs.theorems.search_is_exact.Goals as goal

pub returns : goal.returns
returns g c = search_exact
