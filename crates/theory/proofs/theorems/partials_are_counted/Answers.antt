use Rattle.theory.proofs.Listing.{partials_counted}
use Rattle.theory.proofs.theorems.partials_are_counted.Goals as goal

pub returns : goal.returns
returns c = partials_counted
