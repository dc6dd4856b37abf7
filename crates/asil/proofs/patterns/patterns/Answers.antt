use Rattle.std.proofs.Common.{refl}
use Rattle.asil.proofs.Cover.{covers_by_tests, met_by_patterns}
use Rattle.asil.proofs.patterns.patterns.Goals as goal

pub returns : goal.returns
returns c = record { rows = refl; covers = covers_by_tests _ refl refl; met = met_by_patterns _ (covers_by_tests _ refl refl) }
