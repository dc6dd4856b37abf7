use Rattle.scale.proofs.Consequences.{zero_met}
use Rattle.scale.proofs.scale.zero_is_met.Goals as goal

pub returns : goal.returns
returns g c = zero_met (g.met.S.Scale.laws c.args.scale.now)
