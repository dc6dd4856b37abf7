use Rattle.draft.proofs.Lent.{lent_entry}
use Rattle.draft.proofs.draft.Draft.part_at.Goals as goal

pub returns : goal.returns
returns c = let lent = lent_entry c.parts.result.now c.args.number c.get.result c.get.ensures.lookup in cc
