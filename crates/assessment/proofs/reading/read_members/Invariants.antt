use Rattle.assessment.specs.Scales.{level_names}
use Rattle.assessment.proofs.Listing.{Listed}
use Rattle.assessment.proofs.reading.read_members.Given as goal

abbrev pub invariant-loop-word : goal.invariant-loop-word
invariant-loop-word l = Listed (level_names l.standard) l.fn.words l.levels.items l.words
