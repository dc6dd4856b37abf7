use Rattle.assessment.proofs.Declaring.{ReadSome}
use Rattle.assessment.proofs.reading.read_pairs.Given as goal

abbrev pub invariant-loop-word : goal.invariant-loop-word
invariant-loop-word l = ReadSome l.members l.fn.words l.rows l.word-iterator
