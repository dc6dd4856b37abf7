-- How an assessment is printed. Assumes nothing.
use Rattle.std.specs.Prelude.{ℕ, List, codes}
use Rattle.assessment.specs.declared.Assessment.{Assessment}
use Rattle.assessment.specs.declared.Assessment.TheVariants.{Met, NotMet, Refused}

-- the text of an assessment
abbrev pub text_of : Assessment → List ℕ
text_of Met = codes "met"
text_of NotMet = codes "not met"
text_of Refused = codes "refused"
