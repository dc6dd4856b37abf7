-- What the scale of each of the two standards calls its levels, and what it means. Assumes nothing.
use Rattle.std.specs.Prelude.{List}
use Rattle.asil.specs.Groups.{asil_test}
use Rattle.dal.specs.Options.{dal_test}
use Rattle.standard.specs.Letters.{Word, asil_names, dal_names}
use Rattle.scale.specs.Question.{Meaning}
use Rattle.either.specs.Either.{either}
use Rattle.standard.specs.Standards.{Standard}

-- the names of a standard's levels, from 0 up
abbrev pub level_names : Standard → List Word
level_names = either (λ _. asil_names) (λ _. dal_names)

-- the meaning of a standard's scale
abbrev pub meaning_of : Standard → Meaning
meaning_of = either (λ _. asil_test) (λ _. dal_test)
