-- The scales of the two standards by the words that name them. Assumes nothing.
use Rattle.std.specs.Prelude.{◌≡◌, if◌then◌else◌, Some, None, codes, Option}
use Rattle.std.specs.Str.{bytes_eq}
use Rattle.either.specs.declared.Either.{Either}
use Rattle.either.specs.declared.Either.TheVariants.{Left, Right}
use Rattle.asil.specs.declared.groups.Asil.{Asil}
use Rattle.dal.specs.declared.options.Dal.{Dal}
use Rattle.standard.specs.Letters.{Word}

-- a scale of one of the two standards
abbrev pub Standard : Type 0
Standard = Either Asil Dal

abbrev pub automotive : Standard
automotive = Left (record {})

abbrev pub avionics : Standard
avionics = Right (record {})

-- the word that names a standard's scale
abbrev pub standard_word : Standard → Word
standard_word (Left a) = codes "asil"
standard_word (Right d) = codes "dal"

-- the scale that a word names, or none
abbrev pub standard_of : Word → Option Standard
standard_of word = if bytes_eq word (codes "asil") then Some automotive else if bytes_eq word (codes "dal") then Some avionics else None

-- the word that names a scale is read as that scale, and a word that is read as a scale names it
pub record WordsInverse : Type 0 where
  pub reads_word : (standard : Standard) → standard_of (standard_word standard) ≡ Some standard
  pub names_read : (word : Word) (standard : Standard) → standard_of word ≡ Some standard → standard_word standard ≡ word
