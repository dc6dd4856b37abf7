-- The letters of the levels: how a level is printed, and how a word is read as a level. Assumes nothing.
use Rattle.std.specs.Prelude.{◌≡◌, ℕ, zero, suc, ◌<◌, ◌≤◌, if◌then◌else◌, List, [], ◌∷◌, length, is_some, Some, None, codes, Option, nat_le}
use Rattle.std.specs.Option.{option_map}
use Rattle.std.specs.List.{AllByRecursion}
use Rattle.std.specs.Str.{bytes_eq}

-- the bytes of a word
abbrev pub Word : Type 0
Word = List ℕ

-- the names of a scale's levels, from 0 up
abbrev pub asil_names : List Word
asil_names = codes "QM" ∷ codes "A" ∷ codes "B" ∷ codes "C" ∷ codes "D" ∷ []

abbrev pub dal_names : List Word
dal_names = codes "E" ∷ codes "D" ∷ codes "C" ∷ codes "B" ∷ codes "A" ∷ []

-- what is printed of a level: its name, or none where there is no such level
abbrev pub printed : List Word → ℕ → Option Word
printed [] level = None
printed (name ∷ names) zero = Some name
printed (name ∷ names) (suc level) = printed names level

-- what a word is read as: the level whose name it is, or none
abbrev pub read_level : List Word → Word → Option ℕ
read_level [] word = None
read_level (name ∷ names) word = if bytes_eq word name then Some 0 else option_map suc (read_level names word)

-- a capital letter
abbrev pub Capital : ℕ → Type 0
Capital c = (65 ≤ c) × (c ≤ 90)

-- what every scale's names keep
pub record Spelling (names : List Word) : Type 0 where
  -- there is a name for each level up to 4, and for no other
  pub five : (level : ℕ) → is_some (printed names level) ≡ nat_le level 4
  -- what is printed of a level is read as that level
  pub reads_printed : (level : ℕ) (word : Word) → printed names level ≡ Some word → read_level names word ≡ Some level
  -- a word that is read as a level is what is printed of it
  pub prints_read : (word : Word) (level : ℕ) → read_level names word ≡ Some level → printed names level ≡ Some word
  -- a name is one or more capital letters, so that it can stand as a word of a line
  pub plain : AllByRecursion (λ name. (0 < length name) × AllByRecursion Capital name) names
