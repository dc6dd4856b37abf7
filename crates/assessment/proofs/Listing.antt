-- The levels of the members, as the words before the slash are read one after another. Assumes nothing.
use Rattle.std.proofs.Common.{◌≡◌, ℕ, ◌≤◌, List, ◌++◌, length, Option}
use Rattle.text.specs.Text.{Word}
use Rattle.assessment.specs.Reading.{and_then, up_to_slash, one_to_eight, read_members}

-- what comes of the words that are left, once some levels are read
abbrev later : List ℕ → Option (List ℕ × List Word) → Option (List ℕ × List Word)
later seen rest = and_then rest (λ found. one_to_eight (seen ++ found.0, found.1))

-- some levels are read, and the words `left` are not
pub record Listed (names words : List Word) (seen : List ℕ) (left : List Word) : Type 0 where
  pub few : length seen ≤ 8
  pub reads : read_members names words ≡ later seen (up_to_slash names left)
