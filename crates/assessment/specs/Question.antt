-- A question in the words of the format, the line that writes it, and what a line asks. Assumes nothing.
use Rattle.std.specs.Prelude.{◌≡◌, ℕ, ◌+◌, ◌<◌, ◌≤◌, Bool, ◌⊎◌, List, [], ◌∷◌, ◌++◌, map, length, codes, IsTrue, ◌↔◌, ◌≢◌, slice_index}
use Rattle.std.specs.Option.{unwrap_or}
use Rattle.std.specs.List.{Contains, AllByRecursion}
use Rattle.standard.specs.Letters.{printed}
use Rattle.scale.specs.Question.{bit, answer}
use Rattle.standard.specs.Standards.{Standard, standard_word}
use Rattle.text.specs.Text.{Word, unwords}
use Rattle.assessment.specs.Scales.{level_names, meaning_of}

-- two members by their numbers, from 0 up
abbrev pub Pair : Type 0
Pair = ℕ × ℕ

-- a question: whether the members of a cut set meet the level that the set requires
pub record Question : Type 0 where
  -- the standard on whose scale the levels are
  pub standard : Standard
  -- the required level
  pub required : ℕ
  -- the members' levels
  pub members : List ℕ
  -- the pairs of members that are independent
  pub pairs : List Pair

-- levels up to 4, one to eight members, and each pair two different members
pub record WellFormed (question : Question) : Type 0 where
  pub top : question.required ≤ 4
  pub levels : AllByRecursion (λ level. level ≤ 4) question.members
  pub some : 0 < length question.members
  pub few : length question.members ≤ 8
  pub different : AllByRecursion (λ pair. (pair.0 < length question.members) × (pair.1 < length question.members) × (pair.0 ≢ pair.1)) question.pairs

-- the name of a level, which every level up to 4 has
abbrev pub level_word : Standard → ℕ → Word
level_word standard level = unwrap_or (printed (level_names standard) level) []

-- the digit of a number below ten
abbrev pub digit : ℕ → ℕ
digit n = 48 + n

-- the digits of two members with a dash (byte 45) between them
abbrev pub pair_word : Pair → Word
pair_word pair = digit pair.0 ∷ 45 ∷ digit pair.1 ∷ []

-- the words of a question: the scale's, the required level's, the members', the slash, and the pairs'
abbrev pub words : Question → List Word
words question =
    standard_word question.standard ∷ level_word question.standard question.required
    ∷ (map (level_word question.standard) question.members ++ codes "/" ∷ map pair_word question.pairs)

-- the line that writes a question: its words with single spaces between them
abbrev pub render : Question → List ℕ
render question = unwords (words question)

-- members i and k are declared independent, in either order
abbrev pub Declared : List Pair → ℕ → ℕ → Type 0
Declared pairs i k = Contains pairs (i, k) ⊎ Contains pairs (k, i)

-- a row of eight bits for each of n members, where bit k of row i is set exactly when i and k are declared independent
pub record Declares (pairs : List Pair) (n : ℕ) (rows : List ℕ) : Type 0 where
  pub each : length rows ≡ n
  pub bytes : (i : ℕ) → i < n → slice_index rows i < 256
  pub bits : (i k : ℕ) → i < n → k < 8 → IsTrue (bit (slice_index rows i) k) ↔ Declared pairs i k

-- a line writes a well-formed question, which its scale answers with yes (true) or no (false)
pub record Asks (line : List ℕ) (met : Bool) : Type 0 where
  pub question : Question
  pub well_formed : WellFormed question
  pub rendered : line ≡ render question
  pub rows : List ℕ
  pub declares : Declares question.pairs (length question.members) rows
  pub answered : answer (meaning_of question.standard) question.required question.members rows ≡ met

-- a line writes no well-formed question
abbrev pub AsksNothing : List ℕ → Type 0
AsksNothing line = (question : Question) → WellFormed question → line ≢ render question
