-- What a scale is asked, which questions are well-formed, and what every scale keeps. Assumes nothing.
use Rattle.std.specs.Prelude.{◌≡◌, ℕ, ◌<◌, ◌≤◌, Bool, true, false, ◌&&◌, List, length, ◌==◌, nat_le, nat_lt, slice_index}
use Rattle.std.specs.Int.{bit_at}
use Rattle.std.specs.List.{All, AllZip, list_all}

-- a yes or no for each question: a required level, the members' levels and a row for each member
abbrev pub Meaning : Type 0
Meaning = ℕ → List ℕ → List ℕ → Bool

-- bit j of a row, bit 0 being the lowest
abbrev pub bit : ℕ → ℕ → Bool
bit row j = bit_at row j == 1

-- members i and j are apart when each one's row has the other's bit
abbrev pub apart : List ℕ → ℕ → ℕ → Bool
apart rows i j = bit (slice_index rows i) j && bit (slice_index rows j) i

-- no number of a list is above a top
abbrev pub all_at_most : ℕ → List ℕ → Bool
all_at_most top = list_all (λ x. nat_le x top)

-- a well-formed question: levels up to 4, one to eight members, and a row of eight bits for each
abbrev pub formed : ℕ → List ℕ → List ℕ → Bool
formed required levels rows =
    nat_le required 4 && length levels == length rows && nat_lt 0 (length levels) && nat_le (length levels) 8
    && all_at_most 4 levels && all_at_most 255 rows

-- a scale's whole answer: the question is well-formed, and the scale's meaning says yes
abbrev pub answer : Meaning → ℕ → List ℕ → List ℕ → Bool
answer means required levels rows = formed required levels rows && means required levels rows

-- what every scale keeps for well-formed questions
pub record Laws (means : Meaning) : Type 0 where
  -- Raise: a set that is met stays met when any members' levels rise
  pub raise : (required : ℕ) (levels higher rows : List ℕ) → formed required levels rows ≡ true → formed required higher rows ≡ true → AllZip (λ low high. low ≤ high) levels higher → means required levels rows ≡ true → means required higher rows ≡ true
  -- Reach: a set whose members all have at least the required level is met
  pub reach : (required : ℕ) (levels rows : List ℕ) → formed required levels rows ≡ true → All (λ level. required ≤ level) levels → means required levels rows ≡ true
  -- Bottom: a set whose members are all at 0 does not meet a required level above 0
  pub bottom : (required : ℕ) (levels rows : List ℕ) → formed required levels rows ≡ true → All (λ level. level ≡ 0) levels → 0 < required → means required levels rows ≡ false

-- a well-formed question that requires level 0 is met
abbrev pub ZeroMet : Meaning → Type 0
ZeroMet means = (levels rows : List ℕ) → formed 0 levels rows ≡ true → answer means 0 levels rows ≡ true
