-- The decomposition patterns, what can be split by them, and how they agree with the automotive scale. Assumes nothing.
use Rattle.std.specs.Prelude.{ℕ, ◌<◌, ◌≤◌, ◌↔◌, IsTrue, Bool, ◌⊎◌, List, [], ◌∷◌, ◌++◌, length}
use Rattle.std.specs.List.{AllZip, Contains}
use Rattle.scale.specs.Question.{formed, answer}
use Rattle.asil.specs.Groups.{total, chosen, Group, asil_test}

-- a pattern: a required level, and the two levels that it is split into
abbrev pub Row : Type 0
Row = ℕ × ℕ × ℕ

-- the nine patterns
abbrev pub nine_rows : List Row
nine_rows = (4, 4, 0) ∷ (4, 3, 1) ∷ (4, 2, 2) ∷ (3, 3, 0) ∷ (3, 2, 1) ∷ (2, 2, 0) ∷ (2, 1, 1) ∷ (1, 1, 0) ∷ (0, 0, 0) ∷ []

-- a pattern of the table is usable in either order
abbrev pub Allows : List Row → ℕ → ℕ → ℕ → Type 0
Allows table required first second = Contains table (required, first, second) ⊎ Contains table (required, second, first)

-- one entry of a list, at any place, is split by a pattern
pub data Split (table : List Row) : List ℕ → List ℕ → Type 0 where
  at : (front back : List ℕ) (required first second : ℕ) → Allows table required first second → Split table (front ++ required ∷ back) (front ++ first ∷ second ∷ back)

-- entries are split none or more times
pub data Splits (table : List Row) : List ℕ → List ℕ → Type 0 where
  none : (parts : List ℕ) → Splits table parts parts
  more : {before after parts : List ℕ} → Split table before after → Splits table after parts → Splits table before parts

-- levels cover a required level: it splits into one entry for each level, and no entry is above its level
abbrev pub Covers : List Row → List ℕ → ℕ → Type 0
Covers table levels required = (parts : List ℕ) × (Splits table (required ∷ []) parts) × (AllZip (λ part level. part ≤ level) parts levels)

-- one or more levels cover a required level exactly when their sum is enough
abbrev pub CoversBySum : List Row → Type 0
CoversBySum table = (levels : List ℕ) (required : ℕ) → 0 < length levels → required ≤ 4 → (Covers table levels required ↔ (required ≤ total levels))

-- some group's levels cover the required level
abbrev pub GroupCovers : List Row → ℕ → List ℕ → List ℕ → Type 0
GroupCovers table required levels rows = (c : ℕ → Bool) × Group rows (length levels) c × Covers table (chosen c 0 levels) required

-- the automotive scale answers met exactly when the question is well-formed and some group covers
abbrev pub MetByPatterns : List Row → Type 0
MetByPatterns table = (required : ℕ) (levels rows : List ℕ) → (IsTrue (answer asil_test required levels rows) ↔ (IsTrue (formed required levels rows) × GroupCovers table required levels rows))
