-- Partial allocations: paths with levels inside the ranges, the empty and the complete ones counted; their listing and their number.
use Rattle.std.specs.Prelude.{◌≡◌, ℕ, zero, suc, ◌+◌, ◌-◌, ◌*◌, ◌≤◌, ◌↔◌, List, [], ◌∷◌, ◌++◌, map, length, take}
use Rattle.std.specs.List.{Contains, AllByRecursion}
use Rattle.theory.specs.declared.part.Part.{Part}
use Rattle.theory.specs.Model.{SoundPart}

-- A partial allocation of some parts.
abbrev pub Partial : List Part → List ℕ → Type 0
Partial ps [] = Unit {0}
Partial [] (l ∷ ls) = ⊥
Partial (p ∷ ps) (l ∷ ls) = (p.floor ≤ l) × (l ≤ p.ceiling) × Partial ps ls

-- How many levels a part can have.
abbrev pub width : Part → ℕ
width p = p.ceiling - p.floor + 1

-- The number of partial allocations: the empty one, and for each level of the first part those of the others.
abbrev pub partials : List Part → ℕ
partials [] = 1
partials (p ∷ ps) = 1 + width p * partials ps

-- Each of some paths with each of n levels, from l up, put before it.
abbrev pub each_level : ℕ → ℕ → List (List ℕ) → List (List ℕ)
each_level l zero paths = []
each_level l (suc n) paths = map (λ path. l ∷ path) paths ++ each_level (suc l) n paths

-- All partial allocations.
abbrev pub listing : List Part → List (List ℕ)
listing [] = [] ∷ []
listing (p ∷ ps) = [] ∷ each_level p.floor (width p) (listing ps)

-- No entry of a list stands in it twice.
abbrev pub EachOnce : {X : Type 0} → List X → Type 0
EachOnce [] = Unit {0}
EachOnce (x ∷ xs) = (Contains xs x → ⊥) × EachOnce xs

-- The number of allocations of some parts.
abbrev pub choices : List Part → ℕ
choices [] = 1
choices (p ∷ ps) = width p * choices ps

-- f 0 + f 1 + .. + f n
abbrev pub sum_to : ℕ → (ℕ → ℕ) → ℕ
sum_to zero f = f 0
sum_to (suc n) f = sum_to n f + f (suc n)

-- The listing has exactly the partial allocations, each once; their number is its length, and the sum over m of the allocations of the first m parts.
pub record Counted (parts : List Part) : Type 0 where
  pub exactly : (path : List ℕ) → (Contains (listing parts) path ↔ Partial parts path)
  pub once : EachOnce (listing parts)
  pub long : length (listing parts) ≡ partials parts
  pub formula : partials parts ≡ sum_to (length parts) (λ m. choices (take m parts))

-- That holds of any sound parts.
abbrev pub PartialsCounted : Type 0
PartialsCounted = (parts : List Part) → AllByRecursion SoundPart parts → Counted parts
