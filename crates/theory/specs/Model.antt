-- The model of a project: its parts, which of them are apart, and its cut sets.
use Rattle.std.specs.Prelude.{◌≡◌, ℕ, ◌<◌, ◌≤◌, Bool, true, false, List, [], ◌∷◌, length}
use Rattle.std.specs.List.{AllByRecursion}
use Rattle.cost.specs.Totals.{Fits32}
use Rattle.theory.specs.declared.part.Part.{Part}

-- A minimal cut set: the level that it requires, and the numbers of its members.
pub record CutSet : Type 0 where
  pub required : ℕ
  pub members : List ℕ

-- Parts and sets are numbered from 0; `apart` says of two part numbers whether those parts are declared independent.
pub record Model : Type 0 where
  pub parts : List Part
  pub apart : ℕ → ℕ → Bool
  pub sets : List CutSet

-- A project begins without part, pair or set.
abbrev pub empty_model : Model
empty_model = record { parts = []; apart = λ a b. false; sets = [] }

-- Each number of a list is below the next.
abbrev pub Ascending : List ℕ → Type 0
Ascending [] = Unit {0}
Ascending (a ∷ []) = Unit {0}
Ascending (a ∷ b ∷ ms) = (a < b) × Ascending (b ∷ ms)

-- A sound part has its floor at most its ceiling, that at most 4, and five quotes of 32 bits.
pub record SoundPart (p : Part) : Type 0 where
  pub range : p.floor ≤ p.ceiling
  pub top : p.ceiling ≤ 4
  pub five : length p.quotes ≡ 5
  pub fit : AllByRecursion Fits32 p.quotes

-- A sound set, among n parts, requires level 1 to 4 of 1 to 8 standing members in strictly ascending order.
pub record SoundSet (n : ℕ) (s : CutSet) : Type 0 where
  pub some_level : 1 ≤ s.required
  pub top : s.required ≤ 4
  pub some_member : 1 ≤ length s.members
  pub few_members : length s.members ≤ 8
  pub standing : AllByRecursion (λ m. m < n) s.members
  pub ascending : Ascending s.members

-- A sound model has at most 64 parts and 128 sets, all sound; apart is symmetric, never of a part with itself, and only among standing parts.
pub record Sound (model : Model) : Type 0 where
  pub few_parts : length model.parts ≤ 64
  pub parts : AllByRecursion SoundPart model.parts
  pub symmetric : (a b : ℕ) → model.apart a b ≡ model.apart b a
  pub irreflexive : (a : ℕ) → model.apart a a ≡ false
  pub only_standing : (a b : ℕ) → model.apart a b ≡ true → (a < length model.parts) × (b < length model.parts)
  pub few_sets : length model.sets ≤ 128
  pub sets : AllByRecursion (SoundSet (length model.parts)) model.sets
