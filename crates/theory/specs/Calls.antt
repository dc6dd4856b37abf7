-- What each call does, told fault by fault and field by field: the laws that its definition keeps.
use Rattle.std.specs.Prelude.{◌≡◌, ℕ, suc, ◌<◌, ◌≤◌, Bool, false, ◌⊎◌, List, [], ◌∷◌, ◌++◌, length, Ok, Err, Option, ◌≢◌, slice_index_or}
use Rattle.std.specs.List.{AllByRecursion}
use Rattle.cost.specs.declared.quote.Quote.{Quote}
use Rattle.theory.specs.declared.part.Part.{Part}
use Rattle.theory.specs.Model.{CutSet, Model, Ascending, Sound}
use Rattle.theory.specs.Edits.{refuse, part_call, range_call, apart_call, cut_call, drop_call}
use Rattle.theory.specs.Walks.{Plan, running, settled, blocked, plan_call}

-- Adding a part.
pub record PartAdded (model : Model) (floor ceiling : ℕ) (quotes : List Quote) : Type 0 where
  pub full : 64 ≤ length model.parts → part_call model floor ceiling quotes ≡ refuse 1 model
  pub no_range : length model.parts < 64 → (4 < ceiling) ⊎ (ceiling < floor) → part_call model floor ceiling quotes ≡ refuse 2 model
  pub answers : length model.parts < 64 → floor ≤ ceiling → ceiling ≤ 4 → (part_call model floor ceiling quotes).0 ≡ Ok (length model.parts)
  pub parts : length model.parts < 64 → floor ≤ ceiling → ceiling ≤ 4 → (part_call model floor ceiling quotes).1.parts ≡ model.parts ++ (record { floor = floor; ceiling = ceiling; quotes = quotes } ∷ [])
  pub same_apart : (a b : ℕ) → (part_call model floor ceiling quotes).1.apart a b ≡ model.apart a b
  pub same_sets : (part_call model floor ceiling quotes).1.sets ≡ model.sets
  pub apart_from_none : Sound model → (b : ℕ) → (part_call model floor ceiling quotes).1.apart (length model.parts) b ≡ false

-- Changing a range: that one part's record and no other.
pub record RangeChanged (model : Model) (n floor ceiling : ℕ) : Type 0 where
  pub unknown : length model.parts ≤ n → range_call model n floor ceiling ≡ refuse 3 model
  pub no_range : n < length model.parts → (4 < ceiling) ⊎ (ceiling < floor) → range_call model n floor ceiling ≡ refuse 2 model
  pub answers : n < length model.parts → floor ≤ ceiling → ceiling ≤ 4 → (range_call model n floor ceiling).0 ≡ Ok tt
  pub changed : n < length model.parts → floor ≤ ceiling → ceiling ≤ 4 → (d : Part) → slice_index_or (range_call model n floor ceiling).1.parts n d ≡ record { floor = floor; ceiling = ceiling; quotes = (slice_index_or model.parts n d).quotes }
  pub others : (k : ℕ) (d : Part) → (k ≢ n) → slice_index_or (range_call model n floor ceiling).1.parts k d ≡ slice_index_or model.parts k d
  pub as_many : length (range_call model n floor ceiling).1.parts ≡ length model.parts
  pub same_apart : (a b : ℕ) → (range_call model n floor ceiling).1.apart a b ≡ model.apart a b
  pub same_sets : (range_call model n floor ceiling).1.sets ≡ model.sets

-- Declaring a pair, or taking its declaration back: that pair in either order, and no other.
pub record PairChanged (model : Model) (a b : ℕ) (value : Bool) : Type 0 where
  pub unknown : (length model.parts ≤ a) ⊎ (length model.parts ≤ b) → apart_call model a b value ≡ refuse 3 model
  pub itself : a < length model.parts → a ≡ b → apart_call model a b value ≡ refuse 4 model
  pub answers : a < length model.parts → b < length model.parts → (a ≢ b) → (apart_call model a b value).0 ≡ Ok tt
  pub changed : a < length model.parts → b < length model.parts → (a ≢ b) → ((apart_call model a b value).1.apart a b ≡ value) × ((apart_call model a b value).1.apart b a ≡ value)
  pub others : (x y : ℕ) → ((x ≡ a) × (y ≡ b) → ⊥) → ((x ≡ b) × (y ≡ a) → ⊥) → (apart_call model a b value).1.apart x y ≡ model.apart x y
  pub same_parts : (apart_call model a b value).1.parts ≡ model.parts
  pub same_sets : (apart_call model a b value).1.sets ≡ model.sets

-- Adding a set.
pub record SetAdded (model : Model) (required : ℕ) (members : List ℕ) : Type 0 where
  pub full : 128 ≤ length model.sets → cut_call model required members ≡ refuse 5 model
  pub no_level : length model.sets < 128 → (required ≡ 0) ⊎ (4 < required) → cut_call model required members ≡ refuse 6 model
  pub no_count : length model.sets < 128 → 1 ≤ required → required ≤ 4 → (length members ≡ 0) ⊎ (8 < length members) → cut_call model required members ≡ refuse 7 model
  pub unknown : length model.sets < 128 → 1 ≤ required → required ≤ 4 → 1 ≤ length members → length members ≤ 8 → (AllByRecursion (λ m. m < length model.parts) members → ⊥) → cut_call model required members ≡ refuse 3 model
  pub unsorted : length model.sets < 128 → 1 ≤ required → required ≤ 4 → 1 ≤ length members → length members ≤ 8 → AllByRecursion (λ m. m < length model.parts) members → (Ascending members → ⊥) → cut_call model required members ≡ refuse 8 model
  pub answers : length model.sets < 128 → 1 ≤ required → required ≤ 4 → 1 ≤ length members → length members ≤ 8 → AllByRecursion (λ m. m < length model.parts) members → Ascending members → (cut_call model required members).0 ≡ Ok (length model.sets)
  pub sets : length model.sets < 128 → 1 ≤ required → required ≤ 4 → 1 ≤ length members → length members ≤ 8 → AllByRecursion (λ m. m < length model.parts) members → Ascending members → (cut_call model required members).1.sets ≡ model.sets ++ (record { required = required; members = members } ∷ [])
  pub same_parts : (cut_call model required members).1.parts ≡ model.parts
  pub same_apart : (a b : ℕ) → (cut_call model required members).1.apart a b ≡ model.apart a b

-- Dropping a set: each later one moves down by one number.
pub record SetDropped (model : Model) (n : ℕ) : Type 0 where
  pub unknown : length model.sets ≤ n → drop_call model n ≡ refuse 9 model
  pub answers : n < length model.sets → (drop_call model n).0 ≡ Ok tt
  pub one_fewer : n < length model.sets → suc (length (drop_call model n).1.sets) ≡ length model.sets
  pub before : (k : ℕ) (d : CutSet) → k < n → slice_index_or (drop_call model n).1.sets k d ≡ slice_index_or model.sets k d
  pub later : n < length model.sets → (k : ℕ) (d : CutSet) → n ≤ k → slice_index_or (drop_call model n).1.sets k d ≡ slice_index_or model.sets (suc k) d
  pub same_parts : (drop_call model n).1.parts ≡ model.parts
  pub same_apart : (a b : ℕ) → (drop_call model n).1.apart a b ≡ model.apart a b

-- Asking a settled walk for its plan, of as many levels as there are parts.
pub record PlanCopied {A : Type 0} (best : Plan A) (buffer : List ℕ) : Type 0 where
  pub short : length buffer < length best.levels → plan_call (length best.levels) (settled best) buffer ≡ (Err 11, buffer)
  pub answers : length best.levels ≤ length buffer → (plan_call (length best.levels) (settled best) buffer).0 ≡ Ok (length best.levels)
  pub front : length best.levels ≤ length buffer → (k d : ℕ) → k < length best.levels → slice_index_or (plan_call (length best.levels) (settled best) buffer).1 k d ≡ slice_index_or best.levels k d
  pub untouched : (k d : ℕ) → length best.levels ≤ k → slice_index_or (plan_call (length best.levels) (settled best) buffer).1 k d ≡ slice_index_or buffer k d
  pub as_long : length (plan_call (length best.levels) (settled best) buffer).1 ≡ length buffer

-- All of it, for every input.
pub record CallsRight (A : Type 0) : Type 0 where
  pub part : (model : Model) (floor ceiling : ℕ) (quotes : List Quote) → PartAdded model floor ceiling quotes
  pub range : (model : Model) (n floor ceiling : ℕ) → RangeChanged model n floor ceiling
  pub pair : (model : Model) (a b : ℕ) (value : Bool) → PairChanged model a b value
  pub cut : (model : Model) (required : ℕ) (members : List ℕ) → SetAdded model required members
  pub drop_set : (model : Model) (n : ℕ) → SetDropped model n
  pub plan : (best : Plan A) (buffer : List ℕ) → PlanCopied best buffer
  -- a walk that is not settled has no plan
  pub no_plan_running : (n : ℕ) (path : List ℕ) (best : Option (Plan A)) (buffer : List ℕ) → plan_call n (running path best) buffer ≡ (Err 10, buffer)
  pub no_plan_blocked : (n k : ℕ) (buffer : List ℕ) → plan_call {A = A} n (blocked k) buffer ≡ (Err 10, buffer)
