-- How a cut set is stored: its members in the first of eight places, and 0 in the others.
use Rattle.std.specs.Prelude.{◌≡◌, ℕ, ◌-◌, ◌≤◌, List, ◌++◌, length, take, replicate}
use Rattle.std.proofs.Common.{sym, length-take-le, arith}
use Rattle.theory.specs.Model.{CutSet}
use Rattle.draft.specs.declared.cut_set.CutSet.TheInside.{Inside}

-- The eight places of a list of members.
abbrev pub places : List ℕ → List ℕ
places members = members ++ replicate (8 - length members) 0

-- The first of the eight places hold the members, and the others 0.
pub record Filled (set : Inside) : Type 0 where
  pub few : set.count ≤ 8
  pub eight : length set.members ≡ 8
  pub rest : set.members ≡ places (take set.count set.members)

-- A set of the model, stored.
abbrev pub stored_set : CutSet → Inside
stored_set set = record { required = set.required; count = length set.members; members = places set.members }

-- What is stored of a set that was stored is that set, place for place.
pub stored_view : (set : Inside) → Filled set → stored_set (record { required = set.required; members = take set.count set.members }) ≡ set
stored_view set filled =
    let count : length (take set.count set.members) ≡ set.count = length-take-le set.count set.members (omega (arith, filled.few, filled.eight)) in
    λ i. record { required = set.required; count = count i; members = sym filled.rest i }
