-- A model is sound in one way at most, so that a draft's type can hold that its project is.
use Rattle.std.specs.Prelude.{ℕ, List, [], ◌∷◌}
use Rattle.std.specs.List.{AllByRecursion-prop}
use Rattle.std.specs.Coded.{×_prop, Unit-prop, le_prop, Coded-set, coded_ℕ, coded_bool}
use Rattle.cost.specs.Totals.{Fits32}
use Rattle.theory.specs.declared.part.Part.{Part}
use Rattle.theory.specs.Model.{CutSet, Model, Ascending, SoundPart, SoundSet, Sound}

SoundPart-prop : (p : Part) → IsProp (SoundPart p)
SoundPart-prop p x y = λ i. record {
  range = le_prop x.range y.range i;
  top = le_prop x.top y.top i;
  five = Coded-set coded_ℕ _ _ x.five y.five i;
  fit = AllByRecursion-prop Fits32 (λ quote. ×_prop le_prop le_prop) p.quotes x.fit y.fit i;
}

Ascending-prop : (ms : List ℕ) → IsProp (Ascending ms)
Ascending-prop [] = Unit-prop
Ascending-prop (a ∷ []) = Unit-prop
Ascending-prop (a ∷ b ∷ ms) = ×_prop le_prop (Ascending-prop (b ∷ ms))

SoundSet-prop : (n : ℕ) (s : CutSet) → IsProp (SoundSet n s)
SoundSet-prop n s x y = λ i. record {
  some_level = le_prop x.some_level y.some_level i;
  top = le_prop x.top y.top i;
  some_member = le_prop x.some_member y.some_member i;
  few_members = le_prop x.few_members y.few_members i;
  standing = AllByRecursion-prop _ (λ m. le_prop) s.members x.standing y.standing i;
  ascending = Ascending-prop s.members x.ascending y.ascending i;
}

pub Sound-prop : (m : Model) → IsProp (Sound m)
Sound-prop m x y = λ i. record {
  few_parts = le_prop x.few_parts y.few_parts i;
  parts = AllByRecursion-prop SoundPart SoundPart-prop m.parts x.parts y.parts i;
  symmetric = λ a b. Coded-set coded_bool _ _ (x.symmetric a b) (y.symmetric a b) i;
  irreflexive = λ a. Coded-set coded_bool _ _ (x.irreflexive a) (y.irreflexive a) i;
  only_standing = λ a b h. ×_prop le_prop le_prop (x.only_standing a b h) (y.only_standing a b h) i;
  few_sets = le_prop x.few_sets y.few_sets i;
  sets = AllByRecursion-prop (SoundSet _) (SoundSet-prop _) m.sets x.sets y.sets i;
}
