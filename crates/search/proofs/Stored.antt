-- The sets that a draft lends are those of its model. Assumes nothing.
use Rattle.std.proofs.Common.{◌≡◌, ℕ, ◌<◌, ◌≤◌, List, length, get_or, sym, ap, ◌∙◌, subst, arith}
use Rattle.std.proofs.ByRecursion.{All-get_or}
use Rattle.std.proofs.lemmas.List.{get_or_default}
use Rattle.theory.specs.Model.{CutSet, Model, SoundSet, Sound}

module _ (m : Model) (sound : Sound m) (xs : List CutSet) (value : xs ≡ m.sets) where
  pub sets_count : length xs ≡ length m.sets
  sets_count = ap length value

  pub sets_few : length xs ≤ 128
  sets_few = omega (arith, sets_count, sound.few_sets)

  module _ (i : ℕ) (s : CutSet) (within : i < length xs) (is : s ≡ get_or xs i s) where
    pub set_at : (d : CutSet) → get_or m.sets i d ≡ s
    set_at d = sym (ap (λ ss. get_or ss i d) value) ∙ get_or_default xs i d s within ∙ sym is

    pub set_sound : SoundSet (length m.parts) s
    set_sound = subst (SoundSet (length m.parts)) (set_at s) (All-get_or (SoundSet (length m.parts)) m.sets i s (omega (arith, sets_count)) sound.sets)
