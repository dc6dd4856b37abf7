-- What follows of a draft's soundness, and of an edit that leaves what its definition says. Assumes nothing.
use Rattle.std.proofs.Common.{◌≡◌, ℕ, ◌≤◌, true, false, length, [], ◌∷◌, sym, ap, ◌∙◌, subst, ⊎_elim, arith}
use Rattle.std.proofs.lemmas.Bool.{cases_Bool}
use Rattle.theory.specs.Model.{Model, empty_model, Sound}
use Rattle.theory.specs.Edits.{Edit, edit_model, Handed}
use Rattle.theory.proofs.Soundness.{edit_sound}
use Rattle.theory.proofs.HistoriesRight.{edited_append}
use Rattle.draft.specs.declared.draft.Draft.{Draft}
use Rattle.draft.specs.Drafts.{model, Brings}

-- every draft's model is sound
pub draft_sound : (d : Draft) → Sound (model d)
draft_sound d = d.sound

-- what does not stand yet is apart from none
pub none_yet : (d : Draft) (n : ℕ) → length (model d).parts ≤ n → (b : ℕ) → (model d).apart n b ≡ false
none_yet d n past b = ⊎_elim
    (λ (t : (model d).apart n b ≡ true). absurd (let w = d.sound.only_standing n b t in omega (arith, past, w.0)))
    (λ (t : (model d).apart n b ≡ false). t)
    (cases_Bool ((model d).apart n b))

-- it continues a history
pub brings : (before after : Model) (e : Edit) → after ≡ edit_model before e → Brings before e after
brings before after e does edits from = does ∙ ap (λ m. edit_model m e) from ∙ sym (edited_append empty_model edits (e ∷ []))

-- and it keeps a draft sound
pub sound_after : (d : Draft) (e : Edit) → Handed e → (m : Model) → m ≡ edit_model (model d) e → Sound m
sound_after d e handed m does = subst Sound (sym does) (edit_sound (model d) e handed (draft_sound d))
