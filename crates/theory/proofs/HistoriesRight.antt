-- Where any history leads, the model is sound and what its edits bring, and a search then open is right. Assumes nothing.
use Rattle.std.proofs.Common.{◌≡◌, ℕ, ◌+◌, List, [], ◌∷◌, ◌++◌, sym, refl, ap, ◌∙◌, subst, add-zero}
use Rattle.std.specs.List.{AllByRecursion}
use Rattle.theory.specs.Model.{Model, empty_model, Sound}
use Rattle.theory.specs.Edits.{Edit, edit_model, edited_from}
use Rattle.theory.specs.Walks.{new_walk, work, told}
use Rattle.theory.specs.Promise.{Promised, Right}
use Rattle.theory.specs.Histories.{Catalogue, Lawful, Move, edit, start, grant, ask, back, Standing, draft, opened, HandedMove, moved, run, granted, edits_of, counting, model_of, SearchRight, HistoriesRight}
use Rattle.theory.proofs.Exactness.{search_exact}
use Rattle.theory.proofs.Soundness.{edit_sound, empty_sound}

pub edited_append : (model : Model) (es fs : List Edit) → edited_from model (es ++ fs) ≡ edited_from (edited_from model es) fs
edited_append model [] fs = refl
edited_append model (e ∷ es) fs = edited_append (edit_model model e) es fs

-- what is known of a standing: a sound model, and how a search came about
abbrev Known : {c : Catalogue} → ℕ → Standing c → Type 0
Known g (draft model) = Sound model
Known {c} g (opened model s r walk) = Sound model × (walk ≡ work (c.means s) (c.rule r) model g new_walk)

module _ {c : Catalogue} (lawful : Lawful c) where
  unmoved : (g : ℕ) (standing : Standing c) → Known g standing → Known (g + 0) standing
  unmoved g standing h = subst (λ n. Known n standing) (sym (add-zero g)) h

  after : (moves : List (Move c)) → AllByRecursion HandedMove moves → (g : ℕ) (standing : Standing c) → Known g standing → Known (granted g standing moves) (run standing moves)
  after [] handed g standing h = h
  after (edit e ∷ ms) handed g (draft model) h = after ms handed.1 0 (draft (edit_model model e)) (edit_sound model e handed.0 h)
  after (start s r ∷ ms) handed g (draft model) h = after ms handed.1 0 (opened model s r new_walk) (h, refl)
  after (grant k ∷ ms) handed g (draft model) h = after ms handed.1 0 (draft model) h
  after (ask n ∷ ms) handed g (draft model) h = after ms handed.1 0 (draft model) h
  after (back ∷ ms) handed g (draft model) h = after ms handed.1 0 (draft model) h
  after (edit e ∷ ms) handed g (opened model s r walk) h = after ms handed.1 (g + 0) (opened model s r walk) (unmoved g (opened model s r walk) h)
  after (start s' r' ∷ ms) handed g (opened model s r walk) h = after ms handed.1 (g + 0) (opened model s r walk) (unmoved g (opened model s r walk) h)
  after (grant k ∷ ms) handed g (opened model s r walk) h =
      let means = c.means s in
      let rule = c.rule r in
      after ms handed.1 (g + k) (opened model s r (work means rule model k walk))
      (h.0, ap (λ w. work means rule model k w) h.1 ∙ sym ((search_exact means (lawful.scales s) rule (lawful.rules r) model h.0).adds_up g k new_walk))
  after (ask n ∷ ms) handed g (opened model s r walk) h = after ms handed.1 (g + 0) (opened model s r walk) (unmoved g (opened model s r walk) h)
  after (back ∷ ms) handed g (opened model s r walk) h = after ms handed.1 (g + 0) (draft model) h.0

  known_sound : (g : ℕ) (standing : Standing c) → Known g standing → Sound (model_of standing)
  known_sound g (draft model) h = h
  known_sound g (opened model s r walk) h = h.0

  known_right : (g : ℕ) (standing : Standing c) → Known g standing → SearchRight g standing
  known_right g (draft model) h = tt
  known_right g (opened model s r walk) h =
      let means = c.means s in
      let rule = c.rule r in
      let exact = search_exact means (lawful.scales s) rule (lawful.rules r) model h.0 in
      (h.1, subst (λ w. Promised means rule model g (told means rule model w)) (sym h.1) (exact.promised g), subst (λ w. Right means rule model w) (sym h.1) (exact.right g))

module _ {c : Catalogue} where
  one_edit : (standing : Standing c) (m : Move c) → model_of (moved standing m) ≡ edited_from (model_of standing) (edits_of standing m)
  one_edit (draft model) (edit e) = refl
  one_edit (draft model) (start s r) = refl
  one_edit (draft model) (grant k) = refl
  one_edit (draft model) (ask n) = refl
  one_edit (draft model) back = refl
  one_edit (opened model s r walk) (edit e) = refl
  one_edit (opened model s r walk) (start s' r') = refl
  one_edit (opened model s r walk) (grant k) = refl
  one_edit (opened model s r walk) (ask n) = refl
  one_edit (opened model s r walk) back = refl

  pub by_counting : (standing : Standing c) (moves : List (Move c)) → model_of (run standing moves) ≡ edited_from (model_of standing) (counting standing moves)
  by_counting standing [] = refl
  by_counting standing (m ∷ ms) =
      by_counting (moved standing m) ms
      ∙ ap (λ model. edited_from model (counting (moved standing m) ms)) (one_edit standing m)
      ∙ sym (edited_append (model_of standing) (edits_of standing m) (counting (moved standing m) ms))

pub histories_right : (c : Catalogue) → HistoriesRight c
histories_right c lawful moves handed =
    let known = after lawful moves handed 0 (draft empty_model) empty_sound in
    record {
      sound = known_sound lawful (granted 0 (draft empty_model) moves) (run (draft empty_model) moves) known;
      by_edits = by_counting (draft empty_model) moves;
      search = known_right lawful (granted 0 (draft empty_model) moves) (run (draft empty_model) moves) known;
    }
