-- What the laws of a cost rule give of paths. Assumes nothing.
use Rattle.std.proofs.Common.{◌≡◌, ℕ, List, [], ◌∷◌, ◌++◌, sym, refl, ap, ◌∙◌, subst, ⊎_elim}
use Rattle.cost.specs.declared.quote.Quote.{Quote}
use Rattle.cost.specs.Laws.{AtMost, CostLaws}
use Rattle.cost.specs.Totals.{cost_of}
use Rattle.cost.proofs.Amounts.{cost_of_front}
use Rattle.theory.specs.declared.part.Part.{Part}
use Rattle.theory.specs.Model.{Model}
use Rattle.theory.specs.Allocations.{Rule, quote_at, chosen_quotes, cost}
use Rattle.theory.proofs.Order.{Extends}

-- the quotes of what begins with a path begin with the path's
more_quotes : (ps : List Part) (path x : List ℕ) → Extends path x → (rest : List Quote) × (chosen_quotes ps x ≡ chosen_quotes ps path ++ rest)
more_quotes ps [] x h = (chosen_quotes ps x, refl)
more_quotes ps (l ∷ ls) [] h = absurd h
more_quotes [] (l ∷ ls) (x ∷ xs) h = ([], refl)
more_quotes (p ∷ ps) (l ∷ ls) (x ∷ xs) h =
    let later = more_quotes ps ls xs h.1 in
    (later.0, ap (λ (m : ℕ). quote_at p m ∷ chosen_quotes ps xs) h.0 ∙ ap (λ (qs : List Quote). quote_at p l ∷ qs) later.1)

module _ {A : Type 0} (rule : Rule A) (laws : CostLaws rule.joined rule.lesser) where
  -- what is not at most another is at least it
  pub at_most_other : (a b : A) → (AtMost rule.lesser b a → ⊥) → AtMost rule.lesser a b
  at_most_other a b h = ⊎_elim (λ e. e) (λ e. absurd (h e)) (laws.either a b)

  -- a path costs at most what begins with it
  pub extends_grows : (model : Model) (path x : List ℕ) → Extends path x → AtMost rule.lesser (cost rule model path) (cost rule model x)
  extends_grows model path x h =
      let later = more_quotes model.parts path x h in
      subst (λ (qs : List Quote). AtMost rule.lesser (cost rule model path) (cost_of rule.joined rule.begins qs)) (sym later.1)
      (cost_of_front laws rule.begins (chosen_quotes model.parts path) later.0)
