-- What the laws give of amounts and of the costs of lists of quotes.
use Rattle.std.proofs.Common.{◌≡◌, ℕ, ◌+◌, ◌<◌, ◌≤◌, Bool, true, List, [], ◌∷◌, ◌++◌, length, get_or, take, drop, sym, ap, ◌∙◌, subst, ⊎_elim}
use Rattle.std.proofs.lemmas.List.{take_all, take-append-drop}
use Rattle.std.proofs.lemmas.List.Sums.{fold-append, fold_more}
use Rattle.std.proofs.lemmas.Bool.{both_ways}
use Rattle.cost.specs.declared.quote.Quote.{Quote}
use Rattle.cost.specs.Laws.{AtMost, CostLaws}
use Rattle.cost.specs.Totals.{cost_of}

-- Quotes are joined from left to right, so a list can be joined in two parts.
pub cost_of_append : {Amount : Type 0} (joined : Amount → Quote → Amount) (a : Amount) (front back : List Quote) → cost_of joined a (front ++ back) ≡ cost_of joined (cost_of joined a front) back
cost_of_append joined a front back = fold-append joined a front back

-- One turn of a loop that joins each quote in order.
pub cost_of_more : {Amount : Type 0} (joined : Amount → Quote → Amount) (a b c : Amount) (quotes : List Quote) (i : ℕ) (d : Quote) → i < length quotes → b ≡ cost_of joined a (take i quotes) → c ≡ joined b (get_or quotes i d) → c ≡ cost_of joined a (take (i + 1) quotes)
cost_of_more joined a b c quotes i d h before now = now ∙ ap (λ m. joined m (get_or quotes i d)) before ∙ sym (fold_more joined a quotes i d h)

-- Its end.
pub cost_of_all : {Amount : Type 0} (joined : Amount → Quote → Amount) (a b : Amount) (quotes : List Quote) (i : ℕ) → length quotes ≤ i → b ≡ cost_of joined a (take i quotes) → b ≡ cost_of joined a quotes
cost_of_all joined a b quotes i h e = e ∙ ap (cost_of joined a) (take_all i quotes h)

module _ {Amount : Type 0} {joined : Amount → Quote → Amount} {less : Amount → Amount → Bool} (laws : CostLaws joined less) where
  pub at_most_itself : (a : Amount) → AtMost less a a
  at_most_itself a = ⊎_elim (λ h. h) (λ h. h) (laws.either a a)

  pub less_at_most : (a b : Amount) → less a b ≡ true → AtMost less a b
  less_at_most a b e = ⊎_elim (λ h. h) (λ h. absurd (both_ways (less a b) h e)) (laws.either a b)

  -- Joining quotes never makes an amount less.
  pub cost_of_grows : (a : Amount) (quotes : List Quote) → AtMost less a (cost_of joined a quotes)
  cost_of_grows a [] = at_most_itself a
  cost_of_grows a (quote ∷ quotes) = laws.transitive a (joined a quote) (cost_of joined (joined a quote) quotes) (laws.grows a quote) (cost_of_grows (joined a quote) quotes)

  -- A longer list costs at least what its front costs.
  pub cost_of_front : (a : Amount) (front back : List Quote) → AtMost less (cost_of joined a front) (cost_of joined a (front ++ back))
  cost_of_front a front back = subst (AtMost less (cost_of joined a front)) (sym (cost_of_append joined a front back)) (cost_of_grows (cost_of joined a front) back)

  -- The same of the first n quotes.
  pub cost_of_take : (a : Amount) (n : ℕ) (quotes : List Quote) → AtMost less (cost_of joined a (take n quotes)) (cost_of joined a quotes)
  cost_of_take a n quotes = subst (λ (qs : List Quote). AtMost less (cost_of joined a (take n quotes)) (cost_of joined a qs)) (take-append-drop n quotes) (cost_of_front a (take n quotes) (drop n quotes))
