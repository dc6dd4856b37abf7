use Rattle.std.proofs.Common.{List, [], ◌∷◌, rules, ◌≡◌, map, Bor, subst, All}
use Rattle.std.specs.List.{FoldsTo}
use Rattle.std.proofs.lemmas.Iterator.{YieldsList-from_slice, items_from_drains}
use Rattle.std.proofs.lemmas.List.Elements.{All-nil, All-cons}
use Rattle.cost.specs.declared.quote.Quote.{Quote}
use Rattle.cost.specs.Totals.{Fits32}
use Rattle.cost.proofs.Totals.{exact}
use Rattle.cost.proofs.total.cost.Goals as goal

-- What each turn of a fold says of the value behind its item holds of all of these values.
folded : {P A : Type 0} (R : P → Bor A → P → Type 0) (Q : A → Type 0) → ((p : P) (x : Bor A) (q : P) → R p x q → Q x.now) → (p : P) (xs : List (Bor A)) (q : P) → FoldsTo R p xs q → All Q (map (λ x. x.now) xs)
folded R Q each p [] q turns = All-nil Q
folded R Q each p (x ∷ xs) q turns = All-cons Q x.now (map (λ x. x.now) xs) (each p x turns.0 turns.1) (folded R Q each turns.0 xs q turns.2)

pub returns-clause-exact : goal.returns-clause-exact
returns-clause-exact g c =
    let quotes = c.args.quotes.now in
    let whole : c.iter.result.rest.now ≡ quotes = search rules in
    let ran = c.fold.ensures.ran in
    let end = ran.2 in
    let items : map (λ (x : Bor Quote). x.now) ran.0 ≡ quotes = items_from_drains ran.0 (end.1.0, end.1.1, λ _. (end.0, end.1.2)) (YieldsList-from_slice quotes whole) in
    exact quotes (subst (All Fits32) items (folded _ Fits32 (λ p x q turn. search rules) _ ran.0 _ ran.3))
