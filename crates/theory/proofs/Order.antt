-- Paths and allocations in lexicographic order, and what `advance` passes over. Assumes nothing.
use Rattle.std.proofs.Common.{◌≡◌, ℕ, suc, ◌≤◌, Bool, true, false, cond, ltb, ◌⊎◌, List, [], ◌∷◌, ◌++◌, Some, None, Option, sym, refl, ap, ◌∙◌, inl, inr, ⊎_elim, arith}
use Rattle.std.proofs.lemmas.Bool.{cases_lt, cases_eq, ltb-true, ltb-false}
use Rattle.theory.specs.declared.part.Part.{Part}
use Rattle.theory.specs.Allocations.{Inside, Earlier}
use Rattle.theory.specs.Walks.{advance, raised, beyond}
use Rattle.theory.specs.Partials.{Partial}

-- an allocation that begins with the path
abbrev pub Extends : List ℕ → List ℕ → Type 0
Extends [] xs = Unit {0}
Extends (l ∷ ls) [] = ⊥
Extends (l ∷ ls) (x ∷ xs) = (x ≡ l) × Extends ls xs

abbrev pub Passed : List ℕ → List ℕ → Type 0
Passed path x = Earlier x path ⊎ Extends path x

-- where there is a next path, the allocation is before it
abbrev pub Reached : Option (List ℕ) → List ℕ → Type 0
Reached (Some path) x = Earlier x path
Reached None x = Unit {0}

abbrev pub PartialNext : List Part → Option (List ℕ) → Type 0
PartialNext ps (Some path) = Partial ps path
PartialNext ps None = Unit {0}

-- what is before the path or begins with it is before the next path
pub passes : (ps : List Part) (path x : List ℕ) → Passed path x → Reached (advance ps path) x
passes ps [] x h = tt
passes [] (l ∷ ls) x h = tt
passes (p ∷ ps) (l ∷ ls) [] h = absurd (⊎_elim (λ e. e) (λ e. e) h)
passes (p ∷ ps) (l ∷ ls) (x ∷ xs) h = go (advance ps ls) (passes ps ls xs) h
  where
    rise : (b : Bool) → Passed (l ∷ ls) (x ∷ xs) → Reached (cond b (Some (suc l ∷ [])) None) (x ∷ xs)
    rise true (inl (inl lt)) = inl (omega arith)
    rise true (inl (inr r)) = inl (omega arith)
    rise true (inr r) = inl (omega arith)
    rise false h = tt

    go : (o : Option (List ℕ)) → (Passed ls xs → Reached o xs) → Passed (l ∷ ls) (x ∷ xs) → Reached (raised p l o) (x ∷ xs)
    go (Some later) ih (inl (inl lt)) = inl lt
    go (Some later) ih (inl (inr r)) = inr (r.0, ih (inl r.1))
    go (Some later) ih (inr r) = inr (r.0, ih (inr r.1))
    go None ih h = rise (ltb l p.ceiling) h

-- and nothing else is, inside the ranges
pub covers : (ps : List Part) (path x : List ℕ) → Partial ps path → Inside ps x → Reached (advance ps path) x → Passed path x
covers ps [] x inside-path ins r = inr tt
covers [] (l ∷ ls) x inside-path ins r = absurd inside-path
covers (p ∷ ps) (l ∷ ls) [] inside-path ins r = absurd ins
covers (p ∷ ps) (l ∷ ls) (x ∷ xs) inside-path ins r = go (advance ps ls) (covers ps ls xs inside-path.2 ins.2) r
  where
    tail : x ≡ l → Passed ls xs → Passed (l ∷ ls) (x ∷ xs)
    tail e h = ⊎_elim (λ a. inl (inr (e, a))) (λ a. inr (e, a)) h

    up_to : x ≤ l → Passed ls xs → Passed (l ∷ ls) (x ∷ xs)
    up_to le h = ⊎_elim (λ lt. inl (inl lt)) (λ ge. tail (omega arith) h) (cases_lt x l)

    rise : (b : Bool) → ltb l p.ceiling ≡ b → Passed ls xs → Reached (cond b (Some (suc l ∷ [])) None) (x ∷ xs) → Passed (l ∷ ls) (x ∷ xs)
    rise true e h (inl lt) = up_to (omega arith) h
    rise true e h (inr r) = absurd r.1
    rise false e h r = up_to (omega (arith, ltb-false l p.ceiling e)) h

    go : (o : Option (List ℕ)) → (Reached o xs → Passed ls xs) → Reached (raised p l o) (x ∷ xs) → Passed (l ∷ ls) (x ∷ xs)
    go (Some later) ih (inl lt) = inl (inl lt)
    go (Some later) ih (inr r) = tail r.0 (ih r.1)
    go None ih r = rise (ltb l p.ceiling) refl (ih tt) r

pub partial_next : (ps : List Part) (path : List ℕ) → Partial ps path → PartialNext ps (advance ps path)
partial_next ps [] inside-path = tt
partial_next [] (l ∷ ls) inside-path = tt
partial_next (p ∷ ps) (l ∷ ls) inside-path = go (advance ps ls) (partial_next ps ls inside-path.2)
  where
    rise : (b : Bool) → ltb l p.ceiling ≡ b → PartialNext (p ∷ ps) (cond b (Some (suc l ∷ [])) None)
    rise true e = (omega arith, ltb-true l p.ceiling e, tt)
    rise false e = tt

    go : (o : Option (List ℕ)) → PartialNext ps o → PartialNext (p ∷ ps) (raised p l o)
    go (Some later) ih = (inside-path.0, inside-path.1, ih)
    go None ih = rise (ltb l p.ceiling) refl

-- what is before the path is before all that begins with it
pub before_extends : (x path y : List ℕ) → Earlier x path → Extends path y → Earlier x y
before_extends x [] y e h = absurd e
before_extends [] (l ∷ ls) y e h = absurd e
before_extends (x ∷ xs) (l ∷ ls) [] e h = absurd h
before_extends (x ∷ xs) (l ∷ ls) (y ∷ ys) (inl lt) h = inl (omega arith)
before_extends (x ∷ xs) (l ∷ ls) (y ∷ ys) (inr r) h = inr (r.0 ∙ sym h.0, before_extends xs ls ys r.1 h.1)

-- a part more inside-path the path
pub partial_more : (ps : List Part) (path : List ℕ) (q : Part) (rest : List Part) → beyond ps path ≡ q ∷ rest → q.floor ≤ q.ceiling → Partial ps path → Partial ps (path ++ (q.floor ∷ []))
partial_more [] [] q rest e h inside-path = absurd (let z : ◌≡◌ {A = ℕ} 0 1 = cc in omega arith)
partial_more (p ∷ ps) [] q rest e h inside-path = let same : p ≡ q = cc in (omega (arith, ap (λ (r : Part). r.floor) same), omega (arith, ap (λ (r : Part). r.ceiling) same), tt)
partial_more [] (l ∷ ls) q rest e h inside-path = absurd inside-path
partial_more (p ∷ ps) (l ∷ ls) q rest e h inside-path = (inside-path.0, inside-path.1, partial_more ps ls q rest e h inside-path.2)

pub before_more : (x path : List ℕ) (l : ℕ) → Earlier x path → Earlier x (path ++ (l ∷ []))
before_more x [] l e = absurd e
before_more [] (m ∷ ms) l e = absurd e
before_more (x ∷ xs) (m ∷ ms) l (inl lt) = inl lt
before_more (x ∷ xs) (m ∷ ms) l (inr r) = inr (r.0, before_more xs ms l r.1)

pub before_less : (ps : List Part) (path x : List ℕ) (q : Part) (rest : List Part) → beyond ps path ≡ q ∷ rest → Inside ps x → Earlier x (path ++ (q.floor ∷ [])) → Earlier x path
before_less [] [] [] q rest e ins h = absurd h
before_less [] [] (x ∷ xs) q rest e ins h = absurd ins
before_less (p ∷ ps) [] [] q rest e ins h = absurd h
before_less (p ∷ ps) [] (x ∷ xs) q rest e ins (inl lt) = let same : p ≡ q = cc in omega (arith, ap (λ (r : Part). r.floor) same)
before_less (p ∷ ps) [] (x ∷ xs) q rest e ins (inr r) = r.1
before_less [] (l ∷ ls) [] q rest e ins h = absurd h
before_less [] (l ∷ ls) (x ∷ xs) q rest e ins h = absurd ins
before_less (p ∷ ps) (l ∷ ls) [] q rest e ins h = absurd h
before_less (p ∷ ps) (l ∷ ls) (x ∷ xs) q rest e ins (inl lt) = inl lt
before_less (p ∷ ps) (l ∷ ls) (x ∷ xs) q rest e ins (inr r) = inr (r.0, before_less ps ls xs q rest e ins.2 r.1)

-- a path that covers every part is the one allocation that begins with it
pub whole_is : (ps : List Part) (path x : List ℕ) → beyond ps path ≡ [] → Inside ps x → Extends path x → x ≡ path
whole_is [] [] [] e ins h = refl
whole_is [] [] (x ∷ xs) e ins h = absurd ins
whole_is (p ∷ ps) [] x e ins h = absurd (let z : ◌≡◌ {A = ℕ} 0 1 = cc in omega arith)
whole_is ps (l ∷ ls) [] e ins h = absurd h
whole_is [] (l ∷ ls) (x ∷ xs) e ins h = absurd ins
whole_is (p ∷ ps) (l ∷ ls) (x ∷ xs) e ins h = let rest : xs ≡ ls = whole_is ps ls xs e ins.2 h.1 in let head : x ≡ l = h.0 in cc

pub extends_self : (path : List ℕ) → Extends path path
extends_self [] = tt
extends_self (l ∷ ls) = (refl, extends_self ls)

-- two lists of which each is earlier than the other, if they differ, are one
earlier_not_both : (x y : List ℕ) → Earlier x y → Earlier y x → ⊥
earlier_not_both [] [] e f = e
earlier_not_both [] (y ∷ ys) e f = e
earlier_not_both (x ∷ xs) [] e f = f
earlier_not_both (x ∷ xs) (y ∷ ys) (inl a) (inl b) = omega arith
earlier_not_both (x ∷ xs) (y ∷ ys) (inl a) (inr b) = omega (arith, b.0)
earlier_not_both (x ∷ xs) (y ∷ ys) (inr a) (inl b) = omega (arith, a.0)
earlier_not_both (x ∷ xs) (y ∷ ys) (inr a) (inr b) = earlier_not_both xs ys a.1 b.1

same_or_not : (x y : List ℕ) → (x ≡ y) ⊎ (x ≡ y → ⊥)
same_or_not [] [] = inl refl
same_or_not [] (y ∷ ys) = inr (λ e. let z : ◌≡◌ {A = ℕ} 0 1 = cc in omega arith)
same_or_not (x ∷ xs) [] = inr (λ e. let z : ◌≡◌ {A = ℕ} 0 1 = cc in omega arith)
same_or_not (x ∷ xs) (y ∷ ys) = ⊎_elim
    (λ (head : x ≡ y). ⊎_elim (λ (tail : xs ≡ ys). inl cc) (λ differ. inr (λ e. differ (tails e))) (same_or_not xs ys))
    (λ differ. inr (λ e. differ (heads e)))
    (cases_eq x y)
  where
    heads : x ∷ xs ≡ y ∷ ys → x ≡ y
    heads e = cc

    tails : x ∷ xs ≡ y ∷ ys → xs ≡ ys
    tails e = cc

pub order_total : (x y : List ℕ) → ((x ≡ y → ⊥) → Earlier x y) → ((x ≡ y → ⊥) → Earlier y x) → x ≡ y
order_total x y before after = ⊎_elim (λ e. e) (λ differ. absurd (earlier_not_both x y (before differ) (after differ))) (same_or_not x y)
