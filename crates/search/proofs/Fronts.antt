-- What the fronts of a path cost, and where a path advances to, one part at a time. Assumes nothing.
use Rattle.std.proofs.Common.{◌≡◌, ℕ, ◌+◌, ◌<◌, ◌≤◌, Bool, true, false, cond, ltb, List, [], ◌∷◌, ◌++◌, length, get_or, take, set, Some, None, Option, sym, refl, ap, ◌∙◌, subst, ⊎_elim, add-one, arith}
use Rattle.std.specs.List.{AllByRecursion}
use Rattle.std.proofs.ByRecursion.{All-get_or}
use Rattle.std.proofs.lemmas.List.{length-take-le, get_or-map, get_or-set_same, get_or-set_other, take_more, take-set-le}
use Rattle.std.proofs.lemmas.Bool.{cases_eq}
use Rattle.cost.specs.declared.quote.Quote.{Quote}
use Rattle.cost.specs.Totals.{cost_of}
use Rattle.theory.specs.declared.part.Part.{Part}
use Rattle.theory.specs.Model.{SoundPart}
use Rattle.theory.specs.Allocations.{Rule, quote_at, chosen_quotes}
use Rattle.theory.specs.Walks.{ceilings, raised, advance}
use Rattle.search.specs.declared.path.Path.{Path}
use Rattle.search.specs.Ties.{PathTied, AmountsUpto}

-- a part's ceiling
pub ceiling_at : (ps : List Part) (i : ℕ) (d : Part) → i < length ps → get_or (ceilings ps) i 0 ≡ (get_or ps i d).ceiling
ceiling_at ps i d h = get_or-map (λ (p : Part). p.ceiling) ps i d 0 h

pub ceiling_low : (ps : List Part) → AllByRecursion SoundPart ps → (i : ℕ) (d : Part) → i < length ps → get_or (ceilings ps) i 0 ≤ 4
ceiling_low ps sound i d h = omega (arith, ceiling_at ps i d h, (All-get_or SoundPart ps i d h sound).top)

-- costs
cost_push : {A : Type 0} (joined : A → Quote → A) (a : A) (qs : List Quote) (q : Quote) → cost_of joined a (qs ++ q ∷ []) ≡ joined (cost_of joined a qs) q
cost_push joined a [] q = refl
cost_push joined a (r ∷ qs) q = cost_push joined (joined a r) qs q

chosen_push : (ps : List Part) (xs : List ℕ) (l : ℕ) (d : Part) → length xs < length ps → chosen_quotes ps (xs ++ l ∷ []) ≡ chosen_quotes ps xs ++ quote_at (get_or ps (length xs) d) l ∷ []
chosen_push [] xs l d h = absurd (omega arith)
chosen_push (p ∷ ps) [] l d h = refl
chosen_push (p ∷ ps) (x ∷ xs) l d h = ap (λ (qs : List Quote). quote_at p x ∷ qs) (chosen_push ps xs l d (omega arith))

module _ {A : Type 0} (rule : Rule A) (ps : List Part) where
  abbrev front_cost : List ℕ → ℕ → A
  front_cost levels m = cost_of rule.joined rule.begins (chosen_quotes ps (take m levels))

  cost_more : (levels : List ℕ) (m : ℕ) (d : Part) → m < length levels → m < length ps → front_cost levels (m + 1) ≡ rule.joined (front_cost levels m) (quote_at (get_or ps m d) (get_or levels m 0))
  cost_more levels m d on stands =
      let front = take m levels in
      let long : length front ≡ m = length-take-le m levels (omega arith) in
      ap (λ (ls : List ℕ). cost_of rule.joined rule.begins (chosen_quotes ps ls)) (take_more levels m 0 on)
      ∙ ap (cost_of rule.joined rule.begins) (chosen_push ps front (get_or levels m 0) d (omega arith))
      ∙ cost_push rule.joined rule.begins (chosen_quotes ps front) (quote_at (get_or ps (length front) d) (get_or levels m 0))
      ∙ ap (λ k. rule.joined (front_cost levels m) (quote_at (get_or ps k d) (get_or levels m 0))) long

  -- the amount of one front more
  pub amounts_more : (levels : List ℕ) (amounts : List A) (i : ℕ) (a v : A) (d : Part) → i < length levels → i < length ps → i + 1 < length amounts → AmountsUpto rule ps levels amounts i → a ≡ get_or amounts i a → v ≡ rule.joined a (quote_at (get_or ps i d) (get_or levels i 0)) → AmountsUpto rule ps levels (set amounts (i + 1) v) (i + 1)
  amounts_more levels amounts i a v d on stands room tied is joins m e upto = ⊎_elim
      (λ (same : m ≡ i + 1).
      subst (λ k. get_or (set amounts (i + 1) v) k e ≡ front_cost levels k) (sym same)
      (get_or-set_same amounts (i + 1) v e room ∙ joins ∙ ap (λ b. rule.joined b (quote_at (get_or ps i d) (get_or levels i 0))) (is ∙ tied i a (omega arith)) ∙ sym (cost_more levels i d on stands)))
      (λ (other : m ≡ i + 1 → ⊥). get_or-set_other amounts (i + 1) m v e other ∙ tied m e (omega arith))
      (cases_eq m (i + 1))

  -- a level at the end of the front changes no amount before it
  pub amounts_set : (levels : List ℕ) (amounts : List A) (i n l : ℕ) → i ≤ n → AmountsUpto rule ps levels amounts n → AmountsUpto rule ps (set levels i l) amounts i
  amounts_set levels amounts i n l h tied m e upto = tied m e (omega arith) ∙ sym (ap (λ (ls : List ℕ). cost_of rule.joined rule.begins (chosen_quotes ps ls)) (take-set-le m levels i l upto))

  pub amounts_none : (levels : List ℕ) (amounts : List A) → ((e : A) → get_or amounts 0 e ≡ rule.begins) → AmountsUpto rule ps levels amounts 0
  amounts_none levels amounts starts m e upto =
      let none : m ≡ 0 = omega arith in
      subst (λ k. get_or amounts k e ≡ front_cost levels k) (sym none) (starts e)

-- a path that ends with a part put at a level
pub placed : (ps : List Part) (path after : Path) (i l : ℕ) → i < length ps → path.count ≤ i + 1 → length path.levels ≡ 64 → length ps ≤ 64 → l ≤ get_or (ceilings ps) i 0 → PathTied ps path → after.levels ≡ set path.levels i l → after.count ≡ i + 1 → PathTied ps after
placed ps path after i l stands near long few top tied levels count = (
  omega arith,
  (λ k within. ⊎_elim
      (λ (e : k ≡ i). omega (arith, ap (λ (ls : List ℕ). get_or ls k 0) levels, same k e, ap (λ n. get_or (ceilings ps) n 0) e))
      (λ (ne : k ≡ i → ⊥). omega (arith, ap (λ (ls : List ℕ). get_or ls k 0) levels, get_or-set_other path.levels i k l 0 ne, tied.1 k within))
      (cases_eq k i)),
  λ k past within. ap (λ (ls : List ℕ). get_or ls k 0) levels ∙ get_or-set_other path.levels i k l 0 (apart k past) ∙ tied.2 k (omega arith) within,
)
  where
    same : (k : ℕ) → k ≡ i → get_or (set path.levels i l) k 0 ≡ l
    same k e = ap (λ n. get_or (set path.levels i l) n 0) e ∙ get_or-set_same path.levels i l 0 (omega arith)

    apart : (k : ℕ) → after.count ≤ k → k ≡ i → ⊥
    apart k past e = omega arith

-- advancing
raised_cond : (p : Part) (l : ℕ) (b : Bool) (xs : List ℕ) (o : Option (List ℕ)) → raised p l (cond b (Some xs) o) ≡ cond b (Some (l ∷ xs)) (raised p l o)
raised_cond p l true xs o = refl
raised_cond p l false xs o = refl

advance_push : (ps : List Part) (xs : List ℕ) (l : ℕ) (d : Part) → length xs < length ps → advance ps (xs ++ l ∷ []) ≡ cond (ltb l (get_or ps (length xs) d).ceiling) (Some (xs ++ (l + 1) ∷ [])) (advance ps xs)
advance_push [] xs l d h = absurd (omega arith)
advance_push (p ∷ ps) [] l d h = ap (λ n. cond (ltb l p.ceiling) (Some (n ∷ [])) None) (sym (add-one l))
advance_push (p ∷ ps) (x ∷ xs) l d h = ap (raised p x) (advance_push ps xs l d (omega arith)) ∙ raised_cond p x (ltb l (get_or ps (length xs) d).ceiling) (xs ++ (l + 1) ∷ []) (advance ps xs)

-- where a path advances to, by its last level
pub advance_last : (ps : List Part) (levels : List ℕ) (n last : ℕ) (d : Part) → n ≡ last + 1 → last < length ps → last < length levels → advance ps (take n levels) ≡ cond (ltb (get_or levels last 0) (get_or ps last d).ceiling) (Some (take last levels ++ (get_or levels last 0 + 1) ∷ [])) (advance ps (take last levels))
advance_last ps levels n last d is stands on =
    let front = take last levels in
    let long : length front ≡ last = length-take-le last levels (omega arith) in
    ap (λ k. advance ps (take k levels)) is
    ∙ ap (advance ps) (take_more levels last 0 on)
    ∙ advance_push ps front (get_or levels last 0) d (omega arith)
    ∙ ap (λ k. cond (ltb (get_or levels last 0) (get_or ps k d).ceiling) (Some (front ++ (get_or levels last 0 + 1) ∷ [])) (advance ps front)) long
