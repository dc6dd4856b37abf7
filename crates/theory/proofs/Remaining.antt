-- How many partial allocations are at a path or after it. Assumes nothing.
use Rattle.std.proofs.Common.{◌≡◌, ℕ, suc, ◌+◌, ◌-◌, ◌*◌, ◌<◌, ◌≤◌, Bool, true, false, cond, ltb, List, [], ◌∷◌, ◌++◌, Some, None, Option, refl, ap, add-mul, one-mul, arith}
use Rattle.std.proofs.lemmas.Bool.{ltb-true}
use Rattle.theory.specs.declared.part.Part.{Part}
use Rattle.theory.specs.Walks.{advance, raised, beyond}
use Rattle.theory.specs.Partials.{Partial, partials}

abbrev pub remaining : List Part → List ℕ → ℕ
remaining ps [] = partials ps
remaining [] (l ∷ ls) = 0
remaining (p ∷ ps) (l ∷ ls) = (p.ceiling - l) * partials ps + remaining ps ls

partials_some : (ps : List Part) → 1 ≤ partials ps
partials_some [] = omega arith
partials_some (p ∷ ps) = omega arith

pub remaining_some : (ps : List Part) (path : List ℕ) → Partial ps path → 1 ≤ remaining ps path
remaining_some ps [] on = partials_some ps
remaining_some [] (l ∷ ls) on = absurd on
remaining_some (p ∷ ps) (l ∷ ls) on = omega (arith, remaining_some ps ls on.2)

one_more : (n k : ℕ) → (n + 1) * k ≡ n * k + k
one_more n k = omega (arith, add-mul n 1 k, one-mul k)

abbrev pub Below : List Part → Option (List ℕ) → ℕ → Type 0
Below ps (Some path) n = remaining ps path < n
Below ps None n = Unit {0}

pub falls : (ps : List Part) (path : List ℕ) → Partial ps path → Below ps (advance ps path) (remaining ps path)
falls ps [] on = tt
falls [] (l ∷ ls) on = tt
falls (p ∷ ps) (l ∷ ls) on = go (advance ps ls) (falls ps ls on.2)
  where
    rise : (b : Bool) → ltb l p.ceiling ≡ b → Below (p ∷ ps) (cond b (Some (suc l ∷ [])) None) (remaining (p ∷ ps) (l ∷ ls))
    rise true e =
        let lt : l < p.ceiling = ltb-true l p.ceiling e in
        let gap : p.ceiling - l ≡ (p.ceiling - suc l) + 1 = omega arith in
        omega (arith, ap (λ (n : ℕ). n * partials ps) gap, one_more (p.ceiling - suc l) (partials ps), remaining_some ps ls on.2)
    rise false e = tt

    go : (o : Option (List ℕ)) → Below ps o (remaining ps ls) → Below (p ∷ ps) (raised p l o) (remaining (p ∷ ps) (l ∷ ls))
    go (Some later) ih = omega arith
    go None ih = rise (ltb l p.ceiling) refl

pub falls_more : (ps : List Part) (path : List ℕ) (q : Part) (rest : List Part) → beyond ps path ≡ q ∷ rest → Partial ps path → remaining ps (path ++ (q.floor ∷ [])) < remaining ps path
falls_more [] [] q rest e on = absurd (let z : ◌≡◌ {A = ℕ} 0 1 = cc in omega arith)
falls_more (p ∷ ps) [] q rest e on =
    let same : p ≡ q = cc in
    omega (arith, ap (λ (r : Part). (p.ceiling - r.floor) * partials ps) same, one_more (p.ceiling - p.floor) (partials ps))
falls_more [] (l ∷ ls) q rest e on = absurd on
falls_more (p ∷ ps) (l ∷ ls) q rest e on = omega (arith, falls_more ps ls q rest e on.2)
