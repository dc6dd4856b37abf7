-- The listing has exactly the partial allocations, each once. Assumes nothing.
use Rattle.std.proofs.Common.{◌≡◌, ℕ, zero, suc, ◌+◌, ◌*◌, ◌<◌, ◌≤◌, ◌⊎◌, List, [], ◌∷◌, ◌++◌, map, length, get_or, take, sym, refl, ap, ◌∙◌, subst, inl, inr, ⊎_elim, add-mul, one-mul, zero-mul, mul-add, arith}
use Rattle.std.specs.List.{Contains, AllByRecursion}
use Rattle.std.proofs.lemmas.List.{length-map, length-append}
use Rattle.std.proofs.lemmas.Bool.{cases_eq}
use Rattle.theory.specs.declared.part.Part.{Part}
use Rattle.theory.specs.Model.{SoundPart}
use Rattle.theory.specs.Partials.{Partial, width, partials, each_level, listing, EachOnce, choices, sum_to, PartialsCounted}

first_out : (n : ℕ) (f : ℕ → ℕ) → sum_to (suc n) f ≡ f 0 + sum_to n (λ m. f (suc m))
first_out zero f = refl
first_out (suc n) f = omega (arith, first_out n f)

factor_out : (n w : ℕ) (f : ℕ → ℕ) → sum_to n (λ m. w * f m) ≡ w * sum_to n f
factor_out zero w f = refl
factor_out (suc n) w f = omega (arith, factor_out n w f, mul-add w (sum_to n f) (f (suc n)))

formula : (parts : List Part) → partials parts ≡ sum_to (length parts) (λ m. choices (take m parts))
formula [] = refl
formula (p ∷ ps) =
    let w : ℕ = width p in
    let rest : w * partials ps ≡ w * sum_to (length ps) (λ m. choices (take m ps)) = ap (λ n. w * n) (formula ps) in
    ap (λ n. 1 + n) (rest ∙ sym (factor_out (length ps) w (λ m. choices (take m ps))))
    ∙ sym (first_out (length ps) (λ m. choices (take m (p ∷ ps))))

-- membership by recursion, which is what `Contains` says by index
abbrev In : {X : Type 0} → List X → X → Type 0
In [] x = ⊥
In (y ∷ ys) x = (y ≡ x) ⊎ In ys x

in_at : {X : Type 0} (xs : List X) (x : X) (k : ℕ) → k < length xs → get_or xs k x ≡ x → In xs x
in_at [] x k less e = absurd (omega arith)
in_at (y ∷ ys) x zero less e = inl e
in_at (y ∷ ys) x (suc k) less e = inr (in_at ys x k (omega arith) e)

in_from_has : {X : Type 0} (xs : List X) (x : X) → Contains xs x → In xs x
in_from_has xs x h = in_at xs x h.0 h.1 h.2

has_from_in : {X : Type 0} (xs : List X) (x : X) → In xs x → Contains xs x
has_from_in [] x h = absurd h
has_from_in (y ∷ ys) x (inl e) = (0, omega arith, e)
has_from_in (y ∷ ys) x (inr h) = let later = has_from_in ys x h in (suc later.0, omega (arith, later.1), later.2)

in_append : {X : Type 0} (xs ys : List X) (x : X) → In (xs ++ ys) x → In xs x ⊎ In ys x
in_append [] ys x h = inr h
in_append (z ∷ zs) ys x (inl e) = inl (inl e)
in_append (z ∷ zs) ys x (inr h) = ⊎_elim (λ a. inl (inr a)) (λ a. inr a) (in_append zs ys x h)

in_left : {X : Type 0} (xs ys : List X) (x : X) → In xs x → In (xs ++ ys) x
in_left [] ys x h = absurd h
in_left (z ∷ zs) ys x (inl e) = inl e
in_left (z ∷ zs) ys x (inr h) = inr (in_left zs ys x h)

in_right : {X : Type 0} (xs ys : List X) (x : X) → In ys x → In (xs ++ ys) x
in_right [] ys x h = h
in_right (z ∷ zs) ys x h = inr (in_right zs ys x h)

-- a path with a level put before it
in_put : (l : ℕ) (paths : List (List ℕ)) (x : List ℕ) → In (map (λ path. l ∷ path) paths) x → (path : List ℕ) × (l ∷ path ≡ x) × In paths path
in_put l [] x h = absurd h
in_put l (path ∷ paths) x (inl e) = (path, e, inl refl)
in_put l (path ∷ paths) x (inr h) = let later = in_put l paths x h in (later.0, later.1, inr later.2)

put_in : (l : ℕ) (paths : List (List ℕ)) (path : List ℕ) → In paths path → In (map (λ path. l ∷ path) paths) (l ∷ path)
put_in l [] path h = absurd h
put_in l (p ∷ paths) path (inl e) = inl (ap (λ (q : List ℕ). l ∷ q) e)
put_in l (p ∷ paths) path (inr h) = inr (put_in l paths path h)

in_each : (l n : ℕ) (paths : List (List ℕ)) (x : List ℕ) → In (each_level l n paths) x → (m : ℕ) × (path : List ℕ) × (m ∷ path ≡ x) × (l ≤ m) × (m < l + n) × In paths path
in_each l zero paths x h = absurd h
in_each l (suc n) paths x h = ⊎_elim
    (λ here. let s = in_put l paths x here in (l, s.0, s.1, omega arith, omega arith, s.2))
    (λ later. let s = in_each (suc l) n paths x later in (s.0, s.1, s.2, omega (arith, s.3), omega (arith, s.4), s.5))
    (in_append (map (λ path. l ∷ path) paths) (each_level (suc l) n paths) x h)

each_in : (l n m : ℕ) (paths : List (List ℕ)) (path : List ℕ) → l ≤ m → m < l + n → In paths path → In (each_level l n paths) (m ∷ path)
each_in l zero m paths path low high h = absurd (omega arith)
each_in l (suc n) m paths path low high h = ⊎_elim
    (λ (is : m ≡ l). in_left (map (λ path. l ∷ path) paths) (each_level (suc l) n paths) (m ∷ path) (subst (λ k. In (map (λ path. l ∷ path) paths) (k ∷ path)) (sym is) (put_in l paths path h)))
    (λ differ. in_right (map (λ path. l ∷ path) paths) (each_level (suc l) n paths) (m ∷ path) (each_in (suc l) n m paths path (omega arith) (omega arith) h))
    (cases_eq m l)

listed : (parts : List Part) → AllByRecursion SoundPart parts → (path : List ℕ) → In (listing parts) path → Partial parts path
listed [] s path (inl e) = subst (λ (q : List ℕ). Partial [] q) e tt
listed [] s path (inr h) = absurd h
listed (p ∷ ps) s path (inl e) = subst (λ (q : List ℕ). Partial (p ∷ ps) q) e tt
listed (p ∷ ps) s path (inr h) =
    let t = in_each p.floor (width p) (listing ps) path h in
    subst (λ (q : List ℕ). Partial (p ∷ ps) q) t.2 (t.3, omega (arith, t.4, s.0.range), listed ps s.1 t.1 t.5)

lists : (parts : List Part) → AllByRecursion SoundPart parts → (path : List ℕ) → Partial parts path → In (listing parts) path
lists [] s [] h = inl refl
lists [] s (l ∷ ls) h = absurd h
lists (p ∷ ps) s [] h = inl refl
lists (p ∷ ps) s (l ∷ ls) h = inr (each_in p.floor (width p) l (listing ps) ls h.0 (omega (arith, h.1, s.0.range)) (lists ps s.1 ls h.2))

-- each once
abbrev Once : {X : Type 0} → List X → Type 0
Once [] = Unit {0}
Once (x ∷ xs) = (In xs x → ⊥) × Once xs

once_append : {X : Type 0} (xs ys : List X) → Once xs → Once ys → ((x : X) → In xs x → In ys x → ⊥) → Once (xs ++ ys)
once_append [] ys a b apart = b
once_append (x ∷ xs) ys a b apart = (
  (λ h. ⊎_elim a.0 (λ later. apart x (inl refl) later) (in_append xs ys x h)),
  once_append xs ys a.1 b (λ z first second. apart z (inr first) second),
)

tail_same : (l : ℕ) (p q : List ℕ) → l ∷ p ≡ l ∷ q → p ≡ q
tail_same l p q e = cc

once_put : (l : ℕ) (paths : List (List ℕ)) → Once paths → Once (map (λ path. l ∷ path) paths)
once_put l [] h = tt
once_put l (path ∷ paths) h = (
  (λ again. let s = in_put l paths (l ∷ path) again in h.0 (subst (λ (q : List ℕ). In paths q) (tail_same l s.0 path s.1) s.2)),
  once_put l paths h.1,
)

once_each : (l n : ℕ) (paths : List (List ℕ)) → Once paths → Once (each_level l n paths)
once_each l zero paths h = tt
once_each l (suc n) paths h =
    once_append (map (λ path. l ∷ path) paths) (each_level (suc l) n paths) (once_put l paths h) (once_each (suc l) n paths h)
    (λ x first second.
    let a = in_put l paths x first in
    let b = in_each (suc l) n paths x second in
    let same : l ≡ b.0 = heads b.2 a.1 in
    omega (arith, b.3))
  where
    heads : {l m : ℕ} {p q x : List ℕ} → m ∷ q ≡ x → l ∷ p ≡ x → l ≡ m
    heads d e = cc

no_empty : (l n : ℕ) (paths : List (List ℕ)) → In (each_level l n paths) [] → ⊥
no_empty l n paths h = let s = in_each l n paths [] h in not_cons s.2
  where
    not_cons : {m : ℕ} {q : List ℕ} → m ∷ q ≡ [] → ⊥
    not_cons e = let z : ◌≡◌ {A = ℕ} 0 1 = cc in omega arith

once_listing : (parts : List Part) → Once (listing parts)
once_listing [] = ((λ h. h), tt)
once_listing (p ∷ ps) = (no_empty p.floor (width p) (listing ps), once_each p.floor (width p) (listing ps) (once_listing ps))

each_once : {X : Type 0} (xs : List X) → Once xs → EachOnce xs
each_once [] h = tt
each_once (x ∷ xs) h = ((λ again. h.0 (in_from_has xs x again)), each_once xs h.1)

-- as many as the number says
long_each : (l n : ℕ) (paths : List (List ℕ)) → length (each_level l n paths) ≡ n * length paths
long_each l zero paths = sym (zero-mul (length paths))
long_each l (suc n) paths =
    omega (arith, length-append (map (λ path. l ∷ path) paths) (each_level (suc l) n paths), length-map paths (λ path. l ∷ path), long_each (suc l) n paths, add-mul n 1 (length paths), one-mul (length paths), ap (λ k. k * length paths) (suc_is n))
  where
    suc_is : (n : ℕ) → suc n ≡ n + 1
    suc_is n = omega arith

long : (parts : List Part) → length (listing parts) ≡ partials parts
long [] = refl
long (p ∷ ps) = omega (arith, long_each p.floor (width p) (listing ps), ap (λ k. width p * k) (long ps))

pub partials_counted : PartialsCounted
partials_counted parts s = record {
  exactly = λ path. ((λ h. listed parts s path (in_from_has (listing parts) path h)), (λ h. has_from_in (listing parts) path (lists parts s path h)));
  once = each_once (listing parts) (once_listing parts);
  long = long parts;
  formula = formula parts;
}
