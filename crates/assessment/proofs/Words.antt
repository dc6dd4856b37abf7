-- What each word is written as is read back, and no other word is read so. Assumes nothing.
use Rattle.std.proofs.Common.{◌≡◌, ℕ, ◌+◌, ◌-◌, ◌<◌, ◌≤◌, Bool, true, false, cond, ◌&&◌, eqb, ltb, leb, List, [], ◌∷◌, map, is_some, Some, None, Option, unwrap_or, sym, refl, ap, ◌∙◌, subst, arith}
use Rattle.either.specs.declared.Either.TheVariants.{Left, Right}
use Rattle.std.specs.List.{AllByRecursion}
use Rattle.std.proofs.lemmas.Bool.{and_parts, and_from, leb-true, le-leb, ltb-true, lt-ltb, eqb-true, eqb-false, ne_eqb}
use Rattle.standard.specs.Letters.{printed, read_level, Spelling}
use Rattle.standard.specs.Standards.{Standard}
use Rattle.standard.specs.Spellings.{asil_spelling, dal_spelling}
use Rattle.text.specs.Text.{Word}
use Rattle.assessment.specs.Scales.{level_names}
use Rattle.assessment.specs.Question.{Pair, level_word, pair_word}
use Rattle.assessment.specs.Reading.{and_then, each, read_member, two_members, read_pair}

-- a value and what came of it
pub record Then {T U : Type 0} (o : Option T) (f : T → Option U) (y : U) : Type 0 where
  pub value : T
  pub was : o ≡ Some value
  pub more : f value ≡ Some y

pub some_none : {T : Type 0} (y : T) → None ≡ Some y → ⊥
some_none y e = let z : ◌≡◌ {A = ℕ} 0 1 = cc in omega arith

pub and_then_only : {T U : Type 0} (o : Option T) (f : T → Option U) (y : U) → and_then o f ≡ Some y → Then o f y
and_then_only None f y e = absurd (some_none y e)
and_then_only (Some x) f y e = record { value = x; was = refl; more = e }

-- a test that let a value through
pub passed : {T : Type 0} (t : Bool) (o : Option T) (y : T) → cond t o None ≡ Some y → (t ≡ true) × (o ≡ Some y)
passed true o y e = (refl, e)
passed false o y e = absurd (some_none y e)

pub not_stopped : {T : Type 0} (t : Bool) (o : Option T) (y : T) → cond t None o ≡ Some y → (t ≡ false) × (o ≡ Some y)
not_stopped true o y e = absurd (some_none y e)
not_stopped false o y e = (refl, e)

-- `write` writes what `read` reads, at the values that fit
pub record Inverse {T : Type 0} (read : Word → Option T) (write : T → Word) (Fit : T → Type 0) : Type 0 where
  pub back : (x : T) → Fit x → read (write x) ≡ Some x
  pub only : (w : Word) (x : T) → read w ≡ Some x → (write x ≡ w) × Fit x

-- the same for every word of a list
pub each_back : {T : Type 0} {read : Word → Option T} {write : T → Word} {Fit : T → Type 0} → Inverse read write Fit → (xs : List T) → AllByRecursion Fit xs → each read (map write xs) ≡ Some xs
each_back inverse [] fit = refl
each_back {T} {read} {write} inverse (x ∷ xs) fit =
    ap (λ o. and_then o (λ y. and_then (each read (map write xs)) (λ ys. Some (y ∷ ys)))) (inverse.back x fit.0)
    ∙ ap (λ o. and_then o (λ ys. Some (x ∷ ys))) (each_back inverse xs fit.1)

pub each_only : {T : Type 0} {read : Word → Option T} {write : T → Word} {Fit : T → Type 0} → Inverse read write Fit → (ws : List Word) (xs : List T) → each read ws ≡ Some xs → (map write xs ≡ ws) × AllByRecursion Fit xs
each_only {T} {read} {write} {Fit} inverse [] xs e =
    let none : [] ≡ xs = cc in
    subst (λ ys. (map write ys ≡ []) × AllByRecursion Fit ys) none (refl, tt)
each_only {T} {read} {write} {Fit} inverse (w ∷ ws) xs e =
    let a = and_then_only (read w) (λ y. and_then (each read ws) (λ ys. Some (y ∷ ys))) xs e in
    let b = and_then_only (each read ws) (λ ys. Some (a.value ∷ ys)) xs a.more in
    let first = inverse.only w a.value a.was in
    let rest = each_only inverse ws b.value b.was in
    let is : a.value ∷ b.value ≡ xs = cc b.more in
    subst (λ ys. (map write ys ≡ w ∷ ws) × AllByRecursion Fit ys) is ((λ i. first.0 i ∷ rest.0 i), (first.1, rest.1))

-- levels
pub spelling_of : (standard : Standard) → Spelling (level_names standard)
spelling_of (Left a) = asil_spelling
spelling_of (Right d) = dal_spelling

has_name : (o : Option Word) → is_some o ≡ true → o ≡ Some (unwrap_or o [])
has_name None e = absurd (let z : ◌≡◌ {A = ℕ} 0 1 = cc in omega arith)
has_name (Some w) e = refl

pub named : (standard : Standard) (level : ℕ) → level ≤ 4 → printed (level_names standard) level ≡ Some (level_word standard level)
named standard level h = has_name (printed (level_names standard) level) ((spelling_of standard).five level ∙ le-leb level 4 h)

level_back : (standard : Standard) (level : ℕ) → level ≤ 4 → read_level (level_names standard) (level_word standard level) ≡ Some level
level_back standard level h = (spelling_of standard).reads_printed level (level_word standard level) (named standard level h)

level_only : (standard : Standard) (w : Word) (level : ℕ) → read_level (level_names standard) w ≡ Some level → (level_word standard level ≡ w) × (level ≤ 4)
level_only standard w level e =
    let p = (spelling_of standard).prints_read w level e in
    (ap (λ o. unwrap_or o []) p, leb-true level 4 (sym ((spelling_of standard).five level) ∙ ap is_some p))

pub levels : (standard : Standard) → Inverse (read_level (level_names standard)) (level_word standard) (λ level. level ≤ 4)
levels standard = record { back = level_back standard; only = level_only standard }

-- a member's digit
member_back : (n i : ℕ) → i < n → read_member n (48 + i) ≡ Some i
member_back n i h =
    let is : 48 + i - 48 ≡ i = omega arith in
    let t : (leb 48 (48 + i) && ltb (48 + i - 48) n) ≡ true = and_from (leb 48 (48 + i)) (ltb (48 + i - 48) n) (le-leb 48 (48 + i) (omega arith)) (lt-ltb (48 + i - 48) n (omega arith)) in
    ap (λ t. cond t (Some (48 + i - 48)) None) t ∙ ap Some is

member_only : (n c i : ℕ) → read_member n c ≡ Some i → (48 + i ≡ c) × (i < n)
member_only n c i e =
    let p = passed (leb 48 c && ltb (c - 48) n) (Some (c - 48)) i e in
    let q = and_parts (leb 48 c) (ltb (c - 48) n) p.0 in
    let is : c - 48 ≡ i = cc p.1 in
    let low = leb-true 48 c q.0 in
    let high = ltb-true (c - 48) n q.1 in
    (omega arith, omega arith)

-- two different members of n
abbrev pub TwoOf : ℕ → Pair → Type 0
TwoOf n pair = (pair.0 < n) × (pair.1 < n) × (pair.0 ≡ pair.1 → ⊥)

pair_back : (n : ℕ) (pair : Pair) → TwoOf n pair → read_pair n (pair_word pair) ≡ Some pair
pair_back n pair h =
    (λ i. two_members (member_back n pair.0 h.0 i) (member_back n pair.1 h.1 i))
    ∙ ap (λ t. cond t None (Some (pair.0, pair.1))) (ne_eqb pair.0 pair.1 h.2)

pair_only : (n : ℕ) (w : Word) (pair : Pair) → read_pair n w ≡ Some pair → (pair_word pair ≡ w) × TwoOf n pair
pair_only n [] pair e = absurd (some_none pair e)
pair_only n (i ∷ []) pair e = absurd (some_none pair e)
pair_only n (i ∷ dash ∷ []) pair e = absurd (some_none pair e)
pair_only n (i ∷ dash ∷ j ∷ more ∷ rest) pair e = absurd (some_none pair e)
pair_only n (i ∷ dash ∷ j ∷ []) pair e =
    let p = passed (eqb dash 45) (two_members (read_member n i) (read_member n j)) pair e in
    let a = and_then_only (read_member n i) (λ i. and_then (read_member n j) (λ j. cond (eqb i j) None (Some (i, j)))) pair p.1 in
    let b = and_then_only (read_member n j) (λ j. cond (eqb a.value j) None (Some (a.value, j))) pair a.more in
    let d = not_stopped (eqb a.value b.value) (Some (a.value, b.value)) pair b.more in
    let first = member_only n i a.value a.was in
    let second = member_only n j b.value b.was in
    let differ = eqb-false a.value b.value d.0 in
    let is : ◌≡◌ {A = Pair} (a.value, b.value) pair = cc d.1 in
    subst (λ q. (pair_word q ≡ i ∷ dash ∷ j ∷ []) × TwoOf n q) is ((λ k. first.0 k ∷ sym (eqb-true dash 45 p.0) k ∷ second.0 k ∷ []), (first.1, second.1, differ))

pub pairs_of : (n : ℕ) → Inverse (read_pair n) pair_word (TwoOf n)
pairs_of n = record { back = pair_back n; only = pair_only n }
