-- What can be split by a table whose rows are all the sums up to 4. Assumes nothing.
use Rattle.std.proofs.Common.{◌≡◌, ℕ, suc, ◌+◌, ◌-◌, ◌<◌, ◌≤◌, min, Bool, true, ◌&&◌, ◌||◌, eqb, List, [], ◌∷◌, ◌++◌, length, Decides, refl, ap, ◌∙◌, inl, inr, ⊎_elim, arith}
use Rattle.std.specs.List.{AllZip, All, Contains, list_all, list_any}
use Rattle.std.proofs.lemmas.List.Elements.{All-contains}
use Rattle.std.proofs.lemmas.List.Sums.{AllPass-from_list_all}
use Rattle.std.proofs.lemmas.List.Folds.{list_any_at}
use Rattle.std.proofs.lemmas.Map.Views.{Contains-from_any}
use Rattle.std.proofs.lemmas.Bool.{eqb-true, eq-eqb, and_parts, and_from, or_cases}
use Rattle.std.proofs.lemmas.Bool.Decides.{Decides-like}
use Rattle.asil.specs.Groups.{total, chosen, Group, asil_test}
use Rattle.scale.specs.Question.{formed, answer}
use Rattle.scale.proofs.Forms.{formed_parts, answer_decides}
use Rattle.asil.specs.GroupTests.{asil_decides, taken_some}
use Rattle.scale.specs.Rows.{all_below}
use Rattle.scale.proofs.Below.{all_below_at}
use Rattle.asil.specs.Patterns.{Row, Allows, Split, at, Splits, none, more, Covers, CoversBySum, GroupCovers, MetByPatterns}

-- each row is a sum
abbrev pub Sums : List Row → Type 0
Sums rows = All (λ p. p.0 ≡ p.1 + p.2) rows

-- and each sum up to 4 is a row, in one order or the other
abbrev pub EverySum : List Row → Type 0
EverySum rows = (required first : ℕ) → required ≤ 4 → first ≤ required → Allows rows required first (required - first)

total_append : (xs ys : List ℕ) → total (xs ++ ys) ≡ total xs + total ys
total_append [] ys = omega arith
total_append (x ∷ xs) ys = omega (arith, total_append xs ys)

module _ (rows : List Row) (sums : Sums rows) where
  allows_sum : (x a b : ℕ) → Allows rows x a b → x ≡ a + b
  allows_sum x a b h =
      ⊎_elim (λ t. All-contains (λ p. p.0 ≡ p.1 + p.2) rows (x, a, b) sums t)
      (λ t. let e : x ≡ b + a = All-contains (λ p. p.0 ≡ p.1 + p.2) rows (x, b, a) sums t in omega arith) h

  split_total : {xs ys : List ℕ} → Split rows xs ys → total xs ≡ total ys
  split_total (at front back x a b h) =
      let e = allows_sum x a b h in
      omega (arith, total_append front (x ∷ back), total_append front (a ∷ b ∷ back))

  splits_total : {xs ys : List ℕ} → Splits rows xs ys → total xs ≡ total ys
  splits_total (none parts) = refl
  splits_total (more s t) = split_total s ∙ splits_total t

each_total : (xs ys : List ℕ) → AllZip (λ part level. part ≤ level) xs ys → total xs ≤ total ys
each_total [] [] e = omega arith
each_total [] (y ∷ ys) e = absurd e
each_total (x ∷ xs) [] e = absurd e
each_total (x ∷ xs) (y ∷ ys) e = let here : x ≤ y = e.0 in omega (arith, each_total xs ys e.1)

split_under : {rows : List Row} (a : ℕ) {xs ys : List ℕ} → Split rows xs ys → Split rows (a ∷ xs) (a ∷ ys)
split_under a (at front back x b c h) = at (a ∷ front) back x b c h

splits_under : {rows : List Row} (a : ℕ) {xs ys : List ℕ} → Splits rows xs ys → Splits rows (a ∷ xs) (a ∷ ys)
splits_under a (none parts) = none (a ∷ parts)
splits_under a (more s t) = more (split_under a s) (splits_under a t)

module _ (rows : List Row) (every : EverySum rows) where
  parts_of : (l : ℕ) (ls : List ℕ) (required : ℕ) → required ≤ 4 → required ≤ l + total ls → Covers rows (l ∷ ls) required
  parts_of l [] required small enough = (required ∷ [], none (required ∷ []), (omega arith, tt))
  parts_of l (m ∷ ls) required small enough =
      let a = min l required in
      let rest = parts_of m ls (required - a) (omega arith) (omega arith) in
      (a ∷ rest.0, more (at [] [] required a (required - a) (every required a small (omega arith))) (splits_under a rest.1), (omega arith, rest.2))

agree : (rows : List Row) → Sums rows → EverySum rows → CoversBySum rows
agree rows sums every [] required some small = absurd (omega arith)
agree rows sums every (l ∷ ls) required some small = (
  (λ s. omega (arith, splits_total rows sums s.1, each_total s.0 (l ∷ ls) s.2)),
  (λ enough. parts_of rows every l ls required small enough),
)

-- a group covers exactly when its sum is enough, and the scale asks for just that
module _ (table : List Row) (agrees : CoversBySum table) where
  group_decides : (required : ℕ) (levels rows : List ℕ) → formed required levels rows ≡ true → Decides (asil_test required levels rows) (GroupCovers table required levels rows)
  group_decides required levels rows f =
      let top = (formed_parts required levels rows f).top in
      let some : (c : ℕ → Bool) → Group rows (length levels) c → 0 < length (chosen c 0 levels) =
      λ c g. taken_some c 0 g.some.0 levels (omega arith) (omega (arith, g.some.1)) g.some.2 in
      Decides-like (asil_test required levels rows)
      (λ s. (s.0, s.1, (agrees (chosen s.0 0 levels) required (some s.0 s.1) top).1 s.2))
      (λ s. (s.0, s.1, (agrees (chosen s.0 0 levels) required (some s.0 s.1) top).0 s.2))
      (asil_decides required levels rows f)

  pub met_by_patterns : MetByPatterns table
  met_by_patterns required levels rows =
      answer_decides (formed required levels rows) (asil_test required levels rows) (answer asil_test required levels rows) (group_decides required levels rows) refl

-- whether two rows are the same, whether the table has a row, and whether it has every sum, as tests that antt computes
abbrev same_row : Row → Row → Bool
same_row q p = eqb q.0 p.0 && eqb q.1 p.1 && eqb q.2 p.2

same_row_is : (q p : Row) → same_row q p ≡ true → q ≡ p
same_row_is q p e =
    let first_two = and_parts (eqb q.0 p.0 && eqb q.1 p.1) (eqb q.2 p.2) e in
    let each = and_parts (eqb q.0 p.0) (eqb q.1 p.1) first_two.0 in
    let e0 = eqb-true q.0 p.0 each.0 in
    let e1 = eqb-true q.1 p.1 each.1 in
    let e2 = eqb-true q.2 p.2 first_two.1 in
    λ i. (e0 i, e1 i, e2 i)

abbrev is_row : ℕ → ℕ → ℕ → Row → Bool
is_row x a b p = same_row p (x, a, b)

is_row_decides : (x a b : ℕ) (p : Row) → Decides (is_row x a b p) (p ≡ (x, a, b))
is_row_decides x a b p = (
  same_row_is p (x, a, b),
  (λ e. and_from (eqb p.0 x && eqb p.1 a) (eqb p.2 b)
      (and_from (eqb p.0 x) (eqb p.1 a) (eq-eqb p.0 x (ap (λ (q : Row). q.0) e)) (eq-eqb p.1 a (ap (λ (q : Row). q.1) e)))
      (eq-eqb p.2 b (ap (λ (q : Row). q.2) e))),
)

abbrev has_row : List Row → Row → Bool
has_row rows q = list_any (same_row q) rows

has_row_decides : (x a b : ℕ) (ps : List Row) → Decides (has_row ps (x, a, b)) (Contains ps (x, a, b))
has_row_decides x a b ps = (
  Contains-from_any same_row_is (x, a, b) ps,
  (λ s. list_any_at (same_row (x, a, b)) ps s.0 (x, a, b) s.1 (ap (same_row (x, a, b)) s.2 ∙ (is_row_decides x a b (x, a, b)).1 refl)),
)

abbrev every_test : List Row → Bool
every_test rows = all_below (λ x. all_below (λ a. has_row rows (x, a, x - a) || has_row rows (x, x - a, a)) (suc x)) 5

every_from : (rows : List Row) → every_test rows ≡ true → EverySum rows
every_from rows e x a small within =
    let row_of : ℕ → ℕ → Bool = λ x a. has_row rows (x, a, x - a) || has_row rows (x, x - a, a) in
    let outer = all_below_at (λ x. all_below (row_of x) (suc x)) 5 e x (omega arith) in
    let inner = all_below_at (row_of x) (suc x) outer a (omega arith) in
    ⊎_elim (λ t. inl ((has_row_decides x a (x - a) rows).0 t)) (λ t. inr ((has_row_decides x (x - a) a rows).0 t))
    (or_cases (has_row rows (x, a, x - a)) (has_row rows (x, x - a, a)) inner)

abbrev sums_test : List Row → Bool
sums_test rows = list_all (λ p. eqb p.0 (p.1 + p.2)) rows

sums_from : (rows : List Row) → sums_test rows ≡ true → Sums rows
sums_from rows e = λ k d less. eqb-true _ _ (AllPass-from_list_all (λ p. eqb p.0 (p.1 + p.2)) rows e k d less)

-- the table's two tests are all that its agreement rests on
pub covers_by_tests : (rows : List Row) → sums_test rows ≡ true → every_test rows ≡ true → CoversBySum rows
covers_by_tests rows sums every = agree rows (sums_from rows sums) (every_from rows every)
