-- What a scale is asked of a set: who is apart, the rows, the levels, and which set is the first that fails. Assumes nothing.
use Rattle.std.proofs.Common.{◌≡◌, ℕ, ◌+◌, ◌-◌, ◌*◌, ◌%◌, ◌^◌, ◌<◌, ◌≤◌, Bool, true, false, cond, ltb, List, [], ◌∷◌, length, get_or, take, drop, Some, None, sym, refl, ap, ◌∙◌, ⊎_elim, add-one, arith, pow_mono}
use Rattle.std.specs.List.{AllByRecursion}
use Rattle.std.proofs.ByRecursion.{All-weaker}
use Rattle.std.proofs.lemmas.Nat.{one_shl}
use Rattle.std.proofs.lemmas.List.{length-map, length-take-le, get_or_append_left, get_or-append_right, get_or-take, get_or-drop, get_or-map, drop-map, at_drop_more}
use Rattle.std.proofs.lemmas.Bool.{cases_Bool, cases_lt, cond-true, and_from, lt-ltb}
use Rattle.std.proofs.lemmas.Bool.Decides.{nat_tests}
use Rattle.arrayvec.specs.ArrayVec.{ArrayVec}
use Rattle.scale.specs.Question.{Meaning, answer}
use Rattle.scale.specs.Rows.{row_of}
use Rattle.scale.proofs.Bits.{row_below}
use Rattle.theory.specs.declared.part.Part.{Part}
use Rattle.theory.specs.Model.{CutSet, Model, Sound}
use Rattle.theory.specs.Allocations.{levels_of, rows, meets}
use Rattle.theory.specs.Walks.{ceilings, beyond, filled, all_pass, first_failing}
use Rattle.draft.specs.Drafts.{apart_answer}
use Rattle.search.specs.declared.path.Path.{Path}
use Rattle.search.specs.State.{path_of, first_unmet}
use Rattle.search.specs.Ties.{RowsTied, PathTied}
use Rattle.search.proofs.Stored.{set_sound}

-- a pair with a number that does not stand is not apart
pub none_apart : (m : Model) → Sound m → (a b : ℕ) → apart_answer m a b ≡ None → m.apart a b ≡ false
none_apart m sound a b asked = ⊎_elim
    (λ (t : m.apart a b ≡ true).
    let w = sound.only_standing a b t in
    let both = and_from (ltb a (length m.parts)) (ltb b (length m.parts)) (lt-ltb a (length m.parts) w.0) (lt-ltb b (length m.parts) w.1) in
    let some : apart_answer m a b ≡ Some (m.apart a b) = cond-true _ (Some (m.apart a b)) None both in
    absurd (let z : ◌≡◌ {A = ℕ} 0 1 = cc in omega arith))
    (λ (t : m.apart a b ≡ false). t)
    (cases_Bool (m.apart a b))

-- the bit of one of eight members
pub bit_value : (j : ℕ) → j < 8 → 1 * 2 ^ j % 256 ≡ 2 ^ j
bit_value j few = one_shl j 8 few

-- with it a row still has eight bits
pub row_small : (test : ℕ → Bool) (j : ℕ) → j < 8 → row_of test j + 2 ^ j < 256
row_small test j few = omega (arith, row_below test j, pow_mono {i = j} {j = 7} (omega arith))

pub row_more : (test : ℕ → Bool) (j : ℕ) → row_of test (j + 1) ≡ row_of test j + cond (test j) (2 ^ j) 0
row_more test j = ap (row_of test) (add-one j)

-- the path with the ceilings beyond it is what the table of levels holds
pub filled_at : (parts : List Part) (path : Path) → PathTied parts path → length parts ≤ length path.levels → (m : ℕ) → m < length parts → get_or (filled parts (path_of path)) m 0 ≡ get_or path.levels m 0
filled_at parts path tied room m stands =
    let n = path.count in
    let front = take n path.levels in
    let long : length front ≡ n = length-take-le n path.levels (omega (arith, tied.0)) in
    ⊎_elim
    (λ (on : m < n). get_or_append_left front (ceilings (beyond parts front)) 0 m (omega arith) ∙ get_or-take n path.levels m 0 on)
    (λ (past : n ≤ m).
    get_or-append_right front (ceilings (beyond parts front)) n m 0 long past
    ∙ ap (λ k. get_or (ceilings (drop k parts)) (m - n) 0) long
    ∙ ap (λ (ls : List ℕ). get_or ls (m - n) 0) (sym (drop-map (λ (p : Part). p.ceiling) n parts))
    ∙ get_or-drop n (ceilings parts) (m - n) 0
    ∙ ap (λ k. get_or (ceilings parts) k 0) (back n m past)
    ∙ sym (tied.2 m past stands))
    (cases_lt m n)
  where
    back : (n m : ℕ) → n ≤ m → n + (m - n) ≡ m
    back n m h = omega arith

-- two allocations that agree at the members give them the same levels
pub same_levels : (xs ys : List ℕ) (ms : List ℕ) → AllByRecursion (λ m. get_or xs m 0 ≡ get_or ys m 0) ms → levels_of xs ms ≡ levels_of ys ms
same_levels xs ys [] agree = refl
same_levels xs ys (m ∷ ms) agree = λ i. agree.0 i ∷ same_levels xs ys ms agree.1 i

-- what is asked of a standing set is whether the path meets it
pub asked_meets : (means : Meaning) (m : Model) (path : Path) (table : ArrayVec (ArrayVec ℕ)) (i : ℕ) (s : CutSet) (row : ArrayVec ℕ) → Sound m → PathTied m.parts path → length path.levels ≡ 64 → RowsTied m table → i < length m.sets → s ≡ get_or m.sets i s → row ≡ get_or table.items i row → answer means s.required (levels_of path.levels s.members) row.items ≡ meets means m (filled m.parts (path_of path)) s
asked_meets means m path table i s row sound path-tied long rows-tied within is at =
    let f : CutSet → List ℕ = λ set. rows m.apart set.members in
    let as_many : length table.items ≡ length m.sets = sym (length-map table.items (λ (r : ArrayVec ℕ). r.items)) ∙ ap length rows-tied ∙ length-map m.sets f in
    let its_rows : row.items ≡ rows m.apart s.members =
    ap (λ (r : ArrayVec ℕ). r.items) at ∙ sym (get_or-map (λ (r : ArrayVec ℕ). r.items) table.items i row [] (omega arith)) ∙ ap (λ rs. get_or rs i []) rows-tied ∙ get_or-map f m.sets i s [] within ∙ ap f (sym is) in
    let levels = filled m.parts (path_of path) in
    let agree : AllByRecursion (λ k. get_or path.levels k 0 ≡ get_or levels k 0) s.members =
    All-weaker (λ k. k < length m.parts) (λ k. get_or path.levels k 0 ≡ get_or levels k 0) (λ k stands. sym (filled_at m.parts path path-tied (omega (arith, sound.few_parts)) k stands)) s.members
    (set_sound m sound m.sets refl i s within is).standing in
    let its_levels = same_levels path.levels levels s.members agree in
    λ t. answer means s.required (its_levels t) (its_rows t)

-- every set before place i passes
pub record PassesUpto (test : CutSet → Bool) (sets : List CutSet) (i : ℕ) : Type 0 where
  pub passes : all_pass test sets ≡ all_pass test (drop i sets)
  pub failing : first_failing test sets ≡ i + first_failing test (drop i sets)

module _ (test : CutSet → Bool) (sets : List CutSet) (i : ℕ) where
  module _ (s : CutSet) (within : i < length sets) (is : s ≡ get_or sets i s) (before : PassesUpto test sets i) where
    pub fails_here : test s ≡ false → Some i ≡ first_unmet test sets
    fails_here fails =
        let passes = at_drop_more (all_pass test) sets i s within in
        let failing = at_drop_more (first_failing test) sets i s within in
        grind (arith, nat_tests)

    pub passes_here : test s ≡ true → PassesUpto test sets (i + 1)
    passes_here met =
        let passes = at_drop_more (all_pass test) sets i s within in
        let failing = at_drop_more (first_failing test) sets i s within in
        record { passes = grind (arith, nat_tests); failing = grind (arith, nat_tests) }
