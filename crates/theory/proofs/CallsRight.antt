-- Each call keeps its laws. Assumes nothing.
use Rattle.std.proofs.Common.{◌≡◌, ℕ, zero, suc, ◌<◌, ◌≤◌, Bool, true, false, not, ◌&&◌, ◌||◌, eqb, ltb, leb, ◌⊎◌, List, [], ◌∷◌, ◌++◌, length, get_or, drop, Result, sym, refl, ap, ◌∙◌, inl, inr, ⊎_elim, arith}
use Rattle.std.specs.List.{AllByRecursion}
use Rattle.std.proofs.lemmas.List.{length-append, length-drop}
use Rattle.std.proofs.lemmas.Bool.{le-leb, lt-leb, lt-ltb, le-ltb, eq-eqb, ne_eqb, or_left, or_right, or_from, and_from, and_parts, cases_Bool, cond-true, cond-false, cond_both, not_from_true, not_from_false, eqb-true, ltb-false}
use Rattle.cost.specs.declared.quote.Quote.{Quote}
use Rattle.theory.specs.declared.part.Part.{Part}
use Rattle.theory.specs.Model.{CutSet, Model, Ascending}
use Rattle.theory.specs.Edits.{Outcome, no_range, part_call, ranged, range_call, declared, apart_call, all_stand, ascending, cut_call, without, drop_call}
use Rattle.theory.specs.Walks.{Plan, plan_call, settled}
use Rattle.theory.specs.Calls.{PartAdded, RangeChanged, PairChanged, SetAdded, SetDropped, PlanCopied, CallsRight}
use Rattle.theory.proofs.Soundness.{length_ranged, stand_from, ascending_from}

-- the tests of a range
bad_range : (floor ceiling : ℕ) → (4 < ceiling) ⊎ (ceiling < floor) → no_range floor ceiling ≡ true
bad_range floor ceiling (inl h) = or_left (ltb 4 ceiling) (ltb ceiling floor) (lt-ltb 4 ceiling h)
bad_range floor ceiling (inr h) = or_right (ltb 4 ceiling) (ltb ceiling floor) (lt-ltb ceiling floor h)

good_range : (floor ceiling : ℕ) → floor ≤ ceiling → ceiling ≤ 4 → no_range floor ceiling ≡ false
good_range floor ceiling low top = or_from (ltb 4 ceiling) (ltb ceiling floor) (le-ltb 4 ceiling top) (le-ltb ceiling floor low)

part_added : (model : Model) (floor ceiling : ℕ) (quotes : List Quote) → PartAdded model floor ceiling quotes
part_added model floor ceiling quotes = record {
  full = λ h. rw (le-leb 64 (length model.parts) h);
  no_range = λ room bad. rw (lt-leb 64 (length model.parts) room, bad_range floor ceiling bad);
  answers = λ room low top. rw (lt-leb 64 (length model.parts) room, good_range floor ceiling low top);
  parts = λ room low top. rw (lt-leb 64 (length model.parts) room, good_range floor ceiling low top);
  same_apart = λ a b. same (λ m. m.apart a b) refl;
  same_sets = same (λ m. m.sets) refl;
  apart_from_none = λ s b. same (λ m. m.apart (length model.parts) b) refl ∙ ⊎_elim
      (λ (t : model.apart (length model.parts) b ≡ true). absurd (let w = s.only_standing (length model.parts) b t in omega (arith, w.0)))
      (λ (t : model.apart (length model.parts) b ≡ false). t)
      (cases_Bool (model.apart (length model.parts) b));
}
  where
    same : {X : Type 0} (f : Model → X) → f (record { parts = model.parts ++ (record { floor = floor; ceiling = ceiling; quotes = quotes } ∷ []); apart = model.apart; sets = model.sets }) ≡ f model → f (part_call model floor ceiling quotes).1 ≡ f model
    same f e =
        let P : Outcome ℕ → Type 0 = λ o. f o.1 ≡ f model in
        cond_both (leb 64 (length model.parts)) _ _ P (λ _. refl) (λ _. cond_both (no_range floor ceiling) _ _ P (λ _. refl) (λ _. e))

ranged_at : (ps : List Part) (n floor ceiling : ℕ) (d : Part) → n < length ps → get_or (ranged ps n floor ceiling) n d ≡ record { floor = floor; ceiling = ceiling; quotes = (get_or ps n d).quotes }
ranged_at [] n floor ceiling d h = absurd (omega arith)
ranged_at (p ∷ ps) zero floor ceiling d h = refl
ranged_at (p ∷ ps) (suc n) floor ceiling d h = ranged_at ps n floor ceiling d (omega arith)

ranged_other : (ps : List Part) (n floor ceiling k : ℕ) (d : Part) → (k ≡ n → ⊥) → get_or (ranged ps n floor ceiling) k d ≡ get_or ps k d
ranged_other [] n floor ceiling k d h = refl
ranged_other (p ∷ ps) zero floor ceiling zero d h = absurd (h refl)
ranged_other (p ∷ ps) zero floor ceiling (suc k) d h = refl
ranged_other (p ∷ ps) (suc n) floor ceiling zero d h = refl
ranged_other (p ∷ ps) (suc n) floor ceiling (suc k) d h = ranged_other ps n floor ceiling k d (λ e. h (ap suc e))

range_changed : (model : Model) (n floor ceiling : ℕ) → RangeChanged model n floor ceiling
range_changed model n floor ceiling = record {
  unknown = λ h. rw (le-leb (length model.parts) n h);
  no_range = λ stands bad. rw (lt-leb (length model.parts) n stands, bad_range floor ceiling bad);
  answers = λ stands low top. rw (lt-leb (length model.parts) n stands, good_range floor ceiling low top);
  changed = λ stands low top d. rw (lt-leb (length model.parts) n stands, good_range floor ceiling low top) (ranged_at model.parts n floor ceiling d stands);
  others = λ k d differ. same (λ m. get_or m.parts k d) (ranged_other model.parts n floor ceiling k d differ);
  as_many = same (λ m. length m.parts) (length_ranged model.parts n floor ceiling);
  same_apart = λ a b. same (λ m. m.apart a b) refl;
  same_sets = same (λ m. m.sets) refl;
}
  where
    same : {X : Type 0} (f : Model → X) → f (record { parts = ranged model.parts n floor ceiling; apart = model.apart; sets = model.sets }) ≡ f model → f (range_call model n floor ceiling).1 ≡ f model
    same f e =
        let P : Outcome (Unit {0}) → Type 0 = λ o. f o.1 ≡ f model in
        cond_both (leb (length model.parts) n) _ _ P (λ _. refl) (λ _. cond_both (no_range floor ceiling) _ _ P (λ _. refl) (λ _. e))

pair_changed : (model : Model) (a b : ℕ) (value : Bool) → PairChanged model a b value
pair_changed model a b value = record {
  unknown = λ h. rw (either_unknown h);
  itself = λ stands e. rw (both_stand stands (omega (arith, e)), eq-eqb a b e);
  answers = λ ha hb differ. rw (both_stand ha hb, ne_eqb a b differ);
  changed = λ ha hb differ. (
    rw (both_stand ha hb, ne_eqb a b differ) (cond-true _ value (model.apart a b) (or_left (eqb a a && eqb b b) (eqb a b && eqb b a) (and_from (eqb a a) (eqb b b) (eq-eqb a a refl) (eq-eqb b b refl)))),
    rw (both_stand ha hb, ne_eqb a b differ) (cond-true _ value (model.apart b a) (or_right (eqb b a && eqb a b) (eqb b b && eqb a a) (and_from (eqb b b) (eqb a a) (eq-eqb b b refl) (eq-eqb a a refl)))),
  );
  others = λ x y first second. same (λ m. m.apart x y) (cond-false _ value (model.apart x y) (other_pair x y first second));
  same_parts = same (λ m. m.parts) refl;
  same_sets = same (λ m. m.sets) refl;
}
  where
    either_unknown : (length model.parts ≤ a) ⊎ (length model.parts ≤ b) → (leb (length model.parts) a || leb (length model.parts) b) ≡ true
    either_unknown (inl h) = or_left (leb (length model.parts) a) (leb (length model.parts) b) (le-leb (length model.parts) a h)
    either_unknown (inr h) = or_right (leb (length model.parts) a) (leb (length model.parts) b) (le-leb (length model.parts) b h)

    both_stand : a < length model.parts → b < length model.parts → (leb (length model.parts) a || leb (length model.parts) b) ≡ false
    both_stand ha hb = or_from (leb (length model.parts) a) (leb (length model.parts) b) (lt-leb (length model.parts) a ha) (lt-leb (length model.parts) b hb)

    not_both : (x y c d : ℕ) → ((x ≡ c) × (y ≡ d) → ⊥) → (eqb x c && eqb y d) ≡ false
    not_both x y c d h = ⊎_elim
        (λ (t : (eqb x c && eqb y d) ≡ true). absurd (let w = and_parts (eqb x c) (eqb y d) t in h (eqb-true x c w.0, eqb-true y d w.1)))
        (λ t. t)
        (cases_Bool (eqb x c && eqb y d))

    other_pair : (x y : ℕ) → ((x ≡ a) × (y ≡ b) → ⊥) → ((x ≡ b) × (y ≡ a) → ⊥) → ((eqb x a && eqb y b) || (eqb x b && eqb y a)) ≡ false
    other_pair x y first second = or_from (eqb x a && eqb y b) (eqb x b && eqb y a) (not_both x y a b first) (not_both x y b a second)

    same : {X : Type 0} (f : Model → X) → f (record { parts = model.parts; apart = declared model.apart a b value; sets = model.sets }) ≡ f model → f (apart_call model a b value).1 ≡ f model
    same f e =
        let P : Outcome (Unit {0}) → Type 0 = λ o. f o.1 ≡ f model in
        cond_both (leb (length model.parts) a || leb (length model.parts) b) _ _ P (λ _. refl) (λ _. cond_both (eqb a b) _ _ P (λ _. refl) (λ _. e))

-- the tests of members
stands_to : (n : ℕ) (ms : List ℕ) → AllByRecursion (λ m. m < n) ms → all_stand n ms ≡ true
stands_to n [] h = refl
stands_to n (m ∷ ms) h = and_from (ltb m n) (all_stand n ms) (lt-ltb m n h.0) (stands_to n ms h.1)

pub ascends_to : (ms : List ℕ) → Ascending ms → ascending ms ≡ true
ascends_to [] h = refl
ascends_to (a ∷ []) h = refl
ascends_to (a ∷ b ∷ ms) h = and_from (ltb a b) (ascending (b ∷ ms)) (lt-ltb a b h.0) (ascends_to (b ∷ ms) h.1)

module _ (model : Model) (required : ℕ) (members : List ℕ) where
  bad_level : (required ≡ 0) ⊎ (4 < required) → (eqb required 0 || ltb 4 required) ≡ true
  bad_level (inl h) = or_left (eqb required 0) (ltb 4 required) (eq-eqb required 0 h)
  bad_level (inr h) = or_right (eqb required 0) (ltb 4 required) (lt-ltb 4 required h)

  good_level : 1 ≤ required → required ≤ 4 → (eqb required 0 || ltb 4 required) ≡ false
  good_level low top = or_from (eqb required 0) (ltb 4 required) (ne_eqb required 0 (λ e. omega arith)) (le-ltb 4 required top)

  bad_count : (length members ≡ 0) ⊎ (8 < length members) → (eqb (length members) 0 || ltb 8 (length members)) ≡ true
  bad_count (inl h) = or_left (eqb (length members) 0) (ltb 8 (length members)) (eq-eqb (length members) 0 h)
  bad_count (inr h) = or_right (eqb (length members) 0) (ltb 8 (length members)) (lt-ltb 8 (length members) h)

  good_count : 1 ≤ length members → length members ≤ 8 → (eqb (length members) 0 || ltb 8 (length members)) ≡ false
  good_count some few = or_from (eqb (length members) 0) (ltb 8 (length members)) (ne_eqb (length members) 0 (λ e. omega arith)) (le-ltb 8 (length members) few)

  one_unknown : (AllByRecursion (λ m. m < length model.parts) members → ⊥) → not (all_stand (length model.parts) members) ≡ true
  one_unknown h = ⊎_elim
      (λ (t : all_stand (length model.parts) members ≡ true). absurd (h (stand_from (length model.parts) members t)))
      (λ (t : all_stand (length model.parts) members ≡ false). not_from_false (all_stand (length model.parts) members) t)
      (cases_Bool (all_stand (length model.parts) members))

  all_known : AllByRecursion (λ m. m < length model.parts) members → not (all_stand (length model.parts) members) ≡ false
  all_known h = not_from_true (all_stand (length model.parts) members) (stands_to (length model.parts) members h)

  not_sorted : (Ascending members → ⊥) → not (ascending members) ≡ true
  not_sorted h = ⊎_elim
      (λ (t : ascending members ≡ true). absurd (h (ascending_from members t)))
      (λ (t : ascending members ≡ false). not_from_false (ascending members) t)
      (cases_Bool (ascending members))

  sorted : Ascending members → not (ascending members) ≡ false
  sorted h = not_from_true (ascending members) (ascends_to members h)

  set_same : {X : Type 0} (f : Model → X) → f (record { parts = model.parts; apart = model.apart; sets = model.sets ++ (record { required = required; members = members } ∷ []) }) ≡ f model → f (cut_call model required members).1 ≡ f model
  set_same f e =
      let P : Outcome ℕ → Type 0 = λ o. f o.1 ≡ f model in
      cond_both (leb 128 (length model.sets)) _ _ P (λ _. refl)
      (λ _. cond_both (eqb required 0 || ltb 4 required) _ _ P (λ _. refl)
      (λ _. cond_both (eqb (length members) 0 || ltb 8 (length members)) _ _ P (λ _. refl)
      (λ _. cond_both (not (all_stand (length model.parts) members)) _ _ P (λ _. refl)
      (λ _. cond_both (not (ascending members)) _ _ P (λ _. refl) (λ _. e)))))

  set_added : SetAdded model required members
  set_added = record {
    full = λ h. rw (le-leb 128 (length model.sets) h);
    no_level = λ room bad. rw (lt-leb 128 (length model.sets) room, bad_level bad);
    no_count = λ room low top bad. rw (lt-leb 128 (length model.sets) room, good_level low top, bad_count bad);
    unknown = λ room low top some few bad. rw (lt-leb 128 (length model.sets) room, good_level low top, good_count some few, one_unknown bad);
    unsorted = λ room low top some few stand bad. rw (lt-leb 128 (length model.sets) room, good_level low top, good_count some few, all_known stand, not_sorted bad);
    answers = λ room low top some few stand rising. rw (lt-leb 128 (length model.sets) room, good_level low top, good_count some few, all_known stand, sorted rising);
    sets = λ room low top some few stand rising. rw (lt-leb 128 (length model.sets) room, good_level low top, good_count some few, all_known stand, sorted rising);
    same_parts = set_same (λ m. m.parts) refl;
    same_apart = λ a b. set_same (λ m. m.apart a b) refl;
  }

without_before : (ss : List CutSet) (n k : ℕ) (d : CutSet) → k < n → get_or (without ss n) k d ≡ get_or ss k d
without_before [] n k d h = refl
without_before (s ∷ ss) zero k d h = absurd (omega arith)
without_before (s ∷ ss) (suc n) zero d h = refl
without_before (s ∷ ss) (suc n) (suc k) d h = without_before ss n k d (omega arith)

without_later : (ss : List CutSet) (n k : ℕ) (d : CutSet) → n ≤ k → n < length ss → get_or (without ss n) k d ≡ get_or ss (suc k) d
without_later [] n k d h stands = refl
without_later (s ∷ ss) zero k d h stands = refl
without_later (s ∷ ss) (suc n) zero d h stands = absurd (omega arith)
without_later (s ∷ ss) (suc n) (suc k) d h stands = without_later ss n k d (omega arith) (omega arith)

without_long : (ss : List CutSet) (n : ℕ) → n < length ss → suc (length (without ss n)) ≡ length ss
without_long [] n h = absurd (omega arith)
without_long (s ∷ ss) zero h = refl
without_long (s ∷ ss) (suc n) h = ap suc (without_long ss n (omega arith))

set_dropped : (model : Model) (n : ℕ) → SetDropped model n
set_dropped model n = record {
  unknown = λ h. rw (le-leb (length model.sets) n h);
  answers = λ stands. rw (lt-leb (length model.sets) n stands);
  one_fewer = λ stands. rw (lt-leb (length model.sets) n stands) (without_long model.sets n stands);
  before = λ k d h. same (λ m. get_or m.sets k d) (without_before model.sets n k d h);
  later = λ stands k d h. rw (lt-leb (length model.sets) n stands) (without_later model.sets n k d h stands);
  same_parts = same (λ m. m.parts) refl;
  same_apart = λ a b. same (λ m. m.apart a b) refl;
}
  where
    same : {X : Type 0} (f : Model → X) → f (record { parts = model.parts; apart = model.apart; sets = without model.sets n }) ≡ f model → f (drop_call model n).1 ≡ f model
    same f e =
        let P : Outcome (Unit {0}) → Type 0 = λ o. f o.1 ≡ f model in
        cond_both (leb (length model.sets) n) _ _ P (λ _. refl) (λ _. e)

front_of : (xs ys : List ℕ) (k d : ℕ) → k < length xs → get_or (xs ++ ys) k d ≡ get_or xs k d
front_of [] ys k d h = absurd (omega arith)
front_of (x ∷ xs) ys zero d h = refl
front_of (x ∷ xs) ys (suc k) d h = front_of xs ys k d (omega arith)

drop_none : (n : ℕ) → drop {A = ℕ} n [] ≡ []
drop_none zero = refl
drop_none (suc n) = refl

back_of : (xs zs : List ℕ) (k d : ℕ) → length xs ≤ k → get_or (xs ++ drop (length xs) zs) k d ≡ get_or zs k d
back_of [] zs k d h = refl
back_of (x ∷ xs) [] zero d h = absurd (omega arith)
back_of (x ∷ xs) [] (suc k) d h = ap (λ (zs : List ℕ). get_or (xs ++ zs) k d) (sym (drop_none (length xs))) ∙ back_of xs [] k d (omega arith)
back_of (x ∷ xs) (z ∷ zs) zero d h = absurd (omega arith)
back_of (x ∷ xs) (z ∷ zs) (suc k) d h = back_of xs zs k d (omega arith)

plan_copied : {A : Type 0} (best : Plan A) (buffer : List ℕ) → PlanCopied best buffer
plan_copied {A} best buffer = record {
  short = λ h. rw (lt-ltb (length buffer) (length best.levels) h);
  answers = λ h. rw (le-ltb (length buffer) (length best.levels) h);
  front = λ h k d less. rw (le-ltb (length buffer) (length best.levels) h) (front_of best.levels (drop (length best.levels) buffer) k d less);
  untouched = λ k d past. either (λ b. get_or b k d) (λ _. back_of best.levels buffer k d past);
  as_long = either length (λ room. omega (arith, length-append best.levels (drop (length best.levels) buffer), length-drop (length best.levels) buffer));
}
  where
    either : (f : List ℕ → ℕ) → (length best.levels ≤ length buffer → f (best.levels ++ drop (length best.levels) buffer) ≡ f buffer) → f (plan_call (length best.levels) (settled best) buffer).1 ≡ f buffer
    either f e =
        let P : Result ℕ ℕ × List ℕ → Type 0 = λ o. f o.1 ≡ f buffer in
        cond_both (ltb (length buffer) (length best.levels)) _ _ P (λ _. refl) (λ room. e (ltb-false (length buffer) (length best.levels) room))

pub calls_right : (A : Type 0) → CallsRight A
calls_right A = record {
  part = part_added;
  range = range_changed;
  pair = pair_changed;
  cut = set_added;
  drop_set = set_dropped;
  plan = plan_copied;
  no_plan_running = λ n path best buffer. refl;
  no_plan_blocked = λ n k buffer. refl;
}
