-- The search is exact. Assumes nothing.
use Rattle.std.proofs.Common.{◌≡◌, ℕ, zero, suc, ◌+◌, ◌<◌, ◌≤◌, Bool, true, false, cond, ◌&&◌, ◌↔◌, List, [], ◌∷◌, length, get_or, Some, None, Option, sym, refl, ap, ◌∙◌, subst, ⊎_elim, suc-add, zero-add, arith}
use Rattle.std.proofs.lemmas.Bool.{both_ways, cases_Bool}
use Rattle.scale.specs.Question.{Meaning, Laws}
use Rattle.cost.specs.Laws.{AtMost, CostLaws}
use Rattle.theory.specs.declared.part.Part.{Part}
use Rattle.theory.specs.declared.verdict.Verdict.TheVariants.{Settled, Blocked}
use Rattle.theory.specs.Model.{CutSet, Model, Sound}
use Rattle.theory.specs.Allocations.{Rule, meets, cost}
use Rattle.theory.specs.Walks.{Walk, running, settled, blocked, Plan, onward, decide, step, work, taken, told, new_walk, advance, beyond, filled, all_pass, too_dear, first_failing, ceilings}
use Rattle.theory.specs.Partials.{Partial, partials}
use Rattle.theory.specs.Promise.{Ended, IsBlocked, Hopeless, FirstUnmet, BestPlan, InReach, Promised, Right, SearchExact}
use Rattle.theory.proofs.Order.{order_total}
use Rattle.theory.proofs.Remaining.{remaining, remaining_some, Below, falls, falls_more}
use Rattle.theory.proofs.Sets.{inside_ceilings, true_all, idle_fails, reach_meets}
use Rattle.theory.proofs.Kept.{Holds, kept}

-- the first set that fails a test
failing : (test : CutSet → Bool) (ss : List CutSet) → all_pass test ss ≡ false → (first_failing test ss < length ss) × ((d : CutSet) → test (get_or ss (first_failing test ss) d) ≡ false) × ((k : ℕ) → k < first_failing test ss → (d : CutSet) → test (get_or ss k d) ≡ true)
failing test [] e = absurd (both_ways true e refl)
failing test (s ∷ ss) e = go (test s) refl e (failing test ss)
  where
    n : ℕ
    n = first_failing test ss

    go : (b : Bool) → test s ≡ b → (b && all_pass test ss) ≡ false → (all_pass test ss ≡ false → (n < length ss) × ((d : CutSet) → test (get_or ss n d) ≡ false) × ((k : ℕ) → k < n → (d : CutSet) → test (get_or ss k d) ≡ true)) →
        (cond b (suc n) 0 < suc (length ss)) × ((d : CutSet) → test (get_or (s ∷ ss) (cond b (suc n) 0) d) ≡ false) × ((k : ℕ) → k < cond b (suc n) 0 → (d : CutSet) → test (get_or (s ∷ ss) k d) ≡ true)
    go true b e ih = let h = ih e in (omega (arith, h.0), h.1, elim [ zero ↦ λ _ d. b | suc k ↦ λ lt d. h.2 k (omega arith) d ])
    go false b e ih = (omega arith, λ d. b, λ k lt d. absurd (omega arith))

module _ {A : Type 0} (means : Meaning) (laws : Laws means) (rule : Rule A) (rule_laws : CostLaws rule.joined rule.lesser) (model : Model) (sound : Sound model) where
  abbrev Kept : Walk A → Type 0
  Kept walk = Holds means rule model walk

  -- a settled plan is the best
  best_if_kept : (plan : Plan A) → Kept (settled plan) → BestPlan means rule model plan.levels plan.amount
  best_if_kept plan h = record {
    fit = h.0;
    cheapest = λ other i m. (h.1 other (i, m)).cheaper;
    earliest = λ other i m a ne. ⊎_elim (λ e. absurd (ne e)) (λ e. e) ((h.1 other (i, m)).sooner a);
  }

  -- a set that blocks is the first that the ceilings do not meet
  unmet_if_kept : (n : ℕ) → Kept (blocked n) → FirstUnmet means rule model n
  unmet_if_kept n h = subst (λ k. FirstUnmet means rule model k) (sym h.1) (record { standing = f.0; unmet = f.1; before_met = f.2 })
    where
      test : CutSet → Bool
      test = meets means model (ceilings model.parts)

      not_all : all_pass (meets means model (ceilings model.parts)) model.sets ≡ false
      not_all = ⊎_elim
          (λ e. absurd (h.0 (ceilings model.parts) (inside_ceilings model.parts sound.parts, true_all (meets means model (ceilings model.parts)) model.sets e)))
          (λ e. e)
          (cases_Bool (all_pass (meets means model (ceilings model.parts)) model.sets))

      f : (first_failing (meets means model (ceilings model.parts)) model.sets < length model.sets) × ((d : CutSet) → meets means model (ceilings model.parts) (get_or model.sets (first_failing (meets means model (ceilings model.parts)) model.sets) d) ≡ false) × ((k : ℕ) → k < first_failing (meets means model (ceilings model.parts)) model.sets → (d : CutSet) → meets means model (ceilings model.parts) (get_or model.sets k d) ≡ true)
      f = failing (meets means model (ceilings model.parts)) model.sets not_all

  right_if_kept : (walk : Walk A) → Kept walk → Right means rule model walk
  right_if_kept (running path None) h = tt
  right_if_kept (running path (Some plan)) h = h.2.0
  right_if_kept (settled plan) h = best_if_kept plan h
  right_if_kept (blocked n) h = ((λ x i m. h.0 x (i, m)), unmet_if_kept n h)

  -- what is left of the partial allocations after k steps
  abbrev Spent : ℕ → Walk A → Type 0
  Spent k (running path best) = k + remaining model.parts path ≤ partials model.parts
  Spent k (settled plan) = Unit {0}
  Spent k (blocked n) = Unit {0}

  spent_onward : (k n : ℕ) (o : Option (List ℕ)) (best : Option (Plan A)) → Below model.parts o n → k + n ≤ partials model.parts → Spent (suc k) (onward means rule model o best)
  spent_onward k n (Some path) best b h = omega arith
  spent_onward k n None (Some plan) b h = tt
  spent_onward k n None None b h = tt

  spent_decide : (k : ℕ) (m d : Bool) (rest : List Part) (path : List ℕ) (best : Option (Plan A)) → beyond model.parts path ≡ rest → Partial model.parts path → Spent k (running path best) → Spent (suc k) (decide means rule model m d rest path best)
  spent_decide k false d rest path best e on h = spent_onward k (remaining model.parts path) (advance model.parts path) best (falls model.parts path on) h
  spent_decide k true true rest path best e on h = spent_onward k (remaining model.parts path) (advance model.parts path) best (falls model.parts path on) h
  spent_decide k true false [] path best e on h = spent_onward k (remaining model.parts path) (advance model.parts path) (Some (record { levels = path; amount = cost rule model path })) (falls model.parts path on) h
  spent_decide k true false (q ∷ rest) path best e on h = omega (arith, falls_more model.parts path q rest e on)

  spent_step : (k : ℕ) (walk : Walk A) → Kept walk → Spent k walk → Spent (suc k) (step means rule model walk)
  spent_step k (running path best) h s = spent_decide k (all_pass (meets means model (filled model.parts path)) model.sets) (too_dear rule best (cost rule model path)) (beyond model.parts path) path best refl h.0 s
  spent_step k (settled plan) h s = tt
  spent_step k (blocked n) h s = tt

  after : (k j : ℕ) (walk : Walk A) → Kept walk → Spent j walk → Kept (work means rule model k walk) × Spent (j + k) (work means rule model k walk)
  after zero j walk h s = (h, subst (λ n. Spent n walk) (omega arith) s)
  after (suc k) j walk h s =
      let later = after k (suc j) (step means rule model walk) (kept means rule model laws rule_laws sound walk h) (spent_step j walk h s) in
      (later.0, subst (λ n. Spent n (work means rule model k (step means rule model walk))) (omega arith) later.1)

  from_new : (k : ℕ) → Kept (work means rule model k new_walk) × Spent k (work means rule model k new_walk)
  from_new k =
      let a = after k 0 new_walk (tt, (λ x f e. absurd e), tt) (omega arith) in
      (a.0, subst (λ n. Spent n (work means rule model k new_walk)) (zero-add k) a.1)

  -- all that is promised of the verdict of such a walk
  promised_if_kept : (k : ℕ) (walk : Walk A) → Kept walk → Spent k walk → Promised means rule model k (told means rule model walk)
  promised_if_kept k walk h s = record {
    blocked_exactly = exactly walk h;
    blocked_by = λ n e. by walk h n e;
    settled_with = λ a e. with_plan walk h a e;
    ends = λ enough. ended walk h s enough;
    within_reach = λ r. never walk h r;
    never_idle = λ some levels amount p z. idle_fails means laws model sound levels model.sets z sound.sets p.meets_all some;
  }
    where
      exactly : (walk : Walk A) → Kept walk → Ended (told means rule model walk) → (IsBlocked (told means rule model walk) ↔ Hopeless means rule model)
      exactly (running path best) h e = absurd e
      exactly (settled plan) h e = ((λ b. absurd b), λ no_hope. no_hope plan.levels h.0.inside h.0.meets_all)
      exactly (blocked n) h e = ((λ b x i m. h.0 x (i, m)), λ no_hope. tt)

      by : (walk : Walk A) → Kept walk → (n : ℕ) → told means rule model walk ≡ Blocked n → FirstUnmet means rule model n
      by (running path best) h n e = absurd (let z : ◌≡◌ {A = ℕ} 0 1 = cc in omega arith)
      by (settled plan) h n e = absurd (let z : ◌≡◌ {A = ℕ} 0 1 = cc in omega arith)
      by (blocked m) h n e = let same : m ≡ n = cc in subst (λ k. FirstUnmet means rule model k) same (unmet_if_kept m h)

      with_plan : (walk : Walk A) → Kept walk → (a : A) → told means rule model walk ≡ Settled a → (levels : List ℕ) × BestPlan means rule model levels a
      with_plan (running path best) h a e = absurd (let z : ◌≡◌ {A = ℕ} 0 1 = cc in omega arith)
      with_plan (settled plan) h a e = let same : plan.amount ≡ a = cc in (plan.levels, subst (λ (b : A). BestPlan means rule model plan.levels b) same (best_if_kept plan h))
      with_plan (blocked n) h a e = absurd (let z : ◌≡◌ {A = ℕ} 0 1 = cc in omega arith)

      ended : (walk : Walk A) → Kept walk → Spent k walk → partials model.parts ≤ k → Ended (told means rule model walk)
      ended (running path best) h s le = omega (arith, remaining_some model.parts path h.0)
      ended (settled plan) h s le = tt
      ended (blocked n) h s le = tt

      never : (walk : Walk A) → Kept walk → InReach means rule model → IsBlocked (told means rule model walk) → ⊥
      never (running path best) h r b = b
      never (settled plan) h r b = b
      never (blocked n) h r b = h.0 (ceilings model.parts) (inside_ceilings model.parts sound.parts, reach_meets means laws model sound r)

  -- two best plans are one
  one_best : (xs ys : List ℕ) (a b : A) → BestPlan means rule model xs a → BestPlan means rule model ys b → xs ≡ ys
  one_best xs ys a b p q = order_total xs ys
      (λ differ. p.earliest ys q.fit.inside q.fit.meets_all (subst (λ (c : A). AtMost rule.lesser c a) q.fit.costs (q_first)) (λ e. differ (sym e)))
      (λ differ. q.earliest xs p.fit.inside p.fit.meets_all (subst (λ (c : A). AtMost rule.lesser c b) p.fit.costs (p_first)) differ)
    where
      q_first : AtMost rule.lesser b a
      q_first = subst (λ (c : A). AtMost rule.lesser b c) (sym p.fit.costs) (q.cheapest xs p.fit.inside p.fit.meets_all)

      p_first : AtMost rule.lesser a b
      p_first = subst (λ (c : A). AtMost rule.lesser a c) (sym q.fit.costs) (p.cheapest ys q.fit.inside q.fit.meets_all)

  -- where there is a best plan, the walk settles with it
  settles : (xs : List ℕ) (a : A) → BestPlan means rule model xs a → (k : ℕ) → partials model.parts ≤ k → work means rule model k new_walk ≡ settled (record { levels = xs; amount = a })
  settles xs a p k enough = go (work means rule model k new_walk) (from_new k).0 ((promised_if_kept k (work means rule model k new_walk) (from_new k).0 (from_new k).1).ends enough)
    where
      go : (walk : Walk A) → Kept walk → Ended (told means rule model walk) → walk ≡ settled (record { levels = xs; amount = a })
      go (running path best) h e = absurd e
      go (settled plan) h e =
          let levels_same : plan.levels ≡ xs = one_best plan.levels xs plan.amount a (best_if_kept plan h) p in
          let amount_same : plan.amount ≡ a = h.0.costs ∙ ap (cost rule model) levels_same ∙ sym p.fit.costs in
          λ i. settled (record { levels = levels_same i; amount = amount_same i })
      go (blocked n) h e = absurd (h.0 xs (p.fit.inside, p.fit.meets_all))

  -- grants add up
  adds : (j k : ℕ) (walk : Walk A) → work means rule model (j + k) walk ≡ work means rule model k (work means rule model j walk)
  adds zero k walk = ap (λ n. work means rule model n walk) (zero-add k)
  adds (suc j) k walk = ap (λ n. work means rule model n walk) (suc-add j k) ∙ adds j k (step means rule model walk)

  still_settled : (j : ℕ) (plan : Plan A) → work means rule model j (settled plan) ≡ settled plan
  still_settled zero plan = refl
  still_settled (suc j) plan = still_settled j plan

  still_blocked : (j n : ℕ) → work means rule model j (blocked n) ≡ blocked n
  still_blocked zero n = refl
  still_blocked (suc j) n = still_blocked j n

  none_settled : (j : ℕ) (plan : Plan A) → taken means rule model j (settled plan) ≡ 0
  none_settled zero plan = refl
  none_settled (suc j) plan = refl

  none_blocked : (j n : ℕ) → taken means rule model j (blocked n) ≡ 0
  none_blocked zero n = refl
  none_blocked (suc j) n = refl

  taken_adds : (j k : ℕ) (walk : Walk A) → taken means rule model (j + k) walk ≡ taken means rule model j walk + taken means rule model k (work means rule model j walk)
  taken_adds zero k walk = ap (λ n. taken means rule model n walk) (zero-add k) ∙ sym (zero-add (taken means rule model k walk))
  taken_adds (suc j) k (running path best) =
      let next = step means rule model (running path best) in
      ap (λ n. taken means rule model n (running path best)) (suc-add j k) ∙ ap suc (taken_adds j k next) ∙ sym (suc-add (taken means rule model j next) (taken means rule model k (work means rule model j next)))
  taken_adds (suc j) k (settled plan) =
      none_settled (suc j + k) plan ∙ sym (zero-add 0) ∙ ap (λ n. 0 + n) (sym (ap (taken means rule model k) (still_settled j plan) ∙ none_settled k plan))
  taken_adds (suc j) k (blocked n) =
      none_blocked (suc j + k) n ∙ sym (zero-add 0) ∙ ap (λ m. 0 + m) (sym (ap (taken means rule model k) (still_blocked j n) ∙ none_blocked k n))

  takes_all : (k : ℕ) (walk : Walk A) → (Ended (told means rule model (work means rule model k walk)) → ⊥) → taken means rule model k walk ≡ k
  takes_all zero walk running-still = refl
  takes_all (suc k) (running path best) running-still = ap suc (takes_all k (step means rule model (running path best)) running-still)
  takes_all (suc k) (settled plan) running-still = absurd (running-still (subst (λ (w : Walk A). Ended (told means rule model w)) (sym (still_settled k plan)) tt))
  takes_all (suc k) (blocked n) running-still = absurd (running-still (subst (λ (w : Walk A). Ended (told means rule model w)) (sym (still_blocked k n)) tt))

  takes_no_more : (k : ℕ) (walk : Walk A) → taken means rule model k walk ≤ k
  takes_no_more zero walk = omega arith
  takes_no_more (suc k) (running path best) = let later = takes_no_more k (step means rule model (running path best)) in omega arith
  takes_no_more (suc k) (settled plan) = omega arith
  takes_no_more (suc k) (blocked n) = omega arith

pub search_exact : {A : Type 0} → SearchExact A
search_exact means laws rule rule_laws model sound =
    let walk = λ (k : ℕ). work means rule model k new_walk in
    let from = from_new means laws rule rule_laws model sound in
    record {
      promised = λ k. promised_if_kept means laws rule rule_laws model sound k (walk k) (from k).0 (from k).1;
      right = λ k. right_if_kept means laws rule rule_laws model sound (walk k) (from k).0;
      adds_up = adds means laws rule rule_laws model sound;
      taken_adds_up = taken_adds means laws rule rule_laws model sound;
      takes_all = takes_all means laws rule rule_laws model sound;
      takes_no_more = takes_no_more means laws rule rule_laws model sound;
      one_best = one_best means laws rule rule_laws model sound;
      settles = settles means laws rule rule_laws model sound;
    }
