-- What holds of a walk at every step. Assumes nothing.
use Rattle.std.proofs.Common.{◌≡◌, ℕ, ◌≤◌, Bool, true, false, ◌⊎◌, List, [], ◌∷◌, ◌++◌, Some, None, Option, sym, refl, ap, subst, inl, inr, ⊎_elim, arith}
use Rattle.std.specs.List.{AllByRecursion}
use Rattle.std.proofs.lemmas.Bool.{both_ways, not-true, not-false}
use Rattle.scale.specs.Question.{Meaning, Laws}
use Rattle.cost.specs.Laws.{AtMost, CostLaws}
use Rattle.cost.proofs.Amounts.{at_most_itself}
use Rattle.theory.specs.declared.part.Part.{Part}
use Rattle.theory.specs.Model.{Model, Sound, SoundPart}
use Rattle.theory.specs.Allocations.{Rule, Inside, MeetsAll, meets, cost, Earlier}
use Rattle.theory.specs.Walks.{Walk, running, settled, blocked, Plan, onward, decide, step, advance, beyond, filled, all_pass, too_dear, first_failing, ceilings}
use Rattle.theory.specs.Partials.{Partial}
use Rattle.theory.specs.Promise.{FitPlan}
use Rattle.theory.proofs.Order.{Extends, Passed, Reached, PartialNext, passes, covers, partial_next, before_extends, partial_more, before_more, before_less, whole_is, extends_self}
use Rattle.theory.proofs.Costs.{at_most_other, extends_grows}
use Rattle.theory.proofs.Sets.{path_fails, true_all, whole_filled, whole_inside}

-- the part after a path is one of the parts
next_sound : (ps : List Part) (path : List ℕ) (q : Part) (rest : List Part) → beyond ps path ≡ q ∷ rest → Partial ps path → AllByRecursion SoundPart ps → q.floor ≤ q.ceiling
next_sound [] [] q rest e on s = absurd (let z : ◌≡◌ {A = ℕ} 0 1 = cc in omega arith)
next_sound (p ∷ ps) [] q rest e on s = let same : p ≡ q = cc in omega (arith, s.0.range, ap (λ (r : Part). r.floor) same, ap (λ (r : Part). r.ceiling) same)
next_sound [] (l ∷ ls) q rest e on s = absurd on
next_sound (p ∷ ps) (l ∷ ls) q rest e on s = next_sound ps ls q rest e on.2 s.1

module _ {A : Type 0} (means : Meaning) (rule : Rule A) (model : Model) where
  -- an allocation that could be a plan
  abbrev pub Fits : List ℕ → Type 0
  Fits x = Inside model.parts x × MeetsAll means model x

  -- the plan is at least as good as x
  pub record Beats (plan : Plan A) (x : List ℕ) : Type 0 where
    pub cheaper : AtMost rule.lesser plan.amount (cost rule model x)
    pub sooner : AtMost rule.lesser (cost rule model x) plan.amount → (x ≡ plan.levels) ⊎ Earlier plan.levels x

  abbrev pub Beaten : Option (Plan A) → List ℕ → Type 0
  Beaten None x = ⊥
  Beaten (Some plan) x = Beats plan x

  -- a best plan can be bought, and has been passed
  abbrev pub Sits : (List ℕ → Type 0) → Option (Plan A) → Type 0
  Sits P None = Unit {0}
  Sits P (Some plan) = FitPlan means rule model plan.levels plan.amount × P plan.levels

  -- the invariant: all that was passed is beaten
  abbrev pub Holds : Walk A → Type 0
  Holds (running path best) = Partial model.parts path × ((x : List ℕ) → Fits x → Earlier x path → Beaten best x) × Sits (λ x. Earlier x path) best
  Holds (settled plan) = FitPlan means rule model plan.levels plan.amount × ((x : List ℕ) → Fits x → Beats plan x)
  Holds (blocked n) = ((x : List ℕ) → Fits x → ⊥) × (n ≡ first_failing (meets means model (ceilings model.parts)) model.sets)

  -- an amount that is at most the cost of every plan that begins with the path, and the path's own cost where the path is whole
  pub record Bound (path : List ℕ) (judged : A) : Type 0 where
    pub under : (x : List ℕ) → Fits x → Extends path x → AtMost rule.lesser judged (cost rule model x)
    pub whole : beyond model.parts path ≡ [] → judged ≡ cost rule model path

  -- where all that begins with the path is beaten too, the walk can go on
  module _ (path : List ℕ) (on : Partial model.parts path) where
    pub closed : (best : Option (Plan A)) → ((x : List ℕ) → Fits x → Passed path x → Beaten best x) → Sits (λ x. Passed path x) best → Holds (onward means rule model (advance model.parts path) best)
    closed best beaten sits =
        go (advance model.parts path) best (partial_next model.parts path on)
        (λ x f r. beaten x f (covers model.parts path x on f.0 r))
        (moved best sits)
      where
        moved : (best : Option (Plan A)) → Sits (λ x. Passed path x) best → Sits (λ x. Reached (advance model.parts path) x) best
        moved None s = tt
        moved (Some plan) s = (s.0, passes model.parts path plan.levels s.1)

        go : (o : Option (List ℕ)) (best : Option (Plan A)) → PartialNext model.parts o → ((x : List ℕ) → Fits x → Reached o x → Beaten best x) → Sits (λ x. Reached o x) best → Holds (onward means rule model o best)
        go (Some next) best on' b s = (on', b, s)
        go None (Some plan) on' b s = (s.0, λ x f. b x f tt)
        go None None on' b s = (λ x f. b x f tt, refl)

  module _ (laws : Laws means) (rule_laws : CostLaws rule.joined rule.lesser) (sound : Sound model) where
    widened : (path : List ℕ) (best : Option (Plan A)) → Sits (λ x. Earlier x path) best → Sits (λ x. Passed path x) best
    widened path None s = tt
    widened path (Some plan) s = (s.0, inl s.1)

    -- one step keeps the invariant, whatever bound the path is judged by
    pub decided :
        (m d : Bool) (rest : List Part) (path : List ℕ) (best : Option (Plan A)) (judged : A) →
        Bound path judged →
        all_pass (meets means model (filled model.parts path)) model.sets ≡ m →
        too_dear rule best judged ≡ d →
        beyond model.parts path ≡ rest →
        Holds (running path best) →
        Holds (decide means rule model m d rest path best)
    -- (1) what begins with the path fails a set
    decided false d rest path best judged bound me de re h =
        closed path h.0 best
        (λ x f. ⊎_elim (λ e. h.1 x f e) (λ e. absurd (path_fails means laws model sound path x me h.0 e f.0 f.1)))
        (widened path best h.2)
    -- (2) what begins with the path is beaten
    decided true true rest path None judged bound me de re h = absurd (both_ways false refl de)
    decided true true rest path (Some plan) judged bound me de re h =
        closed path h.0 (Some plan)
        (λ x f. ⊎_elim (λ e. h.1 x f e) (λ e. record {
          cheaper = rule_laws.transitive plan.amount judged (cost rule model x) (not-true (rule.lesser judged plan.amount) de) (bound.under x f e);
          sooner = λ _. inr (before_extends plan.levels path x h.2.1 e);
        }))
        (widened path (Some plan) h.2)
    -- (3) the path is the new best
    decided true false [] path best judged bound me de re h =
        closed path h.0 (Some (record { levels = path; amount = cost rule model path }))
        (λ x f. ⊎_elim (λ e. older best (subst (λ (a : A). too_dear rule best a ≡ false) (bound.whole re) de) (h.1 x f e)) (λ e. same x (whole_is model.parts path x re f.0 e))) (
          record {
            inside = whole_inside model.parts path re h.0;
            meets_all = subst (λ x. MeetsAll means model x) (whole_filled model.parts path re h.0) (true_all (meets means model (filled model.parts path)) model.sets me);
            costs = refl;
          },
          inr (extends_self path),
        )
      where
        new : Plan A
        new = record { levels = path; amount = cost rule model path }

        same : (x : List ℕ) → x ≡ path → Beats new x
        same x e = record {
          cheaper = subst (λ y. AtMost rule.lesser (cost rule model path) (cost rule model y)) (sym e) (at_most_itself rule_laws (cost rule model path));
          sooner = λ _. inl e;
        }

        older : {x : List ℕ} (best : Option (Plan A)) → too_dear rule best (cost rule model path) ≡ false → Beaten best x → Beats new x
        older None de b = absurd b
        older {x} (Some plan) de b =
            let under : rule.lesser (cost rule model path) plan.amount ≡ true = not-false (rule.lesser (cost rule model path) plan.amount) de in
            let never : AtMost rule.lesser (cost rule model x) (cost rule model path) → ⊥ =
            λ a. both_ways (rule.lesser (cost rule model path) plan.amount) (rule_laws.transitive plan.amount (cost rule model x) (cost rule model path) b.cheaper a) under in
            record { cheaper = at_most_other rule rule_laws (cost rule model path) (cost rule model x) never; sooner = λ a. absurd (never a) }
    -- (4) a part more
    decided true false (q ∷ rest) path best judged bound me de re h = (
      partial_more model.parts path q rest re (next_sound model.parts path q rest re h.0 sound.parts) h.0,
      λ x f e. h.1 x f (before_less model.parts path x q rest re f.0 e),
      moved best h.2,
    )
      where
        moved : (best : Option (Plan A)) → Sits (λ x. Earlier x path) best → Sits (λ x. Earlier x (path ++ (q.floor ∷ []))) best
        moved None s = tt
        moved (Some plan) s = (s.0, before_more plan.levels path q.floor s.1)

    -- the path's own cost is such a bound
    pub own_cost : (path : List ℕ) → Bound path (cost rule model path)
    own_cost path = record { under = λ x f e. extends_grows rule rule_laws model path x e; whole = λ _. refl }

    pub kept : (walk : Walk A) → Holds walk → Holds (step means rule model walk)
    kept (running path best) h =
        decided
        (all_pass (meets means model (filled model.parts path)) model.sets)
        (too_dear rule best (cost rule model path))
        (beyond model.parts path)
        path best (cost rule model path) (own_cost path) refl refl refl h
    kept (settled plan) h = h
    kept (blocked n) h = h
