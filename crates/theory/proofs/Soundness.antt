-- Every edit keeps a model sound. Assumes nothing.
use Rattle.std.proofs.Common.{◌≡◌, ℕ, zero, suc, ◌+◌, ◌<◌, ◌≤◌, Bool, true, false, cond, not, ◌&&◌, ◌||◌, eqb, ltb, leb, ◌⊎◌, List, [], ◌∷◌, ◌++◌, length, sym, refl, ap, ◌∙◌, subst, inl, inr, ⊎_elim, true≢false, arith}
use Rattle.std.specs.List.{AllByRecursion}
use Rattle.std.proofs.lemmas.List.{length_push}
use Rattle.std.proofs.ByRecursion.{All-push, All-weaker}
use Rattle.std.proofs.lemmas.Bool.{and_parts, or_cases, or_parts, ltb-true, ltb-false, leb-false, eqb-true, eqb-false, not-false, cond_both}
use Rattle.cost.specs.declared.quote.Quote.{Quote}
use Rattle.cost.specs.Totals.{Fits32}
use Rattle.theory.specs.declared.part.Part.{Part}
use Rattle.theory.specs.Model.{CutSet, Model, empty_model, Ascending, SoundPart, SoundSet, Sound}
use Rattle.theory.specs.Edits.{Outcome, no_range, part_call, ranged, range_call, declared, apart_call, all_stand, ascending, cut_call, without, drop_call, Edit, part, range, pair, cut, drop_set, edit_model, Handed}

set_more : (n : ℕ) (s : CutSet) → SoundSet n s → SoundSet (n + 1) s
set_more n s ok = record {
  some_level = ok.some_level;
  top = ok.top;
  some_member = ok.some_member;
  few_members = ok.few_members;
  standing = All-weaker (λ m. m < n) (λ m. m < n + 1) (λ m h. omega arith) s.members ok.standing;
  ascending = ok.ascending;
}

pub stand_from : (n : ℕ) (ms : List ℕ) → all_stand n ms ≡ true → AllByRecursion (λ m. m < n) ms
stand_from n [] h = tt
stand_from n (m ∷ ms) h = let b = and_parts (ltb m n) (all_stand n ms) h in (ltb-true m n b.0, stand_from n ms b.1)

pub ascending_from : (ms : List ℕ) → ascending ms ≡ true → Ascending ms
ascending_from [] h = tt
ascending_from (a ∷ []) h = tt
ascending_from (a ∷ b ∷ ms) h = let t = and_parts (ltb a b) (ascending (b ∷ ms)) h in (ltb-true a b t.0, ascending_from (b ∷ ms) t.1)

pub length_ranged : (ps : List Part) (n f c : ℕ) → length (ranged ps n f c) ≡ length ps
length_ranged [] n f c = refl
length_ranged (p ∷ ps) zero f c = refl
length_ranged (p ∷ ps) (suc n) f c = ap suc (length_ranged ps n f c)

all_ranged : (ps : List Part) (n f c : ℕ) → f ≤ c → c ≤ 4 → AllByRecursion SoundPart ps → AllByRecursion SoundPart (ranged ps n f c)
all_ranged [] n f c le top s = tt
all_ranged (p ∷ ps) zero f c le top s = (record { range = le; top = top; five = s.0.five; fit = s.0.fit }, s.1)
all_ranged (p ∷ ps) (suc n) f c le top s = (s.0, all_ranged ps n f c le top s.1)

all_without : (P : CutSet → Type 0) (ss : List CutSet) (n : ℕ) → AllByRecursion P ss → AllByRecursion P (without ss n)
all_without P [] n h = tt
all_without P (s ∷ ss) zero h = h.1
all_without P (s ∷ ss) (suc n) h = (h.0, all_without P ss n h.1)

length_without : (ss : List CutSet) (n : ℕ) → length (without ss n) ≤ length ss
length_without [] n = omega arith
length_without (s ∷ ss) zero = omega arith
length_without (s ∷ ss) (suc n) = omega (arith, length_without ss n)

either_way : (p q r s : Bool) → ((p && q) || (r && s)) ≡ ((s && r) || (q && p))
either_way true true true true = refl
either_way true true true false = refl
either_way true true false true = refl
either_way true true false false = refl
either_way true false true true = refl
either_way true false true false = refl
either_way true false false true = refl
either_way true false false false = refl
either_way false true true true = refl
either_way false true true false = refl
either_way false true false true = refl
either_way false true false false = refl
either_way false false true true = refl
either_way false false true false = refl
either_way false false false true = refl
either_way false false false false = refl

-- a pair of two numbers is of no part with itself
self_pair : (p q : Bool) → (p ≡ true → q ≡ true → ⊥) → ((p && q) || (q && p)) ≡ false
self_pair true true h = absurd (h refl refl)
self_pair true false h = refl
self_pair false true h = refl
self_pair false false h = refl

cond_none : (t v r : Bool) → t ≡ false → r ≡ false → cond t v r ≡ false
cond_none true v r e f = absurd (true≢false e)
cond_none false v r e f = f

cond_cases : (t v r : Bool) → cond t v r ≡ true → (t ≡ true) ⊎ (r ≡ true)
cond_cases true v r e = inl refl
cond_cases false v r e = inr e

pair_stands : (n a b x y : ℕ) → a < n → b < n → ((eqb x a && eqb y b) || (eqb x b && eqb y a)) ≡ true → (x < n) × (y < n)
pair_stands n a b x y ha hb e =
    ⊎_elim
    (λ l. let t = and_parts (eqb x a) (eqb y b) l in (omega (arith, eqb-true x a t.0, ha), omega (arith, eqb-true y b t.1, hb)))
    (λ r. let t = and_parts (eqb x b) (eqb y a) r in (omega (arith, eqb-true x b t.0, hb), omega (arith, eqb-true y a t.1, ha)))
    (or_cases (eqb x a && eqb y b) (eqb x b && eqb y a) e)

-- each edit that is accepted, by what its tests have ruled out
module _ (model : Model) (s : Sound model) where
  with_part : (f c : ℕ) (qs : List Quote) → length model.parts < 64 → f ≤ c → c ≤ 4 → length qs ≡ 5 → AllByRecursion Fits32 qs → Sound (record { parts = model.parts ++ (record { floor = f; ceiling = c; quotes = qs } ∷ []); apart = model.apart; sets = model.sets })
  with_part f c qs room le top five fit =
      let new : Part = record { floor = f; ceiling = c; quotes = qs } in
      let long = length_push model.parts new in
      record {
        few_parts = omega arith;
        parts = All-push SoundPart model.parts new s.parts (record { range = le; top = top; five = five; fit = fit });
        symmetric = s.symmetric;
        irreflexive = s.irreflexive;
        only_standing = λ a b e. let t = s.only_standing a b e in (omega (arith, t.0), omega (arith, t.1));
        few_sets = s.few_sets;
        sets = subst (λ m. AllByRecursion (SoundSet m) model.sets) (sym long) (All-weaker (SoundSet (length model.parts)) (SoundSet (length model.parts + 1)) (set_more (length model.parts)) model.sets s.sets);
      }

  with_range : (k f c : ℕ) → f ≤ c → c ≤ 4 → Sound (record { parts = ranged model.parts k f c; apart = model.apart; sets = model.sets })
  with_range k f c le top =
      let long = length_ranged model.parts k f c in
      record {
        few_parts = omega (arith, s.few_parts);
        parts = all_ranged model.parts k f c le top s.parts;
        symmetric = s.symmetric;
        irreflexive = s.irreflexive;
        only_standing = λ a b e. let t = s.only_standing a b e in (omega (arith, t.0), omega (arith, t.1));
        few_sets = s.few_sets;
        sets = subst (λ m. AllByRecursion (SoundSet m) model.sets) (sym long) s.sets;
      }

  with_pair : (a b : ℕ) (v : Bool) → a < length model.parts → b < length model.parts → (a ≡ b → ⊥) → Sound (record { parts = model.parts; apart = declared model.apart a b v; sets = model.sets })
  with_pair a b v ha hb other = record {
    few_parts = s.few_parts;
    parts = s.parts;
    symmetric = λ x y. ap (λ t. cond t v (model.apart x y)) (either_way (eqb x a) (eqb y b) (eqb x b) (eqb y a)) ∙ ap (λ r. cond ((eqb y a && eqb x b) || (eqb y b && eqb x a)) v r) (s.symmetric x y);
    irreflexive = λ x. cond_none _ v (model.apart x x) (self_pair (eqb x a) (eqb x b) (λ e f. other (sym (eqb-true x a e) ∙ eqb-true x b f))) (s.irreflexive x);
    only_standing = λ x y e. ⊎_elim (λ t. pair_stands (length model.parts) a b x y ha hb t) (λ r. s.only_standing x y r) (cond_cases _ v (model.apart x y) e);
    few_sets = s.few_sets;
    sets = s.sets;
  }

  with_set : (r : ℕ) (ms : List ℕ) → length model.sets < 128 → SoundSet (length model.parts) (record { required = r; members = ms }) → Sound (record { parts = model.parts; apart = model.apart; sets = model.sets ++ (record { required = r; members = ms } ∷ []) })
  with_set r ms room ok =
      let new : CutSet = record { required = r; members = ms } in
      record {
        few_parts = s.few_parts;
        parts = s.parts;
        symmetric = s.symmetric;
        irreflexive = s.irreflexive;
        only_standing = s.only_standing;
        few_sets = omega (arith, length_push model.sets new);
        sets = All-push (SoundSet (length model.parts)) model.sets new s.sets ok;
      }

  without_set : (k : ℕ) → Sound (record { parts = model.parts; apart = model.apart; sets = without model.sets k })
  without_set k = record {
    few_parts = s.few_parts;
    parts = s.parts;
    symmetric = s.symmetric;
    irreflexive = s.irreflexive;
    only_standing = s.only_standing;
    few_sets = omega (arith, length_without model.sets k, s.few_sets);
    sets = all_without (SoundSet (length model.parts)) model.sets k s.sets;
  }

  in_range : (f c : ℕ) → no_range f c ≡ false → (f ≤ c) × (c ≤ 4)
  in_range f c e = let t = or_parts (ltb 4 c) (ltb c f) e in (ltb-false c f t.1, ltb-false 4 c t.0)

  sound_after_cut : (r : ℕ) (ms : List ℕ) → Sound (cut_call model r ms).1
  sound_after_cut r ms =
      let P : Outcome ℕ → Type 0 = λ o. Sound o.1 in
      cond_both (leb 128 (length model.sets)) _ _ P (λ _. s)
      (λ room. cond_both (eqb r 0 || ltb 4 r) _ _ P (λ _. s)
      (λ level. cond_both (eqb (length ms) 0 || ltb 8 (length ms)) _ _ P (λ _. s)
      (λ count. cond_both (not (all_stand (length model.parts) ms)) _ _ P (λ _. s)
      (λ stand. cond_both (not (ascending ms)) _ _ P (λ _. s)
      (λ rising.
      let l = or_parts (eqb r 0) (ltb 4 r) level in
      let k = or_parts (eqb (length ms) 0) (ltb 8 (length ms)) count in
      let some_level : 1 ≤ r = positive r (eqb-false r 0 l.0) in
      let some_member : 1 ≤ length ms = positive (length ms) (eqb-false (length ms) 0 k.0) in
      with_set r ms (leb-false 128 (length model.sets) room) (record {
        some_level = some_level;
        top = ltb-false 4 r l.1;
        some_member = some_member;
        few_members = ltb-false 8 (length ms) k.1;
        standing = stand_from (length model.parts) ms (not-false (all_stand (length model.parts) ms) stand);
        ascending = ascending_from ms (not-false (ascending ms) rising);
      }))))))
    where
      positive : (n : ℕ) → (n ≡ 0 → ⊥) → 1 ≤ n
      positive n h = omega arith

  sound_after_part : (f c : ℕ) (qs : List Quote) → length qs ≡ 5 → AllByRecursion Fits32 qs → Sound (part_call model f c qs).1
  sound_after_part f c qs five fit =
      let P : Outcome ℕ → Type 0 = λ o. Sound o.1 in
      cond_both (leb 64 (length model.parts)) _ _ P (λ _. s)
      (λ room. cond_both (no_range f c) _ _ P (λ _. s)
      (λ ranged_well. let t = in_range f c ranged_well in with_part f c qs (leb-false 64 (length model.parts) room) t.0 t.1 five fit))

  sound_after_range : (k f c : ℕ) → Sound (range_call model k f c).1
  sound_after_range k f c =
      let P : Outcome (Unit {0}) → Type 0 = λ o. Sound o.1 in
      cond_both (leb (length model.parts) k) _ _ P (λ _. s)
      (λ stands. cond_both (no_range f c) _ _ P (λ _. s)
      (λ ranged_well. let t = in_range f c ranged_well in with_range k f c t.0 t.1))

  sound_after_pair : (a b : ℕ) (v : Bool) → Sound (apart_call model a b v).1
  sound_after_pair a b v =
      let P : Outcome (Unit {0}) → Type 0 = λ o. Sound o.1 in
      cond_both (leb (length model.parts) a || leb (length model.parts) b) _ _ P (λ _. s)
      (λ stand. cond_both (eqb a b) _ _ P (λ _. s)
      (λ other. let t = or_parts (leb (length model.parts) a) (leb (length model.parts) b) stand in
      with_pair a b v (leb-false (length model.parts) a t.0) (leb-false (length model.parts) b t.1) (eqb-false a b other)))

  sound_after_drop : (k : ℕ) → Sound (drop_call model k).1
  sound_after_drop k =
      let P : Outcome (Unit {0}) → Type 0 = λ o. Sound o.1 in
      cond_both (leb (length model.sets) k) _ _ P (λ _. s) (λ stands. without_set k)

pub edit_sound : (model : Model) (e : Edit) → Handed e → Sound model → Sound (edit_model model e)
edit_sound model (part f c qs) h s = sound_after_part model s f c qs h.0 h.1
edit_sound model (range k f c) h s = sound_after_range model s k f c
edit_sound model (pair a b v) h s = sound_after_pair model s a b v
edit_sound model (cut r ms) h s = sound_after_cut model s r ms
edit_sound model (drop_set k) h s = sound_after_drop model s k

pub empty_sound : Sound empty_model
empty_sound = record {
  few_parts = omega arith;
  parts = tt;
  symmetric = λ a b. refl;
  irreflexive = λ a. refl;
  only_standing = λ a b e. absurd (true≢false (sym e));
  few_sets = omega arith;
  sets = tt;
}
