-- What the laws of a scale give of the sets of a project. Assumes nothing.
use Rattle.std.proofs.Common.{◌≡◌, ℕ, zero, suc, ◌<◌, ◌≤◌, Bool, true, false, leb, List, [], ◌∷◌, map, length, get_or, refl, arith, pow_mono}
use Rattle.std.specs.List.{AllZip, AllByRecursion}
use Rattle.std.proofs.lemmas.List.{length-map}
use Rattle.std.proofs.lemmas.List.Elements.{All-from_recursion, All-map}
use Rattle.std.proofs.lemmas.Bool.{and_from, and_parts, and_right, both_ways, le-leb, lt-ltb, eq-eqb}
use Rattle.scale.specs.Question.{Meaning, all_at_most, formed, answer, Laws}
use Rattle.scale.proofs.Bits.{row_below}
use Rattle.theory.specs.declared.part.Part.{Part}
use Rattle.theory.specs.Model.{CutSet, Model, SoundPart, SoundSet, Sound}
use Rattle.theory.specs.Allocations.{Inside, row, rows, levels_of, meets, MeetsAll}
use Rattle.theory.specs.Walks.{all_pass, ceilings, filled, beyond}
use Rattle.theory.specs.Partials.{Partial}
use Rattle.theory.proofs.Order.{Extends}

-- levels

pub inside_low : (ps : List Part) (x : List ℕ) → AllByRecursion SoundPart ps → Inside ps x → (k : ℕ) → get_or x k 0 ≤ 4
inside_low [] [] s ins k = omega arith
inside_low [] (x ∷ xs) s ins k = absurd ins
inside_low (p ∷ ps) [] s ins k = absurd ins
inside_low (p ∷ ps) (x ∷ xs) s ins zero = omega (arith, s.0.top, ins.1)
inside_low (p ∷ ps) (x ∷ xs) s ins (suc k) = inside_low ps xs s.1 ins.2 k

pub inside_ceilings : (ps : List Part) → AllByRecursion SoundPart ps → Inside ps (ceilings ps)
inside_ceilings [] s = tt
inside_ceilings (p ∷ ps) s = (s.0.range, omega arith, inside_ceilings ps s.1)

pub inside_filled : (ps : List Part) (path : List ℕ) → AllByRecursion SoundPart ps → Partial ps path → Inside ps (filled ps path)
inside_filled ps [] s on = inside_ceilings ps s
inside_filled [] (l ∷ ls) s on = absurd on
inside_filled (p ∷ ps) (l ∷ ls) s on = (on.0, on.1, inside_filled ps ls s.1 on.2)

pub below_ceilings : (ps : List Part) (x : List ℕ) → Inside ps x → (k : ℕ) → get_or x k 0 ≤ get_or (ceilings ps) k 0
below_ceilings [] [] ins k = omega arith
below_ceilings [] (x ∷ xs) ins k = absurd ins
below_ceilings (p ∷ ps) [] ins k = absurd ins
below_ceilings (p ∷ ps) (x ∷ xs) ins zero = ins.1
below_ceilings (p ∷ ps) (x ∷ xs) ins (suc k) = below_ceilings ps xs ins.2 k

pub below_filled : (ps : List Part) (path x : List ℕ) → Inside ps x → Extends path x → (k : ℕ) → get_or x k 0 ≤ get_or (filled ps path) k 0
below_filled ps [] x ins h k = below_ceilings ps x ins k
below_filled ps (l ∷ ls) [] ins h k = absurd h
below_filled [] (l ∷ ls) (x ∷ xs) ins h k = absurd ins
below_filled (p ∷ ps) (l ∷ ls) (x ∷ xs) ins h zero = omega (arith, h.0)
below_filled (p ∷ ps) (l ∷ ls) (x ∷ xs) ins h (suc k) = below_filled ps ls xs ins.2 h.1 k

pub whole_filled : (ps : List Part) (path : List ℕ) → beyond ps path ≡ [] → Partial ps path → filled ps path ≡ path
whole_filled [] [] e on = refl
whole_filled (p ∷ ps) [] e on = absurd (let z : ◌≡◌ {A = ℕ} 0 1 = cc in omega arith)
whole_filled [] (l ∷ ls) e on = absurd on
whole_filled (p ∷ ps) (l ∷ ls) e on = let rest : filled ps ls ≡ ls = whole_filled ps ls e on.2 in cc

pub whole_inside : (ps : List Part) (path : List ℕ) → beyond ps path ≡ [] → Partial ps path → Inside ps path
whole_inside [] [] e on = tt
whole_inside (p ∷ ps) [] e on = absurd (let z : ◌≡◌ {A = ℕ} 0 1 = cc in omega arith)
whole_inside [] (l ∷ ls) e on = absurd on
whole_inside (p ∷ ps) (l ∷ ls) e on = (on.0, on.1, whole_inside ps ls e on.2)

-- questions

map_at_most : (f : ℕ → ℕ) (top : ℕ) → ((m : ℕ) → f m ≤ top) → (ms : List ℕ) → all_at_most top (map f ms) ≡ true
map_at_most f top h [] = refl
map_at_most f top h (m ∷ ms) = and_from (leb (f m) top) (all_at_most top (map f ms)) (le-leb (f m) top (h m)) (map_at_most f top h ms)

each_map : (f g : ℕ → ℕ) → ((m : ℕ) → f m ≤ g m) → (ms : List ℕ) → AllZip (λ low high. low ≤ high) (map f ms) (map g ms)
each_map f g h [] = tt
each_map f g h (m ∷ ms) = (h m, each_map f g h ms)

-- a sound set asks a well-formed question of levels up to 4
pub formed_set : (apart : ℕ → ℕ → Bool) (levels : List ℕ) (n : ℕ) (s : CutSet) → ((k : ℕ) → get_or levels k 0 ≤ 4) → SoundSet n s → formed s.required (levels_of levels s.members) (rows apart s.members) ≡ true
formed_set apart levels n s low ok =
    let ms = s.members in
    let f : ℕ → ℕ = λ m. get_or levels m 0 in
    let long : length (map f ms) ≡ length ms = length-map ms f in
    let long_rows : length (rows apart ms) ≡ length ms = length-map ms (row apart ms) in
    let a = le-leb s.required 4 ok.top in
    let b = eq-eqb (length (map f ms)) (length (rows apart ms)) (omega arith) in
    let c = lt-ltb 0 (length (map f ms)) (omega (arith, ok.some_member)) in
    let d = le-leb (length (map f ms)) 8 (omega (arith, ok.few_members)) in
    let e = map_at_most f 4 low ms in
    let g = map_at_most (row apart ms) 255 (λ m. omega (arith, row_below (λ j. apart m (get_or ms j 0)) (length ms), pow_mono ok.few_members)) ms in
    and_from _ _ (and_from _ _ (and_from _ _ (and_from _ _ (and_from _ _ a b) c) d) e) g

-- sets

pub all_true : (test : CutSet → Bool) (ss : List CutSet) → AllByRecursion (λ s. test s ≡ true) ss → all_pass test ss ≡ true
all_true test [] h = refl
all_true test (s ∷ ss) h = and_from (test s) (all_pass test ss) h.0 (all_true test ss h.1)

pub true_all : (test : CutSet → Bool) (ss : List CutSet) → all_pass test ss ≡ true → AllByRecursion (λ s. test s ≡ true) ss
true_all test [] h = tt
true_all test (s ∷ ss) h = let both = and_parts (test s) (all_pass test ss) h in (both.0, true_all test ss both.1)

module _ (means : Meaning) (laws : Laws means) (model : Model) (sound : Sound model) where
  -- the answer to a well-formed question is the meaning
  by_meaning : (required : ℕ) (levels rs : List ℕ) → formed required levels rs ≡ true → means required levels rs ≡ true → answer means required levels rs ≡ true
  by_meaning required levels rs f m = and_from (formed required levels rs) (means required levels rs) f m

  pub raise_all : (x y : List ℕ) → Inside model.parts x → Inside model.parts y → ((k : ℕ) → get_or x k 0 ≤ get_or y k 0) → MeetsAll means model x → MeetsAll means model y
  raise_all x y inx iny up = go model.sets sound.sets
    where
      n : ℕ
      n = length model.parts

      lowy : (k : ℕ) → get_or y k 0 ≤ 4
      lowy = inside_low model.parts y sound.parts iny

      one : (s : CutSet) → SoundSet n s → meets means model x s ≡ true → meets means model y s ≡ true
      one s ok m =
          let rs = rows model.apart s.members in
          let parts = and_parts (formed s.required (levels_of x s.members) rs) (means s.required (levels_of x s.members) rs) m in
          let fy = formed_set model.apart y n s lowy ok in
          by_meaning s.required (levels_of y s.members) rs fy
          (laws.raise s.required (levels_of x s.members) (levels_of y s.members) rs parts.0 fy (each_map (λ m. get_or x m 0) (λ m. get_or y m 0) up s.members) parts.1)

      go : (ss : List CutSet) → AllByRecursion (SoundSet n) ss → AllByRecursion (λ s. meets means model x s ≡ true) ss → AllByRecursion (λ s. meets means model y s ≡ true) ss
      go [] ok h = tt
      go (s ∷ ss) ok h = (one s ok.0 h.0, go ss ok.1 h.1)

  -- a path whose filling fails a set leads to no allocation that meets them all
  pub path_fails : (path x : List ℕ) → all_pass (meets means model (filled model.parts path)) model.sets ≡ false → Partial model.parts path → Extends path x → Inside model.parts x → MeetsAll means model x → ⊥
  path_fails path x e on h ins m =
      both_ways (all_pass (meets means model (filled model.parts path)) model.sets) e
      (all_true (meets means model (filled model.parts path)) model.sets
      (raise_all x (filled model.parts path) ins (inside_filled model.parts path sound.parts on) (below_filled model.parts path x ins h) m))

  -- all at 0 meets no set
  pub idle_fails : (levels : List ℕ) (ss : List CutSet) → ((k : ℕ) → get_or levels k 0 ≡ 0) → AllByRecursion (SoundSet (length model.parts)) ss → AllByRecursion (λ s. meets means model levels s ≡ true) ss → 0 < length ss → ⊥
  idle_fails levels [] z ok m h = omega arith
  idle_fails levels (s ∷ ss) z ok m h =
      let rs = rows model.apart s.members in
      let f = formed_set model.apart levels (length model.parts) s (λ k. omega (arith, z k)) ok.0 in
      both_ways (meets means model levels s)
      (and_right (formed s.required (levels_of levels s.members) rs) (means s.required (levels_of levels s.members) rs)
      (laws.bottom s.required (levels_of levels s.members) rs f (All-map (λ level. level ≡ 0) (λ m. get_or levels m 0) s.members (λ k d less. z (get_or s.members k d))) ok.0.some_level))
      m.0

  -- members in reach meet every set
  pub reach_meets : AllByRecursion (λ set. AllByRecursion (λ m. set.required ≤ get_or (ceilings model.parts) m 0) set.members) model.sets → MeetsAll means model (ceilings model.parts)
  reach_meets = go model.sets sound.sets
    where
      top : List ℕ
      top = ceilings model.parts

      low : (k : ℕ) → get_or (ceilings model.parts) k 0 ≤ 4
      low = inside_low model.parts (ceilings model.parts) sound.parts (inside_ceilings model.parts sound.parts)

      go : (ss : List CutSet) → AllByRecursion (SoundSet (length model.parts)) ss → AllByRecursion (λ set. AllByRecursion (λ m. set.required ≤ get_or (ceilings model.parts) m 0) set.members) ss → AllByRecursion (λ s. meets means model (ceilings model.parts) s ≡ true) ss
      go [] ok h = tt
      go (s ∷ ss) ok h = (
        let rs = rows model.apart s.members in
            let f = formed_set model.apart (ceilings model.parts) (length model.parts) s low ok.0 in
            by_meaning s.required (levels_of (ceilings model.parts) s.members) rs f
            (laws.reach s.required (levels_of (ceilings model.parts) s.members) rs f (All-map (λ level. s.required ≤ level) (λ m. get_or (ceilings model.parts) m 0) s.members (All-from_recursion (λ m. s.required ≤ get_or (ceilings model.parts) m 0) s.members h.0))),
        go ss ok.1 h.1,
      )
