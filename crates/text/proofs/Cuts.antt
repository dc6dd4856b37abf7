-- Cutting into words and joining them are inverse to each other. Assumes nothing.
use Rattle.std.proofs.Common.{◌≡◌, ℕ, ◌+◌, ◌-◌, ◌<◌, ◌≤◌, true, false, cond, eqb, List, [], ◌∷◌, ◌++◌, length, take, drop, Some, None, Option, MatchOption, Bor, sym, refl, ap, ◌∙◌, ◌⊎◌, ⊎_elim, arith}
use Rattle.std.specs.Option.{option_map_or}
use Rattle.std.specs.List.{AllByRecursion, slice_range}
use Rattle.std.proofs.lemmas.Bool.{eqb-true}
use Rattle.std.proofs.lemmas.List.{take_rest}
use Rattle.text.specs.Text.{Word, up_to, on_from, past, onto, words_of, fields_of, spaced, unwords, Lacks}

-- the first word, and the fields behind it
pub words_of_cut : (t : List ℕ) → words_of t ≡ up_to 32 t ∷ fields_of (on_from 32 t)
words_of_cut [] = refl
words_of_cut (x ∷ xs) =
    elim (eqb x 32) as (λ t. cond t ([] ∷ words_of xs) (onto x (words_of xs)) ≡ cond t [] (x ∷ up_to 32 xs) ∷ fields_of (cond t (x ∷ xs) (on_from 32 xs)))
    [ true ↦ refl | false ↦ ap (onto x) (words_of_cut xs) ]

unwords_onto : (x : ℕ) (ws : List Word) → unwords (onto x ws) ≡ x ∷ unwords ws
unwords_onto x [] = refl
unwords_onto x (w ∷ ws) = refl

spaced_words : (t : List ℕ) → spaced (words_of t) ≡ 32 ∷ unwords (words_of t)
spaced_words t = rw words_of_cut

-- the words of a text, joined, are the text
pub unwords_words_of : (t : List ℕ) → unwords (words_of t) ≡ t
unwords_words_of [] = refl
unwords_words_of (x ∷ xs) =
    (elim (eqb x 32) as (λ t. eqb x 32 ≡ t → unwords (cond t ([] ∷ words_of xs) (onto x (words_of xs))) ≡ x ∷ xs) [
      | true ↦ λ e. spaced_words xs ∙ (λ i. sym (eqb-true x 32 e) i ∷ unwords_words_of xs i)
      | false ↦ λ e. unwords_onto x (words_of xs) ∙ ap (λ l. x ∷ l) (unwords_words_of xs)
    ]) refl

words_of_one : (w r : List ℕ) → Lacks 32 w → (vs : List Word) → words_of r ≡ [] ∷ vs → words_of (w ++ r) ≡ w ∷ vs
words_of_one [] r l vs e = e
words_of_one (x ∷ w) r l vs e = rw l.0 (ap (onto x) (words_of_one w r l.1 vs e))

-- joined words that lack a space are cut into those words again
words_of_spaced : (w : Word) (ws : List Word) → Lacks 32 w → AllByRecursion (Lacks 32) ws → words_of (w ++ spaced ws) ≡ w ∷ ws
words_of_spaced w [] l ls = words_of_one w [] l [] refl
words_of_spaced w (v ∷ vs) l ls = words_of_one w (32 ∷ (v ++ spaced vs)) l (v ∷ vs) (ap (λ us. [] ∷ us) (words_of_spaced v vs ls.0 ls.1))

pub words_of_unwords : (ws : List Word) → 0 < length ws → AllByRecursion (Lacks 32) ws → words_of (unwords ws) ≡ ws
words_of_unwords [] some l = absurd (omega arith)
words_of_unwords (w ∷ ws) some l = words_of_spaced w ws l.0 l.1

lacks_onto : (x : ℕ) (ws : List Word) → eqb x 32 ≡ false → AllByRecursion (Lacks 32) ws → AllByRecursion (Lacks 32) (onto x ws)
lacks_onto x [] e l = ((e, tt), tt)
lacks_onto x (w ∷ ws) e l = ((e, l.0), l.1)

-- no word of a text has a space
pub words_of_lack : (t : List ℕ) → AllByRecursion (Lacks 32) (words_of t)
words_of_lack [] = (tt, tt)
words_of_lack (x ∷ xs) =
    (elim (eqb x 32) as (λ t. eqb x 32 ≡ t → AllByRecursion (Lacks 32) (cond t ([] ∷ words_of xs) (onto x (words_of xs)))) [
      | true ↦ λ e. (tt, words_of_lack xs)
      | false ↦ λ e. lacks_onto x (words_of xs) e (words_of_lack xs)
    ]) refl

-- two words that lack a byte, joined
pub lacks_append : (b : ℕ) (v w : Word) → Lacks b v → Lacks b w → Lacks b (v ++ w)
lacks_append b [] w h k = k
lacks_append b (x ∷ v) w h k = (h.0, lacks_append b v w h.1 k)

-- what stands behind the first byte, as a slice pattern has it
pub past_rest : (t : List ℕ) → 0 < length t → take (length t - 1) (drop 1 t) ≡ past t
past_rest [] h = absurd (omega arith)
past_rest (x ∷ xs) h = take_rest (x ∷ xs) 1

-- the fields of a text that has some
pub fields_cut : (t : List ℕ) → 0 < length t → fields_of t ≡ up_to 32 (past t) ∷ fields_of (on_from 32 (past t))
fields_cut [] h = absurd (omega arith)
fields_cut (x ∷ xs) h = words_of_cut xs

-- the words behind the first byte of a rest, where it has one, as `get` lends them
pub left_words : (rest : List ℕ) (o : Option (Bor (List ℕ))) → MatchOption o ((length rest < 1) ⊎ (length rest < length rest)) (λ left. (1 ≤ length rest) × (length rest ≤ length rest) × (left.now ≡ slice_range rest 1 (length rest)) × (length left.now + 1 ≡ length rest)) → option_map_or (λ text. words_of text.now) o [] ≡ fields_of rest
left_words [] None none = refl
left_words [] (Some left) some = absurd (omega (arith, some.0))
left_words (x ∷ xs) None none = absurd (⊎_elim (λ short. omega (arith, short)) (λ less. omega (arith, less)) none)
left_words (x ∷ xs) (Some left) some = ap words_of (some.2 ∙ take_rest (x ∷ xs) 1)
