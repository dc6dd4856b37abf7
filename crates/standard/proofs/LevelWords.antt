-- Reading a word, as a table of names is searched. Assumes nothing.
use Rattle.std.proofs.Common.{◌≡◌, ℕ, suc, ◌+◌, true, false, cond, List, [], ◌∷◌, map, Option, Some, None, Bor, ap, refl, ◌∙◌, arith}
use Rattle.std.specs.Option.{option_map}
use Rattle.std.specs.List.{position_from}
use Rattle.std.specs.Str.{bytes_eq}
use Rattle.standard.specs.Letters.{Word, read_level}

counted_on : (i : ℕ) (o : Option ℕ) → option_map (λ k. i + 1 + k) o ≡ option_map (λ k. i + k) (option_map suc o)
counted_on i None = refl
counted_on i (Some k) = let e : i + 1 + k ≡ i + suc k = omega arith in ap Some e

-- the first name that a word is, counted from i
read_from : (word : Word) (i : ℕ) (xs : List (Bor Word)) → position_from (λ name. bytes_eq word name.now) i xs ≡ option_map (λ k. i + k) (read_level (map (λ x. x.now) xs) word)
read_from word i [] = refl
read_from word i (x ∷ xs) =
    let here : i ≡ i + 0 = omega arith in
    let level = read_level (map (λ x. x.now) xs) word in
    elim (bytes_eq word x.now) as (λ t. cond t (Some i) (position_from (λ name. bytes_eq word name.now) (i + 1) xs) ≡ option_map (λ k. i + k) (cond t (Some 0) (option_map suc level)))
    [ true ↦ ap Some here | false ↦ read_from word (i + 1) xs ∙ counted_on i level ]

counted_from_zero : (o : Option ℕ) → option_map (λ k. 0 + k) o ≡ o
counted_from_zero None = refl
counted_from_zero (Some k) = let e : 0 + k ≡ k = omega arith in ap Some e

pub read_position : (word : Word) (xs : List (Bor Word)) → position_from (λ name. bytes_eq word name.now) 0 xs ≡ read_level (map (λ x. x.now) xs) word
read_position word xs = read_from word 0 xs ∙ counted_from_zero (read_level (map (λ x. x.now) xs) word)
