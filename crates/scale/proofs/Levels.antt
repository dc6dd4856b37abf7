-- Lists of levels compared place by place. Assumes nothing.
use Rattle.std.proofs.Common.{◌≡◌, ℕ, ◌≤◌, List, length, get_or, ⊎_elim, arith}
use Rattle.std.specs.List.{AllZip}
use Rattle.std.proofs.lemmas.Bool.{cases_lt}
use Rattle.std.proofs.lemmas.List.{get_or_past}
use Rattle.std.proofs.lemmas.List.Elements.{length_all_zip, AllZip-get_or}

pub each_length : (R : ℕ → ℕ → Type 0) (xs ys : List ℕ) → AllZip R xs ys → length xs ≡ length ys
each_length R xs ys e = length_all_zip R xs ys e

pub each_get_or : (xs ys : List ℕ) → AllZip (λ low high. low ≤ high) xs ys → (k : ℕ) → get_or xs k 0 ≤ get_or ys k 0
each_get_or xs ys e k = ⊎_elim (AllZip-get_or (λ low high. low ≤ high) xs ys k 0 0 e) (λ past. omega (arith, get_or_past xs k 0 past)) (cases_lt k (length xs))
