-- Rows made from a relation between members, and tests over the numbers below a bound. Assumes nothing.
use Rattle.std.specs.Prelude.{ℕ, zero, suc, ◌+◌, ◌^◌, Bool, true, false, if◌then◌else◌, not, ◌&&◌, ◌||◌}
use Rattle.scale.specs.Question.{bit}

-- some number below n passes
abbrev pub any_below : (ℕ → Bool) → ℕ → Bool
any_below p zero = false
any_below p (suc n) = p n || any_below p n

-- every number below n passes
abbrev pub all_below : (ℕ → Bool) → ℕ → Bool
all_below p zero = true
all_below p (suc n) = p n && all_below p n

-- the row that has bit j, among the lowest n bits, exactly where j passes
abbrev pub row_of : (ℕ → Bool) → ℕ → ℕ
row_of p zero = 0
row_of p (suc n) = row_of p n + (if p n then 2 ^ n else 0)

-- a row has every bit, of the lowest eight, that another has
abbrev pub has_all : ℕ → ℕ → Bool
has_all row other = all_below (λ k. not (bit other k) || bit row k) 8
