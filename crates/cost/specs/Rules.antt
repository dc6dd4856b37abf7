-- How each of the three rules joins a quote to an amount, and which of two amounts is less.
use Rattle.std.specs.Prelude.{ℕ, ◌+◌, ◌-◌, ◌^◌, min, max, Bool, ◌&&◌, ◌||◌, ◌==◌, nat_lt}
use Rattle.cost.specs.declared.quote.Quote.{Quote}

-- The sum of two numbers in 64 bits, which stops at the greatest value; a number past 64 bits, which no program holds, stays as it is.
abbrev pub stopped : ℕ → ℕ → ℕ
stopped a n = max a (min (a + n) (2 ^ 64 - 1))

-- Under `sum` the price is added.
abbrev pub sum_joined : ℕ → Quote → ℕ
sum_joined a quote = stopped a quote.price

-- Under `dearest` the greater price is kept.
abbrev pub dearest_joined : ℕ → Quote → ℕ
dearest_joined a quote = max a quote.price

-- Under `staged` the price and the weeks are added, each by itself.
abbrev pub staged_joined : ℕ × ℕ → Quote → ℕ × ℕ
staged_joined a quote = (stopped a.0 quote.price, stopped a.1 quote.weeks)

-- Under `staged` the prices are compared first, and the weeks where the prices are equal.
abbrev pub staged_less : ℕ × ℕ → ℕ × ℕ → Bool
staged_less a b = nat_lt a.0 b.0 || (a.0 == b.0 && nat_lt a.1 b.1)
