-- What every cost rule keeps to, whatever its amounts are.
use Rattle.std.specs.Prelude.{Bool, ◌⊎◌, IsFalse}
use Rattle.cost.specs.declared.quote.Quote.{Quote}

-- An amount is at most another when the other is not less.
abbrev pub AtMost : {Amount : Type 0} → (Amount → Amount → Bool) → Amount → Amount → Type 0
AtMost less a b = IsFalse (less b a)

-- Of any two amounts one is at most the other, at most is transitive, and an amount is at most itself with any quote joined.
pub record CostLaws {Amount : Type 0} (joined : Amount → Quote → Amount) (less : Amount → Amount → Bool) : Type 0 where
  pub either : (a b : Amount) → AtMost less a b ⊎ AtMost less b a
  pub transitive : (a b c : Amount) → AtMost less a b → AtMost less b c → AtMost less a c
  pub grows : (a : Amount) (quote : Quote) → AtMost less a (joined a quote)
