-- Two kinds of rule as one: A and B are the rules, M and N their amounts.
use Rattle.std.specs.Prelude.{Bool, true, false}
use Rattle.cost.specs.declared.quote.Quote.{Quote}
use Rattle.either.specs.declared.Either.{Either}
use Rattle.either.specs.declared.Either.TheVariants.{Left, Right}

module _ {A B M N : Type 0} where
  -- A quote joins an amount of the rule's own side, and leaves an amount of the other side as it is.
  abbrev pub joined_of : (A → M → Quote → M) → (B → N → Quote → N) → Either A B → Either M N → Quote → Either M N
  joined_of f g (Left a) (Left m) q = Left (f a m q)
  joined_of f g (Left a) (Right n) q = Right n
  joined_of f g (Right b) (Left m) q = Left m
  joined_of f g (Right b) (Right n) q = Right (g b n q)

  -- A rule orders the amounts of its own side, has all those of the other side equal, and puts the left side before the right.
  abbrev pub lesser_of : (A → M → M → Bool) → (B → N → N → Bool) → Either A B → Either M N → Either M N → Bool
  lesser_of f g (Left a) (Left m) (Left n) = f a m n
  lesser_of f g (Left a) (Left m) (Right n) = true
  lesser_of f g (Left a) (Right n) (Left m) = false
  lesser_of f g (Left a) (Right m) (Right n) = false
  lesser_of f g (Right b) (Left m) (Left n) = false
  lesser_of f g (Right b) (Left m) (Right n) = true
  lesser_of f g (Right b) (Right n) (Left m) = false
  lesser_of f g (Right b) (Right m) (Right n) = g b m n
