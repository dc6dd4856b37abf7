-- The text of an amount, as bytes.
use Rattle.std.specs.Prelude.{ℕ, List, [], ◌++◌, codes, decimal}
use Rattle.either.specs.declared.Either.{Either}
use Rattle.either.specs.declared.Either.TheVariants.{Left, Right}

-- An amount of `staged` is written as its price, a space and its weeks.
abbrev pub staged_text : ℕ × ℕ → List ℕ
staged_text amount = decimal amount.0 ++ (codes " " ++ decimal amount.1)

-- Of two rules each writes its own amounts, and of the other side's writes nothing.
abbrev pub text_of : {A B M N : Type 0} → (A → M → List ℕ) → (B → N → List ℕ) → Either A B → Either M N → List ℕ
text_of f g (Left a) (Left m) = f a m
text_of f g (Left a) (Right n) = []
text_of f g (Right b) (Left m) = []
text_of f g (Right b) (Right n) = g b n
