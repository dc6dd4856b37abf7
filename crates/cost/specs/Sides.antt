-- Two kinds of rule as one: the laws, and the cost under each.
use Rattle.std.specs.Prelude.{◌≡◌, Bool, ◌⊎◌, List, [], ◌∷◌, refl}
use Rattle.std.proofs.Common.{true≢false, inl, inr}
use Rattle.either.specs.declared.Either.{Either}
use Rattle.either.specs.declared.Either.TheVariants.{Left, Right}
use Rattle.cost.specs.declared.quote.Quote.{Quote}
use Rattle.cost.specs.Laws.{AtMost, CostLaws}
use Rattle.cost.specs.Totals.{cost_of}
use Rattle.cost.specs.OneOfTwo.{joined_of, lesser_of}

module _ {A B M N : Type 0} (j : A → M → Quote → M) (k : B → N → Quote → N) (l : A → M → M → Bool) (r : B → N → N → Bool)
    (laws_a : (a : A) → CostLaws (j a) (l a)) (laws_b : (b : B) → CostLaws (k b) (r b)) where
  either : (c : Either A B) (x y : Either M N) → AtMost (lesser_of l r c) x y ⊎ AtMost (lesser_of l r c) y x
  either (Left a) (Left m) (Left m') = (laws_a a).either m m'
  either (Left a) (Left m) (Right n) = inl refl
  either (Left a) (Right n) (Left m) = inr refl
  either (Left a) (Right n) (Right n') = inl refl
  either (Right b) (Left m) (Left m') = inl refl
  either (Right b) (Left m) (Right n) = inl refl
  either (Right b) (Right n) (Left m) = inr refl
  either (Right b) (Right n) (Right n') = (laws_b b).either n n'

  transitive : (c : Either A B) (x y z : Either M N) → AtMost (lesser_of l r c) x y → AtMost (lesser_of l r c) y z → AtMost (lesser_of l r c) x z
  transitive (Left a) (Left m) (Left m') (Left m'') p q = (laws_a a).transitive m m' m'' p q
  transitive (Left a) (Left m) (Left m') (Right n) p q = refl
  transitive (Left a) (Left m) (Right n) (Left m') p q = absurd (true≢false q)
  transitive (Left a) (Left m) (Right n) (Right n') p q = refl
  transitive (Left a) (Right n) (Left m) (Left m') p q = absurd (true≢false p)
  transitive (Left a) (Right n) (Left m) (Right n') p q = refl
  transitive (Left a) (Right n) (Right n') (Left m) p q = q
  transitive (Left a) (Right n) (Right n') (Right n'') p q = refl
  transitive (Right b) (Left m) (Left m') (Left m'') p q = refl
  transitive (Right b) (Left m) (Left m') (Right n) p q = refl
  transitive (Right b) (Left m) (Right n) (Left m') p q = refl
  transitive (Right b) (Left m) (Right n) (Right n') p q = refl
  transitive (Right b) (Right n) (Left m) (Left m') p q = p
  transitive (Right b) (Right n) (Left m) (Right n') p q = absurd (true≢false p)
  transitive (Right b) (Right n) (Right n') (Left m) p q = q
  transitive (Right b) (Right n) (Right n') (Right n'') p q = (laws_b b).transitive n n' n'' p q

  grows : (c : Either A B) (x : Either M N) (quote : Quote) → AtMost (lesser_of l r c) x (joined_of j k c x quote)
  grows (Left a) (Left m) quote = (laws_a a).grows m quote
  grows (Left a) (Right n) quote = refl
  grows (Right b) (Left m) quote = refl
  grows (Right b) (Right n) quote = (laws_b b).grows n quote

  pub either_laws : (c : Either A B) → CostLaws (joined_of j k c) (lesser_of l r c)
  either_laws c = record { either = either c; transitive = transitive c; grows = grows c }

module _ {A B M N : Type 0} (j : A → M → Quote → M) (k : B → N → Quote → N) where
  -- Under a rule of the left side a list costs what it costs under that rule alone.
  pub cost_of_left : (a : A) (m : M) (quotes : List Quote) → cost_of (joined_of j k (Left a)) (Left m) quotes ≡ Left (cost_of (j a) m quotes)
  cost_of_left a m [] = refl
  cost_of_left a m (quote ∷ quotes) = cost_of_left a (j a m quote) quotes

  -- And so of the right side.
  pub cost_of_right : (b : B) (n : N) (quotes : List Quote) → cost_of (joined_of j k (Right b)) (Right n) quotes ≡ Right (cost_of (k b) n quotes)
  cost_of_right b n [] = refl
  cost_of_right b n (quote ∷ quotes) = cost_of_right b (k b n quote) quotes
