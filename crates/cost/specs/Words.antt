-- The word of each rule in a sheet.
use Rattle.std.specs.Prelude.{◌≡◌, ℕ, if◌then◌else◌, List, [], ◌∷◌, find, Some, None, codes, Option}
use Rattle.std.specs.Str.{bytes_eq}
use Rattle.either.specs.declared.Either.{Either}
use Rattle.either.specs.declared.Either.TheVariants.{Left, Right}
use Rattle.cost.specs.declared.sum.Sum.{Sum}
use Rattle.cost.specs.declared.dearest.Dearest.{Dearest}
use Rattle.cost.specs.declared.staged.Staged.{Staged}

-- Each rule's word is read as that rule, and what is read as a rule is its word.
pub record Inverse {Rule : Type 0} (word_of : Rule → List ℕ) (rule_read : List ℕ → Option Rule) : Type 0 where
  pub back : (rule : Rule) → rule_read (word_of rule) ≡ Some rule
  pub only : (word : List ℕ) (rule : Rule) → rule_read word ≡ Some rule → word_of rule ≡ word

-- The rule, where the word is its own.
abbrev pub rule_if : {Rule : Type 0} → List ℕ → Rule → List ℕ → Option Rule
rule_if own rule word = if bytes_eq word own then Some rule else None

-- The first of two answers that is some.
abbrev pub first_of : {A B : Type 0} → Option A → Option B → Option (Either A B)
first_of (Some a) other = Some (Left a)
first_of None (Some b) = Some (Right b)
first_of None None = None

-- The first of the rules whose word this is, or none.
abbrev pub rule_named : {Rule : Type 0} → (Rule → List ℕ) → List Rule → List ℕ → Option Rule
rule_named word_of rules word = find (λ rule. bytes_eq word (word_of rule)) rules

-- The three rules as one.
abbrev pub AnyRule : Type 0
AnyRule = Either Sum (Either Dearest Staged)

-- Each of the three.
abbrev pub any_rules : List AnyRule
any_rules = Left (record {}) ∷ Right (Left (record {})) ∷ Right (Right (record {})) ∷ []

-- The word of each of the three.
abbrev pub any_word : AnyRule → List ℕ
any_word (Left rule) = codes "sum"
any_word (Right (Left rule)) = codes "dearest"
any_word (Right (Right rule)) = codes "staged"

-- The rule that a word names, or none.
abbrev pub any_named : List ℕ → Option AnyRule
any_named word = first_of (rule_if (codes "sum") (record {}) word) (first_of (rule_if (codes "dearest") (record {}) word) (rule_if (codes "staged") (record {}) word))
