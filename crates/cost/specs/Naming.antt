-- Words are read and written inversely.
use Rattle.std.specs.Prelude.{◌≡◌, ℕ, Bool, true, false, cond, if◌then◌else◌, List, [], ◌∷◌, Some, None, codes, Decides, Option, refl}
use Rattle.std.proofs.Common.{sym, ap, ◌∙◌, arith}
use Rattle.std.specs.Str.{bytes_eq}
use Rattle.std.proofs.lemmas.Bool.Decides.{same_from_decides}
use Rattle.std.proofs.lemmas.Slice.Eq.{bytes_eq-Decides}
use Rattle.either.specs.declared.Either.TheVariants.{Left, Right}
use Rattle.cost.specs.Words.{Inverse, rule_if, first_of, rule_named, AnyRule, any_rules, any_word, any_named}

-- What is read as a rule is its own word.
if_only : {Rule : Type 0} (test : Bool) (one rule : Rule) → cond test (Some one) None ≡ Some rule → test ≡ true
if_only true one rule e = refl
if_only false one rule e = let z : ◌≡◌ {A = ℕ} 0 1 = cc in absurd (omega arith)

pub rule_if_only : {Rule : Type 0} (own : List ℕ) (one : Rule) (word : List ℕ) (rule : Rule) → rule_if own one word ≡ Some rule → own ≡ word
rule_if_only own one word rule e = sym ((bytes_eq-Decides word own).0 (if_only (bytes_eq word own) one rule e))

-- A kind with one rule.
pub one_inverse : {Rule : Type 0} (own : List ℕ) (one : Rule) → ((rule : Rule) → one ≡ rule) → Inverse (λ (_ : Rule). own) (rule_if own one)
one_inverse own one alone = record {
  back = λ rule. ap (λ (b : Bool). cond b (Some one) None) ((bytes_eq-Decides own own).1 refl) ∙ ap (λ r. Some r) (alone rule);
  only = rule_if_only own one;
}

-- A test of two texts decides whether the word is the rule's own.
pub rule_if_by : {Rule : Type 0} (own bytes : List ℕ) (rule : Rule) (word : List ℕ) (test is : Bool) → bytes ≡ own → Decides test (word ≡ bytes) → test ≡ is → cond is (Some rule) None ≡ rule_if own rule word
rule_if_by own bytes rule word test is same decides e =
    ap (λ (b : Bool). cond b (Some rule) None) (sym e ∙ same_from_decides test (bytes_eq word bytes) decides (bytes_eq-Decides word bytes)) ∙ ap (λ (w : List ℕ). rule_if w rule word) same

first_left : {A B : Type 0} (one : Option A) (other : Option B) (a : A) → first_of one other ≡ Some (Left a) → one ≡ Some a
first_left (Some x) other a e = cc
first_left None (Some b) a e = let z : ◌≡◌ {A = ℕ} 0 1 = cc in absurd (omega arith)
first_left None None a e = let z : ◌≡◌ {A = ℕ} 0 1 = cc in absurd (omega arith)

first_right : {A B : Type 0} (one : Option A) (other : Option B) (b : B) → first_of one other ≡ Some (Right b) → other ≡ Some b
first_right (Some x) other b e = let z : ◌≡◌ {A = ℕ} 0 1 = cc in absurd (omega arith)
first_right None (Some x) b e = cc
first_right None None b e = let z : ◌≡◌ {A = ℕ} 0 1 = cc in absurd (omega arith)

any_back : (rule : AnyRule) → any_named (any_word rule) ≡ Some rule
any_back (Left rule) = refl
any_back (Right (Left rule)) = refl
any_back (Right (Right rule)) = refl

any_only : (word : List ℕ) (rule : AnyRule) → any_named word ≡ Some rule → any_word rule ≡ word
any_only word (Left rule) e = rule_if_only (codes "sum") _ word rule (first_left _ _ rule e)
any_only word (Right (Left rule)) e = rule_if_only (codes "dearest") _ word rule (first_left _ _ rule (first_right _ _ (Left rule) e))
any_only word (Right (Right rule)) e = rule_if_only (codes "staged") _ word rule (first_right (rule_if (codes "dearest") (record {}) word) _ rule (first_right (rule_if (codes "sum") (record {}) word) _ (Right rule) e))

pub any_inverse : Inverse any_word any_named
any_inverse = record { back = any_back; only = any_only }

-- The first of three answers that is some is the first of a list of three.
three_tests : {A B C : Type 0} (a : A) (b : B) (c : C) (first second third : Bool) → first_of (cond first (Some a) None) (first_of (cond second (Some b) None) (cond third (Some c) None)) ≡ (if first then Some (Left a) else if second then Some (Right (Left b)) else if third then Some (Right (Right c)) else None)
three_tests a b c true second third = refl
three_tests a b c false true third = refl
three_tests a b c false false true = refl
three_tests a b c false false false = refl

pub any_listed : (word : List ℕ) → any_named word ≡ rule_named any_word any_rules word
any_listed word = three_tests _ _ _ (bytes_eq word (codes "sum")) (bytes_eq word (codes "dearest")) (bytes_eq word (codes "staged"))

-- A list of rules whose words are each read as the rule reads and prints inversely.
module _ {Rule : Type 0} (word_of : Rule → List ℕ) where
  -- What is read as a rule is its word: the first rule's, or that of one of the rest.
  only_at : (word : List ℕ) (first rule : Rule) (rest : Option Rule) (test : Bool) → bytes_eq word (word_of first) ≡ test → (if test then (Some first) else rest) ≡ Some rule → (rest ≡ Some rule → word_of rule ≡ word) → word_of rule ≡ word
  only_at word first rule rest true own read later = let same = (bytes_eq-Decides word (word_of first)).0 own in cc
  only_at word first rule rest false own read later = later read

  only : (rules : List Rule) (word : List ℕ) (rule : Rule) → rule_named word_of rules word ≡ Some rule → word_of rule ≡ word
  only [] word rule read = cc
  only (first ∷ rules) word rule read = only_at word first rule (rule_named word_of rules word) (bytes_eq word (word_of first)) refl read (only rules word rule)

  pub inverse_from_back : (rules : List Rule) → ((rule : Rule) → rule_named word_of rules (word_of rule) ≡ Some rule) → Inverse word_of (rule_named word_of rules)
  inverse_from_back rules back = record { back = back; only = only rules }
