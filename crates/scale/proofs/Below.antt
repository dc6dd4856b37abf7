-- Tests over the numbers below a bound decide what they say. Assumes nothing.
use Rattle.std.proofs.Common.{◌≡◌, ℕ, ◌<◌, ◌≤◌, Bool, true, false, leb, Decides, sym, refl}
use Rattle.std.proofs.lemmas.Bool.{leb-true, le-leb}
use Rattle.std.proofs.lemmas.Bool.Decides.{Decides-below_or, Decides-below_and}
use Rattle.scale.specs.Rows.{any_below, all_below}

pub decides_leb : (a b : ℕ) → Decides (leb a b) (a ≤ b)
decides_leb a b = (leb-true a b, le-leb a b)

pub decides_itself : (b : Bool) → Decides b (b ≡ true)
decides_itself b = ((λ e. e), (λ e. e))

pub any_decides : (p : ℕ → Bool) (P : ℕ → Type 0) → ((k : ℕ) → Decides (p k) (P k)) → (n : ℕ) → Decides (any_below p n) ((k : ℕ) × (k < n) × P k)
any_decides p P each = Decides-below_or p P (any_below p) each refl (λ _. refl)

pub all_decides : (p : ℕ → Bool) (P : ℕ → Type 0) → ((k : ℕ) → Decides (p k) (P k)) → (n : ℕ) → Decides (all_below p n) ((k : ℕ) → k < n → P k)
all_decides p P each = Decides-below_and p P (all_below p) each refl (λ _. refl)

-- a test over a whole range, read off at one number
pub all_below_at : (p : ℕ → Bool) (n : ℕ) → all_below p n ≡ true → (k : ℕ) → k < n → p k ≡ true
all_below_at p n = (all_decides p (λ k. p k ≡ true) (λ k. decides_itself (p k)) n).0

pub all_below_from : (p : ℕ → Bool) (n : ℕ) → ((k : ℕ) → k < n → p k ≡ true) → all_below p n ≡ true
all_below_from p n = (all_decides p (λ k. p k ≡ true) (λ k. decides_itself (p k)) n).1

-- the value of a test that decides something known
pub true_from : {P : Type 0} (t : Bool) → Decides t P → P → true ≡ t
true_from t d p = sym (d.1 p)

pub false_from : {P : Type 0} (t : Bool) → Decides t P → (P → ⊥) → false ≡ t
false_from true d h = absurd (h (d.0 refl))
false_from false d h = refl
