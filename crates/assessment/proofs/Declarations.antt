-- The rows of a list of pairs are the only ones that declare them. Assumes nothing.
use Rattle.std.proofs.Common.{◌≡◌, ℕ, ◌<◌, ◌&&◌, eqb, ◌⊎◌, List, length, get_or, Decides, sym, refl, ap, ◌∙◌, subst, inl, inr, ⊎_elim, arith}
use Rattle.std.specs.List.{HoldsAt}
use Rattle.std.proofs.lemmas.List.FromFn.{fill_by_all, get_or-map-range_with_len, length-map-range_with_len}
use Rattle.std.proofs.lemmas.List.{get_or_default}
use Rattle.std.proofs.lemmas.Bool.{lt-ltb}
use Rattle.std.proofs.lemmas.Bool.Decides.{same_from_decides, Decides-at, Decides-like, Decides-and, Decides-or, Decides-eqb, Decides-by_or}
use Rattle.scale.specs.Question.{bit}
use Rattle.scale.specs.Rows.{row_of}
use Rattle.scale.proofs.Bits.{bit_row_of, row_below, same_bits}
use Rattle.assessment.specs.Question.{Pair, Declared, Declares}
use Rattle.assessment.specs.Reading.{is_of, declared, rows_of}

is_pair : (pair : Pair) (i k : ℕ) → Decides (eqb pair.0 i && eqb pair.1 k) (pair ≡ (i, k))
is_pair pair i k =
    Decides-like (eqb pair.0 i && eqb pair.1 k)
    (λ h. (λ n. (h.0 n, h.1 n)))
    (λ e. (ap (λ (q : Pair). q.0) e, ap (λ (q : Pair). q.1) e))
    (Decides-and (eqb pair.0 i) (eqb pair.1 k) (Decides-eqb pair.0 i) (Decides-eqb pair.1 k))

is_of_decides : (i k : ℕ) (pair : Pair) → Decides (is_of pair i k) ((pair ≡ (i, k)) ⊎ (pair ≡ (k, i)))
is_of_decides i k pair = Decides-or (eqb pair.0 i && eqb pair.1 k) (eqb pair.0 k && eqb pair.1 i) (is_pair pair i k) (is_pair pair k i)

-- some pair is of the members i and k
abbrev Somewhere : List Pair → ℕ → ℕ → Type 0
Somewhere pairs i k = (m : ℕ) × (m < length pairs) × HoldsAt (λ pair. (pair ≡ (i, k)) ⊎ (pair ≡ (k, i))) pairs m

somewhere_declared : (pairs : List Pair) (i k : ℕ) → Somewhere pairs i k → Declared pairs i k
somewhere_declared pairs i k h = ⊎_elim
    (λ (e : get_or pairs h.0 (0, 0) ≡ (i, k)). inl (h.0, h.1, get_or_default pairs h.0 (i, k) (0, 0) h.1 ∙ e))
    (λ (e : get_or pairs h.0 (0, 0) ≡ (k, i)). inr (h.0, h.1, get_or_default pairs h.0 (k, i) (0, 0) h.1 ∙ e))
    (h.2 (0, 0))

declared_somewhere : (pairs : List Pair) (i k : ℕ) → Declared pairs i k → Somewhere pairs i k
declared_somewhere pairs i k = ⊎_elim
    (λ h. (h.0, h.1, λ d. inl (get_or_default pairs h.0 d (i, k) h.1 ∙ h.2)))
    (λ h. (h.0, h.1, λ d. inr (get_or_default pairs h.0 d (k, i) h.1 ∙ h.2)))

declared_decides : (pairs : List Pair) (i k : ℕ) → Decides (declared pairs i k) (Declared pairs i k)
declared_decides pairs i k =
    Decides-like (declared pairs i k) (somewhere_declared pairs i k) (declared_somewhere pairs i k)
    (Decides-by_or (λ pair. is_of pair i k) (λ pair. (pair ≡ (i, k)) ⊎ (pair ≡ (k, i))) (λ ps. declared ps i k) (is_of_decides i k) refl (λ _ _. refl) pairs)

bit_declared : (pairs : List Pair) (i k : ℕ) → k < 8 → bit (row_of (declared pairs i) 8) k ≡ declared pairs i k
bit_declared pairs i k hk = bit_row_of (declared pairs i) 8 k (omega arith) hk ∙ ap (λ t. t && declared pairs i k) (lt-ltb k 8 hk)

row_at : (pairs : List Pair) (n i : ℕ) → i < n → get_or (rows_of pairs n) i 0 ≡ row_of (declared pairs i) 8
row_at pairs n i h = get_or-map-range_with_len (λ i. row_of (declared pairs i) 8) 0 n i i 0 h (omega arith)

pub rows_declare : (pairs : List Pair) (n : ℕ) → Declares pairs n (rows_of pairs n)
rows_declare pairs n = record {
  each = length-map-range_with_len (λ i. row_of (declared pairs i) 8) 0 n;
  bytes = λ i h. subst (λ row. row < 256) (sym (row_at pairs n i h)) (row_below (declared pairs i) 8);
  bits = λ i k hi hk. Decides-at (bit (get_or (rows_of pairs n) i 0) k) (declared pairs i k) (ap (λ row. bit row k) (row_at pairs n i hi) ∙ bit_declared pairs i k hk) (declared_decides pairs i k);
}

pub only_rows : (pairs : List Pair) (n : ℕ) (rows : List ℕ) → Declares pairs n rows → rows ≡ rows_of pairs n
only_rows pairs n rows h =
    fill_by_all (λ i. row_of (declared pairs i) 8) rows n 0 h.each
    (λ i hi. same_bits (get_or rows i 0) (row_of (declared pairs i) 8) (h.bytes i hi) (row_below (declared pairs i) 8)
    (λ k hk. same_from_decides (bit (get_or rows i 0) k) (declared pairs i k) (h.bits i k hi hk) (declared_decides pairs i k) ∙ sym (bit_declared pairs i k hk)))
