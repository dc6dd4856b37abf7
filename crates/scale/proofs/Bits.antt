-- The bits of a row. Assumes nothing.
use Rattle.std.proofs.Common.{◌≡◌, ℕ, zero, suc, ◌+◌, ◌^◌, ◌<◌, ◌%◌, ◌≤◌, min, max, Bool, true, false, not, ◌&&◌, ◌||◌, eqb, ltb, ◌⊎◌, List, length, get_or, Decides, sym, refl, ap, ◌∙◌, inl, inr, ⊎_elim, one-mul, arith}
use lib.Bits.{bit_and, bit_or}
use Rattle.std.specs.Int.{bit_at}
use Rattle.std.proofs.lemmas.List.{get_or_past}
use Rattle.std.proofs.lemmas.Bool.{false≢true, both_ways, cases_eq, cases_Bool, eqb-true, eq-eqb, ne_eqb, le-ltb, and_left, and_right, and_parts, or_left, or_right, or_cases}
use Rattle.std.proofs.lemmas.Nat.{pow_pos, pow-add, or_shifted, and_le_l, and_mask}
use Rattle.std.proofs.lemmas.Nat.Bits.{bit_at-lt, bit_at-zero, bit_at_and, bit_at_or, bit_at-pow_same, bit_at-pow_other, bit_at_ones, bit_at_above, same_from_bits_below}
use Rattle.std.proofs.lemmas.Bool.Decides.{nat_tests, same_from_decides, Decides-like, Decides-and, Decides-eqb}
use Rattle.scale.specs.Question.{bit, apart}
use Rattle.scale.specs.Rows.{row_of, has_all}
use Rattle.scale.proofs.Below.{all_decides, decides_itself}

pub low_bit : (n : ℕ) → bit_and n 1 ≡ n % 2
low_bit n = and_mask n 1

one_and : (x y z : ℕ) → x < 2 → y < 2 → z ≡ min x y → eqb z 1 ≡ (eqb x 1 && eqb y 1)
one_and x y z hx hy e = grind (arith, nat_tests)

one_or : (x y z : ℕ) → x < 2 → y < 2 → z ≡ max x y → eqb z 1 ≡ (eqb x 1 || eqb y 1)
one_or x y z hx hy e = grind (arith, nat_tests)

one_same : (x y : ℕ) → x < 2 → y < 2 → eqb x 1 ≡ eqb y 1 → x ≡ y
one_same x y hx hy e = grind (arith, nat_tests)

pub bit_of_and : (a b k : ℕ) → bit (bit_and a b) k ≡ (bit a k && bit b k)
bit_of_and a b k = one_and (bit_at a k) (bit_at b k) (bit_at (bit_and a b) k) (bit_at-lt a k) (bit_at-lt b k) (bit_at_and a b k)

pub bit_of_or : (a b k : ℕ) → bit (bit_or a b) k ≡ (bit a k || bit b k)
bit_of_or a b k = one_or (bit_at a k) (bit_at b k) (bit_at (bit_or a b) k) (bit_at-lt a k) (bit_at-lt b k) (bit_at_or a b k)

pub bit_pow : (j k : ℕ) → j < 8 → k < 8 → bit (2 ^ j) k ≡ eqb k j
bit_pow j k hj hk = ⊎_elim
    (λ (is : k ≡ j). rw is (ap (λ n. eqb n 1) (bit_at-pow_same j) ∙ sym (eq-eqb j j refl)))
    (λ differ. ap (λ n. eqb n 1) (bit_at-pow_other j k differ) ∙ sym (ne_eqb k j differ))
    (cases_eq k j)

pub bit_none : (k : ℕ) → k < 8 → bit 0 k ≡ false
bit_none k h = ap (λ n. eqb n 1) (bit_at-zero k)

pub bit_full : (k : ℕ) → k < 8 → bit 255 k ≡ true
bit_full k h = ap (λ n. eqb n 1) (bit_at_ones 8 k h)

-- a byte has no bit past the eighth
pub bit_past : (row j : ℕ) → row < 256 → 8 ≤ j → bit row j ≡ false
bit_past row j hr hj = ap (λ n. eqb n 1) (bit_at_above row 8 j hr hj)

-- bytes with the same bits are equal
pub same_bits : (x y : ℕ) → x < 256 → y < 256 → ((k : ℕ) → k < 8 → bit x k ≡ bit y k) → x ≡ y
same_bits x y hx hy h = same_from_bits_below 8 x y hx hy (λ k less. one_same (bit_at x k) (bit_at y k) (bit_at-lt x k) (bit_at-lt y k) (h k less))

-- a row of n bits is below 2 ^ n
pub row_below : (p : ℕ → Bool) (n : ℕ) → row_of p n < 2 ^ n
row_below p zero = omega arith
row_below p (suc n) =
    let h = row_below p n in
    let double : 2 ^ suc n ≡ 2 ^ n + 2 ^ n = omega (arith, pow-add 2 n 1) in
    ⊎_elim (λ (t : p n ≡ true). rw t (omega arith)) (λ (t : p n ≡ false). rw t (omega (arith, pow_pos n))) (cases_Bool (p n))

-- tests that agree below n make one row
pub row_same : (p q : ℕ → Bool) (n : ℕ) → ((k : ℕ) → k < n → p k ≡ q k) → row_of p n ≡ row_of q n
row_same p q zero h = refl
row_same p q (suc n) h =
    let rest = row_same p q n (λ k less. h k (omega arith)) in
    let here = h n (omega arith) in
    rw (rest, here)

-- what passes below n + 1, where n passes, and where it does not
one_more : (k n : ℕ) (here : Bool) → (k ≡ n → here ≡ true) → (eqb k n || (ltb k n && here)) ≡ (ltb k (suc n) && here)
one_more k n here top = grind (arith, nat_tests)

no_more : (k n : ℕ) (here : Bool) → (k ≡ n → here ≡ false) → (ltb k n && here) ≡ (ltb k (suc n) && here)
no_more k n here top = grind (arith, nat_tests)

-- a row has just the bits that pass
pub bit_row_of : (p : ℕ → Bool) (n k : ℕ) → n ≤ 8 → k < 8 → bit (row_of p n) k ≡ (ltb k n && p k)
bit_row_of p zero k hn hk = bit_none k hk ∙ sym (and_left (ltb k 0) (p k) (le-ltb k 0 (omega arith)))
bit_row_of p (suc n) k hn hk =
    let row = row_of p n in
    let below = bit_row_of p n k (omega arith) hk in
    ⊎_elim
    (λ (t : p n ≡ true).
    let joined : row + 2 ^ n ≡ bit_or (2 ^ n) row = omega (arith, or_shifted 1 n row (row_below p n), ap (λ m. bit_or m row) (one-mul (2 ^ n))) in
    let top : bit (2 ^ n) k ≡ eqb k n = bit_pow n k (omega arith) hk in
    rw t (ap (λ m. bit m k) joined ∙ bit_of_or (2 ^ n) row k ∙ rw (top, below) (one_more k n (p k) (λ is. ap p is ∙ t))))
    (λ (t : p n ≡ false). rw t (ap (λ m. bit m k) (omega arith) ∙ below ∙ no_more k n (p k) (λ is. ap p is ∙ t)))
    (cases_Bool (p n))

-- what `has_all` says, bit by bit
abbrev pub HasAll : ℕ → ℕ → Type 0
HasAll row other = (k : ℕ) → k < 8 → bit other k ≡ true → bit row k ≡ true

implied : (a b : Bool) → Decides (not a || b) (a ≡ true → b ≡ true)
implied true b = ((λ e _. e), (λ h. h refl))
implied false b = ((λ _ e. absurd (false≢true e)), (λ _. refl))

pub has_all_decides : (row other : ℕ) → Decides (has_all row other) (HasAll row other)
has_all_decides row other =
    all_decides (λ k. not (bit other k) || bit row k) (λ k. bit other k ≡ true → bit row k ≡ true) (λ k. implied (bit other k) (bit row k)) 8

-- every row has all bits of none
pub has_all_none : (row : ℕ) → has_all row 0 ≡ true
has_all_none row = (has_all_decides row 0).1 (λ k less set. absurd (both_ways (bit 0 k) (bit_none k less) set))

-- one bit more to have
pub has_all_more : (row other i : ℕ) → i < 8 → has_all row (bit_or other (2 ^ i)) ≡ (has_all row other && bit row i)
has_all_more row other i hi =
    same_from_decides (has_all row (bit_or other (2 ^ i))) (has_all row other && bit row i)
    (Decides-like (has_all row (bit_or other (2 ^ i)))
    (λ h. (
      (λ k less set. h k less (bit_of_or other (2 ^ i) k ∙ or_left (bit other k) (bit (2 ^ i) k) set)),
      h i hi (bit_of_or other (2 ^ i) i ∙ or_right (bit other i) (bit (2 ^ i) i) (bit_pow i i hi hi ∙ eq-eqb i i refl)),
    ))
    (λ h k less set. ⊎_elim (λ t. h.0 k less t)
    (λ (t : bit (2 ^ i) k ≡ true). ap (bit row) (eqb-true k i (sym (bit_pow i k hi less) ∙ t)) ∙ h.1)
    (or_cases (bit other k) (bit (2 ^ i) k) (sym (bit_of_or other (2 ^ i) k) ∙ set)))
    (has_all_decides row (bit_or other (2 ^ i))))
    (Decides-and (has_all row other) (bit row i) (has_all_decides row other) (decides_itself (bit row i)))

both_as_second : (a b : Bool) → (b ≡ true → a ≡ true) → (a && b) ≡ b
both_as_second true b h = refl
both_as_second false true h = h refl
both_as_second false false h = refl

-- the test on whole bytes
pub has_all_masked : (row other : ℕ) → row < 256 → other < 256 → eqb (bit_and row other) other ≡ has_all row other
has_all_masked row other hr ho =
    same_from_decides (eqb (bit_and row other) other) (has_all row other)
    (Decides-like (eqb (bit_and row other) other)
    (λ (e : bit_and row other ≡ other) k less set. (and_parts (bit row k) (bit other k) (sym (bit_of_and row other k) ∙ ap (λ m. bit m k) e ∙ set)).0)
    (λ (h : HasAll row other). same_bits (bit_and row other) other (omega (arith, and_le_l row other)) ho
    (λ k less. bit_of_and row other k ∙ both_as_second (bit row k) (bit other k) (h k less)))
    (Decides-eqb (bit_and row other) other))
    (has_all_decides row other)

-- a member that has no row is apart from nobody
pub apart_past : (rows : List ℕ) (i j : ℕ) → (length rows ≤ i) ⊎ (length rows ≤ j) → apart rows i j ≡ false
apart_past rows i j (inl past) = and_left (bit (get_or rows i 0) j) (bit (get_or rows j 0) i) (ap (λ row. bit row j) (get_or_past rows i 0 past) ∙ ap (λ n. eqb n 1) (bit_at-zero j))
apart_past rows i j (inr past) = and_right (bit (get_or rows i 0) j) (bit (get_or rows j 0) i) (ap (λ row. bit row i) (get_or_past rows j 0 past) ∙ ap (λ n. eqb n 1) (bit_at-zero i))
