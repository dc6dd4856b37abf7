-- Rows with the bits of the pairs that are declared. Assumes nothing.
use Rattle.std.proofs.Common.{◌≡◌, ℕ, zero, suc, ◌*◌, ◌%◌, ◌^◌, ◌<◌, ◌&&◌, ◌||◌, eqb, List, [], ◌∷◌, ◌++◌, length, get_or, set, replicate, Some, None, Option, sym, refl, ap, ◌∙◌, subst, ⊎_elim, append_assoc, append-nil, arith}
use lib.Bits.{bit_or}
use Rattle.std.proofs.Math.Bool.{or_assoc, or-false, and_comm}
use Rattle.std.proofs.lemmas.Nat.{one_shl, or_lt, mod_below}
use Rattle.std.specs.Option.{option_map}
use Rattle.std.proofs.lemmas.List.FromFn.{fill_by_all}
use Rattle.std.proofs.lemmas.List.{get_or-set_same, get_or-set_other, length-set}
use Rattle.std.proofs.lemmas.Bool.{cases_eq, eq-eqb, ne_eqb, lt-ltb}
use Rattle.std.proofs.lemmas.Bool.Decides.{same_from_decides, Decides-eqb, Decides-like}
use Rattle.scale.specs.Question.{bit}
use Rattle.scale.specs.Rows.{row_of}
use Rattle.scale.proofs.Bits.{bit_of_or, bit_pow, bit_none, bit_row_of, row_below, same_bits}
use Rattle.text.specs.Text.{Word}
use Rattle.assessment.specs.Question.{Pair}
use Rattle.assessment.specs.Reading.{and_then, each, read_pair, is_of, declared, rows_of}

eqb_comm : (a b : ℕ) → eqb a b ≡ eqb b a
eqb_comm a b = same_from_decides (eqb a b) (eqb b a) (Decides-eqb a b) (Decides-like (eqb b a) sym sym (Decides-eqb b a))

-- the row of member i with the bit of member j
abbrev with_bit : List ℕ → ℕ → ℕ → List ℕ
with_bit rows i j = set rows i (bit_or (get_or rows i 0) (1 * 2 ^ j % 256))

with_bit_at : (rows : List ℕ) (i j k b : ℕ) → i < length rows → j < 8 → b < 8 → bit (get_or (with_bit rows i j) k 0) b ≡ (bit (get_or rows k 0) b || (eqb i k && eqb j b))
with_bit_at rows i j k b hi hj hb =
    let row = get_or rows i 0 in
    ⊎_elim
    (λ (is : k ≡ i).
    ap (λ n. bit (get_or (with_bit rows i j) n 0) b) is
    ∙ ap (λ n. bit n b) (get_or-set_same rows i (bit_or row (1 * 2 ^ j % 256)) 0 hi ∙ ap (bit_or row) (one_shl j 8 hj))
    ∙ bit_of_or row (2 ^ j) b
    ∙ ap (λ t. bit row b || t) (bit_pow j b hj hb ∙ eqb_comm b j)
    ∙ (λ n. bit (get_or rows (sym is n) 0) b || (sym (eq-eqb i k (sym is)) n && eqb j b)))
    (λ (differ : k ≡ i → ⊥).
    ap (λ n. bit n b) (get_or-set_other rows i k (bit_or row (1 * 2 ^ j % 256)) 0 differ)
    ∙ sym (or-false (bit (get_or rows k 0) b))
    ∙ ap (λ t. bit (get_or rows k 0) b || (t && eqb j b)) (sym (ne_eqb i k (λ e. differ (sym e)))))
    (cases_eq k i)

-- each of two members' rows with the other's bit
pub both_bits_at : (rows : List ℕ) (i j k b : ℕ) → length rows ≡ 8 → i < 8 → j < 8 → b < 8 → bit (get_or (with_bit (with_bit rows i j) j i) k 0) b ≡ (bit (get_or rows k 0) b || is_of (i, j) k b)
both_bits_at rows i j k b len hi hj hb =
    let long = length-set rows i (bit_or (get_or rows i 0) (1 * 2 ^ j % 256)) in
    with_bit_at (with_bit rows i j) j i k b (omega arith) hi hb
    ∙ ap (λ t. t || (eqb j k && eqb i b)) (with_bit_at rows i j k b (omega arith) hj hb)
    ∙ or_assoc (bit (get_or rows k 0) b) (eqb i k && eqb j b) (eqb j k && eqb i b)
    ∙ ap (λ t. bit (get_or rows k 0) b || ((eqb i k && eqb j b) || t)) (and_comm (eqb j k) (eqb i b))

with_bit_below : (rows : List ℕ) (i j : ℕ) → i < length rows → ((k : ℕ) → get_or rows k 0 < 256) → (k : ℕ) → get_or (with_bit rows i j) k 0 < 256
with_bit_below rows i j hi below k =
    let row = bit_or (get_or rows i 0) (1 * 2 ^ j % 256) in
    let small : row < 256 = or_lt 8 (get_or rows i 0) (1 * 2 ^ j % 256) (below i) (mod_below (1 * 2 ^ j) 256 (omega arith)) in
    ⊎_elim
    (λ (is : k ≡ i). subst (λ n. n < 256) (sym (ap (λ n. get_or (with_bit rows i j) n 0) is ∙ get_or-set_same rows i row 0 hi)) small)
    (λ (differ : k ≡ i → ⊥). subst (λ n. n < 256) (sym (get_or-set_other rows i k row 0 differ)) (below k))
    (cases_eq k i)

pub both_bits_below : (rows : List ℕ) (i j : ℕ) → length rows ≡ 8 → i < 8 → j < 8 → ((k : ℕ) → get_or rows k 0 < 256) → (k : ℕ) → get_or (with_bit (with_bit rows i j) j i) k 0 < 256
both_bits_below rows i j len hi hj below =
    let long = length-set rows i (bit_or (get_or rows i 0) (1 * 2 ^ j % 256)) in
    with_bit_below (with_bit rows i j) j i (omega arith) (with_bit_below rows i j (omega arith) below)

-- eight rows with the bits of the pairs so far
pub record RowsHold (pairs : List Pair) (rows : List ℕ) : Type 0 where
  pub eight : length rows ≡ 8
  pub bytes : (k : ℕ) → get_or rows k 0 < 256
  pub bits : (k b : ℕ) → k < 8 → b < 8 → bit (get_or rows k 0) b ≡ declared pairs k b

declared_push : (pairs : List Pair) (pair : Pair) (k b : ℕ) → declared (pairs ++ pair ∷ []) k b ≡ (declared pairs k b || is_of pair k b)
declared_push [] pair k b = or-false (is_of pair k b)
declared_push (p ∷ ps) pair k b = ap (λ t. is_of p k b || t) (declared_push ps pair k b) ∙ sym (or_assoc (is_of p k b) (declared ps k b) (is_of pair k b))

-- eight such rows are the rows of those pairs
pub rows_are : (pairs : List Pair) (rows : List ℕ) → RowsHold pairs rows → rows ≡ rows_of pairs 8
rows_are pairs rows h =
    fill_by_all (λ i. row_of (declared pairs i) 8) rows 8 0 h.eight
    (λ k less. same_bits (get_or rows k 0) (row_of (declared pairs k) 8) (h.bytes k) (row_below (declared pairs k) 8)
    (λ b hb. h.bits k b less hb ∙ sym (bit_row_of (declared pairs k) 8 b (omega arith) hb ∙ ap (λ t. t && declared pairs k b) (lt-ltb b 8 hb))))

-- the pairs that words name, of which some are read already
pub record ReadSome (n : ℕ) (words : List Word) (rows : List ℕ) (left : List Word) : Type 0 where
  pub seen : List Pair
  pub held : RowsHold seen rows
  pub reads : each (read_pair n) words ≡ option_map (λ pairs. seen ++ pairs) (each (read_pair n) left)

mapped_same : {T : Type 0} (o : Option (List T)) → o ≡ option_map (λ (xs : List T). [] ++ xs) o
mapped_same None = refl
mapped_same (Some xs) = refl

zeros : (n k : ℕ) → ◌≡◌ {A = ℕ} (get_or (replicate n 0) k 0) 0
zeros zero k = refl
zeros (suc n) zero = refl
zeros (suc n) (suc k) = zeros n k

pub read_none : (n : ℕ) (words : List Word) → ReadSome n words (replicate 8 0) words
read_none n words = record {
  seen = [];
  held = record { eight = refl; bytes = λ k. subst (λ m. m < 256) (sym (zeros 8 k)) (omega arith); bits = λ k b hk hb. ap (λ m. bit m b) (zeros 8 k) ∙ bit_none b hb };
  reads = mapped_same (each (read_pair n) words);
}

push_cons : {T : Type 0} (seen : List T) (x : T) (o : Option (List T)) → option_map (λ (xs : List T). seen ++ xs) (and_then o (λ xs. Some (x ∷ xs))) ≡ option_map (λ (xs : List T). (seen ++ x ∷ []) ++ xs) o
push_cons seen x None = refl
push_cons seen x (Some xs) = ap Some (sym (append_assoc seen (x ∷ []) xs))

module _ (n : ℕ) (words : List Word) (rows : List ℕ) (left : List Word) (s : ReadSome n words rows left) where
  pub read_more : (word : Word) (after : List Word) (rows' : List ℕ) (i j : ℕ) → left ≡ word ∷ after → Some (i, j) ≡ read_pair n word → length rows' ≡ 8 → ((k : ℕ) → get_or rows' k 0 < 256) → ((k b : ℕ) → k < 8 → b < 8 → bit (get_or rows' k 0) b ≡ (bit (get_or rows k 0) b || is_of (i, j) k b)) → ReadSome n words rows' after
  read_more word after rows' i j next pair eight bytes bits =
      let rest : each (read_pair n) left ≡ and_then (each (read_pair n) after) (λ pairs. Some ((i, j) ∷ pairs)) =
      ap (each (read_pair n)) next ∙ ap (λ o. and_then o (λ p. and_then (each (read_pair n) after) (λ pairs. Some (p ∷ pairs)))) (sym pair) in
      record {
        seen = s.seen ++ (i, j) ∷ [];
        held = record {
          eight = eight;
          bytes = bytes;
          bits = λ k b hk hb. bits k b hk hb ∙ ap (λ t. t || is_of (i, j) k b) (s.held.bits k b hk hb) ∙ sym (declared_push s.seen (i, j) k b);
        };
        reads = s.reads ∙ ap (option_map (λ pairs. s.seen ++ pairs)) rest ∙ push_cons s.seen (i, j) (each (read_pair n) after);
      }

  pub read_all : left ≡ [] → Some rows ≡ option_map (λ pairs. rows_of pairs 8) (each (read_pair n) words)
  read_all none =
      ap Some (rows_are s.seen rows s.held ∙ ap (λ pairs. rows_of pairs 8) (sym (append-nil s.seen)))
      ∙ sym (ap (option_map (λ pairs. rows_of pairs 8)) (s.reads ∙ ap (λ ws. option_map (λ pairs. s.seen ++ pairs) (each (read_pair n) ws)) none))
