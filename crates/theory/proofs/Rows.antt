-- The rows of a set's members. Assumes nothing.
use Rattle.std.proofs.Common.{◌≡◌, ℕ, zero, suc, ◌<◌, ◌≤◌, Bool, ltb, List, [], ◌∷◌, map, length, get_or, sym, refl, ap, ◌∙◌, ⊎_elim, arith, pow_mono}
use Rattle.std.proofs.lemmas.Bool.{cases_lt, le-ltb, and_left}
use Rattle.scale.specs.Question.{bit}
use Rattle.scale.specs.Rows.{row_of}
use Rattle.scale.proofs.Bits.{row_below, bit_row_of, bit_past}
use Rattle.theory.specs.Allocations.{row, rows, RowsRight}

row_at : (f : ℕ → ℕ) (ms : List ℕ) (i : ℕ) → i < length ms → get_or (map f ms) i 0 ≡ f (get_or ms i 0)
row_at f [] i h = absurd (omega arith)
row_at f (m ∷ ms) zero h = refl
row_at f (m ∷ ms) (suc i) h = row_at f ms i (omega arith)

pub rows_right : RowsRight
rows_right apart members few i j within =
    let m = get_or members i 0 in
    let test : ℕ → Bool = λ k. apart m (get_or members k 0) in
    let n = length members in
    let here : get_or (rows apart members) i 0 ≡ row_of test n = row_at (row apart members) members i within in
    ap (λ r. bit r j) here ∙ ⊎_elim
    (λ (low : j < 8). bit_row_of test n j few low)
    (λ (past : 8 ≤ j).
    bit_past (row_of test n) j (omega (arith, row_below test n, pow_mono few)) past ∙ sym (and_left (ltb j n) (test j) (le-ltb j n (omega arith))))
    (cases_lt j 8)
