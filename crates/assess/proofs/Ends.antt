-- The last byte of a line. Assumes nothing.
use Rattle.std.proofs.Common.{◌≡◌, ℕ, ◌+◌, ◌-◌, ◌<◌, List, [], ◌∷◌, ◌++◌, length, get_or, take, sym, ap, ◌∙◌, arith}
use Rattle.std.proofs.lemmas.List.{take_more, take_all, length_push, get_or_push}

-- a line by its last byte
pub by_last : (line : List ℕ) (b : ℕ) → 0 < length line → get_or line (length line - 1) 0 ≡ b → line ≡ take (length line - 1) line ++ b ∷ []
by_last line b some last =
    let n : length line - 1 + 1 ≡ length line = omega arith in
    sym (ap (λ k. take k line) n ∙ take_all (length line) line (omega arith))
    ∙ take_more line (length line - 1) 0 (omega arith) ∙ ap (λ x. take (length line - 1) line ++ x ∷ []) last

pub no_last : (line : List ℕ) (b : ℕ) → length line ≡ 0 → (text : List ℕ) → line ≡ text ++ b ∷ [] → ⊥
no_last line b none text e = omega (arith, ap length e, length_push text b)

pub other_last : (line : List ℕ) (b : ℕ) → (get_or line (length line - 1) 0 ≡ b → ⊥) → (text : List ℕ) → line ≡ text ++ b ∷ [] → ⊥
other_last line b differ text e =
    let n : length text ≡ length line - 1 = omega (arith, ap length e, length_push text b) in
    differ (ap (λ l. get_or l (length line - 1) 0) e ∙ get_or_push text b 0 (length line - 1) n)
