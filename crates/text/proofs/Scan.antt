-- What stands before the first place of a byte, and from it on. Assumes nothing.
use Rattle.std.proofs.Common.{◌≡◌, ℕ, suc, ◌+◌, ◌≤◌, Bool, true, false, cond, ◌==◌, nat_lt, List, [], ◌∷◌, length, take, drop, Option, Some, None, ap, refl, sym, ◌∙◌, ltb-false, arith}
use Rattle.std.specs.Option.{unwrap_or}
use Rattle.std.specs.List.{position_or_len}
use Rattle.std.proofs.lemmas.List.Recursion.{is_position_or_len}
use Rattle.text.specs.Text.{up_to, on_from}

pub up_to_short : (b : ℕ) (s : List ℕ) → length (up_to b s) ≤ length s
up_to_short b [] = omega arith
up_to_short b (x ∷ xs) = elim (x == b) as (λ t. length (cond t [] (x ∷ up_to b xs)) ≤ suc (length xs)) [ true ↦ omega arith | false ↦ omega (arith, up_to_short b xs) ]

pub take_up_to : (b : ℕ) (s : List ℕ) → take (length (up_to b s)) s ≡ up_to b s
take_up_to b [] = refl
take_up_to b (x ∷ xs) = elim (x == b) as (λ t. take (length (cond t [] (x ∷ up_to b xs))) (x ∷ xs) ≡ cond t [] (x ∷ up_to b xs)) [ true ↦ refl | false ↦ ap (λ l. x ∷ l) (take_up_to b xs) ]

pub drop_up_to : (b : ℕ) (s : List ℕ) → drop (length (up_to b s)) s ≡ on_from b s
drop_up_to b [] = refl
drop_up_to b (x ∷ xs) = elim (x == b) as (λ t. drop (length (cond t [] (x ∷ up_to b xs))) (x ∷ xs) ≡ cond t (x ∷ xs) (on_from b xs)) [ true ↦ refl | false ↦ drop_up_to b xs ]

place_or_end : (p n : ℕ) (t : Bool) → nat_lt p n ≡ t → p ≤ n → unwrap_or (cond t (Some p) None) n ≡ p
place_or_end p n true e le = refl
place_or_end p n false e le = omega (arith, ltb-false p n e)

-- the first place of b, where the end stands for no place
pub place_of : (b : ℕ) (s : List ℕ) (r : Option ℕ) → r ≡ cond (nat_lt (position_or_len (λ x. x == b) s) (length s)) (Some (position_or_len (λ x. x == b) s)) None → unwrap_or r (length s) ≡ length (up_to b s)
place_of b s r e =
    let at : length (up_to b s) ≡ position_or_len (λ x. x == b) s =
    is_position_or_len (λ xs. length (up_to b xs)) (λ x. x == b) refl (λ x xs. elim (x == b) as (λ t. length (cond t [] (x ∷ up_to b xs)) ≡ cond t 0 (1 + length (up_to b xs))) [ true ↦ refl | false ↦ omega arith ]) s in
    let place = position_or_len (λ x. x == b) s in
    ap (λ o. unwrap_or o (length s)) e ∙ place_or_end place (length s) (nat_lt place (length s)) refl (omega (arith, at, up_to_short b s)) ∙ sym at
