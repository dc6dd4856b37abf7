-- The test of each member and the next is the test that members ascend. Assumes nothing.
use Rattle.std.proofs.Common.{◌≡◌, ℕ, zero, suc, Bool, true, false, ltb, List, [], ◌∷◌, sym, refl, arith, add-one}
use Rattle.std.proofs.lemmas.Bool.{and_left, and_right}
use Rattle.std.specs.List.{IsAllAdjacentAnswer}
use Rattle.theory.specs.Edits.{ascending}

pub ascends_by_neighbours : (xs : List ℕ) (r : Bool) → IsAllAdjacentAnswer (λ x y b. b ≡ ltb x y) xs r → r ≡ ascending xs
ascends_by_neighbours [] true h = refl
ascends_by_neighbours [] false h = absurd (omega (arith, h.1))
ascends_by_neighbours (x ∷ []) true h = refl
ascends_by_neighbours (x ∷ []) false h = absurd (omega (arith, h.1))
ascends_by_neighbours (x ∷ y ∷ xs) true h =
    let rest = ascends_by_neighbours (y ∷ xs) true (λ k d within. simp add-one (simp add-one at (h (suc k) d (omega arith)))) in
    let here = h 0 x (omega arith) in
    cc
ascends_by_neighbours (x ∷ y ∷ xs) false (zero, within, fails) = sym (and_left _ _ (sym (fails x)))
ascends_by_neighbours (x ∷ y ∷ xs) false (suc k, within, fails) =
    sym (and_right _ _ (sym (ascends_by_neighbours (y ∷ xs) false (k, omega arith, λ d. simp add-one (simp add-one at (fails d))))))
