-- Questions with known answers: what the scales answer to each, as theorems about the whole answer. Assumes nothing.
use Rattle.std.specs.Prelude.{◌≡◌, ℕ, true, false, List, [], ◌∷◌}
use Rattle.scale.specs.Question.{answer}
use Rattle.asil.specs.Groups.{asil_test}
use Rattle.dal.specs.Options.{dal_test}

-- rows of two members, apart and not, and of three members, the first apart from both others, all three apart, and the first two
abbrev pub two_apart : List ℕ
two_apart = 2 ∷ 1 ∷ []

abbrev pub two_joined : List ℕ
two_joined = 0 ∷ 0 ∷ []

abbrev pub first_from_both : List ℕ
first_from_both = 6 ∷ 1 ∷ 1 ∷ []

abbrev pub three_apart : List ℕ
three_apart = 6 ∷ 5 ∷ 3 ∷ []

abbrev pub first_two_apart : List ℕ
first_two_apart = 2 ∷ 1 ∷ 0 ∷ []

-- the table of answers
pub record Reference : Type 0 where
  pub asil_d_by_b_and_b_apart : answer asil_test 4 (2 ∷ 2 ∷ []) two_apart ≡ true
  pub asil_d_by_b_and_b_joined : answer asil_test 4 (2 ∷ 2 ∷ []) two_joined ≡ false
  pub asil_d_by_b_a_a_first_from_both : answer asil_test 4 (2 ∷ 1 ∷ 1 ∷ []) first_from_both ≡ false
  pub asil_d_by_b_a_a_apart : answer asil_test 4 (2 ∷ 1 ∷ 1 ∷ []) three_apart ≡ true
  pub dal_a_by_b_and_b_apart : answer dal_test 4 (3 ∷ 3 ∷ []) two_apart ≡ true
  pub dal_a_by_a_and_d : answer dal_test 4 (4 ∷ 1 ∷ []) two_joined ≡ false
  pub dal_a_by_a_and_c : answer dal_test 4 (4 ∷ 2 ∷ []) two_joined ≡ true
  pub dal_d_by_e_and_e_apart : answer dal_test 1 (0 ∷ 0 ∷ []) two_apart ≡ false
  pub dal_c_by_d_d_e_first_two_apart : answer dal_test 2 (1 ∷ 1 ∷ 0 ∷ []) first_two_apart ≡ true
