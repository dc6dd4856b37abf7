-- Projects with known searches: what the definitions give with the real scales and cost rules, beside the scales' known answers.
use Rattle.std.specs.Prelude.{◌≡◌, ℕ, false, [], ◌∷◌, nat_lt}
use Rattle.scale.specs.Question.{Meaning}
use Rattle.asil.specs.Groups.{asil_test}
use Rattle.dal.specs.Options.{dal_test}
use Rattle.standard.specs.Reference as scales
use Rattle.cost.specs.declared.quote.Quote.{Quote}
use Rattle.cost.specs.Rules.{sum_joined, dearest_joined, staged_joined, staged_less}
use Rattle.theory.specs.declared.verdict.Verdict.TheVariants.{Settled, Blocked}
use Rattle.theory.specs.Model.{Model, empty_model}
use Rattle.theory.specs.Allocations.{Rule}
use Rattle.theory.specs.Walks.{settled, blocked, new_walk, work_call}

-- The three cost rules by their meanings.
abbrev pub sum_rule : Rule ℕ
sum_rule = record { begins = 0; joined = sum_joined; lesser = nat_lt }

abbrev pub dearest_rule : Rule ℕ
dearest_rule = record { begins = 0; joined = dearest_joined; lesser = nat_lt }

abbrev pub staged_rule : Rule (ℕ × ℕ)
staged_rule = record { begins = (0, 0); joined = staged_joined; lesser = staged_less }

-- A quote that takes no weeks.
abbrev pub priced : ℕ → Quote
priced price = record { price = price; weeks = 0 }

-- One part from level 0 up to a ceiling, at the prices 0, 5, 9, 20 and 30, in one set that requires a level.
abbrev pub one_part : ℕ → ℕ → Model
one_part ceiling required = record {
  parts = record { floor = 0; ceiling = ceiling; quotes = priced 0 ∷ priced 5 ∷ priced 9 ∷ priced 20 ∷ priced 30 ∷ [] } ∷ [];
  apart = λ a b. false;
  sets = record { required = required; members = 0 ∷ [] } ∷ [];
}

-- A grant that is more than enough for each of these projects.
abbrev pub plenty : ℕ
plenty = 100

-- The table: the scales' known answers, and these searches.
pub record Reference : Type 0 where
  pub answers : scales.Reference
  -- level 2 for 9, in 6 steps
  pub asil_buys_two : work_call asil_test sum_rule (one_part 4 2) plenty new_walk ≡ ((6, Settled 9), settled (record { levels = 2 ∷ []; amount = 9 }))
  pub dal_buys_two : work_call dal_test sum_rule (one_part 4 2) plenty new_walk ≡ ((6, Settled 9), settled (record { levels = 2 ∷ []; amount = 9 }))
  -- out of reach: blocked by set 0 after 1 step
  pub asil_out_of_reach : work_call asil_test sum_rule (one_part 3 4) plenty new_walk ≡ ((1, Blocked 0), blocked 0)
  pub dal_out_of_reach : work_call dal_test sum_rule (one_part 3 4) plenty new_walk ≡ ((1, Blocked 0), blocked 0)
  -- nothing to buy: settled in 1 step, under every scale
  pub nothing_by_sum : (means : Meaning) → work_call means sum_rule empty_model plenty new_walk ≡ ((1, Settled 0), settled (record { levels = []; amount = 0 }))
  pub nothing_by_dearest : (means : Meaning) → work_call means dearest_rule empty_model plenty new_walk ≡ ((1, Settled 0), settled (record { levels = []; amount = 0 }))
  pub nothing_by_staged : (means : Meaning) → work_call means staged_rule empty_model plenty new_walk ≡ ((1, Settled (0, 0)), settled (record { levels = []; amount = (0, 0) }))
