use Rattle.std.proofs.Common.{arith}
use Rattle.std.proofs.lemmas.Grind.{get_or_default_zero}
use Rattle.dal.proofs.options.either_option.Goals as goal

pub returns-else-one_reaches : goal.returns-else-one_reaches
returns-else-one_reaches c = grind arith

pub returns-else-all_reach : goal.returns-else-all_reach
returns-else-all_reach c = ((λ t. grind arith), (λ s. c.all_reach.ensures.1 (λ k d less. grind (arith, get_or_default_zero))))
