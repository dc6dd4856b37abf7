-- What the laws of a scale give. Assumes nothing.
use Rattle.std.proofs.Common.{arith}
use Rattle.std.proofs.lemmas.Bool.{and_from}
use Rattle.scale.specs.Question.{Meaning, formed, Laws, ZeroMet}

module _ {means : Meaning} (laws : Laws means) where
  -- required level 0 is met
  pub zero_met : ZeroMet means
  zero_met levels rows f = and_from (formed 0 levels rows) (means 0 levels rows) f (laws.reach 0 levels rows f (λ k d less. omega arith))
