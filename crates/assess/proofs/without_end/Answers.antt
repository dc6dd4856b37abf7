use Rattle.std.proofs.Common.{refl, inl, inr, arith, ltb-false, ltb-true, eqb-true}
use borrow.Author.Tests.{eqb-false}
use Rattle.assess.proofs.Ends.{by_last, no_last, other_last}
use Rattle.assess.proofs.without_end.Goals as goal

pub returns-in-10 : goal.returns-in-10
returns-in-10 c = inl (by_last c.args.line.now 10 (omega (arith, ltb-true, ltb-false)) (omega (arith, eqb-true, eqb-false, ltb-true, ltb-false)))

pub returns-in_default : goal.returns-in_default
returns-in_default c = inr (refl, no_last c.args.line.now 10 (omega (arith, ltb-true, ltb-false)))

pub returns-in_default-2 : goal.returns-in_default-2
returns-in_default-2 c = inr (refl, other_last c.args.line.now 10 (λ e. omega (arith, eqb-true, eqb-false, ltb-true, ltb-false)))
