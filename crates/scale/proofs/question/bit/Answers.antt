use Rattle.std.proofs.Common.{◌≡◌, false, arith}
use Rattle.std.proofs.lemmas.Bool.Decides.{nat_tests}
use Rattle.scale.specs.Question.{bit}
use Rattle.scale.proofs.Bits.{bit_past}
use Rattle.scale.proofs.question.bit.Goals as goal

pub returns-else-j-lt-MOST_MEMBERS : goal.returns-else-j-lt-MOST_MEMBERS
returns-else-j-lt-MOST_MEMBERS c =
    let none : bit c.args.row c.args.j ≡ false = bit_past c.args.row c.args.j c.ranges.row.fits (omega arith) in
    grind (arith, nat_tests)
