use Rattle.std.proofs.Common.{◌≡◌, true, arith}
use Rattle.std.proofs.lemmas.Bool.Decides.{nat_tests}
use Rattle.scale.specs.Question.{all_at_most}
use Rattle.scale.proofs.Forms.{bytes_fit}
use Rattle.scale.proofs.question.well_formed.Goals as goal

pub returns-then-levels-le-MOST_MEMBERS : goal.returns-then-levels-le-MOST_MEMBERS
returns-then-levels-le-MOST_MEMBERS c =
    let bytes : all_at_most 255 c.args.rows.now ≡ true = bytes_fit c.args.rows.now c.type_inv.rows in
    grind (arith, nat_tests)
