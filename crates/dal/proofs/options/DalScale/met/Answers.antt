use Rattle.std.proofs.Common.{refl, rules}
use Rattle.std.proofs.lemmas.Bool.Decides.{same_from_decides}
use Rattle.scale.specs.Question.{formed, answer}
use Rattle.dal.specs.Options.{dal_test}
use Rattle.scale.proofs.Forms.{answer_decides}
use Rattle.dal.specs.OptionTests.{dal_decides}
use Rattle.dal.proofs.options.DalScale.met.Goals as goal

pub returns-clause-answers : goal.returns-clause-answers
returns-clause-answers c =
    let required = c.args.required in
    let levels = c.args.levels.now in
    let rows = c.args.rows.now in
    same_from_decides c.is_some_and.result (answer dal_test required levels rows) (search rules)
    (answer_decides (formed required levels rows) (dal_test required levels rows) (answer dal_test required levels rows) (λ _. dal_decides levels rows required) refl)
