use Rattle.std.proofs.Common.{◌≡◌, true, take}
use Rattle.scale.specs.Question.{all_at_most}
use Rattle.scale.proofs.question.levels_fit.Given as goal

abbrev pub invariant-loop-level : goal.invariant-loop-level
invariant-loop-level l = all_at_most 4 (take l.level-index l.levels) ≡ true
