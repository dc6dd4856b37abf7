use Rattle.std.proofs.Common.{ltb, rules, tests}
use Rattle.std.proofs.lemmas.List.Sorted.{answers_always}
use Rattle.draft.proofs.Rising.{ascends_by_neighbours}
use Rattle.draft.proofs.members.ascending.Goals as goal

pub returns : goal.returns
returns c = ascends_by_neighbours c.args.members.now _ (c.is_sorted_by.ensures.cases ltb (answers_always _ _ _ (λ f a r g k. search (rules, tests))))
