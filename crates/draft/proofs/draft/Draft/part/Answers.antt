use Rattle.std.proofs.Common.{◌≡◌, arith, rules}
use Rattle.theory.specs.Edits.{part, edit_model}
use Rattle.draft.specs.Views.{view}
use Rattle.draft.specs.Drafts.{model}
use Rattle.draft.proofs.Brought.{brings, sound_after}
use Rattle.draft.proofs.draft.Draft.part.Goals as goal
use Rattle.draft.proofs.draft.Draft.part.Goals.{After-add}

pub returns-then-number-ge-MOST_PARTS-clause-history : goal.returns-then-number-ge-MOST_PARTS-clause-history
returns-then-number-ge-MOST_PARTS-clause-history c = brings _ _ _ (search rules)

pub returns-in_err-check_range-clause-history : goal.returns-in_err-check_range-clause-history
returns-in_err-check_range-clause-history c = brings _ _ _ (search rules)

-- what the tables hold once the part is added
added : (c : After-add) → view c.add.new.self.records.items c.args.self.now.apart.flags c.args.self.now.sets.items ≡ edit_model (model c.args.self.now) (part c.args.floor c.args.ceiling c.args.quotes)
added c = search rules

pub invariant_of-self : goal.invariant_of-self
invariant_of-self c =
    let d = c.args.self.now in
    record { part_room = omega arith; set_room = d.set_room; sound = sound_after d (part c.args.floor c.args.ceiling c.args.quotes) c.part_record.ensures.handed _ (added c) }

pub returns-clause-history : goal.returns-clause-history
returns-clause-history c = brings _ _ _ (added (goal.at.returns-clause-history c).After-add)
