use Rattle.std.proofs.Common.{◌≡◌, arith, rules}
use Rattle.theory.specs.Edits.{drop_set, edit_model}
use Rattle.draft.specs.Views.{view}
use Rattle.draft.specs.Drafts.{model}
use Rattle.draft.proofs.Brought.{brings, sound_after}
use Rattle.draft.proofs.Edited.{removed_without}
use Rattle.draft.proofs.draft.Draft.drop_set.Goals as goal
use Rattle.draft.proofs.draft.Draft.drop_set.Goals.{After-remove}

pub returns-then-number-len-clause-history : goal.returns-then-number-len-clause-history
returns-then-number-len-clause-history c = brings _ _ _ (search rules)

-- what the tables hold once the set is removed
dropped : (c : After-remove) → view c.args.self.now.parts.records.items c.args.self.now.apart.flags c.remove.new.self.items ≡ edit_model (model c.args.self.now) (drop_set c.args.number)
dropped c = search (rules, removed_without)

pub invariant_of-self : goal.invariant_of-self
invariant_of-self c =
    let d = c.args.self.now in
    record { part_room = d.part_room; set_room = omega arith; sound = sound_after d (drop_set c.args.number) tt _ (dropped c) }

pub returns-clause-does : goal.returns-clause-does
returns-clause-does c = search (rules, removed_without)

pub returns-clause-history : goal.returns-clause-history
returns-clause-history c = brings _ _ _ (dropped (goal.at.returns-clause-history c).After-remove)
