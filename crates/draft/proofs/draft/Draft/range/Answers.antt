use Rattle.std.proofs.Common.{◌≡◌, set, rules}
use Rattle.theory.specs.Edits.{range, edit_model}
use Rattle.draft.specs.Views.{view}
use Rattle.draft.specs.Drafts.{model}
use Rattle.draft.proofs.Brought.{brings, sound_after}
use Rattle.draft.proofs.Edited.{ranged_set}
use Rattle.draft.proofs.draft.Draft.range.Goals as goal
use Rattle.draft.proofs.draft.Draft.range.Goals.{After-record-lent}

pub returns-in_err-place-clause-history : goal.returns-in_err-place-clause-history
returns-in_err-place-clause-history c = brings _ _ _ (search rules)

pub returns-in_err-check_range-clause-does : goal.returns-in_err-check_range-clause-does
returns-in_err-check_range-clause-does c = search rules

pub returns-in_err-check_range-clause-history : goal.returns-in_err-check_range-clause-history
returns-in_err-check_range-clause-history c = brings _ _ _ (search rules)

-- what the tables hold once the record is changed
changed : (c : After-record-lent) → view (set c.args.self.now.parts.records.items c.in_ok-place.place (record { floor = c.args.floor; ceiling = c.args.ceiling; quotes = c.record-lent.result.now.quotes })) c.args.self.now.apart.flags c.args.self.now.sets.items ≡ edit_model (model c.args.self.now) (range c.args.number c.args.floor c.args.ceiling)
changed c = search (rules, ranged_set)

pub invariant_of-self : goal.invariant_of-self
invariant_of-self c =
    let d = c.args.self.now in
    record { part_room = d.part_room; set_room = d.set_room; sound = sound_after d (range c.args.number c.args.floor c.args.ceiling) tt _ (changed (goal.at.invariant_of-self c).After-record-lent) }

pub returns-clause-does : goal.returns-clause-does
returns-clause-does c = search (rules, ranged_set)

pub returns-clause-history : goal.returns-clause-history
returns-clause-history c = brings _ _ _ (changed (goal.at.returns-clause-history c).After-record-lent)
