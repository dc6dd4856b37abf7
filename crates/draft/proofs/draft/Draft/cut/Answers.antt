use Rattle.std.proofs.Common.{◌≡◌, arith, rules}
use Rattle.theory.specs.Edits.{cut, edit_model}
use Rattle.draft.specs.Views.{view}
use Rattle.draft.specs.Drafts.{model}
use Rattle.draft.proofs.Brought.{brings, sound_after}
use Rattle.draft.proofs.draft.Draft.cut.Goals as goal
use Rattle.draft.proofs.draft.Draft.cut.Goals.{After-push_reserved}

pub returns-then-number-ge-MOST_SETS-clause-history : goal.returns-then-number-ge-MOST_SETS-clause-history
returns-then-number-ge-MOST_SETS-clause-history c = brings _ _ _ (search rules)

pub returns-then-required-eq0-clause-history : goal.returns-then-required-eq0-clause-history
returns-then-required-eq0-clause-history c = brings _ _ _ (search rules)

pub returns-then-is_empty-clause-history : goal.returns-then-is_empty-clause-history
returns-then-is_empty-clause-history c = brings _ _ _ (search rules)

pub returns-then-not-all_stand-clause-history : goal.returns-then-not-all_stand-clause-history
returns-then-not-all_stand-clause-history c = brings _ _ _ (search rules)

pub returns-then-not-ascending-clause-history : goal.returns-then-not-ascending-clause-history
returns-then-not-ascending-clause-history c = brings _ _ _ (search rules)

-- what the tables hold once the set is stored
stored : (c : After-push_reserved) → view c.args.self.now.parts.records.items c.args.self.now.apart.flags c.push_reserved.new.self.items ≡ edit_model (model c.args.self.now) (cut c.args.required c.args.members.now)
stored c = search rules

pub invariant_of-self : goal.invariant_of-self
invariant_of-self c =
    let d = c.args.self.now in
    record { part_room = d.part_room; set_room = omega arith; sound = sound_after d (cut c.args.required c.args.members.now) tt _ (stored c) }

pub returns-clause-history : goal.returns-clause-history
returns-clause-history c = brings _ _ _ (stored (goal.at.returns-clause-history c).After-push_reserved)
