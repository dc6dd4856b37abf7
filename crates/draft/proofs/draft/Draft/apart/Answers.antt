use Rattle.std.proofs.Common.{◌≡◌, ℕ, Bool, rules}
use Rattle.theory.specs.Edits.{pair, declared, edit_model}
use Rattle.draft.specs.Apart.{apart_at}
use Rattle.draft.specs.Views.{view}
use Rattle.draft.specs.Drafts.{model}
use Rattle.draft.proofs.Brought.{brings, sound_after}
use Rattle.draft.proofs.draft.Draft.apart.Goals as goal
use Rattle.draft.proofs.draft.Draft.apart.Goals.{After-declare}

pub returns-in_err-a-clause-history : goal.returns-in_err-a-clause-history
returns-in_err-a-clause-history c = brings _ _ _ (search rules)

pub returns-in_err-b-clause-history : goal.returns-in_err-b-clause-history
returns-in_err-b-clause-history c = brings _ _ _ (search rules)

pub returns-then-a-b-clause-history : goal.returns-then-a-b-clause-history
returns-then-a-b-clause-history c = brings _ _ _ (search rules)

-- the relation once the pair is declared
related : (c : After-declare) → ◌≡◌ {A = ℕ → ℕ → Bool} (apart_at c.declare.new.self.flags) (declared (apart_at c.args.self.now.apart.flags) c.in_ok-a.a c.in_ok-b.b c.args.value)
related c i x y = c.declare.ensures x y i

-- and what the tables hold
changed : (c : After-declare) → view c.args.self.now.parts.records.items c.declare.new.self.flags c.args.self.now.sets.items ≡ edit_model (model c.args.self.now) (pair c.args.a c.args.b c.args.value)
changed c = let same = related c in search (rules, same)

pub invariant_of-self : goal.invariant_of-self
invariant_of-self c =
    let d = c.args.self.now in
    record { part_room = d.part_room; set_room = d.set_room; sound = sound_after d (pair c.args.a c.args.b c.args.value) tt _ (changed c) }

pub returns-clause-does : goal.returns-clause-does
returns-clause-does c = let same = related (goal.at.returns-clause-does c).After-declare in search (rules, same)

pub returns-clause-history : goal.returns-clause-history
returns-clause-history c = brings _ _ _ (changed (goal.at.returns-clause-history c).After-declare)
