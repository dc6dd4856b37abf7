use Rattle.std.proofs.Common.{◌≡◌, subst, arith, rules}
use Rattle.theory.specs.Model.{Sound, empty_model}
use Rattle.theory.proofs.Soundness.{empty_sound}
use Rattle.draft.specs.Views.{view}
use Rattle.draft.proofs.draft.Draft.clear.Goals as goal

pub invariant_of-self : goal.invariant_of-self
invariant_of-self c =
    let empty : empty_model ≡ view c.clear.new.self.records.items c.new-self.result.flags c.clear-2.new.self.items = search rules in
    record { part_room = omega arith; set_room = omega arith; sound = subst Sound empty empty_sound }
