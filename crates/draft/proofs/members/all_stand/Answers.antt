use Rattle.std.proofs.Common.{◌&&◌, ltb, refl, ◌∙◌, rules, tests}
use Rattle.std.proofs.lemmas.Iterator.{YieldsList-from_slice}
use Rattle.std.proofs.lemmas.Iterator.Search.{all_from_yields_List}
use Rattle.std.proofs.lemmas.List.Recursion.{same_from_clauses}
use Rattle.std.specs.List.{list_all}
use Rattle.theory.specs.Edits.{all_stand}
use Rattle.draft.proofs.members.all_stand.Goals as goal

pub returns : goal.returns
returns c =
    let xs = c.args.members.now in
    all_from_yields_List (λ m. ltb m c.args.count) _ _ _ c.all.ensures.ran (YieldsList-from_slice xs cc) (λ x b q k. search (rules, tests))
    ∙ same_from_clauses (list_all (λ m. ltb m c.args.count)) (all_stand c.args.count) (λ m b. ltb m c.args.count && b) refl (λ _ _. refl) (λ _ _. refl) xs
