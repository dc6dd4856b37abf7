use Rattle.std.proofs.Common.{◌≡◌, ◌<◌, Bool, length, get_or, sym, ◌∙◌, rules}
use Rattle.theory.specs.Model.{CutSet}
use Rattle.theory.specs.Allocations.{meets}
use Rattle.theory.specs.Walks.{filled}
use Rattle.draft.specs.Drafts.{model}
use Rattle.search.specs.State.{path_of}
use Rattle.search.proofs.Asked.{asked_meets, fails_here, passes_here}
use Rattle.search.proofs.asking.first_unmet.Goals as goal
use Rattle.search.proofs.asking.first_unmet.Goals.{After-is_met}
use Rattle.search.proofs.asking.first_unmet.Given as given

-- whether the path meets a set
abbrev test : (g : given.Over) → After-is_met g → CutSet → Bool
test g c = meets (g.S.Scale.means c.args.scale.now) (model c.args.draft.now) (filled (model c.args.draft.now).parts (path_of c.args.path.now))

-- the set that is asked stands in the model
within : (g : given.Over) (c : After-is_met g) → c.loop-i.i < length (model c.args.draft.now).sets
within g c = search rules

stands : (g : given.Over) (c : After-is_met g) → c.set-item.result ≡ get_or (model c.args.draft.now).sets c.loop-i.i c.set-item.result
stands g c = cc

-- and the answer is whether the path meets it
asked : (g : given.Over) (c : After-is_met g) → c.is_met.result ≡ test g c c.set-item.result
asked g c =
    let long : length c.args.path.now.levels ≡ 64 = search rules in
    let at : c.index-deref-i.result ≡ get_or c.args.rows.now.items c.loop-i.i c.index-deref-i.result = cc in
    let asks = asked_meets (g.S.Scale.means c.args.scale.now) (model c.args.draft.now) c.args.path.now c.args.rows.now c.loop-i.i c.set-item.result c.index-deref-i.result c.sets-set-items.ensures.sound c.requires.path long c.requires.rows (within g c) (stands g c) at in
    cc

pub returns-then-not-is_met : goal.returns-then-not-is_met
returns-then-not-is_met g c =
    let w = (goal.at.returns-then-not-is_met g c).After-is_met in
    fails_here (test g w) _ c.loop-i.i c.set-item.result (within g w) (stands g w) c.loop-i.invariant (sym (asked g w) ∙ c.if-not-is_met.true)

pub loop-i-preserved : goal.loop-i-preserved
loop-i-preserved g c =
    let w = (goal.at.loop-i-preserved g c).After-is_met in
    passes_here (test g w) _ c.loop-i.i c.set-item.result (within g w) (stands g w) c.loop-i.invariant (sym (asked g w) ∙ c.if-not-is_met.false)
