use Rattle.theory.specs.Allocations.{meets}
use Rattle.theory.specs.Walks.{filled}
use Rattle.draft.specs.Drafts.{model}
use Rattle.search.specs.State.{path_of}
use Rattle.search.proofs.Asked.{PassesUpto}
use Rattle.search.proofs.asking.first_unmet.Given as goal

abbrev pub invariant-loop-i : goal.invariant-loop-i
invariant-loop-i g l =
    let m = model l.draft in
    PassesUpto (meets (g.S.Scale.means l.scale) m (filled m.parts (path_of l.path))) m.sets l.i
