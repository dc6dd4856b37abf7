use Rattle.std.proofs.Common.{◌≡◌, length, take, arith, rules}
use Rattle.std.proofs.lemmas.List.{take_all}
use Rattle.theory.specs.Allocations.{levels_of}
use Rattle.search.proofs.asking.is_met.Goals as goal

pub returns : goal.returns
returns g c =
    let members = c.members-members.result.now in
    let whole : length members ≡ c.loop-i.i = omega arith in
    let levels : take (length members) c.loop-i.at ≡ levels_of c.args.levels.now c.args.set.now.members = search (rules, take_all, whole) in
    cc
