use Rattle.std.proofs.Common.{min, max, false, [], replicate, arith}
use Rattle.std.proofs.lemmas.List.{get_or-replicate}
use Rattle.std.proofs.lemmas.Bool.Decides.{nat_tests}
use Rattle.draft.proofs.apart.Apart.new.Goals as goal

pub returns : goal.returns
returns c a b =
    let row = get_or-replicate 64 (min a b) (replicate 64 false) [] in
    let flag = get_or-replicate 64 (max a b) false false in
    grind (arith, nat_tests)
