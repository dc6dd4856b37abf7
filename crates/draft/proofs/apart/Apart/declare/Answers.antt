use Rattle.std.proofs.Common.{◌≡◌, false, [], set, min, max, length, get_or, rules, arith}
use Rattle.std.proofs.lemmas.Bool.Decides.{nat_tests}
use Rattle.std.proofs.lemmas.List.{get_or-set_other}
use Rattle.std.proofs.lemmas.Grind.{get_or-set_at}
use Rattle.draft.proofs.apart.Apart.declare.Goals as goal

pub returns : goal.returns
returns c x y =
    let flags = c.args.self.now.flags in
    let row = get_or flags c.min.result [] in
    let changed = set row c.max.result c.args.value in
    let rows : length flags ≡ 64 = search rules in
    let columns : length row ≡ 64 = search rules in
    let row_same = get_or-set_at flags c.min.result (min x y) changed [] in
    let row_other = get_or-set_other flags c.min.result (min x y) changed [] in
    let flag_same = get_or-set_at row c.max.result (max x y) c.args.value false in
    let flag_other = get_or-set_other row c.max.result (max x y) c.args.value false in
    grind (arith, nat_tests)
