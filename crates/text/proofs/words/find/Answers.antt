use Rattle.std.proofs.Common.{◌≡◌, ◌==◌, length, take, drop, ap, ◌∙◌, rules, tests, arith}
use Rattle.std.proofs.lemmas.Iterator.{YieldsList-from_slice}
use Rattle.std.proofs.lemmas.Iterator.Search.{position_from_yields_List}
use Rattle.text.specs.Text.{up_to}
use Rattle.text.proofs.Scan.{place_of, up_to_short, take_up_to, drop_up_to}
use Rattle.text.proofs.words.find.Goals as goal

pub returns : goal.returns
returns c =
    let text = c.args.text.now in
    let b = c.args.b in
    let e : c.unwrap_or.result ≡ length (up_to b text) = c.unwrap_or.ensures ∙ place_of b text c.position.result (position_from_yields_List (λ x. x == b) _ _ c.position.result c.position.ensures.ran (YieldsList-from_slice text cc) (λ x t q k. search (rules, tests))) in
    record { place = e; within = omega (arith, e, up_to_short b text); front = ap (λ n. take n text) e ∙ take_up_to b text; back = ap (λ n. drop n text) e ∙ drop_up_to b text }
