use Rattle.std.proofs.Common.{◌≡◌, length, refl, subst, arith, rules}
use Rattle.std.specs.List.{AllByRecursion}
use Rattle.std.proofs.ByRecursion.{All-more}
use Rattle.std.proofs.lemmas.List.{take_all}
use Rattle.cost.specs.Totals.{Fits32}
use Rattle.draft.proofs.parts.part_record.Goals as goal

pub loop-quote-preserved : goal.loop-quote-preserved
loop-quote-preserved c =
    let five : length c.args.quotes ≡ 5 = search rules in
    All-more Fits32 c.args.quotes c.loop-quote.quote-index (record { price = 0; weeks = 0 }) (omega arith) c.loop-quote.invariant c.fits.ensures

pub returns : goal.returns
returns c =
    let five : length c.args.quotes ≡ 5 = search rules in
    record { value = refl; handed = (five, subst (AllByRecursion Fits32) (take_all c.loop-quote.quote-index c.args.quotes (omega arith)) c.loop-quote.invariant) }
