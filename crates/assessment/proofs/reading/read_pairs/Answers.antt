use Rattle.std.proofs.Common.{subst, sym, replicate, arith}
use Rattle.assessment.proofs.Declaring.{ReadSome, read_none, read_more, read_all}
use Rattle.assessment.proofs.reading.read_pairs.Goals as goal

pub loop-word-init : goal.loop-word-init
loop-word-init c = subst (ReadSome c.args.members c.args.words (replicate 8 0)) (sym c.into_iter-word-iterator.ensures.into_iter_gives) (read_none c.args.members c.args.words)

pub loop-word-preserved : goal.loop-word-preserved
loop-word-preserved c =
    let s = c.loop-word.invariant in
    read_more c.args.members c.args.words c.loop-word.rows c.loop-word.word-iterator s c.in-Some.word.now c.next.new.self c.declare.new.rows c.in_ok-i.i c.in_ok-i.j
    c.in-Some.ensures.steps c.in_ok-i.ensures (omega arith) (c.declare.ensures.bytes s.held.bytes) c.declare.ensures.bits

pub returns : goal.returns
returns c = read_all c.args.members c.args.words c.loop-word.rows c.loop-word.word-iterator c.loop-word.invariant c.in-None.ensures.steps.0
