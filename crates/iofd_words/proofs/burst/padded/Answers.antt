use Rattle.std.proofs.Common.{get_or, set, ap, ◌∙◌, arith}
use Rattle.iofd_words.proofs.Padding.{pad_one}
use Rattle.iofd_words.proofs.burst.padded.Goals as goal

pub bounds-padded-i : goal.bounds-padded-i
bounds-padded-i c = let within = c.loop-i-test.true in let few = c.requires in omega (arith, within, few)

pub loop-i-preserved : goal.loop-i-preserved
loop-i-preserved c =
    ap (λ l. set l c.loop-i.i (get_or c.args.bytes.now c.loop-i.i 0)) c.loop-i.invariant
    ∙ pad_one c.args.bytes.now c.loop-i.i c.loop-i-test.true c.requires
