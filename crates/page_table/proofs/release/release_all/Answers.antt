use Rattle.std.proofs.Common.{List, subst, arith, rules}
use Rattle.std.proofs.lemmas.List.{take_all}
use Rattle.iofd_words.specs.declared.numbers.FrameNo.{FrameNo}
use Rattle.page_table_words.specs.Released.{HasFewerHolds}
use Rattle.page_table.proofs.Lessening.{has_more, none_less, one_less}
use Rattle.page_table.proofs.release.release_all.Goals as goal

pub loop-frame-init : goal.loop-frame-init
loop-frame-init g c = none_less c.args.pool.now

pub release-requires : goal.release-requires
release-requires g c =
    has_more c.args.pool.now c.loop-frame.pool c.args.frames.now c.loop-frame.frame-index _ (omega arith) c.requires
    c.loop-frame.invariant

pub loop-frame-smaller : goal.loop-frame-smaller
loop-frame-smaller g c = omega arith

pub loop-frame-preserved : goal.loop-frame-preserved
loop-frame-preserved g c =
    let less = one_less c.args.pool.now c.loop-frame.pool c.args.frames.now c.loop-frame.frame-index
    (record { 0 = 0 }) (omega arith) c.requires c.loop-frame.invariant in
    search (rules, less)

pub returns : goal.returns
returns g c =
    let all = take_all c.loop-frame.frame-index c.args.frames.now (omega arith) in
    subst (λ (frames : List FrameNo). HasFewerHolds c.args.pool.now c.loop-frame.pool frames) all c.loop-frame.invariant
