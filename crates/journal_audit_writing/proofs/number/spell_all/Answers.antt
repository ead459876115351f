use Rattle.std.proofs.Common.{take}
use Rattle.std.proofs.lemmas.Result.{err_from_is_err_and}
use Rattle.journal_audit_bytes.specs.Head.{all_spelled}
use Rattle.journal_audit_writing.proofs.Appended.{All_more, all_more, keeps_then}
use Rattle.journal_audit_writing.proofs.number.spell_all.Goals as goal

pub loop-item-preserved : goal.loop-item-preserved
loop-item-preserved g c = record {
  bytes = all_more g.T.Spell.text c.args.out.now.items c.loop-item.out.items c.spell.new.out.items c.args.items.now
      c.loop-item.item-index c.item-item.result c.loop-item-test.true c.item-item.is c.loop-item.invariant.bytes
      c.in_ok-spell.ensures.bytes;
  fits = All_more g.T.Spell.fits c.args.items.now c.loop-item.item-index c.item-item.result c.loop-item-test.true
      c.item-item.is c.loop-item.invariant.fits c.in_ok-spell.ensures.fits;
}

pub returns-in_err-spell-clause-bytes : goal.returns-in_err-spell-clause-bytes
returns-in_err-spell-clause-bytes g c =
    let p = err_from_is_err_and c.from_residual.result c.from_residual.ensures.1 in
    rw p.1 (keeps_then c.args.out.now.items c.loop-item.out.items c.spell.new.out.items
    (all_spelled g.T.Spell.text (take c.loop-item.item-index c.args.items.now), c.loop-item.invariant.bytes)
    c.in_err-spell.ensures.bytes)
