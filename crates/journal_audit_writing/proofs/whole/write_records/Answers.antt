use Rattle.std.proofs.Common.{◌≤◌, length, subst, List, arith}
use Rattle.std.proofs.lemmas.List.{take_all}
use Rattle.journal_audit_writing.proofs.Journals.{Written, first_unspelt, one_more}
use Rattle.journal_audit_writing.proofs.whole.write_records.Goals as goal

pub returns-in-Err-Unspelt-clause-unspelt : goal.returns-in-Err-Unspelt-clause-unspelt
returns-in-Err-Unspelt-clause-unspelt g c =
    let has_none = rw c.in-Err-Unspelt.field-0-is at c.in-Err-Unspelt.ensures.unspelt in
    first_unspelt c.args.config.now c.args.records.now c.loop-index.index c.index-records-index.result
    c.loop-index.invariant.0 c.loop-index-test.true c.index-records-index.is c.loop-index.invariant.1 has_none

pub loop-index-preserved : goal.loop-index-preserved
loop-index-preserved g c =
    one_more c.args.config.now c.args.records.now c.loop-index.index c.index-records-index.result
    c.args.out.now.items c.loop-index.out.items c.write_record.new.out.items c.loop-index-test.true
    c.index-records-index.is c.loop-index.invariant c.in-Ok.ensures.ok

pub returns-clause-ok : goal.returns-clause-ok
returns-clause-ok g c =
    let end : length c.args.records.now ≤ c.loop-index.index = omega (arith, c.loop-index-test.false) in
    subst (λ (rs : List _). Written c.args.config.now rs c.args.out.now.items c.loop-index.out.items)
    (take_all c.loop-index.index c.args.records.now end) c.loop-index.invariant
