use Rattle.std.proofs.Common.{arith}
use Rattle.journal_audit_tables.proofs.Adding.{page_end, page_on}
use Rattle.journal_audit_tables.proofs.gathered.Gathered.add_page.Goals as goal

pub loop-left-preserved : goal.loop-left-preserved
loop-left-preserved g c = record {
  few = omega (arith, c.loop-left.invariant.few);
  rest = page_on c.loop-left.left c.args.page c.first_address-first.result _ _ _ _ c.loop-left-test.true
      c.first_address-first.ensures c.in_ok-add.ensures c.loop-left.invariant.rest;
}

pub returns : goal.returns
returns g c = page_end c.loop-left.left c.args.page _ _ _ c.loop-left-test.false c.loop-left.invariant.rest
