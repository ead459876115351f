use Rattle.std.proofs.Common.{◌≡◌, arith, ◌∙◌}
use Rattle.std.proofs.lemmas.List.{replicate_more}
use Rattle.object_table.proofs.Fresh.{AllInLimits-fresh, fresh_file, is_fresh_slab, table_of-fresh}
use Rattle.object_table.proofs.table.ObjectTable.new.Goals as goal

pub loop-number-preserved : goal.loop-number-preserved
loop-number-preserved g c =
    let fresh = is_fresh_slab c.new.result c.new.ensures.empty c.new.ensures.first_key c.new.ensures.capacity in
    let before = c.loop-number.invariant in
    let items = rw (c.unwrap.ensures, fresh, before.items) at c.push.ensures.items in
    record {
      items = items ∙ replicate_more c.loop-number._number fresh_file;
      len = omega (arith, rw c.unwrap.ensures at c.push.ensures.len, before.len);
      room = omega (arith, c.push.ensures.capacity, before.room);
    }

pub returns : goal.returns
returns g c =
    let all : c.loop-number._number ≡ c.args.count = omega (arith, c.loop-number-test.false, c.loop-number.auto) in
    rw (c.loop-number.invariant.items, all) (table_of-fresh g.row.V.Denot g.row.A.Denot c.args.count)

pub returns-in_default : goal.returns-in_default
returns-in_default g c = tt

pub loop-number-init : goal.loop-number-init
loop-number-init g c =
    let made = c.in-Ok.ensures in
    record { items = made.items; len = made.len; room = made.capacity }

pub unwrap-requires : goal.unwrap-requires
unwrap-requires g c =
    let before = c.loop-number.invariant in
    c.push.ensures.succeeds (omega (arith, before.len, before.room, c.loop-number-test.true))

pub loop-number-smaller : goal.loop-number-smaller
loop-number-smaller g c = omega (arith, c.loop-number-test.true)

pub invariant_of-result : goal.invariant_of-result
invariant_of-result g c =
    rw c.loop-number.invariant.items (AllInLimits-fresh g.row.V.Denot g.row.A.Denot c.loop-number._number)
