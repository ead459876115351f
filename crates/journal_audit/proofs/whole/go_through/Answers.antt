use Rattle.std.proofs.Common.{subst}
use Rattle.journal_audit.specs.Next.{IsNext}
use Rattle.journal_audit.specs.declared.next.Next.{Next}
use Rattle.journal_audit.proofs.Reached.{goes_on, is_kept, is_torn, none_goes_on, started}
use Rattle.journal_audit.proofs.whole.go_through.Goals as goal

pub loop-rest-init : goal.loop-rest-init
loop-rest-init g c =
    let (text, head, is) = c.requires.head in
    started c.args.version c.args.bytes.now c.args.world.now.settings c.args.records.now c.args.world.now text head is
    c.requires.opening

pub read_next-requires : goal.read_next-requires
read_next-requires g c =
    record {
      kept = is_kept c.args.version c.args.bytes.now c.args.world.now.settings c.loop-rest.rest.now c.loop-rest.world
          c.loop-rest.index c.loop-rest.invariant;
    }

pub loop-rest-preserved : goal.loop-rest-preserved
loop-rest-preserved g c =
    goes_on c.args.version c.args.bytes.now c.args.world.now.settings c.loop-rest.rest.now c.in_ok-found.behind.now
    c.loop-rest.world
    c.read_next.new.world c.loop-rest.index c.loop-rest.invariant
    (subst (λ (n : Next). IsNext g.row.A.Denot c.args.version c.loop-rest.index c.loop-rest.world c.read_next.new.world
    c.loop-rest.rest.now c.in_ok-found.behind.now n) c.in-Follows.is c.in_ok-found.ensures)

pub returns-in-Not : goal.returns-in-Not
returns-in-Not g c =
    none_goes_on c.args.version c.args.bytes.now c.args.world.now.settings c.loop-rest.rest.now c.in_ok-found.behind.now
    c.loop-rest.world c.read_next.new.world c.loop-rest.index c.loop-rest.invariant
    (subst (λ (n : Next). IsNext g.row.A.Denot c.args.version c.loop-rest.index c.loop-rest.world c.read_next.new.world
    c.loop-rest.rest.now c.in_ok-found.behind.now n) c.in-Not.is c.in_ok-found.ensures)

pub returns-in-Torn : goal.returns-in-Torn
returns-in-Torn g c =
    is_torn c.args.version c.args.bytes.now c.args.world.now.settings c.loop-rest.rest.now c.in_ok-found.behind.now
    c.loop-rest.world
    c.read_next.new.world c.loop-rest.index
    (λ ends. let empty = rw ends at c.is_empty.ensures in let more = c.loop-rest-test.true in cc) c.loop-rest.invariant
    (subst (λ (n : Next). IsNext g.row.A.Denot c.args.version c.loop-rest.index c.loop-rest.world c.read_next.new.world
    c.loop-rest.rest.now c.in_ok-found.behind.now n) c.in-Torn.is c.in_ok-found.ensures)
