use Rattle.std.proofs.Common.{refl, sym}
use Rattle.iofd_words.specs.Record.{Record}
use Rattle.journal_audit.proofs.Judged.{none_told}
use Rattle.journal_audit.specs.Next.{Tells}
use Rattle.journal_audit_bytes.specs.Reading.{raw_of}
use Rattle.journal_audit.proofs.next.typed.Goals as goal

pub returns-clause-told : goal.returns-clause-told
returns-clause-told g c =
    let spelled = c.args.spelled in
    let one : Record g.row.A.Denot = record {
      pass = spelled.pass;
      event = spelled.event;
      reply = c.in-Some.reply;
      taken = spelled.taken;
      given = spelled.given;
    } in
    let tells : Tells c.args.config.now (raw_of spelled) one = record {
      reply = spelled.reply;
      gives = sym c.in-Some.ensures;
      is = refl;
    } in
    rw (c.in_ok-record.ensures.ok, c.into_vec-taken.ensures, c.into_vec-given.ensures) tells

pub returns-in_default-clause-none : goal.returns-in_default-clause-none
returns-in_default-clause-none g c =
    none_told c.args.config.now c.args.spelled (sym c.in_default.ensures)
