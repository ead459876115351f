use Rattle.std.proofs.Common.{ap, subst, sym}
use Rattle.iofd_words.specs.Settings.{Settings}
use Rattle.iofd_words.specs.World.{World}
use Rattle.journal_audit.specs.Next.{Tells}
use Rattle.journal_audit.proofs.Judged.{if_judged}
use Rattle.journal_audit_bytes.specs.Reading.{raw_of}
use Rattle.journal_audit.proofs.next.judge.Goals as goal

pub returns-in-Some : goal.returns-in-Some
returns-in-Some g c =
    if_judged c.args.at c.args.world.now c.step.new.world (raw_of c.args.spelled) c.in-Some.record c.step.result
    (subst (λ (s : Settings). Tells s (raw_of c.args.spelled) c.in-Some.record)
    (ap (λ (w : World). w.settings) c.world.view_is) (rw c.in-Some.is at c.in_ok-record.ensures.told))
    c.step.ensures.lawful c.step.ensures.after

pub returns-in-None : goal.returns-in-None
returns-in-None g c = λ r tells lawful.
    (rw c.in-None.is at c.in_ok-record.ensures.none) r (subst (λ (s : Settings). Tells s (raw_of c.args.spelled) r)
    (sym (ap (λ (w : World). w.settings) c.world.view_is)) tells)
