use Rattle.std.proofs.Common.{ap, refl, sym, subst, ◌∙◌}
use Rattle.iofd_words.specs.World.{World}
use Rattle.journal_audit.specs.Next.{IsNext}
use Rattle.journal_audit.specs.declared.next.Next.{Next}
use Rattle.journal_audit_bytes.specs.Format.{Spells}
use Rattle.journal_audit_bytes.specs.Reading.{raw_of}
use Rattle.journal_audit.proofs.Judged.{none_read, told_next}
use Rattle.journal_audit.proofs.next.read_next.Goals as goal

pub returns-in-Err-Torn : goal.returns-in-Err-Torn
returns-in-Err-Torn g c = (
  λ r text rest spells is.
      none_read _ _ c.in-Err-Torn.field-0-is (c.in-Err-Torn.ensures.only r text rest
      (subst (λ n. Spells c.args.version n r text)
      (sym (c.passes.ensures ∙ ap (λ (w : World). w.settings.passes) c.world.view_is)) spells) is),
  refl,
)

pub returns-in_ok-lawful-in-Ok : goal.returns-in_ok-lawful-in-Ok
returns-in_ok-lawful-in-Ok g c =
    let (text, spells, is) = c.in-Ok.ensures.found in
    let passes = c.passes.ensures ∙ ap (λ (w : World). w.settings.passes) c.world.view_is in
    subst (λ (n : Next). IsNext g.row.A.Denot c.args.version c.args.at c.args.world.now c.judge.new.world
    c.args.bytes.now
    c.in-Ok.rest.now n) (sym c.next_of.ensures)
    (told_next g.row.A.Denot c.args.version c.args.at c.args.world.now c.judge.new.world c.args.bytes.now
    c.in-Ok.rest.now
    (raw_of c.in-Ok.spelled) text c.in_ok-lawful-in-Ok.lawful
    (subst (λ n. Spells c.args.version n (raw_of c.in-Ok.spelled) text) passes spells) is c.in_ok-lawful-in-Ok.ensures)
