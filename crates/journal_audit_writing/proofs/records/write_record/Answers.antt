use Rattle.journal_audit_writing.specs.Texts.{record_text}
use Rattle.journal_audit_writing.proofs.Written.{is_spelt, record_spells}
use Rattle.journal_audit_writing.proofs.records.write_record.Goals as goal

pub returns-then-not-is_spelt-clause-unspelt : goal.returns-then-not-is_spelt-clause-unspelt
returns-then-not-is_spelt-clause-unspelt g c =
    λ has. c.if-not-is_spelt.ensures (is_spelt c.args.config.now c.args.record.now has.0 has.1)

pub returns-in-Ok-clause-ok : goal.returns-in-Ok-clause-ok
returns-in-Ok-clause-ok g c = (
  record_text c.args.record.now,
  record_spells c.args.config.now c.args.record.now c.if-not-is_spelt.ensures c.in-Ok.ensures.fits,
  c.in-Ok.ensures.bytes,
)
