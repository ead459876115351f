use Rattle.std.proofs.Common.{◌∙◌, ap, refl, arith}
use Rattle.journal_audit_bytes.specs.Format.{dirty_event_rows, event_rows, events_of}
use Rattle.journal_audit_bytes.specs.Reading.{fields_behind}
use Rattle.journal_audit_bytes.specs.declared.version.Version.{Version}
use Rattle.journal_audit_bytes.proofs.Tags.{behind_above, behind_below}
use Rattle.journal_audit_bytes.proofs.reading.event_behind.Goals as goal

pub returns-then-tag-ge240 : goal.returns-then-tag-ge240
returns-then-tag-ge240 g c =
    ap (λ (v : Version). fields_behind (events_of v) c.args.tag c.args.first c.args.bytes.now) c.in-Two.is
    ∙ behind_above event_rows dirty_event_rows 0xf0 c.args.tag c.args.first c.args.bytes.now refl
    (omega (arith, c.if-tag-ge240.true))
    ∙ c.dirty_event_behind.ensures

pub returns-else-tag-ge240 : goal.returns-else-tag-ge240
returns-else-tag-ge240 g c =
    ap (λ (v : Version). fields_behind (events_of v) c.args.tag c.args.first c.args.bytes.now) c.in-Two.is
    ∙ behind_below event_rows dirty_event_rows 0xf0 c.args.tag c.args.first c.args.bytes.now refl
    (omega (arith, c.if-tag-ge240.false))
    ∙ c.plain_event_behind-in-Two.ensures
