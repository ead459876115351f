use Rattle.std.proofs.Common.{◌≡◌, ◌∙◌, ℕ, List, Option, ap, subst, sym}
use Rattle.journal_audit_bytes.specs.Format.{Tagged, event_rows, events_of}
use Rattle.journal_audit_bytes.specs.Reading.{IsWithRanges, fields_of_tag}
use Rattle.journal_audit_bytes.specs.declared.version.Version.{Version}
use Rattle.journal_audit_bytes.proofs.Asked.{ranges_of_version, same_ranges}
use Rattle.journal_audit_bytes.proofs.Elements.{memory_more}
use Rattle.journal_audit_bytes.proofs.reading.event_of.Goals as goal

at_tag : (version : Version) (tag : ℕ) (bytes : List ℕ) → tag ≡ 0x82
    → fields_of_tag (events_of version) tag bytes ≡ fields_of_tag event_rows 0x82 bytes
at_tag version tag bytes is =
    ap (λ (t : ℕ). fields_of_tag (events_of version) t bytes) is ∙ same_ranges version bytes

pub returns-then-tag-eq130-clause-read : goal.returns-then-tag-eq130-clause-read
returns-then-tag-eq130-clause-read g c =
    rw (at_tag c.args.version c.args.tag c.args.bytes.now c.if-tag-eq130.true) c.allow_iovas_at.ensures.read

pub returns-then-tag-eq130-clause-memory : goal.returns-then-tag-eq130-clause-memory
returns-then-tag-eq130-clause-memory g c =
    memory_more c.allow_iovas_at.result c.allow_iovas_at.ensures.memory (λ h.
    subst (λ (read : Option (Tagged × List ℕ)). IsWithRanges (events_of c.args.version) read)
    (sym (at_tag c.args.version c.args.tag c.args.bytes.now c.if-tag-eq130.true))
    (ranges_of_version c.args.version (fields_of_tag event_rows 0x82 c.args.bytes.now) h))
