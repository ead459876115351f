use Rattle.std.proofs.Common.{◌∙◌, ap, refl, arith}
use Rattle.journal_audit_bytes.specs.Format.{dirty_reply_rows, replies_of, reply_rows}
use Rattle.journal_audit_bytes.specs.Reading.{fields_of_tag}
use Rattle.journal_audit_bytes.specs.declared.version.Version.{Version}
use Rattle.journal_audit_bytes.proofs.Tags.{fields_above, fields_below}
use Rattle.journal_audit_bytes.proofs.reading.reply_of.Goals as goal

pub returns-then-tag-ge9 : goal.returns-then-tag-ge9
returns-then-tag-ge9 c =
    ap (λ (v : Version). fields_of_tag (replies_of v) c.args.tag c.args.bytes.now) c.in-Two.is
    ∙ fields_above reply_rows dirty_reply_rows 0x09 c.args.tag c.args.bytes.now refl (omega (arith, c.if-tag-ge9.true))
    ∙ c.dirty_reply_of_tag.ensures

pub returns-else-tag-ge9 : goal.returns-else-tag-ge9
returns-else-tag-ge9 c =
    ap (λ (v : Version). fields_of_tag (replies_of v) c.args.tag c.args.bytes.now) c.in-Two.is
    ∙ fields_below reply_rows dirty_reply_rows 0x09 c.args.tag c.args.bytes.now refl (omega (arith, c.if-tag-ge9.false))
    ∙ c.reply_of_tag-in-Two.ensures
