use Rattle.std.proofs.Common.{◌∙◌, rules}
use Rattle.journal_audit_bytes.specs.Format.{events_of}
use Rattle.journal_audit_bytes.proofs.Tags.{events_begin, first_read, none_read}
use Rattle.journal_audit_bytes.proofs.reading.plain_event_of.Goals as goal

pub returns-in_err-first : goal.returns-in_err-first
returns-in_err-first g c =
    let none = none_read (events_of c.args.version) c.args.tag c.args.bytes.now (events_begin c.args.version)
    c.in_err-first.ensures in
    rw none (search rules)

pub returns : goal.returns
returns g c =
    first_read (events_of c.args.version) c.args.tag c.args.bytes.now _ _ (events_begin c.args.version)
    c.in_ok-first.ensures
    ∙ c.event_behind.ensures
