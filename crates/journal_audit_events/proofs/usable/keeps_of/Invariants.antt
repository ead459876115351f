use Rattle.std.proofs.Common.{◌≡◌, drop}
use Rattle.std.specs.List.{list_any}
use Rattle.iofd_rows.specs.Reached.{keeps_of}
use Rattle.iofd_words.specs.Files.{device_of}
use Rattle.iofd_words.specs.Ranges.{meets_some}
use Rattle.iofd_words.specs.Usable.{reserved_of}
use Rattle.journal_audit_events.proofs.usable.keeps_of.Given as goal

abbrev pub invariant-loop-range : goal.invariant-loop-range
invariant-loop-range g l =
    list_any (meets_some (reserved_of (device_of l.config l.attachment.device))) (drop l.range-index l.ranges)
    ≡ list_any (λ range. keeps_of l.config l.objects l.fn.file l.fn.ioas range l.attachment) l.ranges
