use Rattle.std.proofs.Common.{ℕ, ◌≡◌, take}
use Rattle.std.specs.List.{list_any}
use Rattle.iofd_rows.specs.Reached.{keeps_of}
use Rattle.iofd_words.specs.Ranges.{in_spans}
use Rattle.event_ioas.specs.LeftOut.{only}
use Rattle.server_state.specs.Held.{objects_in}
use Rattle.event_ioas.proofs.usable_ranges.kept_spans.Given as goal

abbrev pub invariant-loop-attachment : goal.invariant-loop-attachment
invariant-loop-attachment g l =
    (n : ℕ) → in_spans l.spans.items n ≡ list_any
    (keeps_of l.fn.state.config (objects_in l.fn.state.objects) l.fn.file l.fn.ioas (only n))
    (take l.attachment-index l.attachment-items)
