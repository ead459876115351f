use Rattle.std.proofs.Common.{[], Bool, List, drop}
use Rattle.std.specs.List.{flat_map}
use Rattle.iofd_words.specs.Pins.{pages_of}
use Rattle.iofd_words.specs.declared.rows.Pin.{Pin}
use Rattle.journal_audit_maps.specs.Newly.{Gathers, newly_spanned}
use Rattle.journal_audit_maps.proofs.gathering.gather.Given as goal

abbrev pub invariant-loop-object : goal.invariant-loop-object
invariant-loop-object g l =
    (b : Bool) (new : List Pin) → Gathers b l.memory l.user_pages
    (newly_spanned l.pins l.areas l.file l.ioas l.asked (flat_map pages_of (drop l.object-index l.memory)))
    l.found.items new
    → Gathers b l.memory l.user_pages
    (newly_spanned l.pins l.areas l.file l.ioas l.asked (flat_map pages_of l.memory)) [] new
