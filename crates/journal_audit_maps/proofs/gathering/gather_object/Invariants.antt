use Rattle.std.proofs.Common.{◌≤◌, ◌-◌, Bool, List}
use Rattle.iofd_words.specs.declared.rows.Pin.{Pin}
use Rattle.journal_audit_maps.specs.Newly.{Gathers, newly_spanned, pages_at}
use Rattle.journal_audit_maps.proofs.gathering.gather_object.Given as goal

-- what comes of the pages from here on comes of all
abbrev pub invariant-loop-step : goal.invariant-loop-step
invariant-loop-step g l =
    record {
      low : l._step ≤ l.from;
      rest : (b : Bool) (new : List Pin) → Gathers b l.memory l.user_pages
          (newly_spanned l.pins l.areas l.file l.ioas l.asked (pages_at l.object.number l.from (l.object.count - l.from)))
          l.found.items new
          → Gathers b l.memory l.user_pages
          (newly_spanned l.pins l.areas l.file l.ioas l.asked (pages_at l.object.number 0 l.object.count))
          l.fn.found.items new;
    }
