use Rattle.std.proofs.Common.{◌≡◌, ◌≤◌, ◌-◌}
use Rattle.iofd_words.specs.Accesses.{has_gap}
use Rattle.iofd_words.specs.Areas.{areas_of}
use Rattle.journal_audit_maps.proofs.Gapless.{gap_from}
use Rattle.journal_audit_maps.proofs.gaps.has_gap.Given as goal

abbrev pub invariant-loop-step : goal.invariant-loop-step
invariant-loop-step l =
    record {
      low : l._step ≤ l.index;
      rest : has_gap l.fn.asked (areas_of l.areas l.file l.ioas)
          ≡ gap_from (areas_of l.areas l.file l.ioas) l.fn.asked.first l.index (l.count - l.index);
    }
