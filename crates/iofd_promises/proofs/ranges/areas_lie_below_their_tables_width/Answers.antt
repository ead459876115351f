use Rattle.std.proofs.Common.{subst, ◌<◌, ℕ}
use Rattle.iofd_steps.specs.Run.{world_of}
use Rattle.iofd_promises.proofs.Facts.{usable_of}
use Rattle.iofd_promises.proofs.Rows.{within}
use Rattle.iofd_promises.proofs.Spans.{below_width, bounded_of}
use Rattle.iofd_promises.proofs.ranges.areas_lie_below_their_tables_width.Goals as goal
use Rattle.iofd_promises.proofs.Reasons.{bits_end}

pub returns : goal.returns
returns g c = λ settings records area table width automatic run has there of_file is.
    let w = world_of settings records in
    subst (λ (end : ℕ). area.span.last < end) (bits_end width)
    (below_width w area table width automatic (usable_of settings records run).areas (bounded_of settings records run)
    (within w.areas area has) (within w.objects table there) of_file is)
