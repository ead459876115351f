use Rattle.std.proofs.Common.{length}
use Rattle.iofd_steps.specs.Run.{world_of}
use Rattle.iofd_promises.proofs.Facts.{pinned_of, usable_of}
use Rattle.iofd_promises.proofs.KeptPinned.{has_pin, pin_is_kept}
use Rattle.iofd_promises.proofs.Rows.{within}
use Rattle.iofd_promises.proofs.access.pages_are_pinned_by_what_keeps_them.Goals as goal

pub returns-clause-pinned : goal.returns-clause-pinned
returns-clause-pinned g c = λ settings records memory index run keeps.
    has_pin (length records) (world_of settings records) (pinned_of settings records run)
    (usable_of settings records run).sound.own_ids memory index keeps

pub returns-clause-only : goal.returns-clause-only
returns-clause-only g c = λ settings records pin run has.
    pin_is_kept (length records) (world_of settings records) (pinned_of settings records run)
    (usable_of settings records run).sound.own_ids pin (within (world_of settings records).pins pin has)
