use Rattle.iofd_steps.specs.Run.{world_of}
use Rattle.iofd_promises.proofs.dirty.Told.{told_by_clear, told_by_look}
use Rattle.iofd_promises.proofs.dirty.a_report_tells_the_marked_pages.Goals as goal

pub returns-clause-clearing : goal.returns-clause-clearing
returns-clause-clearing g c = λ settings before r file request words page run asked told.
    told_by_clear settings before r file request words page run asked told

pub returns-clause-asking : goal.returns-clause-asking
returns-clause-asking g c = λ settings records file request words page run has.
    told_by_look (world_of settings records) records file request words page has
