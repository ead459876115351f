use Rattle.iofd_steps.specs.After.{changed, settle, without_areas}
use Rattle.iofd_steps.specs.Answers.{Answers}
use Rattle.iofd_refusals.specs.Checks.{unmap_checks}
use Rattle.iofd_words.specs.Levels.{number_at}
use Rattle.iofd_steps.specs.Run.{IsRun, Lawful, after}
use Rattle.iofd_words.specs.Tables.{with_tables}
use Rattle.iofd_examples.proofs.Never.{never}
use Rattle.iofd_examples.proofs.unmaps.other_answers_are_unlawful.Goals as goal

pub returns-clause-early : goal.returns-clause-early
unfolding IsRun Lawful after with_tables unmap_checks Answers changed settle without_areas number_at
returns-clause-early c = (
  λ h. let is = h.0.1 in cc,
  tt,
)

pub returns-clause-late : goal.returns-clause-late
unfolding IsRun Lawful after with_tables unmap_checks Answers changed settle without_areas number_at
returns-clause-late c = (
  λ h. let is = h.0.1 in cc,
  tt,
)

pub returns-clause-both : goal.returns-clause-both
unfolding IsRun Lawful after with_tables unmap_checks Answers changed settle without_areas number_at
returns-clause-both c = (
  λ h. let is = h.0.1 in cc,
  tt,
)

pub returns-clause-nobody : goal.returns-clause-nobody
unfolding IsRun Lawful after with_tables unmap_checks Answers changed settle without_areas number_at
returns-clause-nobody c = (
  λ h. never h.0.0,
  tt,
)

pub returns-clause-nobody_again : goal.returns-clause-nobody_again
unfolding IsRun Lawful after with_tables unmap_checks Answers changed settle without_areas number_at
returns-clause-nobody_again c = (
  λ h. never h.0.0,
  tt,
)

pub returns-clause-bytes : goal.returns-clause-bytes
unfolding IsRun Lawful after with_tables unmap_checks Answers changed settle without_areas number_at
returns-clause-bytes c = (
  λ h. never h.0.0,
  tt,
)

pub returns-clause-refused : goal.returns-clause-refused
unfolding IsRun Lawful after with_tables unmap_checks Answers changed settle without_areas number_at
returns-clause-refused c = (
  λ h. h.0,
  tt,
)

pub returns-clause-still : goal.returns-clause-still
unfolding IsRun Lawful after with_tables unmap_checks Answers changed settle without_areas number_at
returns-clause-still c = λ h. let is = h.1.0.0.1 in cc
