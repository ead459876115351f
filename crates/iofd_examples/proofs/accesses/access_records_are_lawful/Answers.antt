use Rattle.std.proofs.Common.{refl}
use Rattle.iofd_steps.specs.After.{changed, settle, without_areas}
use Rattle.iofd_steps.specs.Answers.{Answers}
use Rattle.iofd_refusals.specs.Checks.{access_create_checks, access_attach_checks, access_detach_checks}
use Rattle.iofd_refusals.specs.Checks.{close_checks, destroy_checks, unmap_checks}
use Rattle.iofd_words.specs.Levels.{number_at}
use Rattle.iofd_steps.specs.Run.{Lawful, after}
use Rattle.iofd_words.specs.Tables.{with_tables}
use Rattle.iofd_examples.proofs.Never.{never, same_cause}
use Rattle.iofd_examples.proofs.accesses.access_records_are_lawful.Goals as goal

pub returns-clause-ids : goal.returns-clause-ids
unfolding Lawful after with_tables access_create_checks access_attach_checks access_detach_checks close_checks
    destroy_checks unmap_checks Answers changed settle without_areas number_at
returns-clause-ids c = (
  (refl, record { enough = refl; free = refl; different = refl; gone = refl; may = refl; rising = refl }),
  (
    (refl, record { enough = refl; free = refl; different = refl; gone = refl; may = refl; rising = refl }),
    (
      (refl, record { enough = refl; free = refl; different = refl; gone = refl; may = refl; rising = refl }),
      (
        (refl, record { enough = refl; free = refl; different = refl; gone = refl; may = refl; rising = refl }),
        tt,
      ),
    ),
  ),
)

pub returns-clause-other_ids : goal.returns-clause-other_ids
unfolding Lawful after with_tables access_create_checks access_attach_checks access_detach_checks close_checks
    destroy_checks unmap_checks Answers changed settle without_areas number_at
returns-clause-other_ids c = (
  λ h. never h.0,
  (
    λ h. never h.0,
    (
      λ h. never h.0,
      (
        λ h. never h.0,
        tt,
      ),
    ),
  ),
)

pub returns-clause-kinds : goal.returns-clause-kinds
unfolding Lawful after with_tables access_create_checks access_attach_checks access_detach_checks close_checks
    destroy_checks unmap_checks Answers changed settle without_areas number_at
returns-clause-kinds c = (
  λ h. h.0,
  (
    λ h. h.0,
    (
      λ h. h.0,
      (
        λ h. h.0,
        tt,
      ),
    ),
  ),
)

pub returns-clause-refusals : goal.returns-clause-refusals
unfolding Lawful after with_tables access_create_checks access_attach_checks access_detach_checks close_checks
    destroy_checks unmap_checks Answers changed settle without_areas number_at
returns-clause-refusals c = (
  (refl, (refl, refl)),
  (
    (refl, (refl, refl)),
    (
      (refl, (refl, refl)),
      (
        (refl, (refl, refl)),
        tt,
      ),
    ),
  ),
)

pub returns-clause-not_refused : goal.returns-clause-not_refused
unfolding Lawful after with_tables access_create_checks access_attach_checks access_detach_checks close_checks
    destroy_checks unmap_checks Answers changed settle without_areas number_at
returns-clause-not_refused c = (
  λ h. let is = h.0 in cc,
  (
    λ h. let is = h.0 in cc,
    (
      λ h. let is = h.0 in cc,
      (
        λ h. let is = h.0 in cc,
        (
          λ h. let is = h.0 in cc,
          tt,
        ),
      ),
    ),
  ),
)

pub returns-clause-causes : goal.returns-clause-causes
unfolding Lawful after with_tables access_create_checks access_attach_checks access_detach_checks close_checks
    destroy_checks unmap_checks Answers changed settle without_areas number_at
returns-clause-causes c = (
  λ h. let is = same_cause _ _ h.0 in cc,
  (
    λ h. let is = same_cause _ _ h.0 in cc,
    (
      λ h. let is = same_cause _ _ h.0 in cc,
      tt,
    ),
  ),
)

pub returns-clause-not_to_be : goal.returns-clause-not_to_be
unfolding Lawful after with_tables access_create_checks access_attach_checks access_detach_checks close_checks
    destroy_checks unmap_checks Answers changed settle without_areas number_at
returns-clause-not_to_be c = (
  λ h. h.0,
  (
    λ h. h.0,
    (
      λ h. h.0,
      (
        λ h. h.0,
        tt,
      ),
    ),
  ),
)

pub returns-clause-tables : goal.returns-clause-tables
unfolding Lawful after with_tables access_create_checks access_attach_checks access_detach_checks close_checks
    destroy_checks unmap_checks Answers changed settle without_areas number_at
returns-clause-tables c = (
  λ h. let is = h.1.enough in cc,
  tt,
)

pub returns-clause-waits : goal.returns-clause-waits
unfolding Lawful after with_tables access_create_checks access_attach_checks access_detach_checks close_checks
    destroy_checks unmap_checks Answers changed settle without_areas number_at
returns-clause-waits c = (
  λ h. never h.0.0,
  tt,
)
