use Rattle.std.proofs.Common.{refl}
use Rattle.iofd_steps.specs.After.{changed, settle, without_areas}
use Rattle.iofd_steps.specs.Answers.{Answers}
use Rattle.iofd_refusals.specs.Checks.{access_attach_checks, access_create_checks, access_detach_checks}
use Rattle.iofd_refusals.specs.Checks.{access_pin_checks, access_unpin_checks, access_write_checks, bind_checks}
use Rattle.iofd_refusals.specs.Checks.{copy_checks, destroy_checks, hwpt_alloc_checks, ioas_alloc_checks, map_checks}
use Rattle.iofd_refusals.specs.Checks.{unmap_checks, user_map_checks, user_unmap_checks, user_write_checks}
use Rattle.iofd_words.specs.Levels.{number_at}
use Rattle.iofd_steps.specs.Run.{Lawful, after}
use Rattle.iofd_words.specs.Tables.{with_tables}
use Rattle.iofd_examples.proofs.Never.{never, same_cause}
use Rattle.iofd_examples.proofs.pins.pin_records_are_lawful.Goals as goal

pub returns-clause-kinds : goal.returns-clause-kinds
unfolding Lawful after with_tables access_attach_checks access_create_checks access_detach_checks access_pin_checks
    access_unpin_checks access_write_checks bind_checks copy_checks destroy_checks hwpt_alloc_checks ioas_alloc_checks
    map_checks unmap_checks user_map_checks user_unmap_checks user_write_checks Answers changed settle without_areas
    number_at
returns-clause-kinds c = (
  λ h. h.0,
  (λ h. h.0, (λ h. h.0, tt)),
)

pub returns-clause-refusals : goal.returns-clause-refusals
unfolding Lawful after with_tables access_attach_checks access_create_checks access_detach_checks access_pin_checks
    access_unpin_checks access_write_checks bind_checks copy_checks destroy_checks hwpt_alloc_checks ioas_alloc_checks
    map_checks unmap_checks user_map_checks user_unmap_checks user_write_checks Answers changed settle without_areas
    number_at
returns-clause-refusals c = (
  (refl, (refl, refl)),
  (
    (refl, (refl, refl)),
    (
      (refl, (refl, refl)),
      (
        (refl, (refl, refl)),
        tt,
      ),
    ),
  ),
)

pub returns-clause-not_refused : goal.returns-clause-not_refused
unfolding Lawful after with_tables access_attach_checks access_create_checks access_detach_checks access_pin_checks
    access_unpin_checks access_write_checks bind_checks copy_checks destroy_checks hwpt_alloc_checks ioas_alloc_checks
    map_checks unmap_checks user_map_checks user_unmap_checks user_write_checks Answers changed settle without_areas
    number_at
returns-clause-not_refused c = (
  λ h. let is = h.0 in cc,
  (
    λ h. let is = h.0 in cc,
    (λ h. let is = h.0 in cc, (λ h. let is = h.0 in cc, tt)),
  ),
)

pub returns-clause-causes : goal.returns-clause-causes
unfolding Lawful after with_tables access_attach_checks access_create_checks access_detach_checks access_pin_checks
    access_unpin_checks access_write_checks bind_checks copy_checks destroy_checks hwpt_alloc_checks ioas_alloc_checks
    map_checks unmap_checks user_map_checks user_unmap_checks user_write_checks Answers changed settle without_areas
    number_at
returns-clause-causes c = (
  λ h. let is = same_cause _ _ h.0 in cc,
  (λ h. let is = same_cause _ _ h.0 in cc, (λ h. let is = same_cause _ _ h.0 in cc, tt)),
)

pub returns-clause-not_to_be : goal.returns-clause-not_to_be
unfolding Lawful after with_tables access_attach_checks access_create_checks access_detach_checks access_pin_checks
    access_unpin_checks access_write_checks bind_checks copy_checks destroy_checks hwpt_alloc_checks ioas_alloc_checks
    map_checks unmap_checks user_map_checks user_unmap_checks user_write_checks Answers changed settle without_areas
    number_at
returns-clause-not_to_be c = (
  λ h. h.0,
  (λ h. h.0, (λ h. h.0, tt)),
)

pub returns-clause-tables : goal.returns-clause-tables
unfolding Lawful after with_tables access_attach_checks access_create_checks access_detach_checks access_pin_checks
    access_unpin_checks access_write_checks bind_checks copy_checks destroy_checks hwpt_alloc_checks ioas_alloc_checks
    map_checks unmap_checks user_map_checks user_unmap_checks user_write_checks Answers changed settle without_areas
    number_at
returns-clause-tables c = (
  λ h. let is = h.1.enough in cc,
  tt,
)

pub returns-clause-given : goal.returns-clause-given
unfolding Lawful after with_tables access_attach_checks access_create_checks access_detach_checks access_pin_checks
    access_unpin_checks access_write_checks bind_checks copy_checks destroy_checks hwpt_alloc_checks ioas_alloc_checks
    map_checks unmap_checks user_map_checks user_unmap_checks user_write_checks Answers changed settle without_areas
    number_at
returns-clause-given c = (
  λ h. never h.0,
  tt,
)

pub returns-clause-free : goal.returns-clause-free
unfolding Lawful after with_tables access_attach_checks access_create_checks access_detach_checks access_pin_checks
    access_unpin_checks access_write_checks bind_checks copy_checks destroy_checks hwpt_alloc_checks ioas_alloc_checks
    map_checks unmap_checks user_map_checks user_unmap_checks user_write_checks Answers changed settle without_areas
    number_at
returns-clause-free c = (
  (refl, record { enough = refl; free = refl; different = refl; gone = refl; may = refl; rising = refl }),
  tt,
)

pub returns-clause-waits : goal.returns-clause-waits
unfolding Lawful after with_tables access_attach_checks access_create_checks access_detach_checks access_pin_checks
    access_unpin_checks access_write_checks bind_checks copy_checks destroy_checks hwpt_alloc_checks ioas_alloc_checks
    map_checks unmap_checks user_map_checks user_unmap_checks user_write_checks Answers changed settle without_areas
    number_at
returns-clause-waits c = (
  λ h. never h.0.0,
  tt,
)

pub returns-clause-waits_for_others : goal.returns-clause-waits_for_others
unfolding Lawful after with_tables access_attach_checks access_create_checks access_detach_checks access_pin_checks
    access_unpin_checks access_write_checks bind_checks copy_checks destroy_checks hwpt_alloc_checks ioas_alloc_checks
    map_checks unmap_checks user_map_checks user_unmap_checks user_write_checks Answers changed settle without_areas
    number_at
returns-clause-waits_for_others c = (λ h. never h.0.0, (λ h. never h.0.0, tt))

pub returns-clause-goes_at_once : goal.returns-clause-goes_at_once
unfolding Lawful after with_tables access_attach_checks access_create_checks access_detach_checks access_pin_checks
    access_unpin_checks access_write_checks bind_checks copy_checks destroy_checks hwpt_alloc_checks ioas_alloc_checks
    map_checks unmap_checks user_map_checks user_unmap_checks user_write_checks Answers changed settle without_areas
    number_at
returns-clause-goes_at_once c = (
  ((refl, refl), record { enough = refl; free = refl; different = refl; gone = refl; may = refl; rising = refl }),
  (
    ((refl, refl), record { enough = refl; free = refl; different = refl; gone = refl; may = refl; rising = refl }),
    tt,
  ),
)

pub returns-clause-must_wait : goal.returns-clause-must_wait
unfolding Lawful after with_tables access_attach_checks access_create_checks access_detach_checks access_pin_checks
    access_unpin_checks access_write_checks bind_checks copy_checks destroy_checks hwpt_alloc_checks ioas_alloc_checks
    map_checks unmap_checks user_map_checks user_unmap_checks user_write_checks Answers changed settle without_areas
    number_at
returns-clause-must_wait c = (
  λ h. never h.0.0,
  tt,
)
