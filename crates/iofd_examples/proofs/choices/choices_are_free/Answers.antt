use Rattle.std.proofs.Common.{refl, arith}
use Rattle.iofd_steps.specs.After.{changed, settle, without_areas, attached, detached, joined}
use Rattle.iofd_steps.specs.Answers.{Answers}
use Rattle.iofd_refusals.specs.Checks.{allow_iovas_checks, attach_checks, bind_checks, close_checks, copy_checks}
use Rattle.iofd_refusals.specs.Checks.{destroy_checks, detach_checks, device_write_checks, flush_checks}
use Rattle.iofd_refusals.specs.Checks.{hwpt_alloc_checks}
use Rattle.iofd_refusals.specs.Checks.{ioas_alloc_checks, map_checks, unbind_checks, unmap_checks, user_map_checks}
use Rattle.iofd_refusals.specs.Checks.{user_unmap_checks, user_write_checks}
use Rattle.iofd_words.specs.Levels.{number_at}
use Rattle.iofd_words.specs.Policy.{access_outcomes, outcomes}
use Rattle.iofd_steps.specs.Run.{Lawful, after}
use Rattle.iofd_words.specs.Tables.{with_tables}
use Rattle.iofd_examples.specs.Words.{iova}
use Rattle.iofd_examples.proofs.Never.{lower_iova, never}
use Rattle.iofd_examples.proofs.choices.choices_are_free.Goals as goal

pub returns-clause-any : goal.returns-clause-any
unfolding Lawful after with_tables allow_iovas_checks attach_checks bind_checks close_checks copy_checks destroy_checks
    detach_checks device_write_checks flush_checks hwpt_alloc_checks ioas_alloc_checks map_checks unbind_checks
    unmap_checks user_map_checks user_unmap_checks user_write_checks Answers changed settle without_areas attached
    detached joined outcomes access_outcomes number_at
returns-clause-any c = (
  (refl, record { enough = refl; free = refl; different = refl; gone = refl; may = refl; rising = refl }),
  (
    (refl, record { enough = refl; free = refl; different = refl; gone = refl; may = refl; rising = refl }),
    (
      (refl, record { enough = refl; free = refl; different = refl; gone = refl; may = refl; rising = refl }),
      (
        (refl, record { enough = refl; free = refl; different = refl; gone = refl; may = refl; rising = refl }),
        (
          (refl, record { enough = refl; free = refl; different = refl; gone = refl; may = refl; rising = refl }),
          (
            (refl, record { enough = refl; free = refl; different = refl; gone = refl; may = refl; rising = refl }),
            (
              (refl, record { enough = refl; free = refl; different = refl; gone = refl; may = refl; rising = refl }),
              (
                (refl, record { enough = refl; free = refl; different = refl; gone = refl; may = refl; rising = refl }),
                tt,
              ),
            ),
          ),
        ),
      ),
    ),
  ),
)

pub returns-clause-frames : goal.returns-clause-frames
unfolding Lawful after with_tables allow_iovas_checks attach_checks bind_checks close_checks copy_checks destroy_checks
    detach_checks device_write_checks flush_checks hwpt_alloc_checks ioas_alloc_checks map_checks unbind_checks
    unmap_checks user_map_checks user_unmap_checks user_write_checks Answers changed settle without_areas attached
    detached joined outcomes access_outcomes number_at
returns-clause-frames c = (
  λ h. never h.0,
  (
    λ h. never h.0,
    (
      λ h. never h.0,
      (
        λ h. never h.0,
        tt,
      ),
    ),
  ),
)

pub returns-clause-ids : goal.returns-clause-ids
unfolding Lawful after with_tables allow_iovas_checks attach_checks bind_checks close_checks copy_checks destroy_checks
    detach_checks device_write_checks flush_checks hwpt_alloc_checks ioas_alloc_checks map_checks unbind_checks
    unmap_checks user_map_checks user_unmap_checks user_write_checks Answers changed settle without_areas attached
    detached joined outcomes access_outcomes number_at
returns-clause-ids c = (
  λ h. never h.0,
  (
    λ h. never h.0,
    (
      λ h. never h.0,
      (
        λ h. never h.0,
        tt,
      ),
    ),
  ),
)

pub returns-clause-addresses : goal.returns-clause-addresses
unfolding Lawful after with_tables allow_iovas_checks attach_checks bind_checks close_checks copy_checks destroy_checks
    detach_checks device_write_checks flush_checks hwpt_alloc_checks ioas_alloc_checks map_checks unbind_checks
    unmap_checks user_map_checks user_unmap_checks user_write_checks Answers changed settle without_areas attached
    detached joined outcomes access_outcomes number_at
returns-clause-addresses c = (
  λ h. never h.0,
  (
    λ h. never h.0,
    (
      λ h. never h.0,
      (
        λ h. never h.0,
        (
          λ h. never h.0,
          tt,
        ),
      ),
    ),
  ),
)

pub returns-clause-fixed : goal.returns-clause-fixed
unfolding Lawful after with_tables allow_iovas_checks attach_checks bind_checks close_checks copy_checks destroy_checks
    detach_checks device_write_checks flush_checks hwpt_alloc_checks ioas_alloc_checks map_checks unbind_checks
    unmap_checks user_map_checks user_unmap_checks user_write_checks Answers changed settle without_areas attached
    detached joined outcomes access_outcomes number_at
returns-clause-fixed c = (
  λ h. lower_iova (iova 0x8000) (iova 0x20000) (omega arith) h.0,
  (
    λ h. lower_iova (iova 0x8000) (iova 0x20000) (omega arith) h.0,
    tt,
  ),
)

pub returns-clause-kinds : goal.returns-clause-kinds
unfolding Lawful after with_tables allow_iovas_checks attach_checks bind_checks close_checks copy_checks destroy_checks
    detach_checks device_write_checks flush_checks hwpt_alloc_checks ioas_alloc_checks map_checks unbind_checks
    unmap_checks user_map_checks user_unmap_checks user_write_checks Answers changed settle without_areas attached
    detached joined outcomes access_outcomes number_at
returns-clause-kinds c = (
  λ h. h.0,
  (
    λ h. h.0,
    (
      λ h. h.0,
      (
        λ h. h.0,
        (
          λ h. h.0,
          (
            λ h. h.0,
            tt,
          ),
        ),
      ),
    ),
  ),
)
