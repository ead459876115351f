use Rattle.std.proofs.Common.{refl, arith}
use Rattle.iofd_steps.specs.After.{changed, settle, without_areas, attached, detached, joined}
use Rattle.iofd_steps.specs.Answers.{Answers}
use Rattle.iofd_refusals.specs.Checks.{allow_iovas_checks, attach_checks, bind_checks, close_checks, copy_checks}
use Rattle.iofd_refusals.specs.Checks.{destroy_checks, detach_checks, device_write_checks, flush_checks}
use Rattle.iofd_refusals.specs.Checks.{hwpt_alloc_checks}
use Rattle.iofd_refusals.specs.Checks.{ioas_alloc_checks, map_checks, unbind_checks, unmap_checks, user_map_checks}
use Rattle.iofd_refusals.specs.Checks.{user_unmap_checks, user_write_checks}
use Rattle.iofd_words.specs.Levels.{number_at}
use Rattle.iofd_words.specs.Policy.{access_outcomes, outcomes}
use Rattle.iofd_steps.specs.Run.{Lawful, after}
use Rattle.iofd_words.specs.Tables.{with_tables}
use Rattle.iofd_examples.specs.Words.{id}
use Rattle.iofd_examples.proofs.Never.{higher_id, never}
use Rattle.iofd_examples.proofs.choices.tables_take_free_frames.Goals as goal

pub returns-clause-any : goal.returns-clause-any
unfolding Lawful after with_tables allow_iovas_checks attach_checks bind_checks close_checks copy_checks destroy_checks
    detach_checks device_write_checks flush_checks hwpt_alloc_checks ioas_alloc_checks map_checks unbind_checks
    unmap_checks user_map_checks user_unmap_checks user_write_checks Answers changed settle without_areas attached
    detached joined outcomes access_outcomes number_at
returns-clause-any c = (
  (refl, record { enough = refl; free = refl; different = refl; gone = refl; may = refl; rising = refl }),
  (
    (refl, record { enough = refl; free = refl; different = refl; gone = refl; may = refl; rising = refl }),
    (
      (refl, record { enough = refl; free = refl; different = refl; gone = refl; may = refl; rising = refl }),
      (
        (refl, record { enough = refl; free = refl; different = refl; gone = refl; may = refl; rising = refl }),
        (
          (refl, record { enough = refl; free = refl; different = refl; gone = refl; may = refl; rising = refl }),
          (
            (refl, record { enough = refl; free = refl; different = refl; gone = refl; may = refl; rising = refl }),
            tt,
          ),
        ),
      ),
    ),
  ),
)

pub returns-clause-ids : goal.returns-clause-ids
unfolding Lawful after with_tables allow_iovas_checks attach_checks bind_checks close_checks copy_checks destroy_checks
    detach_checks device_write_checks flush_checks hwpt_alloc_checks ioas_alloc_checks map_checks unbind_checks
    unmap_checks user_map_checks user_unmap_checks user_write_checks Answers changed settle without_areas attached
    detached joined outcomes access_outcomes number_at
returns-clause-ids c = (
  λ h. never h.0,
  (
    λ h. never h.0,
    (
      λ h. never h.0,
      tt,
    ),
  ),
)

pub returns-clause-others : goal.returns-clause-others
unfolding Lawful after with_tables allow_iovas_checks attach_checks bind_checks close_checks copy_checks destroy_checks
    detach_checks device_write_checks flush_checks hwpt_alloc_checks ioas_alloc_checks map_checks unbind_checks
    unmap_checks user_map_checks user_unmap_checks user_write_checks Answers changed settle without_areas attached
    detached joined outcomes access_outcomes number_at
returns-clause-others c = (
  λ h. higher_id (id 11) (id 10) (omega arith) h.0,
  (
    λ h. higher_id (id 10) (id 4) (omega arith) h.0,
    tt,
  ),
)

pub returns-clause-numbers : goal.returns-clause-numbers
unfolding Lawful after with_tables allow_iovas_checks attach_checks bind_checks close_checks copy_checks destroy_checks
    detach_checks device_write_checks flush_checks hwpt_alloc_checks ioas_alloc_checks map_checks unbind_checks
    unmap_checks user_map_checks user_unmap_checks user_write_checks Answers changed settle without_areas attached
    detached joined outcomes access_outcomes number_at
returns-clause-numbers c = (
  λ h. let is = h.1.enough in cc,
  (
    λ h. let is = h.1.enough in cc,
    (
      λ h. let is = h.1.enough in cc,
      (
        λ h. let is = h.1.enough in cc,
        tt,
      ),
    ),
  ),
)

pub returns-clause-reached : goal.returns-clause-reached
unfolding Lawful after with_tables allow_iovas_checks attach_checks bind_checks close_checks copy_checks destroy_checks
    detach_checks device_write_checks flush_checks hwpt_alloc_checks ioas_alloc_checks map_checks unbind_checks
    unmap_checks user_map_checks user_unmap_checks user_write_checks Answers changed settle without_areas attached
    detached joined outcomes access_outcomes number_at
returns-clause-reached c = (
  λ h. never h.1.free,
  (
    λ h. never h.1.free,
    (
      λ h. never h.1.free,
      tt,
    ),
  ),
)

pub returns-clause-twice : goal.returns-clause-twice
unfolding Lawful after with_tables allow_iovas_checks attach_checks bind_checks close_checks copy_checks destroy_checks
    detach_checks device_write_checks flush_checks hwpt_alloc_checks ioas_alloc_checks map_checks unbind_checks
    unmap_checks user_map_checks user_unmap_checks user_write_checks Answers changed settle without_areas attached
    detached joined outcomes access_outcomes number_at
returns-clause-twice c = (
  λ h. never h.1.different,
  (
    λ h. never h.1.different,
    tt,
  ),
)

pub returns-clause-pin : goal.returns-clause-pin
unfolding Lawful after with_tables allow_iovas_checks attach_checks bind_checks close_checks copy_checks destroy_checks
    detach_checks device_write_checks flush_checks hwpt_alloc_checks ioas_alloc_checks map_checks unbind_checks
    unmap_checks user_map_checks user_unmap_checks user_write_checks Answers changed settle without_areas attached
    detached joined outcomes access_outcomes number_at
returns-clause-pin c = (λ h. never h.1.free, tt)
