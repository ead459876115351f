use Rattle.std.proofs.Common.{refl}
use Rattle.iofd_steps.specs.After.{changed, settle, without_areas, attached, detached, joined}
use Rattle.iofd_steps.specs.Answers.{Answers}
use Rattle.iofd_refusals.specs.Checks.{allow_iovas_checks, attach_checks, bind_checks, close_checks, copy_checks}
use Rattle.iofd_refusals.specs.Checks.{destroy_checks, detach_checks, device_write_checks, flush_checks}
use Rattle.iofd_refusals.specs.Checks.{hwpt_alloc_checks}
use Rattle.iofd_refusals.specs.Checks.{ioas_alloc_checks, map_checks, unbind_checks, unmap_checks, user_map_checks}
use Rattle.iofd_refusals.specs.Checks.{user_unmap_checks, user_write_checks}
use Rattle.iofd_words.specs.Levels.{number_at}
use Rattle.iofd_words.specs.Policy.{access_outcomes, outcomes}
use Rattle.iofd_steps.specs.Run.{Lawful, after}
use Rattle.iofd_words.specs.Tables.{with_tables}
use Rattle.iofd_examples.proofs.Never.{never}
use Rattle.iofd_examples.proofs.choices.tables_give_frames_back.Goals as goal

pub returns-clause-go : goal.returns-clause-go
unfolding Lawful after with_tables allow_iovas_checks attach_checks bind_checks close_checks copy_checks destroy_checks
    detach_checks device_write_checks flush_checks hwpt_alloc_checks ioas_alloc_checks map_checks unbind_checks
    unmap_checks user_map_checks user_unmap_checks user_write_checks Answers changed settle without_areas attached
    detached joined outcomes access_outcomes number_at
returns-clause-go c = (
  (tt, record { enough = refl; free = refl; different = refl; gone = refl; may = refl; rising = refl }),
  (
    (tt, record { enough = refl; free = refl; different = refl; gone = refl; may = refl; rising = refl }),
    tt,
  ),
)

pub returns-clause-stays : goal.returns-clause-stays
unfolding Lawful after with_tables allow_iovas_checks attach_checks bind_checks close_checks copy_checks destroy_checks
    detach_checks device_write_checks flush_checks hwpt_alloc_checks ioas_alloc_checks map_checks unbind_checks
    unmap_checks user_map_checks user_unmap_checks user_write_checks Answers changed settle without_areas attached
    detached joined outcomes access_outcomes number_at
returns-clause-stays c = (λ h. never h.1.gone, tt)

pub returns-clause-others : goal.returns-clause-others
unfolding Lawful after with_tables allow_iovas_checks attach_checks bind_checks close_checks copy_checks destroy_checks
    detach_checks device_write_checks flush_checks hwpt_alloc_checks ioas_alloc_checks map_checks unbind_checks
    unmap_checks user_map_checks user_unmap_checks user_write_checks Answers changed settle without_areas attached
    detached joined outcomes access_outcomes number_at
returns-clause-others c = (
  λ h. never h.1.may,
  (
    λ h. never h.1.may,
    (
      λ h. never h.1.may,
      (
        λ h. never h.1.may,
        (
          λ h. never h.1.may,
          tt,
        ),
      ),
    ),
  ),
)

pub returns-clause-given : goal.returns-clause-given
unfolding Lawful after with_tables allow_iovas_checks attach_checks bind_checks close_checks copy_checks destroy_checks
    detach_checks device_write_checks flush_checks hwpt_alloc_checks ioas_alloc_checks map_checks unbind_checks
    unmap_checks user_map_checks user_unmap_checks user_write_checks Answers changed settle without_areas attached
    detached joined outcomes access_outcomes number_at
returns-clause-given c = (
  ((refl, refl), record { enough = refl; free = refl; different = refl; gone = refl; may = refl; rising = refl }),
  (
    ((refl, refl), record { enough = refl; free = refl; different = refl; gone = refl; may = refl; rising = refl }),
    (
      ((refl, refl), record { enough = refl; free = refl; different = refl; gone = refl; may = refl; rising = refl }),
      tt,
    ),
  ),
)

pub returns-clause-root : goal.returns-clause-root
unfolding Lawful after with_tables allow_iovas_checks attach_checks bind_checks close_checks copy_checks destroy_checks
    detach_checks device_write_checks flush_checks hwpt_alloc_checks ioas_alloc_checks map_checks unbind_checks
    unmap_checks user_map_checks user_unmap_checks user_write_checks Answers changed settle without_areas attached
    detached joined outcomes access_outcomes number_at
returns-clause-root c = (
  λ h. never h.1.may,
  (
    λ h. never h.1.may,
    tt,
  ),
)

pub returns-clause-rising : goal.returns-clause-rising
unfolding Lawful after with_tables allow_iovas_checks attach_checks bind_checks close_checks copy_checks destroy_checks
    detach_checks device_write_checks flush_checks hwpt_alloc_checks ioas_alloc_checks map_checks unbind_checks
    unmap_checks user_map_checks user_unmap_checks user_write_checks Answers changed settle without_areas attached
    detached joined outcomes access_outcomes number_at
returns-clause-rising c = (λ h. never h.1.rising, tt)

pub returns-clause-second : goal.returns-clause-second
unfolding Lawful after with_tables allow_iovas_checks attach_checks bind_checks close_checks copy_checks destroy_checks
    detach_checks device_write_checks flush_checks hwpt_alloc_checks ioas_alloc_checks map_checks unbind_checks
    unmap_checks user_map_checks user_unmap_checks user_write_checks Answers changed settle without_areas attached
    detached joined outcomes access_outcomes number_at
returns-clause-second c = (λ h. never h.1.may, tt)

pub returns-clause-flush : goal.returns-clause-flush
unfolding Lawful after with_tables allow_iovas_checks attach_checks bind_checks close_checks copy_checks destroy_checks
    detach_checks device_write_checks flush_checks hwpt_alloc_checks ioas_alloc_checks map_checks unbind_checks
    unmap_checks user_map_checks user_unmap_checks user_write_checks Answers changed settle without_areas attached
    detached joined outcomes access_outcomes number_at
returns-clause-flush c = (λ h. never h.1.may, tt)

pub returns-clause-other : goal.returns-clause-other
unfolding Lawful after with_tables allow_iovas_checks attach_checks bind_checks close_checks copy_checks destroy_checks
    detach_checks device_write_checks flush_checks hwpt_alloc_checks ioas_alloc_checks map_checks unbind_checks
    unmap_checks user_map_checks user_unmap_checks user_write_checks Answers changed settle without_areas attached
    detached joined outcomes access_outcomes number_at
returns-clause-other c = (
  (
    (refl, refl),
    record {
      enough = refl;
      free = refl;
      different = refl;
      gone = refl;
      may = refl;
      rising = refl;
    },
  ),
  tt,
)

pub returns-clause-of_other : goal.returns-clause-of_other
unfolding Lawful after with_tables allow_iovas_checks attach_checks bind_checks close_checks copy_checks destroy_checks
    detach_checks device_write_checks flush_checks hwpt_alloc_checks ioas_alloc_checks map_checks unbind_checks
    unmap_checks user_map_checks user_unmap_checks user_write_checks Answers changed settle without_areas attached
    detached joined outcomes access_outcomes number_at
returns-clause-of_other c = (λ h. never h.1.may, tt)
