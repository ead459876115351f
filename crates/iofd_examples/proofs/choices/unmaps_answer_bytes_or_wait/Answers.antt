use Rattle.std.proofs.Common.{refl, arith}
use Rattle.iofd_steps.specs.After.{changed, settle, without_areas, attached, detached, joined}
use Rattle.iofd_steps.specs.Answers.{Answers}
use Rattle.iofd_refusals.specs.Checks.{allow_iovas_checks, attach_checks, bind_checks, close_checks, copy_checks}
use Rattle.iofd_refusals.specs.Checks.{destroy_checks, detach_checks, device_write_checks, flush_checks}
use Rattle.iofd_refusals.specs.Checks.{hwpt_alloc_checks}
use Rattle.iofd_refusals.specs.Checks.{ioas_alloc_checks, map_checks, unbind_checks, unmap_checks, user_map_checks}
use Rattle.iofd_refusals.specs.Checks.{user_unmap_checks, user_write_checks}
use Rattle.iofd_words.specs.Levels.{number_at}
use Rattle.iofd_words.specs.Policy.{access_outcomes, outcomes}
use Rattle.iofd_steps.specs.Run.{Lawful, after}
use Rattle.iofd_words.specs.Tables.{with_tables}
use Rattle.iofd_examples.proofs.Never.{higher, lower, never}
use Rattle.iofd_examples.proofs.choices.unmaps_answer_bytes_or_wait.Goals as goal

pub returns-clause-bytes : goal.returns-clause-bytes
unfolding Lawful after with_tables allow_iovas_checks attach_checks bind_checks close_checks copy_checks destroy_checks
    detach_checks device_write_checks flush_checks hwpt_alloc_checks ioas_alloc_checks map_checks unbind_checks
    unmap_checks user_map_checks user_unmap_checks user_write_checks Answers changed settle without_areas attached
    detached joined outcomes access_outcomes number_at
returns-clause-bytes c = (
  ((refl, refl), record { enough = refl; free = refl; different = refl; gone = refl; may = refl; rising = refl }),
  tt,
)

pub returns-clause-other_bytes : goal.returns-clause-other_bytes
unfolding Lawful after with_tables allow_iovas_checks attach_checks bind_checks close_checks copy_checks destroy_checks
    detach_checks device_write_checks flush_checks hwpt_alloc_checks ioas_alloc_checks map_checks unbind_checks
    unmap_checks user_map_checks user_unmap_checks user_write_checks Answers changed settle without_areas attached
    detached joined outcomes access_outcomes number_at
returns-clause-other_bytes c = (
  λ h. lower 0x2000 0x3000 (omega arith) h.0.1,
  (
    λ h. higher 0x5000 0x3000 (omega arith) h.0.1,
    tt,
  ),
)

pub returns-clause-nobody : goal.returns-clause-nobody
unfolding Lawful after with_tables allow_iovas_checks attach_checks bind_checks close_checks copy_checks destroy_checks
    detach_checks device_write_checks flush_checks hwpt_alloc_checks ioas_alloc_checks map_checks unbind_checks
    unmap_checks user_map_checks user_unmap_checks user_write_checks Answers changed settle without_areas attached
    detached joined outcomes access_outcomes number_at
returns-clause-nobody c = (λ h. never h.0.0, tt)

pub returns-clause-waits : goal.returns-clause-waits
unfolding Lawful after with_tables allow_iovas_checks attach_checks bind_checks close_checks copy_checks destroy_checks
    detach_checks device_write_checks flush_checks hwpt_alloc_checks ioas_alloc_checks map_checks unbind_checks
    unmap_checks user_map_checks user_unmap_checks user_write_checks Answers changed settle without_areas attached
    detached joined outcomes access_outcomes number_at
returns-clause-waits c = (
  ((refl, refl), record { enough = refl; free = refl; different = refl; gone = refl; may = refl; rising = refl }),
  tt,
)

pub returns-clause-waits_again : goal.returns-clause-waits_again
unfolding Lawful after with_tables allow_iovas_checks attach_checks bind_checks close_checks copy_checks destroy_checks
    detach_checks device_write_checks flush_checks hwpt_alloc_checks ioas_alloc_checks map_checks unbind_checks
    unmap_checks user_map_checks user_unmap_checks user_write_checks Answers changed settle without_areas attached
    detached joined outcomes access_outcomes number_at
returns-clause-waits_again c = (
  ((refl, refl), record { enough = refl; free = refl; different = refl; gone = refl; may = refl; rising = refl }),
  tt,
)

pub returns-clause-too_early : goal.returns-clause-too_early
unfolding Lawful after with_tables allow_iovas_checks attach_checks bind_checks close_checks copy_checks destroy_checks
    detach_checks device_write_checks flush_checks hwpt_alloc_checks ioas_alloc_checks map_checks unbind_checks
    unmap_checks user_map_checks user_unmap_checks user_write_checks Answers changed settle without_areas attached
    detached joined outcomes access_outcomes number_at
returns-clause-too_early c = (λ h. never h.0.0, tt)

pub returns-clause-too_early_again : goal.returns-clause-too_early_again
unfolding Lawful after with_tables allow_iovas_checks attach_checks bind_checks close_checks copy_checks destroy_checks
    detach_checks device_write_checks flush_checks hwpt_alloc_checks ioas_alloc_checks map_checks unbind_checks
    unmap_checks user_map_checks user_unmap_checks user_write_checks Answers changed settle without_areas attached
    detached joined outcomes access_outcomes number_at
returns-clause-too_early_again c = (λ h. never h.0.0, tt)

pub returns-clause-errno : goal.returns-clause-errno
unfolding Lawful after with_tables allow_iovas_checks attach_checks bind_checks close_checks copy_checks destroy_checks
    detach_checks device_write_checks flush_checks hwpt_alloc_checks ioas_alloc_checks map_checks unbind_checks
    unmap_checks user_map_checks user_unmap_checks user_write_checks Answers changed settle without_areas attached
    detached joined outcomes access_outcomes number_at
returns-clause-errno c = (λ h. let is = h.0.1 in cc, tt)

pub returns-clause-paid : goal.returns-clause-paid
unfolding Lawful after with_tables allow_iovas_checks attach_checks bind_checks close_checks copy_checks destroy_checks
    detach_checks device_write_checks flush_checks hwpt_alloc_checks ioas_alloc_checks map_checks unbind_checks
    unmap_checks user_map_checks user_unmap_checks user_write_checks Answers changed settle without_areas attached
    detached joined outcomes access_outcomes number_at
returns-clause-paid c = (
  ((refl, refl), record { enough = refl; free = refl; different = refl; gone = refl; may = refl; rising = refl }),
  tt,
)

pub returns-clause-first : goal.returns-clause-first
unfolding Lawful after with_tables allow_iovas_checks attach_checks bind_checks close_checks copy_checks destroy_checks
    detach_checks device_write_checks flush_checks hwpt_alloc_checks ioas_alloc_checks map_checks unbind_checks
    unmap_checks user_map_checks user_unmap_checks user_write_checks Answers changed settle without_areas attached
    detached joined outcomes access_outcomes number_at
returns-clause-first c = (
  ((refl, refl), record { enough = refl; free = refl; different = refl; gone = refl; may = refl; rising = refl }),
  tt,
)

pub returns-clause-both : goal.returns-clause-both
unfolding Lawful after with_tables allow_iovas_checks attach_checks bind_checks close_checks copy_checks destroy_checks
    detach_checks device_write_checks flush_checks hwpt_alloc_checks ioas_alloc_checks map_checks unbind_checks
    unmap_checks user_map_checks user_unmap_checks user_write_checks Answers changed settle without_areas attached
    detached joined outcomes access_outcomes number_at
returns-clause-both c = (
  ((refl, refl), record { enough = refl; free = refl; different = refl; gone = refl; may = refl; rising = refl }),
  tt,
)

pub returns-clause-forgotten : goal.returns-clause-forgotten
unfolding Lawful after with_tables allow_iovas_checks attach_checks bind_checks close_checks copy_checks destroy_checks
    detach_checks device_write_checks flush_checks hwpt_alloc_checks ioas_alloc_checks map_checks unbind_checks
    unmap_checks user_map_checks user_unmap_checks user_write_checks Answers changed settle without_areas attached
    detached joined outcomes access_outcomes number_at
returns-clause-forgotten c = (λ h. never h.0.0, tt)
