use Rattle.std.proofs.Common.{refl}
use Rattle.iofd_steps.specs.After.{changed, settle, without_areas, attached, detached, joined}
use Rattle.iofd_steps.specs.Answers.{Answers}
use Rattle.iofd_refusals.specs.Checks.{allow_iovas_checks, attach_checks, bind_checks, close_checks, copy_checks}
use Rattle.iofd_refusals.specs.Checks.{destroy_checks, detach_checks, device_write_checks, flush_checks}
use Rattle.iofd_refusals.specs.Checks.{hwpt_alloc_checks}
use Rattle.iofd_refusals.specs.Checks.{ioas_alloc_checks, map_checks, unbind_checks, unmap_checks, user_map_checks}
use Rattle.iofd_refusals.specs.Checks.{user_unmap_checks, user_write_checks}
use Rattle.iofd_words.specs.Levels.{number_at}
use Rattle.iofd_words.specs.Policy.{access_outcomes, outcomes}
use Rattle.iofd_steps.specs.Run.{Lawful, after}
use Rattle.iofd_words.specs.Tables.{with_tables}
use Rattle.iofd_examples.proofs.Never.{same_cause}
use Rattle.iofd_examples.proofs.choices.refused_records_change_nothing.Goals as goal

pub returns-clause-refused : goal.returns-clause-refused
unfolding Lawful after with_tables allow_iovas_checks attach_checks bind_checks close_checks copy_checks destroy_checks
    detach_checks device_write_checks flush_checks hwpt_alloc_checks ioas_alloc_checks map_checks unbind_checks
    unmap_checks user_map_checks user_unmap_checks user_write_checks Answers changed settle without_areas attached
    detached joined outcomes access_outcomes number_at
returns-clause-refused c = ((refl, (refl, refl)), tt)

pub returns-clause-causes : goal.returns-clause-causes
unfolding Lawful after with_tables allow_iovas_checks attach_checks bind_checks close_checks copy_checks destroy_checks
    detach_checks device_write_checks flush_checks hwpt_alloc_checks ioas_alloc_checks map_checks unbind_checks
    unmap_checks user_map_checks user_unmap_checks user_write_checks Answers changed settle without_areas attached
    detached joined outcomes access_outcomes number_at
returns-clause-causes c = (
  λ h. let is = same_cause _ _ h.0 in cc,
  (
    λ h. let is = same_cause _ _ h.0 in cc,
    tt,
  ),
)

pub returns-clause-not_refused : goal.returns-clause-not_refused
unfolding Lawful after with_tables allow_iovas_checks attach_checks bind_checks close_checks copy_checks destroy_checks
    detach_checks device_write_checks flush_checks hwpt_alloc_checks ioas_alloc_checks map_checks unbind_checks
    unmap_checks user_map_checks user_unmap_checks user_write_checks Answers changed settle without_areas attached
    detached joined outcomes access_outcomes number_at
returns-clause-not_refused c = (λ h. let is = h.0 in cc, tt)

pub returns-clause-not_to_be : goal.returns-clause-not_to_be
unfolding Lawful after with_tables allow_iovas_checks attach_checks bind_checks close_checks copy_checks destroy_checks
    detach_checks device_write_checks flush_checks hwpt_alloc_checks ioas_alloc_checks map_checks unbind_checks
    unmap_checks user_map_checks user_unmap_checks user_write_checks Answers changed settle without_areas attached
    detached joined outcomes access_outcomes number_at
returns-clause-not_to_be c = (
  λ h. h.0,
  (
    λ h. h.0,
    tt,
  ),
)

pub returns-clause-takes : goal.returns-clause-takes
unfolding Lawful after with_tables allow_iovas_checks attach_checks bind_checks close_checks copy_checks destroy_checks
    detach_checks device_write_checks flush_checks hwpt_alloc_checks ioas_alloc_checks map_checks unbind_checks
    unmap_checks user_map_checks user_unmap_checks user_write_checks Answers changed settle without_areas attached
    detached joined outcomes access_outcomes number_at
returns-clause-takes c = (λ h. let is = h.1.0 in cc, tt)

pub returns-clause-gives : goal.returns-clause-gives
unfolding Lawful after with_tables allow_iovas_checks attach_checks bind_checks close_checks copy_checks destroy_checks
    detach_checks device_write_checks flush_checks hwpt_alloc_checks ioas_alloc_checks map_checks unbind_checks
    unmap_checks user_map_checks user_unmap_checks user_write_checks Answers changed settle without_areas attached
    detached joined outcomes access_outcomes number_at
returns-clause-gives c = (λ h. let is = h.1.1 in cc, tt)
