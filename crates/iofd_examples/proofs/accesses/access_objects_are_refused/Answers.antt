use Rattle.std.proofs.Common.{refl}
use Rattle.iofd_refusals.specs.Checks.{access_create_checks, access_attach_checks, access_detach_checks}
use Rattle.iofd_refusals.specs.Checks.{allow_iovas_checks, attach_checks, close_checks, copy_checks}
use Rattle.iofd_refusals.specs.Checks.{destroy_checks, hwpt_alloc_checks, map_checks, unbind_checks}
use Rattle.iofd_refusals.specs.Checks.{unmap_checks}
use Rattle.iofd_words.specs.Levels.{number_at}
use Rattle.iofd_examples.proofs.accesses.access_objects_are_refused.Goals as goal

pub returns-clause-all_creations : goal.returns-clause-all_creations
unfolding access_create_checks access_attach_checks access_detach_checks allow_iovas_checks attach_checks close_checks
    copy_checks destroy_checks hwpt_alloc_checks map_checks unbind_checks unmap_checks number_at
returns-clause-all_creations c = refl

pub returns-clause-first_creations : goal.returns-clause-first_creations
unfolding access_create_checks access_attach_checks access_detach_checks allow_iovas_checks attach_checks close_checks
    copy_checks destroy_checks hwpt_alloc_checks map_checks unbind_checks unmap_checks number_at
returns-clause-first_creations c = refl

pub returns-clause-all_attachments : goal.returns-clause-all_attachments
unfolding access_create_checks access_attach_checks access_detach_checks allow_iovas_checks attach_checks close_checks
    copy_checks destroy_checks hwpt_alloc_checks map_checks unbind_checks unmap_checks number_at
returns-clause-all_attachments c = refl

pub returns-clause-first_attachments : goal.returns-clause-first_attachments
unfolding access_create_checks access_attach_checks access_detach_checks allow_iovas_checks attach_checks close_checks
    copy_checks destroy_checks hwpt_alloc_checks map_checks unbind_checks unmap_checks number_at
returns-clause-first_attachments c = refl

pub returns-clause-all_detachments : goal.returns-clause-all_detachments
unfolding access_create_checks access_attach_checks access_detach_checks allow_iovas_checks attach_checks close_checks
    copy_checks destroy_checks hwpt_alloc_checks map_checks unbind_checks unmap_checks number_at
returns-clause-all_detachments c = refl

pub returns-clause-first_detachments : goal.returns-clause-first_detachments
unfolding access_create_checks access_attach_checks access_detach_checks allow_iovas_checks attach_checks close_checks
    copy_checks destroy_checks hwpt_alloc_checks map_checks unbind_checks unmap_checks number_at
returns-clause-first_detachments c = refl

pub returns-clause-all_ends : goal.returns-clause-all_ends
unfolding access_create_checks access_attach_checks access_detach_checks allow_iovas_checks attach_checks close_checks
    copy_checks destroy_checks hwpt_alloc_checks map_checks unbind_checks unmap_checks number_at
returns-clause-all_ends c = refl

pub returns-clause-first_ends : goal.returns-clause-first_ends
unfolding access_create_checks access_attach_checks access_detach_checks allow_iovas_checks attach_checks close_checks
    copy_checks destroy_checks hwpt_alloc_checks map_checks unbind_checks unmap_checks number_at
returns-clause-first_ends c = refl

pub returns-clause-all_others : goal.returns-clause-all_others
unfolding access_create_checks access_attach_checks access_detach_checks allow_iovas_checks attach_checks close_checks
    copy_checks destroy_checks hwpt_alloc_checks map_checks unbind_checks unmap_checks number_at
returns-clause-all_others c = refl

pub returns-clause-first_others : goal.returns-clause-first_others
unfolding access_create_checks access_attach_checks access_detach_checks allow_iovas_checks attach_checks close_checks
    copy_checks destroy_checks hwpt_alloc_checks map_checks unbind_checks unmap_checks number_at
returns-clause-first_others c = refl

pub returns-clause-all_closed : goal.returns-clause-all_closed
unfolding access_create_checks access_attach_checks access_detach_checks allow_iovas_checks attach_checks close_checks
    copy_checks destroy_checks hwpt_alloc_checks map_checks unbind_checks unmap_checks number_at
returns-clause-all_closed c = refl

pub returns-clause-first_closed : goal.returns-clause-first_closed
unfolding access_create_checks access_attach_checks access_detach_checks allow_iovas_checks attach_checks close_checks
    copy_checks destroy_checks hwpt_alloc_checks map_checks unbind_checks unmap_checks number_at
returns-clause-first_closed c = refl

pub returns-clause-all_page_tables : goal.returns-clause-all_page_tables
unfolding access_create_checks access_attach_checks access_detach_checks allow_iovas_checks attach_checks close_checks
    copy_checks destroy_checks hwpt_alloc_checks map_checks unbind_checks unmap_checks number_at
returns-clause-all_page_tables c = refl

pub returns-clause-first_page_tables : goal.returns-clause-first_page_tables
unfolding access_create_checks access_attach_checks access_detach_checks allow_iovas_checks attach_checks close_checks
    copy_checks destroy_checks hwpt_alloc_checks map_checks unbind_checks unmap_checks number_at
returns-clause-first_page_tables c = refl
