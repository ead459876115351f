use Rattle.std.proofs.Common.{refl}
use Rattle.iofd_refusals.specs.Checks.{access_attach_checks, access_detach_checks, access_pin_checks}
use Rattle.iofd_refusals.specs.Checks.{access_unpin_checks, access_write_checks, close_checks, destroy_checks}
use Rattle.iofd_words.specs.Levels.{number_at}
use Rattle.iofd_examples.proofs.pins.pins_are_refused.Goals as goal

pub returns-clause-all_ready : goal.returns-clause-all_ready
unfolding access_attach_checks access_detach_checks access_pin_checks access_unpin_checks access_write_checks
    close_checks destroy_checks number_at
returns-clause-all_ready c = refl

pub returns-clause-first_ready : goal.returns-clause-first_ready
unfolding access_attach_checks access_detach_checks access_pin_checks access_unpin_checks access_write_checks
    close_checks destroy_checks number_at
returns-clause-first_ready c = refl

pub returns-clause-all_pinned : goal.returns-clause-all_pinned
unfolding access_attach_checks access_detach_checks access_pin_checks access_unpin_checks access_write_checks
    close_checks destroy_checks number_at
returns-clause-all_pinned c = refl

pub returns-clause-first_pinned : goal.returns-clause-first_pinned
unfolding access_attach_checks access_detach_checks access_pin_checks access_unpin_checks access_write_checks
    close_checks destroy_checks number_at
returns-clause-first_pinned c = refl

pub returns-clause-all_given_up : goal.returns-clause-all_given_up
unfolding access_attach_checks access_detach_checks access_pin_checks access_unpin_checks access_write_checks
    close_checks destroy_checks number_at
returns-clause-all_given_up c = refl

pub returns-clause-all_leaving : goal.returns-clause-all_leaving
unfolding access_attach_checks access_detach_checks access_pin_checks access_unpin_checks access_write_checks
    close_checks destroy_checks number_at
returns-clause-all_leaving c = refl

pub returns-clause-first_leaving : goal.returns-clause-first_leaving
unfolding access_attach_checks access_detach_checks access_pin_checks access_unpin_checks access_write_checks
    close_checks destroy_checks number_at
returns-clause-first_leaving c = refl

pub returns-clause-all_unpins : goal.returns-clause-all_unpins
unfolding access_attach_checks access_detach_checks access_pin_checks access_unpin_checks access_write_checks
    close_checks destroy_checks number_at
returns-clause-all_unpins c = refl

pub returns-clause-first_unpins : goal.returns-clause-first_unpins
unfolding access_attach_checks access_detach_checks access_pin_checks access_unpin_checks access_write_checks
    close_checks destroy_checks number_at
returns-clause-first_unpins c = refl

pub returns-clause-all_holders : goal.returns-clause-all_holders
unfolding access_attach_checks access_detach_checks access_pin_checks access_unpin_checks access_write_checks
    close_checks destroy_checks number_at
returns-clause-all_holders c = refl

pub returns-clause-first_holders : goal.returns-clause-first_holders
unfolding access_attach_checks access_detach_checks access_pin_checks access_unpin_checks access_write_checks
    close_checks destroy_checks number_at
returns-clause-first_holders c = refl

pub returns-clause-all_closed : goal.returns-clause-all_closed
unfolding access_attach_checks access_detach_checks access_pin_checks access_unpin_checks access_write_checks
    close_checks destroy_checks number_at
returns-clause-all_closed c = refl

pub returns-clause-first_closed : goal.returns-clause-first_closed
unfolding access_attach_checks access_detach_checks access_pin_checks access_unpin_checks access_write_checks
    close_checks destroy_checks number_at
returns-clause-first_closed c = refl
