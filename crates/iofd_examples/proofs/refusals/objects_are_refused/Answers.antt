use Rattle.std.proofs.Common.{refl}
use Rattle.iofd_refusals.specs.Checks.{bind_checks, close_checks, destroy_checks, ioas_alloc_checks, unbind_checks}
use Rattle.iofd_examples.proofs.refusals.objects_are_refused.Goals as goal

pub returns-clause-all : goal.returns-clause-all
unfolding ioas_alloc_checks destroy_checks close_checks bind_checks unbind_checks
returns-clause-all c = refl

pub returns-clause-first : goal.returns-clause-first
unfolding ioas_alloc_checks destroy_checks close_checks bind_checks unbind_checks
returns-clause-first c = refl

pub returns-clause-all_closed : goal.returns-clause-all_closed
unfolding ioas_alloc_checks destroy_checks close_checks bind_checks unbind_checks
returns-clause-all_closed c = refl

pub returns-clause-first_closed : goal.returns-clause-first_closed
unfolding ioas_alloc_checks destroy_checks close_checks bind_checks unbind_checks
returns-clause-first_closed c = refl

pub returns-clause-all_after_close : goal.returns-clause-all_after_close
unfolding ioas_alloc_checks destroy_checks close_checks bind_checks unbind_checks
returns-clause-all_after_close c = refl

pub returns-clause-first_after_close : goal.returns-clause-first_after_close
unfolding ioas_alloc_checks destroy_checks close_checks bind_checks unbind_checks
returns-clause-first_after_close c = refl

pub returns-clause-all_in_shared : goal.returns-clause-all_in_shared
unfolding ioas_alloc_checks destroy_checks close_checks bind_checks unbind_checks
returns-clause-all_in_shared c = refl

pub returns-clause-first_in_shared : goal.returns-clause-first_in_shared
unfolding ioas_alloc_checks destroy_checks close_checks bind_checks unbind_checks
returns-clause-first_in_shared c = refl
