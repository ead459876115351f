use Rattle.std.proofs.Common.{Bool, false, ◌==◌, refl, ap, [], ◌∷◌, Contains}
use Rattle.iofd_steps.specs.After.{changed, settle, without_areas, attached, detached, joined}
use Rattle.iofd_steps.specs.Answers.{Answers}
use Rattle.iofd_refusals.specs.Checks.{allow_iovas_checks, attach_checks, bind_checks, close_checks, copy_checks}
use Rattle.iofd_refusals.specs.Checks.{destroy_checks, detach_checks, device_write_checks, flush_checks}
use Rattle.iofd_refusals.specs.Checks.{hwpt_alloc_checks}
use Rattle.iofd_refusals.specs.Checks.{ioas_alloc_checks, map_checks, unbind_checks, unmap_checks, user_map_checks}
use Rattle.iofd_refusals.specs.Checks.{user_unmap_checks, user_write_checks}
use Rattle.iofd_words.specs.Levels.{number_at}
use Rattle.iofd_steps.specs.Look.{answers_in}
use Rattle.iofd_words.specs.Policy.{access_outcomes, outcomes}
use Rattle.iofd_steps.specs.Run.{IsRun, Lawful, after, world_of}
use Rattle.iofd_words.specs.Tables.{with_tables}
use Rattle.iofd_interleavings.specs.Steps.{AreSteps, state_after}
use Rattle.iofd_words.specs.declared.query.Answer.TheVariants as answer
use Rattle.iofd_words.specs.declared.reply.Reply.{Reply}
use Rattle.iofd_words.specs.declared.reply.Reply.TheVariants as reply
use Rattle.iofd_examples.specs.Words.{passed}
use Rattle.iofd_examples.proofs.Contained.{contained_in_one}
use Rattle.iofd_examples.proofs.Never.{never}
use Rattle.iofd_interleavings_examples.proofs.kept.other_answers_are_not_allowed.Goals as goal

pub returns-clause-cached : goal.returns-clause-cached
returns-clause-cached c = refl

pub returns-clause-of_user : goal.returns-clause-of_user
returns-clause-of_user c = refl

pub returns-clause-bytes : goal.returns-clause-bytes
unfolding AreSteps state_after world_of IsRun Lawful after with_tables answers_in Answers allow_iovas_checks
    attach_checks bind_checks close_checks copy_checks destroy_checks detach_checks device_write_checks flush_checks
    hwpt_alloc_checks ioas_alloc_checks map_checks unbind_checks unmap_checks user_map_checks user_unmap_checks
    user_write_checks changed settle without_areas attached detached joined outcomes access_outcomes number_at
returns-clause-bytes c = λ has.
    let is = contained_in_one (answer.Read (9 ∷ 10 ∷ [])) (answer.Read (9 ∷ 11 ∷ [])) has in cc

abbrev is_at_second : Reply → Bool
is_at_second (reply.Passed frame) = frame.0 == 1
is_at_second other = false

other_frame : Contains (passed 0 ∷ []) (passed 1) → ⊥
other_frame has = never (ap is_at_second (contained_in_one (passed 0) (passed 1) has))

pub returns-clause-written : goal.returns-clause-written
unfolding AreSteps state_after world_of IsRun Lawful after with_tables answers_in Answers allow_iovas_checks
    attach_checks bind_checks close_checks copy_checks destroy_checks detach_checks device_write_checks flush_checks
    hwpt_alloc_checks ioas_alloc_checks map_checks unbind_checks unmap_checks user_map_checks user_unmap_checks
    user_write_checks changed settle without_areas attached detached joined outcomes access_outcomes number_at
returns-clause-written c = other_frame

pub returns-clause-pass : goal.returns-clause-pass
unfolding state_after
returns-clause-pass c = refl
