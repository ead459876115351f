use Rattle.iofd_refusals.specs.Checks.{attach_checks, bind_checks, close_checks, destroy_checks, detach_checks}
use Rattle.iofd_refusals.specs.Checks.{device_write_checks, flush_checks, ioas_alloc_checks, map_checks, unmap_checks}
use Rattle.iofd_refusals.specs.Checks.{user_map_checks}
use Rattle.iofd_words.specs.Levels.{number_at}
use Rattle.iofd_words.specs.Tables.{with_tables}
use Rattle.std.proofs.Common.{◌≡◌, ℕ, true, false, ap, inl, inr}
use Rattle.iofd_steps.specs.After.{changed, settle, without_areas, attached, detached}
use Rattle.iofd_steps.specs.Answers.{Answers}
use Rattle.iofd_words.specs.Policy.{access_outcomes, outcomes}
use Rattle.iofd_steps.specs.Run.{IsRun, Lawful, after}
use Rattle.iofd_words.specs.declared.fault.AccessKind.TheVariants.{Write}
use Rattle.iofd_words.specs.declared.fault.Fault.{Fault}
use Rattle.iofd_words.specs.declared.fault.FaultReason.{FaultReason}
use Rattle.iofd_words.specs.declared.fault.FaultReason.TheVariants.{ReadDenied, WriteDenied}
use Rattle.iofd_words.specs.declared.numbers.FrameNo.{FrameNo}
use Rattle.iofd_words.specs.declared.refusal.Cause.{Cause}
use Rattle.iofd_words.specs.declared.refusal.Cause.TheVariants as cause
use Rattle.iofd_words.specs.declared.reply.Reply.{Reply}
use Rattle.iofd_words.specs.declared.reply.Reply.TheVariants as reply
use Rattle.iofd_examples.proofs.Contained.{contained_in_one, contained_in_two}
use Rattle.iofd_examples.proofs.first_script.altered_scripts_are_no_runs.Goals as goal

never : false ≡ true → ⊥
never is = cc

-- answers that are not one
passed_or_denied : (frame : FrameNo) (fault : Fault) → reply.Passed frame ≡ reply.Fault fault → ⊥
passed_or_denied frame fault is = cc

passed_or_denied_too : (frame : FrameNo) (fault : Fault) → reply.Fault fault ≡ reply.Passed frame → ⊥
passed_or_denied_too frame fault is = cc

abbrev reason_in : Reply → FaultReason
reason_in (reply.Fault fault) = fault.reason
reason_in _ = ReadDenied

abbrev cause_in : Reply → Cause
cause_in (reply.Refused refusal) = refusal.cause
cause_in _ = cause.Id

other_reasons : (p q : ℕ) → reply.Fault (record {
  source = record { 0 = 0x18 };
  page = p;
  kind = Write;
  reason = WriteDenied;
}) ≡ reply.Fault (record {
  source = record { 0 = 0x18 };
  page = q;
  kind = Write;
  reason = ReadDenied;
}) → ⊥
other_reasons p q is = let reasons : WriteDenied ≡ ReadDenied = ap reason_in is in cc

other_causes : reply.Refused (record { cause = cause.Id }) ≡ reply.Refused (record { cause = cause.Align }) → ⊥
other_causes is = let causes : cause.Id ≡ cause.Align = ap cause_in is in cc

pub returns-clause-frame_again : goal.returns-clause-frame_again
unfolding IsRun Lawful after with_tables ioas_alloc_checks map_checks unmap_checks destroy_checks close_checks
    user_map_checks bind_checks attach_checks detach_checks flush_checks device_write_checks Answers changed settle
    without_areas attached detached outcomes access_outcomes number_at
returns-clause-frame_again c = λ run. never run.1.1.1.1.1.1.1.0.0

pub returns-clause-frame_beyond : goal.returns-clause-frame_beyond
unfolding IsRun Lawful after with_tables ioas_alloc_checks map_checks unmap_checks destroy_checks close_checks
    user_map_checks bind_checks attach_checks detach_checks flush_checks device_write_checks Answers changed settle
    without_areas attached detached outcomes access_outcomes number_at
returns-clause-frame_beyond c = λ run. never run.1.1.1.1.1.1.1.0.0

pub returns-clause-live_denied : goal.returns-clause-live_denied
unfolding IsRun Lawful after with_tables ioas_alloc_checks map_checks unmap_checks destroy_checks close_checks
    user_map_checks bind_checks attach_checks detach_checks flush_checks device_write_checks Answers changed settle
    without_areas attached detached outcomes access_outcomes number_at
returns-clause-live_denied c = λ run. let is = contained_in_one _ _ run.1.1.1.1.1.1.1.0.0 in cc

pub returns-clause-other_reason : goal.returns-clause-other_reason
unfolding IsRun Lawful after with_tables ioas_alloc_checks map_checks unmap_checks destroy_checks close_checks
    user_map_checks bind_checks attach_checks detach_checks flush_checks device_write_checks Answers changed settle
    without_areas attached detached outcomes access_outcomes number_at
returns-clause-other_reason c = λ run. elim (contained_in_two _ _ _ run.1.1.1.1.1.1.1.1.0.0)
    [ inl is ↦ passed_or_denied _ _ is | inr is ↦ other_reasons _ _ is ]

pub returns-clause-other_file : goal.returns-clause-other_file
unfolding IsRun Lawful after with_tables ioas_alloc_checks map_checks unmap_checks destroy_checks close_checks
    user_map_checks bind_checks attach_checks detach_checks flush_checks device_write_checks Answers changed settle
    without_areas attached detached outcomes access_outcomes number_at
returns-clause-other_file c = λ run. let last = run.1.1.1.1.1.1.1.0.0 in cc

pub returns-clause-too_early : goal.returns-clause-too_early
unfolding IsRun Lawful after with_tables ioas_alloc_checks map_checks unmap_checks destroy_checks close_checks
    user_map_checks bind_checks attach_checks detach_checks flush_checks device_write_checks Answers changed settle
    without_areas attached detached outcomes access_outcomes number_at
returns-clause-too_early c = λ run. let last = run.1.1.1.1.1.1.1.0.0.0 in cc

pub returns-clause-wrong_cause : goal.returns-clause-wrong_cause
unfolding IsRun Lawful after with_tables ioas_alloc_checks map_checks unmap_checks destroy_checks close_checks
    user_map_checks bind_checks attach_checks detach_checks flush_checks device_write_checks Answers changed settle
    without_areas attached detached outcomes access_outcomes number_at
returns-clause-wrong_cause c = λ run. other_causes run.1.1.1.1.1.1.1.0.0

-- beginning, the UNMAP and the flush, and then the write: the area is leaving, and the device owes nothing
pub returns-clause-flushed_passes : goal.returns-clause-flushed_passes
unfolding IsRun Lawful after with_tables ioas_alloc_checks map_checks unmap_checks destroy_checks close_checks
    user_map_checks bind_checks attach_checks detach_checks flush_checks device_write_checks Answers changed settle
    without_areas attached detached outcomes access_outcomes number_at
returns-clause-flushed_passes c = λ run. passed_or_denied_too _ _ (contained_in_one _ _ run.1.1.1.1.1.1.1.1.1.0.0)

pub returns-clause-users_frame : goal.returns-clause-users_frame
unfolding IsRun Lawful after with_tables ioas_alloc_checks map_checks unmap_checks destroy_checks close_checks
    user_map_checks bind_checks attach_checks detach_checks flush_checks device_write_checks Answers changed settle
    without_areas attached detached outcomes access_outcomes number_at
returns-clause-users_frame c = λ run. never run.1.1.1.1.1.0.1.free

pub returns-clause-too_few : goal.returns-clause-too_few
unfolding IsRun Lawful after with_tables ioas_alloc_checks map_checks unmap_checks destroy_checks close_checks
    user_map_checks bind_checks attach_checks detach_checks flush_checks device_write_checks Answers changed settle
    without_areas attached detached outcomes access_outcomes number_at
returns-clause-too_few c = λ run. let is = run.1.1.1.1.1.0.1.enough in cc

pub returns-clause-given_early : goal.returns-clause-given_early
unfolding IsRun Lawful after with_tables ioas_alloc_checks map_checks unmap_checks destroy_checks close_checks
    user_map_checks bind_checks attach_checks detach_checks flush_checks device_write_checks Answers changed settle
    without_areas attached detached outcomes access_outcomes number_at
returns-clause-given_early c = λ run. never run.1.1.1.1.1.1.1.0.1.may

pub returns-clause-table_kept : goal.returns-clause-table_kept
unfolding IsRun Lawful after with_tables ioas_alloc_checks map_checks unmap_checks destroy_checks close_checks
    user_map_checks bind_checks attach_checks detach_checks flush_checks device_write_checks Answers changed settle
    without_areas attached detached outcomes access_outcomes number_at
returns-clause-table_kept c = λ run. never run.1.1.1.1.1.1.1.0.1.gone
