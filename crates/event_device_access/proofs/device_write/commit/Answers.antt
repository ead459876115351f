use Rattle.std.proofs.Common.{◌≡◌, ◌/◌, ◌%◌, IsTrue, List, ◌∷◌, length, ◌∙◌, ap, sym, subst, arith}
use Rattle.iofd_rows.proofs.Bools.{both_true}
use Rattle.iofd_runs.proofs.NotRefused.{write_passed}
use Rattle.iofd_steps.specs.After.{changed}
use Rattle.iofd_steps.specs.Answers.{Answers}
use Rattle.iofd_words.specs.Attachments.{attachment_of}
use Rattle.iofd_words.specs.Dirty.{marked_by}
use Rattle.iofd_words.specs.Policy.{Passes, fault_of, outcomes}
use Rattle.iofd_words.specs.View.{view}
use Rattle.iofd_words.specs.declared.event.Event.TheVariants as event
use Rattle.iofd_words.specs.declared.fault.AccessKind.TheVariants.{Write}
use Rattle.iofd_words.specs.declared.reply.Reply.TheVariants as reply
use Rattle.iofd_words.specs.declared.rows.Attachment.{Attachment}
use Rattle.event_device_access.proofs.DeviceWrites.{chosen_answer, pass_in_pool, pass_named, tables_written}
use Rattle.user_memory_rows.proofs.UserAccess.{short}
use Rattle.server_state.proofs.Errors.{on_err_same}
use Rattle.server_state.proofs.ViewShown.{same_outcomes}
use Rattle.server_state.specs.Leads.{leads_of}
use Rattle.server_state.specs.Shows.{DirtyShown, Shows}
use Rattle.server_state.specs.declared.state.State.{State}
use Rattle.frame_memory.specs.Pool.{written}
use Rattle.user_memory_rows.proofs.FramesFollow.{written_shown}
use Rattle.event_device_access.specs.FirstMark.{is_first_mark, is_pass}
use Rattle.event_device_access.specs.Outcomes.{chosen_outcome}
use Rattle.event_device_access.proofs.device_write.commit.Goals as goal

pub outcome-requires : goal.outcome-requires
outcome-requires g c =
    let known = c.requires.granted.granted in
    record { at = c.requires.at; world = known.world; tidy = known.tidy; shows = known.shows }

pub write-requires-clause-frame : goal.write-requires-clause-frame
write-requires-clause-frame g c =
    let known = c.requires.granted.granted in
    let w = known.world in
    let frame = c.in-Ok.frame in
    let iova = c.args.iova in
    let told : Passes c.in-Ok.frame ≡ chosen_outcome c.args.via (outcomes w c.args.device c.args.iova.0 Write) =
    c.in-Ok.ensures ∙ ap (chosen_outcome c.args.via) (same_outcomes w c.args.state.now known.shows
    known.tidy.tabled.owned c.args.device
    c.args.iova.0 Write)
    in
    let answer = chosen_answer c.requires.at w c.args.device iova c.args.via (Passes frame)
    known.tidy told c.requires.granted.may in
    let within = pass_in_pool w known.tidy.fit.pin_frames c.args.device iova.0 Write frame answer.0 in
    let size = known.shows.frames.size in
    let same : length c.mark.new.state.pool.holds ≡ length c.args.state.now.pool.holds =
    ap (λ (s : State g.row.A.Denot). length s.pool.holds) c.mark.ensures.others in
    omega (arith, within, size, same)

pub write-requires-clause-within : goal.write-requires-clause-within
write-requires-clause-within g c =
    let known = c.requires.granted.granted in
    let w = known.world in
    let iova = c.args.iova in
    let bytes = c.args.bytes.now in
    let passed = write_passed (view w) c.args.device iova bytes
    known.none in
    rw c.as_slice.ensures.value (short iova.0 (length bytes) passed.short).within

pub returns-in_ok-mark-in-Ok-clause-ok : goal.returns-in_ok-mark-in-Ok-clause-ok
unfolding changed Answers
returns-in_ok-mark-in-Ok-clause-ok g c = λ at w tidy shows none may.
    let frame = c.in-Ok.frame in
    let device = c.args.device in
    let iova = c.args.iova in
    let bytes = c.args.bytes.now in
    let told : Passes frame ≡ chosen_outcome c.args.via (outcomes w device iova.0 Write) =
    c.in-Ok.ensures ∙ ap (chosen_outcome c.args.via)
    (same_outcomes w c.args.state.now shows tidy.tabled.owned device iova.0 Write) in
    let answer = chosen_answer at w device iova c.args.via (Passes frame) tidy told may in
    let within = pass_in_pool w tidy.fit.pin_frames device iova.0 Write frame answer.0 in
    let within_page =
    (short iova.0 (length bytes) (write_passed (view w) device iova bytes none).short).within in
    let old = c.args.state.now in
    let dirty = c.mark.new.state.dirty in
    let same_pool : c.mark.new.state.pool ≡ old.pool = ap (λ (s : State g.row.A.Denot). s.pool) c.mark.ensures.others in
    let put : c.write.new.self ≡ written old.pool frame.0 (iova.0 % 4096) bytes =
    rw (c.as_slice.ensures.value, same_pool) at c.write.ensures.new in
    let named = pass_named w old shows device iova.0 Write frame answer.0 in
    let frames = written_shown w.settings.pool w.writes w.table_frames old.memory old.pool frame.0 (iova.0 % 4096) bytes
    shows.frames within within_page named in
    let marks : DirtyShown (marked_by (attachment_of w.attachments device) (iova.0 / 4096) w.tracked) dirty =
    subst (λ (l : List Attachment). DirtyShown (marked_by (attachment_of l device) (iova.0 / 4096) w.tracked) dirty)
    (sym shows.devices.attached) (c.in_ok-mark-in-Ok.ensures.marks w.tracked shows.dirty) in
    let shown : Shows (changed {A = g.row.A.Denot} at w (event.DeviceWrite device iova bytes) (reply.Passed frame))
    (record old { dirty = dirty; pool = c.write.new.self }) = record {
      settings = shows.settings;
      limits = shows.limits;
      allowed = shows.allowed;
      objects = shows.objects;
      devices = shows.devices;
      users = shows.users;
      pins = shows.pins;
      access_pins = shows.access_pins;
      dirty = marks;
      frames = rw put frames;
      tables = record {
        tables = shows.tables.tables;
        widths = shows.tables.widths;
        stand = rw put (tables_written w.settings.pool w.writes
            (record { frame = frame.0; offset = iova.0 % 4096; bytes = bytes } ∷ w.writes) w.table_frames (leads_of w)
            old.page_tables.tables old.memory old.pool frame.0 (iova.0 % 4096) bytes shows.tables.stand shows.frames
            frames named);
      };
    } in (
      answer.1,
      answer.2,
      subst (λ (s : State g.row.A.Denot).
          Shows (changed {A = g.row.A.Denot} at w (event.DeviceWrite device iova bytes) (reply.Passed frame))
          (record s { pool = c.write.new.self })) (sym c.mark.ensures.others) shown,
    )

pub returns-in-Err-clause-ok : goal.returns-in-Err-clause-ok
unfolding changed Answers
returns-in-Err-clause-ok g c = λ at w tidy shows none may.
    let iova = c.args.iova in
    let told = c.in-Err.ensures ∙ ap (chosen_outcome c.args.via)
    (same_outcomes w c.args.state.now shows tidy.tabled.owned c.args.device iova.0 Write) in
    let answer = chosen_answer at w c.args.device iova c.args.via _ tidy told may in
    let fault = c.fault_of.ensures ∙ ap (λ settings. fault_of settings c.args.device iova.0 Write c.in-Err.reason)
    (sym shows.settings) in
    (rw fault answer.1, rw fault answer.2, shows)

-- memory is wanting only where the write passes, and for the first mark among 64 pages
pub returns-in_err-mark-in-Ok-clause-lacking : goal.returns-in_err-mark-in-Ok-clause-lacking
returns-in_err-mark-in-Ok-clause-lacking g c = on_err_same c.from_residual.result _ (λ at w tidy shows.
    let device = c.args.device in
    let iova = c.args.iova in
    let told : Passes c.in-Ok.frame ≡ chosen_outcome c.args.via (outcomes w device iova.0 Write) =
    c.in-Ok.ensures ∙ ap (chosen_outcome c.args.via)
    (same_outcomes w c.args.state.now shows tidy.tabled.owned device iova.0 Write) in
    both_true _ _ (ap is_pass (sym told))
    (subst (λ (l : List Attachment). IsTrue (is_first_mark (attachment_of l device) (iova.0 / 4096) w.tracked))
    (sym shows.devices.attached) (c.in_err-mark-in-Ok.ensures.lacking w.tracked shows.dirty)))
