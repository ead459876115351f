use Rattle.std.proofs.Common.{◌≡◌, ◌%◌, Some, None, ◌∷◌, length, ◌∙◌, sym, arith}
use Rattle.access_pins.proofs.HeldFrames.{frame_alike, frame_in_pool, frame_named, tables_written}
use Rattle.frame_memory.specs.Pool.{written}
use Rattle.iofd_runs.proofs.AccessesPassed.{access_write_passed}
use Rattle.iofd_words.specs.Accesses.{accessed_frame}
use Rattle.iofd_steps.specs.After.{changed}
use Rattle.iofd_steps.specs.Answers.{Answers}
use Rattle.iofd_words.specs.View.{view}
use Rattle.server_state.specs.Leads.{leads_of}
use Rattle.server_state.specs.Seen.{seen}
use Rattle.user_memory_rows.proofs.FramesFollow.{written_shown}
use Rattle.user_memory_rows.proofs.UserAccess.{short}
use Rattle.access_pins.proofs.write.commit.Goals as goal

pub write-requires-clause-frame : goal.write-requires-clause-frame
write-requires-clause-frame g c =
    let known = c.requires.granted in
    let within = frame_in_pool c.requires.at known.world c.args.state.now known.tidy known.shows c.args.file c.args.id
    c.args.iova.0 c.in-Some.frame (sym c.in-Some.is ∙ c.frame_at.ensures) in
    let size = known.shows.frames.size in
    omega (arith, within, size)

pub write-requires-clause-within : goal.write-requires-clause-within
write-requires-clause-within g c =
    let known = c.requires.granted in
    let bytes = c.args.bytes.now in
    let passed = access_write_passed (view known.world) c.args.file c.args.id c.args.iova bytes known.none in
    rw c.as_slice.ensures.value (short c.args.iova.0 (length bytes) passed.short).within

-- where there were no frame, no byte would change
pub returns-in_default : goal.returns-in_default
unfolding changed Answers
returns-in_default g c = λ at w tidy shows none.
    let s = c.args.state.now in
    let told : accessed_frame (view w) c.args.file c.args.id c.args.iova.0 ≡ None =
    sym (frame_alike at w s tidy shows c.args.file c.args.id c.args.iova.0) ∙ sym c.frame_at.ensures ∙ c.in_default.is
    in
    (tt, rw told shows)

pub returns-in-Some : goal.returns-in-Some
unfolding changed Answers
returns-in-Some g c = λ at w tidy shows none.
    let frame = c.in-Some.frame in
    let address = c.args.iova.0 in
    let bytes = c.args.bytes.now in
    let old = c.args.state.now in
    let is : Some frame ≡ accessed_frame (seen old) c.args.file c.args.id address = sym c.in-Some.is
    ∙ c.frame_at.ensures in
    let found : accessed_frame (view w) c.args.file c.args.id address ≡ Some frame =
    sym (frame_alike at w old tidy shows c.args.file c.args.id address) ∙ sym is in
    let within = frame_in_pool at w old tidy shows c.args.file c.args.id address frame is in
    let named = frame_named at w old tidy shows c.args.file c.args.id address frame is in
    let in_page = (short address (length bytes)
    (access_write_passed (view w) c.args.file c.args.id c.args.iova bytes none).short).within in
    let put : c.write.new.self ≡ written old.pool frame.0 (address % 4096) bytes =
    rw c.as_slice.ensures.value at c.write.ensures.new in
    let frames = written_shown w.settings.pool w.writes w.table_frames old.memory old.pool frame.0 (address % 4096)
    bytes shows.frames within in_page named in (
      tt,
      record {
        settings = shows.settings;
        limits = shows.limits;
        dirty = shows.dirty;
        allowed = shows.allowed;
        objects = shows.objects;
        devices = shows.devices;
        users = shows.users;
        pins = shows.pins;
        access_pins = shows.access_pins;
        frames = rw (put, found) frames;
        tables = record {
          tables = shows.tables.tables;
          widths = shows.tables.widths;
          stand = rw put (tables_written w.settings.pool w.writes
              (record { frame = frame.0; offset = address % 4096; bytes = bytes } ∷ w.writes) w.table_frames
              (leads_of w) old.page_tables.tables old.memory old.pool frame.0 (address % 4096) bytes
              shows.tables.stand shows.frames frames named);
        };
      },
    )
