use Rattle.std.proofs.Common.{◌≡◌, ◌%◌, true, false, Option, Some, None, is_none, ◌∷◌, length, ◌∙◌, ap, sym, arith}
use Rattle.frame_memory.specs.Pool.{written}
use Rattle.iofd_runs.proofs.NotRefused.{user_write_passed}
use Rattle.iofd_steps.specs.After.{changed}
use Rattle.iofd_steps.specs.Answers.{Answers}
use Rattle.iofd_words.specs.Frames.{frame_at}
use Rattle.iofd_words.specs.Pages.{page_of}
use Rattle.iofd_words.specs.View.{view}
use Rattle.iofd_words.specs.declared.numbers.FrameNo.{FrameNo}
use Rattle.user_memory_rows.proofs.UserAccess.{page_in_pool, short}
use Rattle.user_memory_rows.proofs.FramesFollow.{written_shown}
use Rattle.event_user_memory.proofs.UsersNamed.{page_named, tables_written}
use Rattle.server_state.specs.Leads.{leads_of}
use Rattle.event_user_memory.proofs.user_write.commit.Goals as goal

never : true ≡ false → ⊥
never is = cc

pub returns-in_default : goal.returns-in_default
returns-in_default g c = λ at w tidy shows none.
    let user = c.args.user in
    let va = c.args.va in
    let bytes = c.args.bytes.now in
    let told : frame_at c.args.state.now.memory.pages user (page_of va) ≡ None = sym c.frame_at.ensures
    ∙ c.in_default.is in
    let lost = shows.users.pages user (page_of va) ∙ told in
    let mapped = (user_write_passed (view w) user va bytes none).mapped in
    absurd (never (sym (ap (λ (o : Option FrameNo). is_none o) lost) ∙ mapped))

pub write-requires-clause-frame : goal.write-requires-clause-frame
write-requires-clause-frame g c =
    let known = c.requires.granted in
    let w = known.world in
    let found : frame_at w.user_pages c.args.user (page_of c.args.va) ≡ Some c.in-Some.frame =
    known.shows.users.pages c.args.user (page_of c.args.va) ∙ sym c.frame_at.ensures ∙ c.in-Some.is
    in
    let within = page_in_pool w known.tidy.fit.user_frames c.args.user (page_of c.args.va) c.in-Some.frame found in
    let size = known.shows.frames.size in
    omega (arith, within, size)

pub write-requires-clause-within : goal.write-requires-clause-within
write-requires-clause-within g c =
    let known = c.requires.granted in
    let w = known.world in
    let bytes = c.args.bytes.now in
    let passed = user_write_passed (view w) c.args.user c.args.va bytes
    known.none in
    rw c.as_slice.ensures.value (short c.args.va (length bytes) passed.short).within

pub returns-in-Some : goal.returns-in-Some
unfolding changed Answers
returns-in-Some g c = λ at w tidy shows none.
    let frame = c.in-Some.frame in
    let user = c.args.user in
    let va = c.args.va in
    let bytes = c.args.bytes.now in
    let old = c.args.state.now in
    let found : frame_at w.user_pages user (page_of va) ≡ Some frame = shows.users.pages user (page_of va)
    ∙ sym c.frame_at.ensures ∙ c.in-Some.is in
    let within = page_in_pool w tidy.fit.user_frames user (page_of va) frame found in
    let passed = user_write_passed (view w) user va bytes none in
    let in_page = (short va (length bytes) passed.short).within in
    let put : c.write.new.self ≡ written old.pool frame.0 (va % 4096) bytes =
    rw c.as_slice.ensures.value at c.write.ensures.new in
    let named = page_named old.memory user (page_of va) frame (sym c.frame_at.ensures ∙ c.in-Some.is) in
    let frames = written_shown w.settings.pool w.writes w.table_frames old.memory old.pool frame.0 (va % 4096) bytes
    shows.frames within in_page named in (
      tt,
      record {
        settings = shows.settings;
        limits = shows.limits;
        dirty = shows.dirty;
        allowed = shows.allowed;
        objects = shows.objects;
        devices = shows.devices;
        users = shows.users;
        pins = shows.pins;
        access_pins = shows.access_pins;
        frames = rw (put, found) frames;
        tables = record {
          tables = shows.tables.tables;
          widths = shows.tables.widths;
          stand = rw put (tables_written w.settings.pool w.writes
              (record { frame = frame.0; offset = va % 4096; bytes = bytes } ∷ w.writes) w.table_frames (leads_of w)
              old.page_tables.tables old.memory old.memory old.pool frame.0 shows.tables.stand shows.frames (va % 4096)
              bytes frames named);
        };
      },
    )
