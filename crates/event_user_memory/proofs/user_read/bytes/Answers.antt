use Rattle.std.proofs.Common.{◌≡◌, ◌%◌, false, Option, Some, None, is_none, [], ◌∷◌, sym, ◌∙◌, ap, arith}
use Rattle.iofd_runs.proofs.NotRefused.{user_access_passed}
use Rattle.frame_memory.specs.Pool as pool
use Rattle.iofd_words.specs.Frames.{bytes_at, frame_at}
use Rattle.iofd_words.specs.Pages.{page_of}
use Rattle.iofd_words.specs.View.{view}
use Rattle.iofd_words.specs.declared.numbers.FrameNo.{FrameNo}
use Rattle.iofd_words.specs.declared.query.Answer.TheVariants as answer
use Rattle.user_memory_rows.proofs.UserAccess.{page_in_pool, short}
use Rattle.server_state.specs.Choice.{IsLooked}
use Rattle.user_memory_rows.proofs.FramesFollow.{read_shown}
use Rattle.event_user_memory.proofs.UsersNamed.{page_named}
use Rattle.event_user_memory.proofs.user_read.bytes.Goals as goal

pub read-requires-clause-frame : goal.read-requires-clause-frame
read-requires-clause-frame g c =
    let known = c.requires.known in
    let w = known.world in
    let found : frame_at w.user_pages c.args.user (page_of c.args.va) ≡ Some c.in-Some.frame =
    known.shows.users.pages c.args.user (page_of c.args.va) ∙ sym c.frame_at.ensures ∙ c.in-Some.is
    in
    let within = page_in_pool w known.tidy.fit.user_frames c.args.user (page_of c.args.va) c.in-Some.frame found in
    let size = known.shows.frames.size in
    omega (arith, within, size)

pub read-requires-clause-within : goal.read-requires-clause-within
read-requires-clause-within g c =
    let known = c.requires.known in
    let passed =
    user_access_passed (view known.world) c.args.user c.args.va c.args.len c.requires.none in
    let within = (short c.args.va c.args.len passed.short).within in
    let from = c.from.ensures in
    omega (arith, within, from)

-- the page is there
missing : {X : Type 0} (o : Option FrameNo) → is_none o ≡ false → o ≡ None → X
missing None is none = absurd cc
missing (Some frame) is none = absurd cc

pub unreachable-requires : goal.unreachable-requires
unreachable-requires g c =
    let known = c.requires.known in
    let w = known.world in
    missing (frame_at w.user_pages c.args.user (page_of c.args.va))
    (user_access_passed (view w) c.args.user c.args.va c.args.len c.requires.none).mapped
    (known.shows.users.pages c.args.user (page_of c.args.va) ∙ (sym c.frame_at.ensures ∙ c.in_default.is))

pub returns-clause-read : goal.returns-clause-read
returns-clause-read g c = λ at w records tidy shows none.
    let frame = c.in-Some.frame in
    let user = c.args.user in
    let va = c.args.va in
    let len = c.args.len in
    let found : frame_at w.user_pages user (page_of va) ≡ Some frame = shows.users.pages user (page_of va)
    ∙ sym c.frame_at.ensures ∙ c.in-Some.is in
    let within = page_in_pool w tidy.fit.user_frames user (page_of va) frame found in
    let size = short va len (user_access_passed (view w) user va len none).short in
    let named = page_named c.args.state.now.memory user (page_of va) frame (sym c.frame_at.ensures ∙ c.in-Some.is) in
    let bytes = read_shown w.settings.pool w.writes w.table_frames c.args.state.now.memory c.args.state.now.pool
    frame.0 (va % 4096) len shows.frames within size.within named in
    let told : c.read.result.now ≡ pool.bytes_at c.args.state.now.pool frame.0 (va % 4096) len =
    rw c.from.ensures at c.read.ensures.bytes in
    let is : c.read.result.now ≡ bytes_at w.writes frame.0 (va % 4096) len = told ∙ bytes in
    let alone : IsLooked (answer.Read (bytes_at w.writes frame.0 (va % 4096) len) ∷ [])
    (answer.Read c.read.result.now) = record {
      is_lawful =
          (0, omega arith, ap answer.Read (sym is));
      is_fault_else = λ has. cc;
    } in
    rw found alone

pub returns-clause-some : goal.returns-clause-some
returns-clause-some g c =
    let passed =
    user_access_passed (view c.requires.known.world) c.args.user c.args.va c.args.len c.requires.none in
    rw (c.read.ensures.len, c.from.ensures) (short c.args.va c.args.len passed.short).some

pub returns-clause-few : goal.returns-clause-few
returns-clause-few g c =
    let passed =
    user_access_passed (view c.requires.known.world) c.args.user c.args.va c.args.len c.requires.none in
    rw (c.read.ensures.len, c.from.ensures) (short c.args.va c.args.len passed.short).few
