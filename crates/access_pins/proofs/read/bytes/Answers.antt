use Rattle.std.proofs.Common.{◌≡◌, ◌%◌, true, Option, Some, None, is_some, [], ◌∷◌, sym, ◌∙◌, ap, arith}
use Rattle.access_pins.proofs.HeldFrames.{frame_alike, frame_in_pool, frame_named, has_frame}
use Rattle.iofd_runs.proofs.AccessesPassed.{held_access_passed}
use Rattle.iofd_words.specs.Accesses.{accessed_frame}
use Rattle.frame_memory.specs.Pool as pool
use Rattle.iofd_words.specs.Frames.{bytes_at}
use Rattle.iofd_words.specs.View.{view}
use Rattle.iofd_words.specs.declared.fault.AccessKind.TheVariants.{Read}
use Rattle.iofd_words.specs.declared.numbers.FrameNo.{FrameNo}
use Rattle.iofd_words.specs.declared.query.Answer.TheVariants as answer
use Rattle.server_state.specs.Choice.{IsLooked}
use Rattle.server_state.specs.Seen.{seen}
use Rattle.user_memory_rows.proofs.FramesFollow.{read_shown}
use Rattle.user_memory_rows.proofs.UserAccess.{short}
use Rattle.access_pins.proofs.read.bytes.Goals as goal

pub read-requires-clause-frame : goal.read-requires-clause-frame
read-requires-clause-frame g c =
    let known = c.requires.known in
    let within = frame_in_pool known.at known.world c.args.state.now known.tidy known.shows c.args.file c.args.access
    c.args.iova.0 c.in-Some.frame (sym c.in-Some.is ∙ c.frame_at.ensures) in
    let size = known.shows.frames.size in
    omega (arith, within, size)

pub read-requires-clause-within : goal.read-requires-clause-within
read-requires-clause-within g c =
    let passed = held_access_passed (view c.requires.known.world) c.args.file c.args.access c.args.iova c.args.len Read
    c.requires.none in
    let within = (short c.args.iova.0 c.args.len passed.short).within in
    let from = c.from.ensures in
    omega (arith, within, from)

-- there is a frame
missing : {X : Type 0} (o : Option FrameNo) → is_some o ≡ true → o ≡ None → X
missing None some none = cc
missing (Some frame) some none = absurd cc

pub unreachable-requires : goal.unreachable-requires
unreachable-requires g c =
    let known = c.requires.known in
    let s = c.args.state.now in
    let passed = held_access_passed (view known.world) c.args.file c.args.access c.args.iova c.args.len Read
    c.requires.none in
    missing (accessed_frame (seen s) c.args.file c.args.access c.args.iova.0)
    (has_frame known.at known.world s known.tidy known.shows c.args.file c.args.access c.args.iova.0 passed.held)
    (sym c.frame_at.ensures ∙ c.in_default.is)

pub returns-clause-read : goal.returns-clause-read
returns-clause-read g c = λ at w records tidy shows none.
    let s = c.args.state.now in
    let frame = c.in-Some.frame in
    let address = c.args.iova.0 in
    let len = c.args.len in
    let is : Some frame ≡ accessed_frame (seen s) c.args.file c.args.access address = sym c.in-Some.is
    ∙ c.frame_at.ensures in
    let found : accessed_frame (view w) c.args.file c.args.access address ≡ Some frame =
    sym (frame_alike at w s tidy shows c.args.file c.args.access address) ∙ sym is in
    let within = frame_in_pool at w s tidy shows c.args.file c.args.access address frame is in
    let named = frame_named at w s tidy shows c.args.file c.args.access address frame is in
    let size = short address len
    (held_access_passed (view w) c.args.file c.args.access c.args.iova len Read none).short in
    let bytes = read_shown w.settings.pool w.writes w.table_frames s.memory s.pool frame.0 (address % 4096) len
    shows.frames within size.within named in
    let told : c.read.result.now ≡ pool.bytes_at s.pool frame.0 (address % 4096) len =
    rw c.from.ensures at c.read.ensures.bytes in
    let same : c.read.result.now ≡ bytes_at w.writes frame.0 (address % 4096) len = told ∙ bytes in
    let alone : IsLooked (answer.Read (bytes_at w.writes frame.0 (address % 4096) len) ∷ [])
    (answer.Read c.read.result.now) = record {
      is_lawful =
          (0, omega arith, ap answer.Read (sym same));
      is_fault_else = λ has. cc;
    } in
    rw found alone

pub returns-clause-some : goal.returns-clause-some
returns-clause-some g c =
    let passed = held_access_passed (view c.requires.known.world) c.args.file c.args.access c.args.iova c.args.len Read
    c.requires.none in
    rw (c.read.ensures.len, c.from.ensures) (short c.args.iova.0 c.args.len passed.short).some

pub returns-clause-few : goal.returns-clause-few
returns-clause-few g c =
    let passed = held_access_passed (view c.requires.known.world) c.args.file c.args.access c.args.iova c.args.len Read
    c.requires.none in
    rw (c.read.ensures.len, c.from.ensures) (short c.args.iova.0 c.args.len passed.short).few
