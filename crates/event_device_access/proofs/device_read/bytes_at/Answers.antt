use Rattle.std.proofs.Common.{◌≡◌, ◌%◌, true, sym, ◌∙◌, ap, subst, arith}
use Rattle.std.specs.List.{list_any}
use Rattle.frame_memory.specs.Pool as pool
use Rattle.iofd_words.specs.Frames.{bytes_at}
use Rattle.iofd_words.specs.Policy.{is_pass_at, outcomes}
use Rattle.iofd_words.specs.View.{view}
use Rattle.iofd_words.specs.declared.fault.AccessKind.TheVariants.{Read}
use Rattle.iofd_steps.specs.Look.{lawful_answers, query_checks}
use Rattle.iofd_words.specs.declared.query.Answer.TheVariants as answer
use Rattle.iofd_words.specs.declared.query.Query.TheVariants as query
use Rattle.server_state.specs.Choice.{IsLooked}
use Rattle.iofd_runs.proofs.PassFound.{pass_found}
use Rattle.iofd_runs.proofs.Runs.{tests_false}
use Rattle.event_device_access.proofs.DeviceReads.{cached_read}
use Rattle.event_device_access.proofs.DeviceWrites.{pass_in_pool, pass_named}
use Rattle.user_memory_rows.proofs.UserAccess.{short}
use Rattle.server_state.proofs.ViewShown.{same_outcomes}
use Rattle.user_memory_rows.proofs.FramesFollow.{read_shown}
use Rattle.event_device_access.proofs.device_read.bytes_at.Goals as goal

pub read-requires-clause-frame : goal.read-requires-clause-frame
read-requires-clause-frame g c =
    let known = c.requires.asked.known in
    let w = known.world in
    let passes : list_any (is_pass_at c.args.frame) (outcomes w c.args.device c.args.iova.0 Read) ≡ true =
    sym (ap (list_any (is_pass_at c.args.frame)) (same_outcomes w c.args.state.now known.shows
    known.tidy.tabled.owned c.args.device c.args.iova.0 Read)) ∙ c.requires.passes in
    let within = pass_in_pool w known.tidy.fit.pin_frames c.args.device c.args.iova.0 Read c.args.frame
    (pass_found c.args.frame (outcomes w c.args.device c.args.iova.0 Read) passes) in
    let size = known.shows.frames.size in
    omega (arith, within, size)

pub read-requires-clause-within : goal.read-requires-clause-within
read-requires-clause-within g c =
    let w = c.requires.asked.known.world in
    let size = short c.args.iova.0 c.args.len (tests_false (query_checks (view w)
    (query.CachedRead c.args.device c.args.iova c.args.len c.args.frame)) 1 c.requires.asked.none) in
    rw c.from.ensures size.within

pub returns-clause-read : goal.returns-clause-read
returns-clause-read g c = λ at w records tidy shows none.
    let iova = c.args.iova in
    let frame = c.args.frame in
    let size = short iova.0 c.args.len (tests_false
    (query_checks (view w) (query.CachedRead c.args.device iova c.args.len frame)) 1 none) in
    let passes : list_any (is_pass_at frame) (outcomes w c.args.device iova.0 Read) ≡ true =
    sym (ap (list_any (is_pass_at frame)) (same_outcomes w c.args.state.now shows tidy.tabled.owned c.args.device
    iova.0 Read)) ∙ c.requires.passes in
    let has = pass_found frame (outcomes w c.args.device iova.0 Read) passes in
    let within = pass_in_pool w tidy.fit.pin_frames c.args.device iova.0 Read frame has in
    let bytes = read_shown w.settings.pool w.writes w.table_frames c.args.state.now.memory c.args.state.now.pool
    frame.0 (iova.0 % 4096) c.args.len shows.frames within size.within
    (pass_named w c.args.state.now shows c.args.device iova.0 Read frame has) in
    let told : c.read.result.now ≡ pool.bytes_at c.args.state.now.pool frame.0 (iova.0 % 4096) c.args.len =
    rw c.from.ensures at c.read.ensures.bytes in
    let is : c.read.result.now ≡ bytes_at w.writes frame.0 (iova.0 % 4096) c.args.len = told ∙ bytes in
    subst (λ b. IsLooked
    (lawful_answers w records (query.CachedRead c.args.device iova c.args.len frame)) (answer.Read b))
    (sym is) (cached_read w c.args.device iova c.args.len frame passes)

pub returns-clause-some : goal.returns-clause-some
returns-clause-some g c =
    let size = short c.args.iova.0 c.args.len (tests_false (query_checks (view c.requires.asked.known.world)
    (query.CachedRead c.args.device c.args.iova c.args.len c.args.frame)) 1 c.requires.asked.none) in
    rw (c.read.ensures.len, c.from.ensures) size.some

pub returns-clause-few : goal.returns-clause-few
returns-clause-few g c =
    let size = short c.args.iova.0 c.args.len (tests_false (query_checks (view c.requires.asked.known.world)
    (query.CachedRead c.args.device c.args.iova c.args.len c.args.frame)) 1 c.requires.asked.none) in
    rw (c.read.ensures.len, c.from.ensures) size.few
