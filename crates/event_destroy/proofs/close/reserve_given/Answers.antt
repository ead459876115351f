use Rattle.std.proofs.Common.{◌≡◌, true, false, ⊎_elim, arith}
use Rattle.std.proofs.lemmas.Bool.{cases_Bool}
use Rattle.server_state.proofs.Errors.{on_err_same}
use Rattle.server_state.proofs.PageTables.{none_of_file_kept}
use Rattle.server_state.specs.Held.{objects_in}
use Rattle.server_state.specs.Leads.{leads_of}
use Rattle.server_state.specs.Tables.{has_page_tables}
use Rattle.event_destroy.proofs.close.reserve_given.Goals as goal

pub returns-clause-room : goal.returns-clause-room
returns-clause-room g c = λ frames leads stand.
    let count = c.frames_of-count.ensures frames leads stand in
    let room = c.in_ok-reserve.ensures.ok in
    omega (arith, count, room)

-- there is always room for none
pub returns-in_err-reserve-clause-memory : goal.returns-in_err-reserve-clause-memory
returns-in_err-reserve-clause-memory g c =
    let has = has_page_tables (objects_in c.args.state.now.objects) c.args.file in
    let w = c.requires.world in
    let count = c.frames_of-count.ensures w.table_frames (leads_of w) c.requires.shows.tables.stand in
    let full = c.in_err-reserve.ensures.full in
    let room = c.args.given.now.ok in
    on_err_same c.from_residual.result _
    (⊎_elim (λ (is : has ≡ true). is)
    (λ (none : has ≡ false).
    let zero : c.frames_of-count.result ≡ 0 =
    rw (none_of_file_kept c.args.state.now c.requires c.args.file none) at count in
    absurd (omega (arith, zero, full, room)))
    (cases_Bool has))
