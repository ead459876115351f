use Rattle.std.proofs.Common.{sym, not, arith}
use Rattle.iofd_words.specs.Allowed.{AllowedRanges, is_allowed_in}
use Rattle.iova_ranges.proofs.AllowedRows.{at_answer, found_fewer, no_more, none_found}
use Rattle.iova_ranges.proofs.allowed_ranges.reserve_for.Goals as goal

pub returns-then-has_row-clause-ok : goal.returns-then-has_row-clause-ok
returns-then-has_row-clause-ok g c =
    let fewer = found_fewer (is_allowed_in c.args.file c.args.ioas) c.args.rows.now.items
    (sym (rw c.deref.ensures.value at c.if-has_row.ensures)) in
    omega (arith, fewer)

pub returns-then-is_err-clause-memory : goal.returns-then-is_err-clause-memory
returns-then-is_err-clause-memory g c =
    none_found (is_allowed_in c.args.file c.args.ioas) c.args.rows.now.items
    (sym (rw c.deref.ensures.value at c.if-has_row.ensures))

pub returns-clause-ok : goal.returns-clause-ok
returns-clause-ok g c =
    let most = no_more (λ (row : AllowedRanges). not (is_allowed_in c.args.file c.args.ioas row))
    c.args.rows.now.items in
    let room = at_answer c.reserve.result (sym c.if-is_err.ensures.value) c.reserve.ensures.ok in
    omega (arith, most, room, c.reserve.ensures.len)
