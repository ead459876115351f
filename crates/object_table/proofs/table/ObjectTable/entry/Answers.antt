use Rattle.std.proofs.Common.{◌<◌, length, arith}
use Rattle.object_table.proofs.Tables.{outside_row_at, outside_own, row_at-inside, own-inside}
use Rattle.object_table.proofs.table.ObjectTable.entry.Goals as goal

pub returns-in_err-place-clause-at : goal.returns-in_err-place-clause-at
returns-in_err-place-clause-at g c =
    let files = c.self.inside.files in
    rw (← c.self.view_is, c.from_residual.ensures)
    (outside_row_at files.items c.args.file c.args.id (λ place is. omega (
      arith,
      files.ok.0,
      c.len.ensures,
      c.in_err-place.ensures place is,
    )))

pub returns-in_err-place-clause-own : goal.returns-in_err-place-clause-own
returns-in_err-place-clause-own g c =
    let files = c.self.inside.files in
    λ kind. rw (← c.self.view_is, c.from_residual.ensures)
    (outside_own files.items c.args.file g.V.Typed.kind kind c.args.id (λ place is. omega (
      arith,
      files.ok.0,
      c.len.ensures,
      c.in_err-place.ensures place is,
    )))

pub returns-clause-at : goal.returns-clause-at
returns-clause-at g c =
    let files = c.self.inside.files in
    let place = c.in_ok-place.ensures in
    let within : c.in_ok-place.place < length files.items = omega (arith, files.ok.0, c.len.ensures, place.1) in
    rw (← c.self.view_is, c.entry.ensures) (row_at-inside files.items c.args.file c.in_ok-place.place c.index.result.now
    place.0 within c.index.ensures c.args.id)

pub returns-clause-own : goal.returns-clause-own
returns-clause-own g c =
    let files = c.self.inside.files in
    let place = c.in_ok-place.ensures in
    let within : c.in_ok-place.place < length files.items = omega (arith, files.ok.0, c.len.ensures, place.1) in
    λ kind. rw (← c.self.view_is, c.entry.ensures)
    (own-inside files.items c.args.file c.in_ok-place.place c.index.result.now place.0 within
    c.index.ensures g.V.Typed.kind kind c.args.id)
