use Rattle.std.proofs.Common.{◌<◌, length, arith, sym, ◌∙◌}
use Rattle.object_table.proofs.Keys.{IsInLimits-at, HaveIds-all, rows_left-all}
use Rattle.object_table.proofs.Tables.{outside_rows_of, rows_of-inside}
use Rattle.object_table.proofs.table.ObjectTable.iter.Goals as goal
use Rattle.object_table.proofs.table.ObjectTable.iter.Goals.{in-Some, in-None}

pub invariant_of-result : goal.invariant_of-result
invariant_of-result g c =
    let files = c.self.inside.files in
    elim c.match-place_of.branch [
      | in-Some w ↦
          let place = w.in-Some.ensures in
          let within : w.in-Some.place < length files.items = omega (arith, files.ok.0, c.len.ensures, place.1) in
          rw (w.left-is, w.iter-left.ensures) (HaveIds-all w.index.result.now
          (IsInLimits-at files.items w.in-Some.place w.index.result.now within
          w.index.ensures c.self.invariant))
      | in-None w ↦ rw w.left-is tt
    ]

pub returns : goal.returns
returns g c =
    let files = c.self.inside.files in
    elim c.match-place_of.branch [
      | in-Some w ↦
          let place = w.in-Some.ensures in
          let within : w.in-Some.place < length files.items = omega (arith, files.ok.0, c.len.ensures, place.1) in
          rw (w.left-is, w.iter-left.ensures, ← c.self.view_is) (rows_left-all c.args.file w.index.result.now
          ∙ sym (rows_of-inside files.items c.args.file w.in-Some.place w.index.result.now place.0
          within w.index.ensures))
      | in-None w ↦ rw (w.left-is, ← c.self.view_is)
          (sym (outside_rows_of files.items c.args.file (λ place is. omega (
            arith,
            files.ok.0,
            c.len.ensures,
            w.in-None.ensures place is,
          ))))
    ]
