use Rattle.std.proofs.Common.{◌≤◌, ◌<◌, ℕ, Bool, true, false, cond, length, arith, sym, ◌∙◌}
use Rattle.object_table.proofs.Keys.{IsInLimits-at}
use Rattle.object_table.proofs.Tables.{count-inside, outside_rows_of}
use Rattle.object_table.proofs.table.ObjectTable.count.Goals as goal

pub returns-in-Some-clause-count : goal.returns-in-Some-clause-count
returns-in-Some-clause-count g c =
    let files = c.self.inside.files in
    let place = c.in-Some.ensures in
    let within : c.in-Some.place < length files.items = omega (arith, files.ok.0, c.len.ensures, place.1) in
    rw (← c.self.view_is) (c.count.ensures
    ∙ sym (count-inside files.items c.args.file c.in-Some.place c.index.result.now place.0
    within c.index.ensures))

pub returns-in-None-clause-count : goal.returns-in-None-clause-count
returns-in-None-clause-count g c =
    let files = c.self.inside.files in
    rw (
      ← c.self.view_is,
      outside_rows_of files.items c.args.file
          (λ place is. omega (arith, files.ok.0, c.len.ensures, c.in-None.ensures place is)),
    )

pub returns-in-Some-clause-few : goal.returns-in-Some-clause-few
returns-in-Some-clause-few g c =
    let files = c.self.inside.files in
    let place = c.in-Some.ensures in
    let within : c.in-Some.place < length files.items = omega (arith, files.ok.0, c.len.ensures, place.1) in
    let fits = IsInLimits-at files.items c.in-Some.place c.index.result.now within c.index.ensures c.self.invariant in
    rw c.count.ensures (at_most c.index.result.now.is_open fits.count)
  where
    at_most : {n : ℕ} (b : Bool) → n ≤ 65535 → cond b n 0 ≤ 65535
    at_most true few = few
    at_most false few = omega arith
