use Rattle.std.proofs.Common.{◌≡◌, ◌+◌, ◌-◌, ℕ, true, false, ap, ◌∙◌, arith}
use Rattle.std.specs.List.{count_by, range_with_len}
use Rattle.iofd_words.specs.Levels.{levels_of}
use Rattle.page_table_words.specs.Needed.{first_page, is_absent}
use Rattle.page_table_words.proofs.Needs.{absent_above, absent_more, first_below, present_from}
use Rattle.page_table_words.proofs.Tops.{page_fits}
use Rattle.page_table.proofs.table.Table.absent_between.Goals as goal
use Rattle.page_table.proofs.table.Table.absent_between.Goals.{then-lowest-level, else-lowest-level}

pub first_page-requires-clause-fits : goal.first_page-requires-clause-fits
first_page-requires-clause-fits g c =
    page_fits c.args.self.now.width (first_page c.args.level c.loop-number.number)
    (first_below c.args.self.now.width c.args.level c.loop-number.number (omega arith) (omega arith))

pub lowest-requires-clause-below : goal.lowest-requires-clause-below
lowest-requires-clause-below g c =
    rw c.first_page.ensures (first_below c.args.self.now.width c.args.level c.loop-number.number
    (omega arith) (omega arith))

pub loop-number-preserved : goal.loop-number-preserved
loop-number-preserved g c =
    let levels = levels_of c.args.self.now.width in
    let root = c.args.self.now.root in
    elim c.if-lowest-level.branch [
      | then-lowest-level w ↦ record {
        small = omega arith;
        absent = λ rows pages stands.
            w.total-is
            ∙ absent_more (is_absent rows c.args.level) c.args.first c.loop-number.number c.loop-number.total
            (omega arith) (c.loop-number.invariant.absent rows pages stands) true
            (absent_above c.args.pool.now levels root rows pages stands c.args.level c.lowest.result.level
            c.loop-number.number c.lowest.result.frame
            (rw c.first_page.ensures at (c.lowest.ensures.lowest rows pages stands)) c.requires.some
            w.if-lowest-level.true);
      }
      | else-lowest-level w ↦ record {
        small = omega arith;
        absent = λ rows pages stands.
            w.total-is ∙ (let same : c.loop-number.total ≡ c.loop-number.total + 0 = omega arith in same)
            ∙ absent_more (is_absent rows c.args.level) c.args.first c.loop-number.number c.loop-number.total
            (omega arith) (c.loop-number.invariant.absent rows pages stands) false
            (present_from c.args.pool.now levels root rows pages stands c.args.level c.lowest.result.level
            c.loop-number.number c.lowest.result.frame
            (rw c.first_page.ensures at (c.lowest.ensures.lowest rows pages stands)) c.requires.some
            w.if-lowest-level.false (omega arith));
      }
    ]

pub returns-clause-absent : goal.returns-clause-absent
returns-clause-absent g c = λ rows pages stands.
    let end : c.loop-number.number ≡ c.args.end = omega arith in
    c.loop-number.invariant.absent rows pages stands
    ∙ ap (λ (n : ℕ). count_by (is_absent rows c.args.level) (range_with_len c.args.first (n - c.args.first))) end
