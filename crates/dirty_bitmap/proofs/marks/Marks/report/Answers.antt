use Rattle.std.proofs.Common.{◌/◌, ap, arith}
use Rattle.dirty_bitmap.specs.Marks.{is_marked}
use Rattle.dirty_bitmap.proofs.Reports.{word_is, words_are}
use Rattle.dirty_bitmap.proofs.marks.Marks.report.Goals as goal

pub returns : goal.returns
returns g c =
    let marked = is_marked c.args.self.now in
    let span = c.args.span in
    let last_is = ap (λ n. n / 4096) c.last-last.ensures.value in
    let first_is = c.first-first.ensures.value in
    words_are marked span _ _ _ _
    (word_is marked span _ _ _ _ _ _ _ c.joined.result last_is (omega (arith, first_is)) (omega arith) (omega arith)
    (omega arith) (omega arith) c.word_up_to.ensures c.word_up_to-2.ensures c.joined.ensures)
    (word_is marked span _ _ _ _ _ _ _ c.joined-2.result last_is (omega (arith, first_is)) (omega arith) (omega arith)
    (omega arith) (omega arith) c.word_up_to-2.ensures c.word_up_to-3.ensures c.joined-2.ensures)
    (word_is marked span _ _ _ _ _ _ _ c.joined-3.result last_is (omega (arith, first_is)) (omega arith) (omega arith)
    (omega arith) (omega arith) c.word_up_to-3.ensures c.word_up_to-4.ensures c.joined-3.ensures)
    (word_is marked span _ _ _ _ _ _ _ c.joined-4.result last_is (omega (arith, first_is)) (omega arith) (omega arith)
    (omega arith) (omega arith) c.word_up_to-4.ensures c.word_up_to-5.ensures c.joined-4.ensures)
