use Rattle.std.proofs.Common.{◌+◌, ◌/◌, arith}
use Rattle.iofd_words.specs.Dirty.{is_marked, reported_span}
use Rattle.journal_audit_world.proofs.TrackedWords.{word_told, words_told}
use Rattle.journal_audit_world.proofs.tracked.words.Goals as goal

pub returns : goal.returns
returns g c =
    let marked = is_marked c.args.rows.now c.args.file c.args.request.hwpt in
    let span = reported_span c.args.request in
    let page = c.args.request.iova.0 / 4096 in
    let told = c.in_ok-pages.ensures in
    words_told marked span c.word.result c.word-2.result c.word-3.result c.word-4.result
    (word_told marked span c.in_ok-pages.pages page (page + 0) c.word.result (omega arith) told c.word.ensures)
    (word_told marked span c.in_ok-pages.pages (page + 64) (page + 64) c.word-2.result (omega arith) told
    c.word-2.ensures)
    (word_told marked span c.in_ok-pages.pages (page + 128) (page + 128) c.word-3.result (omega arith) told
    c.word-3.ensures)
    (word_told marked span c.in_ok-pages.pages (page + 192) (page + 192) c.word-4.result (omega arith) told
    c.word-4.ensures)
