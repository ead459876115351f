use Rattle.std.proofs.Common.{◌==◌, ◌&&◌, ◌||◌, get_or}
use Rattle.std.proofs.lemmas.List.{get_or_default}
use Rattle.std.specs.List.{list_any}
use Rattle.iofd_words.specs.Dirty.{reported_span}
use Rattle.iofd_words.specs.DirtyWords.{is_page_of}
use Rattle.journal_audit_world.specs.Keys.{has_number}
use Rattle.journal_audit_world.proofs.TrackedWords.{no_page_more, page_more}
use Rattle.journal_audit_world.proofs.tracked.add_asked.Goals as goal

pub loop-page-preserved : goal.loop-page-preserved
loop-page-preserved g c =
    let page = get_or c.args.pages.now c.loop-page.page-index 0 in
    page_more (reported_span c.args.request) c.args.pages.now c.loop-page.numbers c.add_if.new.self
    (λ n. has_number c.args.numbers.now n
    || (list_any (λ page. page == n) c.args.pages.now && is_page_of (reported_span c.args.request) n))
    c.loop-page.page-index page c.is_asked.result c.loop-page-test.true
    (get_or_default c.args.pages.now c.loop-page.page-index 0 page c.loop-page-test.true) c.is_asked.ensures
    c.in_ok-add_if.ensures c.loop-page.invariant

pub returns : goal.returns
returns g c =
    no_page_more (reported_span c.args.request) c.args.pages.now c.loop-page.numbers
    (λ n. has_number c.args.numbers.now n
    || (list_any (λ page. page == n) c.args.pages.now && is_page_of (reported_span c.args.request) n))
    c.loop-page.page-index c.loop-page-test.false c.loop-page.invariant
