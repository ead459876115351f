use Rattle.std.proofs.Common.{◌^◌, leb, ltb, arith}
use Rattle.std.proofs.lemmas.Bool.Decides.{nat_tests}
use Rattle.iofd_words.specs.Pages.{is_whole}
use Rattle.iofd_steps.specs.Run.{world_of}
use Rattle.iofd_words.specs.Span.{size_of}
use Rattle.iofd_rows.proofs.Bools.{and_true}
use Rattle.iofd_rows.proofs.Each.{of_each}
use Rattle.iofd_runs.specs.Fits.{begins_at_page, is_of_pages}
use Rattle.iofd_promises.proofs.Facts.{fits_of}
use Rattle.iofd_promises.proofs.Rows.{within}
use Rattle.iofd_promises.proofs.Spans.{bounded_of, is_bounded}
use Rattle.iofd_promises.proofs.limits.areas_lie_below_2_to_the_64.Goals as goal

pub returns : goal.returns
returns g c = λ settings records area run has.
    let w = world_of settings records in
    let there = within w.areas area has in
    let fits = fits_of settings records run in
    let start = of_each begins_at_page w.areas area fits.starts there in
    let ends = and_true (leb area.span.first area.span.last) (ltb area.span.last (2 ^ 64))
    (of_each is_bounded w.areas area (bounded_of settings records run) there) in
    let pages = and_true (is_whole (size_of area.span)) (leb (size_of area.span) (2 ^ 48))
    (of_each is_of_pages w.areas area fits.pages there) in
    record {
      first = search (start, arith, nat_tests);
      some = search (ends.0, arith, nat_tests);
      pages = search (pages.0, arith, nat_tests);
      last = search (ends.1, arith, nat_tests);
    }
