use Rattle.std.proofs.Common.{◌≡◌, ◌+◌, ◌-◌, ◌≤◌, ℕ, take, max, sym, ap, ◌∙◌, arith}
use Rattle.std.specs.List.{list_any}
use Rattle.std.proofs.lemmas.Bool.{false≢true}
use Rattle.std.proofs.lemmas.List.{take_all}
use Rattle.iofd_words.specs.Pages.{page_of}
use Rattle.iofd_words.specs.Levels.{levels_of, number_at}
use Rattle.page_table_words.specs.Needed.{goes_through, needed_at}
use Rattle.page_table_words.proofs.Needs.{before_more, bound, first_within, needed_more, next_is, next_number}
use Rattle.page_table_words.proofs.Needs.{nothing_needed, number_below, number_grows, overlaps, reached_more}
use Rattle.page_table_words.proofs.Needs.{span_below}
use Rattle.page_table.proofs.table.Table.needs_at.Goals as goal

pub loop-span-init : goal.loop-span-init
loop-span-init g c = record {
  small = omega arith;
  first = λ zero. zero;
  next = λ k d last. absurd (omega (arith, last));
  reached = λ some. absurd (omega (arith, some));
  before = λ number any. absurd (false≢true any);
  bound = omega arith;
  needed = λ rows pages stands. sym (nothing_needed rows (levels_of c.args.self.now.width) c.args.level);
}

pub overflow_add-next : goal.overflow_add-next
overflow_add-next g c = omega (
  arith,
  bound c.args.self.now.width c.args.level c.args.spans.now c.loop-span.span-index
      c.span-item.result c.requires.spans c.loop-span-test.true c.span-item.is,
  next_number c.args.level c.number-next.result c.last.result c.span-item.result.last
      c.number-next.ensures c.last.ensures.value,
)

pub absent_between-total-requires-clause-order : goal.absent_between-total-requires-clause-order
absent_between-total-requires-clause-order g c =
    let span = c.span-item.result in
    let level = c.args.level in
    let first = next_number level c.number.result c.first.result span.first c.number.ensures c.first.ensures.value in
    let last =
    next_number level c.number-next.result c.last.result span.last c.number-next.ensures c.last.ensures.value in
    let within = first_within level c.args.spans.now c.loop-span.span-index c.loop-span.next span c.loop-span-test.true
    c.span-item.is c.requires.spans.rising c.loop-span.invariant.first c.loop-span.invariant.next in
    let grows =
    number_grows level span.first span.last (omega (arith, c.first.ensures.value, c.first.ensures.ordered)) in
    omega (arith, c.max-first.ensures, first, last, within, grows)

pub absent_between-total-requires-clause-end : goal.absent_between-total-requires-clause-end
absent_between-total-requires-clause-end g c =
    let last = next_number c.args.level c.number-next.result c.last.result c.span-item.result.last
    c.number-next.ensures c.last.ensures.value in
    let below = number_below c.args.self.now.width c.args.level c.span-item.result.last (omega arith)
    (span_below c.args.self.now.width c.args.spans.now c.loop-span.span-index c.span-item.result c.requires.spans
    c.loop-span-test.true c.span-item.is) in
    omega (arith, last, below)

pub overflow_add-total : goal.overflow_add-total
overflow_add-total g c =
    let span = c.span-item.result in
    let level = c.args.level in
    let first = next_number level c.number.result c.first.result span.first c.number.ensures c.first.ensures.value in
    let last =
    next_number level c.number-next.result c.last.result span.last c.number-next.ensures c.last.ensures.value in
    let within = first_within level c.args.spans.now c.loop-span.span-index c.loop-span.next span c.loop-span-test.true
    c.span-item.is c.requires.spans.rising c.loop-span.invariant.first c.loop-span.invariant.next in
    let grows =
    number_grows level span.first span.last (omega (arith, c.first.ensures.value, c.first.ensures.ordered)) in
    let small = bound c.args.self.now.width level c.args.spans.now c.loop-span.span-index span c.requires.spans
    c.loop-span-test.true c.span-item.is in
    omega (
      arith,
      c.absent_between-total.ensures.small,
      c.loop-span.invariant.small,
      c.max-first.ensures,
      first,
      last,
      within,
      grows,
      small,
    )

pub loop-span-preserved : goal.loop-span-preserved
loop-span-preserved g c =
    let span = c.span-item.result in
    let level = c.args.level in
    let spans = c.args.spans.now in
    let index = c.loop-span.span-index in
    let next = c.loop-span.next in
    let inv = c.loop-span.invariant in
    let first = next_number level c.number.result c.first.result span.first c.number.ensures c.first.ensures.value in
    let last =
    next_number level c.number-next.result c.last.result span.last c.number-next.ensures c.last.ensures.value in
    let ordered : span.first ≤ span.last = omega (arith, c.first.ensures.value, c.first.ensures.ordered) in
    let within = first_within level spans index next span c.loop-span-test.true c.span-item.is
    c.requires.spans.rising inv.first inv.next in
    let grows = number_grows level span.first span.last ordered in
    let small =
    bound c.args.self.now.width level spans index span c.requires.spans c.loop-span-test.true c.span-item.is in
    let minus : c.number-next.result + 1 - 1 ≡ number_at level (page_of span.last) = omega (arith, last) in
    record {
      small = omega (
        arith,
        c.absent_between-total.ensures.small,
        inv.small,
        c.max-first.ensures,
        first,
        last,
        within,
        grows,
      );
      first = λ zero. absurd (omega (arith, zero));
      next = λ k d same. ap (λ (n : ℕ). n + 1) last
          ∙ next_is level spans index next span c.loop-span-test.true c.span-item.is c.requires.spans.rising
          inv.first inv.next k d same;
      reached = λ some. ap (λ (n : ℕ). list_any (goes_through level n) (take (index + 1) spans)) minus
          ∙ reached_more level spans index next span c.loop-span-test.true c.span-item.is c.requires.spans.rising
          inv.first inv.next ordered;
      before = λ number any. omega (
        arith,
        last,
        before_more level spans index next span c.loop-span-test.true c.span-item.is c.requires.spans.rising
            inv.first inv.next ordered inv.before number any,
      );
      bound = omega (arith, last, small);
      needed = λ rows pages stands.
          let levels = levels_of c.args.self.now.width in
          let more = needed_more rows levels level spans index next c.max-first.result (c.number-next.result + 1) span
          c.loop-span-test.true c.span-item.is inv.before
          (overlaps level spans index next span c.loop-span-test.true c.span-item.is c.requires.spans.rising
          inv.first inv.next inv.reached)
          (c.max-first.ensures ∙ ap (λ (n : ℕ). max n next) first) (ap (λ (n : ℕ). n + 1) last)
          (omega (arith, c.max-first.ensures, first, last, within, grows))
          (omega (
            arith,
            last,
            number_below c.args.self.now.width level span.last (omega arith)
                (span_below c.args.self.now.width spans index span c.requires.spans
                c.loop-span-test.true c.span-item.is),
          )) in
          omega (arith, more, inv.needed rows pages stands, c.absent_between-total.ensures.absent rows pages stands);
    }

pub returns-clause-needed : goal.returns-clause-needed
returns-clause-needed g c = λ rows pages stands.
    c.loop-span.invariant.needed rows pages stands
    ∙ ap (needed_at rows (levels_of c.args.self.now.width) c.args.level)
    (take_all c.loop-span.span-index c.args.spans.now (omega arith))
