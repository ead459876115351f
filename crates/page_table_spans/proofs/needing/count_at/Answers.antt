use Rattle.std.proofs.Common.{◌≡◌, ℕ, ◌+◌, true, false, List, ◌∷◌, sym, ap, ◌∙◌, arith}
use Rattle.std.proofs.lemmas.List.Elements.{All-tail}
use Rattle.iofd_words.specs.Span.{is_whole_pages}
use Rattle.iofd_words.specs.TablePlaces.{is_live, live_pages}
use Rattle.iofd_words.specs.declared.rows.Area.{Area}
use Rattle.page_table_words.proofs.Needs.{next_number, number_grows, number_small}
use Rattle.page_table_spans.proofs.AreaTables.{area_more, at_most, leaving_first, nothing, shorter}
use Rattle.page_table_spans.proofs.ByLevel.{lacked_at}
use Rattle.page_table_spans.proofs.LevelNumbers.{or_before}
use Rattle.page_table_spans.proofs.SpanNeeds.{before_none}
use Rattle.page_table_spans.proofs.needing.count_at.Goals as goal

none_yet : (rest all : ℕ) → rest ≡ all → 0 + rest ≡ all
none_yet rest all is = omega (arith, is)

all_counted : (total all : ℕ) → total + 0 ≡ all → total ≡ all
all_counted total all sum = omega (arith, sum)

pub loop-area-init : goal.loop-area-init
loop-area-init g c =
    rw c.into_iter-area-iterator.ensures.into_iter_gives (record {
      low = 0;
      apart = c.requires.apart;
      whole = c.requires.pages;
      near = omega arith;
      few = omega arith;
      bound = omega arith;
      value = none_yet _ _ (before_none nothing c.args.level (live_pages c.args.areas));
    })

pub loop-area-smaller-then-is_live : goal.loop-area-smaller-then-is_live
loop-area-smaller-then-is_live g c =
    shorter c.loop-area.area-iterator c.next.new.self c.in-Some.area.now c.in-Some.ensures.steps

pub loop-area-smaller : goal.loop-area-smaller
loop-area-smaller g c =
    shorter c.loop-area.area-iterator c.next.new.self c.in-Some.area.now c.in-Some.ensures.steps

pub returns-clause-small : goal.returns-clause-small
returns-clause-small g c =
    at_most c.loop-area.total c.loop-area.next _ c.loop-area.invariant.few c.loop-area.invariant.bound

pub returns-clause-value : goal.returns-clause-value
returns-clause-value g c =
    let level = c.args.level in
    let none = ap (λ (areas : List Area). c.loop-area.total + lacked_at (or_before nothing level c.loop-area.next)
    (live_pages areas) level) c.in-None.ensures.steps.0 in
    all_counted c.loop-area.total (lacked_at nothing (live_pages c.args.areas) level)
    (sym none ∙ c.loop-area.invariant.value)

pub overflow_add-next : goal.overflow_add-next
overflow_add-next g c =
    let span = c.in-Some.area.now.span in
    let last = next_number c.args.level c.number-next.result c.last.result span.last
    c.number-next.ensures c.last.ensures.value in
    let small = number_small c.args.level span.last (omega (arith, c.last.ensures.value, c.last.type_inv)) in
    omega (arith, last, small)

pub overflow_sub-total : goal.overflow_sub-total
overflow_sub-total g c =
    let span = c.in-Some.area.now.span in
    let level = c.args.level in
    let inv = c.loop-area.invariant in
    let apart = rw c.in-Some.ensures.steps at inv.apart in
    let first = next_number level c.number.result c.first.result span.first c.number.ensures c.first.ensures.value in
    let last =
    next_number level c.number-next.result c.last.result span.last c.number-next.ensures c.last.ensures.value in
    let grown = number_grows level span.first span.last apart.1 in
    let begin = number_grows level inv.low span.first apart.0 in
    let near = inv.near in
    omega (arith, c.max-first.ensures, first, last, grown, begin, near)

pub overflow_add-total : goal.overflow_add-total
overflow_add-total g c =
    let span = c.in-Some.area.now.span in
    let last = next_number c.args.level c.number-next.result c.last.result span.last
    c.number-next.ensures c.last.ensures.value in
    let small = number_small c.args.level span.last (omega (arith, c.last.ensures.value, c.last.type_inv)) in
    let few = c.loop-area.invariant.few in
    let bound = c.loop-area.invariant.bound in
    omega (arith, last, small, few, bound)

pub loop-area-preserved-then-is_live : goal.loop-area-preserved-then-is_live
loop-area-preserved-then-is_live g c =
    let area = c.in-Some.area.now in
    let span = area.span in
    let rest : List Area = c.next.new.self in
    let level = c.args.level in
    let inv = c.loop-area.invariant in
    let apart = rw c.in-Some.ensures.steps at inv.apart in
    let whole = rw c.in-Some.ensures.steps at inv.whole in
    let live : is_live area.phase ≡ true = sym c.is_live.ensures ∙ c.if-is_live.true in
    let first = next_number level c.number.result c.first.result span.first c.number.ensures c.first.ensures.value in
    let last =
    next_number level c.number-next.result c.last.result span.last c.number-next.ensures c.last.ensures.value in
    let small = number_small level span.last (omega (arith, c.last.ensures.value, c.last.type_inv)) in
    let grown = number_grows level span.first span.last apart.1 in
    let begin = number_grows level inv.low span.first apart.0 in
    let near = inv.near in
    let few = inv.few in
    let sum : c.loop-area.total + lacked_at (or_before nothing level c.loop-area.next) (live_pages (area ∷ rest))
    level ≡ lacked_at nothing (live_pages c.args.areas) level =
    ap (λ (areas : List Area). c.loop-area.total + lacked_at (or_before nothing level c.loop-area.next)
    (live_pages areas) level) (sym c.in-Some.ensures.steps) ∙ inv.value in
    let more = area_more level inv.low c.loop-area.next area rest apart whole inv.near live in
    let later = ap (λ (n : ℕ). lacked_at (or_before nothing level (n + 1)) (live_pages rest) level) last in
    record {
      low = span.last + 1;
      apart = apart.2;
      whole = All-tail (λ (a : Area). is_whole_pages a.span ≡ true) area rest whole;
      near = omega (arith, last, number_grows level span.last (span.last + 1) (omega arith));
      few = omega (arith, c.max-first.ensures, first, last, grown, begin, near, few);
      bound = omega (arith, last, small);
      value = omega (arith, sum, more, later, c.max-first.ensures, first, last);
    }

pub loop-area-preserved : goal.loop-area-preserved
loop-area-preserved g c =
    let area = c.in-Some.area.now in
    let span = area.span in
    let rest : List Area = c.next.new.self in
    let level = c.args.level in
    let inv = c.loop-area.invariant in
    let apart = rw c.in-Some.ensures.steps at inv.apart in
    let whole = rw c.in-Some.ensures.steps at inv.whole in
    let leaving : is_live area.phase ≡ false = sym c.is_live.ensures ∙ c.if-is_live.false in
    let near = inv.near in
    record {
      low = span.last + 1;
      apart = apart.2;
      whole = All-tail (λ (a : Area). is_whole_pages a.span ≡ true) area rest whole;
      near = omega (arith, near, number_grows level inv.low (span.last + 1) (omega (arith, apart.0, apart.1)));
      few = inv.few;
      bound = inv.bound;
      value = ap (λ (pages : List ℕ). c.loop-area.total + lacked_at (or_before nothing level c.loop-area.next) pages
          level) (sym (ap live_pages c.in-Some.ensures.steps ∙ leaving_first area rest leaving)) ∙ inv.value;
    }
