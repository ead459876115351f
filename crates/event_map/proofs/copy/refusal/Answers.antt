use Rattle.std.proofs.Common.{◌≡◌, ◌≢◌, ℕ, false, eqb, Option, Some, None, is_none, sym, ◌∙◌, ap, arith}
use Rattle.std.proofs.lemmas.Bool.Decides.{nat_tests}
use Rattle.iofd_rows.proofs.Bools.{and_true}
use Rattle.iofd_refusals.specs.Checks.{source_of}
use Rattle.iofd_words.specs.Copies.{source_in}
use Rattle.iofd_words.specs.Pages.{is_whole}
use Rattle.iofd_words.specs.declared.rows.Area.{Area}
use Rattle.event_map.proofs.CopyAsks.{closed_row, empty_row, right_row, rows_behind, source_row, source_sum_row}
use Rattle.event_map.proofs.CopyAsks.{span_row, starts_row, sum_row, target_row, whole_row}
use Rattle.event_map.specs.Sources.{number_of}
use Rattle.server_state.specs.Seen.{seen}
use Rattle.event_map.proofs.copy.refusal.Goals.{then-is_above_sum-via-then-is_above_sum}
use Rattle.event_map.proofs.copy.refusal.Goals.{then-is_above_sum-via-else-is_above_sum+then-has_fixed_sum_above}
use Rattle.event_map.proofs.copy.refusal.Goals.{then-request-eq0-via-then-request-eq0}
use Rattle.event_map.proofs.copy.refusal.Goals.{then-request-eq0-via-else-request-eq0+then-not-are_pages_of_source}
use Rattle.event_map.proofs.copy.refusal.Goals as goal

some : (length : ℕ) → length ≢ 0 → eqb length 0 ≡ false
some length nonzero = search (nonzero, arith, nat_tests)

pub returns-then-not-is_open : goal.returns-then-not-is_open
returns-then-not-is_open g c =
    closed_row (seen c.args.state.now) c.args.file c.args.request
    (sym c.is_open.ensures ∙ c.if-not-is_open.true)

pub returns-then-not-gives_right : goal.returns-then-not-gives_right
returns-then-not-gives_right g c =
    right_row (seen c.args.state.now) c.args.file c.args.request
    (sym c.is_open.ensures ∙ c.if-not-is_open.false)
    (sym c.gives_right.ensures ∙ c.if-not-gives_right.true)

pub returns-then-is_above_sum : goal.returns-then-is_above_sum
returns-then-is_above_sum g c =
    let v = seen c.args.state.now in
    elim c.then-is_above_sum.branch [
      | then-is_above_sum-via-then-is_above_sum w ↦ source_sum_row v c.args.file c.args.request
          (sym c.is_open.ensures ∙ c.if-not-is_open.false)
          (sym c.gives_right.ensures ∙ c.if-not-gives_right.false)
          (sym c.is_above_sum.ensures ∙ w.if-is_above_sum.true)
      | then-is_above_sum-via-else-is_above_sum+then-has_fixed_sum_above w ↦ sum_row v c.args.file c.args.request
          (sym c.is_open.ensures ∙ c.if-not-is_open.false)
          (sym c.gives_right.ensures ∙ c.if-not-gives_right.false)
          (sym c.is_above_sum.ensures ∙ w.if-is_above_sum.false)
          (sym w.has_fixed_sum_above.ensures ∙ w.if-has_fixed_sum_above.true)
    ]

pub returns-then-request-eq0 : goal.returns-then-request-eq0
returns-then-request-eq0 g c =
    let v = seen c.args.state.now in
    elim c.then-request-eq0.branch [
      | then-request-eq0-via-then-request-eq0 w ↦ empty_row v c.args.file c.args.request
          (sym c.is_open.ensures ∙ c.if-not-is_open.false)
          (sym c.gives_right.ensures ∙ c.if-not-gives_right.false)
          (sym c.is_above_sum.ensures ∙ c.if-is_above_sum.false)
          (sym c.has_fixed_sum_above.ensures ∙ c.if-has_fixed_sum_above.false)
          (ap (λ (length : ℕ). eqb length 0) w.if-request-eq0.true)
      | then-request-eq0-via-else-request-eq0+then-not-are_pages_of_source w ↦ whole_row v c.args.file c.args.request
          (sym c.is_open.ensures ∙ c.if-not-is_open.false)
          (sym c.gives_right.ensures ∙ c.if-not-gives_right.false)
          (sym c.is_above_sum.ensures ∙ c.if-is_above_sum.false)
          (sym c.has_fixed_sum_above.ensures ∙ c.if-has_fixed_sum_above.false)
          (some c.args.request.length w.if-request-eq0.false)
          (sym w.are_pages_of_source.ensures ∙ w.if-not-are_pages_of_source.true)
    ]

pub returns-then-is_fixed_in_page : goal.returns-then-is_fixed_in_page
returns-then-is_fixed_in_page g c =
    starts_row (seen c.args.state.now) c.args.file c.args.request
    (sym c.is_open.ensures ∙ c.if-not-is_open.false)
    (sym c.gives_right.ensures ∙ c.if-not-gives_right.false)
    (sym c.is_above_sum.ensures ∙ c.if-is_above_sum.false)
    (sym c.has_fixed_sum_above.ensures ∙ c.if-has_fixed_sum_above.false)
    (some c.args.request.length c.if-request-eq0.false)
    (sym c.are_pages_of_source.ensures ∙ c.if-not-are_pages_of_source.false)
    (sym c.is_fixed_in_page.ensures ∙ c.if-is_fixed_in_page.true)

pub returns-in_default : goal.returns-in_default
returns-in_default g c =
    target_row (seen c.args.state.now) c.args.file c.args.request
    (sym c.is_open.ensures ∙ c.if-not-is_open.false)
    (sym c.gives_right.ensures ∙ c.if-not-gives_right.false)
    (sym c.is_above_sum.ensures ∙ c.if-is_above_sum.false)
    (sym c.has_fixed_sum_above.ensures ∙ c.if-has_fixed_sum_above.false)
    (some c.args.request.length c.if-request-eq0.false)
    (sym c.are_pages_of_source.ensures ∙ c.if-not-are_pages_of_source.false)
    (sym c.is_fixed_in_page.ensures ∙ c.if-is_fixed_in_page.false)
    c.in_default.ensures

pub returns-in_default-areas_of : goal.returns-in_default-areas_of
returns-in_default-areas_of g c =
    source_row (seen c.args.state.now) c.args.file c.args.request
    (sym c.is_open.ensures ∙ c.if-not-is_open.false)
    (sym c.gives_right.ensures ∙ c.if-not-gives_right.false)
    (sym c.is_above_sum.ensures ∙ c.if-is_above_sum.false)
    (sym c.has_fixed_sum_above.ensures ∙ c.if-has_fixed_sum_above.false)
    (some c.args.request.length c.if-request-eq0.false)
    (sym c.are_pages_of_source.ensures ∙ c.if-not-are_pages_of_source.false)
    (sym c.is_fixed_in_page.ensures ∙ c.if-is_fixed_in_page.false)
    c.in-Some.ensures.0
    c.in_default-areas_of.ensures

pub returns-in_default-source_in : goal.returns-in_default-source_in
returns-in_default-source_in g c =
    let v = seen c.args.state.now in
    let nowhere : source_of v c.args.file c.args.request ≡ None =
    ap (λ (areas : _). source_in areas c.args.request) c.in-Some-areas_of.ensures.1
    ∙ sym c.in_default-source_in.ensures in
    span_row v c.args.file c.args.request
    (sym c.is_open.ensures ∙ c.if-not-is_open.false)
    (sym c.gives_right.ensures ∙ c.if-not-gives_right.false)
    (sym c.is_above_sum.ensures ∙ c.if-is_above_sum.false)
    (sym c.has_fixed_sum_above.ensures ∙ c.if-has_fixed_sum_above.false)
    (some c.args.request.length c.if-request-eq0.false)
    (sym c.are_pages_of_source.ensures ∙ c.if-not-are_pages_of_source.false)
    (sym c.is_fixed_in_page.ensures ∙ c.if-is_fixed_in_page.false)
    c.in-Some.ensures.0
    c.in-Some-areas_of.ensures.0
    (ap (λ (o : Option Area). is_none o) nowhere)

pub source_in-requires-clause-some : goal.source_in-requires-clause-some
source_in-requires-clause-some g c = some c.args.request.length c.if-request-eq0.false

pub source_in-requires-clause-sum : goal.source_in-requires-clause-sum
source_in-requires-clause-sum g c = sym c.is_above_sum.ensures ∙ c.if-is_above_sum.false

pub refusal_by_areas-requires-clause-seeks : goal.refusal_by_areas-requires-clause-seeks
refusal_by_areas-requires-clause-seeks g c = record {
  known = c.requires;
  some = some c.args.request.length c.if-request-eq0.false;
  sum = sym c.has_fixed_sum_above.ensures ∙ c.if-has_fixed_sum_above.false;
  whole = (and_true (is_whole c.args.request.length) (is_whole c.args.request.src_iova.0)
      (sym c.are_pages_of_source.ensures ∙ c.if-not-are_pages_of_source.false)).0;
  starts = sym c.is_fixed_in_page.ensures ∙ c.if-is_fixed_in_page.false;
  space = c.in-Some.ensures.0;
  here = c.in-Some.ensures.1;
}

pub refusal_by_areas-requires-clause-source : goal.refusal_by_areas-requires-clause-source
refusal_by_areas-requires-clause-source g c =
    ap (λ (areas : _). number_of (source_in areas c.args.request)) c.in-Some-areas_of.ensures.1
    ∙ ap number_of (sym c.in-Some-source_in.ensures)

pub returns : goal.returns
returns g c =
    let v = seen c.args.state.now in
    let found : source_of v c.args.file c.args.request ≡ Some c.in-Some-source_in.source.now =
    ap (λ (areas : _). source_in areas c.args.request) c.in-Some-areas_of.ensures.1 ∙ sym c.in-Some-source_in.ensures in
    c.refusal_by_areas.ensures
    ∙ sym (rows_behind v c.args.file c.args.request
    (sym c.is_open.ensures ∙ c.if-not-is_open.false)
    (sym c.gives_right.ensures ∙ c.if-not-gives_right.false)
    (sym c.is_above_sum.ensures ∙ c.if-is_above_sum.false)
    (sym c.has_fixed_sum_above.ensures ∙ c.if-has_fixed_sum_above.false)
    (some c.args.request.length c.if-request-eq0.false)
    (sym c.are_pages_of_source.ensures ∙ c.if-not-are_pages_of_source.false)
    (sym c.is_fixed_in_page.ensures ∙ c.if-is_fixed_in_page.false)
    c.in-Some.ensures.0
    c.in-Some-areas_of.ensures.0
    (ap (λ (o : Option Area). is_none o) found))
