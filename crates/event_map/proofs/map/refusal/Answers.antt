use Rattle.std.proofs.Common.{ℕ, eqb, sym, ◌∙◌, ap}
use Rattle.iofd_rows.proofs.Bools.{and_true}
use Rattle.iofd_words.specs.Pages.{is_whole}
use Rattle.event_map.proofs.MapRows.{closed_row, empty_row, right_row, rows_behind, some_length, space_row, starts_row}
use Rattle.event_map.proofs.MapRows.{sum_row, user_row, user_sum_row, whole_row}
use Rattle.server_state.specs.Seen.{seen}
use Rattle.event_map.proofs.map.refusal.Goals.{then-is_above_sum-via-then-is_above_sum}
use Rattle.event_map.proofs.map.refusal.Goals.{then-is_above_sum-via-else-is_above_sum+then-has_fixed_sum_above}
use Rattle.event_map.proofs.map.refusal.Goals.{then-request-eq0-via-then-request-eq0}
use Rattle.event_map.proofs.map.refusal.Goals.{then-request-eq0-via-else-request-eq0+then-not-are_pages_of_user}
use Rattle.event_map.proofs.map.refusal.Goals as goal

pub returns-then-not-is_open : goal.returns-then-not-is_open
returns-then-not-is_open g c =
    closed_row (seen c.args.state.now) c.args.file c.args.request
    (sym c.is_open.ensures ∙ c.if-not-is_open.true)

pub returns-then-not-gives_right : goal.returns-then-not-gives_right
returns-then-not-gives_right g c =
    right_row (seen c.args.state.now) c.args.file c.args.request
    (sym c.is_open.ensures ∙ c.if-not-is_open.false)
    (sym c.gives_right.ensures ∙ c.if-not-gives_right.true)

pub returns-then-is_above_sum : goal.returns-then-is_above_sum
returns-then-is_above_sum g c =
    let v = seen c.args.state.now in
    elim c.then-is_above_sum.branch [
      | then-is_above_sum-via-then-is_above_sum w ↦ user_sum_row v c.args.file c.args.request
          (sym c.is_open.ensures ∙ c.if-not-is_open.false)
          (sym c.gives_right.ensures ∙ c.if-not-gives_right.false)
          (sym c.is_above_sum.ensures ∙ w.if-is_above_sum.true)
      | then-is_above_sum-via-else-is_above_sum+then-has_fixed_sum_above w ↦ sum_row v c.args.file c.args.request
          (sym c.is_open.ensures ∙ c.if-not-is_open.false)
          (sym c.gives_right.ensures ∙ c.if-not-gives_right.false)
          (sym c.is_above_sum.ensures ∙ w.if-is_above_sum.false)
          (sym w.has_fixed_sum_above.ensures ∙ w.if-has_fixed_sum_above.true)
    ]

pub returns-then-request-eq0 : goal.returns-then-request-eq0
returns-then-request-eq0 g c =
    let v = seen c.args.state.now in
    elim c.then-request-eq0.branch [
      | then-request-eq0-via-then-request-eq0 w ↦ empty_row v c.args.file c.args.request
          (sym c.is_open.ensures ∙ c.if-not-is_open.false)
          (sym c.gives_right.ensures ∙ c.if-not-gives_right.false)
          (sym c.is_above_sum.ensures ∙ c.if-is_above_sum.false)
          (sym c.has_fixed_sum_above.ensures ∙ c.if-has_fixed_sum_above.false)
          (ap (λ (length : ℕ). eqb length 0) w.if-request-eq0.true)
      | then-request-eq0-via-else-request-eq0+then-not-are_pages_of_user w ↦ whole_row v c.args.file c.args.request
          (sym c.is_open.ensures ∙ c.if-not-is_open.false)
          (sym c.gives_right.ensures ∙ c.if-not-gives_right.false)
          (sym c.is_above_sum.ensures ∙ c.if-is_above_sum.false)
          (sym c.has_fixed_sum_above.ensures ∙ c.if-has_fixed_sum_above.false)
          (some_length c.args.request.length w.if-request-eq0.false)
          (sym w.are_pages_of_user.ensures ∙ w.if-not-are_pages_of_user.true)
    ]

pub returns-then-is_fixed_in_page : goal.returns-then-is_fixed_in_page
returns-then-is_fixed_in_page g c =
    starts_row (seen c.args.state.now) c.args.file c.args.request
    (sym c.is_open.ensures ∙ c.if-not-is_open.false)
    (sym c.gives_right.ensures ∙ c.if-not-gives_right.false)
    (sym c.is_above_sum.ensures ∙ c.if-is_above_sum.false)
    (sym c.has_fixed_sum_above.ensures ∙ c.if-has_fixed_sum_above.false)
    (some_length c.args.request.length c.if-request-eq0.false)
    (sym c.are_pages_of_user.ensures ∙ c.if-not-are_pages_of_user.false)
    (sym c.is_fixed_in_page.ensures ∙ c.if-is_fixed_in_page.true)

pub returns-then-is_above_user : goal.returns-then-is_above_user
returns-then-is_above_user g c =
    user_row (seen c.args.state.now) c.args.file c.args.request
    (sym c.is_open.ensures ∙ c.if-not-is_open.false)
    (sym c.gives_right.ensures ∙ c.if-not-gives_right.false)
    (sym c.is_above_sum.ensures ∙ c.if-is_above_sum.false)
    (sym c.has_fixed_sum_above.ensures ∙ c.if-has_fixed_sum_above.false)
    (some_length c.args.request.length c.if-request-eq0.false)
    (sym c.are_pages_of_user.ensures ∙ c.if-not-are_pages_of_user.false)
    (sym c.is_fixed_in_page.ensures ∙ c.if-is_fixed_in_page.false)
    (sym c.is_above_user.ensures ∙ c.if-is_above_user.true)

pub returns-in_default : goal.returns-in_default
returns-in_default g c =
    space_row (seen c.args.state.now) c.args.file c.args.request
    (sym c.is_open.ensures ∙ c.if-not-is_open.false)
    (sym c.gives_right.ensures ∙ c.if-not-gives_right.false)
    (sym c.is_above_sum.ensures ∙ c.if-is_above_sum.false)
    (sym c.has_fixed_sum_above.ensures ∙ c.if-has_fixed_sum_above.false)
    (some_length c.args.request.length c.if-request-eq0.false)
    (sym c.are_pages_of_user.ensures ∙ c.if-not-are_pages_of_user.false)
    (sym c.is_fixed_in_page.ensures ∙ c.if-is_fixed_in_page.false)
    (sym c.is_above_user.ensures ∙ c.if-is_above_user.false)
    c.in_default.ensures

pub refusal_by_areas-requires : goal.refusal_by_areas-requires
refusal_by_areas-requires g c = record {
  known = c.requires;
  some = some_length c.args.request.length c.if-request-eq0.false;
  sum = sym c.has_fixed_sum_above.ensures ∙ c.if-has_fixed_sum_above.false;
  whole = (and_true (is_whole c.args.request.length) (is_whole c.args.request.user_va)
      (sym c.are_pages_of_user.ensures ∙ c.if-not-are_pages_of_user.false)).0;
  starts = sym c.is_fixed_in_page.ensures ∙ c.if-is_fixed_in_page.false;
  space = c.in-Some.ensures.0;
  here = c.in-Some.ensures.1;
}

pub returns : goal.returns
returns g c =
    c.refusal_by_areas.ensures
    ∙ sym (rows_behind (seen c.args.state.now) c.args.file c.args.request
    (sym c.is_open.ensures ∙ c.if-not-is_open.false)
    (sym c.gives_right.ensures ∙ c.if-not-gives_right.false)
    (sym c.is_above_sum.ensures ∙ c.if-is_above_sum.false)
    (sym c.has_fixed_sum_above.ensures ∙ c.if-has_fixed_sum_above.false)
    (some_length c.args.request.length c.if-request-eq0.false)
    (sym c.are_pages_of_user.ensures ∙ c.if-not-are_pages_of_user.false)
    (sym c.is_fixed_in_page.ensures ∙ c.if-is_fixed_in_page.false)
    (sym c.is_above_user.ensures ∙ c.if-is_above_user.false)
    c.in-Some.ensures.0)
