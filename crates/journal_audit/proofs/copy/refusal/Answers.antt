use Rattle.std.proofs.Common.{Some, None, cond, ◌&&◌, eqb, ap, sym, ◌∙◌}
use Rattle.iofd_refusals.specs.Checks.{lacks_mapped_frames}
use Rattle.iofd_words.specs.FirstTrue.{first_true}
use Rattle.iofd_words.specs.Pages.{is_above_sum}
use Rattle.iofd_words.specs.Rights.{is_fixed}
use Rattle.iofd_words.specs.View.{view}
use Rattle.iofd_words.specs.declared.event.MapRequest.{MapRequest}
use Rattle.iofd_words.specs.declared.refusal.Cause.TheVariants as cause
use Rattle.journal_audit.specs.Rows.{place_rows}
use Rattle.journal_audit.proofs.RefusedRows.{copy_by_frames, copy_by_pages, copy_by_place, copy_by_source}
use Rattle.journal_audit.proofs.RefusedRows.{copy_by_words, copy_some, copy_sum}
use Rattle.journal_audit.proofs.copy.refusal.Goals as goal

pub returns-in-Some : goal.returns-in-Some
returns-in-Some g c =
    copy_by_words (view c.args.world.now) c.args.file c.args.request c.in-Some.cause (sym c.in-Some.ensures)

pub returns-in-Some-refusal_by_source : goal.returns-in-Some-refusal_by_source
returns-in-Some-refusal_by_source g c =
    copy_by_source (view c.args.world.now) c.args.file c.args.request (sym c.in_default.ensures)
    c.in-Some-refusal_by_source.cause (sym c.in-Some-refusal_by_source.ensures)

pub returns-in-Some-2 : goal.returns-in-Some-2
returns-in-Some-2 g c =
    copy_by_place (view c.args.world.now) c.args.file c.args.request (sym c.in_default.ensures)
    (sym c.in_default-refusal_by_source.ensures) c.in-Some-2.cause
    (sym (c.in_ok-cause.ensures
    ∙ ap (λ (r : MapRequest). first_true (place_rows (view c.args.world.now) c.args.file r)) c.placed_as-placed.ensures)
    ∙ c.in-Some-2.is)

pub returns-in-Some-3 : goal.returns-in-Some-3
returns-in-Some-3 g c =
    copy_by_pages (view c.args.world.now) c.args.file c.args.request (sym c.in_default.ensures)
    (sym c.in_default-refusal_by_source.ensures)
    (sym (c.in_ok-cause.ensures
    ∙ ap (λ (r : MapRequest). first_true (place_rows (view c.args.world.now) c.args.file r)) c.placed_as-placed.ensures)
    ∙ c.in_default-2.is) c.in-Some-3.cause (sym c.in_ok-cause-2.ensures ∙ c.in-Some-3.is)

pub lacks_frames-requires-clause-some : goal.lacks_frames-requires-clause-some
lacks_frames-requires-clause-some g c =
    ap (λ (r : MapRequest). eqb r.length 0) c.placed_as-placed.ensures
    ∙ copy_some (view c.args.world.now) c.args.file c.args.request (sym c.in_default.ensures)

pub lacks_frames-requires-clause-sum : goal.lacks_frames-requires-clause-sum
lacks_frames-requires-clause-sum g c =
    ap (λ (r : MapRequest). is_fixed r.flags && is_above_sum r.iova.0 r.length) c.placed_as-placed.ensures
    ∙ copy_sum (view c.args.world.now) c.args.file c.args.request (sym c.in_default.ensures)

pub returns-then-branch : goal.returns-then-branch
returns-then-branch g c =
    ap (λ b. cond b (Some cause.Frames) None) (sym c.if-branch.true)
    ∙ copy_by_frames (view c.args.world.now) c.args.file c.args.request (sym c.in_default.ensures)
    (sym c.in_default-refusal_by_source.ensures)
    (sym (c.in_ok-cause.ensures
    ∙ ap (λ (r : MapRequest). first_true (place_rows (view c.args.world.now) c.args.file r)) c.placed_as-placed.ensures)
    ∙ c.in_default-2.is) c.in_ok-lacks_frames.field-0 (sym c.in_ok-cause-2.ensures ∙ c.in_default-3.is)
    (c.in_ok-lacks_frames.ensures
    ∙ ap (λ (r : MapRequest). lacks_mapped_frames (view c.args.world.now) c.args.file r) c.placed_as-placed.ensures)

pub returns : goal.returns
returns g c =
    ap (λ b. cond b (Some cause.Frames) None) (sym c.if-branch.false)
    ∙ copy_by_frames (view c.args.world.now) c.args.file c.args.request (sym c.in_default.ensures)
    (sym c.in_default-refusal_by_source.ensures)
    (sym (c.in_ok-cause.ensures
    ∙ ap (λ (r : MapRequest). first_true (place_rows (view c.args.world.now) c.args.file r)) c.placed_as-placed.ensures)
    ∙ c.in_default-2.is) c.in_ok-lacks_frames.field-0 (sym c.in_ok-cause-2.ensures ∙ c.in_default-3.is)
    (c.in_ok-lacks_frames.ensures
    ∙ ap (λ (r : MapRequest). lacks_mapped_frames (view c.args.world.now) c.args.file r) c.placed_as-placed.ensures)
