use Rattle.std.proofs.Common.{◌≡◌, ◌&&◌, not, ◌∙◌, ap, Bool}
use Rattle.dirty_bitmap.specs.Tracking.{is_dirty, is_table}
use Rattle.iofd_runs.proofs.NotRefused.{dirty_passed}
use Rattle.iofd_steps.specs.After.{changed}
use Rattle.iofd_steps.specs.Answers.{Answers}
use Rattle.iofd_words.specs.Bounds.{Bounds}
use Rattle.iofd_words.specs.Dirty.{reported_span, without_marks}
use Rattle.iofd_words.specs.DirtyWords.{dirty_words}
use Rattle.iofd_words.specs.View.{view}
use Rattle.server_state.proofs.DirtyMoves.{dirty_cleared}
use Rattle.event_dirty.proofs.Kept.{shows_marked}
use Rattle.event_dirty.proofs.Reported.{all_told, fits, never_none, same_words}
use Rattle.event_dirty.proofs.dirty_report.commit.Goals as goal

pub unreachable-requires : goal.unreachable-requires
unreachable-requires g c =
    let granted = c.requires.granted in
    let may = fits (view granted.world) c.args.file c.args.request
    (dirty_passed (view granted.world) c.args.file c.args.request granted.none) in
    never_none c.of_length.result c.of_length.ensures.fits.1 may c.in_default.is

pub returns : goal.returns
unfolding changed Answers
returns g c = λ at w tidy shows none.
    let s = c.args.state.now in
    let file = c.args.file in
    let request = c.args.request in
    let span : c.in-Some.span ≡ reported_span request = c.in-Some.ensures.value in
    let told = rw span at c.report_flagged.ensures.marks in
    let passed = dirty_passed (view w) file request none in (
      c.report_flagged.ensures.words
          ∙ ap (λ (b : Bounds). dirty_words (is_dirty s.dirty file request.hwpt) b) span
          ∙ same_words w s shows file request,
      shows_marked w s (without_marks file request.hwpt (reported_span request) w.tracked) c.report_flagged.new.self
          shows (dirty_cleared w.tracked s.dirty c.report_flagged.new.self shows.dirty file request.hwpt
          (reported_span request) c.report_flagged.ensures.tracks
          (λ f h page. told f h page
          ∙ ap (λ (b : Bool). is_dirty s.dirty f h page && not (is_table file request.hwpt f h && b))
          (all_told (view w) file request passed page))),
    )
