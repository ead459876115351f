use Rattle.std.proofs.Common.{not, sym, ◌∙◌, refl}
use Rattle.iofd_steps.specs.After.{changed, settle, without_areas}
use Rattle.iofd_steps.specs.Answers.{Answers}
use Rattle.iofd_words.specs.Areas.{is_touched}
use Rattle.iofd_steps.specs.Run.{world_of}
use Rattle.iofd_words.specs.Tables.{with_tables}
use Rattle.iofd_words.specs.View.{view}
use Rattle.iofd_words.specs.declared.event.Event.TheVariants as event
use Rattle.iofd_words.specs.declared.reply.Reply.TheVariants as reply
use Rattle.iofd_words.specs.declared.rows.Area.{Area}
use Rattle.iofd_rows.proofs.Bools.{not_false, not_true}
use Rattle.iofd_rows.proofs.Each.{in_filter}
use Rattle.iofd_runs.proofs.NotRefused.{unmap_passed}
use Rattle.iofd_runs.proofs.StillTabled.{in_kept}
use Rattle.iofd_promises.specs.Unmaps.{TakesAway}
use Rattle.iofd_promises.proofs.Facts.{usable_of}
use Rattle.iofd_promises.proofs.Rows.{contains, within}
use Rattle.iofd_promises.proofs.Steps.{by_event, run_before}
use Rattle.iofd_promises.proofs.Unmapped.{bytes_are, no_pin_lies, nobody_owes, touched_named, uncut_whole}
use Rattle.iofd_promises.proofs.unmap.bytes_are_answered_where_nobody_owes.Goals as goal

pub returns : goal.returns
unfolding changed settle without_areas with_tables Answers
returns g c = λ settings before r file request count run of_event answered.
    let w = world_of settings before in
    let own = (usable_of settings before (run_before settings before _ run)).sound.own_ids in
    by_event settings before r run (λ new. TakesAway w new file request count) (event.Unmap file request)
    (reply.Bytes count) refl of_event answered (λ none answers. record {
      whole = λ area has named. uncut_whole w file request area (unmap_passed (view w) file request none).uncut
          (within w.areas area has) named;
      owed = λ area device has named owes. nobody_owes w file request area device own (not_true _ answers.0)
          (within w.areas area has) named owes;
      pinned = λ area pin has named lies. no_pin_lies w file request area pin own (not_true _ answers.0)
          (within w.areas area has) named lies;
      count_is = answers.1 ∙ bytes_are file request w.areas;
      gone = λ area has. sym (touched_named file request area)
          ∙ not_true _ (in_filter (λ (a : Area). not (is_touched file request a)) w.areas area (within _ area has)).1;
      others = λ area other. (
        (λ has. contains _ area (in_kept (λ (a : Area). not (is_touched file request a)) w.areas area
            (within w.areas area has) (not_false _ (touched_named file request area ∙ other)))),
        (λ has. contains w.areas area (in_filter (λ (a : Area). not (is_touched file request a)) w.areas area
            (within _ area has)).0),
      );
    })
