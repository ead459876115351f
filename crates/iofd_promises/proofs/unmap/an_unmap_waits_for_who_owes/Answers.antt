use Rattle.std.proofs.Common.{refl, ◌∙◌}
use Rattle.iofd_steps.specs.After.{changed}
use Rattle.iofd_words.specs.Areas.{touched_tries}
use Rattle.iofd_steps.specs.Answers.{Answers}
use Rattle.iofd_steps.specs.Run.{world_of}
use Rattle.iofd_words.specs.Tables.{with_tables}
use Rattle.iofd_words.specs.View.{view}
use Rattle.iofd_words.specs.declared.event.Event.TheVariants as event
use Rattle.iofd_words.specs.declared.reply.Reply.TheVariants as reply
use Rattle.iofd_runs.proofs.NotRefused.{unmap_passed}
use Rattle.iofd_promises.specs.Unmaps.{SameOthers, Waits}
use Rattle.iofd_promises.proofs.Facts.{usable_of}
use Rattle.iofd_promises.proofs.Rows.{contains, within}
use Rattle.iofd_promises.proofs.Steps.{by_event, run_before}
use Rattle.iofd_promises.proofs.Unmapped.{all_leave, are_most, pending_again, pending_in_vain, something_holds}
use Rattle.iofd_promises.proofs.Unmapped.{uncut_whole}
use Rattle.iofd_promises.proofs.unmap.an_unmap_waits_for_who_owes.Goals as goal

pub returns-clause-waits : goal.returns-clause-waits
unfolding changed with_tables Answers
returns-clause-waits g c = λ settings before r file request errno run of_event answered.
    let w = world_of settings before in
    let own = (usable_of settings before (run_before settings before _ run)).sound.own_ids in
    by_event settings before r run (λ new. Waits w new file request errno) (event.Unmap file request)
    (reply.Pending errno) refl of_event answered (λ none answers.
    let held = something_holds w file request answers.0 in
    record {
      whole = λ area has named. uncut_whole w file request area (unmap_passed (view w) file request none).uncut
          (within w.areas area has) named;
      area = held.area;
      there = contains w.areas held.area held.there;
      named = held.named;
      held_back = held.by;
      most = touched_tries w.areas file request;
      are_most = are_most w file request held.area held.there held.named;
      again = λ few. answers.1 ∙ pending_again _ few;
      in_vain = λ many. answers.1 ∙ pending_in_vain _ many;
      areas = all_leave w file request own;
    })

pub returns-clause-others : goal.returns-clause-others
unfolding changed with_tables
returns-clause-others g c = λ settings before r file request errno run of_event answered.
    by_event settings before r run (λ new. SameOthers (world_of settings before) new) (event.Unmap file request)
    (reply.Pending errno) refl of_event answered
    (λ none answers. record {
      objects = refl;
      attachments = refl;
      memory = refl;
      allowed = refl;
      user_pages = refl;
      pins = refl;
      writes = refl;
      closed = refl;
      access_pins = refl;
    })
