use Rattle.std.proofs.Common.{refl}
use Rattle.iofd_words.specs.Accesses.{pin_of}
use Rattle.iofd_steps.specs.After.{changed, settle}
use Rattle.iofd_steps.specs.Run.{world_of}
use Rattle.iofd_words.specs.Tables.{with_tables}
use Rattle.iofd_words.specs.View.{view}
use Rattle.iofd_words.specs.declared.event.Event.TheVariants as event
use Rattle.iofd_words.specs.declared.reply.Reply.TheVariants as reply
use Rattle.iofd_rows.proofs.Each.{of_each}
use Rattle.iofd_runs.proofs.AccessesPassed.{access_unpin_passed}
use Rattle.iofd_runs.specs.PinsFit.{is_fitting_pin}
use Rattle.iofd_promises.specs.Holding.{HasPinLess}
use Rattle.iofd_promises.proofs.AccessPinRows.{equal_asked, taken_from}
use Rattle.iofd_promises.proofs.Facts.{pins_fit_of}
use Rattle.iofd_promises.proofs.Steps.{by_event, run_before}
use Rattle.iofd_promises.proofs.access.an_unpin_takes_just_one.Goals as goal

pub returns : goal.returns
unfolding changed settle with_tables
returns g c = λ settings before r file access request run of_event answered.
    let w = world_of settings before in
    let fit = pins_fit_of settings before (run_before settings before _ run) in
    by_event settings before r run (λ new. HasPinLess w new file access request)
    (event.AccessUnpin file access request) reply.Done refl of_event answered (λ none answers.
    let held = (access_unpin_passed (view w) file access request none).held in
    let taken = taken_from (pin_of file access request) w.access_pins held in
    record {
      pin = taken.taken;
      asked = equal_asked file access request taken.taken taken.equal
          (of_each is_fitting_pin w.access_pins taken.taken fit.spans taken.among);
      before = taken.before;
      later = taken.later;
      was = taken.was;
      left = taken.left;
      others = record {
        objects = refl;
        areas = refl;
        memory = refl;
        attachments = refl;
        allowed = refl;
        user_pages = refl;
        writes = refl;
        closed = refl;
      };
    })
