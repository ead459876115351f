use Rattle.std.proofs.Common.{refl}
use Rattle.iofd_words.specs.Accesses.{pin_of}
use Rattle.iofd_steps.specs.After.{changed, settle}
use Rattle.iofd_steps.specs.Run.{world_of}
use Rattle.iofd_words.specs.Tables.{with_tables}
use Rattle.iofd_words.specs.View.{view}
use Rattle.iofd_words.specs.declared.event.Event.TheVariants as event
use Rattle.iofd_words.specs.declared.reply.Reply.TheVariants as reply
use Rattle.iofd_runs.proofs.AccessesPassed.{pin_passed}
use Rattle.iofd_promises.specs.Holding.{HasPinMore}
use Rattle.iofd_promises.proofs.AccessPinRows.{asked_pin}
use Rattle.iofd_promises.proofs.Steps.{by_event}
use Rattle.iofd_promises.proofs.access.a_pin_adds_just_itself.Goals as goal

pub returns : goal.returns
unfolding changed settle with_tables
returns g c = λ settings before r file access request run of_event answered.
    let w = world_of settings before in
    by_event settings before r run (λ new. HasPinMore w new file access request)
    (event.AccessPin file access request) reply.Done refl of_event answered (λ none answers.
    let (ioas, passed) = pin_passed (view w) file access request none in
    record {
      pin = pin_of file access request;
      asked = asked_pin file access request passed.some;
      added = refl;
      others = record {
        objects = refl;
        areas = refl;
        memory = refl;
        attachments = refl;
        allowed = refl;
        user_pages = refl;
        writes = refl;
        closed = refl;
      };
    })
