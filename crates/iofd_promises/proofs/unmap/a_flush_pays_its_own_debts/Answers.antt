use Rattle.std.proofs.Common.{refl}
use Rattle.iofd_steps.specs.After.{changed}
use Rattle.iofd_steps.specs.Run.{world_of}
use Rattle.iofd_words.specs.Tables.{with_tables}
use Rattle.iofd_words.specs.declared.event.Event.TheVariants as event
use Rattle.iofd_words.specs.declared.reply.Reply.TheVariants as reply
use Rattle.iofd_promises.specs.Unmaps.{AllPaid, SameOthers}
use Rattle.iofd_promises.proofs.Steps.{by_event}
use Rattle.iofd_promises.proofs.Unmapped.{all_pay}
use Rattle.iofd_promises.proofs.unmap.a_flush_pays_its_own_debts.Goals as goal

pub returns-clause-paid : goal.returns-clause-paid
unfolding changed with_tables
returns-clause-paid g c = λ settings before r device run of_event answered.
    by_event settings before r run (λ new. AllPaid device (world_of settings before).areas new.areas)
    (event.Flush device) reply.Done refl of_event answered
    (λ none answers. all_pay device (world_of settings before).areas)

pub returns-clause-others : goal.returns-clause-others
unfolding changed with_tables
returns-clause-others g c = λ settings before r device run of_event answered.
    by_event settings before r run (λ new. SameOthers (world_of settings before) new) (event.Flush device)
    reply.Done refl of_event answered
    (λ none answers. record {
      objects = refl;
      attachments = refl;
      memory = refl;
      allowed = refl;
      user_pages = refl;
      pins = refl;
      writes = refl;
      closed = refl;
      access_pins = refl;
    })
