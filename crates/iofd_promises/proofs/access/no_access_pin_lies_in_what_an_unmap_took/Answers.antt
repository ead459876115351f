use Rattle.std.proofs.Common.{refl}
use Rattle.iofd_steps.specs.After.{changed, settle, without_areas}
use Rattle.iofd_steps.specs.Answers.{Answers}
use Rattle.iofd_steps.specs.Run.{world_of}
use Rattle.iofd_words.specs.Tables.{with_tables}
use Rattle.iofd_words.specs.declared.event.Event.TheVariants as event
use Rattle.iofd_words.specs.declared.reply.Reply.TheVariants as reply
use Rattle.iofd_rows.proofs.Bools.{not_true}
use Rattle.iofd_promises.specs.Unmaps.{LiesIn}
use Rattle.iofd_promises.proofs.Facts.{usable_of}
use Rattle.iofd_promises.proofs.Rows.{within}
use Rattle.iofd_promises.proofs.Steps.{by_event, run_before}
use Rattle.iofd_promises.proofs.Unmapped.{no_pin_lies}
use Rattle.iofd_promises.proofs.access.no_access_pin_lies_in_what_an_unmap_took.Goals as goal

pub returns : goal.returns
unfolding changed settle without_areas with_tables Answers
returns g c = λ settings before r file request count area pin run of_event answered has named.
    let w = world_of settings before in
    let own = (usable_of settings before (run_before settings before _ run)).sound.own_ids in
    by_event settings before r run (λ new. LiesIn new pin area → ⊥) (event.Unmap file request) (reply.Bytes count)
    refl of_event answered (λ none answers lies.
    no_pin_lies w file request area pin own (not_true _ answers.0) (within w.areas area has) named (record {
      there = lies.there;
      of_file = lies.of_file;
      access = lies.access;
      holds = lies.holds;
      access_file = lies.access_file;
      access_id = lies.access_id;
      attached = lies.attached;
      first = lies.first;
      last = lies.last;
    }))
