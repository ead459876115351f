use Rattle.std.proofs.Common.{◌%◌, refl}
use Rattle.iofd_steps.specs.After.{changed}
use Rattle.iofd_steps.specs.Run.{world_of}
use Rattle.iofd_words.specs.Tables.{with_tables}
use Rattle.iofd_words.specs.declared.event.Event.TheVariants as event
use Rattle.iofd_words.specs.declared.reply.Reply.TheVariants as reply
use Rattle.iofd_promises.specs.Bytes.{ChangesJust}
use Rattle.iofd_promises.proofs.Bytes.{reads_others, reads_written}
use Rattle.iofd_promises.proofs.Steps.{by_event}
use Rattle.iofd_promises.proofs.memory.passed_writes_change_just_their_bytes.Goals as goal

pub returns : goal.returns
unfolding changed with_tables
returns g c = λ settings before r device iova bytes frame run of_event answered.
    let w = world_of settings before in
    by_event settings before r run (λ new. ChangesJust w new frame.0 (iova.0 % 4096) bytes)
    (event.DeviceWrite device iova bytes) (reply.Passed frame) refl of_event answered (λ none answers. record {
      written = reads_written w.writes frame.0 (iova.0 % 4096) bytes;
      others = reads_others w.writes frame.0 (iova.0 % 4096) bytes;
    })
