use Rattle.iofd_steps.specs.Run.{world_of}
use Rattle.iofd_promises.proofs.UserPages.{user_reads}
use Rattle.iofd_promises.proofs.memory.reads_answer_what_stands_there.Goals as goal

pub returns : goal.returns
returns g c = λ settings records user va len bytes run answers. user_reads (world_of settings records) records
    user va len bytes answers
