use Rattle.std.proofs.Common.{length}
use Rattle.iofd_steps.specs.Run.{world_of}
use Rattle.iofd_laws.proofs.KeepsFrames.{after_moves}
use Rattle.iofd_laws.proofs.every_run.pins_keep_their_frames.Goals as goal

pub returns : goal.returns
returns g c = λ settings before r page run. after_moves (world_of settings before) page (length before) r
