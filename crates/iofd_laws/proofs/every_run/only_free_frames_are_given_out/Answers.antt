use Rattle.iofd_steps.specs.Run.{IsRun, world_of}
use Rattle.iofd_words.specs.World.{opening}
use Rattle.iofd_laws.proofs.OwnFrames.{lawful_frame, lawful_taken}
use Rattle.iofd_runs.proofs.Runs.{lawful_at}
use Rattle.iofd_laws.proofs.every_run.only_free_frames_are_given_out.Goals as goal

pub returns-clause-to_users : goal.returns-clause-to_users
unfolding IsRun world_of
returns-clause-to_users g c = λ settings before r later frame run is. lawful_frame _ _ r frame
    (lawful_at 0 (opening settings) before r later run) is

pub returns-clause-for_tables : goal.returns-clause-for_tables
unfolding IsRun world_of
returns-clause-for_tables g c = λ settings before r later frame run has. lawful_taken _ _ r frame
    (lawful_at 0 (opening settings) before r later run) has
