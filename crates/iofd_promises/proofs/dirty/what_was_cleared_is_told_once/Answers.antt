use Rattle.std.proofs.Common.{[], ◌∷◌, ◌++◌}
use Rattle.iofd_steps.specs.Run.{world_of}
use Rattle.iofd_promises.proofs.Steps.{run_before}
use Rattle.iofd_promises.proofs.dirty.Clearing.{clean_after, clean_answer, clean_reply}
use Rattle.iofd_promises.proofs.dirty.what_was_cleared_is_told_once.Goals as goal

pub returns-clause-asked : goal.returns-clause-asked
returns-clause-asked g c = λ settings before r file request words run asked told.
    clean_answer (world_of settings (before ++ r ∷ [])) (before ++ r ∷ []) file request
    (clean_after settings before r file request words run asked told)

pub returns-clause-cleared_again : goal.returns-clause-cleared_again
returns-clause-cleared_again g c = λ settings before r s file request words run asked told again.
    let first = run_before settings (before ++ r ∷ []) (s ∷ []) run in
    clean_reply settings (before ++ r ∷ []) s file request run
    (clean_after settings before r file request words first asked told) again
