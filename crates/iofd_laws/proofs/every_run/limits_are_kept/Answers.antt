use Rattle.std.proofs.Common.{◌≡◌, ◌∙◌, length, refl, ap, arith}
use Rattle.iofd_words.specs.Files.{limit_of}
use Rattle.iofd_steps.specs.Run.{IsRun, world_of}
use Rattle.iofd_words.specs.Settings.{Settings}
use Rattle.iofd_words.specs.World.{opening}
use Rattle.iofd_laws.proofs.KeepsLimits.{KeptLimits, keeps_kept_limits, later_limits, opening_limits, tabled_limits}
use Rattle.iofd_runs.proofs.Runs.{run_keeps, run_keeps_at}
use Rattle.iofd_runs.proofs.SameSettings.{keeps_settings, tabled_settings}
use Rattle.iofd_laws.proofs.every_run.limits_are_kept.Goals as goal

pub returns : goal.returns
unfolding IsRun world_of
returns g c = λ settings records user limit run is.
    let kept : KeptLimits (length records) (world_of settings records) =
    run_keeps_at KeptLimits tabled_limits later_limits keeps_kept_limits 0 (length records) (opening settings) records
    (omega arith) run (opening_limits settings)
    in
    let same : (world_of settings records).settings ≡ settings =
    run_keeps (λ w. w.settings ≡ settings) (tabled_settings settings) (keeps_settings settings) 0
    (opening settings) records run refl in
    kept.limits user limit (ap (λ (s : Settings). limit_of s user) same ∙ is)
