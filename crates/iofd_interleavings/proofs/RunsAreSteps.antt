-- A run is a list of steps, in which no device keeps anything.
use Rattle.std.proofs.Common.{◌≡◌, ◌+◌, List, [], ◌∷◌, ◌++◌, length, map, refl, sym, ap, ◌∙◌, subst, arith}
use Rattle.std.proofs.lemmas.List.{append-nil, append_assoc}
use Rattle.iofd_steps.specs.Run.{IsRun, Lawful, world_from, world_of}
use Rattle.iofd_words.specs.Record.{Record}
use Rattle.iofd_words.specs.Settings.{Settings}
use Rattle.iofd_words.specs.World.{opening}
use Rattle.iofd_runs.proofs.Runs.{lawful_at}
use Rattle.iofd_interleavings.specs.Steps.{AreSteps, AreStepsFrom, Made, State, Step, made_by, state_after, state_from}

abbrev pub no_caches : {A : Type 0} → List (Record A) → State A
no_caches records = record { records = records; caches = λ device. [] }

lawful_next : {A : Type 0} (settings : Settings) (before : List (Record A)) (r : Record A) (later : List (Record A))
    → IsRun settings (before ++ r ∷ later) → Lawful (length before) (world_of settings before) r
unfolding IsRun world_of
lawful_next settings before r later run =
    let same : 0 + length before ≡ length before = omega arith in
    subst (λ n. Lawful n (world_from 0 (opening settings) before) r) same
    (lawful_at 0 (opening settings) before r later run)

pub made_from : {A : Type 0} (settings : Settings) (records before : List (Record A))
    → IsRun settings (before ++ records)
    → AreStepsFrom settings (no_caches before) (map Made records)
    × (state_from (no_caches before) (map Made records) ≡ no_caches (before ++ records))
made_from settings [] before run = (tt, ap no_caches (sym (append-nil before)))
made_from {A = A} settings (r ∷ records) before run =
    let same : before ++ r ∷ [] ++ records ≡ before ++ r ∷ records = append_assoc before (r ∷ []) records in
    let rest = made_from settings records (before ++ r ∷ [])
    (subst (λ (rs : List (Record A)). IsRun settings rs) (sym same) run) in (
      ((lawful_next settings before r records run, λ device turn. refl), rest.0),
      rest.1 ∙ ap no_caches same,
    )

pub run_steps : {A : Type 0} (settings : Settings) (records : List (Record A)) → IsRun settings records
    → AreSteps settings (map Made records) × (state_after (map Made records) ≡ no_caches records)
unfolding AreSteps state_after
run_steps settings records run = made_from settings records [] run

pub steps_append : {A : Type 0} (settings : Settings) (s : State A) (first second : List (Step A))
    → AreStepsFrom settings s first → AreStepsFrom settings (state_from s first) second
    → AreStepsFrom settings s (first ++ second)
steps_append settings s [] second are more = more
steps_append settings s (step ∷ first) second are more =
    (are.0, steps_append settings (made_by s step) first second are.1 more)
