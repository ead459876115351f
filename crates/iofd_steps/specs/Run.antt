-- One step, and a run of steps from the opening.
use Rattle.std.specs.Prelude.{◌≡◌, ℕ, ◌+◌, Option, Some, None, List, [], ◌∷◌}
use Rattle.iofd_steps.specs.After.{changed}
use Rattle.iofd_steps.specs.Answers.{Answers}
use Rattle.iofd_refusals.specs.Checks.{refusal}
use Rattle.iofd_words.specs.Record.{Record}
use Rattle.iofd_words.specs.Settings.{Settings}
use Rattle.iofd_words.specs.Tables.{MovesTables, with_tables}
use Rattle.iofd_words.specs.World.{World, opening}
use Rattle.iofd_words.specs.declared.refusal.Cause.{Cause}
use Rattle.iofd_words.specs.declared.reply.Reply.TheVariants as reply

-- the answer is that refusal, or where nothing refuses, a lawful one
abbrev pub IsAnswer : {A : Type 0} → World → Record A → Option Cause → Type 0
IsAnswer w r (Some cause) = r.reply ≡ reply.Refused (record { cause = cause })
IsAnswer w r None = Answers w r.event r.reply

-- a refused event moves no table frames; else they are those that the world after it lacks, or doesn't need any more
abbrev pub MovesFrames : {A : Type 0} → ℕ → World → Record A → Option Cause → Type 0
MovesFrames at w r (Some cause) = (r.taken ≡ []) × (r.given ≡ [])
MovesFrames at w r None = MovesTables w (changed at w r.event r.reply) r.event r.reply r.taken r.given

-- the record is one that may be made in this world, at this position
unfoldable pub Lawful : {A : Type 0} → ℕ → World → Record A → Type 0
Lawful at w r = IsAnswer w r (refusal w r.event) × MovesFrames at w r (refusal w r.event)

-- a refused event leaves the world as it was
abbrev pub after_answer : {A : Type 0} → ℕ → World → Record A → Option Cause → World
after_answer at w r (Some cause) = w
after_answer at w r None = with_tables r.taken r.given (changed at w r.event r.reply)

-- the world after the record at this position
unfoldable pub after : {A : Type 0} → ℕ → World → Record A → World
after at w r = after_answer at w r (refusal w r.event)

-- each record is lawful in the world that those before it have left
abbrev pub IsRunFrom : {A : Type 0} → ℕ → World → List (Record A) → Type 0
IsRunFrom at w [] = Unit {0}
IsRunFrom at w (r ∷ rs) = Lawful at w r × IsRunFrom (at + 1) (after at w r) rs

abbrev pub world_from : {A : Type 0} → ℕ → World → List (Record A) → World
world_from at w [] = w
world_from at w (r ∷ rs) = world_from (at + 1) (after at w r) rs

-- a run from the opening
unfoldable pub IsRun : {A : Type 0} → Settings → List (Record A) → Type 0
IsRun settings records = IsRunFrom 0 (opening settings) records

-- the world that a run leaves
unfoldable pub world_of : {A : Type 0} → Settings → List (Record A) → World
world_of settings records = world_from 0 (opening settings) records
