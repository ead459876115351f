-- No event changes what a server was opened with.
use Rattle.std.proofs.Common.{◌≡◌, ℕ, None, List, ◌∙◌}
use Rattle.iofd_steps.specs.After.{changed}
use Rattle.iofd_steps.specs.Answers.{Answers}
use Rattle.iofd_refusals.specs.Checks.{refusal}
use Rattle.iofd_words.specs.Settings.{Settings}
use Rattle.iofd_words.specs.Tables.{with_tables}
use Rattle.iofd_words.specs.World.{World}
use Rattle.iofd_words.specs.declared.event.Event.{Event}
use Rattle.iofd_words.specs.declared.numbers.FrameNo.{FrameNo}
use Rattle.iofd_words.specs.declared.reply.Reply.{Reply}
use Rattle.iofd_runs.proofs.Moves.{changed_moves}

pub changed_settings : {A : Type 0} → (at : ℕ) (w : World) (e : Event A) (answer : Reply)
    → (changed at w e answer).settings ≡ w.settings
changed_settings at w e answer = (changed_moves at w e answer).settings

-- for a run
pub keeps_settings : {A : Type 0} → (settings : Settings) (at : ℕ) (w : World) (e : Event A) (answer : Reply)
    → refusal w e ≡ None → Answers w e answer → w.settings ≡ settings → (changed at w e answer).settings ≡ settings
keeps_settings settings at w e answer none answers is = changed_settings at w e answer ∙ is

pub tabled_settings : (settings : Settings) (w : World) (taken given : List FrameNo) → w.settings ≡ settings
    → (with_tables taken given w).settings ≡ settings
unfolding with_tables
tabled_settings settings w taken given is = is
