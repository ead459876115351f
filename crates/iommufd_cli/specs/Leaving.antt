-- Which server a session leaves to its caller: that of the run of which its text tells, behind the last step that was
-- carried out. A text of one line alone tells of no run, and what the caller had before stays.
use Rattle.std.proofs.Common.{inl, inr}
use Rattle.std.specs.Option.{option_or}
use Rattle.std.specs.Prelude.{◌≡◌, ◌⊎◌, ℕ, Bool, Option, Some, None, List, IfSome}
use Rattle.iofd_words.specs.Settings.{Settings}
use Rattle.iommufd_cli.specs.Failures.{BeginsLines, BeginsRunText, BeginsSession, BeginsText, BeginsWithin, Leaves}
use Rattle.iommufd_cli.specs.Output.{IsFinal, Writes}
use Rattle.iommufd_cli.specs.Session.{IsGood, IsRunText, SessionText}
use Rattle.iommufd_cli.specs.declared.fault.CliFault.{CliFault}
use Rattle.iommufd_cli.specs.declared.fault.CliFault.TheVariants as fault
use Rattle.iommufd_core.specs.Server.{Server}
use Rattle.iommufd_script.specs.declared.line.Step.{Step}

module _ {A : Type 0} {journal : Bool} {out : List ℕ} where
  -- behind the last step of a session
  abbrev pub last_of : {settings : Settings} {steps : List Step} → SessionText A settings steps journal out → Server A
  last_of (s, opened, text) = text.last

  -- the server that is left with a text of the script: that of a good one's run, and none with one line alone
  abbrev pub server_of : {input : List ℕ} {status : ℕ} {Bad Without : Type 0}
      → Bad ⊎ IsGood A input journal out status ⊎ Without → Option (Server A)
  server_of (inl bad) = None
  server_of (inr (inl good)) = Some (last_of good.lines)
  server_of (inr (inr without)) = None

  -- with what is written for a head and steps
  abbrev pub server_of_run : {settings : Settings} {steps : List Step} {status : ℕ}
      → IsRunText A settings steps journal out status → Option (Server A)
  server_of_run (inl lines) = Some (last_of lines.0)
  server_of_run (inr without) = None

  -- where writing failed: behind the first steps, or behind all of them
  abbrev pub last_of_lines : {settings : Settings} {s : Server A} {steps : List Step}
      → BeginsLines journal settings s steps out → Server A
  last_of_lines (inl begun) = begun.last
  last_of_lines (inr (text, lines, front)) = lines.last

  -- the same of a session
  abbrev pub last_of_begun : {settings : Settings} {steps : List Step}
      → BeginsSession A settings steps journal out → Server A
  last_of_begun (s, opened, begun) = last_of_lines begun

  -- the server that is left with a beginning of a text of the script
  abbrev pub server_of_begun : {input : List ℕ} → BeginsText A input journal out → Option (Server A)
  server_of_begun (inl bad) = None
  server_of_begun (inr (inl good)) = Some (last_of_begun good.lines)
  server_of_begun (inr (inr without)) = None

  -- with a beginning of what is written for a head and steps
  abbrev pub server_of_begun_run : {settings : Settings} {steps : List Step}
      → BeginsRunText A settings steps journal out → Option (Server A)
  server_of_begun_run (inl lines) = Some (last_of_begun lines)
  server_of_begun_run (inr without) = None

-- what a fault leaves, and of the servers: one of a reader what was there before, and one of the writer the server that
-- is left with the text that was begun
abbrev pub LeavesServer : (A : Type 0) → CliFault → Option (List ℕ) → Bool → Option (List ℕ) → Option (List ℕ)
    → Option (Server A) → Option (Server A) → Type 0
LeavesServer A (fault.Input reason) known journal old new before after =
    Leaves A (fault.Input reason) known journal old new × (after ≡ before)
LeavesServer A (fault.Output error) known journal old new before after =
    IsFinal error
    × IfSome known (λ input. Writes (λ out. (begun : BeginsText A input journal out) × BeginsWithin input out
    × (after ≡ option_or (server_of_begun begun) before)) old new)
