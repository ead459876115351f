-- What a session leaves where reading or writing fails.
use Rattle.std.specs.Prelude.{◌≡◌, ◌≢◌, ◌⊎◌, ◌<◌, ◌≤◌, ◌^◌, ℕ, Bool, Ok, Err, IfSome}
use Rattle.std.specs.Prelude.{Option, List, [], ◌++◌, length}
use Rattle.std.specs.Io.KnownBytes.{Keeps}
use Rattle.std.specs.IoError.{error_kind}
use Rattle.std.specs.declared.io.ErrorKind.TheVariants.{OutOfMemory}
use Rattle.iofd_words.specs.Record.{Record}
use Rattle.iofd_words.specs.Settings.{Settings}
use Rattle.iommufd_cli.specs.Journal.{EndText}
use Rattle.iommufd_cli.specs.Output.{IsFinal, IsFront, Writes}
use Rattle.iommufd_cli.specs.Replies.{bad_line_text, line, no_memory_text}
use Rattle.iommufd_cli.specs.Session.{IsWithoutMemory, StepsLines, StepsText}
use Rattle.iommufd_cli.specs.declared.fault.CliFault.{CliFault}
use Rattle.iommufd_cli.specs.declared.fault.CliFault.TheVariants as fault
use Rattle.iommufd_cli.specs.declared.fault.InputFault.TheVariants as input
use Rattle.iommufd_core.specs.Server.{Server}
use Rattle.iommufd_script.specs.Opening.{script_of}
use Rattle.iommufd_script.specs.declared.line.Step.{Step}

module _ {A : Type 0} where
  -- of the lines of the first steps, from this server on, the first bytes and not all
  pub record BeginsSteps (s : Server A) (steps : List Step) (out : List ℕ) : Type 0 where
    pub first : List Step
    pub others : List Step
    pub split : steps ≡ first ++ others
    pub last : Server A
    pub text : List ℕ
    pub lines : StepsLines s first text last
    pub front : IsFront out text

  -- the first bytes of what stands behind the lines, and not all
  abbrev pub BeginsEnd : Bool → Settings → List (Record A) → List ℕ → Type 0
  BeginsEnd journal settings records out =
      (text : List ℕ) × EndText journal settings records text × IsFront out text

  -- of the first lines, or of all of them with what stands behind
  abbrev pub BeginsLines : Bool → Settings → Server A → List Step → List ℕ → Type 0
  BeginsLines journal settings s steps out =
      BeginsSteps s steps out ⊎ ((text : List ℕ) × StepsText journal settings s steps text × IsFront out text)

-- the first bytes of a session's text, and not all, by a server that was just opened
abbrev pub BeginsSession : Type 0 → Settings → List Step → Bool → List ℕ → Type 0
BeginsSession A settings steps journal out =
    (s : Server A) × (s.history ≡ record { settings = settings; records = [] })
    × BeginsLines journal settings s steps out

-- a beginning of what is written for a head and steps
abbrev pub BeginsRunText : Type 0 → Settings → List Step → Bool → List ℕ → Type 0
BeginsRunText A settings steps journal out =
    BeginsSession A settings steps journal out ⊎ IsFront out (line no_memory_text)

-- a beginning of a bad script's line
pub record BeginsBad (input out : List ℕ) : Type 0 where
  pub number : ℕ
  pub bad : script_of input ≡ Err number
  pub front : IsFront out (line (bad_line_text number))

-- a beginning of a good script's lines
pub record BeginsGood (A : Type 0) (input : List ℕ) (journal : Bool) (out : List ℕ) : Type 0 where
  pub settings : Settings
  pub steps : List Step
  pub good : script_of input ≡ Ok (settings, steps)
  pub lines : BeginsSession A settings steps journal out

-- a beginning of a text of the script, and not all of it
abbrev pub BeginsText : Type 0 → List ℕ → Bool → List ℕ → Type 0
BeginsText A input journal out =
    BeginsBad input out ⊎ BeginsGood A input journal out ⊎ IsFront out (line no_memory_text)

-- a script of more bytes is never carried out
abbrev pub IsWithin : List ℕ → List ℕ → ℕ → Type 0
IsWithin input out status = (length input ≤ 2 ^ 24) ⊎ IsWithoutMemory out status

-- and no part of it either
abbrev pub BeginsWithin : List ℕ → List ℕ → Type 0
BeginsWithin input out = (length input ≤ 2 ^ 24) ⊎ IsFront out (line no_memory_text)

-- a fault of a reader that had these bytes, where they are known; want of memory is none
abbrev pub IsReadFault : CliFault → Option (List ℕ) → Type 0
IsReadFault (fault.Input input.TooLong) known = IfSome known (λ bytes. 2 ^ 24 < length bytes)
IsReadFault (fault.Input (input.Read error)) known = IsFinal error × (error_kind error ≢ OutOfMemory)
IsReadFault (fault.Output error) known = ⊥

-- what a fault leaves: of a reader's nothing was written, and of a writer's a beginning of a text
abbrev pub Leaves : Type 0 → CliFault → Option (List ℕ) → Bool → Option (List ℕ) → Option (List ℕ) → Type 0
Leaves A (fault.Input reason) known journal old new = IsReadFault (fault.Input reason) known × Keeps old new
Leaves A (fault.Output error) known journal old new =
    IsFinal error
    × IfSome known (λ input. Writes (λ out. BeginsText A input journal out × BeginsWithin input out) old new)
