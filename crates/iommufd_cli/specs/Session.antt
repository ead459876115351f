-- A whole session: what is written for the bytes of a script.
use Rattle.std.specs.Prelude.{◌≡◌, ◌⊎◌, ℕ, Bool, Ok, Err, List, [], ◌∷◌, ◌++◌}
use Rattle.iofd_words.specs.Settings.{Settings}
use Rattle.iommufd_cli.specs.Journal.{EndText}
use Rattle.iommufd_cli.specs.Replies.{bad_line_text, line, no_memory_text}
use Rattle.iommufd_cli.specs.Steps.{IsAnswered}
use Rattle.iommufd_core.specs.Server.{Server}
use Rattle.iommufd_script.specs.Opening.{script_of}
use Rattle.iommufd_script.specs.declared.line.Step.{Step}

module _ {A : Type 0} where
  -- the lines of the steps, from one server to another
  abbrev pub StepsLines : Server A → List Step → List ℕ → Server A → Type 0
  StepsLines s [] out last = (out ≡ []) × (last ≡ s)
  StepsLines s (step ∷ steps) out last =
      (text : List ℕ) × (after : Server A) × (rest : List ℕ) × IsAnswered s step text after
      × StepsLines after steps rest last × (out ≡ text ++ rest)

  -- and behind them the journal, where it is asked for
  pub record StepsText (journal : Bool) (settings : Settings) (s : Server A) (steps : List Step)
      (out : List ℕ) : Type 0 where
    pub last : Server A
    pub lines : List ℕ
    pub lines_are : StepsLines s steps lines last
    pub end : List ℕ
    pub end_is : EndText journal settings last.history.records end
    pub out_is : out ≡ lines ++ end

-- all lines of a session, and its journal where it is asked for, by a server that was just opened
abbrev pub SessionText : Type 0 → Settings → List Step → Bool → List ℕ → Type 0
SessionText A settings steps journal out =
    (s : Server A) × (s.history ≡ record { settings = settings; records = [] })
    × StepsText journal settings s steps out

-- the script has a bad line: its number alone, and status 1
pub record IsBad (input out : List ℕ) (status : ℕ) : Type 0 where
  pub number : ℕ
  pub bad : script_of input ≡ Err number
  pub out_is : out ≡ line (bad_line_text number)
  pub status_is : status ≡ 1

-- a good script: the lines of its steps, and status 0
pub record IsGood (A : Type 0) (input : List ℕ) (journal : Bool) (out : List ℕ) (status : ℕ) : Type 0 where
  pub settings : Settings
  pub steps : List Step
  pub good : script_of input ≡ Ok (settings, steps)
  pub lines : SessionText A settings steps journal out
  pub status_is : status ≡ 0

-- no memory: that alone, and status 1
pub record IsWithoutMemory (out : List ℕ) (status : ℕ) : Type 0 where
  pub out_is : out ≡ line no_memory_text
  pub status_is : status ≡ 1

-- what is written for a head and steps: their lines and status 0, or that there is no memory to open a server
abbrev pub IsRunText : Type 0 → Settings → List Step → Bool → List ℕ → ℕ → Type 0
IsRunText A settings steps journal out status =
    (SessionText A settings steps journal out × (status ≡ 0)) ⊎ IsWithoutMemory out status

-- a text of a script whose bytes are at hand, and the status: a bad one needs no memory
abbrev pub IsReadText : Type 0 → List ℕ → Bool → List ℕ → ℕ → Type 0
IsReadText A input journal out status =
    IsBad input out status ⊎ IsGood A input journal out status
    ⊎ (IsWithoutMemory out status × (good : Settings × List Step) × (script_of input ≡ Ok good))

-- a text of the script, and the status
abbrev pub IsText : Type 0 → List ℕ → Bool → List ℕ → ℕ → Type 0
IsText A input journal out status =
    IsBad input out status ⊎ IsGood A input journal out status ⊎ IsWithoutMemory out status
