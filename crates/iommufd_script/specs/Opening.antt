-- What a script opens a server with, and the whole of what it says.
use Rattle.std.specs.Prelude.{◌≡◌, ℕ, List, [], ◌∷◌, ◌++◌, Option, Some, None, Result, Ok, Err}
use Rattle.std.specs.List.{fold}
use Rattle.iofd_words.specs.Settings.{Settings}
use Rattle.iommufd_script.specs.Lines.{lines, line_of}
use Rattle.iommufd_script.specs.Script.{first_bad_line, steps_of}
use Rattle.iommufd_script.specs.declared.error.ScriptError.{ScriptError}
use Rattle.iommufd_script.specs.declared.error.ScriptError.TheVariants as errors
use Rattle.iommufd_script.specs.declared.line.HeadLine.{HeadLine}
use Rattle.iommufd_script.specs.declared.line.HeadLine.TheVariants as heading
use Rattle.iommufd_script.specs.declared.line.Line.{Line}
use Rattle.iommufd_script.specs.declared.line.Line.TheVariants as line
use Rattle.iommufd_script.specs.declared.line.Step.{Step}

-- what a line of the head adds
abbrev pub set_by : Settings → HeadLine → Settings
set_by settings (heading.Pool frames) = record settings { pool = frames }
set_by settings (heading.User limit) = record settings { users = settings.users ++ limit ∷ [] }
set_by settings (heading.File user) = record settings { files = settings.files ++ user ∷ [] }
set_by settings (heading.Device source width x86 reserved) = record settings {
  devices = settings.devices ++ record { source = source; width = width; x86 = x86; reserved = reserved } ∷ [];
}
set_by settings heading.Begin = settings

-- a script is of one pass
abbrev pub nothing_set : Settings
nothing_set = record { pool = 0; users = []; files = []; devices = []; passes = 1 }

-- a line of the head comes before the others, which end at `begin`
abbrev pub before : HeadLine → List HeadLine → List HeadLine
before (heading.Pool frames) others = heading.Pool frames ∷ others
before (heading.User limit) others = heading.User limit ∷ others
before (heading.File user) others = heading.File user ∷ others
before (heading.Device source width x86 reserved) others = heading.Device source width x86 reserved ∷ others
before heading.Begin others = []

abbrev pub heading_before : Option Line → List HeadLine → List HeadLine
heading_before None others = others
heading_before (Some line.Skipped) others = others
heading_before (Some (line.Head heading)) others = before heading others
heading_before (Some (line.Step step)) others = others

-- the lines of the head, up to `begin`
abbrev pub headings : List (List ℕ) → List HeadLine
headings [] = []
headings (text ∷ texts) = heading_before (line_of text) (headings texts)

unfoldable pub settings_of : List ℕ → Settings
settings_of text = fold set_by nothing_set (headings (lines text))

-- THE SCRIPT: its settings and its steps, or its first bad line
abbrev pub script_or : Settings → List Step → Option ℕ → Result (Settings × List Step) ℕ
script_or settings steps None = Ok (settings, steps)
script_or settings steps (Some n) = Err n

unfoldable pub script_of : List ℕ → Result (Settings × List Step) ℕ
script_of text = script_or (settings_of text) (steps_of text) (first_bad_line text)

-- the bad line that an error names
abbrev pub bad_line_in : ScriptError → Option ℕ
bad_line_in (errors.BadLine n) = Some n
bad_line_in errors.NoMemory = None

-- what a call answered for the script, where memory was there
abbrev pub Answers : {T : Type 0} → (T → Settings × List Step) → Result T ScriptError →
    Result (Settings × List Step) ℕ
    → Type 0
Answers view (Ok x) script = script ≡ Ok (view x)
Answers view (Err (errors.BadLine n)) script = script ≡ Err n
-- memory is asked for only where the script is good
Answers view (Err errors.NoMemory) script = (good : Settings × List Step) × (script ≡ Ok good)
