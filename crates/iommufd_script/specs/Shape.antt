-- A good script, apart from how it's read: the head's lines in their order, and then the steps.
use Rattle.std.specs.Prelude.{◌≡◌, ℕ, ◌+◌, ◌-◌, ◌≤◌, take, List, [], ◌∷◌, ◌++◌}
use Rattle.std.specs.Prelude.{length, map, Option, Some, None}
use Rattle.std.specs.Prelude.{option_map}
use Rattle.std.specs.Option.{option_and_then}
use Rattle.iofd_words.specs.Limits.{first_outside}
use Rattle.iofd_words.specs.Settings.{Settings, DeviceSettings}
use Rattle.iofd_words.specs.declared.numbers.UserNo.{UserNo}
use Rattle.iommufd_script.specs.Lines.{line_of}
use Rattle.iommufd_script.specs.declared.line.HeadLine.TheVariants as heading
use Rattle.iommufd_script.specs.declared.line.Line.{Line}
use Rattle.iommufd_script.specs.declared.line.Line.TheVariants as line
use Rattle.iommufd_script.specs.declared.line.Step.{Step}

abbrev pub unless_skipped : Line → List Line → List Line
unless_skipped line.Skipped others = others
unless_skipped (line.Head heading) others = line.Head heading ∷ others
unless_skipped (line.Step step) others = line.Step step ∷ others

-- what the lines say, where each is of the grammar; empty lines and comments are left out
abbrev pub said : List (List ℕ) → Option (List Line)
said [] = Some []
said (text ∷ texts) =
    option_and_then (λ first. option_map (λ others. unless_skipped first others) (said texts)) (line_of text)

abbrev pub user_line : ℕ → Line
user_line limit = line.Head (heading.User limit)

abbrev pub file_line : UserNo → Line
file_line user = line.Head (heading.File user)

abbrev pub device_line : DeviceSettings → Line
device_line device = line.Head (heading.Device device.source device.width device.x86 device.reserved)

-- the pool; the users, the files and the devices in their order; `begin`; the steps
abbrev pub in_order : Settings → List Step → List Line
in_order settings steps =
    line.Head (heading.Pool settings.pool)
    ∷ (map user_line settings.users
    ++ (map file_line settings.files
    ++ (map device_line settings.devices
    ++ (line.Head heading.Begin ∷ map (λ step. line.Step step) steps))))

-- THE GOOD SCRIPTS: the lines are a script of these settings and these steps
pub record IsScript (texts : List (List ℕ)) (settings : Settings) (steps : List Step) : Type 0 where
  pub said_so : said texts ≡ Some (in_order settings steps)
  pub within : first_outside settings ≡ None
  pub one_pass : settings.passes ≡ 1

-- the lines may still become a good script
abbrev pub IsBeginning : List (List ℕ) → Type 0
IsBeginning texts =
    (more : List (List ℕ)) × (settings : Settings) × (steps : List Step) × IsScript (texts ++ more) settings steps

-- N of `bad line N`: the lines before it may still become a good script, and with it they can't. Where there is
-- no such line among them, N is the number of lines plus 1.
pub record IsFirstBad (texts : List (List ℕ)) (n : ℕ) : Type 0 where
  pub from_one : 1 ≤ n
  pub within_one : n ≤ length texts + 1
  pub before : IsBeginning (take (n - 1) texts)
  pub at : n ≤ length texts → ¬ (IsBeginning (take n texts))
