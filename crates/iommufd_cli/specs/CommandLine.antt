-- The program's command line, as clap's model of a command.
use Rattle.std.specs.Prelude.{◌≡◌, Bool, true, false, Some, None, Option, List, codes, option_map}
use Rattle.std.specs.Str.{bytes_eq}
use Rattle.clap.specs.Words.{App, Row, Rule, Shape, Text, new_app, first_of, new_rule, with_rule, with_subcommand}
use Rattle.clap.specs.declared.builder.action.ArgAction.TheVariants.{SetTrue}
use Rattle.iommufd_cli.specs.declared.command_line.Choice.{Choice}
use Rattle.iommufd_cli.specs.declared.command_line.Choice.TheVariants.{Audit, Session}

-- `iommufd`, which wants a subcommand, and answers with help where there is no word
abbrev pub wants_subcommand : Shape → Shape
wants_subcommand top = record top {
  disable_help_subcommand = true;
  arg_required_else_help = true;
  subcommand_required = true;
}

-- `--journal`, which takes no value
abbrev pub journal_rule : Rule
journal_rule =
    let bare = new_rule (codes "journal") in
    record bare { long = Some (codes "journal"); action = Some SetTrue }

-- `iommufd session`, which takes that flag
abbrev pub session_app : App
session_app = with_rule (new_app (codes "session")) journal_rule

-- and `iommufd audit`, which takes no word of its own
abbrev pub program : App
program =
    let bare = new_app (codes "iommufd") in
    with_subcommand
    (with_subcommand (record bare { top = wants_subcommand bare.top }) session_app.top)
    (new_app (codes "audit")).top

-- the flag is there where clap has a `true` for it
abbrev pub is_true : Option Text → Bool
is_true None = false
is_true (Some text) = bytes_eq text (codes "true")

-- the choice is the subcommand that clap met, with its flag
abbrev pub IsChosen : Choice → Option (Text × List Row) → Type 0
IsChosen (Session journal) met = (rows : List Row) × (met ≡ Some (codes "session", rows)) × (journal ≡ is_true (first_of (codes "journal") rows))
IsChosen Audit met = option_map (λ found. found.0) met ≡ Some (codes "audit")
