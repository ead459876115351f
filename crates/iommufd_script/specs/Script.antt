-- A whole script: the order of its lines, its first bad line, and what a script with no bad line says.
use Rattle.std.specs.Prelude.{ℕ, ◌+◌, ◌==◌, ◌&&◌, Bool, true, false, not, nat_lt, if◌then◌else◌}
use Rattle.std.specs.Prelude.{List, [], ◌∷◌, Option}
use Rattle.std.specs.Prelude.{Some, None}
use Rattle.iofd_words.specs.Settings.{is_between, is_device_in_limits}
use Rattle.iommufd_script.specs.Lines.{lines, line_of}
use Rattle.iommufd_script.specs.declared.line.HeadLine.{HeadLine}
use Rattle.iommufd_script.specs.declared.line.HeadLine.TheVariants as heading
use Rattle.iommufd_script.specs.declared.line.Line.{Line}
use Rattle.iommufd_script.specs.declared.line.Line.TheVariants as line
use Rattle.iommufd_script.specs.declared.line.Step.{Step}
use Rattle.iommufd_script.specs.declared.place.Place.{Place}

-- ---- the order of the lines, and the limits of the head

-- before the first line
abbrev pub start : Place
start = record { pool = false; users = 0; files = 0; devices = 0; begun = false }

-- whether such a line of the head may come here. One pool is first; then come 1 to 255 users, 1 to 1024 files
-- of these users, and at most 256 devices, the reserved spans of each within their limits.
abbrev pub allows : Place → HeadLine → Bool
allows place (heading.Pool frames) = not place.pool && is_between 1 4096 frames
allows place (heading.User limit) = place.pool && (place.files == 0) && nat_lt place.users 255
allows place (heading.File user) = is_between 1 place.users user.0 && (place.devices == 0) && nat_lt place.files 1024
allows place (heading.Device source width x86 reserved) =
    nat_lt 0 place.files
    && nat_lt place.devices 256
    && is_device_in_limits (record { source = source; width = width; x86 = x86; reserved = reserved })
allows place heading.Begin = nat_lt 0 place.files

-- the place behind it
abbrev pub behind : Place → HeadLine → Place
behind place (heading.Pool frames) = record place { pool = true }
behind place (heading.User limit) = record place { users = place.users + 1 }
behind place (heading.File user) = record place { files = place.files + 1 }
behind place (heading.Device source width x86 reserved) = record place { devices = place.devices + 1 }
behind place heading.Begin = record place { begun = true }

-- the place behind a line, if it may come here: lines of the head before `begin`, and steps behind it
abbrev pub after : Place → Option Line → Option Place
after place None = None
after place (Some line.Skipped) = Some place
after place (Some (line.Head heading)) =
    if not place.begun && allows place heading then Some (behind place heading) else None
after place (Some (line.Step step)) = if place.begun then Some place else None

-- ---- the first bad line, counted from 1

abbrev pub bad_or : ℕ → Option Place → (Place → Option ℕ) → Option ℕ
bad_or n None others = Some n
bad_or n (Some place) others = others place

-- the first bad one of these lines, which stand behind n others. A script that ends before `begin` lacks a line.
abbrev pub first_bad : ℕ → Place → List (List ℕ) → Option ℕ
first_bad n place [] = if place.begun then None else Some (n + 1)
first_bad n place (text ∷ texts) = bad_or (n + 1) (after place (line_of text)) (λ next. first_bad (n + 1) next texts)

unfoldable pub first_bad_line : List ℕ → Option ℕ
first_bad_line text = first_bad 0 start (lines text)

-- ---- the steps

abbrev pub step_before : Option Line → List Step → List Step
step_before None others = others
step_before (Some line.Skipped) others = others
step_before (Some (line.Head heading)) others = others
step_before (Some (line.Step step)) others = step ∷ others

abbrev pub steps_in : List (List ℕ) → List Step
steps_in [] = []
steps_in (text ∷ texts) = step_before (line_of text) (steps_in texts)

-- the steps of a text, in order
abbrev pub steps_of : List ℕ → List Step
steps_of text = steps_in (lines text)
