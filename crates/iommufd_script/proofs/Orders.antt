-- A text whose lines say the head in its order, within the limits, and then the steps, is read as these.
use Rattle.std.proofs.Common.{◌≡◌, ℕ, ◌+◌, ◌<◌, ◌≤◌, Bool, true, false, ◌&&◌, not, cond, ltb, leb, nat_le, List, []}
use Rattle.std.proofs.Common.{◌∷◌, ◌++◌, length, map, option_map, append_assoc, Option, Some, None, Result, Ok, refl}
use Rattle.std.proofs.Common.{sym, ap, subst, ◌∙◌, arith}
use Rattle.std.proofs.lemmas.Bool.{lt-ltb, leb-true}
use Rattle.std.proofs.lemmas.List.{append-nil}
use Rattle.std.specs.List.{fold, list_all}
use Rattle.std.specs.Option.{option_and_then}
use Rattle.iofd_words.specs.Limits.{first_outside}
use Rattle.iofd_words.specs.Settings.{Settings, DeviceSettings, is_between, is_device_in_limits}
use Rattle.iofd_words.specs.declared.config.ConfigError.TheVariants as field
use Rattle.iofd_words.specs.declared.numbers.UserNo.{UserNo}
use Rattle.iommufd_script.specs.Lines.{lines, line_of}
use Rattle.iommufd_script.specs.Script.{start, after, bad_or, first_bad, first_bad_line, step_before, steps_in}
use Rattle.iommufd_script.specs.Script.{steps_of}
use Rattle.iommufd_script.specs.Opening.{set_by, nothing_set, headings, heading_before, settings_of, script_or}
use Rattle.iommufd_script.specs.Opening.{script_of}
use Rattle.iommufd_script.specs.Shape.{unless_skipped, said, user_line, file_line, device_line, in_order, IsScript}
use Rattle.iommufd_script.specs.declared.line.HeadLine.{HeadLine}
use Rattle.iommufd_script.specs.declared.line.HeadLine.TheVariants as heading
use Rattle.iommufd_script.specs.declared.line.Line.{Line}
use Rattle.iommufd_script.specs.declared.line.Line.TheVariants as line
use Rattle.iommufd_script.specs.declared.line.Step.{Step}
use Rattle.iommufd_script.specs.declared.place.Place.{Place}
use Rattle.iommufd_script.proofs.Bools.{and-parts}

-- ---- reading what was said, whatever was skipped

abbrev if_some : Option Place → (Place → Bool) → Bool
if_some None goes = false
if_some (Some p) goes = goes p

-- whether these lines may stand here, up to the end
abbrev run : Place → List Line → Bool
run p [] = p.begun
run p (l ∷ more) = if_some (after p (Some l)) (λ next. run next more)

abbrev heads : List Line → List HeadLine
heads [] = []
heads (l ∷ more) = heading_before (Some l) (heads more)

abbrev steps_said : List Line → List Step
steps_said [] = []
steps_said (l ∷ more) = step_before (Some l) (steps_said more)

-- what was said determines what is read
record IsReadSo (n : ℕ) (p : Place) (w : List Line) (bad : Option ℕ) (hs : List HeadLine) (steps : List Step) : Type 0
  where
    bad_is : run p w ≡ true → bad ≡ None
    heads_are : hs ≡ heads w
    steps_are : steps ≡ steps_said w

abbrev ReadSo : ℕ → List (List ℕ) → Type 0
ReadSo n texts = (p : Place) (w : List Line) → said texts ≡ Some w
    → IsReadSo n p w (first_bad n p texts) (headings texts) (steps_in texts)

some_said : (more : Option (List Line)) (l : Line) (w : List Line)
    → option_map (λ others. unless_skipped l others) more ≡ Some w → (rest : List Line) × (more ≡ Some rest)
    × (unless_skipped l rest ≡ w)
some_said None l w e = absurd cc
some_said (Some rest) l w e = (rest, refl, cc)

run_some : (o : Option Place) (n : ℕ) (goes : Place → Bool) (others : Place → Option ℕ)
    → ((next : Place) → goes next ≡ true → others next ≡ None) → if_some o goes ≡ true → bad_or n o others ≡ None
run_some None n goes others h e = absurd cc
run_some (Some next) n goes others h e = h next e

said_line : (n : ℕ) (texts : List (List ℕ)) → ReadSo (n + 1) texts → (p : Place) (w : List Line) (l : Option Line)
    → option_and_then (λ first. option_map (λ others. unless_skipped first others) (said texts)) l ≡ Some w
    → IsReadSo n p w (bad_or (n + 1) (after p l) (λ next. first_bad (n + 1) next texts))
    (heading_before l (headings texts)) (step_before l (steps_in texts))
said_line n texts others p w None e = absurd cc
said_line n texts others p w (Some line.Skipped) e =
    let found = some_said (said texts) line.Skipped w e in
    let read = others p w (found.1 ∙ ap Some found.2) in
    record { bad_is = read.bad_is; heads_are = read.heads_are; steps_are = read.steps_are }
said_line n texts others p w (Some (line.Head h)) e =
    let found = some_said (said texts) (line.Head h) w e in
    let read = others p found.0 found.1 in
    record {
      bad_is = λ goes. run_some (after p (Some (line.Head h))) (n + 1) (λ next. run next found.0)
          (λ next. first_bad (n + 1) next texts)
          (λ next h. let there = others next found.0 found.1 in there.bad_is h)
          (subst (λ (v : List Line). run p v ≡ true) (sym found.2) goes);
      heads_are = ap (heading_before (Some (line.Head h))) read.heads_are ∙ ap heads found.2;
      steps_are = read.steps_are ∙ ap steps_said found.2;
    }
said_line n texts others p w (Some (line.Step step)) e =
    let found = some_said (said texts) (line.Step step) w e in
    let read = others p found.0 found.1 in
    record {
      bad_is = λ goes. run_some (after p (Some (line.Step step))) (n + 1) (λ next. run next found.0)
          (λ next. first_bad (n + 1) next texts)
          (λ next h. let there = others next found.0 found.1 in there.bad_is h)
          (subst (λ (v : List Line). run p v ≡ true) (sym found.2) goes);
      heads_are = read.heads_are ∙ ap heads found.2;
      steps_are = ap (λ (rest : List Step). step ∷ rest) read.steps_are ∙ ap steps_said found.2;
    }

end_bad : (n : ℕ) (b : Bool) → b ≡ true → cond b None (Some (n + 1)) ≡ None
end_bad n true e = refl
end_bad n false e = absurd cc

read_so : (n : ℕ) (texts : List (List ℕ)) → ReadSo n texts
read_so n [] p w e =
    let none : [] ≡ w = cc in
    record {
      bad_is = λ goes. end_bad n p.begun (subst (λ (v : List Line). run p v ≡ true) (sym none) goes);
      heads_are = ap heads none;
      steps_are = ap steps_said none;
    }
read_so n (text ∷ texts) p w e =
    let read = said_line n texts (read_so (n + 1) texts) p w (line_of text) e in
    record { bad_is = read.bad_is; heads_are = read.heads_are; steps_are = read.steps_are }

-- ---- the parts of the head, each in its turn

abbrev at : ℕ → ℕ → ℕ → Place
at users files devices = record { pool = true; users = users; files = files; devices = devices; begun = false }

users_run : (u : ℕ) (users : List ℕ) (more : List Line) → u + length users ≤ 255
    → run (at u 0 0) (map user_line users ++ more) ≡ run (at (u + length users) 0 0) more
users_run u [] more h = ap (λ (k : ℕ). run (at k 0 0) more) (omega arith)
users_run u (limit ∷ users) more h =
    let room : ltb u 255 ≡ true = lt-ltb u 255 (omega arith) in
    let next = users_run (u + 1) users more (omega arith) in
    let count : u + 1 + length users ≡ u + length (limit ∷ users) = omega arith in
    rw room (next ∙ ap (λ (k : ℕ). run (at k 0 0) more) count)

files_run : (u f : ℕ) (files : List UserNo) (more : List Line) → f + length files ≤ 1024
    → list_all (λ user. is_between 1 u user.0) files ≡ true
    → run (at u f 0) (map file_line files ++ more) ≡ run (at u (f + length files) 0) more
files_run u f [] more h e = ap (λ (k : ℕ). run (at u k 0) more) (omega arith)
files_run u f (user ∷ files) more h e =
    let parts = and-parts (is_between 1 u user.0) (list_all (λ owner. is_between 1 u owner.0) files) e in
    let room : ltb f 1024 ≡ true = lt-ltb f 1024 (omega arith) in
    let next = files_run u (f + 1) files more (omega arith) parts.1 in
    let count : f + 1 + length files ≡ f + length (user ∷ files) = omega arith in
    rw (parts.0, room) (next ∙ ap (λ (k : ℕ). run (at u k 0) more) count)

devices_run : (u f d : ℕ) (devices : List DeviceSettings) (more : List Line) → 0 < f → d + length devices ≤ 256
    → list_all is_device_in_limits devices ≡ true
    → run (at u f d) (map device_line devices ++ more) ≡ run (at u f (d + length devices)) more
devices_run u f d [] more h few ok = ap (λ (k : ℕ). run (at u f k) more) (omega arith)
devices_run u f d (device ∷ devices) more h few ok =
    let parts = and-parts (is_device_in_limits device) (list_all is_device_in_limits devices) ok in
    let some : ltb 0 f ≡ true = lt-ltb 0 f h in
    let room : ltb d 256 ≡ true = lt-ltb d 256 (omega arith) in
    let next = devices_run u f (d + 1) devices more h (omega arith) parts.1 in
    let count : d + 1 + length devices ≡ d + length (device ∷ devices) = omega arith in
    rw (some, room, parts.0) (next ∙ ap (λ (k : ℕ). run (at u f k) more) count)

stays : (b : Bool) (p : Place) (goes : Place → Bool) → b ≡ true → if_some (cond b (Some p) None) goes ≡ goes p
stays true p goes e = refl
stays false p goes e = absurd cc

steps_run : (p : Place) (steps : List Step) → p.begun ≡ true → run p (map (λ step. line.Step step) steps) ≡ true
steps_run p [] begun = begun
steps_run p (step ∷ steps) begun =
    stays p.begun p (λ next. run next (map (λ step. line.Step step) steps)) begun ∙ steps_run p steps begun

steps_back : (steps : List Step) → steps_said (map (λ step. line.Step step) steps) ≡ steps
steps_back [] = refl
steps_back (step ∷ steps) = ap (λ (rest : List Step). step ∷ rest) (steps_back steps)

no_steps_in_users : (users : List ℕ) (more : List Line) → steps_said (map user_line users ++ more) ≡ steps_said more
no_steps_in_users [] more = refl
no_steps_in_users (limit ∷ users) more = no_steps_in_users users more

no_steps_in_files : (files : List UserNo) (more : List Line)
    → steps_said (map file_line files ++ more) ≡ steps_said more
no_steps_in_files [] more = refl
no_steps_in_files (user ∷ files) more = no_steps_in_files files more

no_steps_in_devices : (devices : List DeviceSettings) (more : List Line)
    → steps_said (map device_line devices ++ more) ≡ steps_said more
no_steps_in_devices [] more = refl
no_steps_in_devices (device ∷ devices) more = no_steps_in_devices devices more

users_set : (s : Settings) (users : List ℕ) (more : List Line)
    → fold set_by s (heads (map user_line users ++ more)) ≡ fold set_by
    (record s { users = s.users ++ users }) (heads more)
users_set s [] more =
    ap (λ (users : List ℕ). fold set_by (record s { users = users }) (heads more)) (sym (append-nil s.users))
users_set s (limit ∷ users) more =
    users_set (set_by s (heading.User limit)) users more
    ∙ ap (λ (all : List ℕ). fold set_by (record s { users = all }) (heads more))
    (append_assoc s.users (limit ∷ []) users)

files_set : (s : Settings) (files : List UserNo) (more : List Line)
    → fold set_by s (heads (map file_line files ++ more)) ≡ fold set_by
    (record s { files = s.files ++ files }) (heads more)
files_set s [] more =
    ap (λ (files : List UserNo). fold set_by (record s { files = files }) (heads more)) (sym (append-nil s.files))
files_set s (user ∷ files) more =
    files_set (set_by s (heading.File user)) files more
    ∙ ap (λ (all : List UserNo). fold set_by (record s { files = all }) (heads more))
    (append_assoc s.files (user ∷ []) files)

devices_set : (s : Settings) (devices : List DeviceSettings) (more : List Line)
    → fold set_by s (heads (map device_line devices ++ more)) ≡ fold set_by
    (record s { devices = s.devices ++ devices }) (heads more)
devices_set s [] more = ap (λ (devices : List DeviceSettings). fold set_by (record s { devices = devices })
    (heads more)) (sym (append-nil s.devices))
devices_set s (device ∷ devices) more =
    devices_set (set_by s (heading.Device device.source device.width device.x86 device.reserved)) devices more
    ∙ ap (λ (all : List DeviceSettings). fold set_by (record s { devices = all }) (heads more))
    (append_assoc s.devices (device ∷ []) devices)

-- ---- the whole script

abbrev ends : List Step → List Line
ends steps = line.Head heading.Begin ∷ map (λ step. line.Step step) steps

head_run : (pool : ℕ) (users : List ℕ) (files : List UserNo) (devices : List DeviceSettings) (steps : List Step)
    → is_between 1 4096 pool ≡ true → length users ≤ 255 → 0 < length files → length files ≤ 1024
    → list_all (λ user. is_between 1 (length users) user.0) files ≡ true → length devices ≤ 256
    → list_all is_device_in_limits devices ≡ true
    → run start (line.Head (heading.Pool pool)
    ∷ (map user_line users ++ (map file_line files ++ (map device_line devices ++ ends steps)))) ≡ true
head_run pool users files devices steps pool_ok few_users some few_files owned few_devices limits =
    let some_file : ltb 0 (length files) ≡ true = lt-ltb 0 (length files) some in
    let rest = map device_line devices ++ ends steps in
    let begun : Place =
    record { pool = true; users = length users; files = length files; devices = length devices; begun = true } in
    let no_more : 0 + length users ≡ length users = omega arith in
    let nor_more : 0 + length files ≡ length files = omega arith in
    let first = users_run 0 users (map file_line files ++ rest) (omega (arith, few_users))
    ∙ ap (λ (k : ℕ). run (at k 0 0) (map file_line files ++ rest)) no_more in
    let second = files_run (length users) 0 files rest (omega (arith, few_files)) owned
    ∙ ap (λ (k : ℕ). run (at (length users) k 0) rest) nor_more in
    let nor_devices : 0 + length devices ≡ length devices = omega arith in
    let third =
    devices_run (length users) (length files) 0 devices (ends steps) some (omega (arith, few_devices)) limits
    ∙ ap (λ (k : ℕ). run (at (length users) (length files) k) (ends steps)) nor_devices in
    let last : run (at (length users) (length files) (length devices)) (ends steps) ≡ true =
    rw some_file (steps_run begun steps refl) in
    rw pool_ok (first ∙ (second ∙ (third ∙ last)))

head_steps : (pool : ℕ) (users : List ℕ) (files : List UserNo) (devices : List DeviceSettings) (steps : List Step)
    → steps_said (line.Head (heading.Pool pool)
    ∷ (map user_line users ++ (map file_line files ++ (map device_line devices ++ ends steps)))) ≡ steps
head_steps pool users files devices steps =
    let rest = map device_line devices ++ ends steps in
    no_steps_in_users users (map file_line files ++ rest)
    ∙ (no_steps_in_files files rest ∙ (no_steps_in_devices devices (ends steps) ∙ steps_back steps))

head_set : (settings : Settings) (steps : List Step) → settings.passes ≡ 1
    → fold set_by nothing_set (heads (in_order settings steps)) ≡ settings
head_set s steps one =
    let rest = map device_line s.devices ++ ends steps in
    let zero_ : Settings = record { pool = s.pool; users = []; files = []; devices = []; passes = 1 } in
    let users_ : Settings = record { pool = s.pool; users = s.users; files = []; devices = []; passes = 1 } in
    let files_ : Settings = record { pool = s.pool; users = s.users; files = s.files; devices = []; passes = 1 } in
    let with_passes = λ (n : ℕ). let t : Settings =
    record { pool = s.pool; users = s.users; files = s.files; devices = s.devices; passes = n } in t in
    users_set zero_ s.users (map file_line s.files ++ rest)
    ∙ (files_set users_ s.files rest ∙ (devices_set files_ s.devices (ends steps) ∙ ap with_passes (sym one)))

-- within the limits, part by part
record IsWithin (s : Settings) : Type 0 where
  pool : is_between 1 4096 s.pool ≡ true
  users : is_between 1 255 (length s.users) ≡ true
  files : is_between 1 1024 (length s.files) ≡ true
  owned : list_all (λ user. is_between 1 (length s.users) user.0) s.files ≡ true
  few_devices : nat_le (length s.devices) 256 ≡ true
  devices : list_all is_device_in_limits s.devices ≡ true

pass : {A : Type 0} (k : A) (b : Bool) (others : Option A) → cond (not b) (Some k) others ≡ None
    → (b ≡ true) × (others ≡ None)
pass k true others e = (refl, e)
pass k false others e = absurd cc

is_within : (s : Settings) → first_outside s ≡ None → IsWithin s
is_within s e =
    let owned = list_all (λ user. is_between 1 (length s.users) user.0) s.files in
    let devices = nat_le (length s.devices) 256 && list_all is_device_in_limits s.devices in
    let last = cond (not (is_between 1 1024 s.passes)) (Some field.Passes) None in
    let after_files = cond (not devices) (Some field.Devices) last in
    let after_users = cond (not (is_between 1 1024 (length s.files) && owned)) (Some field.Files) after_files in
    let after_pool = cond (not (is_between 1 255 (length s.users))) (Some field.Users) after_users in
    let pool = pass field.Pool (is_between 1 4096 s.pool) after_pool e in
    let users = pass field.Users (is_between 1 255 (length s.users)) after_users pool.1 in
    let files = pass field.Files (is_between 1 1024 (length s.files) && owned) after_files users.1 in
    let both = and-parts (is_between 1 1024 (length s.files)) owned files.0 in
    let limits = pass field.Devices devices last files.1 in
    let each = and-parts (nat_le (length s.devices) 256) (list_all is_device_in_limits s.devices) limits.0 in
    record { pool = pool.0; users = users.0; files = both.0; owned = both.1; few_devices = each.0; devices = each.1 }

-- what a script of these settings and steps is read as
record IsReadAs (texts : List (List ℕ)) (s : Settings) (steps : List Step) : Type 0 where
  good : first_bad 0 start texts ≡ None
  set : fold set_by nothing_set (headings texts) ≡ s
  taken : steps_in texts ≡ steps

read_as : (texts : List (List ℕ)) (s : Settings) (steps : List Step) → IsScript texts s steps → IsReadAs texts s steps
read_as texts s steps shape =
    let read = read_so 0 texts start (in_order s steps) shape.said_so in
    let inside = is_within s shape.within in
    let users = and-parts (leb 1 (length s.users)) (leb (length s.users) 255) inside.users in
    let files = and-parts (leb 1 (length s.files)) (leb (length s.files) 1024) inside.files in
    let some : 1 ≤ length s.files = leb-true 1 (length s.files) files.0 in
    let few_devices : length s.devices ≤ 256 = leb-true (length s.devices) 256 inside.few_devices in
    let goes =
    head_run s.pool s.users s.files s.devices steps inside.pool
    (leb-true (length s.users) 255 users.1) (omega (arith, some))
    (leb-true (length s.files) 1024 files.1) inside.owned few_devices inside.devices in
    record {
      good = read.bad_is goes;
      set = ap (fold set_by nothing_set) read.heads_are ∙ head_set s steps shape.one_pass;
      taken = read.steps_are ∙ head_steps s.pool s.users s.files s.devices steps;
    }

pub shape_good : (texts : List (List ℕ)) (s : Settings) (steps : List Step) → IsScript texts s steps
    → first_bad 0 start texts ≡ None
shape_good texts s steps shape = let read = read_as texts s steps shape in read.good

pub shape_script : (text : List ℕ) (settings : Settings) (steps : List Step) → IsScript (lines text) settings steps
    → script_of text ≡ Ok (settings, steps)
unfolding script_of settings_of first_bad_line
shape_script text s steps shape =
    let read = read_as (lines text) s steps shape in
    ap (script_or (fold set_by nothing_set (headings (lines text))) (steps_of text)) read.good
    ∙ (ap (λ (t : Settings). let r : Result (Settings × List Step) ℕ = Ok (t, steps_of text) in r) read.set
    ∙ ap (λ (more : List Step). let r : Result (Settings × List Step) ℕ = Ok (s, more) in r) read.taken)
