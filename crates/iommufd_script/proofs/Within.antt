-- A script with no bad line opens a server within the limits.
use Rattle.std.proofs.Common.{◌≡◌, ℕ, zero, suc, ◌+◌, ◌<◌, ◌≤◌, Bool, true, false, ◌&&◌, not, cond, eqb, ltb, leb}
use Rattle.std.proofs.Common.{nat_le, List, [], ◌∷◌, ◌++◌, length, map, option_map, append_assoc, Option, Some, None}
use Rattle.std.proofs.Common.{Ok, refl, sym, ap, subst, ◌∙◌, arith}
use Rattle.std.proofs.lemmas.Bool.{le-leb, leb-true, ltb-true, eqb-true}
use Rattle.std.proofs.lemmas.List.{length-append, append-nil, map-append}
use Rattle.std.proofs.lemmas.List.Folds.{list_all-append}
use Rattle.std.specs.List.{fold, list_all}
use Rattle.std.specs.Option.{option_and_then}
use Rattle.iofd_words.specs.Limits.{first_outside}
use Rattle.iofd_words.specs.Settings.{Settings, DeviceSettings, is_between, is_device_in_limits}
use Rattle.iofd_words.specs.declared.numbers.UserNo.{UserNo}
use Rattle.iommufd_script.specs.Lines.{lines, line_of}
use Rattle.iommufd_script.specs.Script.{start, allows, behind, after, bad_or, first_bad, first_bad_line, step_before}
use Rattle.iommufd_script.specs.Script.{steps_in, steps_of}
use Rattle.iommufd_script.specs.Shape.{unless_skipped, said, user_line, file_line, device_line, in_order, IsScript}
use Rattle.iommufd_script.specs.Opening.{set_by, nothing_set, headings, heading_before, settings_of, script_or}
use Rattle.iommufd_script.specs.Opening.{script_of}
use Rattle.iommufd_script.specs.declared.line.HeadLine.{HeadLine}
use Rattle.iommufd_script.specs.declared.line.HeadLine.TheVariants as heading
use Rattle.iommufd_script.specs.declared.line.Line.{Line}
use Rattle.iommufd_script.specs.declared.line.Line.TheVariants as line
use Rattle.iommufd_script.specs.declared.line.Step.{Step}
use Rattle.iommufd_script.specs.declared.place.Place.{Place}
use Rattle.iommufd_script.proofs.Bools.{and-both, and-parts}

abbrev are_users : ℕ → List UserNo → Bool
are_users users files = list_all (λ user. is_between 1 users user.0) files

-- what was set, at a place of the head
record IsSet (p : Place) (s : Settings) : Type 0 where
  pool : p.pool ≡ true → is_between 1 4096 s.pool ≡ true
  users_are : length s.users ≡ p.users
  few_users : p.users ≤ 255
  users_after : 0 < p.users → p.pool ≡ true
  files_are : length s.files ≡ p.files
  few_files : p.files ≤ 1024
  files_after : 0 < p.files → 0 < p.users
  owned : are_users (length s.users) s.files ≡ true
  devices_are : length s.devices ≡ p.devices
  few_devices : p.devices ≤ 256
  devices : list_all is_device_in_limits s.devices ≡ true
  passes : s.passes ≡ 1
  devices_after : 0 < p.devices → 0 < p.files

between : (low high n : ℕ) → low ≤ n → n ≤ high → is_between low high n ≡ true
between low high n above below = and-both (leb low n) (leb n high) (le-leb low n above) (le-leb n high below)

-- at `begin` all is within the limits
within : (p : Place) (s : Settings) → IsSet p s → 0 < p.files → first_outside s ≡ None
within p s set some =
    let users = set.files_after some in
    let pool_ok : is_between 1 4096 s.pool ≡ true = set.pool (set.users_after users) in
    let users_ok : is_between 1 255 (length s.users) ≡ true =
    between 1 255 (length s.users) (omega (arith, set.users_are, users))
    (omega (arith, set.users_are, set.few_users)) in
    let files_ok : is_between 1 1024 (length s.files) ≡ true =
    between 1 1024 (length s.files) (omega (arith, set.files_are, some))
    (omega (arith, set.files_are, set.few_files)) in
    let devices_ok : nat_le (length s.devices) 256 ≡ true =
    le-leb (length s.devices) 256 (omega (arith, set.devices_are, set.few_devices)) in
    let passes_ok : is_between 1 1024 s.passes ≡ true =
    between 1 1024 s.passes (omega (arith, set.passes)) (omega (arith, set.passes)) in
    rw (pool_ok, users_ok, files_ok, set.owned, devices_ok, set.devices, passes_ok) refl

no_files : (users : ℕ) (files : List UserNo) → length files ≡ 0 → are_users users files ≡ true
no_files users [] e = refl
no_files users (file ∷ files) e = absurd (omega arith)

one_more : {A : Type 0} (xs : List A) (x : A) (n : ℕ) → length xs ≡ n → length (xs ++ x ∷ []) ≡ n + 1
one_more xs x n e = omega (arith, length-append xs (x ∷ []), e)

all_more : {A : Type 0} (test : A → Bool) (xs : List A) (x : A) → list_all test xs ≡ true → test x ≡ true
    → list_all test (xs ++ x ∷ []) ≡ true
all_more test xs x e f =
    list_all-append test xs (x ∷ []) ∙ and-both (list_all test xs) (test x && true) e (and-both (test x) true f refl)

kept_pool : (p : Place) (s : Settings) (frames : ℕ) → IsSet p s → allows p (heading.Pool frames) ≡ true
    → IsSet (behind p (heading.Pool frames)) (set_by s (heading.Pool frames))
kept_pool p s frames set ok =
    let parts = and-parts (not p.pool) (is_between 1 4096 frames) ok in
    record {
      pool = λ e. parts.1;
      users_are = set.users_are;
      few_users = set.few_users;
      users_after = λ h. refl;
      files_are = set.files_are;
      few_files = set.few_files;
      files_after = set.files_after;
      owned = set.owned;
      devices_are = set.devices_are;
      few_devices = set.few_devices;
      devices = set.devices;
      passes = set.passes;
      devices_after = set.devices_after;
    }

kept_user : (p : Place) (s : Settings) (limit : ℕ) → IsSet p s → allows p (heading.User limit) ≡ true
    → IsSet (behind p (heading.User limit)) (set_by s (heading.User limit))
kept_user p s limit set ok =
    let parts = and-parts (p.pool && eqb p.files 0) (ltb p.users 255) ok in
    let early = and-parts p.pool (eqb p.files 0) parts.0 in
    let none : p.files ≡ 0 = eqb-true p.files 0 early.1 in
    let room : p.users < 255 = ltb-true p.users 255 parts.1 in
    record {
      pool = set.pool;
      users_are = one_more s.users limit p.users set.users_are;
      few_users = omega arith;
      users_after = λ h. early.0;
      files_are = set.files_are;
      few_files = set.few_files;
      files_after = λ h. absurd (omega arith);
      owned = no_files (length (s.users ++ limit ∷ [])) s.files (set.files_are ∙ none);
      devices_are = set.devices_are;
      few_devices = set.few_devices;
      devices = set.devices;
      passes = set.passes;
      devices_after = set.devices_after;
    }

kept_file : (p : Place) (s : Settings) (user : UserNo) → IsSet p s → allows p (heading.File user) ≡ true
    → IsSet (behind p (heading.File user)) (set_by s (heading.File user))
kept_file p s user set ok =
    let parts = and-parts (is_between 1 p.users user.0 && eqb p.devices 0) (ltb p.files 1024) ok in
    let early = and-parts (is_between 1 p.users user.0) (eqb p.devices 0) parts.0 in
    let ends = and-parts (leb 1 user.0) (leb user.0 p.users) early.0 in
    let least : 1 ≤ user.0 = leb-true 1 user.0 ends.0 in
    let most : user.0 ≤ p.users = leb-true user.0 p.users ends.1 in
    let room : p.files < 1024 = ltb-true p.files 1024 parts.1 in
    record {
      pool = set.pool;
      users_are = set.users_are;
      few_users = set.few_users;
      users_after = set.users_after;
      files_are = one_more s.files user p.files set.files_are;
      few_files = omega arith;
      files_after = λ h. omega (arith, least, most);
      owned = all_more (λ owner. is_between 1 (length s.users) owner.0) s.files user set.owned
          (between 1 (length s.users) user.0 least (omega (arith, most, set.users_are)));
      devices_are = set.devices_are;
      few_devices = set.few_devices;
      devices = set.devices;
      passes = set.passes;
      devices_after = λ h. omega arith;
    }

-- the line of a device
abbrev device_heading : DeviceSettings → HeadLine
device_heading device = heading.Device device.source device.width device.x86 device.reserved

kept_device : (p : Place) (s : Settings) (device : DeviceSettings) → IsSet p s → allows p (device_heading device) ≡ true
    → IsSet (behind p (device_heading device)) (set_by s (device_heading device))
kept_device p s device set ok =
    let limits = and-parts (ltb 0 p.files && ltb p.devices 256) (is_device_in_limits device) ok in
    let parts = and-parts (ltb 0 p.files) (ltb p.devices 256) limits.0 in
    let room : p.devices < 256 = ltb-true p.devices 256 parts.1 in
    record {
      pool = set.pool;
      users_are = set.users_are;
      few_users = set.few_users;
      users_after = set.users_after;
      files_are = set.files_are;
      few_files = set.few_files;
      files_after = set.files_after;
      owned = set.owned;
      devices_are = one_more s.devices device p.devices set.devices_are;
      few_devices = omega arith;
      devices = all_more is_device_in_limits s.devices device set.devices limits.1;
      passes = set.passes;
      devices_after = λ h. ltb-true 0 p.files parts.0;
    }

abbrev said_then : Option Line → Option (List Line) → Option (List Line)
said_then l more = option_and_then (λ first. option_map (λ others. unless_skipped first others) more) l

abbrev pool_part : Bool → ℕ → List Line
pool_part true frames = line.Head (heading.Pool frames) ∷ []
pool_part false frames = []

-- the lines that came before a place
abbrev so_far : Place → Settings → List Line
so_far p s = pool_part p.pool s.pool ++ (map user_line s.users ++ (map file_line s.files ++ map device_line s.devices))

empty : {A : Type 0} (xs : List A) → length xs ≡ 0 → xs ≡ []
empty [] e = refl
empty (x ∷ xs) e = absurd (omega arith)

none_yet : (n : ℕ) (b : Bool) → (0 < n → b ≡ true) → b ≡ false → n ≡ 0
none_yet zero b h e = refl
none_yet (suc n) b h e = let yes : b ≡ true = h (omega arith) in absurd cc

none_behind : (m n : ℕ) → (0 < m → 0 < n) → n ≡ 0 → m ≡ 0
none_behind zero n h e = refl
none_behind (suc m) n h e = let some : 0 < n = h (omega arith) in absurd (omega arith)

not-true : (b : Bool) → not b ≡ true → b ≡ false
not-true true e = absurd cc
not-true false e = refl

joined : (pool users files devices more : List Line)
    → (pool ++ (users ++ (files ++ devices))) ++ more ≡ pool ++ (users ++ (files ++ (devices ++ more)))
joined pool users files devices more = simp append_assoc

begun_whole : (p : Place) (s : Settings) → p.pool ≡ true → (more : List Line)
    → so_far p s ++ more ≡ line.Head (heading.Pool s.pool)
    ∷ (map user_line s.users ++ (map file_line s.files ++ (map device_line s.devices ++ more)))
begun_whole p s pool more =
    joined (pool_part p.pool s.pool) (map user_line s.users) (map file_line s.files) (map device_line s.devices) more
    ∙ ap (λ (b : Bool). pool_part b s.pool ++ (map user_line s.users
    ++ (map file_line s.files ++ (map device_line s.devices ++ more)))) pool

grown_pool : (p : Place) (s : Settings) (frames : ℕ) → IsSet p s → allows p (heading.Pool frames) ≡ true
    → so_far (behind p (heading.Pool frames)) (set_by s (heading.Pool frames)) ≡ so_far p s
    ++ line.Head (heading.Pool frames) ∷ []
grown_pool p s frames set ok =
    let parts = and-parts (not p.pool) (is_between 1 4096 frames) ok in
    let no_pool = not-true p.pool parts.0 in
    let no_users = none_yet p.users p.pool set.users_after no_pool in
    let no_files = none_behind p.files p.users set.files_after no_users in
    let no_devices = none_behind p.devices p.files set.devices_after no_files in
    let users = empty s.users (set.users_are ∙ no_users) in
    let files = empty s.files (set.files_are ∙ no_files) in
    let devices = empty s.devices (set.devices_are ∙ no_devices) in
    rw (no_pool, users, files, devices) refl

grown_user : (p : Place) (s : Settings) (limit : ℕ) → IsSet p s → allows p (heading.User limit) ≡ true
    → so_far (behind p (heading.User limit)) (set_by s (heading.User limit)) ≡ so_far p s
    ++ line.Head (heading.User limit) ∷ []
grown_user p s limit set ok =
    let parts = and-parts (p.pool && eqb p.files 0) (ltb p.users 255) ok in
    let early = and-parts p.pool (eqb p.files 0) parts.0 in
    let no_files : p.files ≡ 0 = eqb-true p.files 0 early.1 in
    let no_devices = none_behind p.devices p.files set.devices_after no_files in
    let files = empty s.files (set.files_are ∙ no_files) in
    let devices = empty s.devices (set.devices_are ∙ no_devices) in
    rw (files, devices) (simp (map-append, append-nil, append_assoc))

grown_file : (p : Place) (s : Settings) (user : UserNo) → IsSet p s → allows p (heading.File user) ≡ true
    → so_far (behind p (heading.File user)) (set_by s (heading.File user)) ≡ so_far p s
    ++ line.Head (heading.File user) ∷ []
grown_file p s user set ok =
    let parts = and-parts (is_between 1 p.users user.0 && eqb p.devices 0) (ltb p.files 1024) ok in
    let early = and-parts (is_between 1 p.users user.0) (eqb p.devices 0) parts.0 in
    let devices = empty s.devices (set.devices_are ∙ eqb-true p.devices 0 early.1) in
    rw devices (simp (map-append, append-nil, append_assoc))

grown_device : (p : Place) (s : Settings) (device : DeviceSettings)
    → so_far (behind p (device_heading device)) (set_by s (device_heading device)) ≡ so_far p s
    ++ line.Head (device_heading device) ∷ []
grown_device p s device = simp (map-append, append_assoc)

-- what reading the lines behind a place of the head comes to
record IsRead (p : Place) (s : Settings) (l : Option Line) (texts : List (List ℕ)) (more : Option (List Line)) : Type 0
  where
    outside : first_outside (fold set_by s (heading_before l (headings texts))) ≡ None
    one_pass : (fold set_by s (heading_before l (headings texts))).passes ≡ 1
    rest : List Line
    rest_is : more ≡ Some rest
    whole : so_far p s ++ rest ≡ in_order (fold set_by s (heading_before l (headings texts)))
        (step_before l (steps_in texts))

-- the same, of all the lines
abbrev IsReadAll : Place → Settings → List (List ℕ) → Type 0
IsReadAll p s texts = IsRead p s (Some line.Skipped) texts (said texts)

abbrev Good : ℕ → List (List ℕ) → Type 0
Good n texts =
    (p : Place) (s : Settings) → p.begun ≡ false → IsSet p s → first_bad n p texts ≡ None → IsReadAll p s texts

allowed : (n : ℕ) (next : Place) (b : Bool) (others : Place → Option ℕ)
    → bad_or n (cond b (Some next) None) others ≡ None → (b ≡ true) × (others next ≡ None)
allowed n next true others e = (refl, e)
allowed n next false others e = absurd cc

-- behind `begin` there are steps alone
steps_line : (n : ℕ) (texts : List (List ℕ)) (p : Place) (l : Option Line)
    → (first_bad (n + 1) p texts ≡ None → said texts ≡ Some (map (λ step. line.Step step) (steps_in texts)))
    → p.begun ≡ true
    → bad_or (n + 1) (after p l) (λ next. first_bad (n + 1) next texts) ≡ None
    → said_then l (said texts) ≡ Some (map (λ step. line.Step step) (step_before l (steps_in texts)))
steps_line n texts p None others begun good = absurd cc
steps_line n texts p (Some line.Skipped) others begun good = ap (option_map (λ others. others)) (others good)
steps_line n texts p (Some (line.Head h)) others begun good =
    let open_ = allowed (n + 1) (behind p h) (not p.begun && allows p h) (λ next. first_bad (n + 1) next texts) good in
    let shut = and-parts (not p.begun) (allows p h) open_.0 in
    let still : not p.begun ≡ false = ap not begun in
    absurd cc
steps_line n texts p (Some (line.Step step)) others begun good =
    let open_ = allowed (n + 1) p p.begun (λ next. first_bad (n + 1) next texts) good in
    ap (option_map (λ rest. line.Step step ∷ rest)) (others open_.1)

steps_alone : (n : ℕ) (texts : List (List ℕ)) (p : Place) → p.begun ≡ true → first_bad n p texts ≡ None
    → said texts ≡ Some (map (λ step. line.Step step) (steps_in texts))
steps_alone n [] p begun good = refl
steps_alone n (text ∷ texts) p begun good =
    steps_line n texts p (line_of text) (steps_alone (n + 1) texts p begun) begun good

-- one more line of the head, which isn't `begin`
read_more : (p : Place) (s : Settings) (h : HeadLine) (texts : List (List ℕ))
    → so_far (behind p h) (set_by s h) ≡ so_far p s ++ line.Head h ∷ []
    → IsReadAll (behind p h) (set_by s h) texts
    → (headings_are : heading_before (Some (line.Head h)) (headings texts) ≡ h ∷ headings texts)
    → IsRead p s (Some (line.Head h)) texts (said_then (Some (line.Head h)) (said texts))
read_more p s h texts grown read heads =
    let same : fold set_by s (heading_before (Some (line.Head h)) (headings texts)) ≡ fold set_by (set_by s h)
    (headings texts) = ap (fold set_by s) heads in
    record {
      outside = ap first_outside same ∙ read.outside;
      one_pass = ap (λ (t : Settings). t.passes) same ∙ read.one_pass;
      rest = line.Head h ∷ read.rest;
      rest_is = ap (option_map (λ others. line.Head h ∷ others)) read.rest_is;
      whole =
          sym (append_assoc (so_far p s) (line.Head h ∷ []) read.rest)
          ∙ (ap (λ (front : List Line). front ++ read.rest) (sym grown)
          ∙ (read.whole ∙ ap (λ (t : Settings). in_order t (steps_in texts)) (sym same)));
    }

by_heading : (n : ℕ) (texts : List (List ℕ)) → Good n texts → (p : Place) (s : Settings) (h : HeadLine)
    → p.begun ≡ false → IsSet p s → allows p h ≡ true
    → first_bad n (behind p h) texts ≡ None → IsRead p s (Some (line.Head h)) texts
    (said_then (Some (line.Head h)) (said texts))
by_heading n texts others p s (heading.Pool frames) head set ok good =
    let h = heading.Pool frames in read_more p s h texts (grown_pool p s frames set ok)
    (others (behind p h) (set_by s h) head (kept_pool p s frames set ok) good) refl
by_heading n texts others p s (heading.User limit) head set ok good =
    let h = heading.User limit in read_more p s h texts (grown_user p s limit set ok)
    (others (behind p h) (set_by s h) head (kept_user p s limit set ok) good) refl
by_heading n texts others p s (heading.File user) head set ok good =
    let h = heading.File user in read_more p s h texts (grown_file p s user set ok)
    (others (behind p h) (set_by s h) head (kept_file p s user set ok) good) refl
by_heading n texts others p s (heading.Device source width x86 reserved) head set ok good =
    let device : DeviceSettings = record { source = source; width = width; x86 = x86; reserved = reserved } in
    let h = heading.Device source width x86 reserved in
    read_more p s h texts (grown_device p s device)
    (others (behind p h) (set_by s h) head (kept_device p s device set ok) good) refl
by_heading n texts others p s heading.Begin head set ok good =
    let some : 0 < p.files = ltb-true 0 p.files ok in
    let pool = set.users_after (set.files_after some) in
    let steps : List Line = map (λ step. line.Step step) (steps_in texts) in
    record {
      outside = within p s set some;
      one_pass = set.passes;
      rest = line.Head heading.Begin ∷ steps;
      rest_is = ap (option_map (λ others. line.Head heading.Begin ∷ others))
          (steps_alone n texts (behind p heading.Begin) refl good);
      whole = begun_whole p s pool (line.Head heading.Begin ∷ steps);
    }

by_line : (n : ℕ) (texts : List (List ℕ)) → Good (n + 1) texts → (p : Place) (s : Settings) (l : Option Line)
    → p.begun ≡ false → IsSet p s
    → bad_or (n + 1) (after p l) (λ next. first_bad (n + 1) next texts) ≡ None
    → IsRead p s l texts (said_then l (said texts))
by_line n texts others p s None head set good = absurd cc
by_line n texts others p s (Some line.Skipped) head set good =
    let read = others p s head set good in
    record {
      outside = read.outside;
      one_pass = read.one_pass;
      rest = read.rest;
      rest_is = ap (option_map (λ others. others)) read.rest_is;
      whole = read.whole;
    }
by_line n texts others p s (Some (line.Step step)) head set good =
    absurd (let shut = allowed (n + 1) p p.begun (λ next. first_bad (n + 1) next texts) good in cc)
by_line n texts others p s (Some (line.Head h)) head set good =
    let open_ = allowed (n + 1) (behind p h) (not p.begun && allows p h) (λ next. first_bad (n + 1) next texts) good in
    let ok = and-parts (not p.begun) (allows p h) open_.0 in
    by_heading (n + 1) texts others p s h head set ok.1 open_.1

good_lines : (n : ℕ) (texts : List (List ℕ)) → Good n texts
good_lines n [] p s head set good = absurd (grind arith)
good_lines n (text ∷ texts) p s head set good =
    let read = by_line n texts (good_lines (n + 1) texts) p s (line_of text) head set good in
    record {
      outside = read.outside;
      one_pass = read.one_pass;
      rest = read.rest;
      rest_is = read.rest_is;
      whole = read.whole;
    }

none_set : IsSet start nothing_set
none_set = record {
  pool = λ e. absurd cc;
  users_are = refl;
  few_users = omega arith;
  users_after = λ h. absurd (omega arith);
  files_are = refl;
  few_files = omega arith;
  files_after = λ h. absurd (omega arith);
  owned = refl;
  devices_are = refl;
  few_devices = omega arith;
  devices = refl;
  passes = refl;
  devices_after = λ h. absurd (omega arith);
}

good_read : (texts : List (List ℕ)) → first_bad 0 start texts ≡ None → IsReadAll start nothing_set texts
good_read texts good = good_lines 0 texts start nothing_set refl none_set good

pub good_settings : (text : List ℕ) → first_bad_line text ≡ None → first_outside (settings_of text) ≡ None
unfolding settings_of first_bad_line
good_settings text good = let read = good_read (lines text) good in read.outside

pub good_shape : (texts : List (List ℕ)) → first_bad 0 start texts ≡ None
    → IsScript texts (fold set_by nothing_set (headings texts)) (steps_in texts)
good_shape texts good =
    let read = good_read texts good in
    record {
      said_so = read.rest_is ∙ ap Some read.whole;
      within = read.outside;
      one_pass = read.one_pass;
    }

or_good : (s t : Settings) (steps more : List Step) (o : Option ℕ) → script_or s steps o ≡ Ok (t, more)
    → (o ≡ None) × (s ≡ t) × (steps ≡ more)
or_good s t steps more None e = let pair : (s, steps) ≡ (t, more) =
    cc in (refl, ap (λ (x : Settings × List Step). x.0) pair, ap (λ (x : Settings × List Step). x.1) pair)
or_good s t steps more (Some n) e = absurd cc

pub script_shape : (text : List ℕ) (settings : Settings) (steps : List Step) → script_of text ≡ Ok (settings, steps)
    → IsScript (lines text) settings steps
unfolding script_of settings_of first_bad_line
script_shape text settings steps e =
    let good = or_good (settings_of text) settings (steps_of text) steps (first_bad_line text) e in
    subst (λ (s : Settings). IsScript (lines text) s steps) good.1
    (subst (λ (more : List Step). IsScript (lines text) (settings_of text) more) good.2
    (good_shape (lines text) good.0))
