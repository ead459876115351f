-- How many devices translate by a page table, as attachments come and go.
use Rattle.std.proofs.Common.{◌≡◌, ℕ, zero, suc, ◌+◌, ◌<◌, ◌≤◌, Bool, true, false, cond, ◌&&◌, not, eqb, leb, ltb}
use Rattle.std.proofs.Common.{Option, Some, None, is_some, List, [], ◌∷◌, length, refl, sym, ◌∙◌, ap, arith}
use Rattle.std.specs.List.{list_all, list_any, slice_get}
use Rattle.std.proofs.lemmas.Bool.Decides.{nat_tests}
use Rattle.std.proofs.lemmas.List.Sums.{count_by-le-length}
use Rattle.iofd_rows.proofs.Bools.{and_true, not_true}
use Rattle.iofd_rows.proofs.Inserted.{count-inserted}
use Rattle.iofd_rows.proofs.Moves.{device_is}
use Rattle.iofd_rows.proofs.Named.{file_is, id_is}
use Rattle.iofd_rows.specs.Debts.{attach_once, is_by_table}
use Rattle.iofd_runs.proofs.Runs.{tests_false}
use Rattle.iofd_runs.specs.Fits.{devices_rise}
use Rattle.iofd_words.specs.Attachments.{attachment_of, has_device_on, has_lower_device, ioas_of, ioas_of_attachment}
use Rattle.iofd_words.specs.Attachments.{with_attachment, without_attachment}
use Rattle.iofd_words.specs.Files.{is_device, numbered}
use Rattle.iofd_words.specs.Limits.{first_outside}
use Rattle.iofd_words.specs.Objects.{has_ioas, is_hwpt, kind_of}
use Rattle.iofd_words.specs.Settings.{Settings, is_between, is_device_in_limits}
use Rattle.iofd_words.specs.declared.config.ConfigError.{ConfigError}
use Rattle.iofd_words.specs.declared.config.ConfigError.TheVariants as field
use Rattle.iofd_words.specs.declared.numbers.DeviceNo.{DeviceNo}
use Rattle.iofd_words.specs.declared.numbers.FileNo.{FileNo}
use Rattle.iofd_words.specs.declared.numbers.ObjId.{ObjId}
use Rattle.iofd_words.specs.declared.rows.Attachment.{Attachment}
use Rattle.iofd_words.specs.declared.rows.Object.{Object}
use Rattle.iofd_words.specs.declared.rows.ObjectKind.{ObjectKind}
use Rattle.iofd_words.specs.declared.rows.ObjectKind.TheVariants as kind
use Rattle.user_memory_rows.proofs.CountBy.{any_count, count-cons}
use Rattle.server_state.specs.Users.{devices_on}

-- the attachment is to this page table
abbrev is_on : FileNo → ObjId → Attachment → Bool
is_on f i a = eqb a.file.0 f.0 && eqb a.hwpt.0 i.0

-- 1 where it is
abbrev pub on_by : Attachment → FileNo → ObjId → ℕ
on_by a f i = cond (is_on f i a) 1 0

pub has_devices : (attachments : List Attachment) (f : FileNo) (i : ObjId)
    → has_device_on attachments f i ≡ ltb 0 (devices_on attachments f i)
has_devices attachments f i = any_count (is_on f i) attachments

pub none_on : (attachments : List Attachment) (f : FileNo) (i : ObjId) → has_device_on attachments f i ≡ false
    → devices_on attachments f i ≡ 0
none_on attachments f i none = zero (devices_on attachments f i) (sym (has_devices attachments f i) ∙ none)
  where
    zero : (n : ℕ) → ltb 0 n ≡ false → n ≡ 0
    zero n is = search (is, arith, nat_tests)

-- ---- attachments come and go

pub devices-with : (a : Attachment) (attachments : List Attachment) (f : FileNo) (i : ObjId)
    → devices_on (with_attachment a attachments) f i ≡ on_by a f i + devices_on attachments f i
devices-with a attachments f i = count-inserted has_lower_device (is_on f i) a attachments

-- a device that isn't attached
not_there : (attachments : List Attachment) (device : DeviceNo)
    → list_any (λ (b : Attachment). eqb b.device.0 device.0) attachments ≡ false
    → without_attachment device attachments ≡ attachments
not_there [] device none = refl
not_there (b ∷ attachments) device none = let rest = not_there attachments device in grind (arith, nat_tests)

pub devices-without : (attachments : List Attachment) (device : DeviceNo) (a : Attachment) (f : FileNo) (i : ObjId)
    → attach_once attachments ≡ true → attachment_of attachments device ≡ Some a
    → devices_on (without_attachment device attachments) f i + on_by a f i ≡ devices_on attachments f i
devices-without [] device a f i once is = cc
devices-without (b ∷ attachments) device a f i once is =
    let parts = and_true (not (list_any (λ (c : Attachment). eqb c.device.0 b.device.0) attachments))
    (attach_once attachments) once in
    by_device (eqb b.device.0 device.0) refl (not_true _ parts.0) is
    (λ later. devices-without attachments device a f i parts.1 later)
  where
    by_device : (t : Bool) → eqb b.device.0 device.0 ≡ t
        → list_any (λ (c : Attachment). eqb c.device.0 b.device.0) attachments ≡ false
        → cond t (Some b) (attachment_of attachments device) ≡ Some a
        → (attachment_of attachments device ≡ Some a
        → devices_on (without_attachment device attachments) f i + on_by a f i ≡ devices_on attachments f i)
        → devices_on (cond (not t) (b ∷ without_attachment device attachments)
        (without_attachment device attachments)) f i
        + on_by a f i ≡ devices_on (b ∷ attachments) f i
    by_device true named none is later =
        let same : b ≡ a = cc in
        let one : on_by b f i ≡ on_by a f i = ap (λ (c : Attachment). on_by c f i) same in
        let alone : list_any (λ (c : Attachment). eqb c.device.0 device.0) attachments ≡ false =
        ap (λ (d : DeviceNo). list_any (λ (c : Attachment). eqb c.device.0 d.0) attachments)
        (sym (device_is b.device device named)) ∙ none in
        let rest : devices_on (without_attachment device attachments) f i ≡ devices_on attachments f i =
        ap (λ (l : List Attachment). devices_on l f i) (not_there attachments device alone) in
        let all = count-cons (is_on f i) b attachments in
        omega (arith, all, one, rest)
    by_device false named none is later =
        let rest = later is in
        let all = count-cons (is_on f i) b attachments in
        let left = count-cons (is_on f i) b (without_attachment device attachments) in
        omega (arith, rest, all, left)

-- ---- by what devices translate

-- the object is a page table
abbrev is_table : Option ObjectKind → Bool
is_table o = elim o [ Some k ↦ is_hwpt k | None ↦ false ]

-- devices translate by page tables alone
pub on_tables : (objects : List Object) (attachments : List Attachment) (f : FileNo) (i : ObjId)
    → list_all (is_by_table objects) attachments ≡ true → is_table (kind_of objects f i) ≡ false
    → devices_on attachments f i ≡ 0
on_tables objects [] f i all other = refl
on_tables objects (a ∷ attachments) f i all other =
    let parts = and_true (is_by_table objects a) (list_all (is_by_table objects) attachments) all in
    let rest = on_tables objects attachments f i parts.1 other in
    let one : on_by a f i ≡ 0 = ap (λ (b : Bool). cond b 1 0) (not_on (is_on f i a) refl parts.0) in
    let sum = count-cons (is_on f i) a attachments in
    omega (arith, sum, one, rest)
  where
    no_space : (o : Option ObjectKind) → is_table o ≡ false
        → elim o as (λ _. Option ObjId) [ Some k ↦ ioas_of k | None ↦ None ] ≡ None
    no_space None is = refl
    no_space (Some kind.Ioas) is = refl
    no_space (Some (kind.Hwpt ioas width automatic)) is = cc
    no_space (Some (kind.Device device)) is = refl
    no_space (Some (kind.Access attached)) is = refl

    not_on : (b : Bool) → is_on f i a ≡ b → is_by_table objects a ≡ true → b ≡ false
    not_on false is by_table = refl
    not_on true is by_table =
        let names = and_true (eqb a.file.0 f.0) (eqb a.hwpt.0 i.0) is in
        let here : kind_of objects a.file a.hwpt ≡ kind_of objects f i =
        ap (λ (x : FileNo). kind_of objects x a.hwpt) (file_is a.file f names.0)
        ∙ ap (λ (x : ObjId). kind_of objects f x) (id_is a.hwpt i names.1) in
        let lost : ioas_of_attachment objects a ≡ None =
        no_space (kind_of objects a.file a.hwpt) (ap is_table here ∙ other) in
        let never : is_by_table objects a ≡ false = ap (λ (o : Option ObjId). elim o as (λ _. Bool)
        [ Some ioas ↦ has_ioas objects a.file ioas | None ↦ false ]) lost in
        cc

-- ---- how many there can be

not_not : (b : Bool) → not b ≡ false → b ≡ true
not_not true is = refl
not_not false is = cc

-- what is numbered is one of the list
numbered_within : {X : Type 0} (xs : List X) (n : ℕ) → is_some (numbered xs n) ≡ true → n ≤ length xs
numbered_within xs zero is = cc
numbered_within xs (suc n) is = let low = within xs n is in omega (arith, low)
  where
    within : {X : Type 0} (xs : List X) (n : ℕ) → is_some (slice_get xs n) ≡ true → n < length xs
    within [] n is = cc
    within (x ∷ xs) zero is = omega arith
    within (x ∷ xs) (suc n) is = let rest = within xs n is in omega (arith, rest)

-- devices that rise above one number and up to another are no more than lie between
risen : (settings : Settings) (attachments : List Attachment) (low : ℕ) → devices_rise attachments ≡ true
    → list_all (λ (a : Attachment). is_device settings a.device) attachments ≡ true
    → list_all (λ (a : Attachment). ltb low a.device.0) attachments ≡ true → low ≤ length settings.devices
    → length attachments + low ≤ length settings.devices
risen settings [] low rise known above within = omega (arith, within)
risen settings (a ∷ attachments) low rise known above within =
    let rises = and_true (list_all (λ (b : Attachment). ltb a.device.0 b.device.0) attachments)
    (devices_rise attachments) rise in
    let knows = and_true (is_device settings a.device)
    (list_all (λ (b : Attachment). is_device settings b.device) attachments) known in
    let higher = and_true (ltb low a.device.0) (list_all (λ (b : Attachment). ltb low b.device.0) attachments) above in
    let here : low < a.device.0 = search (higher.0, arith, nat_tests) in
    let there = numbered_within settings.devices a.device.0 knows.0 in
    let rest = risen settings attachments a.device.0 rises.1 knows.1 rises.0 there in
    omega (arith, here, rest)

-- a server is opened with at most 256 devices, each of them within its limits
pub devices_inside : (settings : Settings) → first_outside settings ≡ None
    → (length settings.devices ≤ 256) × (list_all is_device_in_limits settings.devices ≡ true)
devices_inside settings inside =
    let both = and_true (leb (length settings.devices) 256) (list_all is_device_in_limits settings.devices)
    (not_not (leb (length settings.devices) 256 && list_all is_device_in_limits settings.devices)
    (tests_false rows 3 inside)) in
    (at_most (length settings.devices) both.0, both.1)
  where
    rows : List (ConfigError × Bool)
    rows = (field.Pool, not (is_between 1 4096 settings.pool))
        ∷ (field.Users, not (is_between 1 255 (length settings.users)))
        ∷ (
          field.Files,
          not (is_between 1 1024 (length settings.files)
              && list_all (λ user. is_between 1 (length settings.users) user.0) settings.files),
        )
        ∷ (field.Devices, not (leb (length settings.devices) 256 && list_all is_device_in_limits settings.devices))
        ∷ (field.Passes, not (is_between 1 1024 settings.passes))
        ∷ []

    at_most : (n : ℕ) → leb n 256 ≡ true → n ≤ 256
    at_most n is = search (is, arith, nat_tests)

-- so at most 256 are attached
pub few_attached : (settings : Settings) (attachments : List Attachment) → first_outside settings ≡ None
    → devices_rise attachments ≡ true
    → list_all (λ (a : Attachment). is_device settings a.device) attachments ≡ true → length attachments ≤ 256
few_attached settings attachments inside rise known =
    let many = (devices_inside settings inside).0 in
    let all = risen settings attachments 0 rise known (positive attachments known) (omega arith) in
    omega (arith, many, all)
  where
    positive : (l : List Attachment) → list_all (λ (a : Attachment). is_device settings a.device) l ≡ true
        → list_all (λ (a : Attachment). ltb 0 a.device.0) l ≡ true
    positive [] each = refl
    positive (a ∷ l) each =
        let parts = and_true (is_device settings a.device)
        (list_all (λ (b : Attachment). is_device settings b.device) l) each in
        rw (at_least_one a.device.0 parts.0) (positive l parts.1)
      where
        at_least_one : (n : ℕ) → is_some (numbered settings.devices n) ≡ true → ltb 0 n ≡ true
        at_least_one zero is = cc
        at_least_one (suc n) is = grind (arith, nat_tests)

-- and no more translate by one page table
pub few_on : (settings : Settings) (attachments : List Attachment) (f : FileNo) (i : ObjId)
    → first_outside settings ≡ None → devices_rise attachments ≡ true
    → list_all (λ (a : Attachment). is_device settings a.device) attachments ≡ true
    → devices_on attachments f i ≤ 256
few_on settings attachments f i inside rise known =
    let all = few_attached settings attachments inside rise known in
    let some = count_by-le-length (is_on f i) attachments in
    omega (arith, all, some)
