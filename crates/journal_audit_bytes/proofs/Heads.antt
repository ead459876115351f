-- The two laws of a head: what is read is spelled so, and what is spelled so is read.
use Rattle.std.proofs.Common.{◌≡◌, ℕ, Bool, true, false, cond, List, ◌++◌, length, take, Option, Some, None}
use Rattle.std.proofs.Common.{Result, Ok, Err, IfOk, refl, sym, ap, subst, ◌∙◌, append_assoc}
use Rattle.std.specs.Prelude.{is_none}
use Rattle.std.proofs.lemmas.List.{take-append-drop}
use Rattle.std.proofs.lemmas.Slice.Eq.{bytes_eq-Decides}
use Rattle.std.specs.Int.{w16, w32, to_le_bytes}
use Rattle.iofd_words.specs.Limits.{first_outside, opened}
use Rattle.iofd_words.specs.Settings.{DeviceSettings, Settings}
use Rattle.iofd_words.specs.declared.config.ConfigError.{ConfigError}
use Rattle.iofd_words.specs.declared.numbers.UserNo.{UserNo}
use Rattle.journal_audit_bytes.specs.Head.{CountedFit, DeviceFits, LimitFits, SpellsHead, UserFits, counted}
use Rattle.journal_audit_bytes.specs.Head.{device_spelled}
use Rattle.journal_audit_bytes.specs.Head.{head_spelled, limit_spelled, user_spelled}
use Rattle.journal_audit_bytes.specs.HeadReading.{behind_mark, counted_at, device_at, head_at, is_marked, limit_at}
use Rattle.journal_audit_bytes.specs.HeadReading.{settings_if, user_at, version_at}
use Rattle.journal_audit_bytes.specs.Reading.{◌>>=◌, Fails, Gives, number_at}
use Rattle.journal_audit_bytes.specs.Version.{mark}
use Rattle.journal_audit_bytes.specs.declared.version.Version.{Version}
use Rattle.journal_audit_bytes.specs.declared.version.Version.TheVariants.{One, Two}
use Rattle.journal_audit_bytes.specs.declared.spelled.ReadError.{ReadError}
use Rattle.journal_audit_bytes.specs.declared.spelled.ReadError.TheVariants.{Memory, Torn}
use Rattle.journal_audit_bytes.proofs.Fields.{IsBytes, IsBytes-drop, Takes, Takes-then, bind_some, number_again}
use Rattle.journal_audit_bytes.proofs.Fields.{number_takes, some_is, wide16, wide32}
use Rattle.journal_audit_bytes.proofs.HeadParts.{Reads, counted_reads, device_reads, limit_reads, user_reads}
use Rattle.journal_audit_bytes.proofs.Records.{guard_some}

marked : (version : Version) (bytes : List ℕ) → IsBytes bytes → is_marked version bytes ≡ true
    → Takes bytes (mark version) (behind_mark version bytes)
marked version bytes fits is =
    let same : take (length (mark version)) bytes ≡ mark version =
    (bytes_eq-Decides (take (length (mark version)) bytes) (mark version)).0 is in
    record {
      parts = sym (take-append-drop (length (mark version)) bytes)
          ∙ ap (λ (text : List ℕ). text ++ behind_mark version bytes) same;
      rest_fits = IsBytes-drop (length (mark version)) bytes fits;
    }

abbrev marked_by : List ℕ → Version → Version × List ℕ
marked_by bytes version = (version, behind_mark version bytes)

pub version_takes : (bytes : List ℕ) (x : Version × List ℕ) → IsBytes bytes → version_at bytes ≡ Some x
    → Takes bytes (mark x.0) x.1
unfolding version_at
version_takes bytes x fits is = by_marks (is_marked One bytes) (is_marked Two bytes) refl refl is
  where
    by_marks : (one two : Bool) → is_marked One bytes ≡ one → is_marked Two bytes ≡ two
        → cond one (Some (marked_by bytes One)) (cond two (Some (marked_by bytes Two)) None) ≡ Some x
        → Takes bytes (mark x.0) x.1
    by_marks true two one_is two_is is =
        subst (λ (y : Version × List ℕ). Takes bytes (mark y.0) y.1) (some_is (marked_by bytes One) x is)
        (marked One bytes fits one_is)
    by_marks false true one_is two_is is =
        subst (λ (y : Version × List ℕ). Takes bytes (mark y.0) y.1) (some_is (marked_by bytes Two) x is)
        (marked Two bytes fits two_is)
    by_marks false false one_is two_is is = absurd cc

version_again : (version : Version) (rest : List ℕ) → version_at (mark version ++ rest) ≡ Some (version, rest)
unfolding version_at
version_again One rest = refl
version_again Two rest = refl

none_is : {X : Type 0} (o : Option X) → is_none o ≡ true → o ≡ None
none_is None is = refl
none_is (Some x) is = absurd cc

pub users_read : Reads (counted_at limit_at) (λ xs. counted limit_spelled xs) (λ xs. CountedFit LimitFits xs)
users_read = counted_reads limit_at limit_spelled LimitFits limit_reads

files_read : Reads (counted_at user_at) (λ xs. counted user_spelled xs) (λ xs. CountedFit UserFits xs)
files_read = counted_reads user_at user_spelled UserFits user_reads

devices_read : (version : Version) → Reads (counted_at (device_at version)) (λ xs. counted device_spelled xs)
    (λ xs. CountedFit (λ device. DeviceFits version device) xs)
devices_read version =
    counted_reads (device_at version) device_spelled (λ device. DeviceFits version device) (device_reads version)

-- the parts of a head that is read, and what they spell
parts_take : (version : Version) (s : Settings) (bytes marked pool users files devices rest : List ℕ)
    → IsBytes bytes → version_at bytes ≡ Some (version, marked) → number_at w32 marked ≡ Some (s.pool, pool)
    → counted_at limit_at pool ≡ Some (s.users, users) → counted_at user_at users ≡ Some (s.files, files)
    → counted_at (device_at version) files ≡ Some (s.devices, devices) → number_at w16 devices ≡ Some (s.passes, rest)
    → first_outside s ≡ None → (text : List ℕ) × SpellsHead version s text × (bytes ≡ text ++ rest)
parts_take version s bytes marked pool users files devices rest fits a b c d e f within =
    let mark_part = version_takes bytes (version, marked) fits a in
    let pool_part = number_takes w32 wide32 marked s.pool pool mark_part.rest_fits b in
    let users_part = users_read.takes pool (s.users, users) pool_part.0.rest_fits c in
    let files_part = files_read.takes users (s.files, files) users_part.0.rest_fits d in
    let devices_part = (devices_read version).takes files (s.devices, devices) files_part.0.rest_fits e in
    let passes_part = number_takes w16 wide16 devices s.passes rest devices_part.0.rest_fits f in
    let five : List ℕ = to_le_bytes w16 s.passes in
    let four : List ℕ = counted device_spelled s.devices ++ five in
    let three : List ℕ = counted user_spelled s.files ++ four in
    let two : List ℕ = counted limit_spelled s.users ++ three in
    let one : List ℕ = to_le_bytes w32 s.pool ++ two in
    let from_devices = Takes-then files (counted device_spelled s.devices) devices five rest devices_part.0
    passes_part.0 in
    let from_files = Takes-then users (counted user_spelled s.files) files four rest files_part.0 from_devices in
    let from_users = Takes-then pool (counted limit_spelled s.users) users three rest users_part.0 from_files in
    let from_pool = Takes-then marked (to_le_bytes w32 s.pool) pool two rest pool_part.0 from_users in
    let whole = Takes-then bytes (mark version) marked one rest mark_part from_pool in (
      head_spelled version s,
      record {
        within = within;
        pool_fits = pool_part.1;
        users_fit = users_part.1;
        files_fit = files_part.1;
        devices_fit = devices_part.1;
        passes_fit = passes_part.1;
        bytes_are = refl;
      },
      whole.parts,
    )

pub head_takes : (bytes : List ℕ) (x : Version × Settings × List ℕ) → IsBytes bytes → head_at bytes ≡ Some x
    → (text : List ℕ) × SpellsHead x.0 x.1 text × (bytes ≡ text ++ x.2)
unfolding head_at settings_if
head_takes bytes x fits is =
    let start = bind_some (version_at bytes) (λ version. number_at w32 version.1 >>= λ pool.
    counted_at limit_at pool.1 >>= λ users. counted_at user_at users.1 >>= λ files.
    counted_at (device_at version.0) files.1 >>= λ devices. number_at w16 devices.1 >>= λ passes.
    settings_if version.0 (record {
      pool = pool.0;
      users = users.0;
      files = files.0;
      devices = devices.0;
      passes = passes.0;
    }) passes.1) x is in
    let pool = bind_some (number_at w32 start.0.1) (λ pool.
    counted_at limit_at pool.1 >>= λ users. counted_at user_at users.1 >>= λ files.
    counted_at (device_at start.0.0) files.1 >>= λ devices. number_at w16 devices.1 >>= λ passes.
    settings_if start.0.0 (record {
      pool = pool.0;
      users = users.0;
      files = files.0;
      devices = devices.0;
      passes = passes.0;
    }) passes.1) x start.2 in
    let users = bind_some (counted_at limit_at pool.0.1) (λ users. counted_at user_at users.1 >>= λ files.
    counted_at (device_at start.0.0) files.1 >>= λ devices. number_at w16 devices.1 >>= λ passes.
    settings_if start.0.0 (record {
      pool = pool.0.0;
      users = users.0;
      files = files.0;
      devices = devices.0;
      passes = passes.0;
    }) passes.1) x pool.2 in
    let files = bind_some (counted_at user_at users.0.1) (λ files.
    counted_at (device_at start.0.0) files.1 >>= λ devices. number_at w16 devices.1 >>= λ passes.
    settings_if start.0.0 (record {
      pool = pool.0.0;
      users = users.0.0;
      files = files.0;
      devices = devices.0;
      passes = passes.0;
    }) passes.1) x users.2 in
    let devices = bind_some (counted_at (device_at start.0.0) files.0.1) (λ devices.
    number_at w16 devices.1 >>= λ passes. settings_if start.0.0 (record {
      pool = pool.0.0;
      users = users.0.0;
      files = files.0.0;
      devices = devices.0;
      passes = passes.0;
    }) passes.1) x files.2 in
    let passes = bind_some (number_at w16 devices.0.1) (λ passes. settings_if start.0.0 (record {
      pool = pool.0.0;
      users = users.0.0;
      files = files.0.0;
      devices = devices.0.0;
      passes = passes.0;
    }) passes.1) x devices.2 in
    let s : Settings = record {
      pool = pool.0.0;
      users = users.0.0;
      files = files.0.0;
      devices = devices.0.0;
      passes = passes.0.0;
    } in
    let made : Version × Settings × List ℕ = (start.0.0, s, passes.0.1) in
    let g = guard_some (is_none (first_outside s)) made x passes.2 in
    subst (λ (y : Version × Settings × List ℕ). (text : List ℕ) × SpellsHead y.0 y.1 text × (bytes ≡ text ++ y.2))
    {x = made} {y = x} g.1
    (parts_take start.0.0 s bytes start.0.1 pool.0.1 users.0.1 files.0.1 devices.0.1 passes.0.1 fits start.1 pool.1
    users.1 files.1 devices.1 passes.1 (none_is (first_outside s) g.0))

-- the head, by its parts
pub head_by : (version : Version) (s : Settings) (bytes marked pool users files devices passes : List ℕ)
    → version_at bytes ≡ Some (version, marked) → number_at w32 marked ≡ Some (s.pool, pool)
    → counted_at limit_at pool ≡ Some (s.users, users) → counted_at user_at users ≡ Some (s.files, files)
    → counted_at (device_at version) files ≡ Some (s.devices, devices)
    → number_at w16 devices ≡ Some (s.passes, passes) → head_at bytes ≡ settings_if version s passes
unfolding head_at
head_by version s bytes marked pool users files devices passes a b c d e f = rw (a, b, c, d, e, f) refl

six : (a b c d e f rest : List ℕ)
    → (a ++ (b ++ (c ++ (d ++ (e ++ f))))) ++ rest ≡ a ++ (b ++ (c ++ (d ++ (e ++ (f ++ rest)))))
six a b c d e f rest = simp append_assoc

pub head_again : (version : Version) (s : Settings) (text rest : List ℕ) → SpellsHead version s text
    → head_at (text ++ rest) ≡ Some (version, s, rest)
unfolding settings_if
head_again version s text rest h =
    let passes : List ℕ = to_le_bytes w16 s.passes ++ rest in
    let devices : List ℕ = counted device_spelled s.devices ++ passes in
    let files : List ℕ = counted user_spelled s.files ++ devices in
    let users : List ℕ = counted limit_spelled s.users ++ files in
    let pool : List ℕ = to_le_bytes w32 s.pool ++ users in
    let grouped : text ++ rest ≡ mark version ++ pool = rw h.bytes_are (six (mark version) (to_le_bytes w32 s.pool)
    (counted limit_spelled s.users) (counted user_spelled s.files) (counted device_spelled s.devices)
    (to_le_bytes w16 s.passes) rest) in
    head_by version s (text ++ rest) pool users files devices passes rest
    (ap version_at grouped ∙ version_again version pool) (number_again w32 wide32 s.pool users h.pool_fits)
    (users_read.again s.users files h.users_fit) (files_read.again s.files devices h.files_fit)
    ((devices_read version).again s.devices passes h.devices_fit) (number_again w16 wide16 s.passes rest h.passes_fit)
    ∙ ap (λ (o : Option ConfigError).
    (let made : Option (Version × Settings × List ℕ) = cond (is_none o) (Some (version, s, rest)) None in made)) h.within

-- what a reader answers
pub head_found : {X : Type 0} (view : X → Version × Settings × List ℕ) (bytes : List ℕ) (r : Result X ReadError)
    → IsBytes bytes → Gives view r (head_at bytes)
    → IfOk r (λ x. (text : List ℕ) × SpellsHead (view x).0 (view x).1 text × (bytes ≡ text ++ (view x).2))
head_found view bytes (Ok x) fits given = head_takes bytes (view x) fits given
head_found view bytes (Err e) fits given = tt

pub one_head : (version : Version) (s : Settings) (a b : List ℕ) → SpellsHead version s a → SpellsHead version s b
    → a ≡ b
one_head version s a b p q = p.bytes_are ∙ sym q.bytes_are

-- the settings that a configuration was made of, and those that make none
abbrev outcome : Settings → Option ConfigError → Result Settings ConfigError
outcome s None = Ok s
outcome s (Some e) = Err e

pub opened_if : (version : Version) (s : Settings) (rest : List ℕ) (x : Settings) → opened s ≡ Ok x
    → settings_if version s rest ≡ Some (version, x, rest)
unfolding settings_if
opened_if version s rest x is = by_case (first_outside s) is
  where
    by_case : (o : Option ConfigError) → outcome s o ≡ Ok x
        → (let made : Option (Version × Settings × List ℕ) = cond (is_none o) (Some (version, s, rest)) None in made)
        ≡ Some (version, x, rest)
    by_case None is = cc
    by_case (Some e) is = absurd cc

pub not_opened_if : (version : Version) (s : Settings) (rest : List ℕ) (e : ConfigError) → opened s ≡ Err e
    → settings_if version s rest ≡ None
unfolding settings_if
not_opened_if version s rest e is = by_case (first_outside s) is
  where
    by_case : (o : Option ConfigError) → outcome s o ≡ Err e
        → (let made : Option (Version × Settings × List ℕ) = cond (is_none o) (Some (version, s, rest)) None in made)
        ≡ None
    by_case None is = absurd cc
    by_case (Some e) is = refl

-- ---- a head that ends early

pub ends_at_version : (bytes : List ℕ) → version_at bytes ≡ None → head_at bytes ≡ None
unfolding head_at
ends_at_version bytes h = rw h refl

pub ends_at_pool : (bytes : List ℕ) {version : Version} {marked : List ℕ}
    → version_at bytes ≡ Some (version, marked)
    → number_at w32 marked ≡ None → head_at bytes ≡ None
unfolding head_at
ends_at_pool bytes a h = rw (a, h) refl

pub ends_at_users : (e : ReadError) (bytes : List ℕ) {version : Version} {n : ℕ} {marked pool : List ℕ}
    → version_at bytes ≡ Some (version, marked) → number_at w32 marked ≡ Some (n, pool)
    → Fails e (counted_at limit_at pool) → Fails e (head_at bytes)
unfolding head_at
ends_at_users Memory bytes a b h = tt
ends_at_users Torn bytes a b h = rw (a, b, h) refl

pub ends_at_files : (e : ReadError) (bytes : List ℕ) {version : Version} {n : ℕ} {us : List ℕ}
    {marked pool users : List ℕ}
    → version_at bytes ≡ Some (version, marked) → number_at w32 marked ≡ Some (n, pool)
    → counted_at limit_at pool ≡ Some (us, users) → Fails e (counted_at user_at users) → Fails e (head_at bytes)
unfolding head_at
ends_at_files Memory bytes a b c h = tt
ends_at_files Torn bytes a b c h = rw (a, b, c, h) refl

pub ends_at_devices : (e : ReadError) (bytes : List ℕ) {version : Version} {n : ℕ} {us : List ℕ} {fs : List UserNo}
    {marked pool users files : List ℕ}
    → version_at bytes ≡ Some (version, marked) → number_at w32 marked ≡ Some (n, pool)
    → counted_at limit_at pool ≡ Some (us, users) → counted_at user_at users ≡ Some (fs, files)
    → Fails e (counted_at (device_at version) files) → Fails e (head_at bytes)
unfolding head_at
ends_at_devices Memory bytes a b c d h = tt
ends_at_devices Torn bytes a b c d h = rw (a, b, c, d, h) refl

pub ends_at_passes : (bytes : List ℕ) {version : Version} {n : ℕ} {us : List ℕ} {fs : List UserNo}
    {ds : List DeviceSettings} {marked pool users files devices : List ℕ}
    → version_at bytes ≡ Some (version, marked) → number_at w32 marked ≡ Some (n, pool)
    → counted_at limit_at pool ≡ Some (us, users) → counted_at user_at users ≡ Some (fs, files)
    → counted_at (device_at version) files ≡ Some (ds, devices) → number_at w16 devices ≡ None
    → head_at bytes ≡ None
unfolding head_at
ends_at_passes bytes a b c d f h = rw (a, b, c, d, f, h) refl
