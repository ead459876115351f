-- Objects are of open files, and the devices that are bound or attached are of the settings.
use Rattle.std.proofs.Common.{◌≡◌, ℕ, Bool, true, false, ◌&&◌, ◌||◌, not, eqb, is_some, List, [], ◌∷◌, ◌++◌, Some, None}
use Rattle.std.proofs.Common.{refl, sym, ap, ◌∙◌, arith}
use Rattle.std.specs.List.{filter, list_all, list_any}
use Rattle.std.proofs.lemmas.Bool.{eqb-true}
use Rattle.std.proofs.lemmas.Bool.Decides.{nat_tests}
use Rattle.iofd_refusals.specs.Checks.{bind_checks, ioas_alloc_checks}
use Rattle.iofd_words.specs.Files.{is_device, is_open, numbered, user_of}
use Rattle.iofd_runs.specs.Fits.{is_known_device}
use Rattle.iofd_words.specs.FirstTrue.{first_true}
use Rattle.iofd_words.specs.Objects.{binding_of, is_bound_as}
use Rattle.iofd_words.specs.Settings.{Settings}
use Rattle.iofd_words.specs.View.{view}
use Rattle.iofd_words.specs.World.{World}
use Rattle.iofd_words.specs.declared.numbers.DeviceNo.{DeviceNo}
use Rattle.iofd_words.specs.declared.numbers.FileNo.{FileNo}
use Rattle.iofd_words.specs.declared.rows.Attachment.{Attachment}
use Rattle.iofd_words.specs.declared.rows.Object.{Object}
use Rattle.iofd_words.specs.declared.rows.ObjectKind.{ObjectKind}
use Rattle.iofd_words.specs.declared.rows.ObjectKind.TheVariants as kind
use Rattle.iofd_rows.proofs.Bools.{and_true, both_false, both_true, not_false, not_true}
use Rattle.iofd_rows.proofs.Each.{in_filter, in_found, of_all, of_each}
use Rattle.iofd_runs.proofs.NotRefused.{alloc_passed, bind_passed}

-- the object is of an open file, and a bound device is one of the settings
abbrev pub is_known : Settings → List FileNo → Object → Bool
is_known settings closed object = is_open settings closed object.file && is_known_device settings object.kind

abbrev pub are_attached : Settings → List Attachment → Bool
are_attached settings attachments = list_all (λ (a : Attachment). is_device settings a.device) attachments

-- ---- a file is closed

any_last : (f : FileNo) (closed : List FileNo) (file : FileNo)
    → list_any (λ (c : FileNo). eqb c.0 f.0) (closed ++ file ∷ []) ≡ (list_any (λ (c : FileNo). eqb c.0 f.0) closed
    || eqb file.0 f.0)
any_last f [] file = or_no (eqb file.0 f.0)
  where
    or_no : (b : Bool) → (b || false) ≡ b
    or_no true = refl
    or_no false = refl
any_last f (c ∷ closed) file = joined (eqb c.0 f.0) (any_last f closed file)
  where
    joined : (b : Bool) → list_any (λ (c : FileNo). eqb c.0 f.0)
        (closed ++ file ∷ []) ≡ (list_any (λ (c : FileNo). eqb c.0 f.0) closed || eqb file.0 f.0)
        → (b || list_any (λ (c : FileNo). eqb c.0 f.0) (closed ++ file ∷ []))
        ≡ ((b || list_any (λ (c : FileNo). eqb c.0 f.0) closed) || eqb file.0 f.0)
    joined true rest = refl
    joined false rest = rest

flipped : (m n : ℕ) → eqb m n ≡ false → eqb n m ≡ false
flipped m n other = grind (arith, nat_tests)

-- the other files stay open
open_still : (settings : Settings) (closed : List FileNo) (file f : FileNo) → eqb f.0 file.0 ≡ false
    → is_open settings closed f ≡ true → is_open settings (closed ++ file ∷ []) f ≡ true
open_still settings closed file f other is =
    let parts = and_true (is_some (user_of settings f)) (not (list_any (λ (c : FileNo). eqb c.0 f.0) closed)) is in
    let none : list_any (λ (c : FileNo). eqb c.0 f.0) (closed ++ file ∷ []) ≡ false =
    any_last f closed file ∙ both_false _ _ (not_true _ parts.1) (flipped f.0 file.0 other) in
    both_true _ _ parts.0 (not_false _ none)

pub known_closed : (settings : Settings) (closed : List FileNo) (file : FileNo) (objects : List Object)
    → list_all (is_known settings closed) objects ≡ true
    → list_all (is_known settings (closed ++ file ∷ []))
    (filter (λ (o : Object). not (eqb o.file.0 file.0)) objects) ≡ true
known_closed settings closed file objects all =
    of_all (is_known settings (closed ++ file ∷ []))
    (filter (λ (o : Object). not (eqb o.file.0 file.0)) objects) (λ x within.
    let (before, stays) = in_filter (λ (o : Object). not (eqb o.file.0 file.0)) objects x within in
    let parts = and_true (is_open settings closed x.file) (is_known_device settings x.kind)
    (of_each (is_known settings closed) objects x all before) in
    both_true _ _ (open_still settings closed file x.file (not_true _ stays) parts.0) parts.1)

-- ---- the object by which a device is bound

device_of_kind : (settings : Settings) (device : DeviceNo) (k : ObjectKind) → is_bound_as device k ≡ true
    → is_known_device settings k ≡ true → is_device settings device ≡ true
device_of_kind settings device kind.Ioas is known = cc
device_of_kind settings device (kind.Hwpt ioas width automatic) is known = cc
device_of_kind settings device (kind.Access attached) is known = cc
device_of_kind settings device (kind.Device bound) is known =
    let same = eqb-true bound.0 device.0 is in ap (λ n. is_some (numbered settings.devices n)) (sym same) ∙ known

-- it is of an open file, and the device is one of the settings
pub bound_known : (settings : Settings) (closed : List FileNo) (objects : List Object) (device : DeviceNo)
    (object : Object) → list_all (is_known settings closed) objects ≡ true → binding_of objects device ≡ Some object
    → (is_open settings closed object.file ≡ true) × (is_device settings device ≡ true)
bound_known settings closed objects device object all is =
    let (within, bound) = in_found (λ (o : Object). is_bound_as device o.kind) objects object is in
    let parts = and_true (is_open settings closed object.file) (is_known_device settings object.kind)
    (of_each (is_known settings closed) objects object all within) in
    (parts.0, device_of_kind settings device object.kind bound parts.1)

-- ---- what the refusals rule out

pub alloc_open : (w : World) (file : FileNo) → first_true (ioas_alloc_checks (view w) file) ≡ None
    → is_open w.settings w.closed file ≡ true
alloc_open w file none = (alloc_passed (view w) file none).opened

pub bind_open : (w : World) (file : FileNo) (device : DeviceNo) → first_true (bind_checks (view w) file device) ≡ None
    → is_open w.settings w.closed file ≡ true
bind_open w file device none = (bind_passed (view w) file device none).opened
