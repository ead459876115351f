-- The objects by which devices are bound, by rising device: one comes, and one is found.
use Rattle.std.proofs.Common.{◌≡◌, ℕ, ◌≤◌, Bool, true, false, cond, ◌&&◌, eqb, ltb, leb, Option, List, [], ◌∷◌}
use Rattle.std.proofs.Common.{refl, ap, ◌∙◌, arith}
use Rattle.std.specs.List.{list_all, prefix_len, slice_get}
use Rattle.std.proofs.lemmas.Bool.{and_parts}
use Rattle.std.proofs.lemmas.Bool.Decides.{nat_tests}
use Rattle.iofd_rows.proofs.Inserted.{all-inserted}
use Rattle.iofd_words.specs.Objects.{binding_of, is_bound_as, is_bound_device}
use Rattle.iofd_words.specs.declared.numbers.DeviceNo.{DeviceNo}
use Rattle.iofd_words.specs.declared.rows.Object.{Object}
use Rattle.iofd_words.specs.declared.rows.ObjectKind.{ObjectKind}
use Rattle.iofd_words.specs.declared.rows.ObjectKind.TheVariants as kind
use Rattle.server_state.specs.Devices.{are_bindings, binds_lower, bound_number, with_binding}
use Rattle.server_state.proofs.Searched.{passing, rises, searched}

-- ---- the object of a device is known by its number

abbrev is_device : Object → Bool
is_device object = is_bound_device object.kind

abbrev number : Object → ℕ
number object = bound_number object.kind

pub tells : (device : DeviceNo) (object : Object) → is_bound_device object.kind ≡ true
    → is_bound_as device object.kind ≡ eqb (bound_number object.kind) device.0
tells device object is = by_kind object.kind is
  where
    by_kind : (k : ObjectKind) → is_bound_device k ≡ true → is_bound_as device k ≡ eqb (bound_number k) device.0
    by_kind kind.Ioas is = cc
    by_kind (kind.Hwpt ioas width automatic) is = cc
    by_kind (kind.Device bound) is = refl
    by_kind (kind.Access attached) is = cc

pub bindings_rise : (bindings : List Object) → are_bindings bindings ≡ true
    → rises (λ (o : Object). is_bound_device o.kind) (λ (o : Object). bound_number o.kind) bindings ≡ true
bindings_rise [] are = refl
bindings_rise (b ∷ bindings) are =
    let first = and_parts (is_device b) (list_all (λ c. leb (number b) (number c)) bindings && are_bindings bindings)
    are in
    let rest = and_parts (list_all (λ c. leb (number b) (number c)) bindings) (are_bindings bindings) first.1 in
    rw (first.0, rest.0) (bindings_rise bindings rest.1)

-- ---- what one that comes leaves

pub are_parts : (b : Object) (bindings : List Object) → are_bindings (b ∷ bindings) ≡ true
    → (is_device b ≡ true) × (list_all (λ c. leb (number b) (number c)) bindings ≡ true)
    × (are_bindings bindings ≡ true)
are_parts b bindings are =
    let first = and_parts (is_device b) (list_all (λ c. leb (number b) (number c)) bindings && are_bindings bindings)
    are in
    let rest = and_parts (list_all (λ c. leb (number b) (number c)) bindings) (are_bindings bindings) first.1 in
    (first.0, rest.0, rest.1)

lower_too : (low high : ℕ) (bindings : List Object) → low ≤ high → list_all (λ c. leb high (number c)) bindings ≡ true
    → list_all (λ c. leb low (number c)) bindings ≡ true
lower_too low high [] below all = refl
lower_too low high (c ∷ bindings) below all =
    let both = and_parts (leb high (number c)) (list_all (λ d. leb high (number d)) bindings) all in
    let first : leb high (number c) ≡ true = both.0 in
    let here : leb low (number c) ≡ true = grind (arith, nat_tests) in
    rw here (lower_too low high bindings below both.1)

pub are_with : (b : Object) (bindings : List Object) → is_bound_device b.kind ≡ true → are_bindings bindings ≡ true
    → are_bindings (with_binding b bindings) ≡ true
are_with b [] device are = rw device refl
are_with b (c ∷ bindings) device are =
    let parts = are_parts c bindings are in
    by_order (ltb (number b) (number c)) refl parts (are_with b bindings device parts.2)
  where
    by_order : (above : Bool) → ltb (number b) (number c) ≡ above
        → (is_device c ≡ true) × (list_all (λ d. leb (number c) (number d)) bindings ≡ true)
        × (are_bindings bindings ≡ true)
        → are_bindings (with_binding b bindings) ≡ true
        → are_bindings (cond above (b ∷ c ∷ bindings) (c ∷ with_binding b bindings)) ≡ true
    by_order true is parts rest =
        let first : leb (number b) (number c) ≡ true = grind (arith, nat_tests) in
        let below : number b ≤ number c = grind (arith, nat_tests) in
        rw (device, first, lower_too (number b) (number c) bindings below parts.1, parts.0, parts.1, parts.2) refl
    by_order false is parts rest =
        let here : leb (number c) (number b) ≡ true = grind (arith, nat_tests) in
        rw (parts.0, all-inserted binds_lower (λ (d : Object). leb (number c) (number d)) b bindings here parts.1, rest)
        refl

-- so the object by which a device is bound is found where those of lower devices end
pub binding_there : (bindings : List Object) (device : DeviceNo) → are_bindings bindings ≡ true → (o : Option Object)
    → slice_get bindings (prefix_len (λ (b : Object). ltb (bound_number b.kind) device.0) bindings) ≡ o
    → binding_of bindings device ≡ passing (λ (b : Object). is_bound_as device b.kind) o
binding_there bindings device are o is =
    searched is_device number (λ (b : Object). is_bound_as device b.kind) device.0 (tells device) bindings
    (bindings_rise bindings are)
    ∙ ap (passing (λ (b : Object). is_bound_as device b.kind)) is
