-- What the limits of a configuration say.
use Rattle.std.proofs.Common.{◌≡◌, ℕ, zero, suc, ◌<◌, ◌≤◌, Bool, true, false, cond, not, ◌&&◌, List, [], ◌∷◌, length}
use Rattle.std.proofs.Common.{get_or, Option, Some, None, refl, sym, subst, arith}
use Rattle.std.specs.Prelude.{nat_le}
use Rattle.std.specs.List.{list_all}
use Rattle.std.proofs.lemmas.Bool.{leb-true}
use Rattle.iofd_words.specs.Limits.{first_outside}
use Rattle.iofd_words.specs.Settings.{Settings, is_between, is_device_in_limits}

none_then : {X : Type 0} (b : Bool) (e : X) (o : Option X) → cond b (Some e) o ≡ None → (b ≡ false) × (o ≡ None)
none_then true e o is = absurd cc
none_then false e o is = (refl, is)

is_true : (b : Bool) → not b ≡ false → b ≡ true
is_true true is = refl
is_true false is = absurd cc

both : (a b : Bool) → (a && b) ≡ true → (a ≡ true) × (b ≡ true)
both true b is = (refl, is)
both false b is = absurd cc

at_most : (low high n : ℕ) → is_between low high n ≡ true → n ≤ high
at_most low high n is = leb-true n high (both (nat_le low n) (nat_le n high) is).1

pub record Within (s : Settings) : Type 0 where
  pub users : length s.users ≤ 255
  pub files : length s.files ≤ 1024
  pub devices : length s.devices ≤ 256
  pub each_device : list_all is_device_in_limits s.devices ≡ true

pub within : (s : Settings) → first_outside s ≡ None → Within s
within s is =
    let pool = none_then _ _ _ is in
    let users = none_then _ _ _ pool.1 in
    let files = none_then _ _ _ users.1 in
    let devices = none_then _ _ _ files.1 in
    let of_files = both _ _ (is_true _ files.0) in
    let of_devices = both _ _ (is_true _ devices.0) in
    record {
      users = at_most 1 255 (length s.users) (is_true _ users.0);
      files = at_most 1 1024 (length s.files) of_files.0;
      devices = leb-true (length s.devices) 256 of_devices.0;
      each_device = of_devices.1;
    }

-- what holds of each holds of the one at this place
pub all_at : {X : Type 0} (p : X → Bool) (xs : List X) (i : ℕ) (x : X) → i < length xs → x ≡ get_or xs i x
    → list_all p xs ≡ true → p x ≡ true
all_at p [] i x less is all = absurd (omega (arith, less))
all_at p (y ∷ ys) zero x less is all = subst (λ (z : _). p z ≡ true) (sym is) (both (p y) (list_all p ys) all).0
all_at p (y ∷ ys) (suc i) x less is all =
    all_at p ys i x (omega (arith, less)) is (both (p y) (list_all p ys) all).1
