-- What holds of numbers that are within the limits.
use Rattle.std.proofs.Common.{◌≡◌, ℕ, ◌≤◌, Bool, true, false, not, ◌&&◌, Option, Some, None, length, refl}
use Rattle.std.specs.Prelude.{if◌then◌else◌, nat_le}
use Rattle.std.specs.List.{list_all}
use Rattle.std.proofs.lemmas.Bool.{leb-true}
use Rattle.iofd_words.specs.Limits as config
use Rattle.iofd_words.specs.Settings.{Settings, is_between, is_device_in_limits}
use Rattle.shared_iommufd.specs.Limits.{first_outside}

-- where no row is true the first isn't, nor one behind it
none_true : {X : Type 0} (b : Bool) (x : X) (rest : Option X) → (if not b then Some x else rest) ≡ None
    → (b ≡ true) × (rest ≡ None)
none_true true x rest e = (refl, e)
none_true false x rest e = cc

both_true : (a b : Bool) → (a && b) ≡ true → (a ≡ true) × (b ≡ true)
both_true true b e = (refl, e)
both_true false b e = cc

between : (low high n : ℕ) → is_between low high n ≡ true → (low ≤ n) × (n ≤ high)
between low high n e =
    let both = both_true _ _ e in (leb-true low n both.0, leb-true n high both.1)

pub lanes_fit : (lanes cache : ℕ) → first_outside lanes cache ≡ None → (1 ≤ lanes) × (lanes ≤ 64)
lanes_fit lanes cache none = between 1 64 lanes (none_true (is_between 1 64 lanes) _ _ none).0

-- what a configuration has within its limits, behind its files
devices_and_passes : (s : Settings) → config.first_outside s ≡ None
    → (length s.devices ≤ 256) × (is_between 1 1024 s.passes ≡ true)
devices_and_passes s none =
    let pool = none_true (is_between 1 4096 s.pool) _ _ none in
    let users = none_true (is_between 1 255 (length s.users)) _ _ pool.1 in
    let files = none_true (is_between 1 1024 (length s.files)
    && list_all (λ user. is_between 1 (length s.users) user.0) s.files) _ _ users.1 in
    let devices = none_true (nat_le (length s.devices) 256 && list_all is_device_in_limits s.devices) _ _ files.1 in (
      leb-true (length s.devices) 256 (both_true _ _ devices.0).0,
      (none_true (is_between 1 1024 s.passes) _ _ devices.1).0,
    )

-- and 1 to 1024 passes
pub passes_fit : (s : Settings) → config.first_outside s ≡ None → (1 ≤ s.passes) × (s.passes ≤ 1024)
passes_fit s none = between 1 1024 s.passes (devices_and_passes s none).1
