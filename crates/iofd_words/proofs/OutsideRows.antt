-- The first field that is outside its limits, a lemma for each.
use Rattle.std.proofs.Common.{◌≡◌, ℕ, ◌<◌, ◌≤◌, ⊎_elim, nat_le, Bool, true, false, ◌&&◌, not, Option, Some, None}
use Rattle.std.proofs.Common.{length, [], ◌∷◌, sym, arith}
use Rattle.std.proofs.lemmas.Bool.Decides.{leb_tells}
use Rattle.std.specs.List.{list_all}
use Rattle.iofd_words.specs.FirstTrue.{first_true}
use Rattle.iofd_words.specs.Limits.{first_outside}
use Rattle.iofd_words.specs.Settings.{Settings, is_between, is_device_in_limits}
use Rattle.iofd_words.specs.declared.config.ConfigError.{ConfigError}
use Rattle.iofd_words.specs.declared.config.ConfigError.TheVariants as field

pub not_within : (n m : ℕ) → m < n → nat_le n m ≡ false
not_within n m lt = ⊎_elim (λ (h : (nat_le n m ≡ true) × (n ≤ m)). let le = h.1 in absurd (omega (arith, lt, le)))
    (λ (h : (nat_le n m ≡ false) × (m < n)). h.0) (leb_tells n m)

abbrev outside : Bool → Bool → Bool → Bool → Bool → Option ConfigError
outside pool users files devices passes = first_true ((field.Pool, not pool) ∷ (field.Users, not users)
    ∷ (field.Files, not files) ∷ (field.Devices, not devices) ∷ (field.Passes, not passes) ∷ [])

module _ (s : Settings) where
  abbrev users : Bool
  users = is_between 1 255 (length s.users)

  abbrev files : Bool
  files = is_between 1 1024 (length s.files) && list_all (λ user. is_between 1 (length s.users) user.0) s.files

  abbrev devices : Bool
  devices = nat_le (length s.devices) 256 && list_all is_device_in_limits s.devices

  abbrev passes : Bool
  passes = is_between 1 1024 s.passes

  pub pool_outside : is_between 1 4096 s.pool ≡ false → Some field.Pool ≡ first_outside s
  pool_outside a i = outside (sym a i) users files devices passes

  module _ (a : is_between 1 4096 s.pool ≡ true) where
    pub users_outside : users ≡ false → Some field.Users ≡ first_outside s
    users_outside b i = outside (sym a i) (sym b i) files devices passes

    module _ (b : users ≡ true) where
      pub files_outside : files ≡ false → Some field.Files ≡ first_outside s
      files_outside c i = outside (sym a i) (sym b i) (sym c i) devices passes

      module _ (c : files ≡ true) where
        pub devices_outside : devices ≡ false → Some field.Devices ≡ first_outside s
        devices_outside d i = outside (sym a i) (sym b i) (sym c i) (sym d i) passes

        pub passes_outside : devices ≡ true → passes ≡ false → Some field.Passes ≡ first_outside s
        passes_outside d e i = outside (sym a i) (sym b i) (sym c i) (sym d i) (sym e i)

        pub none_outside : devices ≡ true → passes ≡ true → None ≡ first_outside s
        none_outside d e i = outside (sym a i) (sym b i) (sym c i) (sym d i) (sym e i)
