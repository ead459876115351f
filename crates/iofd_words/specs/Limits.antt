-- The limits of what a server is opened with: pool, users, files, devices and passes, in this order.
use Rattle.std.specs.Prelude.{◌&&◌, not, nat_le, Option, Some, None, Result, Ok, Err, [], ◌∷◌, length}
use Rattle.std.specs.List.{list_all}
use Rattle.iofd_words.specs.FirstTrue.{first_true}
use Rattle.iofd_words.specs.Settings.{Settings, is_between, is_device_in_limits}
use Rattle.iofd_words.specs.declared.config.ConfigError.{ConfigError}
use Rattle.iofd_words.specs.declared.config.ConfigError.TheVariants as field

-- the first field that is outside its limits
abbrev pub first_outside : Settings → Option ConfigError
first_outside s = first_true (
    (field.Pool, not (is_between 1 4096 s.pool))
    ∷ (field.Users, not (is_between 1 255 (length s.users)))
    ∷ (
      field.Files,
      not (is_between 1 1024 (length s.files)
          && list_all (λ user. is_between 1 (length s.users) user.0) s.files),
    )
    ∷ (field.Devices, not (nat_le (length s.devices) 256 && list_all is_device_in_limits s.devices))
    ∷ (field.Passes, not (is_between 1 1024 s.passes))
    ∷ [])

-- the settings, if they are within the limits
abbrev pub opened : Settings → Result Settings ConfigError
opened s = elim (first_outside s) [ None ↦ Ok s | Some e ↦ Err e ]
