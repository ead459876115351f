-- What is asked of the arrays of a C program is whether its settings are within their limits.
use Rattle.std.proofs.Common.{◌≡◌, ◌∙◌, ◌+◌, ◌<◌, ℕ, Bool, true, false, ◌&&◌, not, is_none, nat_le, List, [], ◌∷◌}
use Rattle.std.proofs.Common.{ap, length, map, arith, sym, take, Option}
use Rattle.std.specs.List.{enumerate_from, list_all}
use Rattle.std.proofs.lemmas.List.{length-map}
use Rattle.std.proofs.lemmas.List.Folds.{list_all-append, list_all-map}
use Rattle.iofd_words.specs.FirstTrue.{first_true}
use Rattle.iofd_words.specs.Limits.{first_outside}
use Rattle.iofd_words.specs.Settings.{is_between, is_device_in_limits, is_reserved_span}
use Rattle.iofd_words.specs.declared.config.ConfigError.{ConfigError}
use Rattle.iofd_words.specs.declared.config.ConfigError.TheVariants as field
use Rattle.iommufd_c.specs.Configured.{devices_of_rows, reserved_for, rows_for, settings_of_rows, span_of, user_of}
use Rattle.iommufd_c.specs.declared.configuring.DeviceRow.{DeviceRow}
use Rattle.iommufd_c.specs.declared.reserving.ReservedRow.{ReservedRow}
use Rattle.iommufd_c.proofs.Rows.{device_more}

abbrev outside : Bool → Bool → Bool → Bool → Bool → Option ConfigError
outside pool users files devices passes = first_true ((field.Pool, not pool) ∷ (field.Users, not users)
    ∷ (field.Files, not files) ∷ (field.Devices, not devices) ∷ (field.Passes, not passes) ∷ [])

all_answers : (rows pool users files devices passes : Bool)
    → (((((rows && pool) && users) && files) && devices) && passes)
    ≡ (rows && is_none (outside pool users files devices passes))
all_answers false pool users files devices passes = cc
all_answers true false users files devices passes = cc
all_answers true true false files devices passes = cc
all_answers true true true false devices passes = cc
all_answers true true true true false passes = cc
all_answers true true true true true false = cc
all_answers true true true true true true = cc

module _ (pool : ℕ) (users files : List ℕ) (devices : List DeviceRow) (reserved : List ReservedRow) (passes : ℕ) where
  files_same : (is_between 1 1024 (length (map user_of files))
      && list_all (λ user. is_between 1 (length users) user.0) (map user_of files))
      ≡ (is_between 1 1024 (length files) && list_all (is_between 1 (length users)) files)
  files_same i = is_between 1 1024 (length-map files user_of i)
      && list_all-map (λ user. is_between 1 (length users) user.0) user_of files i

  numbered : (n : ℕ) (rows : List DeviceRow) → length (enumerate_from n rows) ≡ length rows
  numbered n [] = cc
  numbered n (row ∷ rows) = let rest = numbered (n + 1) rows in omega (arith, rest)

  count_same : length (devices_of_rows reserved devices) ≡ length devices
  count_same = length-map (enumerate_from 1 devices) _ ∙ numbered 1 devices

  pub settings_within : (rows : Bool) → (((((rows && is_between 1 4096 pool) && is_between 1 255 (length users))
      && (is_between 1 1024 (length files) && list_all (is_between 1 (length users)) files))
      && (nat_le (length devices) 256 && list_all is_device_in_limits (devices_of_rows reserved devices)))
      && is_between 1 1024 passes)
      ≡ (rows && is_none (first_outside (settings_of_rows pool users files devices reserved passes)))
  settings_within rows = all_answers rows (is_between 1 4096 pool) (is_between 1 255 (length users)) _ _
      (is_between 1 1024 passes)
      ∙ (λ i. rows && is_none (outside (is_between 1 4096 pool) (is_between 1 255 (length users)) (sym files_same i)
      (nat_le (sym count_same i) 256 && list_all is_device_in_limits (devices_of_rows reserved devices))
      (is_between 1 1024 passes)))

-- the device of this number is within its limits
abbrev pub fits : List ReservedRow → ℕ → Bool
fits reserved device = let rows = rows_for reserved device in
    nat_le (length rows) 16 && list_all (λ row. is_reserved_span (span_of row)) rows

-- as its settings are
fits_so : (reserved : List ReservedRow) (device : ℕ) → fits reserved device
    ≡ (nat_le (length (reserved_for reserved device)) 16 && list_all is_reserved_span (reserved_for reserved device))
fits_so reserved device i = let rows = rows_for reserved device in
    nat_le (sym (length-map rows span_of) i) 16 && sym (list_all-map is_reserved_span span_of rows) i

and_true : (b : Bool) → (b && true) ≡ b
and_true true = cc
and_true false = cc

-- of one device more
pub fits_more : (reserved : List ReservedRow) (rows : List DeviceRow) (place : ℕ) (d : DeviceRow) (all : Bool)
    → place < length rows → all ≡ list_all is_device_in_limits (devices_of_rows reserved (take place rows))
    → (all && fits reserved (place + 1)) ≡ list_all is_device_in_limits (devices_of_rows reserved (take (place + 1) rows))
fits_more reserved rows place d all here is =
    let so_far = devices_of_rows reserved (take place rows) in
    let more = device_more reserved rows so_far place d here (λ i. so_far) in
    (λ i. is i && (fits_so reserved (place + 1) ∙ sym (and_true _)) i)
    ∙ (sym (list_all-append is_device_in_limits so_far _) ∙ ap (list_all is_device_in_limits) more)
