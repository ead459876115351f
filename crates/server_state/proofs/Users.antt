-- Each file's user is one of the users.
use Rattle.std.proofs.Common.{◌≡◌, ℕ, zero, suc, Bool, true, false, ◌&&◌, not, leb, Option, Some, None, is_some, List}
use Rattle.std.proofs.Common.{[], ◌∷◌, length, refl, sym, arith}
use Rattle.std.specs.Prelude.{IfSome, IsTrue}
use Rattle.std.specs.List.{list_all, slice_get}
use Rattle.std.proofs.lemmas.Bool.Decides.{nat_tests}
use Rattle.iofd_rows.proofs.Bools.{and_true}
use Rattle.iofd_runs.proofs.Runs.{tests_false}
use Rattle.iofd_words.specs.Files.{is_user, numbered, user_of}
use Rattle.iofd_words.specs.Limits.{first_outside}
use Rattle.iofd_words.specs.Settings.{Settings, is_between, is_device_in_limits}
use Rattle.iofd_words.specs.declared.config.ConfigError.TheVariants as field
use Rattle.iofd_words.specs.declared.numbers.FileNo.{FileNo}
use Rattle.iofd_words.specs.declared.numbers.UserNo.{UserNo}

not_not : (b : Bool) → not b ≡ false → b ≡ true
not_not true is = refl
not_not false is = cc

some_within : {X : Type 0} (xs : List X) (n : ℕ) → is_between 1 (length xs) n ≡ true → is_some (numbered xs n) ≡ true
some_within xs zero is = cc
some_within [] (suc n) is = grind (arith, nat_tests)
some_within (x ∷ xs) (suc zero) is = refl
some_within (x ∷ xs) (suc (suc n)) is =
    let parts = and_true (leb 1 (suc (suc n))) (leb (suc (suc n)) (length (x ∷ xs))) is in
    some_within xs (suc n) (fewer (length xs) n parts.1)
  where
    fewer : (m k : ℕ) → leb (suc (suc k)) (suc m) ≡ true → is_between 1 m (suc k) ≡ true
    fewer m k is = grind (arith, nat_tests)

all_at : (users : ℕ) (files : List UserNo) (n : ℕ) (user : UserNo)
    → list_all (λ (u : UserNo). is_between 1 users u.0) files ≡ true → slice_get files n ≡ Some user
    → is_between 1 users user.0 ≡ true
all_at users [] n user each is = cc
all_at users (u ∷ files) zero user each is =
    let parts = and_true (is_between 1 users u.0) (list_all (λ (u : UserNo). is_between 1 users u.0) files) each in
    let same : u ≡ user = cc in
    rw (← same) parts.0
all_at users (u ∷ files) (suc n) user each is =
    let parts = and_true (is_between 1 users u.0) (list_all (λ (u : UserNo). is_between 1 users u.0) files) each in
    all_at users files n user parts.1 is

pub known_user : (s : Settings) (file : FileNo) (user : UserNo) → first_outside s ≡ None → user_of s file ≡ Some user
    → is_user s user ≡ true
known_user s file user within is =
    let rows = (field.Pool, not (is_between 1 4096 s.pool))
    ∷ (field.Users, not (is_between 1 255 (length s.users)))
    ∷ (
      field.Files,
      not (is_between 1 1024 (length s.files)
          && list_all (λ user. is_between 1 (length s.users) user.0) s.files),
    )
    ∷ (field.Devices, not (leb (length s.devices) 256 && list_all is_device_in_limits s.devices))
    ∷ (field.Passes, not (is_between 1 1024 s.passes))
    ∷ [] in
    let files = and_true (is_between 1 1024 (length s.files))
    (list_all (λ (user : UserNo). is_between 1 (length s.users) user.0) s.files)
    (not_not _ (tests_false rows 2 within)) in
    some_within s.users user.0 (at_number file.0 is files.1)
  where
    at_number : (n : ℕ) → numbered s.files n ≡ Some user
        → list_all (λ (user : UserNo). is_between 1 (length s.users) user.0) s.files ≡ true
        → is_between 1 (length s.users) user.0 ≡ true
    at_number zero is each = cc
    at_number (suc n) is each = all_at (length s.users) s.files n user each is

pub known_found : (s : Settings) (file : FileNo) (o : Option UserNo) → first_outside s ≡ None → o ≡ user_of s file
    → IfSome o (λ user. IsTrue (is_user s user))
known_found s file None within is = tt
known_found s file (Some user) within is = known_user s file user within (sym is)
