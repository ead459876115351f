-- The limits of lanes and of a port's cache.
use Rattle.std.specs.Prelude.{◌≡◌, ◌⊎◌, ℕ, not, Option, Some, None, [], ◌∷◌}
use Rattle.iofd_words.specs.FirstTrue.{first_true}
use Rattle.iofd_words.specs.Settings.{is_between}
use Rattle.shared_iommufd.specs.declared.error.ConfigError.{ConfigError}
use Rattle.shared_iommufd.specs.declared.error.ConfigError.TheVariants as field

-- the first of the two that is outside its limits
abbrev pub first_outside : ℕ → ℕ → Option ConfigError
first_outside lanes cache = first_true (
    (field.Lanes, not (is_between 1 64 lanes))
    ∷ (field.Cache, not (is_between 1 4096 cache))
    ∷ [])

-- the error is that one, or where none is, want of memory
abbrev pub IsRefusedFor : ℕ → ℕ → ConfigError → Type 0
IsRefusedFor lanes cache error =
    (first_outside lanes cache ≡ Some error) ⊎ ((first_outside lanes cache ≡ None) × (error ≡ field.Memory))
