-- What a port keeps of its device's pages: what is left of it once turns are compared, what is kept with a right, and
-- how an access leaves it.
use Rattle.std.specs.Prelude.{◌≡◌, ◌⊎◌, ℕ, ◌-◌, ◌==◌, if◌then◌else◌, nat_eq, Option, Some, None, List, [], ◌∷◌, take}
use Rattle.std.specs.Map.{lookup, remove_entry}
use Rattle.iofd_words.specs.Rights.{has_right}
use Rattle.iofd_words.specs.declared.fault.AccessKind.{AccessKind}
use Rattle.iofd_words.specs.declared.query.Translation.{Translation}

-- pages (an address divided by 4096), each with what it is translated to, the most recently used first
abbrev pub Translations : Type 0
Translations = List (ℕ × Translation)

-- what is left once the turns are compared: nothing, where they differ
abbrev pub compared : ℕ → ℕ → Translations → Translations
compared turns now kept = if turns == now then kept else []

-- a translation with the right
abbrev pub with_right : AccessKind → Option Translation → Option Translation
with_right kind None = None
with_right kind (Some t) = if has_right t.rights kind then Some t else None

-- the page first, and then the others in their order, without the last where a new page found as many as there may be
abbrev pub used : ℕ → ℕ → Translation → Translations → Translations
used most page t kept = (page, t) ∷ take (most - 1) (remove_entry (nat_eq page) kept)

-- where a new page found no memory it is as it was
abbrev pub IsUsed : ℕ → ℕ → Translation → Translations → Translations → Type 0
IsUsed most page t old new = (new ≡ used most page t old) ⊎ ((new ≡ old) × (lookup (nat_eq page) old ≡ None))

-- where nothing was found it is as it was
abbrev pub Leaves : ℕ → ℕ → Option Translation → Translations → Translations → Type 0
Leaves most page None old new = new ≡ old
Leaves most page (Some t) old new = IsUsed most page t old new
