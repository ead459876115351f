-- What is written, and how writing may fail.
use Rattle.std.specs.Prelude.{◌≡◌, ◌≢◌, ℕ, Option, List, [], ◌++◌}
use Rattle.std.specs.Io.KnownBytes.{Appends}
use Rattle.std.specs.IoError.{error_kind}
use Rattle.std.specs.declared.io.Error.{Error}
use Rattle.std.specs.declared.io.ErrorKind.TheVariants.{Interrupted}

-- the first bytes of some, and not all of them
abbrev pub IsFront : List ℕ → List ℕ → Type 0
IsFront front all = (rest : List ℕ) × (rest ≢ []) × (all ≡ front ++ rest)

-- bytes of this sort were written, where those of the writer are known
abbrev pub Writes : (List ℕ → Type 0) → Option (List ℕ) → Option (List ℕ) → Type 0
Writes P old new = (out : List ℕ) × P out × Appends old new out

-- the error isn't that a signal interrupted the call: such a call is tried again
abbrev pub IsFinal : Error → Type 0
IsFinal error = error_kind error ≢ Interrupted
