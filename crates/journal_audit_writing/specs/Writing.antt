-- What a writer leaves. `old` are the bytes before, `new` those after.
use Rattle.std.specs.Prelude.{◌≡◌, Result, Ok, Err, List, ℕ, ◌++◌}

-- what was there stands at the front
abbrev pub Keeps : List ℕ → List ℕ → Type 0
Keeps old new = (more : List ℕ) × (new ≡ old ++ more)

-- this text was appended; where memory was refused, perhaps a part of it
abbrev pub Appends : {X E : Type 0} → Result X E → List ℕ → List ℕ → List ℕ → Type 0
Appends (Ok x) old new text = new ≡ old ++ text
Appends (Err e) old new text = Keeps old new
