-- The bytes of an access, as they are kept: in 64 bytes, with zeros behind them.
use Rattle.std.specs.Prelude.{ℕ, ◌≡◌, ◌-◌, ◌<◌, ◌≤◌, List, ◌++◌, length, take, replicate}
use Rattle.std.proofs.Common.{drop, arith, refl}
use Rattle.std.proofs.lemmas.List.{take-append-drop, length-take}
use Rattle.iofd_words.specs.declared.burst.Burst.TheInside.{Inside}

abbrev pub bytes_of : Inside → List ℕ
bytes_of fields = take fields.len fields.bytes

abbrev pub fields_of : List ℕ → Inside
fields_of bytes = record { bytes = bytes ++ replicate (64 - length bytes) 0; len = length bytes }

pub record IsBurst (fields : Inside) : Type 0 where
  pub room : length fields.bytes ≡ 64
  pub some : 0 < fields.len
  pub few : fields.len ≤ 64
  pub zeros : drop fields.len fields.bytes ≡ replicate (64 - fields.len) 0

-- the fields are those of the bytes that they show
pub fields_of-bytes_of : (fields : Inside) → IsBurst fields → fields_of (bytes_of fields) ≡ fields
fields_of-bytes_of fields h =
    let shown : length (take fields.len fields.bytes) ≡ fields.len =
    simp length-take (omega (arith, h.room, h.few)) in
    rw (shown, ← h.zeros, take-append-drop) refl
