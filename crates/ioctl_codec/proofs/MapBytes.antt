-- The bytes and the widths of a MAP and of a COPY, by whether their flags fix the address at which is mapped.
use Rattle.std.proofs.Common.{◌≡◌, ℕ, Bool, true, false, cond, [], ◌∷◌, ◌++◌, Option, None, unwrap_or, refl, arith}
use Rattle.std.specs.Int.{w32, to_le_bytes}
use Rattle.iofd_words.specs.declared.event.CopyRequest.{CopyRequest}
use Rattle.iofd_words.specs.declared.event.MapRequest.{MapRequest}
use Rattle.ioctl_codec.specs.Layout.{AreOfWidth, filled, spelled, structure_bytes}
use Rattle.ioctl_codec.specs.Structures.{copy_values, ioas_copy, ioas_map, map_values}

pub map_bytes : (fixed : Bool) (m : MapRequest) (answer : Option ℕ) (iova : ℕ)
    → iova ≡ unwrap_or answer (cond fixed m.iova.0 0)
    → to_le_bytes w32 40 ++ spelled (ioas_map true).fields (m.flags.0 ∷ m.ioas.0 ∷ 0 ∷ m.user_va ∷ m.length ∷ iova ∷ [])
    ≡ structure_bytes (ioas_map fixed) (map_values m) answer
unfolding structure_bytes
map_bytes true m answer iova e = rw e refl
map_bytes false m answer iova e = rw e refl

pub copy_bytes : (fixed : Bool) (r : CopyRequest) (answer : Option ℕ) (iova : ℕ)
    → iova ≡ unwrap_or answer (cond fixed r.dst_iova.0 0)
    → to_le_bytes w32 40 ++ spelled (ioas_copy true).fields (r.flags.0 ∷ r.dst_ioas.0 ∷ r.src_ioas.0 ∷ r.length ∷ iova
    ∷ r.src_iova.0 ∷ []) ≡ structure_bytes (ioas_copy fixed) (copy_values r) answer
unfolding structure_bytes
copy_bytes true r answer iova e = rw e refl
copy_bytes false r answer iova e = rw e refl

pub copy_fits : (fixed : Bool) (r : CopyRequest) → AreOfWidth (ioas_copy true).fields (copy_values r)
    → AreOfWidth (ioas_copy fixed).fields (filled (ioas_copy fixed).fields (copy_values r) None)
copy_fits true r fits = fits
copy_fits false r fits = (fits.0, (fits.1.0, (fits.1.1.0, (fits.1.1.1.0, (omega arith, fits.1.1.1.1.1)))))
