-- How many records there may be: a slice has less than 2 ^ 63 bytes, and each record takes some, since what it begins
-- with is an enum, whose tag is a byte. Its whole size isn't computed: it hangs on the allocator's, in many places.
use Rattle.std.proofs.Common.{◌≡◌, ◌+◌, ◌*◌, ◌^◌, ◌<◌, ◌≤◌, ℕ, Bool, true, false, Fits, w64, arith}
use Prim.Native.Nat.{zero}
use denote.Memory.{lone, mem}
use denote.RattleType.{RattleType}
use mir.Syntax.{Ty, tcons, ttcons, ttnil, ty_enum, ty_struct}
use native.Mathlib.Nat.{mul-le-mul}
use prog.Align.{end_ge}
use prog.Memory.{align, end_of, size, up}

-- a type whose values begin with the tag of an enum
abbrev pub begins_with_tag : Ty → Bool
begins_with_tag (ty_enum ν τss) = true
begins_with_tag (ty_struct ν (tcons τ τs)) = begins_with_tag τ
begins_with_tag τ = false

takes_bytes : (τ : Ty) → begins_with_tag τ ≡ true → 0 < size τ
takes_bytes (ty_enum ν ttnil) begins = omega arith
takes_bytes (ty_enum ν (ttcons τs τss)) begins = let end : 1 ≤ end_of 1 τs = end_ge 1 τs in omega (arith, end)
takes_bytes (ty_struct ν (tcons τ τs)) begins =
    let some = takes_bytes τ begins in
    let first = up (align τ) zero + size τ in
    let end : first ≤ end_of first τs = end_ge first τs in
    omega (arith, end, some)
takes_bytes τ begins = absurd cc

pub room_for_one : (R : RattleType) (count : ℕ) → begins_with_tag (lone R.mir) ≡ true → count * (mem R).size < 2 ^ 63
    → Fits w64 (count + 1)
room_for_one R count begins room =
    let some : 0 < (mem R).size = takes_bytes (lone R.mir) begins in
    let least : count * 1 ≤ count * (mem R).size =
    mul-le-mul {n₁ = count} {m₁ = 1} {n₂ = count} {m₂ = (mem R).size} (omega arith) some in
    record { fits = omega (arith, room, least) }
