-- How much room a spare row gives.
use Rattle.std.proofs.Common.{◌≡◌, ℕ, ◌<◌, ◌≤◌, true, false, refl, ap, Option, Some, None, IsSome, List, arith}
use Rattle.std.proofs.Common.{Result, Ok, Err, OnOk, OnErr, is_err}
use Rattle.iofd_words.specs.Bounds.{Bounds}
use Rattle.iofd_words.specs.declared.rows.Area.{Area}
use Rattle.area_map.specs.AreaTable.{AreaTable}
use Rattle.area_map.specs.Kept.{room_of}

-- what is said of an error, and of an answer that is none
pub at_error : {T E P : Type 0} (r : Result T E) → is_err r ≡ true → OnErr r P → P
at_error (Ok x) is fact = cc
at_error (Err e) is fact = fact

pub at_answer : {T E P : Type 0} (r : Result T E) → is_err r ≡ false → OnOk r P → P
at_answer (Ok x) is fact = fact
at_answer (Err e) is fact = cc

pub room-some : (spare : Option (List Area)) → IsSome spare → 0 < room_of spare
room-some None some = absurd (cc)
room-some (Some row) some = omega arith

pub room-most : (spare : Option (List Area)) → room_of spare ≤ 1
room-most None = omega arith
room-most (Some row) = omega arith

pub room-none : (spare : Option (List Area)) → spare ≡ None → room_of spare ≡ 0
room-none spare is = ap room_of is

-- it grows where a row is there now, and stays where there was none
pub room-grows : {T E : Type 0} (r : Result T E) (old new : Option (List Area)) → OnOk r (IsSome new)
    → OnErr r (old ≡ None) → room_of old ≤ room_of new
room-grows (Ok x) old new some none =
    let most = room-most old in
    let more = room-some new some in
    omega (arith, most, more)
room-grows (Err e) old new some none =
    let least = room-none old none in
    omega (arith, least)

pub room-one : (spare : Option (List Area)) → IsSome spare → room_of spare ≡ 1
room-one None some = absurd (cc)
room-one (Some row) some = refl

-- an error leaves what is seen, where no row was spare and none is
pub table-same : {T E : Type 0} (r : Result T E) (xs ys : List Area) (old new : Option (List Area))
    (hull : Option Bounds) (more many : ℕ) → ys ≡ xs → more ≡ many
    → OnErr r (old ≡ None) → OnErr r (new ≡ None)
    → OnErr r
    (◌≡◌ {A = AreaTable} (record { areas = ys; room = room_of new; leaving = hull; rows = more }) (record {
      areas = xs;
      room = room_of old;
      leaving = hull;
      rows = many;
    }))
table-same (Ok x) xs ys old new hull more many same rows none gone = tt
table-same (Err e) xs ys old new hull more many same rows none gone = rw (same, rows, none, gone) refl
