-- What an UNMAP takes away, what it waits for, and what a flush pays.
use Rattle.std.specs.Prelude.{◌≡◌, ◌≢◌, ◌≤◌, ◌<◌, ◌↔◌, ℕ, ◌+◌, ◌-◌, ◌^◌, ◌==◌}
use Rattle.std.specs.Prelude.{◌&&◌, nat_le, nat_lt, Bool, true, false, Some, List, []}
use Rattle.std.specs.Prelude.{◌∷◌, Contains, if◌then◌else◌}
use Rattle.iofd_words.specs.World.{World}
use Rattle.iofd_words.specs.declared.event.UnmapRequest.{UnmapRequest}
use Rattle.iofd_words.specs.declared.numbers.DeviceNo.{DeviceNo}
use Rattle.iofd_words.specs.declared.numbers.FileNo.{FileNo}
use Rattle.iofd_words.specs.declared.refusal.Errno.{Errno}
use Rattle.iofd_words.specs.declared.refusal.Errno.TheVariants.{EAGAIN, EDEADLOCK}
use Rattle.iofd_words.specs.declared.rows.AccessPin.{AccessPin}
use Rattle.iofd_words.specs.declared.rows.Area.{Area}
use Rattle.iofd_words.specs.declared.rows.Object.{Object}
use Rattle.iofd_words.specs.declared.rows.ObjectKind.TheVariants as kind
use Rattle.iofd_words.specs.declared.rows.Phase.{Phase}
use Rattle.iofd_words.specs.declared.rows.Phase.TheVariants.{Live, Leaving}
use Rattle.iofd_promises.specs.Reaches.{TranslatesBy}

-- ---- what an UNMAP names

-- the last address: iova 0 with a length of 2^64 - 1 names every address, 2^64 - 1 too
abbrev pub last_named : UnmapRequest → ℕ
last_named request =
    if request.iova.0 == 0 && request.length == 2 ^ 64 - 1 then 2 ^ 64 - 1
    else request.iova.0 + request.length - 1

-- an area of its address space that holds an address from its first to its last
abbrev pub is_named : FileNo → UnmapRequest → Area → Bool
is_named file request area =
    (area.file.0 == file.0 && area.ioas.0 == request.ioas.0)
    && (nat_le area.span.first (last_named request) && nat_le request.iova.0 area.span.last)

-- the bytes of the areas that it names
abbrev pub bytes_named : FileNo → UnmapRequest → List Area → ℕ
bytes_named file request [] = 0
bytes_named file request (area ∷ areas) =
    if is_named file request area then area.span.last + 1 - area.span.first + bytes_named file request areas
    else bytes_named file request areas

-- each area that it names lies in it from its first address to its last
abbrev pub AreWhole : World → FileNo → UnmapRequest → Type 0
AreWhole w file request =
    (area : Area) → Contains w.areas area → is_named file request area ≡ true
    → (request.iova.0 ≤ area.span.first) × (area.span.last ≤ last_named request)

-- ---- who owes an area a flush

-- while it is mapped, each device that translates by its address space; while it leaves, those that still owe it one
abbrev pub Owes : World → Area → DeviceNo → Phase → Type 0
Owes w area device Live = TranslatesBy w device area.file area.ioas
Owes w area device (Leaving owed tries) = Contains owed device.0

-- ---- which access pins lie in an area

-- an access object that is attached to the area's address space holds the pin, and the two have an address in common
pub record LiesIn (w : World) (pin : AccessPin) (area : Area) : Type 0 where
  pub there : Contains w.access_pins pin
  pub of_file : pin.file ≡ area.file
  pub access : Object
  pub holds : Contains w.objects access
  pub access_file : access.file ≡ pin.file
  pub access_id : access.id ≡ pin.access
  pub attached : access.kind ≡ kind.Access (Some area.ioas)
  pub first : pin.span.first ≤ area.span.last
  pub last : area.span.first ≤ pin.span.last

-- who holds an area back: a device that owes it a flush, or an access pin in it
pub data HoldsBack (w : World) (area : Area) : Type 0 where
  ADevice : (device : DeviceNo) → Owes w area device area.phase → HoldsBack w area
  APin : (pin : AccessPin) → LiesIn w pin area → HoldsBack w area

-- ---- answers

-- what an UNMAP that answers this count leaves: nobody owed an area that it named, no access pin lay in one, and those
-- areas, and no others, are gone
pub record TakesAway (old new : World) (file : FileNo) (request : UnmapRequest) (count : ℕ) : Type 0 where
  pub whole : AreWhole old file request
  pub owed : (area : Area) (device : DeviceNo) → Contains old.areas area → is_named file request area ≡ true
      → Owes old area device area.phase → ⊥
  pub pinned : (area : Area) (pin : AccessPin) → Contains old.areas area → is_named file request area ≡ true
      → LiesIn old pin area → ⊥
  pub count_is : count ≡ bytes_named file request old.areas
  pub gone : (area : Area) → Contains new.areas area → is_named file request area ≡ false
  pub others : (area : Area) → is_named file request area ≡ false →
      Contains old.areas area ↔ Contains new.areas area

-- how many UNMAPs that waited for an area are counted with it: none as long as it is mapped
abbrev pub tries_seen : Phase → ℕ
tries_seen Live = 0
tries_seen (Leaving owed tries) = tries

-- so many are the most of all areas that an UNMAP names
pub record AreMost (w : World) (file : FileNo) (request : UnmapRequest) (most : ℕ) : Type 0 where
  pub each : (area : Area) → Contains w.areas area → is_named file request area ≡ true
      → tries_seen area.phase ≤ most
  pub seen_by : Area
  pub there : Contains w.areas seen_by
  pub named : is_named file request seen_by ≡ true
  pub seen : tries_seen seen_by.phase ≡ most

-- how many are counted with an area that had so many, after an UNMAP that waits: one more than the most, as long as
-- they are fewer than a hundred
abbrev pub tries_after : ℕ → ℕ → ℕ
tries_after most tries = if nat_lt most 100 then most + 1 else tries

-- it leaves now, those owe it a flush that owed it one, and one UNMAP more is counted
abbrev pub LeavesBy : World → Area → ℕ → Phase → Phase → Type 0
LeavesBy w area most Live Live = ⊥
LeavesBy w area most Live (Leaving owed tries) =
    ((device : DeviceNo) → Contains owed device.0 ↔ TranslatesBy w device area.file area.ioas)
    × (tries ≡ tries_after most 0)
LeavesBy w area most (Leaving owed tries) phase = phase ≡ Leaving owed (tries_after most tries)

-- area by area: one that the UNMAP names is the same row but for its phase, and leaves; each other is the same row
abbrev pub AllLeave : World → FileNo → UnmapRequest → ℕ → List Area → List Area → Type 0
AllLeave w file request most [] [] = Unit {0}
AllLeave w file request most [] (left ∷ rest) = ⊥
AllLeave w file request most (area ∷ areas) [] = ⊥
AllLeave w file request most (area ∷ areas) (left ∷ rest) =
    (left ≡ record area { phase = left.phase })
    × (is_named file request area ≡ true → LeavesBy w area most area.phase left.phase)
    × (is_named file request area ≡ false → left ≡ area)
    × AllLeave w file request most areas rest

-- what an UNMAP that waits answers and leaves: something holds an area back that it names, and it is to be called
-- again, or, after a hundred times, told that it needn't
pub record Waits (old new : World) (file : FileNo) (request : UnmapRequest) (errno : Errno) : Type 0 where
  pub whole : AreWhole old file request
  pub area : Area
  pub there : Contains old.areas area
  pub named : is_named file request area ≡ true
  pub held_back : HoldsBack old area
  pub most : ℕ
  pub are_most : AreMost old file request most
  pub again : most < 100 → errno ≡ EAGAIN
  pub in_vain : 100 ≤ most → errno ≡ EDEADLOCK
  pub areas : AllLeave old file request most old.areas new.areas

-- ---- a flush

-- the device owes no flush any more, and each other device what it owed
abbrev pub PaidBy : DeviceNo → Phase → Phase → Type 0
PaidBy device Live phase = phase ≡ Live
PaidBy device (Leaving owed tries) Live = ⊥
PaidBy device (Leaving owed tries) (Leaving left after) =
    ((other : ℕ) → Contains left other ↔ (Contains owed other × (other ≢ device.0))) × (after ≡ tries)

-- area by area: the same row but for its phase, in which the device's debt alone is gone
abbrev pub AllPaid : DeviceNo → List Area → List Area → Type 0
AllPaid device [] [] = Unit {0}
AllPaid device [] (left ∷ rest) = ⊥
AllPaid device (area ∷ areas) [] = ⊥
AllPaid device (area ∷ areas) (left ∷ rest) =
    (left ≡ record area { phase = left.phase }) × PaidBy device area.phase left.phase × AllPaid device areas rest

-- the rows beside areas and tables are the same
pub record SameOthers (old new : World) : Type 0 where
  pub objects : new.objects ≡ old.objects
  pub attachments : new.attachments ≡ old.attachments
  pub memory : new.memory ≡ old.memory
  pub allowed : new.allowed ≡ old.allowed
  pub user_pages : new.user_pages ≡ old.user_pages
  pub pins : new.pins ≡ old.pins
  pub writes : new.writes ≡ old.writes
  pub closed : new.closed ≡ old.closed
  pub access_pins : new.access_pins ≡ old.access_pins
