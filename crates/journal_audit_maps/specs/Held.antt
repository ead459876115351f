-- A user's account, counted by pins.
use Rattle.std.specs.Prelude.{Bool, ◌==◌, ◌&&◌, nat_lt, List}
use Rattle.std.specs.List.{list_any}
use Rattle.iofd_words.specs.declared.numbers.UserNo.{UserNo}
use Rattle.iofd_words.specs.declared.rows.MemoryObject.{MemoryObject}
use Rattle.iofd_words.specs.declared.rows.Pin.{Pin}

-- the pin is of a page of some memory object of the user
abbrev pub is_of_user : List MemoryObject → UserNo → Pin → Bool
is_of_user memory user pin =
    list_any (λ m. m.user.0 == user.0 && (pin.memory == m.number && nat_lt pin.index m.count)) memory
