-- Users' memory with one memory object, of one page of user 1.
use Rattle.std.specs.Prelude.{ℕ, ◌≡◌, true, List, [], ◌∷◌}
use Rattle.iofd_words.specs.declared.rows.MemoryObject.{MemoryObject}
use Rattle.user_memory.specs.Memory.{IsBacked, Memory, access_pins, rows_of}

-- the object
abbrev pub one_page : MemoryObject
one_page = record { number = 0; user = record { 0 = 1 }; va = 65536; count = 1; writable = true }

-- it is there, so many pins by accesses stand on its page, and the frames of a pool with these holds are held
pub record HasOnePage (m : Memory) (holds : List ℕ) (count : ℕ) : Type 0 where
  pub rows : rows_of m ≡ one_page ∷ []
  pub pins : access_pins m (record { memory = 0; index = 0 }) ≡ count
  pub backed : IsBacked m holds
