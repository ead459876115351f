-- What a MAP and a COPY make.
use Rattle.std.specs.Prelude.{◌≡◌, ◌≢◌, ◌⊎◌, ℕ, ◌+◌, ◌*◌, Some, Contains, slice_get}
use Rattle.iofd_words.specs.Rights.{is_readable, is_writeable}
use Rattle.iofd_words.specs.World.{World}
use Rattle.iofd_words.specs.declared.event.CopyRequest.{CopyRequest}
use Rattle.iofd_words.specs.declared.event.MapRequest.{MapRequest}
use Rattle.iofd_words.specs.declared.fault.AccessKind.TheVariants.{Read, Write}
use Rattle.iofd_words.specs.declared.flags.MapFlags.{MapFlags}
use Rattle.iofd_words.specs.declared.numbers.FileNo.{FileNo}
use Rattle.iofd_words.specs.declared.numbers.Iova.{Iova}
use Rattle.iofd_words.specs.declared.numbers.ObjId.{ObjId}
use Rattle.iofd_words.specs.declared.rows.Area.{Area}
use Rattle.iofd_words.specs.declared.rows.MemoryObject.{MemoryObject}
use Rattle.iofd_words.specs.declared.rows.Phase.TheVariants.{Live}
use Rattle.iofd_promises.specs.Reaches.{lets}

-- one area more: of this address space, from the address on, so many bytes, with just the rights that the flags ask for
pub record NewArea (old new : World) (file : FileNo) (ioas : ObjId) (iova : Iova) (bytes : ℕ) (flags : MapFlags)
    (area : Area) : Type 0 where
  pub there : Contains new.areas area
  pub of_file : area.file ≡ file
  pub of_space : area.ioas ≡ ioas
  pub first : area.span.first ≡ iova.0
  pub last : area.span.last + 1 ≡ iova.0 + bytes
  pub reads : lets Read area.rights.0 ≡ is_readable flags
  pub writes : lets Write area.rights.0 ≡ is_writeable flags
  pub live : area.phase ≡ Live
  -- the others stand, and no other comes
  pub others : (other : Area) → Contains old.areas other → Contains new.areas other
  pub alone : (other : Area) → Contains new.areas other → (other ≡ area) ⊎ Contains old.areas other

-- over a memory object that wasn't there: these pages of the user of the file, of which files are numbered from 1
pub record MapsAsked (old new : World) (file : FileNo) (request : MapRequest) (iova : Iova) : Type 0 where
  pub area : Area
  pub placed : NewArea old new file request.ioas iova request.length request.flags area
  pub object : MemoryObject
  pub there : Contains new.memory object
  pub number : object.number ≡ area.memory
  pub fresh : (other : MemoryObject) → Contains old.memory other → other.number ≢ object.number
  pub va : object.va ≡ request.user_va
  pub pages : object.count * 4096 ≡ request.length
  pub writable : object.writable ≡ is_writeable request.flags
  pub n : ℕ
  pub file_is : file.0 ≡ n + 1
  pub user_is : slice_get old.settings.files n ≡ Some object.user

-- over the memory object of the mapped area that is exactly the source range
pub record MapsAgain (old new : World) (file : FileNo) (request : CopyRequest) (iova : Iova) : Type 0 where
  pub area : Area
  pub placed : NewArea old new file request.dst_ioas iova request.length request.flags area
  pub source : Area
  pub there : Contains old.areas source
  pub of_file : source.file ≡ file
  pub of_space : source.ioas ≡ request.src_ioas
  pub first : source.span.first ≡ request.src_iova.0
  pub last : source.span.last + 1 ≡ request.src_iova.0 + request.length
  pub live : source.phase ≡ Live
  pub same_memory : area.memory ≡ source.memory
  pub no_other : new.memory ≡ old.memory
