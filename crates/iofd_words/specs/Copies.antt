-- What a COPY names: the area whose memory is mapped again, and where it comes to lie (uapi header, `struct
-- iommu_ioas_copy`).
use Rattle.std.specs.Prelude.{ℕ, ◌==◌, ◌&&◌, Bool, Option, List, find}
use Rattle.std.specs.List.{list_any}
use Rattle.iofd_words.specs.Bounds.{Bounds}
use Rattle.iofd_words.specs.Span.{span_from}
use Rattle.iofd_words.specs.TablePlaces.{is_live}
use Rattle.iofd_words.specs.declared.event.CopyRequest.{CopyRequest}
use Rattle.iofd_words.specs.declared.event.MapRequest.{MapRequest}
use Rattle.iofd_words.specs.declared.rows.Area.{Area}
use Rattle.iofd_words.specs.declared.rows.MemoryObject.{MemoryObject}

-- the copy comes to lie where a MAP of that length into the target would; which memory a MAP maps isn't asked for that
abbrev pub placed_as : CopyRequest → MapRequest
placed_as request =
    record {
      flags = request.flags;
      ioas = request.dst_ioas;
      user_va = 0;
      length = request.length;
      iova = request.dst_iova;
    }

-- an area that is live and has exactly this span
abbrev pub is_live_at : Bounds → Area → Bool
is_live_at span area = is_live area.phase && area.span.first == span.first && area.span.last == span.last

-- of these areas, those of the source's address space, the one that is copied
abbrev pub source_in : List Area → CopyRequest → Option Area
source_in areas request = find (is_live_at (span_from request.src_iova.0 request.length)) areas

-- the memory object of this number may be written by devices
abbrev pub is_writable : List MemoryObject → ℕ → Bool
is_writable memory number = list_any (λ m. m.number == number && m.writable) memory
