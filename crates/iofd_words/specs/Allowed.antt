-- The ranges to which the addresses that the server chooses are bounded (uapi header, IOMMU_IOAS_ALLOW_IOVAS).
use Rattle.std.specs.Prelude.{Bool, true, ◌==◌, ◌&&◌, not, nat_lt, Some, None, List, []}
use Rattle.std.specs.Prelude.{◌∷◌, filter, find}
use Rattle.iofd_words.specs.Bounds.{Bounds}
use Rattle.iofd_words.specs.Ranges.{meets_some}
use Rattle.iofd_words.specs.declared.event.Event.{Event}
use Rattle.iofd_words.specs.declared.event.Event.TheVariants as event
use Rattle.iofd_words.specs.declared.numbers.FileNo.{FileNo}
use Rattle.iofd_words.specs.declared.numbers.ObjId.{ObjId}

-- the ranges that are allowed in an address space, in the order given
pub record AllowedRanges : Type 0 where
  pub file : FileNo
  pub ioas : ObjId
  pub spans : List Bounds

-- they are those of this address space
abbrev pub is_allowed_in : FileNo → ObjId → AllowedRanges → Bool
is_allowed_in file ioas ranges = ranges.file.0 == file.0 && ranges.ioas.0 == ioas.0

-- those of an address space; none, where it allows all addresses
abbrev pub allowed_of : List AllowedRanges → FileNo → ObjId → List Bounds
allowed_of rows file ioas = elim (find (is_allowed_in file ioas) rows) [ Some ranges ↦ ranges.spans | None ↦ [] ]

-- all but those of an address space
abbrev pub without_allowed : FileNo → ObjId → List AllowedRanges → List AllowedRanges
without_allowed file ioas rows = filter (λ ranges. not (is_allowed_in file ioas ranges)) rows

-- an address space allows these now, in place of those before
abbrev pub with_allowed : FileNo → ObjId → List Bounds → List AllowedRanges → List AllowedRanges
with_allowed file ioas spans rows =
    record { file = file; ioas = ioas; spans = spans } ∷ without_allowed file ioas rows

-- each range begins below its last address, and no two have an address in common
abbrev pub are_ranges : List Bounds → Bool
are_ranges [] = true
are_ranges (range ∷ ranges) = nat_lt range.first range.last && not (meets_some ranges range) && are_ranges ranges

-- the ranges that an event carries
abbrev pub ranges_of : {A : Type 0} → Event A → List Bounds
ranges_of (event.AllowIovas file ioas ranges) = ranges
ranges_of (event.IoasAlloc file) = []
ranges_of (event.Map file request) = []
ranges_of (event.Copy file request) = []
ranges_of (event.Unmap file request) = []
ranges_of (event.HwptAlloc file request) = []
ranges_of (event.Destroy file id) = []
ranges_of (event.Close file) = []
ranges_of (event.UserMap user va) = []
ranges_of (event.UserUnmap user va) = []
ranges_of (event.UserWrite user va bytes) = []
ranges_of (event.Bind file device) = []
ranges_of (event.Unbind file id) = []
ranges_of (event.Attach device pt_id) = []
ranges_of (event.Detach device) = []
ranges_of (event.Flush device) = []
ranges_of (event.DeviceWrite device iova bytes) = []
ranges_of (event.AccessCreate file) = []
ranges_of (event.AccessAttach file id ioas) = []
ranges_of (event.AccessDetach file id) = []
ranges_of (event.AccessPin file id request) = []
ranges_of (event.AccessUnpin file id request) = []
ranges_of (event.AccessWrite file id iova bytes) = []
ranges_of (event.DirtyEnable file hwpt on) = []
ranges_of (event.DirtyClear file request) = []
