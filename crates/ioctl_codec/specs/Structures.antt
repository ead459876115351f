-- The structures served, as `include/uapi/linux/iommufd.h` of Linux 6.6 has them, and two of this project's own behind
-- them.
use Rattle.std.specs.Prelude.{ℕ, ◌==◌, ◌^◌, Bool, true, false, ◌&&◌, ◌||◌, nat_lt, List, []}
use Rattle.std.specs.Prelude.{◌∷◌, length, find, Option}
use Rattle.std.specs.Int.RustNames.{bit_and}
use Rattle.iofd_words.specs.Bounds.{Bounds}
use Rattle.iofd_words.specs.Rights.{is_fixed}
use Rattle.iofd_words.specs.declared.event.CopyRequest.{CopyRequest}
use Rattle.iofd_words.specs.declared.event.DirtyRequest.{DirtyRequest}
use Rattle.iofd_words.specs.declared.event.MapRequest.{MapRequest}
use Rattle.iofd_words.specs.declared.flags.MapFlags.{MapFlags}
use Rattle.iofd_words.specs.declared.numbers.Iova.{Iova}
use Rattle.iofd_words.specs.declared.numbers.ObjId.{ObjId}
use Rattle.ioctl_codec.specs.Layout.{Role, Flags, Argument, Answered, Chosen, Count, Output, Ignored, Reserved}
use Rattle.ioctl_codec.specs.Layout.{Structure, u32, u64}
use Rattle.ioctl_codec.specs.declared.command.Command.{Command}
use Rattle.ioctl_codec.specs.declared.command.Command.TheVariants.{Destroy, IoasAlloc, IoasAllowIovas, IoasCopy}
use Rattle.ioctl_codec.specs.declared.command.Command.TheVariants.{IoasIovaRanges, IoasMap, IoasUnmap, HwptAlloc}
use Rattle.ioctl_codec.specs.declared.command.Command.TheVariants.{DirtyEnable, DirtyReport}

-- id
abbrev pub destroy : Structure
destroy = record { number = 0x3B80; fields = u32 Argument ∷ [] }

-- flags (none is known), out_ioas_id
abbrev pub ioas_alloc : Structure
ioas_alloc = record { number = 0x3B81; fields = u32 Reserved ∷ u32 Output ∷ [] }

-- ioas_id, num_iovas, reserved, allowed_iovas (the caller's address of the entries, which here follow the structure)
abbrev pub ioas_allow_iovas : Structure
ioas_allow_iovas =
    record { number = 0x3B82; fields = u32 Argument ∷ u32 Count ∷ u32 Reserved ∷ u64 Ignored ∷ [] }

-- the address at which is mapped: the caller's where the flags fix it, and else one that the server chooses
abbrev pub iova_role : Bool → Role
iova_role true = Answered
iova_role false = Chosen

-- flags, dst_ioas_id, src_ioas_id, length, dst_iova, src_iova, for flags that fix the target's address or leave it open
abbrev pub ioas_copy : Bool → Structure
ioas_copy fixed = record {
  number = 0x3B83;
  fields = u32 (Flags 7) ∷ u32 Argument ∷ u32 Argument ∷ u64 Argument
      ∷ u64 (iova_role fixed) ∷ u64 Argument ∷ [];
}

-- ioas_id, num_iovas (for how many ranges the caller has places), reserved, allowed_iovas, out_iova_alignment
abbrev pub ioas_iova_ranges : Structure
ioas_iova_ranges =
    record {
      number = 0x3B84;
      fields = u32 Argument ∷ u32 Argument ∷ u32 Reserved ∷ u64 Ignored ∷ u64 Output ∷ [];
    }

-- flags, ioas_id, reserved, user_va, length, iova, for flags that fix the address or leave it open
abbrev pub ioas_map : Bool → Structure
ioas_map fixed = record {
  number = 0x3B85;
  fields = u32 (Flags 7) ∷ u32 Argument ∷ u32 Reserved ∷ u64 Argument ∷ u64 Argument
      ∷ u64 (iova_role fixed) ∷ [];
}

-- ioas_id, iova, length
abbrev pub ioas_unmap : Structure
ioas_unmap = record { number = 0x3B86; fields = u32 Argument ∷ u64 Argument ∷ u64 Answered ∷ [] }

-- flags (none is known), dev_id, pt_id (an address space), out_hwpt_id, reserved
abbrev pub hwpt_alloc : Structure
hwpt_alloc =
    record {
      number = 0x3B89;
      fields = u32 Reserved ∷ u32 Argument ∷ u32 Argument ∷ u32 Output ∷ u32 Reserved ∷ [];
    }

-- hwpt_id, flags (1 turns tracking on), reserved
abbrev pub dirty_enable : Structure
dirty_enable = record { number = 0x3BF0; fields = u32 Argument ∷ u32 (Flags 1) ∷ u32 Reserved ∷ [] }

-- hwpt_id, flags (1 clears), reserved, iova, length
abbrev pub dirty_report : Structure
dirty_report =
    record {
      number = 0x3BF1;
      fields = u32 Argument ∷ u32 (Flags 1) ∷ u32 Reserved ∷ u64 Argument ∷ u64 Argument ∷ [];
    }

abbrev pub structures : List Structure
structures = destroy ∷ ioas_alloc ∷ ioas_allow_iovas ∷ ioas_copy true ∷ ioas_iova_ranges ∷ ioas_map true
    ∷ ioas_unmap ∷ hwpt_alloc ∷ dirty_enable ∷ dirty_report ∷ []

-- the structure of a command's number, if it's served (both of MAP, and both of COPY, have the same length and
-- refusals)
abbrev pub structure_at : ℕ → Option Structure
structure_at nr = find (λ s. s.number == nr) structures

-- what a MAP carries
abbrev pub map_values : MapRequest → List ℕ
map_values m = m.flags.0 ∷ m.ioas.0 ∷ m.user_va ∷ m.length ∷ m.iova.0 ∷ []

-- what a COPY carries
abbrev pub copy_values : CopyRequest → List ℕ
copy_values r = r.flags.0 ∷ r.dst_ioas.0 ∷ r.src_ioas.0 ∷ r.length ∷ r.dst_iova.0 ∷ r.src_iova.0 ∷ []

-- flags that are one flag or none
abbrev pub flag_value : Bool → ℕ
flag_value true = 1
flag_value false = 0

-- what a DIRTY_ENABLE carries
abbrev pub enable_values : ObjId → Bool → List ℕ
enable_values hwpt on = hwpt.0 ∷ flag_value on ∷ []

-- what a DIRTY_REPORT carries
abbrev pub report_values : DirtyRequest → Bool → List ℕ
report_values r clears = r.hwpt.0 ∷ flag_value clears ∷ r.iova.0 ∷ r.length ∷ []

-- flags of a MAP or a COPY that are all known, and an address that they fix or that is 0
abbrev pub are_kept : MapFlags → Iova → Bool
are_kept flags iova = (bit_and flags.0 7 == flags.0) && (is_fixed flags || iova.0 == 0)

module _ {A : Type 0} where
  abbrev pub structure_of : Command A → Structure
  structure_of (Destroy id) = destroy
  structure_of IoasAlloc = ioas_alloc
  structure_of (IoasAllowIovas ioas ranges) = ioas_allow_iovas
  structure_of (IoasCopy r) = ioas_copy (is_fixed r.flags)
  structure_of (IoasIovaRanges r) = ioas_iova_ranges
  structure_of (IoasMap m) = ioas_map (is_fixed m.flags)
  structure_of (IoasUnmap u) = ioas_unmap
  structure_of (HwptAlloc r) = hwpt_alloc
  structure_of (DirtyEnable hwpt on) = dirty_enable
  structure_of (DirtyReport r clears) = dirty_report

  -- the entries that follow the structure
  abbrev pub entries_of : Command A → List Bounds
  entries_of (Destroy id) = []
  entries_of IoasAlloc = []
  entries_of (IoasAllowIovas ioas ranges) = ranges
  entries_of (IoasCopy r) = []
  entries_of (IoasIovaRanges r) = []
  entries_of (IoasMap m) = []
  entries_of (IoasUnmap u) = []
  entries_of (HwptAlloc r) = []
  entries_of (DirtyEnable hwpt on) = []
  entries_of (DirtyReport r clears) = []

  -- what a command carries, in the order of the fields that carry it; a count is that of its entries
  abbrev pub values_of : Command A → List ℕ
  values_of (Destroy id) = id.0 ∷ []
  values_of IoasAlloc = []
  values_of (IoasAllowIovas ioas ranges) = ioas.0 ∷ length ranges ∷ []
  values_of (IoasCopy r) = copy_values r
  values_of (IoasIovaRanges r) = r.ioas.0 ∷ r.places ∷ []
  values_of (IoasMap m) = map_values m
  values_of (IoasUnmap u) = u.ioas.0 ∷ u.iova.0 ∷ u.length ∷ []
  values_of (HwptAlloc r) = r.device.0 ∷ r.ioas.0 ∷ []
  values_of (DirtyEnable hwpt on) = enable_values hwpt on
  values_of (DirtyReport r clears) = report_values r clears

  -- the commands that have a spelling
  abbrev pub is_spellable : Command A → Bool
  is_spellable (Destroy id) = true
  is_spellable IoasAlloc = true
  is_spellable (IoasAllowIovas ioas ranges) = nat_lt (length ranges) (2 ^ 32)
  is_spellable (IoasCopy r) = are_kept r.flags r.dst_iova
  is_spellable (IoasIovaRanges r) = true
  is_spellable (IoasMap m) = are_kept m.flags m.iova
  is_spellable (IoasUnmap u) = true
  is_spellable (HwptAlloc r) = true
  is_spellable (DirtyEnable hwpt on) = true
  is_spellable (DirtyReport r clears) = true
