-- Which bytes spell a command, its one canonical spelling, and what is written back for a reply.
use Rattle.std.specs.Prelude.{◌≡◌, ℕ, ◌+◌, ◌/◌, ◌^◌, ◌<◌, nat_lt, List, [], ◌∷◌, ◌++◌, length, take}
use Rattle.std.specs.Prelude.{Option, Some, None}
use Rattle.std.specs.Prelude.{if◌then◌else◌}
use Rattle.std.specs.Int.{w64, to_le_bytes}
use Rattle.std.specs.List.{flat_map}
use Rattle.iofd_words.specs.Bounds.{Bounds}
use Rattle.iofd_words.specs.declared.reply.Reply.{Reply}
use Rattle.iofd_words.specs.declared.reply.Reply.TheVariants as reply
use Rattle.ioctl_codec.specs.Layout.{structure_bytes, IsLaidOut, AreOfWidth, filled}
use Rattle.ioctl_codec.specs.Entries.{entries_bytes, AreAddresses}
use Rattle.ioctl_codec.specs.Structures.{structure_of, values_of, entries_of, ioas_iova_ranges}
use Rattle.ioctl_codec.specs.declared.command.Command.{Command}
use Rattle.ioctl_codec.specs.declared.command.Command.TheVariants.{Destroy, IoasAlloc, IoasAllowIovas, IoasCopy}
use Rattle.ioctl_codec.specs.declared.command.Command.TheVariants.{IoasMap, IoasUnmap, HwptAlloc, DirtyEnable}
use Rattle.ioctl_codec.specs.declared.command.Command.TheVariants.{DirtyReport}
use Rattle.ioctl_codec.specs.declared.command.RangesRequest.{RangesRequest}

-- words, one behind the other
abbrev pub words_bytes : List ℕ → List ℕ
words_bytes words = flat_map (λ word. to_le_bytes w64 word) words

-- how many words tell of the pages of a span of this length, 64 in each
abbrev pub word_count : ℕ → ℕ
word_count length = (length / 4096 + 63) / 64

module _ {A : Type 0} where
  -- these bytes, given with this number, are the command: its structure, and its entries behind the structure
  pub record Spells (nr : ℕ) (bytes : List ℕ) (c : Command A) : Type 0 where
    pub number : (structure_of c).number ≡ nr
    pub head : List ℕ
    pub laid_out : IsLaidOut (structure_of c) (values_of c) head
    pub addresses : AreAddresses (entries_of c)
    pub bytes_are : bytes ≡ head ++ entries_bytes (entries_of c)

  abbrev pub HasSpelling : Command A → Type 0
  HasSpelling c = (nr : ℕ) × (bytes : List ℕ) × Spells nr bytes c

  -- the structure of its own length, with zeros in the ignored fields, and the entries
  abbrev pub canonical : Command A → List ℕ
  canonical c = structure_bytes (structure_of c) (values_of c) None ++ entries_bytes (entries_of c)

  -- the command's numbers fit their types, as those of every value of the type do
  abbrev pub FitsFields : Command A → Type 0
  FitsFields (IoasAllowIovas ioas ranges) = (ioas.0 < 2 ^ 32) × AreAddresses ranges
  FitsFields c = AreOfWidth (structure_of c).fields (filled (structure_of c).fields (values_of c) None)

  -- what a good reply puts into the answer's field, if the structure has one; no other reply is written back
  abbrev pub answer_of : Command A → Reply → Option (Option ℕ)
  answer_of (Destroy id) reply.Done = Some None
  answer_of IoasAlloc (reply.Id id) = Some (Some id.0)
  answer_of (IoasAllowIovas ioas ranges) reply.Done = if nat_lt (length ranges) (2 ^ 32) then Some None else None
  answer_of (IoasCopy r) (reply.Iova iova) = Some (Some iova.0)
  answer_of (IoasMap m) (reply.Iova iova) = Some (Some iova.0)
  answer_of (IoasUnmap u) (reply.Bytes count) = Some (Some count)
  answer_of (HwptAlloc r) (reply.Id id) = Some (Some id.0)
  answer_of (DirtyEnable hwpt on) reply.Done = Some None
  answer_of (DirtyReport r clears) (reply.Dirty words) = Some None
  answer_of _ _ = None

  -- the words that are written back for a report: no more than tell of its pages
  abbrev pub told_words : Command A → Reply → List ℕ
  told_words (DirtyReport r clears) (reply.Dirty words) = take (word_count r.length) words
  told_words _ _ = []

  -- what is written back: the structure of its own length, whatever size came in, with the answer in its field and
  -- without entries; behind it the words of a report
  abbrev pub written_back : Command A → Reply → List ℕ
  written_back c r = elim (answer_of c r) [
    | None ↦ []
    | Some answer ↦ structure_bytes (structure_of c) (values_of c) answer ++ words_bytes (told_words c r)
  ]

-- what is written back for IOVA_RANGES: the structure with the number of ranges that there are, whatever number of
-- places came in, and the alignment of addresses; then the first ranges, as many as there are places for
abbrev pub ranges_written_back : RangesRequest → List Bounds → List ℕ
ranges_written_back request ranges =
    structure_bytes ioas_iova_ranges (request.ioas.0 ∷ length ranges ∷ []) (Some 4096)
    ++ entries_bytes (take request.places ranges)
