-- Commands: each is known from its number and its values, and decoding finds exactly the one that is spelled.
use Rattle.std.proofs.Common.{◌≡◌, ℕ, ◌*◌, ◌<◌, Bool, true, false, cond, ◌==◌, List, [], ◌∷◌, ◌++◌, length, take, drop}
use Rattle.std.proofs.Common.{None, Result, Ok, Err, refl, sym, ap, subst, ◌∙◌}
use Rattle.std.proofs.lemmas.List.{take-append-drop}
use Rattle.std.specs.Prelude.{IfOk, slice_index}
use Rattle.std.specs.Int.{w32, from_le_bytes}
use Rattle.iofd_words.specs.Rights.{has_flag, is_fixed}
use Rattle.ioctl_codec.specs.declared.command.Command.{Command}
use Rattle.ioctl_codec.specs.declared.command.Command.TheVariants.{Destroy, IoasAlloc, IoasAllowIovas, IoasCopy}
use Rattle.ioctl_codec.specs.declared.command.Command.TheVariants.{IoasIovaRanges, IoasMap, IoasUnmap, HwptAlloc}
use Rattle.ioctl_codec.specs.declared.command.Command.TheVariants.{DirtyEnable, DirtyReport}
use Rattle.iofd_words.specs.declared.call_error.CallError.{CallError}
use Rattle.iofd_words.specs.declared.call_error.CallError.TheVariants as errors
use Rattle.ioctl_codec.specs.Layout.{Structure, IsLaidOut, entry_count}
use Rattle.ioctl_codec.specs.Structures.{copy_values, destroy, dirty_enable, dirty_report, ioas_alloc}
use Rattle.ioctl_codec.specs.Structures.{ioas_allow_iovas, ioas_copy}
use Rattle.ioctl_codec.specs.Structures.{ioas_iova_ranges, ioas_map, map_values, ioas_unmap, hwpt_alloc, structure_of}
use Rattle.ioctl_codec.specs.Structures.{values_of, entries_of}
use Rattle.iofd_words.specs.Bounds.{Bounds}
use Rattle.ioctl_codec.specs.Entries.{AreAddresses, entries_at, entries_bytes}
use Rattle.ioctl_codec.specs.Spelling.{Spells}
use Rattle.ioctl_codec.specs.Refusals.{refusal_of, refusal, refused_of, read_numbers, read_values, read_count, size_at}
use Rattle.ioctl_codec.specs.Refusals.{after_size, OnMemory, Gives, SpellsEntries}
use Rattle.ioctl_codec.proofs.LittleEndian.{IsBytes, IsBytes-drop}
use Rattle.ioctl_codec.proofs.BothWays.{IsRead, is_laid_out, is_whole, is_read}
use Rattle.ioctl_codec.proofs.EntriesBytes.{length-entries_bytes, length-entries_at, entries_at-entries_bytes}
use Rattle.ioctl_codec.proofs.EntriesBytes.{entries_bytes-entries_at, AreAddresses-entries_at}

-- the flags of a MAP or a COPY
flags_at : List ℕ → ℕ
flags_at bytes = from_le_bytes w32 (take 4 (drop 4 bytes))

-- the command of a number, its values and its entries
rebuilt : {A : Type 0} → ℕ → List ℕ → List Bounds → Command A
rebuilt nr values entries =
    cond (nr == 0x3B80) (Destroy (record { 0 = slice_index values 0 }))
    (cond (nr == 0x3B81) IoasAlloc
    (cond (nr == 0x3B82) (IoasAllowIovas (record { 0 = slice_index values 0 }) entries)
    (cond (nr == 0x3B83) (IoasCopy (record {
      flags = record { 0 = slice_index values 0 };
      dst_ioas = record { 0 = slice_index values 1 };
      src_ioas = record { 0 = slice_index values 2 };
      length = slice_index values 3;
      dst_iova = record { 0 = slice_index values 4 };
      src_iova = record { 0 = slice_index values 5 };
    }))
    (cond (nr == 0x3B84) (IoasIovaRanges (record {
      ioas = record { 0 = slice_index values 0 };
      places = slice_index values 1;
    }))
    (cond (nr == 0x3B85) (IoasMap (record {
      flags = record { 0 = slice_index values 0 };
      ioas = record { 0 = slice_index values 1 };
      user_va = slice_index values 2;
      length = slice_index values 3;
      iova = record { 0 = slice_index values 4 };
    }))
    (cond (nr == 0x3B89) (HwptAlloc (record {
      device = record { 0 = slice_index values 0 };
      ioas = record { 0 = slice_index values 1 };
    }))
    (cond (nr == 0x3BF0) (DirtyEnable (record { 0 = slice_index values 0 }) (slice_index values 1 == 1))
    (cond (nr == 0x3BF1) (DirtyReport (record {
      hwpt = record { 0 = slice_index values 0 };
      iova = record { 0 = slice_index values 2 };
      length = slice_index values 3;
    }) (slice_index values 1 == 1))
    (IoasUnmap (record {
      ioas = record { 0 = slice_index values 0 };
      iova = record { 0 = slice_index values 1 };
      length = slice_index values 2;
    }))))))))))

-- the structure that bytes with this number have, by their flags if it's a MAP or a COPY
structure_in : ℕ → List ℕ → Structure
structure_in nr bytes = structure_of (rebuilt {A = Unit {0}} nr (flags_at bytes ∷ []) [])

structure-is : {A : Type 0} (c : Command A) (nr : ℕ) (bytes : List ℕ) → (structure_of c).number ≡ nr
    → values_of c ≡ read_values (structure_of c) bytes → structure_of c ≡ structure_in nr bytes
unfolding structure_in rebuilt read_numbers flags_at
structure-is (Destroy id) nr bytes e values = subst (λ (n : ℕ). destroy ≡ structure_in n bytes) e refl
structure-is IoasAlloc nr bytes e values = subst (λ (n : ℕ). ioas_alloc ≡ structure_in n bytes) e refl
structure-is (IoasAllowIovas ioas ranges) nr bytes e values =
    subst (λ (n : ℕ). ioas_allow_iovas ≡ structure_in n bytes) e refl
structure-is (IoasCopy r) nr bytes e values =
    let flags : r.flags.0 ≡ flags_at bytes = ap (λ (vs : List ℕ). slice_index vs 0) values in
    subst (λ (n : ℕ). ioas_copy (is_fixed r.flags) ≡ structure_in n bytes) e
    (ap (λ (n : ℕ). ioas_copy (has_flag n 1)) flags)
structure-is (IoasIovaRanges r) nr bytes e values = subst (λ (n : ℕ). ioas_iova_ranges ≡ structure_in n bytes) e refl
structure-is (IoasMap m) nr bytes e values =
    let flags : m.flags.0 ≡ flags_at bytes = ap (λ (vs : List ℕ). slice_index vs 0) values in
    subst (λ (n : ℕ). ioas_map (is_fixed m.flags) ≡ structure_in n bytes) e
    (ap (λ (n : ℕ). ioas_map (has_flag n 1)) flags)
structure-is (IoasUnmap u) nr bytes e values = subst (λ (n : ℕ). ioas_unmap ≡ structure_in n bytes) e refl
structure-is (HwptAlloc r) nr bytes e values = subst (λ (n : ℕ). hwpt_alloc ≡ structure_in n bytes) e refl
structure-is (DirtyEnable hwpt on) nr bytes e values = subst (λ (n : ℕ). dirty_enable ≡ structure_in n bytes) e refl
structure-is (DirtyReport r clears) nr bytes e values = subst (λ (n : ℕ). dirty_report ≡ structure_in n bytes) e refl

-- both structures of a MAP have the same refusals
pub refusal-map : (fixed : Bool) (bytes : List ℕ) → refusal_of (ioas_map true) bytes ≡ refusal_of (ioas_map fixed) bytes
unfolding refusal_of read_numbers
refusal-map true bytes = refl
refusal-map false bytes = refl

-- and both of a COPY
refusal-copy : (fixed : Bool) (bytes : List ℕ) → refusal_of (ioas_copy true) bytes ≡ refusal_of (ioas_copy fixed) bytes
unfolding refusal_of read_numbers
refusal-copy true bytes = refl
refusal-copy false bytes = refl

pub refusal-number : {A : Type 0} (c : Command A) (nr : ℕ) (bytes : List ℕ) → (structure_of c).number ≡ nr
    → refusal nr bytes ≡ refusal_of (structure_of c) bytes
refusal-number (Destroy id) nr bytes e = subst (λ (n : ℕ). refusal n bytes ≡ refusal_of destroy bytes) e refl
refusal-number IoasAlloc nr bytes e = subst (λ (n : ℕ). refusal n bytes ≡ refusal_of ioas_alloc bytes) e refl
refusal-number (IoasAllowIovas ioas ranges) nr bytes e =
    subst (λ (n : ℕ). refusal n bytes ≡ refusal_of ioas_allow_iovas bytes) e refl
refusal-number (IoasCopy r) nr bytes e =
    subst (λ (n : ℕ). refusal n bytes ≡ refusal_of (ioas_copy (is_fixed r.flags)) bytes) e
    (refusal-copy (has_flag r.flags.0 1) bytes)
refusal-number (IoasIovaRanges r) nr bytes e =
    subst (λ (n : ℕ). refusal n bytes ≡ refusal_of ioas_iova_ranges bytes) e refl
refusal-number (IoasMap m) nr bytes e = subst
    (λ (n : ℕ). refusal n bytes ≡ refusal_of (ioas_map (is_fixed m.flags)) bytes) e
    (refusal-map (has_flag m.flags.0 1) bytes)
refusal-number (IoasUnmap u) nr bytes e = subst (λ (n : ℕ). refusal n bytes ≡ refusal_of ioas_unmap bytes) e refl
refusal-number (HwptAlloc r) nr bytes e = subst (λ (n : ℕ). refusal n bytes ≡ refusal_of hwpt_alloc bytes) e refl
refusal-number (DirtyEnable hwpt on) nr bytes e =
    subst (λ (n : ℕ). refusal n bytes ≡ refusal_of dirty_enable bytes) e refl
refusal-number (DirtyReport r clears) nr bytes e =
    subst (λ (n : ℕ). refusal n bytes ≡ refusal_of dirty_report bytes) e refl

structure-allow : (nr : ℕ) (bytes : List ℕ) → nr ≡ 0x3B82 → structure_in nr bytes ≡ ioas_allow_iovas
unfolding structure_in rebuilt
structure-allow nr bytes e = rw e refl

count-map : (fixed : Bool) (values : List ℕ) → entry_count (ioas_map fixed).fields values ≡ 0
count-map true values = refl
count-map false values = refl

count-copy : (fixed : Bool) (values : List ℕ) → entry_count (ioas_copy fixed).fields values ≡ 0
count-copy true values = refl
count-copy false values = refl

-- a command has as many entries as its values count
pub count_is : {A : Type 0} (c : Command A) → entry_count (structure_of c).fields (values_of c) ≡ length (entries_of c)
count_is (Destroy id) = refl
count_is IoasAlloc = refl
count_is (IoasAllowIovas ioas ranges) = refl
count_is (IoasCopy r) = count-copy (is_fixed r.flags) (copy_values r)
count_is (IoasIovaRanges r) = refl
count_is (IoasMap m) = count-map (is_fixed m.flags) (map_values m)
count_is (IoasUnmap u) = refl
count_is (HwptAlloc r) = refl
count_is (DirtyEnable hwpt on) = refl
count_is (DirtyReport r clears) = refl

rebuilt-is : {A : Type 0} (c : Command A) → rebuilt (structure_of c).number (values_of c) (entries_of c) ≡ c
unfolding rebuilt
rebuilt-is (Destroy id) = refl
rebuilt-is IoasAlloc = refl
rebuilt-is (IoasAllowIovas ioas ranges) = refl
rebuilt-is (IoasCopy r) = refl
rebuilt-is (IoasIovaRanges r) = refl
rebuilt-is (IoasMap m) = refl
rebuilt-is (IoasUnmap u) = refl
rebuilt-is (HwptAlloc r) = refl
rebuilt-is (DirtyEnable hwpt true) = refl
rebuilt-is (DirtyEnable hwpt false) = refl
rebuilt-is (DirtyReport r true) = refl
rebuilt-is (DirtyReport r false) = refl

same_command : {A : Type 0} (c d : Command A) → (structure_of c).number ≡ (structure_of d).number
    → values_of c ≡ values_of d → entries_of c ≡ entries_of d → c ≡ d
same_command {A} c d e f h =
    sym (rebuilt-is c)
    ∙ (ap (λ (nr : ℕ). rebuilt {A = A} nr (values_of c) (entries_of c)) e
    ∙ (ap (λ (values : List ℕ). rebuilt {A = A} (structure_of d).number values (entries_of c)) f
    ∙ (ap (rebuilt {A = A} (structure_of d).number (values_of d)) h ∙ rebuilt-is d)))

-- bytes that spell a command are read as its structure, its values and its entries
pub spelled_read : {A : Type 0} (nr : ℕ) (bytes : List ℕ) (c : Command A) → Spells nr bytes c
    → IsRead (structure_of c) (values_of c) bytes (entries_bytes (entries_of c))
spelled_read nr bytes c spells =
    is_read (structure_of c) (values_of c) spells.head (entries_bytes (entries_of c)) bytes
    spells.laid_out spells.bytes_are
    (length-entries_bytes (entries_of c) ∙ ap (λ (n : ℕ). 16 * n) (sym (count_is c)))

spelled : {A : Type 0} (nr : ℕ) (bytes : List ℕ) (c : Command A) → IsBytes bytes → refusal nr bytes ≡ None
    → (structure_of c).number ≡ nr → values_of c ≡ read_values (structure_of c) bytes
    → entries_of c ≡ entries_at (length (entries_of c)) (after_size bytes) → Spells nr bytes c
spelled nr bytes c fits e number values entries =
    let s = structure_of c in
    let count = length (entries_of c) in
    let after = after_size bytes in
    let accepted : refusal_of s bytes ≡ None = sym (refusal-number c nr bytes number) ∙ e in
    let counted : read_count s bytes ≡ count = ap (entry_count s.fields) (sym values) ∙ count_is c in
    let whole : length after ≡ 16 * count = is_whole s bytes accepted ∙ ap (λ (n : ℕ). 16 * n) counted in
    let after_fits = IsBytes-drop (size_at bytes) bytes fits in
    let written : entries_bytes (entries_of c) ≡ after =
    ap entries_bytes entries ∙ entries_bytes-entries_at count after after_fits whole in
    record {
      number = number;
      head = take (size_at bytes) bytes;
      laid_out = subst (λ (vs : List ℕ). IsLaidOut s vs (take (size_at bytes) bytes)) (sym values)
          (is_laid_out s bytes fits accepted);
      addresses = subst AreAddresses (sym entries) (AreAddresses-entries_at count after after_fits);
      bytes_are = sym (take-append-drop (size_at bytes) bytes)
          ∙ ap (λ (x : List ℕ). take (size_at bytes) bytes ++ x) (sym written);
    }

-- what reading says of what it answers
pub found : {A : Type 0} (nr : ℕ) (bytes : List ℕ) (r : Result (Command A) CallError) → IsBytes bytes
    → refused_of r ≡ refusal nr bytes
    → IfOk r (λ c. (structure_of c).number ≡ nr) → IfOk r (λ c. values_of c ≡ read_values (structure_of c) bytes)
    → IfOk r (λ c. entries_of c ≡ entries_at (length (entries_of c)) (after_size bytes))
    → IfOk r (λ c. Spells nr bytes c)
found nr bytes (Ok c) fits e number values entries = spelled nr bytes c fits (sym e) number values entries
found nr bytes (Err d) fits e number values entries = tt

-- a command that is spelled so has as many entries as the bytes count
count_read : {A : Type 0} (nr : ℕ) (bytes : List ℕ) (c : Command A) → Spells nr bytes c
    → read_count (structure_of c) bytes ≡ length (entries_of c)
count_read nr bytes c spells =
    let read = spelled_read nr bytes c spells in
    ap (entry_count (structure_of c).fields) read.values_are ∙ count_is c

pub only : {A : Type 0} (nr : ℕ) (bytes : List ℕ) (r : Result (Command A) CallError) (c : Command A) → Spells nr bytes c
    → refused_of r ≡ refusal nr bytes
    → IfOk r (λ c. (structure_of c).number ≡ nr) → IfOk r (λ c. values_of c ≡ read_values (structure_of c) bytes)
    → IfOk r (λ c. entries_of c ≡ entries_at (length (entries_of c)) (after_size bytes))
    → OnMemory r ((nr ≡ 0x3B82) × (0 < read_count ioas_allow_iovas bytes)) → Gives r c
only nr bytes (Ok d) c spells e number values entries memory =
    let same : (structure_of d).number ≡ (structure_of c).number = number ∙ sym spells.number in
    let read = spelled_read nr bytes c spells in
    let structures : structure_of d ≡ structure_of c =
    structure-is d nr bytes number values ∙ sym (structure-is c nr bytes spells.number (sym read.values_are)) in
    let counts : length (entries_of d) ≡ length (entries_of c) =
    sym (count_is d) ∙ (ap (entry_count (structure_of d).fields) values
    ∙ (ap (λ (s : Structure). read_count s bytes) structures ∙ count_read nr bytes c spells)) in
    let same_entries : entries_of d ≡ entries_of c =
    entries ∙ (ap (λ (n : ℕ). entries_at n (after_size bytes)) counts
    ∙ (ap (entries_at (length (entries_of c))) read.after_is
    ∙ entries_at-entries_bytes (entries_of c) spells.addresses)) in
    same_command d c same (values ∙ (ap (λ (s : Structure). read_values s bytes) structures ∙ read.values_are))
    same_entries
only nr bytes (Err (errors.Refused refused)) c spells e number values entries memory =
    let read = spelled_read nr bytes c spells in
    let none : refusal nr bytes ≡ None = refusal-number c nr bytes spells.number ∙ read.accepted in
    absurd cc
only nr bytes (Err (errors.Memory no_memory)) c spells e number values entries memory =
    let read = spelled_read nr bytes c spells in
    let structure : structure_of c ≡ ioas_allow_iovas =
    structure-is c nr bytes spells.number (sym read.values_are) ∙ structure-allow nr bytes memory.0 in
    subst (λ (n : ℕ). 0 < n) (sym (ap (λ (s : Structure). read_count s bytes) structure)
    ∙ count_read nr bytes c spells) memory.1

values-allow : (bytes : List ℕ) → let values =
    read_values ioas_allow_iovas bytes in slice_index values 0 ∷ read_count ioas_allow_iovas bytes ∷ [] ≡ values
unfolding read_numbers
values-allow bytes = refl

-- where memory is refused there is a command that has entries
pub wanting : {A : Type 0} (nr : ℕ) (bytes : List ℕ) (r : Result (Command A) CallError) → IsBytes bytes
    → refused_of r ≡ refusal nr bytes
    → OnMemory r ((nr ≡ 0x3B82) × (0 < read_count ioas_allow_iovas bytes))
    → OnMemory r ((c : Command A) × SpellsEntries nr bytes c)
wanting nr bytes (Ok d) fits e memory = tt
wanting nr bytes (Err (errors.Refused refused)) fits e memory = tt
wanting {A} nr bytes (Err (errors.Memory no_memory)) fits e memory =
    let count = read_count ioas_allow_iovas bytes in
    let ranges = entries_at count (after_size bytes) in
    let len : length ranges ≡ count = length-entries_at count (after_size bytes) in
    let ioas = slice_index (read_values ioas_allow_iovas bytes) 0 in
    let c : Command A = IoasAllowIovas (record { 0 = ioas }) ranges in
    let values : ioas ∷ length ranges ∷ [] ≡ read_values ioas_allow_iovas bytes =
    ap (λ (n : ℕ). ioas ∷ n ∷ []) len ∙ values-allow bytes in (
      c,
      (
        spelled nr bytes c fits (sym e) (sym memory.0) values
            (ap (λ (n : ℕ). entries_at n (after_size bytes)) (sym len)),
        subst (λ (n : ℕ). 0 < n) (sym len) memory.1,
      ),
    )
