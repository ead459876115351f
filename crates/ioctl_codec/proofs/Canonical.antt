-- The canonical spelling of a command spells it, and a command that is spelled at all may be encoded.
use Rattle.std.proofs.Common.{◌≡◌, ℕ, ◌-◌, ◌^◌, ◌<◌, ◌≤◌, Bool, true, false, ◌||◌, ◌==◌, List, [], ◌∷◌, ◌++◌, length}
use Rattle.std.proofs.Common.{replicate, None, refl, sym, ap, subst, ◌∙◌, lit≤, arith}
use Rattle.std.specs.Int.{w32, to_le_bytes}
use Rattle.std.proofs.lemmas.List.{append-nil}
use Rattle.std.proofs.lemmas.Bool.{eqb-true, ltb-true, lt-ltb}
use Rattle.std.specs.Prelude.{slice_index}
use Rattle.std.specs.Int.RustNames.{bit_and}
use Rattle.iofd_words.specs.Rights.{has_flag}
use Rattle.iofd_words.specs.declared.event.CopyRequest.{CopyRequest}
use Rattle.iofd_words.specs.declared.event.MapRequest.{MapRequest}
use Rattle.iofd_words.specs.declared.flags.MapFlags.{MapFlags}
use Rattle.ioctl_codec.specs.declared.command.Command.{Command}
use Rattle.ioctl_codec.specs.declared.command.Command.TheVariants.{Destroy, IoasAlloc, IoasAllowIovas, IoasCopy}
use Rattle.ioctl_codec.specs.declared.command.Command.TheVariants.{IoasIovaRanges, IoasMap, IoasUnmap, HwptAlloc}
use Rattle.ioctl_codec.specs.declared.command.Command.TheVariants.{DirtyEnable, DirtyReport}
use Rattle.ioctl_codec.specs.Entries.{AreAddresses}
use Rattle.ioctl_codec.specs.Layout.{AreOfWidth, are_allowed, carried, filled, spelled, length_of, structure_bytes}
use Rattle.ioctl_codec.specs.Structures.{copy_values, ioas_allow_iovas, ioas_copy, ioas_map, map_values, structure_of}
use Rattle.ioctl_codec.specs.Structures.{values_of, entries_of, is_spellable}
use Rattle.ioctl_codec.specs.Spelling.{Spells, canonical, FitsFields, HasSpelling}
use Rattle.ioctl_codec.specs.Refusals.{read_numbers, read_values, refusal}
use Rattle.ioctl_codec.proofs.Commands.{refusal-number, spelled_read}
use Rattle.ioctl_codec.proofs.Rows.{and-parts, and-true, and_both, are_allowed-filled}

abbrev canonical_row : {A : Type 0} → Command A → List ℕ
canonical_row c = filled (structure_of c).fields (values_of c) None

abbrev are_known : MapFlags → Bool
are_known flags = bit_and flags.0 7 == flags.0

abbrev map_row : Bool → MapRequest → List ℕ
map_row fixed m = filled (ioas_map fixed).fields (map_values m) None

abbrev copy_row : Bool → CopyRequest → List ℕ
copy_row fixed r = filled (ioas_copy fixed).fields (copy_values r) None

are_allowed-map : (fixed : Bool) (m : MapRequest)
    → are_allowed (ioas_map fixed).fields (map_row fixed m) ≡ are_known m.flags
are_allowed-map true m = and-true (are_known m.flags)
are_allowed-map false m = and-true (are_known m.flags)

are_allowed-copy : (fixed : Bool) (r : CopyRequest)
    → are_allowed (ioas_copy fixed).fields (copy_row fixed r) ≡ are_known r.flags
are_allowed-copy true r = and-true (are_known r.flags)
are_allowed-copy false r = and-true (are_known r.flags)

are_allowed-canonical : {A : Type 0} (c : Command A) → is_spellable c ≡ true
    → are_allowed (structure_of c).fields (canonical_row c) ≡ true
are_allowed-canonical (Destroy id) e = refl
are_allowed-canonical IoasAlloc e = refl
are_allowed-canonical (IoasAllowIovas ioas ranges) e = refl
are_allowed-canonical (IoasCopy r) e =
    let fixed = has_flag r.flags.0 1 in
    let p = and-parts (are_known r.flags) (fixed || r.dst_iova.0 == 0) e in
    are_allowed-copy fixed r ∙ p.0
are_allowed-canonical (IoasIovaRanges r) e = refl
are_allowed-canonical (IoasMap m) e =
    let fixed = has_flag m.flags.0 1 in
    let p = and-parts (are_known m.flags) (fixed || m.iova.0 == 0) e in
    are_allowed-map fixed m ∙ p.0
are_allowed-canonical (IoasUnmap u) e = refl
are_allowed-canonical (HwptAlloc r) e = refl
are_allowed-canonical (DirtyEnable hwpt true) e = refl
are_allowed-canonical (DirtyEnable hwpt false) e = refl
are_allowed-canonical (DirtyReport r true) e = refl
are_allowed-canonical (DirtyReport r false) e = refl

carried-map : (fixed : Bool) (m : MapRequest) → (fixed || m.iova.0 == 0) ≡ true
    → carried (ioas_map fixed).fields (map_row fixed m) ≡ map_values m
carried-map true m e = refl
carried-map false m e =
    ap (λ (iova : ℕ). m.flags.0 ∷ m.ioas.0 ∷ m.user_va ∷ m.length ∷ iova ∷ []) (sym (eqb-true m.iova.0 0 e))

carried-copy : (fixed : Bool) (r : CopyRequest) → (fixed || r.dst_iova.0 == 0) ≡ true
    → carried (ioas_copy fixed).fields (copy_row fixed r) ≡ copy_values r
carried-copy true r e = refl
carried-copy false r e = ap (λ (iova : ℕ). r.flags.0 ∷ r.dst_ioas.0 ∷ r.src_ioas.0 ∷ r.length ∷ iova ∷ r.src_iova.0
    ∷ []) (sym (eqb-true r.dst_iova.0 0 e))

carried-canonical : {A : Type 0} (c : Command A) → is_spellable c ≡ true
    → carried (structure_of c).fields (canonical_row c) ≡ values_of c
carried-canonical (Destroy id) e = refl
carried-canonical IoasAlloc e = refl
carried-canonical (IoasAllowIovas ioas ranges) e = refl
carried-canonical (IoasCopy r) e =
    let fixed = has_flag r.flags.0 1 in
    let p = and-parts (are_known r.flags) (fixed || r.dst_iova.0 == 0) e in
    carried-copy fixed r p.1
carried-canonical (IoasIovaRanges r) e = refl
carried-canonical (IoasMap m) e =
    let fixed = has_flag m.flags.0 1 in
    let p = and-parts (are_known m.flags) (fixed || m.iova.0 == 0) e in
    carried-map fixed m p.1
carried-canonical (IoasUnmap u) e = refl
carried-canonical (HwptAlloc r) e = refl
carried-canonical (DirtyEnable hwpt on) e = refl
carried-canonical (DirtyReport r clears) e = refl

-- an address that isn't fixed is read as 0
kept-map : (fixed : Bool) (m : MapRequest) (bytes : List ℕ) → read_values (ioas_map fixed) bytes ≡ map_values m
    → (fixed || m.iova.0 == 0) ≡ true
unfolding read_numbers
kept-map true m bytes e = refl
kept-map false m bytes e =
    let zero_is : 0 ≡ m.iova.0 = ap (λ (vs : List ℕ). slice_index vs 4) e in
    subst (λ (n : ℕ). (n == 0) ≡ true) zero_is refl

kept-copy : (fixed : Bool) (r : CopyRequest) (bytes : List ℕ) → read_values (ioas_copy fixed) bytes ≡ copy_values r
    → (fixed || r.dst_iova.0 == 0) ≡ true
unfolding read_numbers
kept-copy true r bytes e = refl
kept-copy false r bytes e =
    let zero_is : 0 ≡ r.dst_iova.0 = ap (λ (vs : List ℕ). slice_index vs 4) e in
    subst (λ (n : ℕ). (n == 0) ≡ true) zero_is refl

length_at_most : {A : Type 0} (c : Command A) → length_of (structure_of c) ≤ 4096
length_at_most (Destroy id) = lit≤ tt
length_at_most IoasAlloc = lit≤ tt
length_at_most (IoasAllowIovas ioas ranges) = lit≤ tt
length_at_most (IoasCopy r) = lit≤ tt
length_at_most (IoasIovaRanges r) = lit≤ tt
length_at_most (IoasMap m) = lit≤ tt
length_at_most (IoasUnmap u) = lit≤ tt
length_at_most (HwptAlloc r) = lit≤ tt
length_at_most (DirtyEnable hwpt on) = lit≤ tt
length_at_most (DirtyReport r clears) = lit≤ tt

no_tail : (n : ℕ) → replicate {A = ℕ} (n - n) 0 ≡ []
no_tail n =
    let none : n - n ≡ 0 = omega arith in
    ap (λ (k : ℕ). replicate {A = ℕ} k 0) none

widths : {A : Type 0} (c : Command A) → FitsFields c → is_spellable c ≡ true
    → AreOfWidth (structure_of c).fields (canonical_row c)
widths (Destroy id) fits spellable = fits
widths IoasAlloc fits spellable = fits
widths (IoasAllowIovas ioas ranges) fits spellable =
    (fits.0, (ltb-true (length ranges) (2 ^ 32) spellable, (omega arith, (omega arith, tt))))
widths (IoasCopy r) fits spellable = fits
widths (IoasIovaRanges r) fits spellable = fits
widths (IoasMap m) fits spellable = fits
widths (IoasUnmap u) fits spellable = fits
widths (HwptAlloc r) fits spellable = fits
widths (DirtyEnable hwpt on) fits spellable = fits
widths (DirtyReport r clears) fits spellable = fits

addresses : {A : Type 0} (c : Command A) → FitsFields c → AreAddresses (entries_of c)
addresses (Destroy id) fits = tt
addresses IoasAlloc fits = tt
addresses (IoasAllowIovas ioas ranges) fits = fits.1
addresses (IoasCopy r) fits = tt
addresses (IoasIovaRanges r) fits = tt
addresses (IoasMap m) fits = tt
addresses (IoasUnmap u) fits = tt
addresses (HwptAlloc r) fits = tt
addresses (DirtyEnable hwpt on) fits = tt
addresses (DirtyReport r clears) fits = tt

-- a canonical spelling, the numbers of the structure and those of the entries being of their widths
pub canonical_of : {A : Type 0} (c : Command A) → AreOfWidth (structure_of c).fields (canonical_row c)
    → AreAddresses (entries_of c) → is_spellable c ≡ true
    → Spells (structure_of c).number (canonical c) c
unfolding structure_bytes
canonical_of c fits entries spellable =
    let s = structure_of c in
    let fields = spelled s.fields (canonical_row c) in
    record {
      number = refl;
      head = to_le_bytes w32 (length_of s) ++ fields;
      laid_out = record {
        size = length_of s;
        numbers = canonical_row c;
        least = omega arith;
        most = length_at_most c;
        widths = fits;
        allowed = are_allowed-canonical c spellable;
        values_are = carried-canonical c spellable;
        bytes_are = ap (λ (x : List ℕ). to_le_bytes w32 (length_of s) ++ x) (sym (append-nil fields)
            ∙ ap (λ (x : List ℕ). fields ++ x) (sym (no_tail (length_of s))));
      };
      addresses = entries;
      bytes_are = refl;
    }

pub canonical_spells : {A : Type 0} (c : Command A) → FitsFields c → is_spellable c ≡ true
    → Spells (structure_of c).number (canonical c) c
canonical_spells c fits spellable = canonical_of c (widths c fits spellable) (addresses c fits) spellable

-- the count of an ALLOW_IOVAS has 32 bits
count_below : (numbers values : List ℕ) → AreOfWidth ioas_allow_iovas.fields numbers
    → carried ioas_allow_iovas.fields numbers ≡ values → slice_index values 1 < 2 ^ 32
count_below [] values fits e = absurd fits
count_below (a ∷ []) values fits e = absurd fits.1
count_below (a ∷ b ∷ numbers) values fits e =
    subst (λ (n : ℕ). n < 2 ^ 32) (ap (λ (vs : List ℕ). slice_index vs 1) e) fits.1.0

spellable-if : {A : Type 0} (c : Command A) (bytes numbers : List ℕ)
    → are_allowed (structure_of c).fields (canonical_row c) ≡ true → read_values (structure_of c) bytes ≡ values_of c
    → AreOfWidth (structure_of c).fields numbers → carried (structure_of c).fields numbers ≡ values_of c
    → is_spellable c ≡ true
spellable-if (Destroy id) bytes numbers e values fits numbers_are = refl
spellable-if IoasAlloc bytes numbers e values fits numbers_are = refl
spellable-if (IoasAllowIovas ioas ranges) bytes numbers e values fits numbers_are =
    lt-ltb (length ranges) (2 ^ 32) (count_below numbers (ioas.0 ∷ length ranges ∷ []) fits numbers_are)
spellable-if (IoasCopy r) bytes numbers e values fits numbers_are =
    let fixed = has_flag r.flags.0 1 in
    and_both (are_known r.flags) (fixed || r.dst_iova.0 == 0) (sym (are_allowed-copy fixed r) ∙ e)
    (kept-copy fixed r bytes values)
spellable-if (IoasIovaRanges r) bytes numbers e values fits numbers_are = refl
spellable-if (IoasMap m) bytes numbers e values fits numbers_are =
    let fixed = has_flag m.flags.0 1 in
    and_both (are_known m.flags) (fixed || m.iova.0 == 0) (sym (are_allowed-map fixed m) ∙ e)
    (kept-map fixed m bytes values)
spellable-if (IoasUnmap u) bytes numbers e values fits numbers_are = refl
spellable-if (HwptAlloc r) bytes numbers e values fits numbers_are = refl
spellable-if (DirtyEnable hwpt on) bytes numbers e values fits numbers_are = refl
spellable-if (DirtyReport r clears) bytes numbers e values fits numbers_are = refl

pub spellable_from : {A : Type 0} (c : Command A) (nr : ℕ) (bytes : List ℕ) → Spells nr bytes c → is_spellable c ≡ true
spellable_from c nr bytes spells =
    let laid = spells.laid_out in
    let zeroed = are_allowed-filled (structure_of c).fields laid.numbers laid.allowed in
    let read = spelled_read nr bytes c spells in
    spellable-if c bytes laid.numbers (subst
    (λ (values : List ℕ). are_allowed (structure_of c).fields (filled (structure_of c).fields values None)
    ≡ true) laid.values_are zeroed) read.values_are laid.widths laid.values_are

pub canonical_accepted : {A : Type 0} (c : Command A) → FitsFields c → is_spellable c ≡ true
    → refusal (structure_of c).number (canonical c) ≡ None
canonical_accepted c fits spellable =
    let read = spelled_read (structure_of c).number (canonical c) c (canonical_spells c fits spellable) in
    refusal-number c (structure_of c).number (canonical c) refl ∙ read.accepted

pub has_spelling : {A : Type 0} (c : Command A) → FitsFields c → is_spellable c ≡ true → HasSpelling c
has_spelling c fits spellable = ((structure_of c).number, canonical c, canonical_spells c fits spellable)
