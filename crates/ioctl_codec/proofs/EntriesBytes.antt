-- Entries that are read are those that were written, and the reverse.
use Rattle.std.proofs.Common.{◌≡◌, ℕ, zero, suc, ◌+◌, ◌*◌, ◌^◌, ◌<◌, ◌≤◌, List, [], ◌∷◌, ◌++◌, length, get_or, take}
use Rattle.std.proofs.Common.{drop, refl, sym, ap, subst, ◌∙◌, append_assoc, add-one, arith}
use Rattle.std.specs.Int.{w64, from_le_bytes, to_le_bytes}
use Rattle.std.proofs.lemmas.List.{take_at, drop_at, take-append-drop, drop-drop, length-append, length-take}
use Rattle.std.proofs.lemmas.List.{length-drop, append-nil}
use Rattle.iofd_words.specs.Bounds.{Bounds}
use Rattle.ioctl_codec.specs.Entries.{AreAddresses, entries_at, entries_bytes, entry_at, entry_bytes}
use Rattle.ioctl_codec.specs.Layout.{U64}
use Rattle.ioctl_codec.proofs.LittleEndian.{IsBytes, IsBytes-drop, IsBytes-take, to_le_bytes-from_le_bytes}
use Rattle.ioctl_codec.proofs.LittleEndian.{from_le_bytes-to_le_bytes, from_le_bytes_below}
use Rattle.ioctl_codec.proofs.Rows.{take-add}

pub length-entry_bytes : (range : Bounds) → length (entry_bytes range) ≡ 16
unfolding entry_bytes
length-entry_bytes range = refl

pub length-entries_bytes : (ranges : List Bounds) → length (entries_bytes ranges) ≡ 16 * length ranges
length-entries_bytes [] = refl
length-entries_bytes (range ∷ ranges) =
    omega (
      arith,
      length-append (entry_bytes range) (entries_bytes ranges),
      length-entry_bytes range,
      length-entries_bytes ranges,
    )

pub length-entries_at : (count : ℕ) (bytes : List ℕ) → length (entries_at count bytes) ≡ count
length-entries_at zero bytes = refl
length-entries_at (suc count) bytes = ap suc (length-entries_at count (drop 16 bytes))

-- ---- written, and read

entry_at-entry_bytes : (range : Bounds) (rest : List ℕ) → range.first < 2 ^ 64 → range.last < 2 ^ 64
    → entry_at (entry_bytes range ++ rest) ≡ range
unfolding entry_at entry_bytes
entry_at-entry_bytes range rest first last =
    let a = to_le_bytes w64 range.first in
    let b = to_le_bytes w64 range.last in
    let apart : (a ++ b) ++ rest ≡ a ++ (b ++ rest) = append_assoc a b rest in
    let start : from_le_bytes w64 (take 8 ((a ++ b) ++ rest)) ≡ range.first =
    ap (λ (x : List ℕ). from_le_bytes w64 (take 8 x)) apart
    ∙ (ap (from_le_bytes w64) (take_at a (b ++ rest) 8 refl) ∙ from_le_bytes-to_le_bytes U64 range.first first) in
    let behind : drop 8 ((a ++ b) ++ rest) ≡ b ++ rest = ap (drop 8) apart ∙ drop_at a (b ++ rest) 8 refl in
    let end : from_le_bytes w64 (take 8 (drop 8 ((a ++ b) ++ rest))) ≡ range.last =
    ap (λ (x : List ℕ). from_le_bytes w64 (take 8 x)) behind
    ∙ (ap (from_le_bytes w64) (take_at b rest 8 refl) ∙ from_le_bytes-to_le_bytes U64 range.last last) in
    ap (λ (n : ℕ). record { first = n; last = from_le_bytes w64 (take 8 (drop 8 ((a ++ b) ++ rest))) }) start
    ∙ ap (λ (n : ℕ). record { first = range.first; last = n }) end

pub entries_at-entries_bytes : (ranges : List Bounds) → AreAddresses ranges
    → entries_at (length ranges) (entries_bytes ranges) ≡ ranges
entries_at-entries_bytes [] fits = refl
entries_at-entries_bytes (range ∷ ranges) fits =
    let rest = entries_bytes ranges in
    let first : entry_at (entry_bytes range ++ rest) ≡ range = entry_at-entry_bytes range rest fits.0.0 fits.0.1 in
    let behind : drop 16 (entry_bytes range ++ rest) ≡ rest =
    drop_at (entry_bytes range) rest 16 (length-entry_bytes range) in
    ap (λ (x : Bounds). x ∷ entries_at (length ranges) (drop 16 (entry_bytes range ++ rest))) first
    ∙ ap (λ (xs : List Bounds). range ∷ xs) (ap (entries_at (length ranges)) behind
    ∙ entries_at-entries_bytes ranges fits.1)

-- ---- read, and written

entry_bytes-entry_at : (bytes : List ℕ) → IsBytes bytes → 16 ≤ length bytes
    → entry_bytes (entry_at bytes) ≡ take 16 bytes
unfolding entry_at entry_bytes
entry_bytes-entry_at bytes fits enough =
    let a : to_le_bytes w64 (from_le_bytes w64 (take 8 bytes)) ≡ take 8 bytes =
    to_le_bytes-from_le_bytes U64 (take 8 bytes) (omega (arith, enough, length-take 8 bytes))
    (IsBytes-take 8 bytes fits) in
    let rest = drop 8 bytes in
    let b : to_le_bytes w64 (from_le_bytes w64 (take 8 rest)) ≡ take 8 rest =
    to_le_bytes-from_le_bytes U64 (take 8 rest) (omega (arith, enough, length-drop 8 bytes, length-take 8 rest))
    (IsBytes-take 8 rest (IsBytes-drop 8 bytes fits)) in
    ap (λ (x : List ℕ). x ++ to_le_bytes w64 (from_le_bytes w64 (take 8 rest))) a
    ∙ (ap (λ (x : List ℕ). take 8 bytes ++ x) b ∙ sym (take-add 8 8 bytes))

none : (bytes : List ℕ) → length bytes ≡ 0 → [] ≡ bytes
none [] e = refl
none (byte ∷ bytes) e = absurd cc

pub entries_bytes-entries_at : (count : ℕ) (bytes : List ℕ) → IsBytes bytes → length bytes ≡ 16 * count
    → entries_bytes (entries_at count bytes) ≡ bytes
entries_bytes-entries_at zero bytes fits len = none bytes len
entries_bytes-entries_at (suc count) bytes fits len =
    let rest = drop 16 bytes in
    let first : entry_bytes (entry_at bytes) ≡ take 16 bytes = entry_bytes-entry_at bytes fits (omega (arith, len)) in
    let others : entries_bytes (entries_at count rest) ≡ rest =
    entries_bytes-entries_at count rest (IsBytes-drop 16 bytes fits) (omega (arith, len, length-drop 16 bytes)) in
    ap (λ (x : List ℕ). x ++ entries_bytes (entries_at count rest)) first
    ∙ (ap (λ (x : List ℕ). take 16 bytes ++ x) others ∙ take-append-drop 16 bytes)

entry_at_below : (bytes : List ℕ) → IsBytes bytes → let range =
    entry_at bytes in (range.first < 2 ^ 64) × (range.last < 2 ^ 64)
unfolding entry_at
entry_at_below bytes fits = (
  from_le_bytes_below U64 (take 8 bytes) (IsBytes-take 8 bytes fits),
  from_le_bytes_below U64 (take 8 (drop 8 bytes)) (IsBytes-take 8 (drop 8 bytes) (IsBytes-drop 8 bytes fits)),
)

pub AreAddresses-entries_at : (count : ℕ) (bytes : List ℕ) → IsBytes bytes → AreAddresses (entries_at count bytes)
AreAddresses-entries_at zero bytes fits = tt
AreAddresses-entries_at (suc count) bytes fits =
    (entry_at_below bytes fits, AreAddresses-entries_at count (drop 16 bytes) (IsBytes-drop 16 bytes fits))

-- ---- one more

entries_at_suc : (count : ℕ) (bytes : List ℕ)
    → entries_at (suc count) bytes ≡ entries_at count bytes ++ entry_at (drop (16 * count) bytes) ∷ []
entries_at_suc zero bytes = refl
entries_at_suc (suc count) bytes =
    let rest = drop 16 bytes in
    let behind : drop (16 * count) rest ≡ drop (16 * suc count) bytes =
    drop-drop (16 * count) 16 bytes ∙ ap (λ (n : ℕ). drop n bytes) (omega arith) in
    ap (λ (xs : List Bounds). entry_at bytes ∷ xs) (entries_at_suc count rest)
    ∙ ap (λ (xs : List ℕ). entry_at bytes ∷ (entries_at count rest ++ entry_at xs ∷ [])) behind

entries_at_more : (count : ℕ) (bytes : List ℕ)
    → entries_at (count + 1) bytes ≡ entries_at count bytes ++ entry_at (drop (16 * count) bytes) ∷ []
entries_at_more count bytes = rw add-one (entries_at_suc count bytes)

-- an entry is appended to those that were read
pub read_more : (count : ℕ) (bytes rest : List ℕ) (before after : List Bounds) (entry : Bounds)
    → before ≡ entries_at count bytes → rest ≡ drop (16 * count) bytes
    → entry ≡ entry_at rest → after ≡ before ++ entry ∷ [] → after ≡ entries_at (count + 1) bytes
read_more count bytes rest before after entry so_far at value e =
    e ∙ (ap (λ (xs : List Bounds). xs ++ entry ∷ []) so_far
    ∙ (ap (λ (x : Bounds). entries_at count bytes ++ x ∷ []) (value ∙ ap entry_at at)
    ∙ sym (entries_at_more count bytes)))

entries_bytes_suc : (i : ℕ) (ranges : List Bounds) (range : Bounds) → i < length ranges
    → entries_bytes (take (suc i) ranges) ≡ entries_bytes (take i ranges) ++ entry_bytes (get_or ranges i range)
entries_bytes_suc i [] range lt = let no : ⊥ = omega (arith, lt) in absurd no
entries_bytes_suc zero (first ∷ ranges) range lt = append-nil (entry_bytes first)
entries_bytes_suc (suc i) (first ∷ ranges) range lt =
    ap (λ (xs : List ℕ). entry_bytes first ++ xs) (entries_bytes_suc i ranges range (omega (arith, lt)))
    ∙ sym (append_assoc (entry_bytes first) (entries_bytes (take i ranges)) (entry_bytes (get_or ranges i range)))

-- the first and last number of the next range
pub record IsNext (i : ℕ) (ranges : List Bounds) (first last : ℕ) : Type 0 where
  next : Bounds
  at : next ≡ get_or ranges i next
  first_is : first ≡ next.first
  last_is : last ≡ next.last

pub is_next : (i : ℕ) (ranges : List Bounds) (first last : ℕ) (next : Bounds) → next ≡ get_or ranges i next
    → first ≡ next.first → last ≡ next.last → IsNext i ranges first last
is_next i ranges first last next e f l = record { next = next; at = e; first_is = f; last_is = l }

pub entries_bytes_more : (i : ℕ) (ranges : List Bounds) (first last : ℕ) → i < length ranges
    → IsNext i ranges first last
    → entries_bytes (take (i + 1) ranges) ≡ entries_bytes (take i ranges)
    ++ entry_bytes (record { first = first; last = last })
entries_bytes_more i ranges first last lt next =
    rw (add-one, next.first_is, next.last_is) (entries_bytes_suc i ranges next.next lt
    ∙ ap (λ (range : Bounds). entries_bytes (take i ranges) ++ entry_bytes range) (sym next.at))

-- a range is appended to those that were written
pub written_more : (now before after : List ℕ) (i : ℕ) (ranges : List Bounds) (first last : ℕ) → i < length ranges
    → IsNext i ranges first last
    → now ≡ before ++ entries_bytes (take i ranges) → after ≡ now ++ entry_bytes (record { first = first; last = last })
    → after ≡ before ++ entries_bytes (take (i + 1) ranges)
written_more now before after i ranges first last lt next e f =
    let entry = entry_bytes (record { first = first; last = last }) in
    f ∙ (ap (λ (x : List ℕ). x ++ entry) e
    ∙ (append_assoc before (entries_bytes (take i ranges)) entry
    ∙ ap (λ (x : List ℕ). before ++ x) (sym (entries_bytes_more i ranges first last lt next))))

AreAddresses_suc : (i : ℕ) (ranges : List Bounds) (range : Bounds) → i < length ranges → AreAddresses (take i ranges)
    → (let next = get_or ranges i range in (next.first < 2 ^ 64) × (next.last < 2 ^ 64))
    → AreAddresses (take (suc i) ranges)
AreAddresses_suc i [] range lt fits next = let no : ⊥ = omega (arith, lt) in absurd no
AreAddresses_suc zero (first ∷ ranges) range lt fits next = (next, tt)
AreAddresses_suc (suc i) (first ∷ ranges) range lt fits next =
    (fits.0, AreAddresses_suc i ranges range (omega (arith, lt)) fits.1 next)

pub AreAddresses_more : (i : ℕ) (ranges : List Bounds) (first last : ℕ) → i < length ranges → IsNext i ranges first last
    → AreAddresses (take i ranges)
    → first < 2 ^ 64 → last < 2 ^ 64 → AreAddresses (take (i + 1) ranges)
AreAddresses_more i ranges first last lt next fits f l =
    rw add-one (AreAddresses_suc i ranges next.next lt fits
    (subst (λ (range : Bounds). (range.first < 2 ^ 64) × (range.last < 2 ^ 64)) next.at
    (subst (λ (n : ℕ). n < 2 ^ 64) next.first_is f, subst (λ (n : ℕ). n < 2 ^ 64) next.last_is l)))
