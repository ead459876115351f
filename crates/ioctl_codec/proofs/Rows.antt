-- Fields that are read are those that were spelled, and the reverse, for any list of fields.
use Rattle.std.proofs.Common.{◌≡◌, ℕ, suc, ◌+◌, ◌*◌, ◌^◌, ◌<◌, ◌≤◌, Bool, true, false, cond, ◌&&◌, ◌||◌, get_or, List}
use Rattle.std.proofs.Common.{[], ◌∷◌, ◌++◌, length, take, drop, None, refl, sym, ap, ◌∙◌, append_assoc, arith}
use Rattle.std.specs.Prelude.{slice_index}
use Rattle.std.specs.Int.{w32, byte_len, from_le_bytes, to_le_bytes}
use Rattle.std.proofs.lemmas.List.{take_at, drop_at, take-append-drop, take-take, drop-take, drop-drop, get_or-drop}
use Rattle.std.proofs.lemmas.List.{get_or-take, append-nil, length-append, length-take, length-drop}
use Rattle.ioctl_codec.specs.Layout.{Structure, FieldType, U32, U64, width_of, length_of, Role, Flags, Argument}
use Rattle.ioctl_codec.specs.Layout.{Answered, Chosen, Count, Output, Ignored, Reserved, Field, width, bytes_of}
use Rattle.ioctl_codec.specs.Layout.{is_count, entry_count, is_allowed, are_allowed, AreOfWidth, is_carried, value_in}
use Rattle.ioctl_codec.specs.Layout.{carried, number_in, filled, spelled, numbers_at}
use Rattle.ioctl_codec.specs.Table.{fields_in, cut, placed, has_count}
use Rattle.ioctl_codec.specs.declared.structure.Field.{Field as Row}
use Rattle.ioctl_codec.proofs.LittleEndian.{IsBytes, IsBytes-drop, IsBytes-take, length-to_le_bytes}
use Rattle.ioctl_codec.proofs.LittleEndian.{to_le_bytes-from_le_bytes, from_le_bytes-to_le_bytes, from_le_bytes_below}

pub and-parts : (a b : Bool) → (a && b) ≡ true → (a ≡ true) × (b ≡ true)
and-parts true b e = (refl, e)
and-parts false b e = absurd cc

pub and_both : (a b : Bool) → a ≡ true → b ≡ true → (a && b) ≡ true
and_both true b e f = f
and_both false b e f = absurd cc

pub and-true : (b : Bool) → (b && true) ≡ b
and-true true = refl
and-true false = refl

and_assoc : (a b c : Bool) → ((a && b) && c) ≡ (a && (b && c))
and_assoc true b c = refl
and_assoc false b c = refl

pub or-false : (a b : Bool) → (a || b) ≡ false → (a ≡ false) × (b ≡ false)
or-false true b e = absurd cc
or-false false b e = (refl, e)

pub take-add : (k m : ℕ) (bytes : List ℕ) → take (k + m) bytes ≡ take k bytes ++ take m (drop k bytes)
take-add k m bytes =
    let front : take k (take (k + m) bytes) ≡ take k bytes = take-take k (k + m) bytes (omega arith) in
    let rest : drop k (take (k + m) bytes) ≡ take m (drop k bytes) = drop-take k m bytes in
    sym (take-append-drop k (take (k + m) bytes)) ∙ rw (front, rest) refl

pub spelled-numbers_at : (fields : List Field) (bytes : List ℕ) → IsBytes bytes → bytes_of fields ≤ length bytes
    → spelled fields (numbers_at fields bytes) ≡ take (bytes_of fields) bytes
spelled-numbers_at [] bytes fits enough = refl
spelled-numbers_at (field ∷ fields) bytes fits enough =
    let k = byte_len (width field) in
    let front : to_le_bytes (width field) (from_le_bytes (width field) (take k bytes)) ≡ take k bytes =
    to_le_bytes-from_le_bytes field.type (take k bytes) (omega (arith, length-take k bytes))
    (IsBytes-take k bytes fits) in
    let rest : spelled fields (numbers_at fields (drop k bytes)) ≡ take (bytes_of fields) (drop k bytes) =
    spelled-numbers_at fields (drop k bytes) (IsBytes-drop k bytes fits) (omega (arith, length-drop k bytes)) in
    rw (front, rest) (sym (take-add k (bytes_of fields) bytes))

pub AreOfWidth-numbers_at : (fields : List Field) (bytes : List ℕ) → IsBytes bytes
    → AreOfWidth fields (numbers_at fields bytes)
AreOfWidth-numbers_at [] bytes fits = tt
AreOfWidth-numbers_at (field ∷ fields) bytes fits =
    let k = byte_len (width field) in (
      from_le_bytes_below field.type (take k bytes) (IsBytes-take k bytes fits),
      AreOfWidth-numbers_at fields (drop k bytes) (IsBytes-drop k bytes fits),
    )

pub length-spelled : (fields : List Field) (numbers : List ℕ) → AreOfWidth fields numbers
    → length (spelled fields numbers) ≡ bytes_of fields
length-spelled [] [] fits = refl
length-spelled [] (n ∷ numbers) fits = absurd fits
length-spelled (field ∷ fields) [] fits = absurd fits
length-spelled (field ∷ fields) (n ∷ numbers) fits =
    omega (
      arith,
      length-append (to_le_bytes (width field) n) (spelled fields numbers),
      length-to_le_bytes field.type n,
      length-spelled fields numbers fits.1,
    )

pub numbers_at-spelled : (fields : List Field) (numbers rest : List ℕ) → AreOfWidth fields numbers
    → numbers_at fields (spelled fields numbers ++ rest) ≡ numbers
numbers_at-spelled [] [] rest fits = refl
numbers_at-spelled [] (n ∷ numbers) rest fits = absurd fits
numbers_at-spelled (field ∷ fields) [] rest fits = absurd fits
numbers_at-spelled (field ∷ fields) (n ∷ numbers) rest fits =
    let w = width field in
    let len = length-to_le_bytes field.type n in
    let apart : to_le_bytes w n ++ spelled fields numbers ++ rest ≡ to_le_bytes w n
    ++ (spelled fields numbers ++ rest) = append_assoc (to_le_bytes w n) (spelled fields numbers) rest in
    ap (numbers_at (field ∷ fields)) apart
    ∙ rw (
      take_at (to_le_bytes w n) (spelled fields numbers ++ rest) (byte_len w) len,
      drop_at (to_le_bytes w n) (spelled fields numbers ++ rest) (byte_len w) len,
      from_le_bytes-to_le_bytes field.type n fits.0,
    )
    (ap (λ (ns : List ℕ). n ∷ ns) (numbers_at-spelled fields numbers rest fits.1))

-- ---- field by field

-- the numbers of the fields before are read and allowed as said, and those of the fields left stand at the front of the
-- rest
pub record IsReading (fields : List Field) (bytes : List ℕ) (left : List Field) (rest before : List ℕ)
    (allowed : Bool) : Type 0 where
  pub numbers : before ++ numbers_at left rest ≡ numbers_at fields bytes
  pub allowed_are : (allowed && are_allowed left (numbers_at left rest)) ≡ are_allowed fields (numbers_at fields bytes)
  pub enough : bytes_of left ≤ length rest

pub read_more : {fields : List Field} {bytes : List ℕ} {field : Field} {left : List Field} {rest before : List ℕ}
    {allowed : Bool} (n : ℕ) (after next : List ℕ) (still : Bool)
    → IsReading fields bytes (field ∷ left) rest before allowed
    → n ≡ from_le_bytes (width field) (take (byte_len (width field)) rest)
    → after ≡ drop (byte_len (width field)) rest
    → next ≡ before ++ n ∷ [] → still ≡ (allowed && is_allowed field.role n)
    → IsReading fields bytes left after next still
read_more {fields} {bytes} {field} {left} {rest} {before} {allowed} n after next still h value behind appended kept =
    record {
      numbers = rw (appended, append_assoc, value, behind) h.numbers;
      allowed_are = rw (kept, and_assoc, value, behind) h.allowed_are;
      enough = rw behind (omega (arith, h.enough, length-drop (byte_len (width field)) rest));
    }

pub all_read : {fields : List Field} {bytes : List ℕ} {left : List Field} {rest before : List ℕ} {allowed : Bool}
    → IsReading fields bytes left rest before allowed → left ≡ []
    → (before ≡ numbers_at fields bytes) × (allowed ≡ are_allowed fields (numbers_at fields bytes))
all_read {fields} {bytes} {left} {rest} {before} {allowed} h none =
    (rw (none, append-nil) at h.numbers, rw (none, and-true) at h.allowed_are)

-- the structure's bytes are those before the place and those of the fields left
pub record IsWriting (s : Structure) (numbers : List ℕ) (left : List Field)
    (others before now : List ℕ) (at : ℕ) : Type 0 where
  pub written : take at now ++ spelled left others ≡ to_le_bytes w32 (length_of s) ++ spelled s.fields numbers
  pub rest : drop at now ≡ drop at before
  pub place : at + bytes_of left ≡ length_of s

pub write_more : {s : Structure} {numbers : List ℕ} {field : Field} {left : List Field} {others before now : List ℕ}
    {at : ℕ} (n : ℕ) (next : List ℕ) (after : ℕ)
    → IsWriting s numbers (field ∷ left) (n ∷ others) before now at → at ≤ length now
    → next ≡ take at now ++ (to_le_bytes (width field) n ++ drop (at + byte_len (width field)) now)
    → after ≡ at + byte_len (width field) → IsWriting s numbers left others before next after
write_more {s} {numbers} {field} {left} {others} {before} {now} {at} n next after h enough e place =
    let k = byte_len (width field) in
    let ahead = take at now in
    let bytes = to_le_bytes (width field) n in
    let apart : next ≡ (ahead ++ bytes) ++ drop (at + k) now = e ∙ sym (append_assoc ahead bytes (drop (at + k) now)) in
    let len : length (ahead ++ bytes) ≡ after =
    omega (arith, length-append ahead bytes, length-take at now, length-to_le_bytes field.type n, place, enough) in
    record {
      written = rw (apart, take_at (ahead ++ bytes) (drop (at + k) now) after len, append_assoc) h.written;
      rest = rw (
        apart,
        drop_at (ahead ++ bytes) (drop (at + k) now) after len,
        place,
        ← drop-drop k at now,
        h.rest,
      ) (drop-drop k at before);
      place = omega (arith, place, h.place);
    }

pub all_written : {s : Structure} {numbers : List ℕ} {left : List Field} {others before now : List ℕ} {at : ℕ}
    → IsWriting s numbers left others before now at → left ≡ []
    → (at ≡ length_of s) × (now ≡ (to_le_bytes w32 (length_of s) ++ spelled s.fields numbers) ++ drop at before)
all_written {s} {numbers} {left} {others} {before} {now} {at} h none =
    let front : take at now ≡ to_le_bytes w32 (length_of s) ++ spelled s.fields numbers =
    rw (none, append-nil) at h.written in
    let end : at + bytes_of [] ≡ length_of s = rw none at h.place in
    (omega (arith, end), sym (take-append-drop at now) ∙ rw (front, h.rest) refl)

-- ---- the numbers in an array

cut-fits : (t : FieldType) (n : ℕ) → n < 2 ^ (8 * byte_len (width_of t)) → cut t n ≡ n
cut-fits U32 n lt = omega (arith, lt)
cut-fits U64 n lt = refl

pub placed_are : (i : ℕ) (fields : List Field) (array ns : List ℕ) → AreOfWidth fields ns
    → take (length fields) (drop i array) ≡ ns → placed i fields array ≡ ns
placed_are i [] array [] fits e = refl
placed_are i [] array (n ∷ ns) fits e = absurd fits
placed_are i (field ∷ fields) array [] fits e = absurd fits
placed_are i (field ∷ fields) array (n ∷ ns) fits e =
    let count = length fields in
    let here = drop i array in
    let same : i ≡ i + 0 = omega arith in
    let more : 1 + count ≡ suc count = omega arith in
    let first : get_or array i 0 ≡ n =
    ap (λ (k : ℕ). get_or array k 0) same ∙ (sym (get_or-drop i array 0 0)
    ∙ (sym (get_or-take (suc count) here 0 0 (omega arith)) ∙ ap (λ (xs : List ℕ). get_or xs 0 0) e)) in
    let rest : take count (drop (i + 1) array) ≡ ns =
    ap (take count) (sym (drop-drop 1 i array))
    ∙ (sym (drop-take 1 count here) ∙ (ap (λ (k : ℕ). drop 1 (take k here)) more ∙ ap (drop 1) e)) in
    ap (λ (m : ℕ). cut field.type m ∷ placed (i + 1) fields array) first
    ∙ (ap (λ (m : ℕ). m ∷ placed (i + 1) fields array) (cut-fits field.type n fits.0)
    ∙ ap (λ (ms : List ℕ). n ∷ ms) (placed_are (i + 1) fields array ns fits.1 rest))

pub length-fields_in : (rows : List Row) → length (fields_in rows) ≡ length rows
length-fields_in [] = refl
length-fields_in (row ∷ rows) = ap suc (length-fields_in rows)

pub uncounted : (fields : List Field) (values : List ℕ) → has_count fields ≡ false → entry_count fields values ≡ 0
uncounted [] values e = refl
uncounted (field ∷ fields) values e =
    let p = or-false (is_count field.role) (has_count fields) e in
    rw p.0 (uncounted fields (cond (is_carried field.role) (drop 1 values) values) p.1)

allowed_step : (role : Role) (n : ℕ) (fields : List Field) (numbers : List ℕ)
    → (is_allowed role n && are_allowed fields numbers) ≡ true
    → are_allowed fields (filled fields (carried fields numbers) None) ≡ true
    → let values = cond (is_carried role) (value_in role n ∷ carried fields numbers) (carried fields numbers) in
    (is_allowed role (number_in role (slice_index values 0) None)
    && are_allowed fields (filled fields (cond (is_carried role) (drop 1 values) values) None)) ≡ true
allowed_step (Flags known) n fields numbers e h = let p =
    and-parts (is_allowed (Flags known) n) (are_allowed fields numbers) e in and_both (is_allowed (Flags known) n)
    (are_allowed fields (filled fields (carried fields numbers) None)) p.0 h
allowed_step Argument n fields numbers e h = h
allowed_step Answered n fields numbers e h = h
allowed_step Chosen n fields numbers e h = h
allowed_step Count n fields numbers e h = h
allowed_step Output n fields numbers e h = h
allowed_step Ignored n fields numbers e h = h
allowed_step Reserved n fields numbers e h = h

allowed_rest : (role : Role) (n : ℕ) (fields : List Field) (numbers : List ℕ)
    → (is_allowed role n && are_allowed fields numbers) ≡ true → are_allowed fields numbers ≡ true
allowed_rest role n fields numbers e = let p = and-parts (is_allowed role n) (are_allowed fields numbers) e in p.1

-- what may stand in the fields may also stand there after the ignored ones are zeroed
pub are_allowed-filled : (fields : List Field) (numbers : List ℕ) → are_allowed fields numbers ≡ true
    → are_allowed fields (filled fields (carried fields numbers) None) ≡ true
are_allowed-filled [] numbers e = refl
are_allowed-filled (field ∷ fields) [] e = absurd cc
are_allowed-filled (field ∷ fields) (n ∷ numbers) e =
    allowed_step field.role n fields numbers e
    (are_allowed-filled fields numbers (allowed_rest field.role n fields numbers e))
