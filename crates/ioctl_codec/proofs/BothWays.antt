-- Reading and the layout say the same.
use Rattle.std.proofs.Common.{◌≡◌, ℕ, zero, suc, ◌+◌, ◌-◌, ◌*◌, ◌≤◌, Bool, true, false, ◌==◌, ltb, not, ◌||◌, List, []}
use Rattle.std.proofs.Common.{◌∷◌, ◌++◌, length, take, drop, replicate, None, refl, sym, ap, ◌∙◌, append_assoc, arith}
use Rattle.std.specs.List.{list_all}
use Rattle.std.specs.Int.{w32, from_le_bytes, to_le_bytes}
use Rattle.std.proofs.lemmas.Bool.{ltb-false, le-ltb, eqb-true, eq-eqb}
use Rattle.std.proofs.lemmas.List.{take_at, drop_at, take-append-drop, take-take, drop-take, drop-drop, length-append}
use Rattle.std.proofs.lemmas.List.{length-take, length-drop, length-replicate}
use Rattle.iofd_words.specs.FirstTrue.{first_true}
use Rattle.iofd_words.specs.declared.refusal.Cause.{Cause}
use Rattle.iofd_words.specs.declared.refusal.Cause.TheVariants as cause
use Rattle.ioctl_codec.specs.Layout.{Structure, U32, bytes_of, length_of, are_allowed, carried, spelled, numbers_at}
use Rattle.ioctl_codec.specs.Layout.{entry_count, IsLaidOut}
use Rattle.ioctl_codec.specs.Refusals.{size_at, size_checks, field_checks, read_numbers, read_values, read_count}
use Rattle.ioctl_codec.specs.Refusals.{after_size, refusal_of}
use Rattle.ioctl_codec.proofs.LittleEndian.{IsBytes, IsBytes-drop, IsBytes-take, to_le_bytes-from_le_bytes}
use Rattle.ioctl_codec.proofs.LittleEndian.{from_le_bytes-to_le_bytes}
use Rattle.ioctl_codec.proofs.Rows.{and-parts, or-false, spelled-numbers_at, AreOfWidth-numbers_at, length-spelled}
use Rattle.ioctl_codec.proofs.Rows.{numbers_at-spelled}

-- ---- tests

none_after : {A : Type 0} (k : A) (b : Bool) (rest : List (A × Bool)) → first_true ((k, b) ∷ rest) ≡ None
    → (b ≡ false) × (first_true rest ≡ None)
none_after k true rest e = absurd cc
none_after k false rest e = (refl, e)

none_before : {A : Type 0} (k : A) (b : Bool) (rest : List (A × Bool)) → b ≡ false → first_true rest ≡ None
    → first_true ((k, b) ∷ rest) ≡ None
none_before k true rest e f = absurd cc
none_before k false rest e f = f

not-false : (b : Bool) → not b ≡ false → b ≡ true
not-false true e = refl
not-false false e = absurd cc

or_both : (a b : Bool) → a ≡ false → b ≡ false → (a || b) ≡ false
or_both true b e f = absurd cc
or_both false b e f = f

zeros_are : (bytes : List ℕ) → list_all (λ byte. byte == 0) bytes ≡ true → bytes ≡ replicate (length bytes) 0
zeros_are [] e = refl
zeros_are (n ∷ bytes) e =
    let p = and-parts (n == 0) (list_all (λ byte. byte == 0) bytes) e in
    let first : n ≡ 0 = eqb-true n 0 p.0 in
    let rest = zeros_are bytes p.1 in
    ap (λ (x : ℕ). x ∷ bytes) first ∙ ap (λ (xs : List ℕ). 0 ∷ xs) rest

are_zeros : (n : ℕ) → list_all (λ byte. byte == 0) (replicate n 0) ≡ true
are_zeros zero = refl
are_zeros (suc n) = are_zeros n

-- ---- what is read is laid out so

-- what the checks found where none refuses
record Passes (s : Structure) (bytes : List ℕ) : Type 0 where
  four : 4 ≤ length bytes
  least : length_of s ≤ size_at bytes
  most : size_at bytes ≤ 4096
  whole : size_at bytes ≤ length bytes
  tail : list_all (λ byte. byte == 0) (drop (length_of s) (take (size_at bytes) bytes)) ≡ true
  allowed : are_allowed s.fields (read_numbers s bytes) ≡ true
  ended : length (after_size bytes) ≡ 16 * read_count s bytes

passes : (s : Structure) (bytes : List ℕ) → refusal_of s bytes ≡ None → Passes s bytes
unfolding refusal_of size_checks field_checks
passes s bytes e =
    let size = size_at bytes in
    let short = ltb (length bytes) 4 || ltb size (length_of s) in
    let large = ltb 4096 size in
    let cut = ltb (length bytes) size in
    let dirty = not (list_all (λ byte. byte == 0) (drop (length_of s) (take size bytes))) in
    let supported = are_allowed s.fields (read_numbers s bytes) in
    let after = after_size bytes in
    let whole = length after == 16 * read_count s bytes in
    let g-checks : List (Cause × Bool) = (cause.Array, not whole) ∷ [] in
    let f-checks : List (Cause × Bool) = (cause.Unsupported, not supported) ∷ g-checks in
    let d-checks : List (Cause × Bool) = (cause.Tail, dirty) ∷ f-checks in
    let c-checks : List (Cause × Bool) = (cause.Short, cut) ∷ d-checks in
    let b-checks : List (Cause × Bool) = (cause.Tail, large) ∷ c-checks in
    let a = none_after cause.Short short b-checks e in
    let b = none_after cause.Tail large c-checks a.1 in
    let c = none_after cause.Short cut d-checks b.1 in
    let d = none_after cause.Tail dirty f-checks c.1 in
    let f = none_after cause.Unsupported (not supported) g-checks d.1 in
    let g = none_after cause.Array (not whole) [] f.1 in
    let sizes = or-false (ltb (length bytes) 4) (ltb size (length_of s)) a.0 in
    record {
      four = ltb-false (length bytes) 4 sizes.0;
      least = ltb-false size (length_of s) sizes.1;
      most = ltb-false 4096 size b.0;
      whole = ltb-false (length bytes) size c.0;
      tail = not-false (list_all (λ byte. byte == 0) (drop (length_of s) (take size bytes))) d.0;
      allowed = not-false supported f.0;
      ended = eqb-true (length after) (16 * read_count s bytes) (not-false whole g.0);
    }

pub is_laid_out : (s : Structure) (bytes : List ℕ) → IsBytes bytes → refusal_of s bytes ≡ None
    → IsLaidOut s (read_values s bytes) (take (size_at bytes) bytes)
unfolding read_numbers
is_laid_out s bytes fits e =
    let p = passes s bytes e in
    let size = size_at bytes in
    let m = bytes_of s.fields in
    let head = take size bytes in
    let rest = drop 4 head in
    let front : to_le_bytes w32 size ≡ take 4 head =
    to_le_bytes-from_le_bytes U32 (take 4 bytes) (omega (arith, p.four, length-take 4 bytes))
    (IsBytes-take 4 bytes fits) ∙ sym (take-take 4 size bytes (omega (arith, p.least))) in
    let same : take m (drop 4 bytes) ≡ take m rest =
    sym (drop-take 4 m bytes) ∙ (ap (drop 4) (sym (take-take (4 + m) size bytes (omega (arith, p.least))))
    ∙ drop-take 4 m head) in
    let fields : spelled s.fields (numbers_at s.fields (drop 4 bytes)) ≡ take m rest =
    spelled-numbers_at s.fields (drop 4 bytes) (IsBytes-drop 4 bytes fits)
    (omega (arith, p.least, p.whole, length-drop 4 bytes)) ∙ same in
    let back : drop m rest ≡ replicate (size - length_of s) 0 =
    drop-drop m 4 head ∙ (zeros_are (drop (length_of s) head) p.tail
    ∙ ap (λ (n : ℕ). replicate n 0) (omega (arith, p.whole, length-take size bytes, length-drop (length_of s) head))) in
    record {
      size = size;
      numbers = numbers_at s.fields (drop 4 bytes);
      least = p.least;
      most = p.most;
      widths = AreOfWidth-numbers_at s.fields (drop 4 bytes) (IsBytes-drop 4 bytes fits);
      allowed = p.allowed;
      values_are = refl;
      bytes_are = sym (take-append-drop 4 head)
          ∙ (ap (λ (x : List ℕ). x ++ rest) (sym front)
          ∙ ap (λ (x : List ℕ). to_le_bytes w32 size ++ x) (sym (take-append-drop m rest)
          ∙ (ap (λ (x : List ℕ). x ++ drop m rest) (sym fields)
          ∙ ap (λ (x : List ℕ). spelled s.fields (numbers_at s.fields (drop 4 bytes)) ++ x) back)));
    }

-- the bytes of as many entries as the structure counts follow it
pub is_whole : (s : Structure) (bytes : List ℕ) → refusal_of s bytes ≡ None
    → length (after_size bytes) ≡ 16 * read_count s bytes
is_whole s bytes e = let p = passes s bytes e in p.ended

-- ---- what is laid out so is read

pub record IsRead (s : Structure) (values bytes after : List ℕ) : Type 0 where
  pub accepted : refusal_of s bytes ≡ None
  pub values_are : read_values s bytes ≡ values
  pub after_is : after_size bytes ≡ after

pub is_read : (s : Structure) (values head after bytes : List ℕ) → IsLaidOut s values head → bytes ≡ head ++ after
    → length after ≡ 16 * entry_count s.fields values
    → IsRead s values bytes after
unfolding refusal_of size_checks field_checks read_numbers
is_read s values head after bytes laid bytes-are whole-is =
    let size = laid.size in
    let m = bytes_of s.fields in
    let fields = spelled s.fields laid.numbers in
    let zeros : List ℕ = replicate (size - length_of s) 0 in
    let front = to_le_bytes w32 size in
    let field_len : length fields ≡ m = length-spelled s.fields laid.numbers laid.widths in
    let head-len : length head ≡ size =
    ap length laid.bytes_are ∙ omega (
      arith,
      length-append front (fields ++ zeros),
      length-append fields zeros,
      field_len,
      length-replicate {A = ℕ} (size - length_of s) 0,
      laid.least,
    ) in
    let len : length bytes ≡ size + length after =
    ap length bytes-are ∙ omega (arith, length-append head after, head-len) in
    let apart : bytes ≡ front ++ (fields ++ (zeros ++ after)) =
    bytes-are ∙ (ap (λ (x : List ℕ). x ++ after) laid.bytes_are
    ∙ (append_assoc front (fields ++ zeros) after
    ∙ ap (λ (x : List ℕ). front ++ x) (append_assoc fields zeros after))) in
    let size-is : size_at bytes ≡ size =
    ap size_at apart ∙ ap (from_le_bytes w32) (take_at front (fields ++ (zeros ++ after)) 4 refl)
    ∙ from_le_bytes-to_le_bytes U32 size (omega (arith, laid.most)) in
    let rest-is : drop 4 bytes ≡ fields ++ (zeros ++ after) =
    ap (drop 4) apart ∙ drop_at front (fields ++ (zeros ++ after)) 4 refl in
    let numbers-are : read_numbers s bytes ≡ laid.numbers =
    ap (numbers_at s.fields) rest-is ∙ numbers_at-spelled s.fields laid.numbers (zeros ++ after) laid.widths in
    let values-are : read_values s bytes ≡ values = ap (carried s.fields) numbers-are ∙ laid.values_are in
    let head-rest : drop 4 head ≡ fields ++ zeros =
    ap (drop 4) laid.bytes_are ∙ drop_at front (fields ++ zeros) 4 refl in
    let tail-is : drop (length_of s) head ≡ zeros =
    sym (drop-drop m 4 head) ∙ ap (drop m) head-rest ∙ drop_at fields zeros m field_len in
    let read = size_at bytes in
    let after-is : after_size bytes ≡ after =
    ap (λ (n : ℕ). drop n bytes) size-is ∙ (ap (drop size) bytes-are ∙ drop_at head after size head-len) in
    let head-is : take read bytes ≡ head =
    ap (λ (n : ℕ). take n bytes) size-is ∙ (ap (take size) bytes-are ∙ take_at head after size head-len) in
    let clean = list_all (λ byte. byte == 0) (drop (length_of s) (take read bytes)) in
    let clean-is : clean ≡ true =
    ap (λ (xs : List ℕ). list_all (λ byte. byte == 0) (drop (length_of s) xs)) head-is
    ∙ (ap (list_all (λ byte. byte == 0)) tail-is ∙ are_zeros (size - length_of s)) in
    let supported = are_allowed s.fields (read_numbers s bytes) in
    let supported-is : supported ≡ true = ap (are_allowed s.fields) numbers-are ∙ laid.allowed in
    let whole = length (after_size bytes) == 16 * read_count s bytes in
    let counted : length (after_size bytes) ≡ 16 * read_count s bytes =
    ap length after-is ∙ (whole-is ∙ ap (λ (xs : List ℕ). 16 * entry_count s.fields xs) (sym values-are)) in
    let whole-true : whole ≡ true = eq-eqb (length (after_size bytes)) (16 * read_count s bytes) counted in
    let short = ltb (length bytes) 4 || ltb read (length_of s) in
    let large = ltb 4096 read in
    let cut = ltb (length bytes) read in
    let g-checks : List (Cause × Bool) = (cause.Array, not whole) ∷ [] in
    let f-checks : List (Cause × Bool) = (cause.Unsupported, not supported) ∷ g-checks in
    let d-checks : List (Cause × Bool) = (cause.Tail, not clean) ∷ f-checks in
    let c-checks : List (Cause × Bool) = (cause.Short, cut) ∷ d-checks in
    let b-checks : List (Cause × Bool) = (cause.Tail, large) ∷ c-checks in
    record {
      accepted =
          none_before cause.Short short b-checks (or_both (ltb (length bytes) 4) (ltb read (length_of s))
          (le-ltb (length bytes) 4 (omega (arith, len, laid.least)))
          (le-ltb read (length_of s) (omega (arith, size-is, laid.least))))
          (none_before cause.Tail large c-checks (le-ltb 4096 read (omega (arith, size-is, laid.most)))
          (none_before cause.Short cut d-checks (le-ltb (length bytes) read (omega (arith, size-is, len)))
          (none_before cause.Tail (not clean) f-checks (ap not clean-is)
          (none_before cause.Unsupported (not supported) g-checks (ap not supported-is)
          (none_before cause.Array (not whole) [] (ap not whole-true) refl)))));
      values_are = values-are;
      after_is = after-is;
    }
