-- The fields of a line, parted by single spaces, and what each kind of field may be.
use Rattle.std.specs.Prelude.{ℕ, ◌==◌, Bool, true, false, if◌then◌else◌, List, [], ◌∷◌, length}
use Rattle.std.specs.Prelude.{codes, Option, Some}
use Rattle.std.specs.Prelude.{None, option_map, is_some, nat_le, take}
use Rattle.std.specs.List.{position_or_len, slice_split, list_all}
use Rattle.std.specs.Option.{option_and_then}
use Rattle.std.specs.Str.{bytes_eq}
use denote.Ref.{Bor}
use Rattle.iofd_words.specs.Bounds.{Bounds}
use Rattle.iofd_words.specs.Settings.{is_between}
use Rattle.iofd_words.specs.declared.width.Width.{Width}
use Rattle.iofd_words.specs.declared.width.Width.TheVariants.{Bits39, Bits48, Bits57}
use Rattle.iommufd_script.specs.Digits.{decimal, hexadecimal, bytes_of}

-- two spaces, or one at an end, have an empty field beside them, which is of no kind
abbrev pub fields : List ℕ → List (List ℕ)
fields line = slice_split (λ c. c == 32) line

-- where the first field ends
abbrev pub field_end : List ℕ → ℕ
field_end line = position_or_len (λ c. c == 32) line

-- what the first field stands for, and where it ends
abbrev pub field_value : (List ℕ → Option ℕ) → List ℕ → Option (ℕ × ℕ)
field_value value line = option_map (λ n. (n, field_end line)) (value (take (field_end line) line))

-- the fields of the part of a line that is left, if one is
abbrev pub fields_left : Option (Bor (List ℕ)) → List (List ℕ)
fields_left None = []
fields_left (Some line) = fields line.now

pub data Kind : Type 0 where
  -- a decimal number below 2^bits
  Decimal : (bits : ℕ) → Kind
  -- a hexadecimal number below 2^bits, of at most 16 digits
  Hex : (bits : ℕ) → Kind
  -- how many bytes an access has, in decimal: 1 to 64
  Length : Kind
  -- the id of a device: four hexadecimal digits
  Source : Kind
  -- the width of a device's addresses: 39, 48 or 57
  AddressWidth : Kind
  -- bytes in lower-case hexadecimal, `-` for none
  Bytes : Kind
  -- 1 to 64 bytes in lower-case hexadecimal
  Access : Kind
  -- what a pin is for: `r` for reads alone, `w` for writes too
  Purpose : Kind
  -- the mark `x86`, or nothing: then no field is taken
  Mark : Kind
  -- all fields that are left, each a span
  Spans : Kind

-- what such a field stands for
abbrev pub ValueOf : Kind → Type 0
ValueOf (Decimal bits) = ℕ
ValueOf (Hex bits) = ℕ
ValueOf Length = ℕ
ValueOf Source = ℕ
ValueOf AddressWidth = Width
ValueOf Bytes = List ℕ
ValueOf Access = List ℕ
-- whether it is for writes too
ValueOf Purpose = Bool
ValueOf Mark = Bool
ValueOf Spans = List Bounds

-- the width that a field names
abbrev pub width_of : List ℕ → Option Width
width_of text =
    if bytes_eq text (codes "39") then Some Bits39
    else if bytes_eq text (codes "48") then Some Bits48
    else if bytes_eq text (codes "57") then Some Bits57 else None

-- whether a pin is for writes too
abbrev pub purpose_of : List ℕ → Option Bool
purpose_of text =
    if bytes_eq text (codes "r") then Some false else if bytes_eq text (codes "w") then Some true else None

-- the value, if there is one and it passes
abbrev pub kept_if : {A : Type 0} → (A → Bool) → Option A → Option A
kept_if test None = None
kept_if test (Some x) = if test x then Some x else None

-- ---- spans

-- they are in order
abbrev pub span_from_to : ℕ → ℕ → Option Bounds
span_from_to first last = if nat_le first last then Some (record { first = first; last = last }) else None

abbrev pub span_of_parts : List (List ℕ) → Option Bounds
span_of_parts [] = None
span_of_parts (first ∷ []) = None
span_of_parts (first ∷ last ∷ []) =
    option_and_then (λ low. option_and_then (span_from_to low) (hexadecimal 64 last)) (hexadecimal 64 first)
span_of_parts (first ∷ last ∷ more ∷ others) = None

-- its first and its last number in hexadecimal, as `1000-1fff`; the last isn't below the first
unfoldable pub span_of : List ℕ → Option Bounds
span_of text = span_of_parts (slice_split (λ c. c == 45) text)

abbrev pub are_spans : List (List ℕ) → Bool
are_spans texts = list_all (λ text. is_some (span_of text)) texts

abbrev pub span_before : Option Bounds → List Bounds → List Bounds
span_before None others = others
span_before (Some span) others = span ∷ others

-- those of the fields that are spans
abbrev pub spans_in : List (List ℕ) → List Bounds
spans_in [] = []
spans_in (text ∷ texts) = span_before (span_of text) (spans_in texts)

-- ---- the fields of each kind

-- the value of the first field, and the fields behind it
abbrev pub first_value : {A : Type 0} → (List ℕ → Option A) → List (List ℕ) → Option (A × List (List ℕ))
first_value value [] = None
first_value value (field ∷ others) = option_map (λ x. (x, others)) (value field)

-- whether the mark is there, and the fields behind it
abbrev pub marked : List (List ℕ) → Bool × List (List ℕ)
marked [] = (false, [])
marked (field ∷ others) = if bytes_eq field (codes "x86") then (true, others) else (false, field ∷ others)

-- the value of the fields of this kind that come first, and the fields behind them
unfoldable pub next : (kind : Kind) → List (List ℕ) → Option (ValueOf kind × List (List ℕ))
next (Decimal bits) texts = first_value (decimal bits) texts
next (Hex bits) texts = first_value (hexadecimal bits) texts
next Length texts = first_value (λ text. kept_if (is_between 1 64) (decimal 64 text)) texts
next Source texts = first_value (λ text. if length text == 4 then hexadecimal 16 text else None) texts
next AddressWidth texts = first_value width_of texts
next Bytes texts = first_value bytes_of texts
next Access texts = first_value (λ text. kept_if (λ bytes. is_between 1 64 (length bytes)) (bytes_of text)) texts
next Purpose texts = first_value purpose_of texts
next Mark texts = Some (marked texts)
next Spans texts = if are_spans texts then Some (spans_in texts, []) else None

-- what is made of the values of fields of these kinds
abbrev pub Makes : List Kind → Type 0 → Type 0
Makes [] A = A
Makes (kind ∷ kinds) A = ValueOf kind → Makes kinds A

-- it, where the fields are of these kinds and there are no more
abbrev pub read : {A : Type 0} → (kinds : List Kind) → Makes kinds A → List (List ℕ) → Option A
read [] made texts = if length texts == 0 then Some made else None
read (kind ∷ kinds) made texts = option_and_then (λ x. read kinds (made x.0) x.1) (next kind texts)
