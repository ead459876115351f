-- The words and the fields of the grammar are of ASCII alone, so a line of them is.
use Rattle.std.proofs.Common.{◌≡◌, ℕ, ◌<◌, ◌≤◌, Bool, true, false, ◌&&◌, not, cond, eqb, nat_lt, nat_le, ◌^◌, ◌%◌, List}
use Rattle.std.proofs.Common.{[], ◌∷◌, length, map, codes, option_map, Option, Some, None, is_some, refl, sym, ap, ◌∙◌}
use Rattle.std.proofs.Common.{arith}
use Rattle.std.proofs.lemmas.Bool.{eqb-true, ltb-true}
use Rattle.std.proofs.lemmas.Bool.Decides.{nat_tests}
use Rattle.std.proofs.lemmas.List.Folds.{list_all-append}
use Rattle.std.proofs.lemmas.List.Splits.{join_with_byte-slice_split}
use Rattle.std.proofs.lemmas.Slice.Eq.{bytes_eq-Decides}
use Rattle.std.specs.Char.{digit_value, is_ascii}
use Rattle.std.specs.List.{list_all, slice_split, join_with_byte}
use Rattle.std.specs.Option.{option_and_then}
use Rattle.std.specs.Str.{bytes_eq}
use Rattle.std.specs.Str.Parse.{digits_value}
use Rattle.iofd_words.specs.declared.width.Width.TheVariants.{Bits39, Bits48, Bits57}
use Rattle.iofd_words.specs.FirstTrue.{first_true}
use Rattle.iofd_words.specs.Settings.{is_between}
use Rattle.iommufd_script.specs.Digits.{are_digits, number_of, decimal, hexadecimal, is_lower_digit, bytes_of, pairs}
use Rattle.iommufd_script.specs.Fields.{fields, Kind, Decimal, Hex, Length, Source, AddressWidth, Bytes, Access, Mark}
use Rattle.iommufd_script.specs.Fields.{Purpose, Spans, ValueOf, Makes, kept_if, span_from_to, span_of_parts, span_of}
use Rattle.iommufd_script.specs.Fields.{are_spans, spans_in, first_value, purpose_of, width_of, marked, next, read}
use Rattle.iommufd_script.specs.Grammar.{head_keyword, head_row, head_of, step_keyword, step_row, step_at}
use Rattle.iommufd_script.specs.Lines.{is_skipped, step_line, head_or_step, worded, line_of}
use Rattle.iommufd_script.specs.declared.keyword.HeadKeyword.{HeadKeyword}
use Rattle.iommufd_script.specs.declared.keyword.HeadKeyword.TheVariants as head
use Rattle.iommufd_script.specs.declared.keyword.StepKeyword.{StepKeyword}
use Rattle.iommufd_script.specs.declared.keyword.StepKeyword.TheVariants as step
use Rattle.iommufd_script.specs.declared.line.HeadLine.{HeadLine}
use Rattle.iommufd_script.specs.declared.line.Line.{Line}
use Rattle.iommufd_script.specs.declared.line.Line.TheVariants as line
use Rattle.iommufd_script.specs.declared.line.Step.{Step}
use Rattle.iommufd_script.proofs.Bools.{and-both, and-parts}

abbrev is_plain : List ℕ → Bool
is_plain text = list_all is_ascii text

abbrev are_plain : List (List ℕ) → Bool
are_plain texts = list_all is_plain texts

-- ---- options, by whether there is a value

where_kept : {A : Type 0} (b : Bool) (o : Option A) → is_some (cond b o None) ≡ true → (b ≡ true) × (is_some o ≡ true)
where_kept true o e = (refl, e)
where_kept false o e = absurd cc

where_either : {A : Type 0} {P : Type 0} (b : Bool) (x : A) (others : Option A) → (b ≡ true → P)
    → (is_some others ≡ true → P) → is_some (cond b (Some x) others) ≡ true → P
where_either true x others here there e = here refl
where_either false x others here there e = there e

where_mapped : {A B : Type 0} (f : A → B) (o : Option A) → is_some (option_map f o) ≡ true → is_some o ≡ true
where_mapped f None e = e
where_mapped f (Some x) e = refl

where_tested : {A : Type 0} (test : A → Bool) (o : Option A) → is_some (kept_if test o) ≡ true → is_some o ≡ true
where_tested test None e = e
where_tested test (Some x) e = refl

-- ---- characters

weaken : {X : Type 0} (p q : X → Bool) → ((x : X) → p x ≡ true → q x ≡ true) → (xs : List X) → list_all p xs ≡ true
    → list_all q xs ≡ true
weaken p q h [] e = refl
weaken p q h (x ∷ xs) e =
    let both = and-parts (p x) (list_all p xs) e in and-both (q x) (list_all q xs) (h x both.0) (weaken p q h xs both.1)

digit_plain : (c : ℕ) → digit_value c < 36 → is_ascii c ≡ true
digit_plain c small = grind (arith, nat_tests)

digits_plain : (base : ℕ) (text : List ℕ) → base ≤ 36 → are_digits base text ≡ true → is_plain text ≡ true
digits_plain base text few e =
    weaken (λ c. nat_lt (digit_value c) base) is_ascii
    (λ c small. let below = ltb-true (digit_value c) base small in digit_plain c (omega (arith, below))) text e

lower_plain : (c : ℕ) → is_lower_digit c ≡ true → is_ascii c ≡ true
lower_plain c e =
    let both = and-parts (nat_lt (digit_value c) 16) (not (is_between 65 90 c)) e in
    let below = ltb-true (digit_value c) 16 both.0 in
    digit_plain c (omega (arith, below))

same_plain : (text word : List ℕ) → is_plain word ≡ true → bytes_eq text word ≡ true → is_plain text ≡ true
same_plain text word plain e = let same : text ≡ word = (bytes_eq-Decides text word).0 e in ap is_plain same ∙ plain

-- parts and the characters between them
joined_plain : (c : ℕ) (parts : List (List ℕ)) → is_ascii c ≡ true → are_plain parts ≡ true
    → is_plain (join_with_byte c parts) ≡ true
joined_plain c [] plain e = refl
joined_plain c (x ∷ []) plain e = let both = and-parts (is_plain x) true e in both.0
joined_plain c (x ∷ y ∷ parts) plain e =
    let both = and-parts (is_plain x) (are_plain (y ∷ parts)) e in
    let others = joined_plain c (y ∷ parts) plain both.1 in
    list_all-append is_ascii x (c ∷ join_with_byte c (y ∷ parts))
    ∙ and-both (is_plain x) (is_plain (c ∷ join_with_byte c (y ∷ parts))) both.0
    (and-both (is_ascii c) (is_plain (join_with_byte c (y ∷ parts))) plain others)

parted_plain : (c : ℕ) (text : List ℕ) → is_ascii c ≡ true → are_plain (slice_split (λ b. eqb b c) text) ≡ true
    → is_plain text ≡ true
parted_plain c text plain e =
    ap is_plain (sym (join_with_byte-slice_split c text)) ∙ joined_plain c (slice_split (λ b. eqb b c) text) plain e

-- ---- fields

number_plain : (base bits : ℕ) (text : List ℕ) → base ≤ 36 → is_some (number_of base bits text) ≡ true
    → is_plain text ≡ true
unfolding number_of
number_plain base bits text few e =
    let all = where_kept (nat_lt 0 (length text) && are_digits base text && nat_lt (digits_value base text) (2 ^ bits))
    (Some (digits_value base text)) e in
    let digits =
    and-parts (nat_lt 0 (length text) && are_digits base text) (nat_lt (digits_value base text) (2 ^ bits)) all.0 in
    let are = and-parts (nat_lt 0 (length text)) (are_digits base text) digits.0 in
    digits_plain base text few are.1

hexadecimal_plain : (bits : ℕ) (text : List ℕ) → is_some (hexadecimal bits text) ≡ true → is_plain text ≡ true
hexadecimal_plain bits text e =
    let kept = where_kept (nat_le (length text) 16) (number_of 16 bits text) e in number_plain 16 bits
    text (omega arith) kept.1

bytes_plain : (text : List ℕ) → is_some (bytes_of text) ≡ true → is_plain text ≡ true
unfolding bytes_of
bytes_plain text e = where_either (bytes_eq text (codes "-")) [] _ (same_plain text (codes "-") refl)
    (λ some.
    let all = where_kept (nat_lt 0 (length text) && eqb (length text % 2) 0 && list_all is_lower_digit text)
    (Some (pairs text)) some in
    let both = and-parts (nat_lt 0 (length text) && eqb (length text % 2) 0) (list_all is_lower_digit text) all.0 in
    weaken is_lower_digit is_ascii lower_plain text both.1)
    e

width_plain : (text : List ℕ) → is_some (width_of text) ≡ true → is_plain text ≡ true
width_plain text e =
    let is_57 = bytes_eq text (codes "57") in
    where_either (bytes_eq text (codes "39")) Bits39
    (cond (bytes_eq text (codes "48")) (Some Bits48) (cond is_57 (Some Bits57) None)) (same_plain text (codes "39") refl)
    (where_either (bytes_eq text (codes "48")) Bits48 (cond is_57 (Some Bits57) None)
    (same_plain text (codes "48") refl)
    (λ some. let kept = where_kept is_57 (Some Bits57) some in same_plain text (codes "57") refl kept.0)) e

purpose_plain : (text : List ℕ) → is_some (purpose_of text) ≡ true → is_plain text ≡ true
purpose_plain text e =
    let is_w = bytes_eq text (codes "w") in
    where_either (bytes_eq text (codes "r")) false (cond is_w (Some true) None) (same_plain text (codes "r") refl)
    (λ some. let kept = where_kept is_w (Some true) some in same_plain text (codes "w") refl kept.0) e

both_ends : (first last : List ℕ) (low high : Option ℕ)
    → is_some (option_and_then (λ n. option_and_then (span_from_to n) high) low) ≡ true
    → (is_some low ≡ true) × (is_some high ≡ true)
both_ends first last None high e = absurd cc
both_ends first last (Some n) None e = absurd cc
both_ends first last (Some n) (Some m) e = (refl, refl)

ends_plain : (parts : List (List ℕ)) → is_some (span_of_parts parts) ≡ true → are_plain parts ≡ true
ends_plain [] e = absurd cc
ends_plain (first ∷ []) e = absurd cc
ends_plain (first ∷ last ∷ []) e =
    let both = both_ends first last (hexadecimal 64 first) (hexadecimal 64 last) e in
    and-both (is_plain first) (are_plain (last ∷ [])) (hexadecimal_plain 64 first both.0)
    (and-both (is_plain last) true (hexadecimal_plain 64 last both.1) refl)
ends_plain (first ∷ last ∷ more ∷ parts) e = absurd cc

span_plain : (text : List ℕ) → is_some (span_of text) ≡ true → is_plain text ≡ true
unfolding span_of
span_plain text e = parted_plain 45 text refl (ends_plain (slice_split (λ c. eqb c 45) text) e)

-- the fields behind those that were read
abbrev behind : {A : Type 0} → Option (A × List (List ℕ)) → List (List ℕ)
behind None = []
behind (Some read) = read.1

mapped : {A : Type 0} (o : Option A) (others : List (List ℕ)) (got : A × List (List ℕ))
    → option_map (λ x. (x, others)) o ≡ Some got → (is_some o ≡ true) × (others ≡ got.1)
mapped None others got e = absurd cc
mapped (Some x) others got e = (refl, ap behind e)

first_plain : {A : Type 0} (value : List ℕ → Option A) (texts : List (List ℕ)) (got : A × List (List ℕ))
    → ((text : List ℕ) → is_some (value text) ≡ true → is_plain text ≡ true)
    → first_value value texts ≡ Some got → are_plain got.1 ≡ true → are_plain texts ≡ true
first_plain value [] got plain e rest = refl
first_plain value (field ∷ others) got plain e rest =
    let found = mapped (value field) others got e in and-both (is_plain field) (are_plain others) (plain field found.0)
    (ap are_plain found.1 ∙ rest)

by_mark : (b : Bool) (field : List ℕ) (others : List (List ℕ)) → (b ≡ true → is_plain field ≡ true)
    → are_plain (cond {A = Bool × List (List ℕ)} b (true, others) (false, field ∷ others)).1 ≡ true
    → are_plain (field ∷ others) ≡ true
by_mark true field others plain rest = and-both (is_plain field) (are_plain others) (plain refl) rest
by_mark false field others plain rest = rest

marked_plain : (texts : List (List ℕ)) → are_plain (marked texts).1 ≡ true → are_plain texts ≡ true
marked_plain [] rest = refl
marked_plain (field ∷ others) rest =
    by_mark (bytes_eq field (codes "x86")) field others (same_plain field (codes "x86") refl) rest

next_plain : (kind : Kind) (texts : List (List ℕ)) (got : ValueOf kind × List (List ℕ)) → next kind texts ≡ Some got
    → are_plain got.1 ≡ true → are_plain texts ≡ true
unfolding next
next_plain (Decimal bits) texts got e rest =
    first_plain (decimal bits) texts got (λ text. number_plain 10 bits text (omega arith)) e rest
next_plain (Hex bits) texts got e rest = first_plain (hexadecimal bits) texts got (hexadecimal_plain bits) e rest
next_plain Length texts got e rest =
    first_plain (λ text. kept_if (is_between 1 64) (decimal 64 text)) texts got
    (λ text some. number_plain 10 64 text (omega arith) (where_tested (is_between 1 64) (decimal 64 text) some)) e
    rest
next_plain Source texts got e rest =
    first_plain (λ text. cond (eqb (length text) 4) (hexadecimal 16 text) None) texts got
    (λ text some. let kept = where_kept (eqb (length text) 4) (hexadecimal 16 text) some in
    hexadecimal_plain 16 text kept.1) e rest
next_plain AddressWidth texts got e rest = first_plain width_of texts got width_plain e rest
next_plain Bytes texts got e rest = first_plain bytes_of texts got bytes_plain e rest
next_plain Access texts got e rest =
    first_plain (λ text. kept_if (λ bytes. is_between 1 64 (length bytes)) (bytes_of text)) texts got
    (λ text some. bytes_plain text (where_tested (λ bytes. is_between 1 64 (length bytes)) (bytes_of text) some)) e rest
next_plain Purpose texts got e rest = first_plain purpose_of texts got purpose_plain e rest
next_plain Mark texts got e rest = marked_plain texts (ap are_plain (ap behind e) ∙ rest)
next_plain Spans texts got e rest =
    let kept = where_kept (are_spans texts) (Some (spans_in texts, [])) (ap is_some e) in weaken
    (λ text. is_some (span_of text)) is_plain span_plain texts kept.0

read_next : (A : Type 0) (kind : Kind) (kinds : List Kind) (made : ValueOf kind
    → Makes kinds A) (texts : List (List ℕ)) (o : Option (ValueOf kind × List (List ℕ)))
    → ((makes : Makes kinds A) (others : List (List ℕ)) → is_some (read kinds makes others) ≡ true
    → are_plain others ≡ true)
    → next kind texts ≡ o → is_some (option_and_then (λ x. read kinds (made x.0) x.1) o) ≡ true → are_plain texts ≡ true
read_next A kind kinds made texts None others is e = absurd cc
read_next A kind kinds made texts (Some got) others is e = next_plain kind texts got is (others (made got.0) got.1 e)

no_field : (texts : List (List ℕ)) → eqb (length texts) 0 ≡ true → are_plain texts ≡ true
no_field [] e = refl
no_field (text ∷ texts) e = let none = eqb-true (length (text ∷ texts)) 0 e in absurd (omega (arith, none))

read_plain : (A : Type 0) (kinds : List Kind) (made : Makes kinds A) (texts : List (List ℕ))
    → is_some (read kinds made texts) ≡ true → are_plain texts ≡ true
read_plain A [] made texts e = let none = where_kept (eqb (length texts) 0) (Some made) e in no_field texts none.0
read_plain A (kind ∷ kinds) made texts e =
    read_next A kind kinds made texts (next kind texts) (read_plain A kinds) refl e

-- ---- words

named_plain : {A : Type 0} (word : List ℕ) (names : List (A × List ℕ)) → list_all (λ name. is_plain name.1) names ≡ true
    → is_some (first_true (map (λ name. (name.0, bytes_eq word name.1)) names)) ≡ true → is_plain word ≡ true
named_plain word [] plain e = absurd cc
named_plain word (name ∷ names) plain e =
    let both = and-parts (is_plain name.1) (list_all (λ other. is_plain other.1) names) plain in
    where_either (bytes_eq word name.1) name.0 (first_true (map (λ other. (other.0, bytes_eq word other.1)) names))
    (same_plain word name.1 both.0) (named_plain word names both.1) e

head_names : List (HeadKeyword × List ℕ)
head_names =
    (head.Pool, codes "pool") ∷ (head.User, codes "user") ∷ (head.File, codes "file") ∷ (head.Device, codes "device")
    ∷ (head.Begin, codes "begin") ∷ []

step_names : List (StepKeyword × List ℕ)
step_names =
    (step.Ioctl, codes "ioctl") ∷ (step.Close, codes "close") ∷ (step.UserMap, codes "umap")
    ∷ (step.UserUnmap, codes "uunmap") ∷ (step.UserRead, codes "uread")
    ∷ (step.UserWrite, codes "uwrite") ∷ (step.Bind, codes "bind") ∷ (step.Unbind, codes "unbind")
    ∷ (step.Attach, codes "attach") ∷ (step.Detach, codes "detach") ∷ (step.Flush, codes "flush")
    ∷ (step.DeviceRead, codes "dread") ∷ (step.DeviceWrite, codes "dwrite") ∷ (step.AccessCreate, codes "access")
    ∷ (step.AccessAttach, codes "aattach") ∷ (step.AccessDetach, codes "adetach") ∷ (step.AccessPin, codes "apin")
    ∷ (step.AccessUnpin, codes "aunpin") ∷ (step.AccessRead, codes "aread") ∷ (step.AccessWrite, codes "awrite")
    ∷ (step.Notices, codes "notices") ∷ (step.FreeFrames, codes "free") ∷ (step.Held, codes "held") ∷ []

head_plain : (word : List ℕ) → is_some (head_keyword word) ≡ true → is_plain word ≡ true
unfolding head_names
head_plain word e = named_plain word head_names refl e

step_plain : (word : List ℕ) → is_some (step_keyword word) ≡ true → is_plain word ≡ true
unfolding step_names
step_plain word e = named_plain word step_names refl e

by_step : (word : List ℕ) (texts : List (List ℕ)) (o : Option StepKeyword) → step_keyword word ≡ o
    → is_some (step_line o texts) ≡ true → are_plain (word ∷ texts) ≡ true
unfolding step_at
by_step word texts None is e = absurd cc
by_step word texts (Some keyword) is e =
    and-both (is_plain word) (are_plain texts) (step_plain word (ap is_some is))
    (read_plain Step (step_row keyword).kinds (step_row keyword).makes texts
    (where_mapped (λ step. line.Step step) (step_at keyword texts) e))

by_head : (word : List ℕ) (texts : List (List ℕ)) (o : Option HeadKeyword) → head_keyword word ≡ o
    → is_some (head_or_step word o texts) ≡ true → are_plain (word ∷ texts) ≡ true
unfolding head_of
by_head word texts None is e = by_step word texts (step_keyword word) refl e
by_head word texts (Some keyword) is e =
    and-both (is_plain word) (are_plain texts) (head_plain word (ap is_some is))
    (read_plain HeadLine (head_row keyword).kinds (head_row keyword).makes texts
    (where_mapped (λ heading. line.Head heading) (head_of keyword texts) e))

worded_plain : (texts : List (List ℕ)) → is_some (worded texts) ≡ true → are_plain texts ≡ true
worded_plain [] e = refl
worded_plain (word ∷ texts) e = by_head word texts (head_keyword word) refl e

-- ---- lines

when_plain : (plain skipped : Bool) (said : Option Line) → (is_some said ≡ true → plain ≡ true) → skipped ≡ false
    → said ≡ cond (not plain) None (cond skipped (Some line.Skipped) said)
when_plain true true said h bare = absurd cc
when_plain true false said h bare = refl
when_plain false skipped None h bare = refl
when_plain false skipped (Some x) h bare = let plain = h refl in absurd cc

-- a line that isn't skipped needs no test for ASCII beside its words
pub line_is_worded : (text : List ℕ) → is_skipped text ≡ false → worded (fields text) ≡ line_of text
unfolding line_of
line_is_worded text bare =
    when_plain (is_plain text) (is_skipped text) (worded (fields text))
    (λ some. parted_plain 32 text refl (worded_plain (fields text) some)) bare
