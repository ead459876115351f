-- Bytes of many digits at once, as the lanes of vectors.
use Rattle.std.proofs.Common.{◌≡◌, ℕ, zero, suc, ◌+◌, ◌-◌, ◌*◌, ◌%◌, ◌≤◌, ◌<◌, Bool, true, cond, nat_lt, get_or}
use Rattle.std.proofs.Common.{List, [], ◌∷◌, ◌++◌, map, replicate, length, take, drop, refl, sym, ap, ◌∙◌, arith}
use Rattle.std.proofs.Math.Seq.{take-add}
use Rattle.std.proofs.lemmas.Bool.Decides.{nat_tests}
use Rattle.std.proofs.lemmas.List.{append_assoc, drop-drop, drop-replicate, drop_at, get_or-drop, length-append}
use Rattle.std.proofs.lemmas.List.{length-drop, length-replicate, map-append, replicate-append-replicate, same_lists}
use Rattle.std.proofs.lemmas.List.{take_all, take_at, take-take}
use Rattle.std.proofs.lemmas.List.Folds.{list_all-append}
use Rattle.std.proofs.lemmas.Simd.{get_or-put_chunk_above, length-chunk, length-put_chunk, put_chunk_is}
use Rattle.std.proofs.lemmas.Simd.{take_more_put_chunk}
use Rattle.std.specs.Char.{digit_value}
use Rattle.std.specs.List.{list_all}
use Rattle.std.specs.Simd.Lanes.{zip2, sel_l, top, chunk, put_chunk}
use Rattle.iommufd_script.specs.Digits.{pairs, is_lower_digit}
use Rattle.iommufd_script.proofs.Bools.{and-both, and-parts}
use Rattle.iommufd_script.proofs.Pairs.{small, length_pairs}

-- ---- what a digit stands for, as the lesser of two differences

-- a byte less another, wrapped round
abbrev less : ℕ → ℕ → ℕ
less c n = (c + (256 - n)) % 256

abbrev least : ℕ → ℕ → ℕ
least m n = cond (top 7 (cond (nat_lt m n) 255 0)) m n

abbrev pub leasts : List ℕ → List ℕ → List ℕ
leasts ms ns = sel_l (map (top 7) (zip2 (λ m n. cond (nat_lt m n) 255 0) ms ns)) ms ns

value : (c : ℕ) → is_lower_digit c ≡ true → least (less c 48) (less c 87) ≡ digit_value c
value c lower = grind (arith, nat_tests)

both : (p : ℕ → Bool) (x : ℕ) (xs : List ℕ) → list_all p (x ∷ xs) ≡ true → (p x ≡ true) × (list_all p xs ≡ true)
both p x xs all = and-parts (p x) (list_all p xs) all

pub values : (n : ℕ) (text : List ℕ) → length text ≡ n → list_all is_lower_digit text ≡ true
    → leasts (zip2 less text (replicate n 48)) (zip2 less text (replicate n 87)) ≡ map digit_value text
values zero [] long lower = refl
values (suc n) [] long lower = absurd (omega arith)
values zero (c ∷ text) long lower = absurd (omega arith)
values (suc n) (c ∷ text) long lower =
    let parts = both is_lower_digit c text lower in
    λ i. value c parts.0 i ∷ values n text (omega arith) parts.1 i

-- ---- the bytes of values that lie side by side

abbrev byte : ℕ → ℕ → ℕ
byte high low = (high * 16 % 256 + low) % 256

-- the bytes of n pairs of values, from this place on
abbrev pub bytes_from : ℕ → ℕ → List ℕ → List ℕ
bytes_from a zero vs = []
bytes_from a (suc n) vs = byte (get_or vs a 0) (get_or vs (suc a) 0) ∷ bytes_from (suc (suc a)) n vs

further : (a n x y : ℕ) (vs : List ℕ) → bytes_from (suc (suc a)) n (x ∷ y ∷ vs) ≡ bytes_from a n vs
further a zero x y vs = refl
further a (suc n) x y vs =
    ap (λ (l : List ℕ). byte (get_or vs a 0) (get_or vs (suc a) 0) ∷ l) (further (suc (suc a)) n x y vs)

byte_is : (high low : ℕ) → high < 16 → low < 16 → byte high low ≡ 16 * high + low
byte_is high low h l = omega arith

bytes_are : (n : ℕ) (text : List ℕ) → length text ≡ 2 * n → list_all is_lower_digit text ≡ true
    → bytes_from 0 n (map digit_value text) ≡ pairs text
bytes_are zero [] long lower = refl
bytes_are (suc n) [] long lower = absurd (omega arith)
bytes_are zero (high ∷ text) long lower = absurd (omega arith)
bytes_are (suc n) (high ∷ []) long lower = absurd (omega arith)
bytes_are (suc n) (high ∷ low ∷ text) long lower =
    let first = both is_lower_digit high (low ∷ text) lower in
    let second = both is_lower_digit low text first.1 in
    let here = byte_is (digit_value high) (digit_value low) (small high first.0) (small low second.0) in
    let others = further 0 n (digit_value high) (digit_value low) (map digit_value text)
    ∙ bytes_are n text (omega arith) second.1 in
    λ i. here i ∷ others i

-- ---- a part of lower-case digits

taken_lower : (n : ℕ) (text : List ℕ) → list_all is_lower_digit text ≡ true
    → list_all is_lower_digit (take n text) ≡ true
taken_lower zero text lower = refl
taken_lower (suc n) [] lower = refl
taken_lower (suc n) (c ∷ text) lower =
    let parts = both is_lower_digit c text lower in
    and-both (is_lower_digit c) (list_all is_lower_digit (take n text)) parts.0 (taken_lower n text parts.1)

dropped_lower : (n : ℕ) (text : List ℕ) → list_all is_lower_digit text ≡ true
    → list_all is_lower_digit (drop n text) ≡ true
dropped_lower zero text lower = lower
dropped_lower (suc n) [] lower = refl
dropped_lower (suc n) (c ∷ text) lower = dropped_lower n text (both is_lower_digit c text lower).1

pub chunk_lower : (i n : ℕ) (text : List ℕ) → list_all is_lower_digit text ≡ true
    → list_all is_lower_digit (chunk i n text) ≡ true
chunk_lower i n text lower = taken_lower n (drop i text) (dropped_lower i text lower)

-- ---- a stride

pub sixteen : (text : List ℕ) (i : ℕ) → i + 32 ≤ length text → list_all is_lower_digit text ≡ true
    → bytes_from 0 16 (map digit_value (chunk i 16 text) ++ map digit_value (chunk (i + 16) 16 text))
    ≡ pairs (chunk i 32 text)
sixteen text i within lower =
    let whole : chunk i 32 text ≡ chunk i 16 text ++ chunk (i + 16) 16 text =
    take-add 16 16 (drop i text) ∙ ap (λ (l : List ℕ). chunk i 16 text ++ take 16 l) (drop-drop 16 i text) in
    let joined = ap (map digit_value) whole ∙ map-append digit_value (chunk i 16 text) (chunk (i + 16) 16 text) in
    ap (bytes_from 0 16) (sym joined)
    ∙ bytes_are 16 (chunk i 32 text) (length-chunk i 32 text within) (chunk_lower i 32 text lower)

-- ---- strides one behind the other

twice : (n : ℕ) → 2 * suc n ≡ suc (suc (2 * n))
twice n = omega arith

dropped_pairs : (n : ℕ) (text : List ℕ) → drop n (pairs text) ≡ pairs (drop (2 * n) text)
dropped_pairs zero text = refl
dropped_pairs (suc n) [] = sym (ap (λ (k : ℕ). pairs (drop k [])) (twice n))
dropped_pairs (suc n) (high ∷ []) = sym (ap (λ (k : ℕ). pairs (drop k (high ∷ []))) (twice n))
dropped_pairs (suc n) (high ∷ low ∷ text) =
    dropped_pairs n text ∙ sym (ap (λ (k : ℕ). pairs (drop k (high ∷ low ∷ text))) (twice n))

taken_pairs : (n : ℕ) (text : List ℕ) → take n (pairs text) ≡ pairs (take (2 * n) text)
taken_pairs zero text = refl
taken_pairs (suc n) [] = sym (ap (λ (k : ℕ). pairs (take k [])) (twice n))
taken_pairs (suc n) (high ∷ []) = sym (ap (λ (k : ℕ). pairs (take k (high ∷ []))) (twice n))
taken_pairs (suc n) (high ∷ low ∷ text) =
    ap (λ (l : List ℕ). (16 * digit_value high + digit_value low) ∷ l) (taken_pairs n text)
    ∙ sym (ap (λ (k : ℕ). pairs (take k (high ∷ low ∷ text))) (twice n))

-- the bytes of a stride, as those of the whole
stride_is : (done : ℕ) (text : List ℕ) → pairs (chunk (2 * done) 32 text) ≡ chunk done 16 (pairs text)
stride_is done text = sym (ap (take 16) (dropped_pairs done text) ∙ taken_pairs 16 (drop (2 * done) text))

pub digits_within : (i : ℕ) (text bytes : List ℕ) → pairs text ≡ bytes → i + 16 ≤ length bytes
    → 2 * i + 32 ≤ length text
digits_within i text bytes all within =
    let half = length_pairs text in let same = ap (λ (l : List ℕ). length l) all in omega (arith, half, same)

-- a buffer that begins with as many of the bytes, or more, and the next sixteen written behind those
pub next_stride : (i done : ℕ) (text bytes buffer stride : List ℕ) → pairs text ≡ bytes
    → stride ≡ pairs (chunk (2 * i) 32 text) → take done buffer ≡ take done bytes → i ≤ done
    → i + 16 ≤ length bytes → length bytes ≤ length buffer
    → take (i + 16) (put_chunk i buffer stride) ≡ take (i + 16) bytes
next_stride i done text bytes buffer stride all made so_far before within room =
    let next : stride ≡ chunk i 16 bytes = made ∙ stride_is i text ∙ ap (chunk i 16) all in
    let long = ap (λ (l : List ℕ). length l) next ∙ length-chunk i 16 bytes within in
    let front : take i buffer ≡ take i bytes =
    sym (take-take i done buffer before) ∙ ap (take i) so_far ∙ take-take i done bytes before in
    take_more_put_chunk i buffer stride (i + 16) (omega (arith, long)) (omega arith)
    ∙ (λ k. front k ++ next k) ∙ sym (take-add i 16 bytes)

-- the same at the end
pub last_stride : (i done : ℕ) (text bytes buffer stride : List ℕ) → pairs text ≡ bytes
    → stride ≡ pairs (chunk (2 * i) 32 text) → take done buffer ≡ take done bytes → i ≤ done
    → i + 16 ≡ length bytes → length bytes ≤ length buffer
    → take (length bytes) (put_chunk i buffer stride) ≡ bytes
last_stride i done text bytes buffer stride all made so_far before end room =
    ap (λ (n : ℕ). take n (put_chunk i buffer stride)) (sym end)
    ∙ next_stride i done text bytes buffer stride all made so_far before (omega (arith, end)) room
    ∙ take_all (i + 16) bytes (omega (arith, end))

-- a stride changes nothing behind the bytes
pub behind_stride : (i : ℕ) (text bytes buffer stride : List ℕ) → pairs text ≡ bytes
    → stride ≡ pairs (chunk (2 * i) 32 text) → i + 16 ≤ length bytes
    → drop (length bytes) (put_chunk i buffer stride) ≡ drop (length bytes) buffer
behind_stride i text bytes buffer stride all made within =
    let next = made ∙ stride_is i text ∙ ap (chunk i 16) all in
    let long = ap (λ (l : List ℕ). length l) next ∙ length-chunk i 16 bytes within in
    let n = length bytes in
    same_lists (drop n (put_chunk i buffer stride)) (drop n buffer) (simp (length-drop, length-put_chunk) refl)
    (λ k d h. simp get_or-drop (get_or-put_chunk_above i buffer stride (n + k) d (omega (arith, long, within))))

-- ---- fewer bytes than a stride has

pub few_digits : (text bytes : List ℕ) → pairs text ≡ bytes → length bytes < 16 → length text ≤ 32
few_digits text bytes all few =
    let half = length_pairs text in let same = ap (λ (l : List ℕ). length l) all in omega (arith, half, same)

-- the bytes of digits that are joined
joined_pairs : (front behind : List ℕ) → length front % 2 ≡ 0 → pairs (front ++ behind) ≡ pairs front ++ pairs behind
joined_pairs [] behind even = refl
joined_pairs (high ∷ []) behind even = absurd (omega (arith, even))
joined_pairs (high ∷ low ∷ front) behind even =
    ap (λ (l : List ℕ). (16 * digit_value high + digit_value low) ∷ l)
    (joined_pairs front behind (omega (arith, even)))

zero_pairs : (n : ℕ) → pairs (replicate (2 * n) 48) ≡ replicate n 0
zero_pairs zero = refl
zero_pairs (suc n) =
    ap (λ (k : ℕ). pairs (replicate k 48)) (twice n) ∙ ap (λ (l : List ℕ). 0 ∷ l) (zero_pairs n)

-- digits with zeros behind them
abbrev pub padded : ℕ → List ℕ → List ℕ
padded n text = text ++ drop n (replicate 32 48)

pub padded_lower : (text front : List ℕ) (n : ℕ) → front ≡ text → list_all is_lower_digit text ≡ true
    → list_all is_lower_digit (padded n front) ≡ true
padded_lower text front n same lower =
    list_all-append is_lower_digit front (drop n (replicate 32 48))
    ∙ and-both (list_all is_lower_digit front) (list_all is_lower_digit (drop n (replicate 32 48)))
    (ap (list_all is_lower_digit) same ∙ lower) (dropped_lower n (replicate 32 48) refl)

padded_long : (text : List ℕ) → length text ≤ 32 → length (padded (length text) text) ≡ 32
padded_long text few =
    let behind = length-drop {A = ℕ} (length text) (replicate 32 48) in
    omega (arith, length-append text (drop (length text) (replicate 32 48)), behind)

-- a stride of them is the bytes, and zeros behind them
pub few_stride : (text front bytes stride : List ℕ) → pairs text ≡ bytes → front ≡ text
    → stride ≡ pairs (chunk 0 32 (padded (length text) front)) → length text % 2 ≡ 0 → length bytes < 16
    → stride ≡ bytes ++ replicate (16 - length bytes) 0
few_stride text front bytes stride all same made even few =
    let few_text = few_digits text bytes all few in
    let long = padded_long text few_text in
    let missing : 32 - length text ≡ 2 * (16 - length bytes) =
    omega (arith, even, length_pairs text, ap (λ (l : List ℕ). length l) all) in
    made ∙ ap (λ (l : List ℕ). pairs (chunk 0 32 (padded (length text) l))) same
    ∙ ap pairs (take_all 32 (padded (length text) text) (omega (arith, long)))
    ∙ joined_pairs text (drop (length text) (replicate 32 48)) even
    ∙ (λ i. all i ++ pairs (drop-replicate (length text) 32 48 i))
    ∙ ap (λ (n : ℕ). bytes ++ pairs (replicate n 48)) missing
    ∙ ap (λ (l : List ℕ). bytes ++ l) (zero_pairs (16 - length bytes))

-- a buffer that begins with a stride of them
few_put : (bytes buffer stride : List ℕ) → stride ≡ bytes ++ replicate (16 - length bytes) 0 → length bytes < 16
    → 16 ≤ length buffer
    → put_chunk 0 buffer stride ≡ bytes ++ (replicate (16 - length bytes) 0 ++ drop 16 buffer)
few_put bytes buffer stride made few room =
    let behind : List ℕ = replicate (16 - length bytes) 0 in
    let long : length stride ≡ 16 =
    ap (λ (l : List ℕ). length l) made
    ∙ omega (arith, length-append bytes behind, length-replicate {A = ℕ} (16 - length bytes) 0) in
    put_chunk_is 0 buffer stride (omega (arith, long, room))
    ∙ (λ i. made i ++ drop (long i) buffer) ∙ append_assoc bytes behind (drop 16 buffer)

pub few_written : (bytes buffer stride : List ℕ) → stride ≡ bytes ++ replicate (16 - length bytes) 0
    → length bytes < 16 → 16 ≤ length buffer → take (length bytes) (put_chunk 0 buffer stride) ≡ bytes
few_written bytes buffer stride made few room =
    ap (take (length bytes)) (few_put bytes buffer stride made few room)
    ∙ take_at bytes (replicate (16 - length bytes) 0 ++ drop 16 buffer) (length bytes) refl

pub few_zeros : (bytes buffer stride : List ℕ) → stride ≡ bytes ++ replicate (16 - length bytes) 0
    → length bytes < 16 → buffer ≡ replicate 64 0
    → drop (length bytes) (put_chunk 0 buffer stride) ≡ replicate (64 - length bytes) 0
few_zeros bytes buffer stride made few clear =
    let zeros : List ℕ = replicate (16 - length bytes) 0 in
    let room : 16 ≤ length buffer = omega (arith, ap (λ (l : List ℕ). length l) clear) in
    let sum : 16 - length bytes + 48 ≡ 64 - length bytes = omega (arith, few) in
    ap (drop (length bytes)) (few_put bytes buffer stride made few room)
    ∙ drop_at bytes (zeros ++ drop 16 buffer) (length bytes) refl
    ∙ ap (λ (l : List ℕ). zeros ++ drop 16 l) clear
    ∙ replicate-append-replicate (16 - length bytes) 48 0 ∙ ap (λ (n : ℕ). replicate n 0) sum
