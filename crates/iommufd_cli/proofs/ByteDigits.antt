-- The hex digits of bytes: of many at once, as the lanes of vectors, and of one alone.
use Rattle.std.proofs.Common.{◌≡◌, ℕ, zero, suc, ◌+◌, ◌*◌, ◌/◌, ◌%◌, ◌^◌, ◌≤◌, ◌<◌, cond, nat_lt, bit_and, get_or}
use Rattle.std.proofs.Common.{List, [], ◌∷◌, ◌++◌, map, replicate, length, slice_index, take, drop, refl, sym, ap}
use Rattle.std.proofs.Common.{◌∙◌, arith}
use Rattle.std.proofs.Math.Seq.{take-add}
use Rattle.std.proofs.lemmas.List.{get_or-append-add, get_or-map, get_or_append_left, length-map, take_all, take-take}
use Rattle.std.proofs.lemmas.List.FromFn.{get_or-map-range_with_len, get_or-range_with_len, length-range_with_len}
use Rattle.std.proofs.lemmas.Nat.{and_mask}
use Rattle.std.proofs.lemmas.Simd.{length-chunk, length-put_chunk, take_more_put_chunk}
use Rattle.std.specs.List.{range_with_len}
use Rattle.std.specs.Simd.Lanes.{Each1, zip2, sel_l, top, chunk, put_chunk}
use Rattle.hex.proofs.HexLemmas.{length-encode_with}
use Rattle.hex.specs.Hex.{encode_lower, encode_with, lower_digits}

-- ---- the digit of a value, as a sum

abbrev further : ℕ → ℕ
further v = cond (top 7 (cond (nat_lt 9 v) 255 0)) 39 0

abbrev sum : ℕ → ℕ
sum v = ((v + 48) % 256 + further v) % 256

digit : (v : ℕ) → v < 16 → sum v ≡ slice_index lower_digits v
digit v small = sym (get_or-map-range_with_len sum 0 16 v v 0 small (omega arith))

abbrev pub sums : ℕ → List ℕ → List ℕ
sums n vs =
    zip2 (λ a b. (a + b) % 256) (zip2 (λ a b. (a + b) % 256) vs (replicate n 48))
    (sel_l (map (top 7) (zip2 (λ a b. cond (nat_lt a b) 255 0) (replicate n 9) vs)) (replicate n 39) (replicate n 0))

pub digits : (n : ℕ) (vs : List ℕ) → length vs ≡ n → Each1 (λ v. v < 16) vs
    → sums n vs ≡ map (slice_index lower_digits) vs
digits zero [] long small = refl
digits (suc n) [] long small = absurd (omega arith)
digits zero (v ∷ vs) long small = absurd (omega arith)
digits (suc n) (v ∷ vs) long small = λ i. digit v small.0 i ∷ digits n vs (omega arith) small.1 i

-- ---- the two halves of bytes

pub highs : (n : ℕ) (bytes : List ℕ) → length bytes ≡ n
    → zip2 (λ a b. a / 2 ^ b) bytes (replicate n 4) ≡ map (λ b. b / 16) bytes
highs zero [] long = refl
highs (suc n) [] long = absurd (omega arith)
highs zero (b ∷ bytes) long = absurd (omega arith)
highs (suc n) (b ∷ bytes) long = λ i. (b / 16) ∷ highs n bytes (omega arith) i

pub lows : (n : ℕ) (bytes : List ℕ) → length bytes ≡ n
    → zip2 bit_and bytes (replicate n 15) ≡ map (λ b. b % 16) bytes
lows zero [] long = refl
lows (suc n) [] long = absurd (omega arith)
lows zero (b ∷ bytes) long = absurd (omega arith)
lows (suc n) (b ∷ bytes) long = λ i. and_mask b 4 i ∷ lows n bytes (omega arith) i

pub highs_small : (bytes : List ℕ) → Each1 (λ b. b < 256) bytes → Each1 (λ v. v < 16) (map (λ b. b / 16) bytes)
highs_small [] fit = tt
highs_small (b ∷ bytes) fit = let small = fit.0 in (omega arith, highs_small bytes fit.1)

pub lows_small : (bytes : List ℕ) → Each1 (λ v. v < 16) (map (λ b. b % 16) bytes)
lows_small [] = tt
lows_small (b ∷ bytes) = (omega arith, lows_small bytes)

-- ---- both in turn

-- n pairs from a place on, whose second lies m behind the first
abbrev pub woven : ℕ → ℕ → ℕ → List ℕ → List ℕ
woven a zero m xs = []
woven a (suc n) m xs = get_or xs a 0 ∷ get_or xs (m + a) 0 ∷ woven (suc a) n m xs

woven_is : (a n m : ℕ) (t bytes xs : List ℕ) → length bytes ≡ n
    → ((k : ℕ) → k < n → get_or xs (a + k) 0 ≡ slice_index t (get_or bytes k 0 / 16))
    → ((k : ℕ) → k < n → get_or xs (m + a + k) 0 ≡ slice_index t (get_or bytes k 0 % 16))
    → woven a n m xs ≡ encode_with t bytes
unfolding encode_with
woven_is a zero m t [] xs long first second = refl
woven_is a (suc n) m t [] xs long first second = absurd (omega arith)
woven_is a zero m t (b ∷ bytes) xs long first second = absurd (omega arith)
woven_is a (suc n) m t (b ∷ bytes) xs long first second =
    let high : get_or xs a 0 ≡ slice_index t (b / 16) =
    ap (λ (k : ℕ). get_or xs k 0) (omega arith) ∙ first 0 (omega arith) in
    let low : get_or xs (m + a) 0 ≡ slice_index t (b % 16) =
    ap (λ (k : ℕ). get_or xs k 0) (omega arith) ∙ second 0 (omega arith) in
    let others : woven (suc a) n m xs ≡ encode_with t bytes =
    woven_is (suc a) n m t bytes xs (omega arith)
    (λ k within. ap (λ (j : ℕ). get_or xs j 0) (omega arith) ∙ first (suc k) (omega arith))
    (λ k within. ap (λ (j : ℕ). get_or xs j 0) (omega arith) ∙ second (suc k) (omega arith)) in
    λ i. high i ∷ low i ∷ others i

mapped : (f g : ℕ → ℕ) (bytes xs : List ℕ) (k : ℕ) → xs ≡ map f (map g bytes) → k < length bytes
    → get_or xs k 0 ≡ f (g (get_or bytes k 0))
mapped f g bytes xs k e within =
    ap (λ (l : List ℕ). get_or l k 0) e
    ∙ get_or-map f (map g bytes) k 0 0 (omega (arith, length-map bytes g, within))
    ∙ ap f (get_or-map g bytes k 0 0 within)

pub in_turn : (n : ℕ) (bytes high low : List ℕ) → length bytes ≡ n
    → high ≡ map (slice_index lower_digits) (map (λ b. b / 16) bytes)
    → low ≡ map (slice_index lower_digits) (map (λ b. b % 16) bytes)
    → woven 0 n n (high ++ low) ≡ encode_lower bytes
in_turn n bytes high low long e f =
    let digit_at = slice_index lower_digits in
    let halves = map (λ b. b / 16) bytes in
    let wide : length high ≡ n =
    ap (λ (l : List ℕ). length l) e ∙ length-map halves digit_at ∙ length-map bytes (λ b. b / 16) ∙ long in
    woven_is 0 n n lower_digits bytes (high ++ low) long
    (λ k within. ap (λ (j : ℕ). get_or (high ++ low) j 0) (omega arith)
    ∙ get_or_append_left high low 0 k (omega (arith, wide, within))
    ∙ mapped digit_at (λ b. b / 16) bytes high k e (omega (arith, long, within)))
    (λ k within. ap (λ (j : ℕ). get_or (high ++ low) j 0) (omega (arith, wide))
    ∙ get_or-append-add high low k 0
    ∙ mapped digit_at (λ b. b % 16) bytes low k f (omega (arith, long, within)))

-- ---- a stride

-- what is written behind a part, as one part
pub put_behind : (i m : ℕ) (xs ys zs : List ℕ) → m ≡ i + length ys
    → put_chunk m (put_chunk i xs ys) zs ≡ put_chunk i xs (ys ++ zs)
put_behind i m [] ys zs e = refl
put_behind zero zero (x ∷ xs) [] zs e = refl
put_behind zero (suc m) (x ∷ xs) [] zs e = absurd (omega arith)
put_behind zero zero (x ∷ xs) (y ∷ ys) zs e = absurd (omega arith)
put_behind zero (suc m) (x ∷ xs) (y ∷ ys) zs e = ap (λ (l : List ℕ). y ∷ l) (put_behind zero m xs ys zs (omega arith))
put_behind (suc i) zero (x ∷ xs) ys zs e = absurd (omega arith)
put_behind (suc i) (suc m) (x ∷ xs) ys zs e = ap (λ (l : List ℕ). x ∷ l) (put_behind i m xs ys zs (omega arith))

-- ---- strides one behind the other

twice : (n : ℕ) → 2 * suc n ≡ suc (suc (2 * n))
twice n = omega arith

dropped : (n : ℕ) (t bytes : List ℕ) → drop (2 * n) (encode_with t bytes) ≡ encode_with t (drop n bytes)
unfolding encode_with
dropped zero t bytes = refl
dropped (suc n) t [] = ap (λ (k : ℕ). drop k (encode_with t [])) (twice n)
dropped (suc n) t (b ∷ bytes) =
    ap (λ (k : ℕ). drop k (encode_with t (b ∷ bytes))) (twice n) ∙ dropped n t bytes

taken : (n : ℕ) (t bytes : List ℕ) → take (2 * n) (encode_with t bytes) ≡ encode_with t (take n bytes)
unfolding encode_with
taken zero t bytes = refl
taken (suc n) t [] = ap (λ (k : ℕ). take k (encode_with t [])) (twice n)
taken (suc n) t (b ∷ bytes) =
    ap (λ (k : ℕ). take k (encode_with t (b ∷ bytes))) (twice n)
    ∙ ap (λ (l : List ℕ). slice_index t (b / 16) ∷ slice_index t (b % 16) ∷ l) (taken n t bytes)

-- the digits of a stride, as those of the whole
stride_is : (i : ℕ) (t bytes : List ℕ) → encode_with t (chunk i 16 bytes) ≡ chunk (2 * i) 32 (encode_with t bytes)
stride_is i t bytes = sym (ap (take 32) (dropped i t bytes) ∙ taken 16 t (drop i bytes))

-- a buffer that begins with the digits of as many bytes, or more, and those of the next sixteen written behind those
pub next_stride : (i done : ℕ) (bytes buffer : List ℕ)
    → take (2 * done) buffer ≡ take (2 * done) (encode_lower bytes) → i ≤ done → i + 16 ≤ length bytes
    → length buffer ≡ 2 * length bytes
    → take (2 * (i + 16)) (put_chunk (2 * i) buffer (encode_lower (chunk i 16 bytes)))
    ≡ take (2 * (i + 16)) (encode_lower bytes)
next_stride i done bytes buffer so_far before within room =
    let all = encode_lower bytes in
    let next : encode_lower (chunk i 16 bytes) ≡ chunk (2 * i) 32 all = stride_is i lower_digits bytes in
    let front : take (2 * i) buffer ≡ take (2 * i) all =
    sym (take-take (2 * i) (2 * done) buffer (omega arith)) ∙ ap (take (2 * i)) so_far
    ∙ take-take (2 * i) (2 * done) all (omega arith) in
    let long = length-encode_with lower_digits (chunk i 16 bytes) in
    let sixteen = length-chunk i 16 bytes within in
    take_more_put_chunk (2 * i) buffer (encode_lower (chunk i 16 bytes)) (2 * (i + 16))
    (omega (arith, long, sixteen)) (omega arith)
    ∙ (λ k. front k ++ next k) ∙ sym (take-add (2 * i) 32 all) ∙ ap (λ (n : ℕ). take n all) (omega arith)

-- the same at the end
pub last_stride : (i done : ℕ) (bytes buffer : List ℕ)
    → take (2 * done) buffer ≡ take (2 * done) (encode_lower bytes) → i ≤ done → i + 16 ≡ length bytes
    → length buffer ≡ 2 * length bytes
    → put_chunk (2 * i) buffer (encode_lower (chunk i 16 bytes)) ≡ encode_lower bytes
last_stride i done bytes buffer so_far before end room =
    let stride = encode_lower (chunk i 16 bytes) in
    let same = length-put_chunk (2 * i) buffer stride in
    let long = length-encode_with lower_digits bytes in
    sym (take_all (2 * (i + 16)) (put_chunk (2 * i) buffer stride) (omega (arith, same)))
    ∙ next_stride i done bytes buffer so_far before (omega (arith, end)) room
    ∙ take_all (2 * (i + 16)) (encode_lower bytes) (omega (arith, long, end))

-- ---- a byte alone

pair_of : (t bytes : List ℕ) (i : ℕ) → i < length bytes
    → (slice_index (encode_with t bytes) (2 * i) ≡ slice_index t (slice_index bytes i / 16))
    × (slice_index (encode_with t bytes) (2 * i + 1) ≡ slice_index t (slice_index bytes i % 16))
unfolding encode_with
pair_of t [] i within = absurd (omega arith)
pair_of t (b ∷ bytes) zero within = (refl, refl)
pair_of t (b ∷ bytes) (suc i) within =
    let others = pair_of t bytes i (omega arith) in
    let behind : 2 * suc i + 1 ≡ suc (suc (2 * i + 1)) = omega arith in (
      ap (λ (k : ℕ). slice_index (encode_with t (b ∷ bytes)) k) (twice i) ∙ others.0,
      ap (λ (k : ℕ). slice_index (encode_with t (b ∷ bytes)) k) behind ∙ others.1,
    )

-- the digits of each byte
abbrev pub pairs : List ℕ
pairs = encode_lower (range_with_len 0 256)

pub pair : (b : ℕ) → b < 256
    → (slice_index pairs (2 * b) ≡ slice_index lower_digits (b / 16))
    × (slice_index pairs (2 * b + 1) ≡ slice_index lower_digits (b % 16))
pair b small =
    let same : slice_index (range_with_len 0 256) b ≡ b = get_or-range_with_len 0 256 b 0 small ∙ omega arith in
    let both = pair_of lower_digits (range_with_len 0 256) b (omega (arith, length-range_with_len 0 256)) in (
      both.0 ∙ ap (λ (n : ℕ). slice_index lower_digits (n / 16)) same,
      both.1 ∙ ap (λ (n : ℕ). slice_index lower_digits (n % 16)) same,
    )
