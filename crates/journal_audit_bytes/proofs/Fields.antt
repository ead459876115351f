-- Fields that are read are those that were spelled, and what is spelled is read again.
use Rattle.std.proofs.Common.{◌≡◌, ℕ, ◌+◌, ◌*◌, ◌%◌, ◌^◌, ◌<◌, ◌≤◌, Bool, true, false, cond, ltb, List, [], ◌∷◌, ◌++◌}
use Rattle.std.proofs.Common.{length, get_or, take, drop, Option, Some, None, refl, sym, ap, subst, ◌∙◌, append_assoc}
use Rattle.std.proofs.Common.{arith, inl, inr}
use Rattle.std.proofs.lemmas.Bool.{cases_lt, ltb-false, le-ltb}
use Rattle.std.proofs.lemmas.List.{take_at, drop_at, take-append-drop, length-append, length-take, get_or-drop}
use Rattle.std.proofs.lemmas.List.{get_or-take, get_or_past}
use Rattle.std.proofs.lemmas.Nat.{le_bytes_2, le_bytes_4, le_bytes_8, from_le_bytes-to_le_bytes_2}
use Rattle.std.proofs.lemmas.Nat.{from_le_bytes-to_le_bytes_4, from_le_bytes-to_le_bytes_8}
use Rattle.std.specs.Int.{Width, w8, w16, w32, w64, byte_len, from_le_bytes, to_le_bytes}
use Rattle.journal_audit_bytes.specs.Format.{FitWidths, spelled}
use Rattle.journal_audit_bytes.specs.Reading.{◌>>=◌, fields_at, number_at}

abbrev pub IsBytes : List ℕ → Type 0
IsBytes bytes = (i : ℕ) → get_or bytes i 0 < 256

pub IsBytes-drop : (n : ℕ) (bytes : List ℕ) → IsBytes bytes → IsBytes (drop n bytes)
IsBytes-drop n bytes h i = rw get_or-drop (h (n + i))

IsBytes-take : (n : ℕ) (bytes : List ℕ) → IsBytes bytes → IsBytes (take n bytes)
IsBytes-take n bytes h i =
    elim (cases_lt i n) [
      | inl lt ↦ rw (get_or-take n bytes i 0 lt) (h i)
      | inr le ↦ rw (get_or_past (take n bytes) i 0 (omega (arith, length-take n bytes))) (omega arith)
    ]

-- the value of a step that did not fail
pub bind_some : {A B : Type 0} (o : Option A) (f : A → Option B) (y : B) → (o >>= f) ≡ Some y
    → (x : A) × (o ≡ Some x) × (f x ≡ Some y)
bind_some (Some x) f y is = (x, refl, is)
bind_some None f y is = absurd cc

pub guard_none : {A : Type 0} (b : Bool) (x y : A) → cond b None (Some x) ≡ Some y → (b ≡ false) × (x ≡ y)
guard_none true x y is = absurd cc
guard_none false x y is = (refl, cc)

pub some_is : {A : Type 0} (x y : A) → (let o : Option A = Some x in o) ≡ Some y → x ≡ y
some_is x y is = cc

-- what a reader took from the front
pub record Takes (bytes text rest : List ℕ) : Type 0 where
  pub parts : bytes ≡ text ++ rest
  pub rest_fits : IsBytes rest

pub Takes-then : (a x b y c : List ℕ) → Takes a x b → Takes b y c → Takes a (x ++ y) c
Takes-then a x b y c p q = record {
  parts = p.parts ∙ ap (λ (t : List ℕ). x ++ t) q.parts ∙ sym (append_assoc x y c);
  rest_fits = q.rest_fits;
}

-- the laws of one width
pub record IsWide (w : Width) : Type 0 where
  pub len : (n : ℕ) → length (to_le_bytes w n) ≡ byte_len w
  pub back : (bytes : List ℕ) → length bytes ≡ byte_len w → IsBytes bytes
      → to_le_bytes w (from_le_bytes w bytes) ≡ bytes
  pub again : (n : ℕ) → n < 2 ^ (8 * byte_len w) → from_le_bytes w (to_le_bytes w n) ≡ n
  pub below : (bytes : List ℕ) → IsBytes bytes → from_le_bytes w bytes < 2 ^ (8 * byte_len w)

pub wide16 : IsWide w16
wide16 = record {
  len = λ n. refl;
  back = λ bytes len fits. le_bytes_2 bytes _ len fits refl;
  again = λ n less. from_le_bytes-to_le_bytes_2 n less;
  below = λ bytes fits. omega (arith, fits 0, fits 1);
}

pub wide32 : IsWide w32
wide32 = record {
  len = λ n. refl;
  back = λ bytes len fits. le_bytes_4 bytes _ len fits refl;
  again = λ n less. from_le_bytes-to_le_bytes_4 n less;
  below = λ bytes fits. omega (arith, fits 0, fits 1, fits 2, fits 3);
}

pub wide64 : IsWide w64
wide64 = record {
  len = λ n. refl;
  back = λ bytes len fits. le_bytes_8 bytes _ len fits refl;
  again = λ n less. from_le_bytes-to_le_bytes_8 n less;
  below = λ bytes fits. omega (arith, fits 0, fits 1, fits 2, fits 3, fits 4, fits 5, fits 6, fits 7);
}

small : (n : ℕ) → n < 256 → n % 256 ≡ n
small n less = omega (arith, less)

one_byte : (bytes : List ℕ) → length bytes ≡ 1 → get_or bytes 0 0 < 256
    → to_le_bytes w8 (from_le_bytes w8 bytes) ≡ bytes
one_byte [] len fits = absurd (omega (arith, len))
one_byte (b ∷ []) len fits = ap (λ (n : ℕ). n ∷ []) (small b fits)
one_byte (b ∷ c ∷ bytes) len fits = absurd (omega (arith, len))

pub wide8 : IsWide w8
wide8 = record {
  len = λ n. refl;
  back = λ bytes len fits. one_byte bytes len (fits 0);
  again = λ n less. small n less;
  below = λ bytes fits. omega (arith, fits 0);
}

pub number_takes : (w : Width) (wide : IsWide w) (bytes : List ℕ) (n : ℕ) (rest : List ℕ) → IsBytes bytes
    → number_at w bytes ≡ Some (n, rest) → Takes bytes (to_le_bytes w n) rest × (n < 2 ^ (8 * byte_len w))
number_takes w wide bytes n rest fits is =
    let g = guard_none (ltb (length bytes) (byte_len w))
    (from_le_bytes w (take (byte_len w) bytes), drop (byte_len w) bytes) (n, rest) is in
    let long : byte_len w ≤ length bytes = ltb-false _ _ g.0 in
    let n-is : from_le_bytes w (take (byte_len w) bytes) ≡ n = ap (λ (p : ℕ × List ℕ). p.0) g.1 in
    let rest-is : drop (byte_len w) bytes ≡ rest = ap (λ (p : ℕ × List ℕ). p.1) g.1 in
    let front : to_le_bytes w n ≡ take (byte_len w) bytes = rw (← n-is) (wide.back (take (byte_len w) bytes)
    (omega (arith, length-take (byte_len w) bytes)) (IsBytes-take (byte_len w) bytes fits)) in (
      record {
        parts = rw (front, ← rest-is) (sym (take-append-drop (byte_len w) bytes));
        rest_fits = rw (← rest-is) (IsBytes-drop (byte_len w) bytes fits);
      },
      rw (← n-is) (wide.below (take (byte_len w) bytes) (IsBytes-take (byte_len w) bytes fits)),
    )

pub number_again : (w : Width) (wide : IsWide w) (n : ℕ) (rest : List ℕ) → n < 2 ^ (8 * byte_len w)
    → number_at w (to_le_bytes w n ++ rest) ≡ Some (n, rest)
number_again w wide n rest less =
    let len = wide.len n in
    let long : ltb (length (to_le_bytes w n ++ rest)) (byte_len w) ≡ false =
    le-ltb _ _ (omega (arith, length-append (to_le_bytes w n) rest)) in
    rw (
      long,
      take_at (to_le_bytes w n) rest (byte_len w) len,
      drop_at (to_le_bytes w n) rest (byte_len w) len,
      wide.again n less,
    ) refl

-- the widths of the format alone
abbrev pub AreWide : List Width → Type 0
AreWide [] = Unit {0}
AreWide (w ∷ ws) = IsWide w × AreWide ws

pub fields_take : (ws : List Width) → AreWide ws → (bytes : List ℕ) (x : List ℕ × List ℕ) → IsBytes bytes
    → fields_at ws bytes ≡ Some x → Takes bytes (spelled ws x.0) x.1 × FitWidths ws x.0
fields_take [] wide bytes x fits is =
    subst (λ (y : List ℕ × List ℕ). Takes bytes (spelled [] y.0) y.1 × FitWidths [] y.0) (some_is ([], bytes) x is)
    (record { parts = refl; rest_fits = fits }, tt)
fields_take (w ∷ ws) wide bytes x fits is =
    let a = bind_some (number_at w bytes) (λ n. fields_at ws n.1 >>= λ ns. Some (n.0 ∷ ns.0, ns.1)) x is in
    let b = bind_some (fields_at ws a.0.1) (λ ns. Some (a.0.0 ∷ ns.0, ns.1)) x a.2 in
    let first = number_takes w wide.0 bytes a.0.0 a.0.1 fits a.1 in
    let second = fields_take ws wide.1 a.0.1 b.0 first.0.rest_fits b.1 in
    let made : List ℕ × List ℕ = (a.0.0 ∷ b.0.0, b.0.1) in
    subst (λ (y : List ℕ × List ℕ). Takes bytes (spelled (w ∷ ws) y.0) y.1 × FitWidths (w ∷ ws) y.0)
    (some_is made x b.2)
    (Takes-then bytes (to_le_bytes w a.0.0) a.0.1 (spelled ws b.0.0) b.0.1 first.0 second.0, (first.1, second.1))

pub fields_again : (ws : List Width) → AreWide ws → (numbers rest : List ℕ) → FitWidths ws numbers
    → fields_at ws (spelled ws numbers ++ rest) ≡ Some (numbers, rest)
fields_again [] wide [] rest fits = refl
fields_again [] wide (n ∷ numbers) rest fits = absurd fits
fields_again (w ∷ ws) wide [] rest fits = absurd fits
fields_again (w ∷ ws) wide (n ∷ numbers) rest fits =
    ap (λ (bytes : List ℕ). fields_at (w ∷ ws) bytes) (append_assoc (to_le_bytes w n) (spelled ws numbers) rest)
    ∙ ap (λ (o : Option (ℕ × List ℕ)). o >>= λ n. fields_at ws n.1 >>= λ ns. Some (n.0 ∷ ns.0, ns.1))
    (number_again w wide.0 n (spelled ws numbers ++ rest) fits.0)
    ∙ ap (λ (o : Option (List ℕ × List ℕ)). o >>= λ ns. Some (n ∷ ns.0, ns.1))
    (fields_again ws wide.1 numbers rest fits.1)
