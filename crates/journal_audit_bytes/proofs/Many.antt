-- Lists of a head: how many bytes they need, and that they are read one after the other, as a loop does.
use Rattle.std.proofs.Common.{◌≡◌, ℕ, zero, suc, ◌+◌, ◌-◌, ◌*◌, ◌/◌, ◌≤◌, ◌<◌, List, [], ◌∷◌, ◌++◌, length}
use Rattle.std.proofs.Common.{Option, Some, None, refl, sym, ap, ◌∙◌, append_assoc, append-nil, arith, inl, inr}
use Rattle.std.proofs.Math.Nat.{div-lt_iff_lt-mul}
use Rattle.std.proofs.lemmas.Bool.{cases_lt}
use Rattle.std.specs.Int.{w16}
use Rattle.journal_audit_bytes.specs.HeadReading.{TakesLeast, counted_at, many_at}
use Rattle.journal_audit_bytes.specs.Reading.{◌>>=◌, Fails, number_at}
use Rattle.journal_audit_bytes.specs.declared.spelled.ReadError.{ReadError}
use Rattle.journal_audit_bytes.specs.declared.spelled.ReadError.TheVariants.{Memory, Torn}
use Rattle.journal_audit_bytes.proofs.Elements.{number_left}
use Rattle.journal_audit_bytes.proofs.Fields.{bind_some, some_is}

-- a list of so many elements needs no more bytes than these
pub enough : (k n x : ℕ) → 0 < k → n ≤ x / k → n * k ≤ x
enough k n x some most =
    elim (cases_lt x (n * k)) [
      | inl lt ↦ absurd (omega (arith, (div-lt_iff_lt-mul {k = k} {x = x} {y = n} some).1 lt, most))
      | inr le ↦ le
    ]

module _ {X : Type 0} (one : List ℕ → Option (X × List ℕ)) where
  many_left : (least : ℕ) → TakesLeast one least → (n : ℕ) (bytes : List ℕ) (x : List X × List ℕ)
      → many_at one n bytes ≡ Some x → length x.1 + n * least ≤ length bytes
  many_left least takes zero bytes x is =
      let same : length bytes ≡ length x.1 = ap (λ (y : List X × List ℕ). length y.1) (some_is ([], bytes) x is) in
      grind (arith, same)
  many_left least takes (suc n) bytes x is =
      let a = bind_some (one bytes) (λ e. many_at one n e.1 >>= λ es.
      (let o : Option (List X × List ℕ) = Some (e.0 ∷ es.0, es.1) in o)) x is in
      let b = bind_some (many_at one n a.0.1) (λ es.
      (let o : Option (List X × List ℕ) = Some (a.0.0 ∷ es.0, es.1) in o)) x a.2 in
      let same : length b.0.1 ≡ length x.1 =
      ap (λ (y : List X × List ℕ). length y.1) (some_is (a.0.0 ∷ b.0.0, b.0.1) x b.2) in
      let first : length a.0.1 + least ≤ length bytes = takes.takes bytes a.0 a.1 in
      let others : length b.0.1 + n * least ≤ length a.0.1 = many_left least takes n a.0.1 b.0 b.1 in
      grind (arith, same, first, others)

  pub counted_left : (least : ℕ) → TakesLeast one least → (bytes : List ℕ) (x : List X × List ℕ)
      → counted_at one bytes ≡ Some x → length x.1 + 2 ≤ length bytes
  unfolding counted_at
  counted_left least takes bytes x is =
      let a = bind_some (number_at w16 bytes) (λ n. many_at one n.0 n.1) x is in
      let left : length a.0.1 + 2 ≡ length bytes = number_left w16 bytes a.0 a.1 in
      let others : length x.1 + a.0.0 * least ≤ length a.0.1 = many_left least takes a.0.0 a.0.1 x a.2 in
      omega (arith, left, others)

  -- the bytes are too few for so many of them
  pub too_few : (least : ℕ) → TakesLeast one least → (n : ℕ) (bytes : List ℕ) → length bytes / least < n
      → many_at one n bytes ≡ None
  too_few least takes n bytes few = by_case (many_at one n bytes) refl
    where
      by_case : (o : Option (List X × List ℕ)) → many_at one n bytes ≡ o → o ≡ None
      by_case None is = refl
      by_case (Some x) is =
          let short : length bytes < n * least =
          (div-lt_iff_lt-mul {k = least} {x = length bytes} {y = n} takes.some).0 few in
          absurd (omega (arith, short, many_left least takes n bytes x is))

  -- what was read before, and what is still read
  abbrev pub with_front : List X → Option (List X × List ℕ) → Option (List X × List ℕ)
  with_front front read = read >>= λ x. Some (front ++ x.0, x.1)

  regroup : (front : List X) (e : X) (read : Option (List X × List ℕ))
      → with_front front (read >>= λ x. Some (e ∷ x.0, x.1)) ≡ with_front (front ++ e ∷ []) read
  regroup front e (Some x) = ap (λ (es : List X). Some (es, x.1)) (simp append_assoc)
  regroup front e None = refl

  pub goes_on : (front : List X) (count i : ℕ) (bytes : List ℕ) (e : X) (after : List ℕ)
      (total : Option (List X × List ℕ)) → i < count → one bytes ≡ Some (e, after)
      → with_front front (many_at one (count - i) bytes) ≡ total
      → with_front (front ++ e ∷ []) (many_at one (count - (i + 1)) after) ≡ total
  goes_on front count i bytes e after total less is before =
      let k : count - i ≡ suc (count - (i + 1)) = omega arith in
      let step : with_front front (many_at one (count - i) bytes)
      ≡ with_front (front ++ e ∷ []) (many_at one (count - (i + 1)) after) =
      ap (λ (m : ℕ). with_front front (many_at one m bytes)) k
      ∙ ap (λ (o : Option (X × List ℕ)). with_front front (o >>= λ x. many_at one (count - (i + 1)) x.1
      >>= λ es. Some (x.0 ∷ es.0, es.1))) is
      ∙ regroup front e (many_at one (count - (i + 1)) after) in
      sym step ∙ before

  ends : (front : List X) (count i : ℕ) (bytes : List ℕ) (total : Option (List X × List ℕ)) → i < count
      → one bytes ≡ None → with_front front (many_at one (count - i) bytes) ≡ total → total ≡ None
  ends front count i bytes total less is before =
      let k : count - i ≡ suc (count - (i + 1)) = omega arith in
      sym before
      ∙ ap (λ (m : ℕ). with_front front (many_at one m bytes)) k
      ∙ ap (λ (o : Option (X × List ℕ)). with_front front (o >>= λ x. many_at one (count - (i + 1)) x.1
      >>= λ es. Some (x.0 ∷ es.0, es.1))) is

  pub ends_by : (e : ReadError) (front : List X) (count i : ℕ) (bytes : List ℕ)
      (total : Option (List X × List ℕ)) → i < count → Fails e (one bytes)
      → with_front front (many_at one (count - i) bytes) ≡ total → Fails e total
  ends_by Memory front count i bytes total less fails before = tt
  ends_by Torn front count i bytes total less fails before = ends front count i bytes total less fails before

  pub is_done : (front : List X) (count i : ℕ) (bytes : List ℕ) (total : Option (List X × List ℕ)) → count ≤ i
      → with_front front (many_at one (count - i) bytes) ≡ total → total ≡ Some (front, bytes)
  is_done front count i bytes total past before =
      let k : count - i ≡ 0 = omega arith in
      sym before
      ∙ ap (λ (m : ℕ). with_front front (many_at one m bytes)) k
      ∙ ap (λ (es : List X). Some (es, bytes)) (append-nil front)

  pub starts : (front : List X) (count : ℕ) (bytes : List ℕ) → front ≡ []
      → with_front front (many_at one (count - 0) bytes) ≡ many_at one count bytes
  starts front count bytes none =
      let all : count - 0 ≡ count = omega arith in
      ap (λ (xs : List X). with_front xs (many_at one (count - 0) bytes)) none
      ∙ ap (λ (m : ℕ). with_front [] (many_at one m bytes)) all
      ∙ by_case (many_at one count bytes)
    where
      by_case : (o : Option (List X × List ℕ)) → with_front [] o ≡ o
      by_case (Some x) = refl
      by_case None = refl
