-- The parts of a head: what is read is spelled so, and what is spelled so is read.
use Rattle.std.proofs.Common.{◌≡◌, ℕ, zero, suc, ◌*◌, ◌^◌, ◌<◌, Bool, true, false, cond, eqb, List, [], ◌∷◌, ◌++◌}
use Rattle.std.proofs.Common.{length, Option, Some, None, refl, sym, ap, subst, ◌∙◌, append_assoc, arith}
use Rattle.std.proofs.lemmas.Bool.{eqb-true, leb-true, le-leb}
use Rattle.std.specs.Prelude.{find, nat_le}
use Rattle.std.specs.Int.{Width, w8, w16, w64, byte_len, to_le_bytes}
use Rattle.std.specs.List.{AllByRecursion}
use Rattle.iofd_words.specs.Bounds.{Bounds}
use Rattle.iofd_words.specs.Settings.{DeviceSettings}
use Rattle.iofd_words.specs.Width.{bits_of}
use Rattle.iofd_words.specs.declared.numbers.UserNo.{UserNo}
use Rattle.iofd_words.specs.declared.width.Width.TheVariants.{Bits39, Bits48, Bits57}
use Rattle.iofd_words.specs.declared.width as address
use Rattle.journal_audit_bytes.specs.Head.{CountedFit, DeviceFits, LimitFits, SpanFits, UserFits, all_spelled, counted}
use Rattle.journal_audit_bytes.specs.Head.{device_spelled, limit_spelled, span_spelled, user_spelled, x86_number}
use Rattle.journal_audit_bytes.specs.HeadReading.{counted_at, device_at, limit_at, many_at, span_at, user_at, width_at}
use Rattle.journal_audit_bytes.specs.HeadReading.{x86_at, x86_of}
use Rattle.journal_audit_bytes.specs.Reading.{◌>>=◌, number_at, some_if}
use Rattle.journal_audit_bytes.specs.Version.{width_of, widths}
use Rattle.journal_audit_bytes.specs.declared.version.Version.{Version}
use Rattle.journal_audit_bytes.proofs.Fields.{IsBytes, IsWide, Takes, Takes-then, bind_some, number_again, number_takes}
use Rattle.journal_audit_bytes.proofs.Fields.{some_is, wide8, wide16, wide64}
use Rattle.journal_audit_bytes.proofs.Records.{guard_some}

-- the two laws of a reading
pub record Reads {X : Type 0} (at : List ℕ → Option (X × List ℕ)) (text : X → List ℕ) (Fits : X → Type 0)
    : Type 0 where
  pub takes : (bytes : List ℕ) (x : X × List ℕ) → IsBytes bytes → at bytes ≡ Some x
      → Takes bytes (text x.0) x.1 × Fits x.0
  pub again : (x : X) (rest : List ℕ) → Fits x → at (text x ++ rest) ≡ Some (x, rest)

pub number_reads : (w : Width) → IsWide w
    → Reads (number_at w) (λ n. to_le_bytes w n) (λ n. n < 2 ^ (8 * byte_len w))
number_reads w wide = record {
  takes = λ bytes x fits is. number_takes w wide bytes x.0 x.1 fits is;
  again = λ n rest less. number_again w wide n rest less;
}

-- ---- lists

module _ {X : Type 0} (one : List ℕ → Option (X × List ℕ)) (text : X → List ℕ) (Fits : X → Type 0)
    (reads : Reads one text Fits) where
  many_takes : (n : ℕ) (bytes : List ℕ) (x : List X × List ℕ) → IsBytes bytes → many_at one n bytes ≡ Some x
      → Takes bytes (all_spelled text x.0) x.1 × (AllByRecursion Fits x.0 × (n ≡ length x.0))
  many_takes zero bytes x fits is =
      subst (λ (y : List X × List ℕ). Takes bytes (all_spelled text y.0) y.1
      × (AllByRecursion Fits y.0 × (0 ≡ length y.0))) (some_is ([], bytes) x is)
      (record { parts = refl; rest_fits = fits }, (tt, refl))
  many_takes (suc n) bytes x fits is =
      let a = bind_some (one bytes) (λ e. many_at one n e.1 >>= λ es.
      (let o : Option (List X × List ℕ) = Some (e.0 ∷ es.0, es.1) in o)) x is in
      let b = bind_some (many_at one n a.0.1) (λ es.
      (let o : Option (List X × List ℕ) = Some (a.0.0 ∷ es.0, es.1) in o)) x a.2 in
      let first = reads.takes bytes a.0 fits a.1 in
      let others = many_takes n a.0.1 b.0 first.0.rest_fits b.1 in
      let made : List X × List ℕ = (a.0.0 ∷ b.0.0, b.0.1) in
      subst (λ (y : List X × List ℕ). Takes bytes (all_spelled text y.0) y.1
      × (AllByRecursion Fits y.0 × (suc n ≡ length y.0))) (some_is made x b.2) (
        Takes-then bytes (text a.0.0) a.0.1 (all_spelled text b.0.0) b.0.1 first.0 others.0,
        ((first.1, others.1.0), ap suc others.1.1),
      )

  many_again : (xs : List X) (rest : List ℕ) → AllByRecursion Fits xs
      → many_at one (length xs) (all_spelled text xs ++ rest) ≡ Some (xs, rest)
  many_again [] rest fits = refl
  many_again (x ∷ xs) rest fits =
      ap (λ (bytes : List ℕ). many_at one (suc (length xs)) bytes) (append_assoc (text x) (all_spelled text xs) rest)
      ∙ ap (λ (o : Option (X × List ℕ)). o >>= λ e. many_at one (length xs) e.1 >>= λ es. Some (e.0 ∷ es.0, es.1))
      (reads.again x (all_spelled text xs ++ rest) fits.0)
      ∙ ap (λ (o : Option (List X × List ℕ)). o >>= λ es. Some (x ∷ es.0, es.1)) (many_again xs rest fits.1)

  pub counted_reads : Reads (counted_at one) (λ xs. counted text xs) (λ xs. CountedFit Fits xs)
  unfolding counted_at
  counted_reads = record {
    takes = λ bytes x fits is.
        let a = bind_some (number_at w16 bytes) (λ n. many_at one n.0 n.1) x is in
        let first = number_takes w16 wide16 bytes a.0.0 a.0.1 fits a.1 in
        let second = many_takes a.0.0 a.0.1 x first.0.rest_fits a.2 in
        subst (λ (n : ℕ). Takes bytes (to_le_bytes w16 n ++ all_spelled text x.0) x.1
        × ((n < 2 ^ 16) × AllByRecursion Fits x.0)) second.1.1 (
          Takes-then bytes (to_le_bytes w16 a.0.0) a.0.1 (all_spelled text x.0) x.1 first.0 second.0,
          (first.1, second.1.0),
        );
    again = λ xs rest fits.
        ap (λ (bytes : List ℕ). number_at w16 bytes >>= λ n. many_at one n.0 n.1)
        (append_assoc (to_le_bytes w16 (length xs)) (all_spelled text xs) rest)
        ∙ ap (λ (o : Option (ℕ × List ℕ)). o >>= λ n. many_at one n.0 n.1)
        (number_again w16 wide16 (length xs) (all_spelled text xs ++ rest) fits.0)
        ∙ many_again xs rest fits.1;
  }

-- ---- users and files

pub limit_reads : Reads limit_at limit_spelled LimitFits
unfolding limit_at
limit_reads = number_reads w64 wide64

pub user_reads : Reads user_at user_spelled UserFits
unfolding user_at
user_reads = record {
  takes = λ bytes x fits is.
      let a = bind_some (number_at w16 bytes)
      (λ user. (let o : Option (UserNo × List ℕ) = Some (record { 0 = user.0 }, user.1) in o)) x is in
      subst (λ (y : UserNo × List ℕ). Takes bytes (user_spelled y.0) y.1 × UserFits y.0)
      (some_is (record { 0 = a.0.0 }, a.0.1) x a.2) (number_takes w16 wide16 bytes a.0.0 a.0.1 fits a.1);
  again = λ x rest fits. ap (λ (o : Option (ℕ × List ℕ)). o >>= λ user.
      (let o : Option (UserNo × List ℕ) = Some (record { 0 = user.0 }, user.1) in o))
      (number_again w16 wide16 x.0 rest fits);
}

-- ---- devices

pub span_reads : Reads span_at span_spelled (λ span. SpanFits span)
unfolding span_at
span_reads = record {
  takes = λ bytes x fits is.
      let a = bind_some (number_at w64 bytes) (λ first. number_at w64 first.1 >>= λ last.
      some_if (nat_le first.0 last.0)
      (let p : Bounds × List ℕ = (record { first = first.0; last = last.0 }, last.1) in p)) x is in
      let b = bind_some (number_at w64 a.0.1) (λ last. some_if (nat_le a.0.0 last.0)
      (let p : Bounds × List ℕ = (record { first = a.0.0; last = last.0 }, last.1) in p)) x a.2 in
      let made : Bounds × List ℕ = (record { first = a.0.0; last = b.0.0 }, b.0.1) in
      let g = guard_some (nat_le a.0.0 b.0.0) made x b.2 in
      let first = number_takes w64 wide64 bytes a.0.0 a.0.1 fits a.1 in
      let second = number_takes w64 wide64 a.0.1 b.0.0 b.0.1 first.0.rest_fits b.1 in
      subst (λ (y : Bounds × List ℕ). Takes bytes (span_spelled y.0) y.1 × SpanFits y.0) g.1 (
        Takes-then bytes (to_le_bytes w64 a.0.0) a.0.1 (to_le_bytes w64 b.0.0) b.0.1 first.0 second.0,
        record { ordered = leb-true _ _ g.0; first = first.1; last = second.1 },
      );
  again = λ x rest fits. ap span_at (append_assoc (to_le_bytes w64 x.first) (to_le_bytes w64 x.last) rest) ∙ rw (
    number_again w64 wide64 x.first (to_le_bytes w64 x.last ++ rest) fits.first,
    number_again w64 wide64 x.last rest fits.last,
    le-leb x.first x.last fits.ordered,
  ) refl;
}

found_passes : {X : Type 0} (p : X → Bool) (xs : List X) (x : X) → find p xs ≡ Some x → p x ≡ true
found_passes p [] x is = absurd cc
found_passes {X} p (y ∷ ys) x is = by_test (p y) refl (λ later. found_passes p ys x later) is
  where
    by_test : (test : Bool) → p y ≡ test → (find p ys ≡ Some x → p x ≡ true)
        → cond test (Some y) (find p ys) ≡ Some x → p x ≡ true
    by_test true passes later is = subst (λ (z : X). p z ≡ true) (some_is y x is) passes
    by_test false fails later is = later is

bits_below : (width : address.Width.Width) → bits_of width < 256
bits_below Bits39 = omega arith
bits_below Bits48 = omega arith
bits_below Bits57 = omega arith

width_reads : (version : Version) → Reads (width_at version) (λ width. to_le_bytes w8 (bits_of width))
    (λ width. width_of version (bits_of width) ≡ Some width)
unfolding width_at
width_reads version = record {
  takes = λ bytes x fits is.
      let a = bind_some (number_at w8 bytes) (λ bits. width_of version bits.0 >>= λ width.
      (let o : Option (address.Width.Width × List ℕ) = Some (width, bits.1) in o)) x is in
      let b = bind_some (width_of version a.0.0) (λ width.
      (let o : Option (address.Width.Width × List ℕ) = Some (width, a.0.1) in o)) x a.2 in
      let bits : bits_of b.0 ≡ a.0.0 = eqb-true (bits_of b.0) a.0.0
      (found_passes (λ width. eqb (bits_of width) a.0.0) (widths version) b.0 b.1) in
      let first = number_takes w8 wide8 bytes a.0.0 a.0.1 fits a.1 in
      subst (λ (y : address.Width.Width × List ℕ).
      Takes bytes (to_le_bytes w8 (bits_of y.0)) y.1 × (width_of version (bits_of y.0) ≡ Some y.0))
      (some_is (b.0, a.0.1) x b.2) (
        subst (λ (n : ℕ). Takes bytes (to_le_bytes w8 n) a.0.1) (sym bits) first.0,
        subst (λ (n : ℕ). width_of version n ≡ Some b.0) (sym bits) b.1,
      );
  again = λ width rest fits. rw (number_again w8 wide8 (bits_of width) rest (bits_below width), fits) refl;
}

x86_is : (n : ℕ) (x86 : Bool) → x86_of n ≡ Some x86 → x86_number x86 ≡ n
x86_is n x86 is = by_tests (eqb n 0) (eqb n 1) refl refl is
  where
    by_tests : (a b : Bool) → eqb n 0 ≡ a → eqb n 1 ≡ b
        → cond a (Some false) (cond b (Some true) None) ≡ Some x86 → x86_number x86 ≡ n
    by_tests true b zero_is one_is is =
        subst (λ (x : Bool). x86_number x ≡ n) (some_is false x86 is) (sym (eqb-true n 0 zero_is))
    by_tests false true zero_is one_is is =
        subst (λ (x : Bool). x86_number x ≡ n) (some_is true x86 is) (sym (eqb-true n 1 one_is))
    by_tests false false zero_is one_is is = absurd cc

x86_again : (x86 : Bool) (rest : List ℕ) → x86_at (to_le_bytes w8 (x86_number x86) ++ rest) ≡ Some (x86, rest)
unfolding x86_at
x86_again true rest = rw (number_again w8 wide8 1 rest (omega arith)) refl
x86_again false rest = rw (number_again w8 wide8 0 rest (omega arith)) refl

x86_reads : Reads x86_at (λ x86. to_le_bytes w8 (x86_number x86)) (λ x86. Unit {0})
unfolding x86_at
x86_reads = record {
  takes = λ bytes x fits is.
      let a = bind_some (number_at w8 bytes) (λ number. x86_of number.0 >>= λ x86.
      (let o : Option (Bool × List ℕ) = Some (x86, number.1) in o)) x is in
      let b = bind_some (x86_of a.0.0) (λ x86. (let o : Option (Bool × List ℕ) = Some (x86, a.0.1) in o)) x a.2 in
      let number : x86_number b.0 ≡ a.0.0 = x86_is a.0.0 b.0 b.1 in
      let first = number_takes w8 wide8 bytes a.0.0 a.0.1 fits a.1 in
      subst (λ (y : Bool × List ℕ). Takes bytes (to_le_bytes w8 (x86_number y.0)) y.1 × Unit {0})
      (some_is (b.0, a.0.1) x b.2)
      (subst (λ (n : ℕ). Takes bytes (to_le_bytes w8 n) a.0.1) (sym number) first.0, tt);
  again = λ x86 rest fits. x86_again x86 rest;
}

reserved_reads : Reads (counted_at span_at) (λ xs. counted span_spelled xs)
    (λ xs. CountedFit (λ span. SpanFits span) xs)
reserved_reads = counted_reads span_at span_spelled (λ span. SpanFits span) span_reads

pub device_reads : (version : Version) → Reads (device_at version) device_spelled
    (λ device. DeviceFits version device)
unfolding device_at
device_reads version = record {
  takes = λ bytes x fits is.
      let a = bind_some (number_at w16 bytes) (λ source. width_at version source.1 >>= λ width.
      x86_at width.1 >>= λ x86. counted_at span_at x86.1 >>= λ reserved.
      (let o : Option (DeviceSettings × List ℕ) = Some (
        record {
          source = record { 0 = source.0 };
          width = width.0;
          x86 = x86.0;
          reserved = reserved.0;
        },
        reserved.1,
      ) in o)) x is in
      let w = bind_some (width_at version a.0.1) (λ width. x86_at width.1 >>= λ x86.
      counted_at span_at x86.1 >>= λ reserved. (let o : Option (DeviceSettings × List ℕ) = Some (
        record {
          source = record { 0 = a.0.0 };
          width = width.0;
          x86 = x86.0;
          reserved = reserved.0;
        },
        reserved.1,
      ) in o)) x a.2 in
      let m = bind_some (x86_at w.0.1) (λ x86.
      counted_at span_at x86.1 >>= λ reserved. (let o : Option (DeviceSettings × List ℕ) = Some (
        record {
          source = record { 0 = a.0.0 };
          width = w.0.0;
          x86 = x86.0;
          reserved = reserved.0;
        },
        reserved.1,
      ) in o)) x w.2 in
      let r = bind_some (counted_at span_at m.0.1) (λ reserved.
      (let o : Option (DeviceSettings × List ℕ) = Some (
        record {
          source = record { 0 = a.0.0 };
          width = w.0.0;
          x86 = m.0.0;
          reserved = reserved.0;
        },
        reserved.1,
      ) in o)) x m.2 in
      let made : DeviceSettings × List ℕ = (
        record {
          source = record { 0 = a.0.0 };
          width = w.0.0;
          x86 = m.0.0;
          reserved = r.0.0;
        },
        r.0.1,
      ) in
      let source = number_takes w16 wide16 bytes a.0.0 a.0.1 fits a.1 in
      let width = (width_reads version).takes a.0.1 w.0 source.0.rest_fits w.1 in
      let x86 = x86_reads.takes w.0.1 m.0 width.0.rest_fits m.1 in
      let reserved = reserved_reads.takes m.0.1 r.0 x86.0.rest_fits r.1 in
      let spans : List ℕ = counted span_spelled r.0.0 in
      let marked : List ℕ = to_le_bytes w8 (x86_number m.0.0) in
      let wide : List ℕ = to_le_bytes w8 (bits_of w.0.0) in
      subst (λ (y : DeviceSettings × List ℕ). Takes bytes (device_spelled y.0) y.1 × DeviceFits version y.0)
      {x = made} {y = x} (some_is made x r.2) (
        Takes-then bytes (to_le_bytes w16 a.0.0) a.0.1 (wide ++ (marked ++ spans)) r.0.1 source.0
            (Takes-then a.0.1 wide w.0.1 (marked ++ spans) r.0.1 width.0
            (Takes-then w.0.1 marked m.0.1 spans r.0.1 x86.0 reserved.0)),
        record { source = source.1; width = width.1; reserved = reserved.1 },
      );
  again = λ x rest fits.
      let spans : List ℕ = counted span_spelled x.reserved in
      let marked : List ℕ = to_le_bytes w8 (x86_number x.x86) in
      let wide : List ℕ = to_le_bytes w8 (bits_of x.width) in
      let grouped : device_spelled x ++ rest ≡ to_le_bytes w16 x.source.0 ++ (wide ++ (marked ++ (spans ++ rest))) =
      simp append_assoc in
      ap (device_at version) grouped
      ∙ rw (
        number_again w16 wide16 x.source.0 (wide ++ (marked ++ (spans ++ rest))) fits.source,
        (width_reads version).again x.width (marked ++ (spans ++ rest)) fits.width,
        x86_reads.again x.x86 (spans ++ rest) tt,
        reserved_reads.again x.reserved rest fits.reserved,
      ) refl;
}
