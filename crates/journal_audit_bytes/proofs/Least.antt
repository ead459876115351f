-- How many bytes an element of a head has at least.
use Rattle.std.proofs.Common.{◌≡◌, ℕ, ◌+◌, ◌≤◌, List, length, Option, Some, ap, arith}
use Rattle.std.specs.Prelude.{nat_le}
use Rattle.std.specs.Int.{w8, w16, w64}
use Rattle.iofd_words.specs.Bounds.{Bounds}
use Rattle.iofd_words.specs.Settings.{DeviceSettings}
use Rattle.iofd_words.specs.declared.numbers.UserNo.{UserNo}
use Rattle.iofd_words.specs.declared.width.Width.{Width}
use Rattle.std.proofs.Common.{Bool}
use Rattle.journal_audit_bytes.specs.HeadReading.{TakesLeast, counted_at, device_at, limit_at, span_at, user_at}
use Rattle.journal_audit_bytes.specs.HeadReading.{width_at, x86_at, x86_of}
use Rattle.journal_audit_bytes.specs.Reading.{◌>>=◌, number_at, some_if}
use Rattle.journal_audit_bytes.specs.Version.{width_of}
use Rattle.journal_audit_bytes.specs.declared.version.Version.{Version}
use Rattle.journal_audit_bytes.proofs.Elements.{number_left}
use Rattle.journal_audit_bytes.proofs.Fields.{bind_some, some_is}
use Rattle.journal_audit_bytes.proofs.Many.{counted_left}
use Rattle.journal_audit_bytes.proofs.Records.{guard_some}

same_rest : {X : Type 0} (a b : X × List ℕ) → (let o : Option (X × List ℕ) = Some a in o) ≡ Some b
    → length a.1 ≡ length b.1
same_rest a b is = ap (λ (y : _). length y.1) (some_is a b is)

limit_takes : (bytes : List ℕ) (x : ℕ × List ℕ) → limit_at bytes ≡ Some x → length x.1 + 8 ≤ length bytes
unfolding limit_at
limit_takes bytes x is = omega (arith, number_left w64 bytes x is)

pub limit_least : TakesLeast limit_at 8
limit_least = record { some = omega arith; takes = limit_takes }

user_takes : (bytes : List ℕ) (x : UserNo × List ℕ) → user_at bytes ≡ Some x → length x.1 + 2 ≤ length bytes
unfolding user_at
user_takes bytes x is =
    let a = bind_some (number_at w16 bytes)
    (λ user. (let o : Option (UserNo × List ℕ) = Some (record { 0 = user.0 }, user.1) in o)) x is in
    omega (arith, number_left w16 bytes a.0 a.1, same_rest (record { 0 = a.0.0 }, a.0.1) x a.2)

pub user_least : TakesLeast user_at 2
user_least = record { some = omega arith; takes = user_takes }

span_takes : (bytes : List ℕ) (x : Bounds × List ℕ) → span_at bytes ≡ Some x → length x.1 + 16 ≤ length bytes
unfolding span_at
span_takes bytes x is =
    let a = bind_some (number_at w64 bytes) (λ first. number_at w64 first.1 >>= λ last.
    some_if (nat_le first.0 last.0)
    (let p : Bounds × List ℕ = (record { first = first.0; last = last.0 }, last.1) in p)) x is in
    let b = bind_some (number_at w64 a.0.1) (λ last. some_if (nat_le a.0.0 last.0)
    (let p : Bounds × List ℕ = (record { first = a.0.0; last = last.0 }, last.1) in p)) x a.2 in
    let made : Bounds × List ℕ = (record { first = a.0.0; last = b.0.0 }, b.0.1) in
    let g = guard_some (nat_le a.0.0 b.0.0) made x b.2 in
    omega (
      arith,
      number_left w64 bytes a.0 a.1,
      number_left w64 a.0.1 b.0 b.1,
      ap (λ (y : Bounds × List ℕ). length y.1) g.1,
    )

pub span_least : TakesLeast span_at 16
span_least = record { some = omega arith; takes = span_takes }

width_takes : (version : Version) (bytes : List ℕ) (x : Width × List ℕ) → width_at version bytes ≡ Some x
    → length x.1 + 1 ≤ length bytes
unfolding width_at
width_takes version bytes x is =
    let a = bind_some (number_at w8 bytes) (λ bits. width_of version bits.0 >>= λ width.
    (let o : Option (Width × List ℕ) = Some (width, bits.1) in o)) x is in
    let b = bind_some (width_of version a.0.0)
    (λ width. (let o : Option (Width × List ℕ) = Some (width, a.0.1) in o)) x a.2 in
    omega (arith, number_left w8 bytes a.0 a.1, same_rest (b.0, a.0.1) x b.2)

x86_takes : (bytes : List ℕ) (x : Bool × List ℕ) → x86_at bytes ≡ Some x → length x.1 + 1 ≤ length bytes
unfolding x86_at
x86_takes bytes x is =
    let a = bind_some (number_at w8 bytes) (λ number. x86_of number.0 >>= λ x86.
    (let o : Option (Bool × List ℕ) = Some (x86, number.1) in o)) x is in
    let b = bind_some (x86_of a.0.0) (λ x86. (let o : Option (Bool × List ℕ) = Some (x86, a.0.1) in o)) x a.2 in
    omega (arith, number_left w8 bytes a.0 a.1, same_rest (b.0, a.0.1) x b.2)

device_takes : (version : Version) (bytes : List ℕ) (x : DeviceSettings × List ℕ) → device_at version bytes ≡ Some x
    → length x.1 + 6 ≤ length bytes
unfolding device_at
device_takes version bytes x is =
    let a = bind_some (number_at w16 bytes) (λ source. width_at version source.1 >>= λ width. x86_at width.1 >>= λ x86.
    counted_at span_at x86.1 >>= λ reserved. (let o : Option (DeviceSettings × List ℕ) = Some (
      record {
        source = record { 0 = source.0 };
        width = width.0;
        x86 = x86.0;
        reserved = reserved.0;
      },
      reserved.1,
    ) in o)) x is in
    let w = bind_some (width_at version a.0.1) (λ width. x86_at width.1 >>= λ x86.
    counted_at span_at x86.1 >>= λ reserved. (let o : Option (DeviceSettings × List ℕ) = Some (
      record {
        source = record { 0 = a.0.0 };
        width = width.0;
        x86 = x86.0;
        reserved = reserved.0;
      },
      reserved.1,
    ) in o)) x a.2 in
    let m = bind_some (x86_at w.0.1) (λ x86.
    counted_at span_at x86.1 >>= λ reserved. (let o : Option (DeviceSettings × List ℕ) = Some (
      record {
        source = record { 0 = a.0.0 };
        width = w.0.0;
        x86 = x86.0;
        reserved = reserved.0;
      },
      reserved.1,
    ) in o)) x w.2 in
    let r = bind_some (counted_at span_at m.0.1) (λ reserved. (let o : Option (DeviceSettings × List ℕ) = Some (
      record {
        source = record { 0 = a.0.0 };
        width = w.0.0;
        x86 = m.0.0;
        reserved = reserved.0;
      },
      reserved.1,
    ) in o)) x m.2 in
    let made : DeviceSettings × List ℕ = (
      record {
        source = record { 0 = a.0.0 };
        width = w.0.0;
        x86 = m.0.0;
        reserved = r.0.0;
      },
      r.0.1,
    ) in
    omega (
      arith,
      number_left w16 bytes a.0 a.1,
      width_takes version a.0.1 w.0 w.1,
      x86_takes w.0.1 m.0 m.1,
      counted_left span_at 16 span_least m.0.1 r.0 r.1,
      same_rest made x r.2,
    )

pub device_least : (version : Version) → TakesLeast (device_at version) 6
device_least version = record { some = omega arith; takes = device_takes version }
