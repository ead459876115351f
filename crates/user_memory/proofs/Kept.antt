-- All pages of an object are pinned or none, after a pin more or less too.
use Rattle.std.proofs.Common.{◌≡◌, ℕ, ◌+◌, ◌-◌, ◌^◌, ◌≤◌, Bool, true, false, ◌&&◌, ◌||◌, cond, eqb, leb, not, List, []}
use Rattle.std.proofs.Common.{length, refl, ap, ◌∙◌, arith}
use Rattle.std.proofs.lemmas.Bool.{and_from, eq-eqb, eqb-true, eqb-false, le-leb, leb-true, leb-false}
use Rattle.std.proofs.lemmas.Bool.{ne_eqb}
use Rattle.std.specs.Prelude.{is_some}
use Rattle.std.specs.List.{range_with_len}
use Rattle.std.proofs.lemmas.List.FromFn.{length-range_with_len}
use Rattle.iofd_words.specs.declared.rows.UserPage.{UserPage}
use Rattle.memory_objects.specs.Objects.{MemoryEntry, can_pin, pinned_less, pinned_more, with_pages}
use Rattle.pinned_pages.specs.Access.{are_counted}
use Rattle.pinned_pages.specs.Pages.{are_present, own_frame_now, own_frames_now}
use Rattle.pinned_pages.proofs.Runs.{all_ones, length_mapped}
use Rattle.user_memory.specs.Invariant.{is_kept}
use Rattle.user_memory.proofs.Found.{kept_count, kept_frames, kept_rows}

-- how many frames an object has that isn't pinned, or is
frames_of : (o : MemoryEntry) → is_kept o ≡ true → (b : Bool) → eqb o.pages.pages.table_pins 0 ≡ b
    → length o.pages.pages.frames ≡ cond b 0 o.pages.pages.count
frames_of o kept b is = kept_frames o kept ∙ ap (λ c. cond c 0 o.pages.pages.count) is

kept_from : (o p : MemoryEntry) → is_kept o ≡ true → p.pages.pages.count ≡ o.pages.pages.count
    → p.pages.pages.access ≡ o.pages.pages.access
    → length p.pages.pages.frames ≡ cond (eqb p.pages.pages.table_pins 0) 0 p.pages.pages.count → is_kept p ≡ true
kept_from o p kept count access frames =
    let few = le-leb p.pages.pages.count (2 ^ 36) (omega (arith, count, kept_count o kept)) in
    let rows = ap (λ n. are_counted n p.pages.pages.access) count ∙ ap (are_counted o.pages.pages.count) access
    ∙ kept_rows o kept in
    and_from (leb p.pages.pages.count (2 ^ 36))
    (eqb (length p.pages.pages.frames) (cond (eqb p.pages.pages.table_pins 0) 0 p.pages.pages.count)
    && are_counted p.pages.pages.count p.pages.pages.access) few
    (and_from (eqb (length p.pages.pages.frames) (cond (eqb p.pages.pages.table_pins 0) 0 p.pages.pages.count))
    (are_counted p.pages.pages.count p.pages.pages.access)
    (eq-eqb (length p.pages.pages.frames) (cond (eqb p.pages.pages.table_pins 0) 0 p.pages.pages.count) frames) rows)

pub less_kept : (o : MemoryEntry) (k : ℕ) → is_kept o ≡ true
    → is_kept (with_pages (pinned_less k o.pages.pages) o) ≡ true
less_kept o k kept = kept_from o (with_pages (pinned_less k o.pages.pages) o) kept refl refl
    (by_few (leb o.pages.pages.table_pins k) refl (eqb k 0) refl)
  where
    by_few : (b : Bool) → leb o.pages.pages.table_pins k ≡ b → (c : Bool) → eqb k 0 ≡ c
        → length (cond (b && not c) [] o.pages.pages.frames) ≡ cond
        (eqb (o.pages.pages.table_pins - k) 0) 0 o.pages.pages.count
    by_few true few c zero =
        let low = leb-true o.pages.pages.table_pins k few in
        let none : eqb (o.pages.pages.table_pins - k) 0 ≡ true =
        eq-eqb (o.pages.pages.table_pins - k) 0 (omega (arith, low)) in
        rw none (by_zero low c zero)
      where
        by_zero : o.pages.pages.table_pins ≤ k → (c : Bool) → eqb k 0 ≡ c
            → length (cond (not c) [] o.pages.pages.frames) ≡ 0
        by_zero low true zero = let n =
            eqb-true k 0 zero in frames_of o kept true (eq-eqb o.pages.pages.table_pins 0 (omega (arith, low, n)))
        by_zero low false zero = refl
    by_few false few c zero =
        let high = leb-false o.pages.pages.table_pins k few in
        let left : eqb (o.pages.pages.table_pins - k) 0 ≡ false =
        ne_eqb (o.pages.pages.table_pins - k) 0 (λ e. omega (arith, high, e)) in
        rw left (frames_of o kept false (ne_eqb o.pages.pages.table_pins 0 (λ e. omega (arith, high, e))))

pub more_kept : (rows : List UserPage) (o : MemoryEntry) (k : ℕ) → is_kept o ≡ true
    → (eqb k 0 ≡ false → can_pin rows o ≡ true) → is_kept (with_pages (pinned_more rows k o.pages.pages) o) ≡ true
more_kept rows o k kept ready = kept_from o (with_pages (pinned_more rows k o.pages.pages) o) kept refl refl
    (by_pins (eqb o.pages.pages.table_pins 0) refl (eqb k 0) refl)
  where
    by_pins : (b : Bool) → eqb o.pages.pages.table_pins 0 ≡ b → (c : Bool) → eqb k 0 ≡ c
        → length (cond (b && not c) (own_frames_now o.pages.pages rows) o.pages.pages.frames) ≡ cond
        (eqb (o.pages.pages.table_pins + k) 0) 0 o.pages.pages.count
    by_pins true none true zero =
        let pins = eqb-true o.pages.pages.table_pins 0 none in
        let more = eqb-true k 0 zero in
        let still : eqb (o.pages.pages.table_pins + k) 0 ≡ true =
        eq-eqb (o.pages.pages.table_pins + k) 0 (omega (arith, pins, more)) in
        rw still (frames_of o kept true none)
    by_pins true none false some =
        let more = eqb-false k 0 some in
        let first : eqb (o.pages.pages.table_pins + k) 0 ≡ false =
        ne_eqb (o.pages.pages.table_pins + k) 0 (λ e. more (omega (arith, e))) in
        rw first (length_mapped (own_frame_now o.pages.pages rows) (range_with_len 0 o.pages.pages.count)
        ∙ all_ones (λ i. is_some (own_frame_now o.pages.pages rows i)) (range_with_len 0 o.pages.pages.count)
        (present_from (eqb o.pages.pages.table_pins 0) (are_present o.pages.pages rows) none (ready some))
        ∙ length-range_with_len 0 o.pages.pages.count)
      where
        present_from : (b p : Bool) → b ≡ true → (not b || p) ≡ true → p ≡ true
        present_from true p is all = all
        present_from false p is all = cc
    by_pins false some c zero =
        let pins = eqb-false o.pages.pages.table_pins 0 some in
        let still : eqb (o.pages.pages.table_pins + k) 0 ≡ false =
        ne_eqb (o.pages.pages.table_pins + k) 0 (λ e. pins (omega (arith, e))) in
        rw still (frames_of o kept false some)
