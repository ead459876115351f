-- Each span that can't be used is looked up among several ranges: the same is told as by looking each range up among
-- the spans.
use Rattle.std.proofs.Common.{◌≡◌, ◌∙◌, ℕ, zero, suc, ◌+◌, ◌-◌, ◌^◌, ◌<◌, ◌≤◌, Bool, true, false, ◌&&◌, ◌||◌, ltb, leb}
use Rattle.std.proofs.Common.{Some, List, [], ◌∷◌, length, get_or, map, eqb, refl, sym, ap, arith, ltb-true, ⊎_elim}
use Rattle.std.proofs.lemmas.Bool.Decides.{nat_tests}
use Rattle.std.proofs.lemmas.Bool.{cases_lt}
use Rattle.std.proofs.lemmas.List.{get_or_default}
use Rattle.std.proofs.lemmas.List.Folds.{list_any_at, list_any_none}
use Rattle.std.proofs.lemmas.Option.{get_or_from_slice_get, slice_get_within}
use Rattle.std.proofs.lemmas.List.Sorted.{IsNonDecreasingBy-from_all_adjacent, IsPartitionedBy-ltb}
use Rattle.std.specs.List.{list_any, slice_get}
use Rattle.std.specs.List.Sorted.{IsNonDecreasingBy, IsPartitionPoint, IsPartitionedBy}
use Rattle.iofd_rows.proofs.Bools.{and_true, both_true, clash}
use Rattle.iofd_rows.proofs.ListTests.{alike, any_weaker, false_else}
use Rattle.iofd_rows.proofs.Unusable.{by_rows}
use Rattle.iofd_rows.specs.Reached.{ends_in, keeps_of}
use Rattle.page_table_set.specs.PageTables.{Hwpt}
use Rattle.iofd_words.specs.Bounds.{Bounds}
use Rattle.iofd_words.specs.Objects.{is_hwpt_over}
use Rattle.iofd_words.specs.Ranges.{meets_some}
use Rattle.iofd_words.specs.Settings.{DeviceSettings, Settings}
use Rattle.iofd_words.specs.Span.{meets}
use Rattle.iofd_words.specs.Usable.{beyond_table, interrupt_range, reserved_by, unusable}
use Rattle.iofd_words.specs.Width.{bits_of}
use Rattle.iofd_words.specs.declared.numbers.FileNo.{FileNo}
use Rattle.iofd_words.specs.declared.numbers.ObjId.{ObjId}
use Rattle.iofd_words.specs.declared.rows.Attachment.{Attachment}
use Rattle.iofd_words.specs.declared.rows.Object.{Object}
use Rattle.iofd_words.specs.declared.rows.ObjectKind.{ObjectKind}
use Rattle.iofd_words.specs.declared.rows.ObjectKind.TheVariants as kind
use Rattle.event_ioas.specs.Rising.{are_rising, ends_below}
use Rattle.object_table.proofs.Lists.{list_any-map}
use Rattle.server_state.proofs.PageTables.{any_kept, over_is_table}
use Rattle.server_state.specs.Tables.{page_tables_among}

pub none_passes : {X : Type 0} (xs : List X) → list_any (λ x. false) xs ≡ false
none_passes [] = refl
none_passes (x ∷ xs) = none_passes xs

pub any_alike : {X : Type 0} (p q : X → Bool) → ((x : X) → p x ≡ q x) → (xs : List X) → list_any p xs ≡ list_any q xs
any_alike p q same [] = refl
any_alike p q same (x ∷ xs) = rw (same x, any_alike p q same xs) refl

pub any_or : {X : Type 0} (p q : X → Bool) (xs : List X)
    → list_any (λ x. p x || q x) xs ≡ (list_any p xs || list_any q xs)
any_or p q [] = refl
any_or p q (x ∷ xs) = rw (any_or p q xs) (apart (p x) (q x) (list_any p xs) (list_any q xs))
  where
    apart : (a b c d : Bool) → ((a || b) || (c || d)) ≡ ((a || c) || (b || d))
    apart true b c d = refl
    apart false true true d = refl
    apart false true false d = refl
    apart false false c d = refl

pub any_and : {X : Type 0} (b : Bool) (p : X → Bool) (xs : List X) → list_any (λ x. b && p x) xs ≡ (b && list_any p xs)
any_and true p xs = refl
any_and false p xs = none_passes xs

pub swapped : {X Y : Type 0} (p : X → Y → Bool) (xs : List X) (ys : List Y)
    → list_any (λ x. list_any (p x) ys) xs ≡ list_any (λ y. list_any (λ x. p x y) xs) ys
swapped p [] ys = sym (none_passes ys)
swapped p (x ∷ xs) ys = rw (swapped p xs ys) (sym (any_or (p x) (λ y. list_any (λ x. p x y) xs) ys))

-- only the page tables among the objects end in a range
ends_kept : (tables : List Hwpt) (objects : List Object)
    → map (λ (h : Hwpt). h.object) tables ≡ page_tables_among objects → (file : FileNo) (ioas : ObjId) (range : Bounds)
    → list_any (ends_in file ioas range) objects ≡ list_any (λ (h : Hwpt). ends_in file ioas range h.object) tables
ends_kept tables objects are file ioas range =
    any_kept (map (λ (h : Hwpt). h.object) tables) objects are (ends_in file ioas range)
    (λ object ends. over_is_table ioas object.kind
    (and_true (eqb object.file.0 file.0) (is_hwpt_over ioas object.kind)
    (and_true (eqb object.file.0 file.0 && is_hwpt_over ioas object.kind)
    (meets_some (beyond_table object.kind) range) ends).0).1)
    ∙ list_any-map (ends_in file ioas range) (λ (h : Hwpt). h.object) tables

-- by the page tables that are kept, and by the attachments
pub by_spans : (settings : Settings) (tables : List Hwpt) (objects : List Object) (attachments : List Attachment)
    → map (λ (h : Hwpt). h.object) tables ≡ page_tables_among objects
    → (file : FileNo) (ioas : ObjId) (ranges : List Bounds)
    → list_any (meets_some (unusable settings objects attachments file ioas)) ranges
    ≡ (list_any (λ range. list_any (λ (h : Hwpt). ends_in file ioas range h.object) tables) ranges
    || list_any (λ a. list_any (λ range. keeps_of settings objects file ioas range a) ranges) attachments)
by_spans settings tables objects attachments are file ioas ranges =
    any_alike (meets_some (unusable settings objects attachments file ioas))
    (λ range. list_any (λ (h : Hwpt). ends_in file ioas range h.object) tables
    || list_any (keeps_of settings objects file ioas range) attachments)
    (λ range. by_rows settings objects attachments file ioas range
    ∙ ap (λ b. b || list_any (keeps_of settings objects file ioas range) attachments)
    (ends_kept tables objects are file ioas range)) ranges
    ∙ any_or (λ range. list_any (λ (h : Hwpt). ends_in file ioas range h.object) tables)
    (λ range. list_any (keeps_of settings objects file ioas range) attachments) ranges
    ∙ rw (swapped (λ range. keeps_of settings objects file ioas range) ranges attachments) refl

-- a device's spans: its interrupt range, where it has one, and the reserved ones
pub kept_by : (device : DeviceSettings) (ranges : List Bounds)
    → list_any (meets_some (reserved_by device)) ranges ≡ (device.x86
    && list_any (λ range. meets interrupt_range range) ranges
    || list_any (λ span. list_any (λ range. meets span range) ranges) device.reserved)
kept_by device ranges = by_test device.x86 refl
  where
    by_test : (b : Bool) → device.x86 ≡ b → list_any (meets_some (reserved_by device)) ranges ≡ (b
        && list_any (λ range. meets interrupt_range range) ranges
        || list_any (λ span. list_any (λ range. meets span range) ranges) device.reserved)
    by_test true is =
        any_alike (meets_some (reserved_by device)) (λ range. meets interrupt_range range
        || meets_some device.reserved range) (λ range. rw is refl) ranges
        ∙ any_or (λ range. meets interrupt_range range) (meets_some device.reserved) ranges
        ∙ rw (swapped (λ range span. meets span range) ranges device.reserved) refl
    by_test false is =
        any_alike (meets_some (reserved_by device)) (meets_some device.reserved) (λ range. rw is refl) ranges
        ∙ swapped (λ range span. meets span range) ranges device.reserved

-- ---- where the ranges rise

own_at : (ranges : List Bounds) → are_rising ranges ≡ true → (k : ℕ) (d : Bounds) → k < length ranges
    → (get_or ranges k d).first < (get_or ranges k d).last
own_at [] rising k d inside = absurd (omega arith)
own_at (r ∷ ranges) rising zero d inside =
    let parts = and_true (ltb r.first r.last && ends_below r ranges) (are_rising ranges) rising in
    let own = and_true (ltb r.first r.last) (ends_below r ranges) parts.0 in
    ltb-true r.first r.last own.0
own_at (r ∷ ranges) rising (suc k) d inside =
    let parts = and_true (ltb r.first r.last && ends_below r ranges) (are_rising ranges) rising in
    own_at ranges parts.1 k d (omega arith)

behind_at : (ranges : List Bounds) → are_rising ranges ≡ true → (k : ℕ) (d : Bounds) → suc k < length ranges
    → (get_or ranges k d).last < (get_or ranges (suc k) d).first
behind_at [] rising k d inside = absurd (omega arith)
behind_at (r ∷ []) rising k d inside = absurd (omega arith)
behind_at (r ∷ next ∷ ranges) rising zero d inside =
    let parts = and_true (ltb r.first r.last && ltb r.last next.first) (are_rising (next ∷ ranges)) rising in
    let own = and_true (ltb r.first r.last) (ltb r.last next.first) parts.0 in
    ltb-true r.last next.first own.1
behind_at (r ∷ next ∷ ranges) rising (suc k) d inside =
    let parts = and_true (ltb r.first r.last && ltb r.last next.first) (are_rising (next ∷ ranges)) rising in
    behind_at (next ∷ ranges) parts.1 k d (omega arith)

lasts_rise : (ranges : List Bounds) → are_rising ranges ≡ true → IsNonDecreasingBy (λ r. r.last) ranges
lasts_rise ranges rising =
    IsNonDecreasingBy-from_all_adjacent (λ r. r.last) ranges
    (λ k d inside.
    let on : suc k ≡ k + 1 = omega arith in
    omega (
      arith,
      behind_at ranges rising k d (omega arith),
      own_at ranges rising (k + 1) d inside,
      ap (λ m. (get_or ranges m d).first) on,
    ))

firsts_rise : (ranges : List Bounds) → are_rising ranges ≡ true → IsNonDecreasingBy (λ r. r.first) ranges
firsts_rise ranges rising =
    IsNonDecreasingBy-from_all_adjacent (λ r. r.first) ranges
    (λ k d inside.
    let on : suc k ≡ k + 1 = omega arith in
    omega (
      arith,
      behind_at ranges rising k d (omega arith),
      own_at ranges rising k d (omega arith),
      ap (λ m. (get_or ranges m d).first) on,
    ))

pub ends_parted : (ranges : List Bounds) (t : ℕ) → are_rising ranges ≡ true → IsPartitionedBy (λ r. ltb r.last t) ranges
ends_parted ranges t rising = IsPartitionedBy-ltb (λ r. r.last) ranges t (lasts_rise ranges rising)

-- what ends below the span doesn't meet it, nor what begins behind it
below : (span r : Bounds) → ltb r.last span.first ≡ true → meets span r ≡ false
below span r is = grind (arith, nat_tests)

above : (span r : Bounds) → span.last < r.first → meets span r ≡ false
above span r is = grind (arith, nat_tests)

-- the first range that doesn't end below the span meets it, or none does
pub met_at_first : (ranges : List Bounds) (span : Bounds) (at : ℕ) (d : Bounds) → are_rising ranges ≡ true
    → IsPartitionPoint (λ r. ltb r.last span.first ≡ true) (λ r. ltb r.last span.first ≡ false) ranges at
    → at < length ranges
    → leb (get_or ranges at d).first span.last ≡ list_any (λ r. meets span r) ranges
met_at_first ranges span at d rising point inside =
    alike _ _
    (λ begins. list_any_at (λ r. meets span r) ranges at d inside
    (reaches (get_or ranges at d) (point.1 at d (omega arith) inside) begins))
    (λ some. by_test (leb (get_or ranges at d).first span.last) refl some)
  where
    reaches : (r : Bounds) → ltb r.last span.first ≡ false → leb r.first span.last ≡ true → meets span r ≡ true
    reaches r ends begins = grind (arith, nat_tests)

    each : leb (get_or ranges at d).first span.last ≡ false → (k : ℕ) (e : Bounds) → k < length ranges
        → meets span (get_or ranges k e) ≡ false
    each behind k e within =
        ⊎_elim
        (λ (early : k < at). below span (get_or ranges k e) (point.0 k e (omega arith) early))
        (λ (late : at ≤ k).
        let up = firsts_rise ranges rising at k e late within in
        let same = ap (λ (r : Bounds). r.first) (get_or_default ranges at e d inside) in
        let far : span.last < (get_or ranges at d).first = grind (arith, nat_tests) in
        above span (get_or ranges k e) (omega arith))
        (cases_lt k at)

    by_test : (b : Bool) → leb (get_or ranges at d).first span.last ≡ b → list_any (λ r. meets span r) ranges ≡ true
        → b ≡ true
    by_test true is some = refl
    by_test false is some = let none = list_any_none (λ r. meets span r) ranges (each is) in cc

pub met_by_none : (ranges : List Bounds) (span : Bounds) (at : ℕ)
    → IsPartitionPoint (λ r. ltb r.last span.first ≡ true) (λ r. ltb r.last span.first ≡ false) ranges at
    → length ranges ≤ at
    → list_any (λ r. meets span r) ranges ≡ false
met_by_none ranges span at point past = list_any_none (λ r. meets span r) ranges
    (λ k d within. below span (get_or ranges k d) (point.0 k d (omega arith) (omega arith)))

-- one of them passes a test, where the last does: a test that what reaches further passes too
pub by_last : (p : Bounds → Bool) (ranges : List Bounds) (last : Bounds) → are_rising ranges ≡ true
    → slice_get ranges (length ranges - 1) ≡ Some last
    → ((r : Bounds) → r.last ≤ last.last → p r ≡ true → p last ≡ true) → p last ≡ list_any p ranges
by_last p ranges last rising is further =
    alike (p last) (list_any p ranges)
    (λ passes. list_any_at p ranges (length ranges - 1) last inside (ap p (here last) ∙ passes))
    (λ some. by_test (p last) refl some)
  where
    inside : length ranges - 1 < length ranges
    inside = slice_get_within ranges (length ranges - 1) last is

    here : (d : Bounds) → get_or ranges (length ranges - 1) d ≡ last
    here d = get_or_from_slice_get ranges (length ranges - 1) last d is

    each : p last ≡ false → (k : ℕ) (d : Bounds) → k < length ranges → p (get_or ranges k d) ≡ false
    each fails k d within =
        false_else _ (λ passes. clash _ fails (further (get_or ranges k d)
        (rw (here d) at (lasts_rise ranges rising k (length ranges - 1) d (omega arith) inside)) passes))

    by_test : (b : Bool) → p last ≡ b → list_any p ranges ≡ true → b ≡ true
    by_test true is some = refl
    by_test false is some = absurd (clash _ (list_any_none p ranges (each is)) some)

-- a page table that ends in a range doesn't translate its last address, nor the last of what reaches further
beyond_end : (k : ObjectKind) (r : Bounds) → r.first < r.last → r.last ≤ 0xffff_ffff_ffff_ffff
    → meets_some (beyond_table k) (record { first = r.last; last = r.last }) ≡ meets_some (beyond_table k) r
beyond_end kind.Ioas r own fits = refl
beyond_end (kind.Hwpt ioas width automatic) r own fits =
    far (2 ^ bits_of width) r.first r.last 0xffff_ffff_ffff_ffff own fits
  where
    far : (e a b m : ℕ) → a < b → b ≤ m → ((leb e b && leb b m) || false) ≡ ((leb e b && leb a m) || false)
    far e a b m own fits = grind (arith, nat_tests)
beyond_end (kind.Device device) r own fits = refl
beyond_end (kind.Access attached) r own fits = refl

beyond_further : (k : ObjectKind) (r last : Bounds) → r.last ≤ last.last → last.first < last.last
    → last.last ≤ 0xffff_ffff_ffff_ffff → meets_some (beyond_table k) r ≡ true → meets_some (beyond_table k) last ≡ true
beyond_further kind.Ioas r last further own fits ends = cc
beyond_further (kind.Hwpt ioas width automatic) r last further own fits ends =
    far (2 ^ bits_of width) r.first r.last last.first last.last 0xffff_ffff_ffff_ffff further own fits ends
  where
    far : (e a b c d m : ℕ) → b ≤ d → c < d → d ≤ m → ((leb e b && leb a m) || false) ≡ true
        → ((leb e d && leb c m) || false) ≡ true
    far e a b c d m further own fits ends = grind (arith, nat_tests)
beyond_further (kind.Device device) r last further own fits ends = cc
beyond_further (kind.Access attached) r last further own fits ends = cc

-- page tables that translate the last address of the last one translate all of them
pub lacks_last : (tables : List Hwpt) (file : FileNo) (ioas : ObjId) (ranges : List Bounds) (last : Bounds)
    → are_rising ranges ≡ true → slice_get ranges (length ranges - 1) ≡ Some last → last.last ≤ 0xffff_ffff_ffff_ffff
    → list_any (λ (h : Hwpt). ends_in file ioas (record { first = last.last; last = last.last }) h.object)
    tables ≡ list_any (λ range. list_any (λ (h : Hwpt). ends_in file ioas range h.object) tables) ranges
lacks_last tables file ioas ranges last rising is fits =
    any_alike (λ (h : Hwpt). ends_in file ioas (record { first = last.last; last = last.last }) h.object)
    (λ (h : Hwpt). ends_in file ioas last h.object)
    (λ h. ap (λ b. (eqb h.object.file.0 file.0 && is_hwpt_over ioas h.object.kind) && b)
    (beyond_end h.object.kind last own fits)) tables
    ∙ by_last (λ range. list_any (λ (h : Hwpt). ends_in file ioas range h.object) tables) ranges last rising is
    (λ r further some. any_weaker (λ (h : Hwpt). ends_in file ioas r h.object)
    (λ (h : Hwpt). ends_in file ioas last h.object) tables
    (λ h ends.
    let both = and_true (eqb h.object.file.0 file.0 && is_hwpt_over ioas h.object.kind)
    (meets_some (beyond_table h.object.kind) r) ends in
    both_true _ _ both.0 (beyond_further h.object.kind r last further own fits both.1)) some)
  where
    own : last.first < last.last
    own = rw (get_or_from_slice_get ranges (length ranges - 1) last last is) at
        (own_at ranges rising (length ranges - 1) last (slice_get_within ranges (length ranges - 1) last is))
