-- An address space has few usable ranges: at most one more than there are spans that can't be used, of which each page
-- table over it gives one, and each device attached to it 17 at most.
use Rattle.std.proofs.Common.{◌≡◌, ◌≤◌, ◌<◌, ◌∙◌, ℕ, ◌+◌, ◌*◌, ◌^◌, suc, zero, Bool, true, false, cond, ◌&&◌, ◌||◌}
use Rattle.std.proofs.Common.{not, ltb, leb, eqb, None, List, [], ◌∷◌, ◌++◌, length, refl, sym, ap, arith}
use Rattle.std.specs.List.{count_by, filter, list_all, slice_get}
use Rattle.std.proofs.lemmas.Bool.Decides.{nat_tests}
use Rattle.std.proofs.lemmas.List.{length-append}
use Rattle.std.proofs.lemmas.List.Concat.{length-flat_map}
use Rattle.std.proofs.lemmas.List.Sums.{count_by-le-length, length-filter, sum_by-le, sum_by-le-sum_by}
use Rattle.iofd_rows.proofs.Bools.{and_true, both_false, or_false}
use Rattle.iofd_rows.proofs.PageCounts.{count-cons}
use Rattle.iofd_runs.specs.Few.{RowsFew}
use Rattle.iofd_runs.specs.Fits.{RowsFit, devices_rise}
use Rattle.iofd_words.specs.Attachments.{is_attached_to}
use Rattle.iofd_words.specs.Bounds.{Bounds}
use Rattle.iofd_words.specs.Files.{device_of, is_device, numbered}
use Rattle.iofd_words.specs.Limits.{first_outside}
use Rattle.iofd_steps.specs.Look.{AreUsableRanges}
use Rattle.iofd_words.specs.Objects.{is_hwpt_over}
use Rattle.iofd_words.specs.Ranges.{AreMergedFrom, in_spans}
use Rattle.iofd_words.specs.Settings.{DeviceSettings, Settings, is_device_in_limits, is_reserved_span}
use Rattle.iofd_words.specs.Span.{holds}
use Rattle.iofd_words.specs.Usable.{beyond_table, beyond_tables, interrupt_range, reserved_in, reserved_of}
use Rattle.iofd_words.specs.View.{view}
use Rattle.iofd_words.specs.World.{World}
use Rattle.iofd_words.specs.declared.numbers.DeviceNo.{DeviceNo}
use Rattle.iofd_words.specs.declared.numbers.FileNo.{FileNo}
use Rattle.iofd_words.specs.declared.numbers.ObjId.{ObjId}
use Rattle.iofd_words.specs.declared.rows.Attachment.{Attachment}
use Rattle.iofd_words.specs.declared.rows.Object.{Object}
use Rattle.iofd_words.specs.declared.rows.ObjectKind.{ObjectKind}
use Rattle.iofd_words.specs.declared.rows.ObjectKind.TheVariants as kind
use Rattle.iova_ranges.proofs.Merged.{below-out}
use Rattle.server_state.proofs.DevicesOn.{devices_inside, few_attached}

-- ---- merged spans of all numbers that lie in no hole

-- what ends above a number ends above each lower one
ends_above : (low high n : ℕ) → low ≤ high → cond (ltb high n) 1 0 ≤ cond (ltb low n) 1 0
ends_above low high n less = grind (arith, nat_tests)

-- a hole that holds the number behind the first one, and not the second one, ends between them
ends_between : (low start high : ℕ) (hole : Bounds) → low + 1 < start → start ≤ high → holds hole (low + 1) ≡ true
    → holds hole start ≡ false → cond (ltb high hole.last) 1 0 + 1 ≤ cond (ltb low hole.last) 1 0
ends_between low start high hole below within inside outside = grind (arith, nat_tests)

-- so fewer holes end above a span than above the one before it
fewer_above : (low start high : ℕ) (holes : List Bounds) → low + 1 < start → start ≤ high
    → in_spans holes (low + 1) ≡ true → in_spans holes start ≡ false
    → count_by (λ (h : Bounds). ltb high h.last) holes + 1 ≤ count_by (λ (h : Bounds). ltb low h.last) holes
fewer_above low start high [] below within inside outside = cc
fewer_above low start high (hole ∷ holes) below within inside outside =
    let out = or_false (holds hole start) (in_spans holes start) outside in
    let above = count-cons (λ (h : Bounds). ltb high h.last) hole holes in
    let all = count-cons (λ (h : Bounds). ltb low h.last) hole holes in
    rw (above, all) (by_hole (holds hole (low + 1)) refl inside out.0
    (λ later. fewer_above low start high holes below within later out.1))
  where
    by_hole : (b : Bool) → holds hole (low + 1) ≡ b → (b || in_spans holes (low + 1)) ≡ true
        → holds hole start ≡ false
        → (in_spans holes (low + 1) ≡ true → count_by (λ (h : Bounds). ltb high h.last) holes + 1
        ≤ count_by (λ (h : Bounds). ltb low h.last) holes)
        → cond (ltb high hole.last) 1 0 + count_by (λ (h : Bounds). ltb high h.last) holes + 1
        ≤ cond (ltb low hole.last) 1 0 + count_by (λ (h : Bounds). ltb low h.last) holes
    by_hole true is inside out later =
        let here = ends_between low start high hole below within is out in
        let rest = sum_by-le-sum_by (λ (h : Bounds). cond (ltb high h.last) 1 0)
        (λ (h : Bounds). cond (ltb low h.last) 1 0) holes
        (λ (h : Bounds). ends_above low high h.last (omega (arith, below, within))) in
        omega (arith, here, rest)
    by_hole false is inside out later =
        let here = ends_above low high hole.last (omega (arith, below, within)) in
        let rest = later inside in
        omega (arith, here, rest)

-- where a set has a number, and not a lower one, this one lies in a hole
in_hole : (a b c d in_low in_high : Bool) → (d ≡ true → c ≡ true) → a ≡ (c && not in_low) → b ≡ (d && not in_high)
    → a ≡ false → b ≡ true → (in_low ≡ true) × (in_high ≡ false)
in_hole a b c false in_low in_high lower low_is high_is out within = cc
in_hole a b c true in_low true lower low_is high_is out within = cc
in_hole a b false true in_low false lower low_is high_is out within = let never = lower refl in cc
in_hole a b true true true false lower low_is high_is out within = (refl, refl)
in_hole a b true true false false lower low_is high_is out within = cc

below_end : (low high end : ℕ) → low < high → ltb high end ≡ true → ltb low end ≡ true
below_end low high end less is = grind (arith, nat_tests)

-- a number behind each span but the last is left out, and each of these lies in a hole of its own
parted : (low end : ℕ) (holes : List Bounds) (span : Bounds) (spans : List Bounds) → AreMergedFrom low (span ∷ spans)
    → ((n : ℕ) → span.first ≤ n → in_spans (span ∷ spans) n ≡ (ltb n end && not (in_spans holes n)))
    → length spans ≤ count_by (λ (h : Bounds). ltb span.last h.last) holes
parted low end holes span [] merged has = omega arith
parted low end holes span (next ∷ spans) merged has =
    let ordered = merged.1 in
    let apart : span.last + 2 ≤ next.first = merged.2.0 in
    let long : next.first ≤ next.last = merged.2.1 in
    let behind = below-out (span.last + 2) (next ∷ spans) merged.2 (span.last + 1) (omega arith) in
    let out : in_spans (span ∷ next ∷ spans) (span.last + 1) ≡ false =
    both_false _ _ (passed span (span.last + 1) (omega arith)) behind in
    let within : in_spans (span ∷ next ∷ spans) next.first ≡ true = later_too span next spans long in
    let hole = in_hole _ _ (ltb (span.last + 1) end) (ltb next.first end) (in_spans holes (span.last + 1))
    (in_spans holes next.first) (below_end (span.last + 1) next.first end (omega (arith, apart)))
    (has (span.last + 1) (omega (arith, ordered))) (has next.first (omega (arith, ordered, apart))) out within in
    let fewer = fewer_above span.last next.first next.last holes (omega (arith, apart)) long hole.0 hole.1 in
    let rest = parted (span.last + 2) end holes next spans merged.2
    (λ n from. ap (λ (b : Bool). b || in_spans (next ∷ spans) n) (sym (passed span n (omega (arith, apart, from))))
    ∙ has n (omega (arith, ordered, apart, from))) in
    omega (arith, fewer, rest)
  where
    passed : (span : Bounds) (n : ℕ) → span.last < n → holds span n ≡ false
    passed span n above = grind (arith, nat_tests)

    later_too : (span next : Bounds) (spans : List Bounds) → next.first ≤ next.last
        → in_spans (span ∷ next ∷ spans) next.first ≡ true
    later_too span next spans long = grind (arith, nat_tests)

-- at most one span more than there are holes
few_spans : (end : ℕ) (holes spans : List Bounds) → AreMergedFrom 0 spans
    → ((n : ℕ) → in_spans spans n ≡ (ltb n end && not (in_spans holes n))) → length spans ≤ length holes + 1
few_spans end holes [] merged has = omega arith
few_spans end holes (span ∷ spans) merged has =
    let some = parted 0 end holes span spans merged (λ n from. has n) in
    let all = count_by-le-length (λ (h : Bounds). ltb span.last h.last) holes in
    omega (arith, some, all)

-- ---- the spans of an address space that can't be used

-- each device keeps 17 spans at most
few_reserved : (settings : Settings) (device : DeviceNo) → first_outside settings ≡ None
    → length (reserved_of (device_of settings device)) ≤ 17
few_reserved settings device inside = by_number device.0
  where
    by_place : (devices : List DeviceSettings) (i : ℕ) → list_all is_device_in_limits devices ≡ true
        → length (reserved_of (slice_get devices i)) ≤ 17
    by_place [] i all = omega arith
    by_place (d ∷ devices) zero all =
        let own = (and_true (is_device_in_limits d) (list_all is_device_in_limits devices) all).0 in
        by_mark d.x86 (and_true (leb (length d.reserved) 16) (list_all is_reserved_span d.reserved) own).0
      where
        by_mark : (x86 : Bool) → leb (length d.reserved) 16 ≡ true
            → length (cond x86 (interrupt_range ∷ d.reserved) d.reserved) ≤ 17
        by_mark true few = search (few, arith, nat_tests)
        by_mark false few = search (few, arith, nat_tests)
    by_place (d ∷ devices) (suc i) all =
        by_place devices i (and_true (is_device_in_limits d) (list_all is_device_in_limits devices) all).1

    by_number : (n : ℕ) → length (reserved_of (numbered settings.devices n)) ≤ 17
    by_number zero = omega arith
    by_number (suc i) = by_place settings.devices i (devices_inside settings inside).1

-- of 256 devices at most
few_kept : (settings : Settings) (objects : List Object) (attachments : List Attachment) (file : FileNo) (ioas : ObjId)
    → first_outside settings ≡ None → devices_rise attachments ≡ true
    → list_all (λ (a : Attachment). is_device settings a.device) attachments ≡ true
    → length (reserved_in settings objects attachments file ioas) ≤ 256 * 17
few_kept settings objects attachments file ioas inside rise known =
    let on = filter (is_attached_to objects file ioas) attachments in
    let kept = λ (a : Attachment). reserved_of (device_of settings a.device) in
    let each = sum_by-le (λ (a : Attachment). length (kept a)) 17 on (λ i d within. few_reserved settings _ inside) in
    let all = count_by-le-length (is_attached_to objects file ioas) attachments in
    let some = few_attached settings attachments inside rise known in
    let many = length-filter (is_attached_to objects file ioas) attachments in
    omega (arith, length-flat_map kept on, each, many, all, some)

-- a page table has one, and the others none
few_beyond : (objects : List Object) (file : FileNo) (ioas : ObjId)
    → length (beyond_tables objects file ioas) ≤ count_by (λ (o : Object). eqb o.file.0 file.0) objects
few_beyond objects file ioas =
    let is_over = λ (o : Object). eqb o.file.0 file.0 && is_hwpt_over ioas o.kind in
    let beyond = λ (o : Object). beyond_table o.kind in
    let each = sum_by-le (λ (o : Object). length (beyond o)) 1 (filter is_over objects) (λ i d within. at_most_one _) in
    let own = sum_by-le-sum_by (λ (o : Object). cond (is_over o) 1 0) (λ (o : Object). cond (eqb o.file.0 file.0) 1 0)
    objects (λ o. less (eqb o.file.0 file.0) (is_hwpt_over ioas o.kind)) in
    omega (arith, length-flat_map beyond (filter is_over objects), each, length-filter is_over objects, own)
  where
    at_most_one : (k : ObjectKind) → length (beyond_table k) ≤ 1
    at_most_one kind.Ioas = omega arith
    at_most_one (kind.Hwpt over width automatic) = omega arith
    at_most_one (kind.Device device) = omega arith
    at_most_one (kind.Access attached) = omega arith

    less : (own over : Bool) → cond (own && over) 1 0 ≤ cond own 1 0
    less true true = omega arith
    less true false = omega arith
    less false over = omega arith

-- ---- so there are few usable ranges

pub few_ranges : (w : World) (file : FileNo) (ioas : ObjId) (ranges : List Bounds) → first_outside w.settings ≡ None
    → RowsFit w → RowsFew w → AreUsableRanges (view w) file ioas ranges → length ranges < 2 ^ 32
few_ranges w file ioas ranges inside fit few are =
    let beyond = beyond_tables w.objects file ioas in
    let kept = reserved_in w.settings w.objects w.attachments file ioas in
    let spans = few_spans (2 ^ 64) (beyond ++ kept) ranges are.merged are.set in
    let tables = few_beyond w.objects file ioas in
    let devices = few_kept w.settings w.objects w.attachments file ioas inside fit.rise fit.attached in
    omega (arith, spans, length-append beyond kept, tables, few.objects file, devices)
