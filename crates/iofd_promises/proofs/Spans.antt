-- Where areas lie: below 2^64, and below the width of each page table over them.
use Rattle.std.proofs.Common.{◌≡◌, ◌<◌, ◌≤◌, ℕ, ◌+◌, ◌-◌, ◌^◌, Bool, true, false, ◌&&◌, ◌||◌, eqb, leb, ltb, List, None}
use Rattle.std.proofs.Common.{refl, sym, ◌∙◌, arith}
use Rattle.std.specs.List.{list_all, list_any}
use Rattle.std.proofs.lemmas.Bool.Decides.{nat_tests}
use Rattle.iofd_words.specs.Bounds.{Bounds}
use Rattle.iofd_words.specs.Objects.{is_hwpt_over}
use Rattle.iofd_words.specs.Pages.{is_above_sum}
use Rattle.iofd_words.specs.Ranges.{meets_some}
use Rattle.iofd_steps.specs.Run.{IsRun, world_of}
use Rattle.iofd_words.specs.Record.{Record}
use Rattle.iofd_words.specs.Settings.{Settings}
use Rattle.iofd_words.specs.Tables.{with_tables}
use Rattle.iofd_words.specs.Usable.{beyond_table, unusable}
use Rattle.iofd_words.specs.Width.{bits_of}
use Rattle.iofd_words.specs.World.{World, opening}
use Rattle.iofd_words.specs.declared.numbers.ObjId.{ObjId}
use Rattle.iofd_words.specs.declared.rows.Area.{Area}
use Rattle.iofd_words.specs.declared.rows.Object.{Object}
use Rattle.iofd_words.specs.declared.rows.ObjectKind.{ObjectKind}
use Rattle.iofd_words.specs.declared.rows.ObjectKind.TheVariants as kind
use Rattle.iofd_words.specs.declared.width.Width.{Width}
use Rattle.iofd_rows.proofs.Bools.{and_true, both_true, clash, not_true, or_false}
use Rattle.iofd_rows.proofs.Each.{IsIn, of_each}
use Rattle.iofd_rows.proofs.Unusable.{by_rows, each_not}
use Rattle.iofd_rows.specs.Reached.{ends_in, keeps_of}
use Rattle.iofd_runs.specs.InUsable.{AreasUsable, is_in_usable}
use Rattle.iofd_runs.proofs.Runs.{run_keeps}
use Rattle.iofd_runs.proofs.Moves.{changed_moves, all_areas}
use Rattle.iofd_runs.proofs.MappedAt.{LiesAt}
use Rattle.iofd_runs.proofs.NotRefused.{PlacePassed}
use Rattle.iofd_steps.specs.After.{changed, mapped_area}
use Rattle.iofd_steps.specs.Answers.{Answers}
use Rattle.iofd_words.specs.Areas.{with_phase}
use Rattle.iofd_refusals.specs.Checks.{refusal}
use Rattle.iofd_words.specs.View.{view}
use Rattle.iofd_words.specs.declared.event.Event.{Event}
use Rattle.iofd_words.specs.declared.event.MapRequest.{MapRequest}
use Rattle.iofd_words.specs.declared.numbers.FileNo.{FileNo}
use Rattle.iofd_words.specs.declared.numbers.Iova.{Iova}
use Rattle.iofd_words.specs.declared.reply.Reply.{Reply}
use Rattle.iofd_words.specs.declared.rows.Phase.{Phase}

-- what holds of each area, whatever its phase
module _ (p : Area → Bool) (phases : (phase : Phase) (area : Area) → p area ≡ true → p (with_phase phase area) ≡ true)
    (places : (w : World) (memory : ℕ) (file : FileNo) (request : MapRequest) (iova : Iova)
    → PlacePassed (view w) file request → LiesAt (view w) file request iova.0
    → p (mapped_area memory file request iova) ≡ true) where
  pub areas_keep : {A : Type 0} → (at : ℕ) (w : World) (e : Event A) (answer : Reply) → refusal w e ≡ None
      → Answers w e answer → list_all p w.areas ≡ true → list_all p (changed at w e answer).areas ≡ true
  areas_keep at w e answer none answers all =
      all_areas p phases at w e answer (changed at w e answer) (changed_moves at w e answer).areas
      (λ number file request iova passed lies alike under. places w number file request iova (passed none)
      (lies none answers)) all

-- it begins no later than it ends, below 2^64
abbrev pub is_bounded : Area → Bool
is_bounded area = leb area.span.first area.span.last && ltb area.span.last (2 ^ 64)

placed_bounded : (iova length : ℕ) → is_above_sum iova length ≡ false → eqb length 0 ≡ false
    → (leb iova (iova + length - 1) && ltb (iova + length - 1) (2 ^ 64)) ≡ true
placed_bounded iova length sum some =
    let above : 1 ≤ length = search (some, arith, nat_tests) in
    let below : iova + length ≤ 2 ^ 64 = search (sum, arith, nat_tests) in
    let first : iova ≤ iova + length - 1 = omega (arith, above) in
    let last : iova + length - 1 < 2 ^ 64 = omega (arith, above, below) in
    let begins : leb iova (iova + length - 1) ≡ true = search (first, arith, nat_tests) in
    let ends : ltb (iova + length - 1) (2 ^ 64) ≡ true = search (last, arith, nat_tests) in
    both_true _ _ begins ends

pub bounded_of : {A : Type 0} (settings : Settings) (records : List (Record A)) → IsRun settings records
    → list_all is_bounded (world_of settings records).areas ≡ true
unfolding IsRun world_of with_tables
bounded_of settings records run =
    run_keeps (λ w. list_all is_bounded w.areas ≡ true) (λ w taken given p. p)
    (areas_keep is_bounded (λ phase area is. is)
    (λ w memory file request iova passed lies. placed_bounded iova.0 request.length lies.sum passed.some))
    0 (opening settings) records run refl

-- ---- below the width of a page table

kind_meets : (k : ObjectKind) (ioas : ObjId) (width : Width) (automatic : Bool) (span : Bounds)
    → k ≡ kind.Hwpt ioas width automatic → 2 ^ bits_of width ≤ span.last → span.first < 2 ^ 64
    → (is_hwpt_over ioas k ≡ true) × (meets_some (beyond_table k) span ≡ true)
kind_meets k ioas width automatic span is above low =
    let own : eqb ioas.0 ioas.0 ≡ true = search (arith, nat_tests) in
    let ends : leb (2 ^ bits_of width) span.last ≡ true = search (above, arith, nat_tests) in
    let begins : leb span.first 0xffff_ffff_ffff_ffff ≡ true = search (low, arith, nat_tests) in
    rw is (own, rw (ends, begins) refl)

-- an area in usable addresses ends below 2^39 or 2^48, by the width of a page table of its address space
pub below_width : (w : World) (area : Area) (object : Object) (width : Width) (automatic : Bool) → AreasUsable w
    → list_all is_bounded w.areas ≡ true → IsIn w.areas area → IsIn w.objects object
    → object.file ≡ area.file → object.kind ≡ kind.Hwpt area.ioas width automatic → area.span.last < 2 ^ bits_of width
below_width w area object width automatic usable bounded within there of_file is =
    by_test (ltb area.span.last (2 ^ bits_of width)) refl
  where
    clear : meets_some (unusable w.settings w.objects w.attachments area.file area.ioas) area.span ≡ false
    clear = not_true _ (of_each (is_in_usable w) w.areas area usable.usable within)

    rows : (list_any (ends_in area.file area.ioas area.span) w.objects
        || list_any (keeps_of w.settings w.objects area.file area.ioas area.span) w.attachments) ≡ false
    rows = sym (by_rows w.settings w.objects w.attachments area.file area.ioas area.span) ∙ clear

    none : ends_in area.file area.ioas area.span object ≡ false
    none = each_not (ends_in area.file area.ioas area.span) w.objects object (or_false _ _ rows).0 there

    by_test : (b : Bool) → ltb area.span.last (2 ^ bits_of width) ≡ b → area.span.last < 2 ^ bits_of width
    by_test true below = search (below, arith, nat_tests)
    by_test false below =
        let parts = and_true (leb area.span.first area.span.last) (ltb area.span.last (2 ^ 64))
        (of_each is_bounded w.areas area bounded within) in
        let above : 2 ^ bits_of width ≤ area.span.last = search (below, arith, nat_tests) in
        let low : area.span.first < 2 ^ 64 = search (parts.0, parts.1, arith, nat_tests) in
        let meets = kind_meets object.kind area.ioas width automatic area.span is above low in
        let same : eqb object.file.0 area.file.0 ≡ true = rw of_file (search (arith, nat_tests)) in
        absurd (clash _ none (both_true _ _ (both_true _ _ same meets.0) meets.1))
