-- Areas and allowed ranges lie in addresses that can be used: so a device narrows just those that it leaves out itself.
use Rattle.std.proofs.Common.{◌≡◌, Bool, true, false, ◌||◌, eqb, Option, Some, None, sym, List, [], ◌∷◌, ◌++◌, map}
use Rattle.std.proofs.Common.{refl, ap, ◌∙◌, inl, inr, ◌&&◌, arith, if◌then◌else◌}
use Rattle.std.specs.List.{list_any}
use Rattle.std.proofs.lemmas.Bool.Decides.{nat_tests}
use Rattle.std.proofs.lemmas.List.Folds.{list_any-append}
use Rattle.iofd_rows.proofs.Bools.{and_true, clash, not_true, or_false, or_none}
use Rattle.iofd_rows.proofs.Each.{IsIn, in_filter, of_any, of_each}
use Rattle.iofd_rows.proofs.ListTests.{false_else}
use Rattle.iofd_rows.proofs.Named.{file_is, id_is}
use Rattle.iofd_runs.specs.InUsable.{AreasUsable, is_in_usable}
use Rattle.iofd_words.specs.Allowed.{allowed_of}
use Rattle.iofd_words.specs.Areas.{areas_meet, areas_of, is_of}
use Rattle.iofd_words.specs.Bounds.{Bounds}
use Rattle.iofd_refusals.specs.Checks.{narrows, narrows_by_width, narrows_without, unusable_in}
use Rattle.iofd_words.specs.Ranges.{meets_some}
use Rattle.iofd_words.specs.Settings.{DeviceSettings}
use Rattle.iofd_words.specs.Span.{meets}
use Rattle.iofd_words.specs.Usable.{beyond, interrupt_range, reserved_by, unusable}
use Rattle.iofd_words.specs.View.{View, view}
use Rattle.iofd_words.specs.World.{World}
use Rattle.iofd_words.specs.declared.numbers.FileNo.{FileNo}
use Rattle.iofd_words.specs.declared.numbers.ObjId.{ObjId}
use Rattle.iofd_words.specs.declared.rows.Area.{Area}
use Rattle.iofd_words.specs.declared.width.Width.{Width}
use Rattle.server_state.proofs.ViewShown.{same_view}
use Rattle.server_state.specs.Held.{areas_at}
use Rattle.server_state.specs.Seen.{seen}
use Rattle.server_state.specs.Step.{IsKnown}
use Rattle.server_state.specs.declared.state.State.{State}

any_alike : {X : Type 0} (p q : X → Bool) (xs : List X) → ((x : X) → IsIn xs x → p x ≡ q x)
    → list_any p xs ≡ list_any q xs
any_alike p q [] same = refl
any_alike p q (x ∷ xs) same = rw (same x (inl refl), any_alike p q xs (λ y later. same y (inr later))) refl

any-spans : (test : Bounds → Bool) (areas : List Area)
    → list_any test (map (λ (a : Area). a.span) areas) ≡ list_any (λ (a : Area). test a.span) areas
any-spans test [] = refl
any-spans test (a ∷ areas) = ap (λ b. test a.span || b) (any-spans test areas)

-- what can be used already meets none but those that go besides
one_alike : (spans bars : List Bounds) (span : Bounds) → meets_some bars span ≡ false
    → meets_some (spans ++ bars) span ≡ meets_some spans span
one_alike spans bars span clear =
    list_any-append (λ (one : Bounds). meets one span) spans bars ∙ rw clear (or_none (meets_some spans span))

in_space : (w : World) (file : FileNo) (ioas : ObjId) (area : Area) → AreasUsable w
    → IsIn (areas_of w.areas file ioas) area → meets_some (unusable_in (view w) file ioas) area.span ≡ false
in_space w file ioas area usable within =
    let own = in_filter (is_of file ioas) w.areas area within in
    let numbers = and_true (eqb area.file.0 file.0) (eqb area.ioas.0 ioas.0) own.1 in
    let clear : meets_some (unusable w.settings w.objects w.attachments area.file area.ioas) area.span ≡ false =
    not_true _ (of_each (is_in_usable w) w.areas area usable.usable own.0) in
    rw (file_is area.file file numbers.0, id_is area.ioas ioas numbers.1) at clear

-- none of the ranges that it allows meets those either
allowed_clear : (w : World) (file : FileNo) (ioas : ObjId) (range : Bounds) → AreasUsable w
    → IsIn (allowed_of w.allowed file ioas) range → meets_some (unusable_in (view w) file ioas) range ≡ false
allowed_clear w file ioas range usable within =
    false_else (meets_some (unusable_in (view w) file ioas) range)
    (λ met. clash _ (usable.ranges file ioas)
    (of_any (meets_some (unusable_in (view w) file ioas)) (allowed_of w.allowed file ioas) range within met))

world_narrows : (w : World) (file : FileNo) (ioas : ObjId) (spans : List Bounds) → AreasUsable w
    → narrows_without (view w) file ioas spans ≡ (list_any (λ (a : Area). meets_some spans a.span)
    (areas_of w.areas file ioas) || list_any (meets_some spans) (allowed_of w.allowed file ioas))
world_narrows w file ioas spans usable =
    let bars : List Bounds = spans ++ unusable_in (view w) file ioas in
    let areas : list_any (meets_some bars) (map (λ (a : Area). a.span) (areas_of w.areas file ioas)) ≡ list_any
    (λ (a : Area). meets_some spans a.span) (areas_of w.areas file ioas) =
    any-spans (meets_some bars) (areas_of w.areas file ioas)
    ∙ any_alike (λ (a : Area). meets_some bars a.span) (λ (a : Area). meets_some spans a.span)
    (areas_of w.areas file ioas)
    (λ area within. one_alike spans (unusable_in (view w) file ioas) area.span
    (in_space w file ioas area usable within)) in
    let ranges : list_any (meets_some bars) (allowed_of w.allowed file ioas) ≡ list_any (meets_some spans)
    (allowed_of w.allowed file ioas) =
    any_alike (meets_some bars) (meets_some spans) (allowed_of w.allowed file ioas)
    (λ range within. one_alike spans (unusable_in (view w) file ioas) range
    (allowed_clear w file ioas range usable within)) in
    list_any-append (meets_some bars) (map (λ (a : Area). a.span) (areas_of w.areas file ioas))
    (allowed_of w.allowed file ioas)
    ∙ ap (λ b. b || list_any (meets_some bars) (allowed_of w.allowed file ioas)) areas
    ∙ ap (λ b. list_any (λ (a : Area). meets_some spans a.span) (areas_of w.areas file ioas) || b) ranges

-- ---- where nothing is left out

module _ (v : View) (file : FileNo) (ioas : ObjId) (width : Width) where
  fewer : (spans : List Bounds) (areas : List Area)
      → list_any (λ (a : Area). meets_some (beyond width ∷ spans) a.span) areas ≡ false
      → list_any (λ (a : Area). meets (beyond width) a.span) areas ≡ false
  fewer spans [] none = refl
  fewer spans (a ∷ areas) none =
      let parts = or_false (meets_some (beyond width ∷ spans) a.span)
      (list_any (λ (x : Area). meets_some (beyond width ∷ spans) x.span) areas) none in
      let here = or_false (meets (beyond width) a.span) (meets_some spans a.span) parts.0 in
      rw (here.0, fewer spans areas parts.1) refl

  -- no area reaches beyond the width
  pub wide_enough : (spans : List Bounds) → narrows_without v file ioas (beyond width ∷ spans) ≡ false
      → list_any (λ (a : Area). meets (beyond width) a.span) (v.areas_of file ioas) ≡ false
  wide_enough spans none =
      let bars : List Bounds = spans ++ unusable_in v file ioas in
      let all = sym (list_any-append (meets_some (beyond width ∷ bars))
      (map (λ (a : Area). a.span) (v.areas_of file ioas)) (v.allowed_of file ioas)) ∙ none in
      let areas = or_false (list_any (meets_some (beyond width ∷ bars))
      (map (λ (a : Area). a.span) (v.areas_of file ioas))) (list_any (meets_some (beyond width ∷ bars))
      (v.allowed_of file ioas)) all in
      fewer bars (v.areas_of file ioas) (sym (any-spans (meets_some (beyond width ∷ bars)) (v.areas_of file ioas))
      ∙ areas.0)

  -- by a device's settings
  pub wide_by_width : (o : Option DeviceSettings)
      → elim o as (λ _. Option Width) [ Some d ↦ Some d.width | None ↦ None ] ≡ Some width
      → narrows_by_width v file ioas o ≡ false
      → list_any (λ (a : Area). meets (beyond width) a.span) (v.areas_of file ioas) ≡ false
  wide_by_width None wide none = cc
  wide_by_width (Some d) wide none =
      let same : d.width ≡ width = cc in
      wide_enough [] (ap (λ (of : Width). narrows_without v file ioas (beyond of ∷ [])) (sym same) ∙ none)

  pub wide_attached : (o : Option DeviceSettings)
      → elim o as (λ _. Option Width) [ Some d ↦ Some d.width | None ↦ None ] ≡ Some width
      → narrows v file ioas o ≡ false → list_any (λ (a : Area). meets (beyond width) a.span)
      (v.areas_of file ioas) ≡ false
  wide_attached None wide none = cc
  wide_attached (Some d) wide none =
      let same : d.width ≡ width = cc in
      wide_enough (reserved_by d) (ap (λ (of : Width). narrows_without v file ioas (beyond of ∷ reserved_by d))
      (sym same) ∙ none)

-- ---- one test after the other

pub either_first : (here one other : Bool) → here ≡ one → here ≡ true → here ≡ (one || other)
either_first here true other is passes = passes
either_first here false other is passes = absurd (clash here is passes)

pub either_then : (here later one other : Bool) → here ≡ one → here ≡ false → later ≡ other → later ≡ (one || other)
either_then here later true other is fails same = absurd (clash here fails is)
either_then here later false other is fails same = same

pub no_area : (test : Area → Bool) (areas : List Area) → areas ≡ [] → list_any test areas ≡ false
no_area test areas none = rw none refl

module _ {A : Type 0} (s : State A) (file : FileNo) (ioas : ObjId) where
  -- an area or an allowed range is left out
  pub known_narrows : (spans : List Bounds) → IsKnown s
      → narrows_without (seen s) file ioas spans ≡ (list_any (λ (a : Area). meets_some spans a.span)
      (areas_at s.objects.rows file ioas) || list_any (meets_some spans) (allowed_of s.allowed.rows file ioas))
  known_narrows spans known =
      let w = known.world in
      ap (λ (v : View). narrows_without v file ioas spans) (same_view w s known.shows known.tidy.tabled.owned)
      ∙ world_narrows w file ioas spans known.tidy.usable
      ∙ ap (λ (areas : List Area). list_any (λ (a : Area). meets_some spans a.span) areas
      || list_any (meets_some spans) (allowed_of w.allowed file ioas)) (known.shows.objects.spaces file ioas)
      ∙ ap (λ (ranges : List Bounds). list_any (λ (a : Area). meets_some spans a.span)
      (areas_at s.objects.rows file ioas) || list_any (meets_some spans) ranges) (known.shows.allowed file ioas)

  -- by the width alone
  pub known_by_width : (width : Width) → IsKnown s
      → narrows_without (seen s) file ioas (beyond width ∷ []) ≡ (list_any (λ (a : Area). meets (beyond width) a.span)
      (areas_at s.objects.rows file ioas) || list_any (meets (beyond width)) (allowed_of s.allowed.rows file ioas))
  known_by_width width known =
      known_narrows (beyond width ∷ []) known
      ∙ ap (λ b. b || list_any (meets_some (beyond width ∷ [])) (allowed_of s.allowed.rows file ioas))
      (any_alike (λ (a : Area). meets_some (beyond width ∷ []) a.span) (λ (a : Area). meets (beyond width) a.span)
      (areas_at s.objects.rows file ioas) (λ a within. or_none (meets (beyond width) a.span)))
      ∙ ap (λ b. list_any (λ (a : Area). meets (beyond width) a.span) (areas_at s.objects.rows file ioas) || b)
      (any_alike (meets_some (beyond width ∷ [])) (meets (beyond width)) (allowed_of s.allowed.rows file ioas)
      (λ range within. or_none (meets (beyond width) range)))

-- ---- areas by the spans that a device leaves out

pub either : (p q : Area → Bool) (areas : List Area)
    → list_any (λ (area : Area). p area || q area) areas ≡ (list_any p areas || list_any q areas)
either p q [] = refl
either p q (area ∷ areas) =
    ap (λ b. (p area || q area) || b) (either p q areas)
    ∙ turned (p area) (q area) (list_any p areas) (list_any q areas)
  where
    turned : (a b c d : Bool) → ((a || b) || (c || d)) ≡ ((a || c) || (b || d))
    turned true b c d = refl
    turned false true true d = refl
    turned false true false d = refl
    turned false false c d = refl

meets_swap : (a b : Bounds) → meets a b ≡ meets b a
meets_swap a b = grind (arith, nat_tests)

any_same : (p q : Area → Bool) → ((area : Area) → p area ≡ q area) → (areas : List Area)
    → list_any p areas ≡ list_any q areas
any_same p q same [] = refl
any_same p q same (area ∷ areas) = rw (same area, any_same p q same areas) refl

-- the areas that a span meets, and those that meet it
pub met_by : (span : Bounds) (areas : List Area)
    → areas_meet span areas ≡ list_any (λ (area : Area). meets span area.span) areas
met_by span areas =
    any_same (λ area. meets area.span span) (λ area. meets span area.span) (λ area. meets_swap area.span span) areas

-- those that one of several spans meets
pub met_by_some : (spans : List Bounds) (areas : List Area)
    → list_any (λ (span : Bounds). areas_meet span areas) spans
    ≡ list_any (λ (area : Area). meets_some spans area.span) areas
met_by_some [] areas = sym (none areas)
  where
    none : (all : List Area) → list_any (λ (area : Area). false) all ≡ false
    none [] = refl
    none (area ∷ all) = none all
met_by_some (span ∷ spans) areas =
    ap (λ b. b || list_any (λ (one : Bounds). areas_meet one areas) spans) (met_by span areas)
    ∙ ap (λ b. list_any (λ (area : Area). meets span area.span) areas || b) (met_by_some spans areas)
    ∙ sym (either (λ area. meets span area.span) (λ area. meets_some spans area.span) areas)

-- the spans that a device keeps are its interrupt range, if it is an x86 one, and those that are reserved
pub met_by_kept : (device : DeviceSettings) (areas : List Area)
    → (device.x86 && areas_meet interrupt_range areas
    || list_any (λ (span : Bounds). areas_meet span areas) device.reserved)
    ≡ list_any (λ (area : Area). meets_some (reserved_by device) area.span) areas
met_by_kept device areas = by_mark device.x86 ∙ met_by_some (reserved_by device) areas
  where
    by_mark : (x86 : Bool)
        → (x86 && areas_meet interrupt_range areas
        || list_any (λ (span : Bounds). areas_meet span areas) device.reserved)
        ≡ list_any (λ (span : Bounds). areas_meet span areas)
        (if x86 then interrupt_range ∷ device.reserved else device.reserved)
    by_mark true = refl
    by_mark false = refl
