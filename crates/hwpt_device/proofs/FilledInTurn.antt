-- Areas are mapped in a page table one after the other.
use Rattle.std.proofs.Common.{◌≡◌, ℕ, ◌+◌, ◌*◌, ◌<◌, ◌≤◌, Bool, true, false, cond, ◌&&◌, leb, is_some, Option, Some}
use Rattle.std.proofs.Common.{None, inl, inr, List, [], ◌∷◌, ◌++◌, length, length-append, refl, ap, subst, sym, ◌∙◌}
use Rattle.std.proofs.Common.{arith}
use Rattle.std.specs.List.{find}
use Rattle.std.proofs.lemmas.Bool.Decides.{nat_tests}
use Rattle.std.proofs.lemmas.List.{append_assoc}
use Rattle.area_map_rows.specs.Areas.{AreApart, AreApartFrom}
use Rattle.frame_memory.specs.Pool.{FramePool, free_count}
use Rattle.page_table_set.proofs.Counted.{tables_append}
use Rattle.page_table_set.proofs.Missing.{frames_in_turn, held_more, missing_in_turn}
use Rattle.page_table_set.proofs.Staying.{all_told}
use Rattle.page_table_set.specs.OverSpans.{frames_for, with_missing}
use Rattle.page_table_set.specs.PageTables.{AllStand, Hwpt, tables_in}
use Rattle.iofd_rows.proofs.Bools.{and_true}
use Rattle.iofd_rows.proofs.Each.{IsIn, in_found}
use Rattle.iofd_words.specs.Objects.{is_object}
use Rattle.iofd_words.specs.Span.{holds}
use Rattle.iofd_words.specs.TablePlaces.{is_live, live_pages}
use Rattle.iofd_words.specs.Tables.{MissingTable, in_frames}
use Rattle.iofd_words.specs.declared.numbers.FileNo.{FileNo}
use Rattle.iofd_words.specs.declared.numbers.FrameNo.{FrameNo}
use Rattle.iofd_words.specs.declared.numbers.ObjId.{ObjId}
use Rattle.iofd_words.specs.declared.rows.Area.{Area}
use Rattle.iofd_words.specs.declared.rows.Object.{Object}
use Rattle.iofd_words.specs.declared.rows.TableFrame.{TableFrame}
use Rattle.iofd_words.specs.declared.width.Width.{Width}
use Rattle.server_state.specs.Leads.{lead_by, live_area_at}
use Rattle.page_table_spans.specs.Spans.{held_once}
use Rattle.page_table_words.specs.Rows.{MappedPage}
use Rattle.user_memory.specs.Memory.{Memory, pinned_frame}
use Rattle.hwpt_device.proofs.TablesInTurn.{live_in_turn, tables_in_turn}
use Rattle.hwpt_device.specs.Filling.{IsFilled, filled, tables_for, with_tables_for}

abbrev pub Leads : Type 0
Leads = Object → ℕ → Option MappedPage

-- ---- which area holds a page

pub found_in_turn : {X : Type 0} (p : X → Bool) (xs ys : List X)
    → find p (xs ++ ys) ≡ elim (find p xs) as (λ _. Option X) [ Some x ↦ Some x | None ↦ find p ys ]
found_in_turn p [] ys = refl
found_in_turn {X = X} p (x ∷ xs) ys = by_test (p x) (found_in_turn p xs ys)
  where
    by_test : (b : Bool) → find p (xs ++ ys) ≡ elim (find p xs) as (λ _. Option X)
        [ Some y ↦ Some y | None ↦ find p ys ]
        → cond b (Some x) (find p (xs ++ ys)) ≡ elim (cond b (Some x) (find p xs)) as (λ _. Option X)
        [ Some y ↦ Some y | None ↦ find p ys ]
    by_test true rest = refl
    by_test false rest = rest

-- each area of the first ones ends before the later ones begin
from_below : (low : ℕ) (areas : List Area) (a : Area) → AreApartFrom low areas → IsIn areas a → low ≤ a.span.first
from_below low [] a apart within = absurd within
from_below low (x ∷ areas) a apart (inl same) =
    let here = apart.0 in let is = ap (λ (y : Area). y.span.first) same in omega (arith, here, is)
from_below low (x ∷ areas) a apart (inr later) =
    let below = from_below (x.span.last + 1) areas a apart.2 later in
    let here = apart.0 in
    let ordered = apart.1 in
    omega (arith, below, here, ordered)

in_later : (done more : List Area) (a : Area) → IsIn more a → IsIn (done ++ more) a
in_later [] more a within = within
in_later (d ∷ done) more a within = inr (in_later done more a within)

ends_before : (low : ℕ) (done more : List Area) (a b : Area) → AreApartFrom low (done ++ more) → IsIn done a
    → IsIn more b → a.span.last < b.span.first
ends_before low [] more a b apart here there = absurd here
ends_before low (d ∷ done) more a b apart (inl same) there =
    let above = from_below (d.span.last + 1) (done ++ more) b apart.2 (in_later done more b there) in
    let is = ap (λ (x : Area). x.span.last) same in
    omega (arith, above, is)
ends_before low (d ∷ done) more a b apart (inr later) there =
    ends_before (d.span.last + 1) done more a b apart.2 later there

-- so no page is held by both
held_once_only : (page : ℕ) (done more : List Area) (a b : Area) → AreApart (done ++ more)
    → live_area_at page done ≡ Some a → live_area_at page more ≡ Some b → ⊥
held_once_only page done more a b apart first second =
    let one = in_found (λ (x : Area). is_live x.phase && holds x.span (page * 4096)) done a first in
    let two = in_found (λ (x : Area). is_live x.phase && holds x.span (page * 4096)) more b second in
    let before = ends_before 0 done more a b apart one.0 two.0 in
    let here : holds a.span (page * 4096) ≡ true = (and_true (is_live a.phase) (holds a.span (page * 4096)) one.1).1 in
    let there : holds b.span (page * 4096) ≡ true = (and_true (is_live b.phase) (holds b.span (page * 4096)) two.1).1 in
    let low = and_true (leb a.span.first (page * 4096)) (leb (page * 4096) a.span.last) here in
    let high = and_true (leb b.span.first (page * 4096)) (leb (page * 4096) b.span.last) there in
    grind (arith, nat_tests)

-- ---- where pages lead

module _ (file : FileNo) (id : ObjId) (m : Memory) where
  abbrev lead : ℕ → Option Area → Option MappedPage
  lead page o = lead_by (pinned_frame m) page o

  pub filled_in_turn : (done more : List Area) (leads : Leads) (object : Object) (page : ℕ) → AreApart (done ++ more)
      → filled file id m (done ++ more) leads object page ≡ filled file id m more
      (filled file id m done leads) object page
  filled_in_turn done more leads object page apart =
      ap (λ (o : Option Area). cond (is_object file id object && is_some o) (lead page o) (leads object page))
      (found_in_turn (λ (x : Area). is_live x.phase && holds x.span (page * 4096)) done more)
      ∙ by_tests (is_object file id object) (live_area_at page done) (live_area_at page more) refl refl
    where
      by_tests : (b : Bool) (x y : Option Area) → live_area_at page done ≡ x → live_area_at page more ≡ y
          → cond (b && is_some (elim x as (λ _. Option Area) [ Some a ↦ Some a | None ↦ y ]))
          (lead page (elim x as (λ _. Option Area) [ Some a ↦ Some a | None ↦ y ])) (leads object page)
          ≡ cond (b && is_some y) (lead page y) (cond (b && is_some x) (lead page x) (leads object page))
      by_tests false x y first second = refl
      by_tests true None None first second = refl
      by_tests true None (Some b) first second = refl
      by_tests true (Some a) None first second = refl
      by_tests true (Some a) (Some b) first second = absurd (held_once_only page done more a b apart first second)

-- ---- the tables and the page tables

module _ (object : Object) (width : Width) (m : Memory) (done more : List Area) (tables : List Hwpt)
    (before mid after : FramePool) (old between new : List FrameNo) (frames : List TableFrame) (leads : Leads)
    (is : IsFilled object width m done tables before mid old between frames leads) where
  abbrev firsts : List MissingTable
  firsts = tables_for frames object width (live_pages done)

  abbrev thens : List MissingTable
  thens = tables_for (with_tables_for frames object width done before.holds) object width (live_pages more)

  pub few : length firsts ≤ free_count before.holds
  few = let free = is.free in omega (arith, free)

  pub all_tables : tables_for frames object width (live_pages (done ++ more)) ≡ firsts ++ thens
  all_tables =
      ap (tables_for frames object width) (live_in_turn done more)
      ∙ tables_in_turn frames object width (live_pages done) (live_pages more) before.holds few

  pub as_many : length (tables_for frames object width (live_pages (done ++ more))) ≡ length firsts + length thens
  as_many = ap (λ (l : List MissingTable). length l) all_tables ∙ length-append firsts thens

  rows : with_missing (with_missing frames firsts before.holds) thens mid.holds ≡ with_tables_for frames object width
      (done ++ more) before.holds
  rows =
      ap (λ (held : List ℕ). with_missing (with_missing frames firsts before.holds) thens held) is.holds
      ∙ missing_in_turn before.holds firsts thens frames few
      ∙ ap (λ (l : List MissingTable). with_missing frames l before.holds) (sym all_tables)

  fewer_tables : (f : ℕ) → tables_in (with_tables_for frames object width (done ++ more) before.holds) f ≡ 0
      → tables_in (with_tables_for frames object width done before.holds) f ≡ 0
  fewer_tables f none =
      let parts =
      tables_append (with_missing frames firsts before.holds) (in_frames thens (frames_for thens mid.holds)) f in
      let all = ap (λ (l : List TableFrame). tables_in l f) rows in
      omega (arith, none, parts, all)

  -- more areas are mapped after the first ones
  pub more_filled : AreApart (done ++ more)
      → IsFilled object width m more tables mid after between new
      (with_tables_for frames object width done before.holds) (filled object.file object.id m done leads)
      → IsFilled object width m (done ++ more) tables before after old new frames leads
  more_filled apart then = record {
    stand =
        subst (λ (l : List TableFrame). AllStand after l (filled object.file object.id m (done ++ more) leads) tables)
        rows
        (all_told after (with_missing (with_missing frames firsts before.holds) thens mid.holds)
        (filled object.file object.id m more (filled object.file object.id m done leads))
        (filled object.file object.id m (done ++ more) leads) tables then.stand
        (λ h within page. filled_in_turn object.file object.id m done more leads h.object page apart));
    others = λ f none.
        then.others f (ap (λ (l : List TableFrame). tables_in l f) rows ∙ none) ∙ is.others f (fewer_tables f none);
    holds =
        then.holds
        ∙ ap (λ (held : List ℕ). held_once held (frames_for thens held)) is.holds
        ∙ sym (held_more before.holds firsts thens)
        ∙ ap (λ (l : List MissingTable). held_once before.holds (frames_for l before.holds)) (sym all_tables);
    free = let one = is.free in let two = then.free in let many = as_many in omega (arith, one, two, many);
    out =
        then.out
        ∙ ap (λ (l : List FrameNo). l ++ frames_for thens mid.holds) is.out
        ∙ append_assoc old (frames_for firsts before.holds) (frames_for thens mid.holds)
        ∙ ap (λ (held : List ℕ). old ++ (frames_for firsts before.holds ++ frames_for thens held)) is.holds
        ∙ ap (λ (l : List FrameNo). old ++ l) (sym (frames_in_turn before.holds firsts thens))
        ∙ ap (λ (l : List MissingTable). old ++ frames_for l before.holds) (sym all_tables);
  }
