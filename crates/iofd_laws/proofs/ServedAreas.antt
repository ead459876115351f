-- Each page table has the tables through which the addresses of live areas go.
use Rattle.std.proofs.Common.{◌≡◌, ℕ, zero, suc, ◌+◌, ◌-◌, ◌/◌, ◌%◌, ◌<◌, ◌≤◌, Bool, true, false, ◌&&◌, eqb, leb, Some}
use Rattle.std.proofs.Common.{Contains, refl, ap, sym, ◌∙◌, subst, arith, inl, inr}
use Rattle.std.specs.List.{flat_map, list_all, range_with_len}
use Rattle.std.proofs.lemmas.Bool.Decides.{nat_tests}
use Rattle.iofd_words.specs.Areas.{areas_of, is_of}
use Rattle.iofd_words.specs.Bounds.{Bounds}
use Rattle.iofd_words.specs.Levels.{first_address, levels_of}
use Rattle.iofd_words.specs.Objects.{kind_of}
use Rattle.iofd_words.specs.Pages.{is_whole, page_of}
use Rattle.iofd_words.specs.Span.{holds, size_of}
use Rattle.iofd_words.specs.TablePlaces.{TablePlace, has_table, is_live, live_pages, pages_in, places_from, places_of}
use Rattle.iofd_words.specs.TablePlaces.{root_place}
use Rattle.iofd_words.specs.World.{World}
use Rattle.iofd_words.specs.declared.numbers.FileNo.{FileNo}
use Rattle.iofd_words.specs.declared.numbers.ObjId.{ObjId}
use Rattle.iofd_words.specs.declared.rows.Area.{Area}
use Rattle.iofd_words.specs.declared.rows.ObjectKind.TheVariants as kind
use Rattle.iofd_words.specs.declared.width.Width.{Width}
use Rattle.iofd_rows.proofs.Bools.{and_true}
use Rattle.iofd_rows.proofs.Each.{IsIn, of_each}
use Rattle.iofd_rows.proofs.Named.{object_of_kind}
use Rattle.iofd_runs.specs.Fits.{RowsFit, begins_at_page, is_of_pages}
use Rattle.iofd_runs.specs.Tabled.{AreTabled}
use Rattle.iofd_runs.proofs.MissingTables.{all_needed, has_needed, needed_places}
use Rattle.iofd_runs.proofs.StillTabled.{all-flat_map, each_area}
use Rattle.iofd_laws.proofs.OwnFrames.{is_in}
use Rattle.iofd_laws.specs.Laws.{TablesServe}

-- a number of a range is in it
pub in_range : (start len n : ℕ) → start ≤ n → n < start + len → IsIn (range_with_len start len) n
in_range start zero n from below = absurd (omega (arith, from, below))
in_range start (suc len) n from below =
    by_test (eqb start n) refl (λ other. in_range (start + 1) len n other (omega (arith, below)))
  where
    by_test : (b : Bool) → eqb start n ≡ b → (start + 1 ≤ n → IsIn (range_with_len (start + 1) len) n)
        → IsIn (range_with_len start (suc len)) n
    by_test true is later = let same : start ≡ n = search (is, arith, nat_tests) in inl same
    by_test false is later = inr (later (search (is, from, arith, nat_tests)))

-- the page of an address is one of its span
in_pages : (span : Bounds) (address : ℕ) → is_whole span.first ≡ true → is_whole (size_of span) ≡ true
    → holds span address ≡ true → IsIn (pages_in span) (page_of address)
in_pages span address begins whole within =
    let parts = and_true (leb span.first address) (leb address span.last) within in
    let low : span.first ≤ address = search (parts.0, arith, nat_tests) in
    let high : address ≤ span.last = search (parts.1, arith, nat_tests) in
    let first : span.first % 4096 ≡ 0 = search (begins, arith, nat_tests) in
    let size : (span.last + 1 - span.first) % 4096 ≡ 0 = search (whole, arith, nat_tests) in
    in_range (page_of span.first) (size_of span / 4096) (page_of address) (omega (arith, low))
    (omega (arith, low, high, first, size))

-- the table of a level through which a page goes is one of those
in_places : (top page level : ℕ) → 1 ≤ level → level ≤ top
    → IsIn (places_from top page) (record { level = level; first = first_address level page })
in_places zero page level from to = absurd (omega (arith, from, to))
in_places (suc top) page level from to = by_test (eqb level (suc top)) refl (λ less. in_places top page level from less)
  where
    by_test : (b : Bool) → eqb level (suc top) ≡ b
        → (level ≤ top → IsIn (places_from top page) (record { level = level; first = first_address level page }))
        → IsIn (places_from (suc top) page) (record { level = level; first = first_address level page })
    by_test true is later = let same : suc top ≡ level =
        search (is, arith, nat_tests) in inl (ap (λ n. let place : TablePlace = record {
          level = n;
          first = first_address n page;
        } in place) same)
    by_test false is later = inr (later (search (is, to, arith, nat_tests)))

module _ (w : World) (fits : RowsFit w) (tabled : AreTabled w) where
  has_all : (file : FileNo) (id ioas : ObjId) (width : Width) (automatic : Bool)
      → kind_of w.objects file id ≡ Some (kind.Hwpt ioas width automatic)
      → list_all (has_table w.table_frames file id) (places_of width (live_pages (areas_of w.areas file ioas))) ≡ true
  has_all file id ioas width automatic is =
      let (object, found, within, of_file, of_id, of_kind) =
      object_of_kind w.objects file id (kind.Hwpt ioas width automatic) is in
      let all = of_each (has_needed w.areas w.table_frames) w.objects object
      (all_needed w.objects w.areas w.table_frames tabled.needed) within in
      let by_file = subst (λ f. list_all (has_table w.table_frames f object.id)
      (needed_places w.areas f object.kind) ≡ true) of_file all in
      let by_id = subst (λ i. list_all (has_table w.table_frames file i) (needed_places w.areas file object.kind)
      ≡ true) of_id by_file in
      subst (λ k. list_all (has_table w.table_frames file id) (needed_places w.areas file k) ≡ true) of_kind by_id

  below : (file : FileNo) (id ioas : ObjId) (width : Width) (automatic : Bool) (area : Area) (address level : ℕ)
      → kind_of w.objects file id ≡ Some (kind.Hwpt ioas width automatic) → Contains w.areas area
      → (is_of file ioas area && is_live area.phase) ≡ true → holds area.span address ≡ true → 1 ≤ level
      → level < levels_of width
      → has_table w.table_frames file id (record {
        level = level;
        first = first_address level (page_of address);
      }) ≡ true
  below file id ioas width automatic area address level is among lives within from to =
      let has = has_table w.table_frames file id in
      let top = levels_of width - 1 in
      let on_page = λ (page : ℕ). list_all has (places_from top page) in
      let held = is_in w.areas area among in
      let of = and_true (is_of file ioas area) (is_live area.phase) lives in
      let parts = and_true (has (root_place width))
      (list_all has (flat_map (places_from top) (live_pages (areas_of w.areas file ioas))))
      (has_all file id ioas width automatic is) in
      let on_pages = sym (all-flat_map has (places_from top) (live_pages (areas_of w.areas file ioas))) ∙ parts.1 in
      let each = each_area on_page file ioas w.areas area on_pages held of.0 of.1 in
      let pages = and_true (is_whole (size_of area.span)) _ (of_each is_of_pages w.areas area fits.pages held) in
      let here = of_each on_page (pages_in area.span) (page_of address) each
      (in_pages area.span address (of_each begins_at_page w.areas area fits.starts held) pages.0 within) in
      of_each has (places_from top (page_of address)) _ here
      (in_places top (page_of address) level from (omega (arith, to)))

  pub serves : TablesServe w
  serves =
      record {
        roots = λ file id ioas width automatic is.
            (and_true (has_table w.table_frames file id (root_place width)) _
            (has_all file id ioas width automatic is)).0;
        below = below;
        owned = tabled.owned;
      }
