-- Pages lead where they did, as long as their live areas and the pins of these stay.
use Rattle.std.proofs.Common.{◌≡◌, ℕ, ◌<◌, Bool, true, false, cond, ◌&&◌, eqb, ltb, Option, Some, None, List, [], ◌∷◌}
use Rattle.std.proofs.Common.{map, refl, ap, sym, ◌∙◌, inl, inr}
use Rattle.std.proofs.lemmas.Bool.{eq-eqb, lt-ltb, ltb-true}
use Rattle.iofd_rows.proofs.Bools.{and_true, both_true}
use Rattle.iofd_rows.proofs.Each.{IsIn, in_filter, in_found, of_any}
use Rattle.iofd_rows.proofs.Named.{file_is, id_is}
use Rattle.iofd_rows.specs.Pinned.{ArePinned}
use Rattle.iofd_words.specs.Areas.{areas_of, is_of}
use Rattle.iofd_words.specs.Objects.{has_hwpt, is_hwpt, is_hwpt_over}
use Rattle.iofd_words.specs.Pins as pin
use Rattle.iofd_words.specs.Pins.{ObjectPage}
use Rattle.iofd_words.specs.World.{World}
use Rattle.iofd_words.specs.declared.numbers.FileNo.{FileNo}
use Rattle.iofd_words.specs.declared.numbers.FrameNo.{FrameNo}
use Rattle.iofd_words.specs.declared.numbers.ObjId.{ObjId}
use Rattle.iofd_words.specs.declared.rows.Area.{Area}
use Rattle.iofd_words.specs.declared.rows.Object.{Object}
use Rattle.iofd_words.specs.declared.rows.ObjectKind.{ObjectKind}
use Rattle.iofd_words.specs.declared.rows.ObjectKind.TheVariants as kind
use Rattle.iofd_words.specs.declared.rows.TableFrame.{TableFrame}
use Rattle.frame_memory.specs.Pool.{FramePool}
use Rattle.page_table_set.specs.PageTables.{AllStand, Hwpt}
use Rattle.user_memory_rows.proofs.CountBy.{any_count}
use Rattle.user_memory_rows.proofs.PinsFollow.{only_kept}
use Rattle.user_memory_rows.specs.Shown.{PinsShown, has_page, translated}
use Rattle.server_state.specs.Leads.{lead_by, leads_by_kind, leads_of, live_area_at, object_page, space_leads}
use Rattle.server_state.specs.Tables.{page_tables_among}
use Rattle.page_table_words.specs.Rows.{MappedPage}
use Rattle.user_memory.specs.Changes.{Settles}
use Rattle.user_memory.specs.Memory as memory
use Rattle.user_memory.specs.Memory.{Memory, is_pinned, rows_of, table_pins}

abbrev Leads : Type 0
Leads = Object → ℕ → Option MappedPage

-- ---- page tables stand by where their own pages lead

pub stand_alike : (pool : FramePool) (frames : List TableFrame) (leads others : Leads) (tables : List Hwpt)
    → ((h : Hwpt) → IsIn tables h → (page : ℕ) → others h.object page ≡ leads h.object page)
    → AllStand pool frames leads tables → AllStand pool frames others tables
stand_alike pool frames leads others tables alike stand =
    record {
      own = stand.own;
      each = λ h within. let one = stand.each h within in record {
        pages = one.pages;
        found = λ page. one.found page ∙ sym (alike h within page);
        stands = one.stands;
      };
      held = stand.held;
    }

in_mapped : (tables : List Hwpt) (h : Hwpt) → IsIn tables h → IsIn (map (λ (h : Hwpt). h.object) tables) h.object
in_mapped [] h within = absurd within
in_mapped (t ∷ tables) h (inl same) = inl (ap (λ (h : Hwpt). h.object) same)
in_mapped (t ∷ tables) h (inr later) = inr (in_mapped tables h later)

-- where the pages of all address spaces with a page table lead alike
pub spaces_alike : (w new : World) (objects : List Object) (tables : List Hwpt) (pool : FramePool)
    (frames : List TableFrame) → map (λ (h : Hwpt). h.object) tables ≡ page_tables_among objects
    → ((file : FileNo) (ioas : ObjId) (page : ℕ) → has_hwpt objects file ioas ≡ true
    → space_leads new.pins new.areas file ioas page ≡ space_leads w.pins w.areas file ioas page)
    → AllStand pool frames (leads_of w) tables → AllStand pool frames (leads_of new) tables
spaces_alike w new objects tables pool frames are alike stand =
    stand_alike pool frames (leads_of w) (leads_of new) tables each stand
  where
    by_kind : (file : FileNo) (page : ℕ) (k : ObjectKind)
        → ((ioas : ObjId) → is_hwpt_over ioas k ≡ true → has_hwpt objects file ioas ≡ true)
        → leads_by_kind new.pins new.areas file k page ≡ leads_by_kind w.pins w.areas file k page
    by_kind file page kind.Ioas has = refl
    by_kind file page (kind.Hwpt ioas width automatic) has = alike file ioas page (has ioas same)
      where
        same : eqb ioas.0 ioas.0 ≡ true
        same = eq-eqb ioas.0 ioas.0 refl
    by_kind file page (kind.Device device) has = refl
    by_kind file page (kind.Access attached) has = refl

    each : (h : Hwpt) → IsIn tables h → (page : ℕ) → leads_of new h.object page ≡ leads_of w h.object page
    each h within page =
        let there : IsIn (page_tables_among objects) h.object = rw are at (in_mapped tables h within) in
        let among = (in_filter (λ (o : Object). is_hwpt o.kind) objects h.object there).0 in
        let here = eq-eqb h.object.file.0 h.object.file.0 refl in
        by_kind h.object.file page h.object.kind
        (λ ioas is. of_any (λ (o : Object). eqb o.file.0 h.object.file.0 && is_hwpt_over ioas o.kind) objects h.object
        among (both_true _ _ here is))

-- ---- one page

-- it leads by its area's pin
pub lead_alike : (frames others : ObjectPage → Option FrameNo) (page : ℕ) (o : Option Area)
    → ((a : Area) → o ≡ Some a → others (object_page page a) ≡ frames (object_page page a))
    → lead_by others page o ≡ lead_by frames page o
lead_alike frames others page None alike = refl
lead_alike frames others page (Some a) alike =
    ap (λ (o : Option FrameNo). elim o as (λ _. Option MappedPage) [
      | Some frame ↦ Some (record { page = page; frame = frame; rights = a.rights })
      | None ↦ None
    ]) (alike a refl)

-- the areas stay, and so do the pins of those that are found
pub leads_alike : (w new : World) (file : FileNo) (ioas : ObjId) (page : ℕ)
    → live_area_at page (areas_of new.areas file ioas) ≡ live_area_at page (areas_of w.areas file ioas)
    → ((a : Area) → live_area_at page (areas_of w.areas file ioas) ≡ Some a
    → pin.pinned_frame new.pins (object_page page a) ≡ pin.pinned_frame w.pins (object_page page a))
    → space_leads new.pins new.areas file ioas page ≡ space_leads w.pins w.areas file ioas page
leads_alike w new file ioas page areas pins =
    ap (lead_by (pin.pinned_frame new.pins) page) areas
    ∙ lead_alike (pin.pinned_frame w.pins) (pin.pinned_frame new.pins) page
    (live_area_at page (areas_of w.areas file ioas)) pins

-- ---- pins

-- a page table translates the object of an area that is found over an address space with one
pub is_translated : (objects : List Object) (areas : List Area) (file : FileNo) (ioas : ObjId) (page : ℕ) (a : Area)
    → has_hwpt objects file ioas ≡ true → live_area_at page (areas_of areas file ioas) ≡ Some a
    → 0 < translated objects areas a.memory
is_translated objects areas file ioas page a has found =
    let of = in_filter (is_of file ioas) areas a (in_found _ (areas_of areas file ioas) a found).0 in
    let names = and_true (eqb a.file.0 file.0) (eqb a.ioas.0 ioas.0) of.1 in
    let own = eq-eqb a.memory a.memory refl in
    let same_file : a.file ≡ file = file_is a.file file names.0 in
    let same_ioas : a.ioas ≡ ioas = id_is a.ioas ioas names.1 in
    let there : has_hwpt objects a.file a.ioas ≡ true = rw (same_file, same_ioas) has in
    let some = of_any (λ (x : Area). eqb x.memory a.memory && has_hwpt objects x.file x.ioas) areas a of.0
    (both_true _ _ own there) in
    let counted : ltb 0 (translated objects areas a.memory) ≡ true =
    sym (any_count (λ (x : Area). eqb x.memory a.memory && has_hwpt objects x.file x.ioas) areas) ∙ some in
    ltb-true _ _ counted

module _ (at : ℕ) (w new : World) (old after : Memory) (before pool : FramePool) (pins : ArePinned at w)
    (was : PinsShown w.objects w.areas w.memory w.pins w.access_pins old)
    (is : PinsShown new.objects new.areas new.memory new.pins new.access_pins after)
    (settles : Settles old after before pool) where
  -- on an object on which pins stand before and after, each page stays pinned where it was
  pub pin_stays : (page : ObjectPage) → has_page (rows_of after) page ≡ has_page (rows_of old) page
      → 0 < table_pins old page.memory → 0 < table_pins after page.memory
      → pin.pinned_frame new.pins page ≡ pin.pinned_frame w.pins page
  pin_stays page rows some more = is.frames page ∙ settles.frames page ∙ by_page (has_page (rows_of old) page) refl
    where
      pinned : ltb 0 (table_pins old page.memory) ≡ true
      pinned = lt-ltb _ _ some

      pinned_after : ltb 0 (table_pins after page.memory) ≡ true
      pinned_after = lt-ltb _ _ more

      by_page : (b : Bool) → has_page (rows_of old) page ≡ b
          → cond (is_pinned after page) (cond (is_pinned old page) (memory.pinned_frame old page)
          (memory.frame_now after page)) None ≡ pin.pinned_frame w.pins page
      by_page true there = rw (rows ∙ there, pinned_after, there, pinned) (sym (was.frames page))
      by_page false none =
          rw (rows ∙ none) (sym (only_kept at w old pins was page (rw none refl)) ∙ sym (was.frames page))
