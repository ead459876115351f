-- Where pages lead once the pages of one address space's live areas are cleared, told of its page tables and of all
-- others.
use Rattle.std.proofs.Common.{◌≡◌, ℕ, Bool, true, false, cond, ◌&&◌, eqb, is_some, Option, None, List, map, refl, ap}
use Rattle.std.proofs.Common.{subst, arith}
use Rattle.std.proofs.lemmas.Bool.Decides.{nat_tests}
use Rattle.frame_memory.specs.Pool.{FramePool}
use Rattle.page_table_set.proofs.Staying.{all_told}
use Rattle.page_table_set.specs.PageTables.{AllStand, Hwpt}
use Rattle.iofd_rows.proofs.Bools.{and_true, both_true}
use Rattle.iofd_rows.proofs.Each.{IsIn, in_filter, of_any}
use Rattle.iofd_rows.proofs.Named.{file_is, id_is}
use Rattle.iofd_words.specs.Areas.{areas_of}
use Rattle.iofd_words.specs.Objects.{has_hwpt, is_hwpt, is_hwpt_over}
use Rattle.iofd_words.specs.Pins.{pinned_frame}
use Rattle.iofd_words.specs.World.{World}
use Rattle.iofd_words.specs.declared.numbers.FileNo.{FileNo}
use Rattle.iofd_words.specs.declared.numbers.ObjId.{ObjId}
use Rattle.iofd_words.specs.declared.rows.Area.{Area}
use Rattle.iofd_words.specs.declared.rows.Object.{Object}
use Rattle.iofd_words.specs.declared.rows.ObjectKind.{ObjectKind}
use Rattle.iofd_words.specs.declared.rows.ObjectKind.TheVariants as kind
use Rattle.iofd_words.specs.declared.rows.TableFrame.{TableFrame}
use Rattle.event_unmap.specs.Cleared.{cleared}
use Rattle.server_state.proofs.TablesUnreached.{in_list}
use Rattle.server_state.specs.Leads.{leads_by_kind, leads_in, leads_of, live_area_at, space_leads}
use Rattle.server_state.specs.Spaces.{is_space}
use Rattle.server_state.specs.Tables.{page_tables_among}
use Rattle.page_table_words.specs.Rows.{MappedPage}

-- a page of one of these areas of this address space leads nowhere, another where it did
abbrev pub left_space : World → FileNo → ObjId → List Area → FileNo → ObjId → ℕ → Option MappedPage
left_space w file ioas areas f i page =
    cond (is_space file ioas f i && is_some (live_area_at page areas)) None (space_leads w.pins w.areas f i page)

-- where the areas of one address space changed so
pub space_left : (w : World) (file : FileNo) (ioas : ObjId) (gone after : List Area)
    → ((page : ℕ) → leads_in (pinned_frame w.pins) (areas_of after file ioas) page ≡ cond
    (is_some (live_area_at page gone)) None (leads_in (pinned_frame w.pins) (areas_of w.areas file ioas) page))
    → ((f : FileNo) (i : ObjId) → is_space file ioas f i ≡ false → areas_of after f i ≡ areas_of w.areas f i)
    → (f : FileNo) (i : ObjId) (page : ℕ) → space_leads w.pins after f i page ≡ left_space w file ioas gone f i page
space_left w file ioas gone after own others f i page = by_test (is_space file ioas f i) refl
  where
    by_test : (b : Bool) → is_space file ioas f i ≡ b
        → space_leads w.pins after f i page ≡ cond (b && is_some (live_area_at page gone)) None
        (space_leads w.pins w.areas f i page)
    by_test true is =
        let parts = and_true (eqb f.0 file.0) (eqb i.0 ioas.0) is in
        let of_file = file_is f file parts.0 in
        let of_id = id_is i ioas parts.1 in
        rw (of_file, of_id) (own page)
    by_test false is = ap (λ (l : List Area). leads_in (pinned_frame w.pins) l page) (others f i is)

-- where that is so of all address spaces with a page table, the page tables stand
pub spaces_cleared : (w new : World) (file : FileNo) (ioas : ObjId) (gone : List Area) (objects : List Object)
    (tables : List Hwpt) (pool : FramePool) (frames : List TableFrame)
    → map (λ (h : Hwpt). h.object) tables ≡ page_tables_among objects
    → ((f : FileNo) (i : ObjId) (page : ℕ) → has_hwpt objects f i ≡ true
    → space_leads new.pins new.areas f i page ≡ left_space w file ioas gone f i page)
    → AllStand pool frames (cleared file ioas gone (leads_of w)) tables → AllStand pool frames (leads_of new) tables
spaces_cleared w new file ioas gone objects tables pool frames are left stand =
    all_told pool frames (cleared file ioas gone (leads_of w)) (leads_of new) tables stand each
  where
    nowhere : (b : Bool) → None ≡ cond {A = Option MappedPage} b None None
    nowhere true = refl
    nowhere false = refl

    by_kind : (f : FileNo) (page : ℕ) (k : ObjectKind)
        → ((i : ObjId) → is_hwpt_over i k ≡ true → has_hwpt objects f i ≡ true)
        → leads_by_kind new.pins new.areas f k page ≡ cond ((eqb f.0 file.0 && is_hwpt_over ioas k)
        && is_some (live_area_at page gone)) None (leads_by_kind w.pins w.areas f k page)
    by_kind f page kind.Ioas has =
        nowhere ((eqb f.0 file.0 && is_hwpt_over ioas kind.Ioas) && is_some (live_area_at page gone))
    by_kind f page (kind.Hwpt i width automatic) has = left f i page (has i same)
      where
        same : eqb i.0 i.0 ≡ true
        same = grind (arith, nat_tests)
    by_kind f page (kind.Device device) has =
        nowhere ((eqb f.0 file.0 && is_hwpt_over ioas (kind.Device device)) && is_some (live_area_at page gone))
    by_kind f page (kind.Access attached) has =
        nowhere ((eqb f.0 file.0 && is_hwpt_over ioas (kind.Access attached)) && is_some (live_area_at page gone))

    each : (h : Hwpt) → IsIn tables h → (page : ℕ)
        → leads_of new h.object page ≡ cleared file ioas gone (leads_of w) h.object page
    each h within page =
        let there : IsIn (page_tables_among objects) h.object =
        subst (λ (os : List Object). IsIn os h.object) are (in_list (λ (h : Hwpt). h.object) tables h within) in
        let among = (in_filter (λ (o : Object). is_hwpt o.kind) objects h.object there).0 in
        let here : eqb h.object.file.0 h.object.file.0 ≡ true = grind (arith, nat_tests) in
        by_kind h.object.file page h.object.kind
        (λ i is. of_any (λ (o : Object). eqb o.file.0 h.object.file.0 && is_hwpt_over i o.kind) objects h.object
        among (both_true _ _ here is))
