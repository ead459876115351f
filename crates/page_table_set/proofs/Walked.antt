-- A walk through one page table of several.
use Rattle.std.proofs.Common.{◌≡◌, ℕ, cond, ltb, Option, Some, None, List, ap, sym, ◌∙◌}
use Rattle.std.specs.Prelude.{◌^◌}
use Rattle.iofd_rows.proofs.Each.{in_found}
use Rattle.iofd_words.specs.Objects.{is_object}
use Rattle.iofd_words.specs.Pages.{page_of}
use Rattle.iofd_words.specs.Width.{bits_of}
use Rattle.iofd_words.specs.declared.numbers.FileNo.{FileNo}
use Rattle.iofd_words.specs.declared.numbers.ObjId.{ObjId}
use Rattle.iofd_words.specs.declared.rows.Object.{Object}
use Rattle.iofd_words.specs.declared.rows.TableFrame.{TableFrame}
use Rattle.frame_memory.specs.Pool.{FramePool}
use Rattle.page_table.specs.Walks.{walk_of}
use Rattle.page_table.specs.declared.walk.Walk.{Walk}
use Rattle.page_table.specs.declared.walk.Walk.TheVariants as walk
use Rattle.page_table_words.specs.Mapped.{IsTable}
use Rattle.page_table_words.specs.Rows.{MappedPage}
use Rattle.page_table_words.specs.Stands.{IfStands}
use Rattle.page_table_set.specs.PageTables.{AllStand, Hwpt, HwptStands, Stand, hwpt_of, walk_through}

-- one that is found stands
pub found_stands : (pool : FramePool) (frames : List TableFrame) (leads : Object → ℕ
    → Option MappedPage) (tables : List Hwpt)
    (file : FileNo) (id : ObjId) (h : Hwpt)
    → AllStand pool frames leads tables → hwpt_of tables file id ≡ Some h → HwptStands pool frames (leads h.object) h
found_stands pool frames leads tables file id h stand found =
    stand.each h (in_found (λ (x : Hwpt). is_object file id x.object) tables h found).0

pub found_ready : (pool : FramePool) (tables : List Hwpt) (file : FileNo) (id : ObjId) (h : Hwpt)
    → Stand pool tables → hwpt_of tables file id ≡ Some h → IsTable pool h.table
found_ready pool tables file id h ready found =
    let stands = found_stands pool ready.frames ready.leads tables file id h ready.stand found in
    record { rows = _; pages = stands.pages; stands = stands.stands }

pub walked : (pool : FramePool) (tables : List Hwpt) (file : FileNo) (id : ObjId) (h : Hwpt) (iova : ℕ) (result : Walk)
    → hwpt_of tables file id ≡ Some h
    → IfStands pool h.table (λ rows pages. result ≡ walk_of h.table.width pages iova)
    → (frames : List TableFrame) (leads : Object → ℕ → Option MappedPage) → AllStand pool frames leads tables
    → result ≡ walk_through leads iova (hwpt_of tables file id)
walked pool tables file id h iova result found answer frames leads stand =
    let stands = found_stands pool frames leads tables file id h stand found in
    answer _ stands.pages stands.stands
    ∙ ap (λ (o : Option MappedPage). cond (ltb iova (2 ^ bits_of h.table.width)) (led o) walk.Beyond)
    (stands.found (page_of iova))
    ∙ sym (ap (walk_through leads iova) found)
  where
    led : Option MappedPage → Walk
    led (Some to) = walk.Hit to.frame to.rights
    led None = walk.None
