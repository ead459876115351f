-- Where the walk of an address ends.
use Rattle.std.proofs.Common.{◌≡◌, ◌≢◌, ℕ, ◌-◌, ◌/◌, ◌%◌, ◌^◌, ◌<◌, ◌≤◌, true, false, eqb, ltb, not, Option, Some, None}
use Rattle.std.proofs.Common.{List, sym, ◌∙◌, ap, arith, ⊎_elim}
use Rattle.std.proofs.lemmas.Bool.{cond-true, lt-ltb}
use Rattle.std.proofs.lemmas.Bool.Decides.{nat_tests}
use Rattle.std.specs.Int.RustNames.{bit_and}
use Rattle.std.proofs.Math.Nat.{mod-eq_of_lt}
use Rattle.std.proofs.lemmas.Nat.{and_comm, and_mask}
use Rattle.iofd_words.specs.Pages.{page_of}
use Rattle.iofd_words.specs.Width.{bits_of}
use Rattle.iofd_words.specs.declared.flags.Rights.{Rights}
use Rattle.iofd_words.specs.declared.numbers.FrameNo.{FrameNo}
use Rattle.iofd_words.specs.declared.width.Width.{Width}
use Rattle.iofd_words.specs.declared.width.Width.TheVariants.{Bits39, Bits48, Bits57}
use Rattle.frame_memory.specs.Pool.{FramePool}
use Rattle.page_table.specs.declared.walk.Walk.{Walk}
use Rattle.page_table.specs.declared.walk.Walk.TheVariants as walk
use Rattle.page_table_words.specs.Entries.{entry_at, page_entry}
use Rattle.iofd_words.specs.Levels.{index_at, levels_of, number_at}
use Rattle.page_table_words.specs.Reached.{IsLowest}
use Rattle.page_table_words.specs.Rows.{MappedPage, TableRow, page_at, table_at}
use Rattle.page_table_words.specs.Stands.{Stands, TableRoot, TableStands}
use Rattle.page_table.specs.Walks.{walk_of}
use Rattle.page_table_words.proofs.Lookups.{cases_Option, none_or_some, same_frame, the_some}
use Rattle.page_table_words.proofs.Tables.{none_below}
use Rattle.page_table_words.proofs.Tops.{some_levels}

-- ---- the page

module _ (pool : FramePool) (levels : ℕ) (root : FrameNo) (rows : List TableRow) (pages : List MappedPage)
    (stands : Stands pool levels root rows pages) (level page : ℕ) (table : FrameNo)
    (lowest : IsLowest rows level page table) where
  -- a page that has no table of the last level isn't mapped
  pub no_leaf : 1 < level → page_at pages page ≡ None
  no_leaf low =
      let range = stands.level level page table lowest.at in
      let none = none_below pool levels root rows pages stands (level - 1) page 1 (lowest.last low)
      (omega (arith, range.1)) (omega (arith, low)) in
      ⊎_elim (λ (is : page_at pages page ≡ None). is)
      (λ (to : (m : MappedPage) × (page_at pages page ≡ Some m)). let below = the_some _
      (stands.mapped page to.0 to.1) in none_or_some _ below.0 none below.1)
      (cases_Option (page_at pages page))

  module _ (entry : ℕ) (last : level ≡ 1) (is : entry ≡ entry_at pool table.0 (index_at 1 page)) where
    says : entry ≡ page_entry (page_at pages page)
    says = is ∙ stands.leaves page table (ap (λ (k : ℕ). table_at rows k page) (sym last) ∙ lowest.at)

    pub absent_page : not (eqb (entry % 4) 0) ≡ false → page_at pages page ≡ None
    absent_page not_there =
        let absent : entry % 4 ≡ 0 = grind (arith, nat_tests) in
        ⊎_elim (λ (none : page_at pages page ≡ None). none)
        (λ (to : (m : MappedPage) × (page_at pages page ≡ Some m)).
        let rights = stands.rights page to.0 to.1 in
        let value = says ∙ ap page_entry to.1 in
        absurd (omega (arith, rights.0, rights.1, value, absent)))
        (cases_Option (page_at pages page))

    pub present_page : (to : MappedPage) → not (eqb (entry % 4) 0) ≡ true → to.frame.0 ≡ entry / 4096
        → to.rights.0 ≡ entry % 4 → (m : MappedPage) × (page_at pages page ≡ Some m) × (m.frame ≡ to.frame)
        × (m.rights ≡ to.rights)
    present_page to there frame_is rights_is =
        let present : entry % 4 ≢ 0 = grind (arith, nat_tests) in
        ⊎_elim (λ (none : page_at pages page ≡ None). absurd (let value = says
        ∙ ap page_entry none in present (omega (arith, value))))
        (λ (m : (x : MappedPage) × (page_at pages page ≡ Some x)).
        let rights = stands.rights page m.0 m.1 in
        let value = says ∙ ap page_entry m.1 in (
          m.0,
          m.1,
          same_frame m.0.frame to.frame (omega (arith, rights.1, value, frame_is)),
          equal_rights m.0.rights to.rights (omega (arith, rights.1, value, rights_is)),
        ))
        (cases_Option (page_at pages page))
      where
        equal_rights : (r s : Rights) → r.0 ≡ s.0 → r ≡ s
        equal_rights r s same = ap (λ (n : ℕ). let rights : Rights = record { 0 = n } in rights) same

-- the end of a width is 512 entries of each level on, so no table leads beyond it
past_tables : (width : Width) (page : ℕ) → 2 ^ bits_of width / 4096 ≤ page → number_at (levels_of width) page ≢ 0
unfolding number_at
past_tables Bits39 page beyond = omega arith
past_tables Bits48 page beyond = omega arith
past_tables Bits57 page beyond = omega arith

-- a page beyond the width isn't mapped
pub none_beyond : (pool : FramePool) (table : TableRoot) (rows : List TableRow) (pages : List MappedPage) (page : ℕ)
    → TableStands pool table rows pages → 2 ^ bits_of table.width / 4096 ≤ page → page_at pages page ≡ None
none_beyond pool table rows pages page stands beyond =
    let levels = levels_of table.width in
    let top : table_at rows levels page ≡ None =
    ⊎_elim (λ (none : table_at rows levels page ≡ None). none)
    (λ (f : (frame : FrameNo) × (table_at rows levels page ≡ Some frame)).
    absurd (past_tables table.width page beyond (stands.top page f.0 f.1)))
    (cases_Option (table_at rows levels page)) in
    let last = none_below pool levels table.root rows pages stands levels page 1 top (omega arith)
    (some_levels table.width) in
    ⊎_elim (λ (none : page_at pages page ≡ None). none)
    (λ (to : (m : MappedPage) × (page_at pages page ≡ Some m)). let table = the_some _
    (stands.mapped page to.0 to.1) in none_or_some _ table.0 last table.1)
    (cases_Option (page_at pages page))

pub same_rights : (above rights : ℕ) → above ≡ 3 → rights < 4 → bit_and above rights ≡ rights
same_rights above rights all few =
    ap (λ (n : ℕ). bit_and n rights) all ∙ and_comm 3 rights ∙ and_mask rights 2 ∙ mod-eq_of_lt few

-- ---- the answer

led : Option MappedPage → Walk
led o = elim o [ Some to ↦ walk.Hit to.frame to.rights | None ↦ walk.None ]

pub walk_none : (width : Width) (pages : List MappedPage) (iova : ℕ) → iova < 2 ^ bits_of width
    → page_at pages (page_of iova) ≡ None → walk.None ≡ walk_of width pages iova
unfolding led
walk_none width pages iova below none =
    sym (cond-true (ltb iova (2 ^ bits_of width)) (led (page_at pages (page_of iova))) walk.Beyond
    (lt-ltb iova (2 ^ bits_of width) below) ∙ ap led none)

pub walk_hit : (width : Width) (pages : List MappedPage) (iova : ℕ) (to : MappedPage) (frame : FrameNo)
    (rights : Rights) → iova < 2 ^ bits_of width → page_at pages (page_of iova) ≡ Some to → to.frame ≡ frame
    → to.rights ≡ rights → walk.Hit frame rights ≡ walk_of width pages iova
unfolding led
walk_hit width pages iova to frame rights below some frame_is rights_is =
    ap (λ (f : FrameNo). walk.Hit f rights) (sym frame_is) ∙ ap (λ (r : Rights). walk.Hit to.frame r) (sym rights_is)
    ∙ sym (cond-true (ltb iova (2 ^ bits_of width)) (led (page_at pages (page_of iova))) walk.Beyond
    (lt-ltb iova (2 ^ bits_of width) below) ∙ ap led some)
