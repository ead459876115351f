-- Which frames the users' pages name, as a page comes or goes: none that they did not, but that of the page that comes.
-- So page tables stay.
use Rattle.std.proofs.Common.{◌≡◌, ℕ, ◌+◌, ◌<◌, ◌≢◌, Bool, true, false, cond, ◌&&◌, eqb, ltb, Option, Some, None, List}
use Rattle.std.proofs.Common.{[], length, refl, ap, sym, ◌∙◌, arith}
use Rattle.std.specs.Prelude.{slice_index}
use Rattle.std.specs.List.{count_by, find, splice}
use Rattle.std.proofs.lemmas.Bool.Decides.{nat_tests}
use Rattle.std.proofs.lemmas.List.{get_or-set_other}
use Rattle.std.proofs.lemmas.List.Quantifiers.{position-Some}
use Rattle.frame_memory.specs.Pool.{FramePool, bytes_of, given, least_free, written, zeros}
use Rattle.frame_memory.specs.UserPages.{HasOneMore}
use Rattle.iofd_rows.proofs.Each.{in_found, of_any}
use Rattle.iofd_words.specs.Frames.{FrameWrite, frame_at}
use Rattle.iofd_words.specs.declared.numbers.FrameNo.{FrameNo}
use Rattle.iofd_words.specs.declared.numbers.UserNo.{UserNo}
use Rattle.iofd_words.specs.declared.rows.Object.{Object}
use Rattle.iofd_words.specs.declared.rows.TableFrame.{TableFrame}
use Rattle.iofd_words.specs.declared.rows.UserPage.{UserPage}
use Rattle.page_table_set.specs.PageTables.{AllStand, Hwpt}
use Rattle.user_memory_rows.proofs.CountBy.{any_count}
use Rattle.user_memory_rows.specs.Shown.{FramesShown}
use Rattle.server_state.proofs.TablesFollow.{tables_follow}
use Rattle.page_table_words.specs.Rows.{MappedPage}
use Rattle.user_memory.specs.Changes.{SameObjects}
use Rattle.user_memory.specs.Memory.{Memory, reached}

-- the frame of a user's page is named
pub page_named : (m : Memory) (user : UserNo) (page : ℕ) (frame : FrameNo) → frame_at m.pages user page ≡ Some frame
    → 0 < reached m frame.0
page_named m user page frame found =
    by_row (find (λ (p : UserPage). eqb p.user.0 user.0 && eqb p.page page) m.pages) refl found
  where
    own : (n : ℕ) → eqb n n ≡ true
    own n = grind (arith, nat_tests)

    by_row : (o : Option UserPage) → find (λ (p : UserPage). eqb p.user.0 user.0 && eqb p.page page) m.pages ≡ o
        → elim o as (λ _. Option FrameNo) [ Some p ↦ Some p.frame | None ↦ None ] ≡ Some frame → 0 < reached m frame.0
    by_row None at there = absurd (never there)
      where
        never : None ≡ Some frame → ⊥
        never same = cc
    by_row (Some p) at there =
        let same : p.frame ≡ frame = cc in
        let names : eqb p.frame.0 frame.0 ≡ true = ap (λ (f : FrameNo). eqb f.0 frame.0) same ∙ own frame.0 in
        let within = (in_found (λ (x : UserPage). eqb x.user.0 user.0 && eqb x.page page) m.pages p at).0 in
        let some = of_any (λ (x : UserPage). eqb x.frame.0 frame.0) m.pages p within names in
        let counted : ltb 0 (count_by (λ (x : UserPage). eqb x.frame.0 frame.0) m.pages) ≡ true =
        sym (any_count (λ (x : UserPage). eqb x.frame.0 frame.0) m.pages) ∙ some in
        let more : 0 < count_by (λ (x : UserPage). eqb x.frame.0 frame.0) m.pages =
        search (counted, arith, nat_tests) in
        omega (arith, more)

-- a page goes: no frame is named that wasn't
pub less_named : (old new : Memory) (row : UserPage) → HasOneMore new.pages old.pages row → SameObjects old new
    → (f : ℕ) → 0 < reached new f → 0 < reached old f
less_named old new row has same f named =
    let pages = has.counts (λ (p : UserPage). eqb p.frame.0 f) in
    let pins = same.named f in
    omega (arith, pages, pins, named)

-- a page comes: no other frame is named that wasn't
pub more_named : (old new : Memory) (row : UserPage) → HasOneMore old.pages new.pages row → SameObjects old new
    → (f : ℕ) → f ≢ row.frame.0 → 0 < reached new f → 0 < reached old f
more_named old new row has same f differ named =
    let other : eqb row.frame.0 f ≡ false = grind (arith, nat_tests) in
    let pages : count_by (λ (p : UserPage). eqb p.frame.0 f) new.pages ≡ count_by
    (λ (p : UserPage). eqb p.frame.0 f) old.pages + 0 =
    has.counts (λ (p : UserPage). eqb p.frame.0 f)
    ∙ ap (λ (b : Bool). count_by (λ (p : UserPage). eqb p.frame.0 f) old.pages + cond b 1 0) other in
    let pins = same.named f in
    omega (arith, pages, pins, named)

module _ (pool : ℕ) (writes others : List FrameWrite) (frames : List TableFrame) (leads : Object → ℕ
    → Option MappedPage) (tables : List Hwpt)
    (old new : Memory) (before : FramePool) (frame : ℕ)
    (stand : AllStand before frames leads tables) (shown : FramesShown pool writes frames old before) where
  -- the frame that was free is given out
  pub tables_given : FramesShown pool others frames new (given before frame) → least_free before.holds ≡ Some frame
      → ((f : ℕ) → f ≢ frame → 0 < reached new f → 0 < reached old f)
      → AllStand (given before frame) frames leads tables
  tables_given after least named =
      tables_follow pool writes others frames leads tables old new before (given before frame) stand shown after
      (λ f held. named f (differs f held))
      (λ f held none. get_or-set_other before.bytes frame f zeros [] (differs f held))
    where
      free : eqb (slice_index before.holds frame) 0 ≡ true
      free = (position-Some (λ count. eqb count 0) before.holds frame 0 least).1

      none_held : slice_index before.holds frame ≡ 0
      none_held = search (free, arith, nat_tests)

      differs : (f : ℕ) → 0 < slice_index before.holds f → f ≢ frame
      differs f held same = let here : slice_index before.holds f ≡ 0 =
          rw same none_held in let no : 0 < 0 = omega (arith, here, held) in omega (arith, no)

  -- bytes are written to a frame that is named
  pub tables_written : (offset : ℕ) (bytes : List ℕ)
      → FramesShown pool others frames old (written before frame offset bytes) → 0 < reached old frame
      → AllStand (written before frame offset bytes) frames leads tables
  tables_written offset bytes after named =
      tables_follow pool writes others frames leads tables old old before
      (written before frame offset bytes) stand shown after
      (λ f held some. some)
      (λ f held none. get_or-set_other before.bytes frame f
      (splice (bytes_of before frame) offset (offset + length bytes) bytes) [] (differs f none))
    where
      differs : (f : ℕ) → reached old f ≡ 0 → f ≢ frame
      differs f none same = let here : reached old frame ≡ 0 = rw same at none in omega (arith, here, named)
