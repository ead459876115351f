-- When memory is taken for a mark: what is kept and what the world says of the marks beside a page.
use Rattle.std.proofs.Common.{◌≡◌, ℕ, Bool, true, false, ◌&&◌, ◌/◌, eqb, List, [], ◌∷◌}
use Rattle.std.proofs.Common.{Some, refl, ◌∙◌, arith}
use Rattle.std.specs.List.{list_any}
use Rattle.std.proofs.lemmas.Bool.{eqb-true}
use Rattle.std.proofs.lemmas.Bool.Decides.{nat_tests}
use Rattle.dirty_bitmap.specs.Tracking.{Tables, is_dirty, is_tracked}
use Rattle.event_device_access.specs.FirstMark.{has_mark_beside, is_first_mark}
use Rattle.iofd_rows.proofs.Bools.{both_false, both_true, clash, not_false, or_false}
use Rattle.iofd_words.specs.Dirty.{TrackedTable, has_mark, is_marked, is_tracked_as}
use Rattle.iofd_words.specs.declared.numbers.FileNo.{FileNo}
use Rattle.iofd_words.specs.declared.numbers.ObjId.{ObjId}
use Rattle.iofd_words.specs.declared.rows.Attachment.{Attachment}
use Rattle.server_state.specs.Shows.{DirtyShown}

-- ---- no mark beside

module _ (file : FileNo) (hwpt : ObjId) (page : ℕ) where
  none_listed : (pages : List ℕ)
      → ((other : ℕ) → other / 64 ≡ page / 64 → list_any (λ marked. eqb marked other) pages ≡ false)
      → list_any (λ marked. eqb (marked / 64) (page / 64)) pages ≡ false
  none_listed [] none = refl
  none_listed (p ∷ ps) none =
      both_false _ _ (by_word (eqb (p / 64) (page / 64)) refl)
      (none_listed ps (λ other same. (or_false _ _ (none other same)).1))
    where
      own : (n : ℕ) → eqb n n ≡ true
      own n = grind (arith, nat_tests)

      by_word : (b : Bool) → eqb (p / 64) (page / 64) ≡ b → eqb (p / 64) (page / 64) ≡ false
      by_word false is = is
      by_word true is = absurd (clash _ (or_false _ _ (none p (eqb-true (p / 64) (page / 64) is))).0 (own p))

  none_in : (table : TrackedTable)
      → ((other : ℕ) → other / 64 ≡ page / 64 → has_mark file hwpt other table ≡ false)
      → has_mark_beside file hwpt page table ≡ false
  none_in table none = by_name (is_tracked_as file hwpt table) none
    where
      by_name : (b : Bool) → ((other : ℕ) → other / 64 ≡ page / 64
          → (b && list_any (λ marked. eqb marked other) table.pages) ≡ false)
          → (b && list_any (λ marked. eqb (marked / 64) (page / 64)) table.pages) ≡ false
      by_name false none = refl
      by_name true none = none_listed table.pages none

  none_beside : (tables : List TrackedTable)
      → ((other : ℕ) → other / 64 ≡ page / 64 → is_marked tables file hwpt other ≡ false)
      → list_any (has_mark_beside file hwpt page) tables ≡ false
  none_beside [] none = refl
  none_beside (t ∷ ts) none =
      both_false _ _ (none_in t (λ other same. (or_false _ _ (none other same)).0))
      (none_beside ts (λ other same. (or_false _ _ (none other same)).1))

-- where the page table is tracked, and none of the page's 64 is marked there, the page's mark is the first
pub first_mark : (tables : List TrackedTable) (kept : Tables) (a : Attachment) (page : ℕ) → DirtyShown tables kept
    → is_tracked kept a.file a.hwpt ≡ true
    → ((other : ℕ) → other / 64 ≡ page / 64 → is_dirty kept a.file a.hwpt other ≡ false)
    → is_first_mark (Some a) page tables ≡ true
first_mark tables kept a page shown tracked none =
    both_true _ _ (shown.tracks a.file a.hwpt ∙ tracked)
    (not_false _ (none_beside a.file a.hwpt page tables
    (λ other same. shown.marks a.file a.hwpt other ∙ none other same)))
