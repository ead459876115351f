-- A visit of all tables below one.
use Rattle.std.proofs.Common.{◌≡◌, ◌≢◌, ℕ, zero, suc, ◌+◌, ◌-◌, ◌*◌, ◌/◌, ◌%◌, ◌^◌, ◌<◌, ◌≤◌, true, not, eqb}
use Rattle.std.proofs.Common.{List, [], ◌∷◌, ◌++◌, length, sym, ◌∙◌, ap, arith}
use Rattle.std.specs.List.{flat_map, range_with_len}
use Rattle.std.proofs.lemmas.Bool.Decides.{nat_tests}
use Rattle.std.proofs.lemmas.List.{append_assoc, length-append}
use Rattle.std.proofs.lemmas.Nat.{pow-add}
use Rattle.std.proofs.Math.Nat.{pow-suc}
use Rattle.iofd_words.specs.declared.numbers.FrameNo.{FrameNo}
use Rattle.frame_memory.specs.Pool.{FramePool}
use Rattle.page_table_words.specs.Entries.{entry_at, table_entry}
use Rattle.page_table_words.specs.Rows.{table_at}
use Rattle.page_table_words.specs.Under.{HoldsTable, frames_of_entry, frames_under}
use Rattle.page_table_words.proofs.Decoded.{table_present, table_small}
use Rattle.page_table_words.proofs.FramesUnder.{child_entry, entries-is, entries_more, entry_names, under_last}
use Rattle.page_table_words.proofs.FramesUnder.{under_more}
use Rattle.page_table_words.proofs.RowsUnder.{child_page}
use Rattle.page_table_words.proofs.Tables.{table_within}

pub holds_within : (pool : FramePool) (level : ℕ) (table : FrameNo) → HoldsTable pool level table
    → table.0 < length pool.holds
holds_within pool level table holds =
    let t = holds.through in table_within pool t.levels t.root t.rows t.pages t.stands level holds.page table t.at

-- ---- one entry

module _ (pool : FramePool) (level : ℕ) (table : FrameNo) (holds : HoldsTable pool level table) (low : 1 < level)
    (i : ℕ) (small : i < 512) (entry : ℕ) (is : entry ≡ entry_at pool table.0 i) where
  says : entry ≡ table_entry (table_at holds.through.rows (level - 1) (child_page level holds.page i))
  says = let t = holds.through in is ∙ child_entry pool t.levels t.root t.rows t.pages t.stands level
      holds.page i table low small t.at

  pub entry_small : entry / 4096 < 2 ^ 32
  entry_small = let t = holds.through in table_small (table_at t.rows (level - 1) (child_page level holds.page i)) entry
      says (λ below at. t.stands.fits (level - 1) (child_page level holds.page i) below at)

  pub next_holds : (next : FrameNo) → not (eqb (entry % 4) 0) ≡ true → next.0 ≡ entry / 4096
      → HoldsTable pool (level - 1) next
  next_holds next present named =
      let t = holds.through in
      record {
        page = child_page level holds.page i;
        through = record {
          levels = t.levels;
          root = t.root;
          rows = t.rows;
          pages = t.pages;
          stands = t.stands;
          at = (table_present (table_at t.rows (level - 1) (child_page level holds.page i)) entry next says
              (grind (arith, nat_tests)) named).0;
        };
      }

-- the frames that an entry names
pub present_frames : (pool : FramePool) (below : ℕ) (table next : FrameNo) (i entry : ℕ)
    → entry ≡ entry_at pool table.0 i → not (eqb (entry % 4) 0) ≡ true → next.0 ≡ entry / 4096
    → frames_of_entry pool below table i ≡ frames_under pool below next
present_frames pool below table next i entry is present named =
    let some : entry % 4 ≢ 0 = grind (arith, nat_tests) in
    entry_names pool below table next i (λ zero. some (ap (λ (e : ℕ). e % 4) is ∙ zero)) (named
    ∙ ap (λ (e : ℕ). e / 4096) is)

-- ---- all entries

module _ (f : ℕ → List FrameNo) where
  pub length_more : (n : ℕ) → length (flat_map f (range_with_len 0 (n + 1))) ≡ length (flat_map f (range_with_len 0 n))
      + length (f n)
  length_more n =
      ap (λ (fs : List FrameNo). length fs) (entries_more f n) ∙ length-append (flat_map f (range_with_len 0 n)) (f n)

  length_grows : (n d : ℕ) → length (flat_map f (range_with_len 0 n)) ≤ length (flat_map f (range_with_len 0 (n + d)))
  length_grows n zero = let same : n ≡ n + 0 =
      omega arith in let grown = ap (λ (m : ℕ). length (flat_map f (range_with_len 0 m))) same in omega (arith, grown)
  length_grows n (suc d) =
      let same : n + d + 1 ≡ n + suc d = omega arith in
      let grown = ap (λ (m : ℕ). length (flat_map f (range_with_len 0 m))) same in
      omega (arith, grown, length_more (n + d), length_grows n d)

  pub length_within : (n m : ℕ) → n ≤ m → length (flat_map f (range_with_len 0 n)) ≤ length
      (flat_map f (range_with_len 0 m))
  length_within n m few = let same : n + (m - n) ≡ m = omega (arith, few) in let grown =
      ap (λ (k : ℕ). length (flat_map f (range_with_len 0 k))) same in omega (arith, grown, length_grows n (m - n))

  -- appended to what was there
  pub items_more : (old items named : List FrameNo) (table : FrameNo) (n : ℕ)
      → items ≡ old ++ table ∷ flat_map f (range_with_len 0 n) → named ≡ f n
      → items ++ named ≡ old ++ table ∷ flat_map f (range_with_len 0 (n + 1))
  items_more old items named table n before is =
      ap (λ (fs : List FrameNo). fs ++ named) before ∙ append_assoc old (table ∷ flat_map f (range_with_len 0 n)) named
      ∙ ap (λ (fs : List FrameNo). old ++ table ∷ (flat_map f (range_with_len 0 n) ++ fs)) is
      ∙ ap (λ (fs : List FrameNo). old ++ table ∷ fs) (sym (entries_more f n))

pub all_entries : (pool : FramePool) (level : ℕ) (table : FrameNo) → 1 < level
    → frames_under pool (level - 1) table ≡ table
    ∷ flat_map (frames_of_entry pool (level - 1 - 1) table) (range_with_len 0 512)
all_entries pool level table low =
    let next : level - 1 ≡ suc (level - 1 - 1) = omega (arith, low) in
    ap (λ (n : ℕ). frames_under pool n table) next ∙ under_more pool (level - 1 - 1) table
    ∙ ap (λ (n : ℕ). table ∷ flat_map (frames_of_entry pool (level - 1 - 1) table) (range_with_len 0 n)) entries-is

pub no_entries : (pool : FramePool) (level : ℕ) (table : FrameNo) → 0 < level → level ≤ 1
    → frames_under pool (level - 1) table ≡ table ∷ []
no_entries pool level table some one = ap (λ (n : ℕ). frames_under pool n table)
    (let last : level - 1 ≡ 0 = omega (arith, some, one) in last) ∙ under_last pool table

pub some_under : (pool : FramePool) (below : ℕ) (table : FrameNo) → 1 ≤ length (frames_under pool below table)
some_under pool zero table =
    let one = ap (λ (fs : List FrameNo). length fs) (under_last pool table) in omega (arith, one)
some_under pool (suc below) table =
    let more = ap (λ (fs : List FrameNo). length fs) (under_more pool below table) in omega (arith, more)

-- a bound on their number
pub bound_next : (level : ℕ) → 0 < level → 1000 ^ level ≡ 1000 * 1000 ^ (level - 1)
bound_next level some =
    let next : level ≡ 1 + (level - 1) = omega (arith, some) in
    ap (λ (n : ℕ). 1000 ^ n) next ∙ pow-add 1000 1 (level - 1)

one_le : (n : ℕ) → 1 ≤ 1000 ^ n
one_le zero = omega arith
one_le (suc n) = let more : 1000 ^ suc n ≡ 1000 ^ n * 1000 = pow-suc 1000 n in omega (arith, more, one_le n)

pub bound_kept : (level total index : ℕ) → 0 < level → total ≤ 1 + index * 1000 ^ (level - 1) → index ≡ 512
    → total ≤ 1000 ^ level
bound_kept level total index some small end =
    let power = 1000 ^ (level - 1) in
    let at_end : index * power ≡ 512 * power = ap (λ (n : ℕ). n * power) end in
    let one : 1 ≤ power = one_le (level - 1) in
    omega (arith, small, at_end, one, bound_next level some)
