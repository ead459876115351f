use Rattle.std.proofs.Common.{◌≡◌, ◌≤◌, ◌<◌, ◌+◌, ◌-◌, ◌^◌, ℕ, true, List, get_or, take}
use Rattle.std.specs.List.{list_any}
use Rattle.iofd_words.specs.Bounds.{Bounds}
use Rattle.iofd_words.specs.Pages.{page_of}
use Rattle.iofd_words.specs.Levels.{levels_of, number_at}
use Rattle.page_table_words.specs.Needed.{goes_through, needed_at}
use Rattle.page_table_words.specs.Rows.{MappedPage, TableRow}
use Rattle.page_table_words.specs.Stands.{TableStands}
use Rattle.page_table.proofs.table.Table.needs_at.Given as goal

-- the spans so far go through tables before the next one alone, which lies just behind the last of them
abbrev pub invariant-loop-span : goal.invariant-loop-span
invariant-loop-span g l = record {
  small : l.total ≤ l.next;
  first : l.span-index ≡ 0 → l.next ≡ 0;
  next : (k : ℕ) (d : Bounds) → k + 1 ≡ l.span-index
      → l.next ≡ number_at l.level (page_of (get_or l.spans k d).last) + 1;
  reached : 0 < l.next → list_any (goes_through l.level (l.next - 1)) (take l.span-index l.spans) ≡ true;
  before : (number : ℕ) → list_any (goes_through l.level number) (take l.span-index l.spans) ≡ true → number < l.next;
  bound : l.next ≤ 2 ^ 52;
  needed : (rows : List TableRow) (pages : List MappedPage) → TableStands l.pool l.self rows pages
      → l.total ≡ needed_at rows (levels_of l.self.width) l.level (take l.span-index l.spans);
}
