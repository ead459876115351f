use Rattle.std.proofs.Common.{◌≡◌, ◌+◌, List, take}
use Rattle.std.specs.Prelude.{vec_capacity}
use Rattle.page_table_words.specs.Rows.{MappedPage, TableRow}
use Rattle.page_table_words.specs.Stands.{TableStands}
use Rattle.page_table_spans.proofs.SpanMapped.{IsMapped}
use Rattle.page_table_spans.proofs.mapping.map.Given as goal

-- the pages before this one are mapped
abbrev pub invariant-loop-frame : goal.invariant-loop-frame
invariant-loop-frame g l = record {
  page : l.page ≡ l.first_page + l.frame-index;
  table : l.table ≡ l.fn.table;
  capacity : vec_capacity l.out ≡ vec_capacity l.fn.out;
  mapped : (rows : List TableRow) (pages : List MappedPage) → TableStands l.fn.pool l.fn.table rows pages
      → IsMapped l.fn.pool l.pool l.fn.table rows pages l.first_page (take l.frame-index l.frames) l.rights
      l.fn.out.items l.out.items;
}
