use Rattle.std.proofs.Common.{◌≡◌, false, take}
use Rattle.page_table_words.specs.Pruned.{is_kept}
use Rattle.page_table.proofs.prune.is_kept.Given as goal

-- none of the spans so far has a page that goes through it
abbrev pub invariant-loop-span : goal.invariant-loop-span
invariant-loop-span l = is_kept (take l.span-index l.kept) l.level l.number ≡ false
