use Rattle.std.proofs.Common.{take}
use Rattle.page_table_words.specs.Released.{HasFewerHolds}
use Rattle.page_table.proofs.release.release_all.Given as goal

-- the frames so far have a hold less for each time
abbrev pub invariant-loop-frame : goal.invariant-loop-frame
invariant-loop-frame g l = HasFewerHolds l.fn.pool l.pool (take l.frame-index l.frames)
