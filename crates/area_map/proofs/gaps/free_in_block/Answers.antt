use Rattle.std.proofs.Common.{◌∙◌, List, refl, sym, subst, ap, arith}
use Rattle.iofd_words.specs.declared.rows.Area.{Area}
use Rattle.area_map_rows.specs.Areas.{AreApart}
use Rattle.area_map_rows.specs.Rows.{first_free, in_rows}
use Rattle.area_map.proofs.RowsInBlocks.{apart-block, passed-block}
use Rattle.area_map.proofs.gaps.free_in_block.Goals as goal

pub free_in_rows-requires-clause-apart : goal.free_in_rows-requires-clause-apart
free_in_rows-requires-clause-apart g c =
    subst (λ (rows : List (List Area)). AreApart (in_rows rows)) (sym c.rows_of.ensures.value)
    (apart-block c.args.number c.args.rows.now c.requires.rows c.requires.apart)

pub returns-then-is_narrow-clause-value : goal.returns-then-is_narrow-clause-value
returns-then-is_narrow-clause-value g c =
    c.behind.ensures.value
    ∙ passed-block c.args.at c.args.count c.args.number c.args.rows.now c.args.block.now c.requires.rows
    c.requires.apart c.requires.block c.requires.reached (c.if-is_narrow.ensures refl) (omega arith)

pub returns-else-is_narrow-clause-value : goal.returns-else-is_narrow-clause-value
returns-else-is_narrow-clause-value g c =
    c.free_in_rows.ensures.value
    ∙ ap (λ (rows : List (List Area)). first_free c.args.at c.args.count (in_rows rows)) c.rows_of.ensures.value
