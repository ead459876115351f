use borrow.Author.Rules.{scaled_Fits}
use Rattle.std.proofs.Common.{◌∙◌, List, [], nat_le, length, refl, ap}
use Rattle.iofd_words.specs.declared.rows.Area.{Area}
use Rattle.area_map.proofs.RowsAdded.{length-added}
use Rattle.std.proofs.lemmas.List.{get_or_default}
use Rattle.area_map.proofs.insertion.add_to.Goals as goal

pub returns-clause-full : goal.returns-clause-full
returns-clause-full g c =
    ap (λ n. nat_le 32 n) (c.len.ensures ∙ ap (λ (row : List Area). length row) c.add.ensures
    ∙ length-added c.args.area c.args.rows.now c.args.index c.index-rows-index.result c.requires.bound)

pub add-requires-clause-apart : goal.add-requires-clause-apart
add-requires-clause-apart g c =
    rw (get_or_default c.args.rows.now c.args.index c.index-rows-index.result [] c.requires.bound) c.requires.apart

pub add-requires-clause-alone : goal.add-requires-clause-alone
add-requires-clause-alone g c =
    rw (get_or_default c.args.rows.now c.args.index c.index-rows-index.result [] c.requires.bound) c.requires.alone

pub add-requires-clause-few : goal.add-requires-clause-few
add-requires-clause-few g c =
    rw (get_or_default c.args.rows.now c.args.index c.index-rows-index.result [] c.requires.bound) c.requires.few

pub returns-clause-rows : goal.returns-clause-rows
returns-clause-rows g c =
    let same = get_or_default c.args.rows.now c.args.index c.index-rows-index.result [] c.requires.bound in
    rw (c.add.ensures, same) refl

pub offset_bounds-rows-index : goal.offset_bounds-rows-index
offset_bounds-rows-index g c = scaled_Fits c.args.index (length c.args.rows.now) _ c.requires.bound c.well_formed.0.1

pub bounds-rows-index : goal.bounds-rows-index
bounds-rows-index g c = c.requires.bound
