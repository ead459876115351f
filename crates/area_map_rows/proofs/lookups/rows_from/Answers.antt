use Rattle.std.proofs.lemmas.List.{take_rest}
use Rattle.area_map_rows.proofs.Rows.{AreRows-drop, apart-drop}
use Rattle.area_map_rows.proofs.lookups.rows_from.Goals as goal

pub returns-clause-value : goal.returns-clause-value
returns-clause-value g c = take_rest c.args.rows.now c.args.place

pub returns-clause-apart : goal.returns-clause-apart
returns-clause-apart g c = rw (take_rest c.args.rows.now c.args.place)
    (apart-drop 0 c.args.rows.now c.args.place c.requires.rows c.requires.apart)

pub returns-clause-rows : goal.returns-clause-rows
returns-clause-rows g c =
    rw (take_rest c.args.rows.now c.args.place) (AreRows-drop c.args.rows.now c.args.place c.requires.rows)
