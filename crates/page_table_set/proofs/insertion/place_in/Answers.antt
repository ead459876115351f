use Rattle.std.proofs.Common.{sym}
use Rattle.iofd_rows.proofs.Inserted.{place_found, place_none}
use Rattle.page_table_set.proofs.PlaceOfFile.{is_after}
use Rattle.page_table_set.proofs.insertion.place_in.Goals as goal

pub returns-in-Some-clause-value : goal.returns-in-Some-clause-value
returns-in-Some-clause-value c =
    sym (place_found (is_after c.args.object.now) c.args.tables.now c.in-Some.place (sym c.in-Some.ensures.value)).0

pub returns-in-None-clause-value : goal.returns-in-None-clause-value
returns-in-None-clause-value c =
    sym (place_none (is_after c.args.object.now) c.args.tables.now (sym c.in-None.ensures.value))
