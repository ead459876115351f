use Rattle.std.proofs.Common.{◌≡◌, ◌∙◌, ◌+◌, ℕ, List, length, sym, ap, arith}
use Rattle.std.specs.List.{insert, position_or_len}
use Rattle.iofd_rows.proofs.Inserted.{placed}
use Rattle.page_table_set.specs.PageTables.{Hwpt, stands_before}
use Rattle.page_table_set.proofs.PlaceOfFile.{behind_below, is_after, place_after}
use Rattle.page_table_set.proofs.insertion.place_of.Goals as goal

pub returns-clause-within : goal.returns-clause-within
returns-clause-within c =
    let few = behind_below c.args.object.now.file.0 c.args.tables.now in
    let long = ap (λ (list : List Hwpt). length list) c.of_file.ensures in
    omega (arith, few, long, c.place_in-behind.ensures.within, c.count_below.ensures.value)

pub returns-clause-value : goal.returns-clause-value
returns-clause-value c = λ hwpt same.
    let object = c.args.object.now in
    let own = ap (λ (list : List Hwpt). position_or_len (is_after object) list) c.of_file.ensures in
    let all = place_after object c.args.tables.now c.requires in
    let here : position_or_len (is_after object) c.args.tables.now
    ≡ c.count_below.result + c.place_in-behind.result =
    omega (arith, all, own, c.place_in-behind.ensures.value, c.count_below.ensures.value) in
    let its : position_or_len (is_after hwpt.object) c.args.tables.now
    ≡ c.count_below.result + c.place_in-behind.result = rw same here in
    ap (λ (n : ℕ). insert c.args.tables.now n hwpt) (sym its) ∙ placed stands_before hwpt c.args.tables.now
