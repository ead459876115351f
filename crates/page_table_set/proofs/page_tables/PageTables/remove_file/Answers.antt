use Rattle.std.proofs.Common.{List, length, length-append, sym, ap, ◌∙◌, arith, refl}
use Rattle.std.specs.List.{find}
use Rattle.page_table_set.proofs.FileGone.{FirstIs, file_given, file_released, file_stands, first_is, going_more}
use Rattle.page_table_set.proofs.FileGone.{none_gone, none_left, of_file, room_for}
use Rattle.page_table_set.specs.PageTables.{Hwpt, PageTables}
use Rattle.page_table_set.specs.Removed.{id_of, without_file}
use Rattle.page_table_set.proofs.page_tables.PageTables.remove_file.Goals as goal

pub loop-id-init : goal.loop-id-init
loop-id-init g c = record {
  going = λ frames leads stand. none_gone c.args.file c.args.pool.now c.args.self.now.tables
      c.args.out.now.items frames leads stand;
  tables = refl;
  capacity = refl;
}

pub remove-requires : goal.remove-requires
remove-requires g c =
    room_for c.args.file c.in-Some.id c.args.pool.now c.loop-id.pool c.args.self.now.tables c.loop-id.self.tables
    c.args.out.now.items c.loop-id.out.items c.requires.frames c.requires.leads
    (c.loop-id.invariant.going c.requires.frames c.requires.leads c.requires.stand)
    (first_is c.args.file c.in-Some.id c.loop-id.self.tables
    (ap (λ (p : PageTables). id_of (find (of_file c.args.file) p.tables)) (sym c.self.view_is)
    ∙ rw (c.deref.ensures.value) at (sym c.in-Some.ensures)))
    _ _ c.requires.enough (let same = c.loop-id.invariant.capacity in omega (arith, same))

pub loop-id-smaller : goal.loop-id-smaller
loop-id-smaller g c =
    let first : FirstIs c.args.file c.in-Some.id c.loop-id.self.tables =
    first_is c.args.file c.in-Some.id c.loop-id.self.tables
    (ap (λ (p : PageTables). id_of (find (of_file c.args.file) p.tables)) (sym c.self.view_is)
    ∙ rw (c.deref.ensures.value) at (sym c.in-Some.ensures)) in
    let left = ap length c.remove.ensures.tables in
    let fewer = first.fewer in
    omega (arith, left, fewer)

pub loop-id-preserved : goal.loop-id-preserved
loop-id-preserved g c =
    let first : FirstIs c.args.file c.in-Some.id c.loop-id.self.tables =
    first_is c.args.file c.in-Some.id c.loop-id.self.tables
    (ap (λ (p : PageTables). id_of (find (of_file c.args.file) p.tables)) (sym c.self.view_is)
    ∙ rw (c.deref.ensures.value) at (sym c.in-Some.ensures)) in
    record {
      going = λ frames leads stand.
          let going = c.loop-id.invariant.going frames leads stand in
          going_more c.args.file c.in-Some.id c.args.pool.now c.loop-id.pool c.args.self.now.tables
          c.loop-id.self.tables c.args.out.now.items c.loop-id.out.items frames leads going first
          c.remove.new.pool c.remove.new.self.tables c.remove.new.out.items c.remove.ensures.tables
          (c.remove.ensures.stand going.rows_left leads going.stand)
          (c.remove.ensures.out going.rows_left leads going.stand)
          (c.remove.ensures.pool going.rows_left leads going.stand);
      tables = c.loop-id.invariant.tables ∙ first.others ∙ ap (without_file c.args.file) (sym c.remove.ensures.tables);
      capacity = c.remove.ensures.capacity ∙ c.loop-id.invariant.capacity;
    }

pub sort_from-requires : goal.sort_from-requires
sort_from-requires g c =
    let going = c.loop-id.invariant.going c.requires.frames c.requires.leads c.requires.stand in
    let long = ap length going.is ∙ length-append c.args.out.now.items going.given in
    omega (arith, long)

pub returns-clause-tables : goal.returns-clause-tables
returns-clause-tables g c =
    sym (c.loop-id.invariant.tables ∙ none_left c.args.file c.loop-id.self.tables
    (ap (λ (p : PageTables). id_of (find (of_file c.args.file) p.tables)) (sym c.self.view_is)
    ∙ ap (λ (l : List Hwpt). id_of (find (of_file c.args.file) l)) (sym c.deref.ensures.value)
    ∙ sym c.first_of.ensures ∙ c.in_default.is))

pub returns-clause-stand : goal.returns-clause-stand
returns-clause-stand g c = λ frames leads stand.
    file_stands c.args.file c.args.pool.now c.loop-id.pool c.args.self.now.tables c.loop-id.self.tables
    c.args.out.now.items c.loop-id.out.items frames leads
    (c.loop-id.invariant.going frames leads stand)
    (ap (λ (p : PageTables). id_of (find (of_file c.args.file) p.tables)) (sym c.self.view_is)
    ∙ ap (λ (l : List Hwpt). id_of (find (of_file c.args.file) l)) (sym c.deref.ensures.value)
    ∙ sym c.first_of.ensures ∙ c.in_default.is)

pub returns-clause-out : goal.returns-clause-out
returns-clause-out g c = λ frames leads stand.
    file_given c.args.file c.args.pool.now c.loop-id.pool c.args.self.now.tables c.loop-id.self.tables
    c.args.out.now.items c.loop-id.out.items frames leads
    (c.loop-id.invariant.going frames leads stand)
    (ap (λ (p : PageTables). id_of (find (of_file c.args.file) p.tables)) (sym c.self.view_is)
    ∙ ap (λ (l : List Hwpt). id_of (find (of_file c.args.file) l)) (sym c.deref.ensures.value)
    ∙ sym c.first_of.ensures ∙ c.in_default.is)
    c.sort_from.new.frames.items c.len-start.result (omega arith) c.sort_from.ensures.front c.sort_from.ensures.same
    c.sort_from.ensures.rising

pub returns-clause-pool : goal.returns-clause-pool
returns-clause-pool g c = λ frames leads stand.
    file_released c.args.file c.args.pool.now c.loop-id.pool c.args.self.now.tables c.loop-id.self.tables
    c.args.out.now.items c.loop-id.out.items frames leads
    (c.loop-id.invariant.going frames leads stand)
    (ap (λ (p : PageTables). id_of (find (of_file c.args.file) p.tables)) (sym c.self.view_is)
    ∙ ap (λ (l : List Hwpt). id_of (find (of_file c.args.file) l)) (sym c.deref.ensures.value)
    ∙ sym c.first_of.ensures ∙ c.in_default.is)
