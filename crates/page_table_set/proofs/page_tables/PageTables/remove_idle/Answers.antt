use Rattle.std.proofs.Common.{◌≡◌, ap, ◌∙◌, ◌-◌, List, length, vec_capacity, vec_len, arith}
use Rattle.std.proofs.lemmas.List.{with_items_is}
use Rattle.page_table_set.proofs.Shed.{sorted_sheds}
use Rattle.page_table_set.specs.PageTables.{PageTables, Hwpt}
use Rattle.page_table_set.proofs.page_tables.PageTables.remove_idle.Goals as goal

pub remove-requires-clause-can : goal.remove-requires-clause-can
remove-requires-clause-can g c =
    let same : c.deref_mut.result.now ≡ c.args.self.now.tables =
    c.deref_mut.ensures.value ∙ ap (λ (p : PageTables). p.tables) c.self.view_is in
    rw same c.requires.can

pub remove-requires-clause-leave : goal.remove-requires-clause-leave
remove-requires-clause-leave g c =
    let same : c.deref_mut.result.now ≡ c.args.self.now.tables =
    c.deref_mut.ensures.value ∙ ap (λ (p : PageTables). p.tables) c.self.view_is in
    rw same c.requires.leave

pub invariant_of-self : goal.invariant_of-self
invariant_of-self g c =
    let same = c.remove.ensures.same ∙ c.deref_mut.ensures.value in
    let back = with_items_is c.self.inside.tables c.remove.new.tables (omega (arith, ap length same)) in
    rw (back, same) c.self.invariant

pub returns-clause-same : goal.returns-clause-same
returns-clause-same g c =
    let same = c.remove.ensures.same ∙ c.deref_mut.ensures.value in
    let back = with_items_is c.self.inside.tables c.remove.new.tables (omega (arith, ap length same)) in
    let f : List Hwpt → PageTables =
    λ tables. record { tables = tables; room = vec_capacity c.self.inside.tables - vec_len c.self.inside.tables } in
    ap f (back ∙ same) ∙ c.self.view_is

pub returns-clause-shed : goal.returns-clause-shed
returns-clause-shed g c = λ frames leads stand may.
    let same : c.deref_mut.result.now ≡ c.args.self.now.tables =
    c.deref_mut.ensures.value ∙ ap (λ (p : PageTables). p.tables) c.self.view_is in
    let sheds = (rw same at c.remove.ensures.shed) frames leads stand may in
    sorted_sheds c.args.pool.now c.remove.new.pool frames leads c.args.self.now.tables _ c.args.out.now.items
    c.remove.new.out.items c.sort_from.new.frames.items (vec_len c.args.out.now) (vec_len c.remove.new.out)
    c.requires.none sheds c.sort_from.ensures.same c.sort_from.ensures.rising
