use Rattle.std.proofs.Common.{◌≡◌, ap, ◌∙◌, ◌-◌, List, length, vec_capacity, vec_len, arith}
use Rattle.page_table_set.specs.PageTables.{PageTables, Hwpt}
use Rattle.std.proofs.lemmas.List.{with_items_is}
use Rattle.page_table_set.proofs.page_tables.PageTables.map.Goals as goal

pub returns-clause-stand : goal.returns-clause-stand
returns-clause-stand g c =
    let same : c.deref_mut.result.now ≡ c.args.self.now.tables =
    c.deref_mut.ensures.value ∙ ap (λ (p : PageTables). p.tables) c.self.view_is in
    rw same at c.map.ensures.stand

pub returns-clause-holds : goal.returns-clause-holds
returns-clause-holds g c =
    let same : c.deref_mut.result.now ≡ c.args.self.now.tables =
    c.deref_mut.ensures.value ∙ ap (λ (p : PageTables). p.tables) c.self.view_is in
    rw same at c.map.ensures.holds

pub returns-clause-free : goal.returns-clause-free
returns-clause-free g c =
    let same : c.deref_mut.result.now ≡ c.args.self.now.tables =
    c.deref_mut.ensures.value ∙ ap (λ (p : PageTables). p.tables) c.self.view_is in
    rw same at c.map.ensures.free

pub returns-clause-out : goal.returns-clause-out
returns-clause-out g c =
    let same : c.deref_mut.result.now ≡ c.args.self.now.tables =
    c.deref_mut.ensures.value ∙ ap (λ (p : PageTables). p.tables) c.self.view_is in
    rw same at c.map.ensures.out

pub returns-clause-others : goal.returns-clause-others
returns-clause-others g c =
    let same : c.deref_mut.result.now ≡ c.args.self.now.tables =
    c.deref_mut.ensures.value ∙ ap (λ (p : PageTables). p.tables) c.self.view_is in
    rw same at c.map.ensures.others

pub map-requires-clause-can : goal.map-requires-clause-can
map-requires-clause-can g c =
    let same : c.deref_mut.result.now ≡ c.args.self.now.tables =
    c.deref_mut.ensures.value ∙ ap (λ (p : PageTables). p.tables) c.self.view_is in
    rw same c.requires.can

pub map-requires-clause-span : goal.map-requires-clause-span
map-requires-clause-span g c =
    let same : c.deref_mut.result.now ≡ c.args.self.now.tables =
    c.deref_mut.ensures.value ∙ ap (λ (p : PageTables). p.tables) c.self.view_is in
    rw same c.requires.span

pub map-requires-clause-pages : goal.map-requires-clause-pages
map-requires-clause-pages g c = c.requires.pages

pub map-requires-clause-some_right : goal.map-requires-clause-some_right
map-requires-clause-some_right g c = c.requires.some_right

pub map-requires-clause-no_other : goal.map-requires-clause-no_other
map-requires-clause-no_other g c = c.requires.no_other

pub invariant_of-self : goal.invariant_of-self
invariant_of-self g c =
    let same = c.map.ensures.same ∙ c.deref_mut.ensures.value in
    let back = with_items_is c.self.inside.tables c.map.new.tables (omega (arith, ap length same)) in
    rw (back, same) c.self.invariant

pub returns-clause-same : goal.returns-clause-same
returns-clause-same g c =
    let same = c.map.ensures.same ∙ c.deref_mut.ensures.value in
    let back = with_items_is c.self.inside.tables c.map.new.tables (omega (arith, ap length same)) in
    let f : List Hwpt → PageTables =
    λ tables. record { tables = tables; room = vec_capacity c.self.inside.tables - vec_len c.self.inside.tables } in
    ap f (back ∙ same) ∙ c.self.view_is

pub returns-clause-capacity : goal.returns-clause-capacity
returns-clause-capacity g c = c.map.ensures.capacity
