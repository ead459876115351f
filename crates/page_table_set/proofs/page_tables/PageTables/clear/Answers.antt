use Rattle.std.proofs.Common.{◌≡◌, ap, ◌∙◌, ◌-◌, List, length, vec_capacity, vec_len, arith}
use Rattle.page_table_set.specs.PageTables.{PageTables, Hwpt}
use Rattle.std.proofs.lemmas.List.{with_items_is}
use Rattle.page_table_set.proofs.page_tables.PageTables.clear.Goals as goal

pub returns-clause-stand : goal.returns-clause-stand
returns-clause-stand g c =
    let same : c.deref_mut.result.now ≡ c.args.self.now.tables =
    c.deref_mut.ensures.value ∙ ap (λ (p : PageTables). p.tables) c.self.view_is in
    rw same at c.clear.ensures.stand

pub returns-clause-others : goal.returns-clause-others
returns-clause-others g c =
    let same : c.deref_mut.result.now ≡ c.args.self.now.tables =
    c.deref_mut.ensures.value ∙ ap (λ (p : PageTables). p.tables) c.self.view_is in
    rw same at c.clear.ensures.others

pub clear-requires-clause-stand : goal.clear-requires-clause-stand
clear-requires-clause-stand g c =
    let same : c.deref_mut.result.now ≡ c.args.self.now.tables =
    c.deref_mut.ensures.value ∙ ap (λ (p : PageTables). p.tables) c.self.view_is in
    rw same c.requires.stand

pub clear-requires-clause-below : goal.clear-requires-clause-below
clear-requires-clause-below g c =
    let same : c.deref_mut.result.now ≡ c.args.self.now.tables =
    c.deref_mut.ensures.value ∙ ap (λ (p : PageTables). p.tables) c.self.view_is in
    rw same c.requires.below

pub invariant_of-self : goal.invariant_of-self
invariant_of-self g c =
    let same = c.clear.ensures.same ∙ c.deref_mut.ensures.value in
    let back = with_items_is c.self.inside.tables c.clear.new.tables (omega (arith, ap length same)) in
    rw (back, same) c.self.invariant

pub returns-clause-same : goal.returns-clause-same
returns-clause-same g c =
    let same = c.clear.ensures.same ∙ c.deref_mut.ensures.value in
    let back = with_items_is c.self.inside.tables c.clear.new.tables (omega (arith, ap length same)) in
    let f : List Hwpt → PageTables =
    λ tables. record { tables = tables; room = vec_capacity c.self.inside.tables - vec_len c.self.inside.tables } in
    ap f (back ∙ same) ∙ c.self.view_is

pub returns-clause-holds : goal.returns-clause-holds
returns-clause-holds g c = c.clear.ensures.holds
