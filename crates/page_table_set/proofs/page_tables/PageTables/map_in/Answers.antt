use Rattle.std.proofs.Common.{◌≡◌, ◌-◌, ◌/◌, Some, None, length, ap, sym, ◌∙◌, refl, vec_capacity, vec_len, List, set}
use Rattle.iofd_words.specs.Pages.{page_of}
use Rattle.iofd_words.specs.TablePlaces.{pages_in}
use Rattle.page_table_set.proofs.MappedIn.{found_all, found_frames, found_free, found_others, found_holds, found_out}
use Rattle.page_table_set.proofs.MappedIn.{none_all, none_free, none_holds, none_out}
use Rattle.page_table_set.proofs.MappedOver.{SpanMapped, as_span, end_below}
use Rattle.page_table_set.proofs.TakenOut.{both_there, none_there}
use Rattle.page_table_set.specs.PageTables.{Hwpt, PageTables, hwpt_of}
use Rattle.std.proofs.lemmas.List.{set-get_or}
use Rattle.page_table_set.proofs.page_tables.PageTables.map_in.Goals as goal

pub map-requires-clause-table : goal.map-requires-clause-table
map-requires-clause-table g c =
    let found : hwpt_of c.args.self.now.tables c.args.file c.args.id ≡ Some (record {
      object = c.hwpt.inside.object;
      table = c.hwpt.inside.table;
    }) =
    ap (λ (p : PageTables). hwpt_of p.tables c.args.file c.args.id) (sym c.self.view_is)
    ∙ (both_there c.args.file c.args.id c.self.inside.tables.items c.in-Some.place c.index_mut-hwpt.result.now
    (rw (c.deref.ensures.value) at (sym c.in-Some.ensures.value))).0
    ∙ ap (λ (h : Hwpt). Some h) (sym c.index_mut-hwpt.ensures.value ∙ sym c.hwpt.view_is) in
    let first : c.first-first_page.result / 4096 ≡ page_of c.args.span.first =
    ap (λ n. n / 4096) c.first-first_page.ensures.value in
    rw (first, c.requires.pages)
    (found_frames c.args.pool.now c.args.self.now.tables c.args.file c.args.id (record {
      object = c.hwpt.inside.object;
      table = c.hwpt.inside.table;
    }) c.args.span found
    (vec_capacity c.args.out.now - vec_len c.args.out.now) c.requires.can)

pub map-requires-clause-below : goal.map-requires-clause-below
map-requires-clause-below g c =
    let found : hwpt_of c.args.self.now.tables c.args.file c.args.id ≡ Some (record {
      object = c.hwpt.inside.object;
      table = c.hwpt.inside.table;
    }) =
    ap (λ (p : PageTables). hwpt_of p.tables c.args.file c.args.id) (sym c.self.view_is)
    ∙ (both_there c.args.file c.args.id c.self.inside.tables.items c.in-Some.place c.index_mut-hwpt.result.now
    (rw (c.deref.ensures.value) at (sym c.in-Some.ensures.value))).0
    ∙ ap (λ (h : Hwpt). Some h) (sym c.index_mut-hwpt.ensures.value ∙ sym c.hwpt.view_is) in
    end_below _ c.args.span c.first-first_page.result (length c.args.frames.now) c.first-first_page.ensures.value
    c.first-first_page.ensures.ordered c.requires.pages
    (rw found at c.requires.span)

pub returns-in-Some-clause-stand : goal.returns-in-Some-clause-stand
returns-in-Some-clause-stand g c =
    let found : hwpt_of c.args.self.now.tables c.args.file c.args.id ≡ Some (record {
      object = c.hwpt.inside.object;
      table = c.hwpt.inside.table;
    }) =
    ap (λ (p : PageTables). hwpt_of p.tables c.args.file c.args.id) (sym c.self.view_is)
    ∙ (both_there c.args.file c.args.id c.self.inside.tables.items c.in-Some.place c.index_mut-hwpt.result.now
    (rw (c.deref.ensures.value) at (sym c.in-Some.ensures.value))).0
    ∙ ap (λ (h : Hwpt). Some h) (sym c.index_mut-hwpt.ensures.value ∙ sym c.hwpt.view_is) in
    let call : SpanMapped c.args.pool.now c.map.new.pool c.hwpt.inside.table (page_of c.args.span.first)
    (pages_in c.args.span) c.args.frames.now c.args.rights c.args.out.now.items c.map.new.out.items =
    as_span c.args.pool.now c.map.new.pool c.hwpt.inside.table c.map.new.table c.hwpt.inside.table
    (c.first-first_page.result / 4096) c.args.span c.args.frames.now c.args.rights
    c.args.out.now.items c.map.new.out.items refl c.map.ensures.same
    (ap (λ n. n / 4096) c.first-first_page.ensures.value) c.requires.pages
    c.map.ensures.mapped c.map.ensures.holds c.map.ensures.free c.map.ensures.out in
    found_all c.args.pool.now c.args.self.now.tables c.args.file c.args.id (record {
      object = c.hwpt.inside.object;
      table = c.hwpt.inside.table;
    }) c.args.span found
    c.map.new.pool c.args.frames.now c.args.rights c.args.out.now.items c.map.new.out.items call

pub returns-in-Some-clause-holds : goal.returns-in-Some-clause-holds
returns-in-Some-clause-holds g c =
    let found : hwpt_of c.args.self.now.tables c.args.file c.args.id ≡ Some (record {
      object = c.hwpt.inside.object;
      table = c.hwpt.inside.table;
    }) =
    ap (λ (p : PageTables). hwpt_of p.tables c.args.file c.args.id) (sym c.self.view_is)
    ∙ (both_there c.args.file c.args.id c.self.inside.tables.items c.in-Some.place c.index_mut-hwpt.result.now
    (rw (c.deref.ensures.value) at (sym c.in-Some.ensures.value))).0
    ∙ ap (λ (h : Hwpt). Some h) (sym c.index_mut-hwpt.ensures.value ∙ sym c.hwpt.view_is) in
    let call : SpanMapped c.args.pool.now c.map.new.pool c.hwpt.inside.table (page_of c.args.span.first)
    (pages_in c.args.span) c.args.frames.now c.args.rights c.args.out.now.items c.map.new.out.items =
    as_span c.args.pool.now c.map.new.pool c.hwpt.inside.table c.map.new.table c.hwpt.inside.table
    (c.first-first_page.result / 4096) c.args.span c.args.frames.now c.args.rights
    c.args.out.now.items c.map.new.out.items refl c.map.ensures.same
    (ap (λ n. n / 4096) c.first-first_page.ensures.value) c.requires.pages
    c.map.ensures.mapped c.map.ensures.holds c.map.ensures.free c.map.ensures.out in
    found_holds c.args.pool.now c.args.self.now.tables c.args.file c.args.id (record {
      object = c.hwpt.inside.object;
      table = c.hwpt.inside.table;
    }) c.args.span found
    c.map.new.pool c.args.frames.now c.args.rights c.args.out.now.items c.map.new.out.items call

pub returns-in-Some-clause-free : goal.returns-in-Some-clause-free
returns-in-Some-clause-free g c =
    let found : hwpt_of c.args.self.now.tables c.args.file c.args.id ≡ Some (record {
      object = c.hwpt.inside.object;
      table = c.hwpt.inside.table;
    }) =
    ap (λ (p : PageTables). hwpt_of p.tables c.args.file c.args.id) (sym c.self.view_is)
    ∙ (both_there c.args.file c.args.id c.self.inside.tables.items c.in-Some.place c.index_mut-hwpt.result.now
    (rw (c.deref.ensures.value) at (sym c.in-Some.ensures.value))).0
    ∙ ap (λ (h : Hwpt). Some h) (sym c.index_mut-hwpt.ensures.value ∙ sym c.hwpt.view_is) in
    let call : SpanMapped c.args.pool.now c.map.new.pool c.hwpt.inside.table (page_of c.args.span.first)
    (pages_in c.args.span) c.args.frames.now c.args.rights c.args.out.now.items c.map.new.out.items =
    as_span c.args.pool.now c.map.new.pool c.hwpt.inside.table c.map.new.table c.hwpt.inside.table
    (c.first-first_page.result / 4096) c.args.span c.args.frames.now c.args.rights
    c.args.out.now.items c.map.new.out.items refl c.map.ensures.same
    (ap (λ n. n / 4096) c.first-first_page.ensures.value) c.requires.pages
    c.map.ensures.mapped c.map.ensures.holds c.map.ensures.free c.map.ensures.out in
    found_free c.args.pool.now c.args.self.now.tables c.args.file c.args.id (record {
      object = c.hwpt.inside.object;
      table = c.hwpt.inside.table;
    }) c.args.span found
    c.map.new.pool c.args.frames.now c.args.rights c.args.out.now.items c.map.new.out.items call

pub returns-in-Some-clause-others : goal.returns-in-Some-clause-others
returns-in-Some-clause-others g c =
    let found : hwpt_of c.args.self.now.tables c.args.file c.args.id ≡ Some (record {
      object = c.hwpt.inside.object;
      table = c.hwpt.inside.table;
    }) =
    ap (λ (p : PageTables). hwpt_of p.tables c.args.file c.args.id) (sym c.self.view_is)
    ∙ (both_there c.args.file c.args.id c.self.inside.tables.items c.in-Some.place c.index_mut-hwpt.result.now
    (rw (c.deref.ensures.value) at (sym c.in-Some.ensures.value))).0
    ∙ ap (λ (h : Hwpt). Some h) (sym c.index_mut-hwpt.ensures.value ∙ sym c.hwpt.view_is) in
    let call : SpanMapped c.args.pool.now c.map.new.pool c.hwpt.inside.table (page_of c.args.span.first)
    (pages_in c.args.span) c.args.frames.now c.args.rights c.args.out.now.items c.map.new.out.items =
    as_span c.args.pool.now c.map.new.pool c.hwpt.inside.table c.map.new.table c.hwpt.inside.table
    (c.first-first_page.result / 4096) c.args.span c.args.frames.now c.args.rights
    c.args.out.now.items c.map.new.out.items refl c.map.ensures.same
    (ap (λ n. n / 4096) c.first-first_page.ensures.value) c.requires.pages
    c.map.ensures.mapped c.map.ensures.holds c.map.ensures.free c.map.ensures.out in
    found_others c.args.pool.now c.args.self.now.tables c.args.file c.args.id (record {
      object = c.hwpt.inside.object;
      table = c.hwpt.inside.table;
    }) c.args.span found
    c.map.new.pool c.args.frames.now c.args.rights c.args.out.now.items c.map.new.out.items call

pub returns-in-Some-clause-out : goal.returns-in-Some-clause-out
returns-in-Some-clause-out g c =
    let found : hwpt_of c.args.self.now.tables c.args.file c.args.id ≡ Some (record {
      object = c.hwpt.inside.object;
      table = c.hwpt.inside.table;
    }) =
    ap (λ (p : PageTables). hwpt_of p.tables c.args.file c.args.id) (sym c.self.view_is)
    ∙ (both_there c.args.file c.args.id c.self.inside.tables.items c.in-Some.place c.index_mut-hwpt.result.now
    (rw (c.deref.ensures.value) at (sym c.in-Some.ensures.value))).0
    ∙ ap (λ (h : Hwpt). Some h) (sym c.index_mut-hwpt.ensures.value ∙ sym c.hwpt.view_is) in
    let call : SpanMapped c.args.pool.now c.map.new.pool c.hwpt.inside.table (page_of c.args.span.first)
    (pages_in c.args.span) c.args.frames.now c.args.rights c.args.out.now.items c.map.new.out.items =
    as_span c.args.pool.now c.map.new.pool c.hwpt.inside.table c.map.new.table c.hwpt.inside.table
    (c.first-first_page.result / 4096) c.args.span c.args.frames.now c.args.rights
    c.args.out.now.items c.map.new.out.items refl c.map.ensures.same
    (ap (λ n. n / 4096) c.first-first_page.ensures.value) c.requires.pages
    c.map.ensures.mapped c.map.ensures.holds c.map.ensures.free c.map.ensures.out in
    found_out c.args.pool.now c.args.self.now.tables c.args.file c.args.id (record {
      object = c.hwpt.inside.object;
      table = c.hwpt.inside.table;
    }) c.args.span found
    c.map.new.pool c.args.frames.now c.args.rights c.args.out.now.items c.map.new.out.items call

pub returns-in_default-clause-stand : goal.returns-in_default-clause-stand
returns-in_default-clause-stand g c =
    let none : hwpt_of c.args.self.now.tables c.args.file c.args.id ≡ None =
    ap (λ (p : PageTables). hwpt_of p.tables c.args.file c.args.id) (sym c.self.view_is)
    ∙ none_there c.args.file c.args.id c.self.inside.tables.items
    (rw (c.deref.ensures.value) at (sym c.place.ensures.value ∙ c.in_default.is)) in
    none_all c.args.pool.now c.args.self.now.tables c.args.file c.args.id c.args.span none
    c.args.frames.now c.args.rights

pub returns-in_default-clause-holds : goal.returns-in_default-clause-holds
returns-in_default-clause-holds g c =
    let none : hwpt_of c.args.self.now.tables c.args.file c.args.id ≡ None =
    ap (λ (p : PageTables). hwpt_of p.tables c.args.file c.args.id) (sym c.self.view_is)
    ∙ none_there c.args.file c.args.id c.self.inside.tables.items
    (rw (c.deref.ensures.value) at (sym c.place.ensures.value ∙ c.in_default.is)) in
    none_holds c.args.pool.now c.args.self.now.tables c.args.file c.args.id c.args.span none

pub returns-in_default-clause-free : goal.returns-in_default-clause-free
returns-in_default-clause-free g c =
    let none : hwpt_of c.args.self.now.tables c.args.file c.args.id ≡ None =
    ap (λ (p : PageTables). hwpt_of p.tables c.args.file c.args.id) (sym c.self.view_is)
    ∙ none_there c.args.file c.args.id c.self.inside.tables.items
    (rw (c.deref.ensures.value) at (sym c.place.ensures.value ∙ c.in_default.is)) in
    none_free c.args.pool.now c.args.self.now.tables c.args.file c.args.id c.args.span none

pub returns-in_default-clause-out : goal.returns-in_default-clause-out
returns-in_default-clause-out g c =
    let none : hwpt_of c.args.self.now.tables c.args.file c.args.id ≡ None =
    ap (λ (p : PageTables). hwpt_of p.tables c.args.file c.args.id) (sym c.self.view_is)
    ∙ none_there c.args.file c.args.id c.self.inside.tables.items
    (rw (c.deref.ensures.value) at (sym c.place.ensures.value ∙ c.in_default.is)) in
    none_out c.args.pool.now c.args.self.now.tables c.args.file c.args.id c.args.span none c.args.out.now.items

pub place-requires : goal.place-requires
place-requires g c = rw c.deref.ensures.value c.self.invariant

pub map-requires-clause-some_right : goal.map-requires-clause-some_right
map-requires-clause-some_right g c = c.requires.some_right

pub map-requires-clause-no_other : goal.map-requires-clause-no_other
map-requires-clause-no_other g c = c.requires.no_other

pub invariant_of-self : goal.invariant_of-self
invariant_of-self g c =
    let items : List Hwpt = c.self.inside.tables.items in
    let hwpt = c.hwpt.view_is ∙ c.index_mut-hwpt.ensures.value in
    let same = ap (λ table. set items c.in-Some.place (record { object = c.hwpt.inside.object; table = table }))
    c.map.ensures.same ∙ ap (λ (h : Hwpt). set items c.in-Some.place h) hwpt
    ∙ set-get_or items c.in-Some.place c.index_mut-hwpt.result.now in
    rw same c.self.invariant

pub returns-in-Some-clause-same : goal.returns-in-Some-clause-same
returns-in-Some-clause-same g c =
    let items : List Hwpt = c.self.inside.tables.items in
    let hwpt = c.hwpt.view_is ∙ c.index_mut-hwpt.ensures.value in
    let same = ap (λ table. set items c.in-Some.place (record { object = c.hwpt.inside.object; table = table }))
    c.map.ensures.same ∙ ap (λ (h : Hwpt). set items c.in-Some.place h) hwpt
    ∙ set-get_or items c.in-Some.place c.index_mut-hwpt.result.now in
    let f : List Hwpt → PageTables =
    λ tables. record { tables = tables; room = vec_capacity c.self.inside.tables - vec_len c.self.inside.tables } in
    ap f same ∙ c.self.view_is

pub returns-in-Some-clause-capacity : goal.returns-in-Some-clause-capacity
returns-in-Some-clause-capacity g c = c.map.ensures.capacity

pub returns-in_default-clause-same : goal.returns-in_default-clause-same
returns-in_default-clause-same g c = refl

pub returns-in_default-clause-others : goal.returns-in_default-clause-others
returns-in_default-clause-others g c = λ frames leads stand frame none. refl

pub returns-in_default-clause-capacity : goal.returns-in_default-clause-capacity
returns-in_default-clause-capacity g c = refl
