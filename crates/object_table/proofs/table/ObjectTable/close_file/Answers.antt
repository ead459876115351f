use Rattle.std.proofs.Common.{◌≡◌, ◌<◌, true, length, arith, refl, sym, ◌∙◌}
use Rattle.object_table.proofs.Keys.{AllInLimits-set, IsInLimits-at}
use Rattle.object_table.proofs.Tables.{outside_close_refusal, close_refusal-closed, close_refusal-inside, table_closed}
use Rattle.object_table.proofs.Tables.{table_kept}
use Rattle.object_table.proofs.table.ObjectTable.close_file.Goals as goal

pub returns-in_default-clause-refused : goal.returns-in_default-clause-refused
returns-in_default-clause-refused g c =
    let files = c.self.inside.files in
    rw (← c.self.view_is) (outside_close_refusal files.items c.args.file g.V.Typed.kind
    (λ place is. omega (arith, files.ok.0, c.len.ensures, c.in_default.ensures place is)))

pub returns-then-is_held-clause-refused : goal.returns-then-is_held-clause-refused
returns-then-is_held-clause-refused g c =
    let files = c.self.inside.files in
    let place = c.in-Some.ensures in
    let within : c.in-Some.place < length files.items = omega (arith, files.ok.0, c.len.ensures, place.1) in
    let is_open : c.index_mut-objects.result.now.is_open ≡ true = c.if-not-objects.false in
    let held = sym c.is_held.ensures ∙ c.if-is_held.true in
    rw (← c.self.view_is) (close_refusal-inside files.items c.args.file c.in-Some.place c.index_mut-objects.result.now
    place.0 within c.index_mut-objects.ensures.value g.V.Typed.kind is_open ∙ rw held)

pub returns-clause-ok : goal.returns-clause-ok
returns-clause-ok g c =
    let files = c.self.inside.files in
    let place = c.in-Some.ensures in
    let within : c.in-Some.place < length files.items = omega (arith, files.ok.0, c.len.ensures, place.1) in
    let is_open : c.index_mut-objects.result.now.is_open ≡ true = c.if-not-objects.false in
    let held = sym c.is_held.ensures ∙ c.if-is_held.false in
    rw (← c.self.view_is) (close_refusal-inside files.items c.args.file c.in-Some.place c.index_mut-objects.result.now
    place.0 within c.index_mut-objects.ensures.value g.V.Typed.kind is_open ∙ rw held)

pub returns-clause-closed : goal.returns-clause-closed
returns-clause-closed g c =
    let files = c.self.inside.files in
    let place = c.in-Some.ensures in
    let within : c.in-Some.place < length files.items = omega (arith, files.ok.0, c.len.ensures, place.1) in
    let is_open : c.index_mut-objects.result.now.is_open ≡ true = c.if-not-objects.false in
    rw (← c.self.view_is) (table_closed files.items c.args.file c.in-Some.place c.index_mut-objects.result.now place.0
    within c.index_mut-objects.ensures.value c.close.new.self c.close.ensures.closed)

pub returns-in_default-clause-ok : goal.returns-in_default-clause-ok
returns-in_default-clause-ok g c = tt

pub returns-in_default-clause-closed : goal.returns-in_default-clause-closed
returns-in_default-clause-closed g c = tt

pub returns-in_default-clause-unchanged : goal.returns-in_default-clause-unchanged
returns-in_default-clause-unchanged g c = refl

pub index_mut-objects-requires : goal.index_mut-objects-requires
index_mut-objects-requires g c = omega (arith, c.len.ensures, c.in-Some.ensures.1)

pub invariant_of-self : goal.invariant_of-self
invariant_of-self g c =
    let files = c.self.inside.files in
    let place = c.in-Some.ensures in
    let within : c.in-Some.place < length files.items = omega (arith, files.ok.0, c.len.ensures, place.1) in
    let f = c.index_mut-objects.result.now in
    AllInLimits-set files.items c.in-Some.place f c.self.invariant
    (IsInLimits-at files.items c.in-Some.place f within c.index_mut-objects.ensures.value c.self.invariant)

pub returns-then-not-objects-clause-ok : goal.returns-then-not-objects-clause-ok
returns-then-not-objects-clause-ok g c = tt

pub returns-then-not-objects-clause-closed : goal.returns-then-not-objects-clause-closed
returns-then-not-objects-clause-closed g c = tt

pub returns-then-not-objects-clause-refused : goal.returns-then-not-objects-clause-refused
returns-then-not-objects-clause-refused g c =
    let files = c.self.inside.files in
    let place = c.in-Some.ensures in
    let within : c.in-Some.place < length files.items = omega (arith, files.ok.0, c.len.ensures, place.1) in
    rw (← c.self.view_is) (close_refusal-closed files.items c.args.file c.in-Some.place
    c.index_mut-objects.result.now place.0 within c.index_mut-objects.ensures.value g.V.Typed.kind
    c.if-not-objects.true)

pub returns-then-not-objects-clause-unchanged : goal.returns-then-not-objects-clause-unchanged
returns-then-not-objects-clause-unchanged g c =
    let files = c.self.inside.files in
    let place = c.in-Some.ensures in
    let within : c.in-Some.place < length files.items = omega (arith, files.ok.0, c.len.ensures, place.1) in
    let f = c.index_mut-objects.result.now in
    table_kept files.items c.args.file c.in-Some.place f place.0 within c.index_mut-objects.ensures.value f refl
    ∙ c.self.view_is

pub invariant_of-self-then-is_held : goal.invariant_of-self-then-is_held
invariant_of-self-then-is_held g c =
    let files = c.self.inside.files in
    let place = c.in-Some.ensures in
    let within : c.in-Some.place < length files.items = omega (arith, files.ok.0, c.len.ensures, place.1) in
    let f = c.index_mut-objects.result.now in
    AllInLimits-set files.items c.in-Some.place f c.self.invariant
    (IsInLimits-at files.items c.in-Some.place f within c.index_mut-objects.ensures.value c.self.invariant)

pub returns-then-is_held-clause-ok : goal.returns-then-is_held-clause-ok
returns-then-is_held-clause-ok g c = tt

pub returns-then-is_held-clause-closed : goal.returns-then-is_held-clause-closed
returns-then-is_held-clause-closed g c = tt

pub returns-then-is_held-clause-unchanged : goal.returns-then-is_held-clause-unchanged
returns-then-is_held-clause-unchanged g c =
    let files = c.self.inside.files in
    let place = c.in-Some.ensures in
    let within : c.in-Some.place < length files.items = omega (arith, files.ok.0, c.len.ensures, place.1) in
    let f = c.index_mut-objects.result.now in
    table_kept files.items c.args.file c.in-Some.place f place.0 within c.index_mut-objects.ensures.value f refl
    ∙ c.self.view_is

pub invariant_of-self-2 : goal.invariant_of-self-2
invariant_of-self-2 g c =
    AllInLimits-set c.self.inside.files.items c.in-Some.place c.close.new.self c.self.invariant c.close.ensures.limits

pub returns-clause-refused : goal.returns-clause-refused
returns-clause-refused g c = tt

pub returns-clause-unchanged : goal.returns-clause-unchanged
returns-clause-unchanged g c = tt
