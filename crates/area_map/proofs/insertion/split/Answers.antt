use Rattle.std.proofs.Common.{◌≡◌, ◌∙◌, suc, ◌+◌, ◌-◌, List, [], length, take, drop, set, get_or, refl, ap, arith}
use Rattle.std.proofs.Common.{subst, sym}
use Rattle.std.specs.List.{insert}
use Rattle.std.specs.Prelude.{IsSome, Option, vec_capacity, vec_len}
use Rattle.std.proofs.lemmas.Bool.{false≢true}
use Rattle.std.proofs.lemmas.List.{take_at, length-drop, length-set, length-take-le}
use Rattle.iofd_words.specs.declared.rows.Area.{Area}
use Rattle.area_map.specs.Kept.{IsSpare}
use Rattle.area_map.proofs.Joined.{joined-split}
use Rattle.area_map.proofs.RowsAdded.{parts_in_rows, parts_are_rows}
use Rattle.area_map.proofs.RowsSame.{before_split}
use Rattle.area_map.proofs.insertion.split.Given as given
use Rattle.area_map.proofs.insertion.split.Goals as goal

parted : (g : given.Over) (c : goal.After-unwrap g) → c.insert.new.self.items
    ≡ insert (set c.args.rows.now.items c.args.index
    (take c.split_place-at.result (get_or c.args.rows.now.items c.args.index []))) (c.args.index
    + 1) (drop c.split_place-at.result (get_or c.args.rows.now.items c.args.index []))
parted g c =
    let rows : List (List Area) = c.args.rows.now.items in
    let cut = rw c.deref_mut.ensures.value at c.cut.ensures.rows in
    let upper = rw c.deref_mut.ensures.value at c.cut.ensures.upper in
    let long : length c.cut.new.rows ≡ c.args.rows.now.len =
    ap length cut ∙ length-set rows c.args.index (take c.split_place-at.result (get_or rows c.args.index []))
    ∙ omega arith in
    let back = take_at c.cut.new.rows (drop (length c.cut.new.rows) rows) c.args.rows.now.len long in
    let items = rw c.unwrap.ensures at c.insert.ensures.items in
    items ∙ rw (back, cut, upper) refl

pub returns-in-Some-clause-areas : goal.returns-in-Some-clause-areas
returns-in-Some-clause-areas g c =
    rw (parted g c) (parts_in_rows c.args.rows.now.items c.args.index c.split_place-at.result c.requires.bound)

pub returns-in-Some-clause-rows : goal.returns-in-Some-clause-rows
returns-in-Some-clause-rows g c =
    rw (parted g c) (parts_are_rows c.args.rows.now.items c.args.index c.split_place-at.result c.requires.bound
    c.requires.full c.split_place-at.ensures.some c.split_place-at.ensures.few
    c.requires.before c.requires.behind)

pub cut-requires-clause-bound : goal.cut-requires-clause-bound
cut-requires-clause-bound g c = rw c.deref_mut.ensures.value c.requires.bound

pub cut-requires-clause-few : goal.cut-requires-clause-few
cut-requires-clause-few g c = rw c.deref_mut.ensures.value (omega (arith, c.requires.full))

pub cut-requires-clause-at : goal.cut-requires-clause-at
cut-requires-clause-at g c =
    rw c.deref_mut.ensures.value (omega (arith, c.requires.full, c.split_place-at.ensures.few))

pub returns-in-Some-clause-before : goal.returns-in-Some-clause-before
returns-in-Some-clause-before g c =
    let row = get_or c.args.rows.now.items c.args.index [] in
    rw (parted g c) (before_split c.args.rows.now.items c.args.index (take c.split_place-at.result row)
    (drop c.split_place-at.result row) c.requires.bound)

pub returns-in-Some-clause-joined : goal.returns-in-Some-clause-joined
returns-in-Some-clause-joined g c =
    let rows : List (List Area) = c.args.rows.now.items in
    let i = c.args.index in
    let at = c.split_place-at.result in
    let row : List Area = get_or rows i [] in
    let next : i + 1 ≡ suc i = omega arith in
    let full = c.requires.full in
    let lower : length (take at row) ≡ at = length-take-le at row (omega (arith, full, c.split_place-at.ensures.few)) in
    let upper : length (drop at row) ≡ 32 - at = length-drop at row ∙ ap (λ n. n - at) full in
    let middle = c.split_place-at.ensures.middle in
    let few = c.split_place-at.ensures.few in
    let half = c.split_place-at.ensures.half in
    rw (parted g c, next) (joined-split rows i (take at row) (drop at row) c.requires.bound c.requires.before
    (rw next at c.requires.behind) (omega (arith, lower, upper, few)) (omega (arith, lower, half))
    (λ within. let is = middle (omega (arith, within)) in omega (arith, upper, is)) c.requires.joined)

pub cut-requires-clause-upper : goal.cut-requires-clause-upper
cut-requires-clause-upper g c =
    (subst (λ (spare : Option (List Area)). IsSpare spare (vec_len c.args.rows.now) (vec_capacity c.args.rows.now))
    (sym c.take.ensures.value ∙ c.in-Some.is) c.requires.spare).0

pub returns-in-Some-clause-spare : goal.returns-in-Some-clause-spare
returns-in-Some-clause-spare g c = c.take.ensures.after

pub returns-in-Some-clause-len : goal.returns-in-Some-clause-len
returns-in-Some-clause-len g c = rw c.unwrap.ensures at c.insert.ensures.len

-- there is a spare row
spare_there : (g : given.Over) (c : goal.In_default g) → ⊥
spare_there g c =
    let spare = sym c.take.ensures.value ∙ c.in_default.is in
    false≢true (subst (λ (o : Option (List Area)). IsSome o) spare c.requires.some)

pub returns-in_default-clause-areas : goal.returns-in_default-clause-areas
returns-in_default-clause-areas g c = refl

pub returns-in_default-clause-rows : goal.returns-in_default-clause-rows
returns-in_default-clause-rows g c = absurd (spare_there g c)

pub returns-in_default-clause-joined : goal.returns-in_default-clause-joined
returns-in_default-clause-joined g c = c.requires.joined

pub returns-in_default-clause-spare : goal.returns-in_default-clause-spare
returns-in_default-clause-spare g c = c.take.ensures.after

pub returns-in_default-clause-len : goal.returns-in_default-clause-len
returns-in_default-clause-len g c = absurd (spare_there g c)

pub returns-in_default-clause-before : goal.returns-in_default-clause-before
returns-in_default-clause-before g c = refl
