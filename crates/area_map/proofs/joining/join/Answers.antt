use Rattle.std.proofs.Common.{◌≡◌, ◌∙◌, suc, ◌+◌, ◌<◌, ◌++◌, List, [], length, get_or, set, refl, sym, ap, arith}
use Rattle.std.proofs.Math.Nat.{le_refl}
use Rattle.std.specs.List.{remove}
use Rattle.std.proofs.lemmas.List.{get_or_default, length-set}
use Rattle.std.proofs.lemmas.List.Edits.{get_or-remove_below}
use Rattle.iofd_words.specs.declared.rows.Area.{Area}
use Rattle.area_map_rows.proofs.Rows.{written_back}
use Rattle.area_map.proofs.Joined.{apart_back, join_back, join_front}
use Rattle.area_map.proofs.RowsAdded.{in_rows-join, AreRows-join}
use Rattle.area_map.proofs.RowsSame.{before_join}
use Rattle.area_map.proofs.joining.join.Goals as goal

pub remove-next-requires : goal.remove-next-requires
remove-next-requires g c =
    let within : c.args.index + 1 < length c.args.rows.now.items =
    rw c.deref.ensures.value at (c.if-not-are_few.ensures.two refl) in
    omega arith

pub take_over-requires-clause-bound : goal.take_over-requires-clause-bound
take_over-requires-clause-bound g c =
    let within : c.args.index + 1 < length c.args.rows.now.items =
    rw c.deref.ensures.value at (c.if-not-are_few.ensures.two refl) in
    rw c.deref_mut.ensures.value (omega arith)

pub take_over-requires-clause-few : goal.take_over-requires-clause-few
take_over-requires-clause-few g c =
    let items : List (List Area) = c.args.rows.now.items in
    let i = c.args.index in
    let within : i + 1 < length items = rw c.deref.ensures.value at (c.if-not-are_few.ensures.two refl) in
    let few = rw c.deref.ensures.value at (c.if-not-are_few.ensures.few refl) in
    let same = get_or-remove_below items (i + 1) [] i (omega arith) within in
    let next = c.remove-next.ensures.value ∙ get_or_default items (i + 1) c.remove-next.result [] within in
    rw (c.deref_mut.ensures.value, c.remove-next.ensures.items, same) (omega (arith, few, ap length next))

pub returns-clause-areas : goal.returns-clause-areas
returns-clause-areas g c =
    let items : List (List Area) = c.args.rows.now.items in
    let i = c.args.index in
    let within : i + 1 < length items = rw c.deref.ensures.value at (c.if-not-are_few.ensures.two refl) in
    let base = rw (c.deref_mut.ensures.value, c.remove-next.ensures.items) at c.take_over.ensures in
    let same = get_or-remove_below items (i + 1) [] i (omega arith) within in
    let next = c.remove-next.ensures.value ∙ get_or_default items (i + 1) c.remove-next.result [] within in
    let is = base ∙ ap (λ (row : List Area). set (remove items (i + 1)) i (row ++ c.remove-next.result)) same
    ∙ ap (λ (row : List Area). set (remove items (i + 1)) i (get_or items i [] ++ row)) next in
    let left : length (remove items (i + 1)) ≡ c.remove-next.new.self.len =
    ap length (sym c.remove-next.ensures.items) ∙ omega arith in
    let long = length-set (remove items (i + 1)) i (get_or items i [] ++ get_or items (i + 1) []) ∙ left in
    let written = written_back c.remove-next.new.self.items c.take_over.new.rows
    (set (remove items (i + 1)) i (get_or items i [] ++ get_or items (i + 1) []))
    c.remove-next.new.self.len is long in
    rw written (in_rows-join items i within)

pub returns-clause-rows : goal.returns-clause-rows
returns-clause-rows g c =
    let items : List (List Area) = c.args.rows.now.items in
    let i = c.args.index in
    let within : i + 1 < length items = rw c.deref.ensures.value at (c.if-not-are_few.ensures.two refl) in
    let base = rw (c.deref_mut.ensures.value, c.remove-next.ensures.items) at c.take_over.ensures in
    let same = get_or-remove_below items (i + 1) [] i (omega arith) within in
    let next = c.remove-next.ensures.value ∙ get_or_default items (i + 1) c.remove-next.result [] within in
    let is = base ∙ ap (λ (row : List Area). set (remove items (i + 1)) i (row ++ c.remove-next.result)) same
    ∙ ap (λ (row : List Area). set (remove items (i + 1)) i (get_or items i [] ++ row)) next in
    let left : length (remove items (i + 1)) ≡ c.remove-next.new.self.len =
    ap length (sym c.remove-next.ensures.items) ∙ omega arith in
    let long = length-set (remove items (i + 1)) i (get_or items i [] ++ get_or items (i + 1) []) ∙ left in
    let written = written_back c.remove-next.new.self.items c.take_over.new.rows
    (set (remove items (i + 1)) i (get_or items i [] ++ get_or items (i + 1) []))
    c.remove-next.new.self.len is long in
    rw written (AreRows-join items i within (rw c.deref.ensures.value at (c.if-not-are_few.ensures.few refl))
    c.requires)

pub returns-clause-before : goal.returns-clause-before
returns-clause-before g c =
    let items : List (List Area) = c.args.rows.now.items in
    let i = c.args.index in
    let within : i + 1 < length items = rw c.deref.ensures.value at (c.if-not-are_few.ensures.two refl) in
    let base = rw (c.deref_mut.ensures.value, c.remove-next.ensures.items) at c.take_over.ensures in
    let same = get_or-remove_below items (i + 1) [] i (omega arith) within in
    let next = c.remove-next.ensures.value ∙ get_or_default items (i + 1) c.remove-next.result [] within in
    let is = base ∙ ap (λ (row : List Area). set (remove items (i + 1)) i (row ++ c.remove-next.result)) same
    ∙ ap (λ (row : List Area). set (remove items (i + 1)) i (get_or items i [] ++ row)) next in
    let left : length (remove items (i + 1)) ≡ c.remove-next.new.self.len =
    ap length (sym c.remove-next.ensures.items) ∙ omega arith in
    let long = length-set (remove items (i + 1)) i (get_or items i [] ++ get_or items (i + 1) []) ∙ left in
    let written = written_back c.remove-next.new.self.items c.take_over.new.rows
    (set (remove items (i + 1)) i (get_or items i [] ++ get_or items (i + 1) []))
    c.remove-next.new.self.len is long in
    rw written (before_join items i (get_or items i [] ++ get_or items (i + 1) []) within)

pub returns-then-not-are_few-clause-areas : goal.returns-then-not-are_few-clause-areas
returns-then-not-are_few-clause-areas g c = refl

pub returns-then-not-are_few-clause-rows : goal.returns-then-not-are_few-clause-rows
returns-then-not-are_few-clause-rows g c = c.requires

pub returns-then-not-are_few-clause-len : goal.returns-then-not-are_few-clause-len
returns-then-not-are_few-clause-len g c = le_refl c.args.rows.now.len

pub returns-then-not-are_few-clause-capacity : goal.returns-then-not-are_few-clause-capacity
returns-then-not-are_few-clause-capacity g c = refl

pub returns-then-not-are_few-clause-before : goal.returns-then-not-are_few-clause-before
returns-then-not-are_few-clause-before g c = refl

pub returns-then-not-are_few-clause-none : goal.returns-then-not-are_few-clause-none
returns-then-not-are_few-clause-none g c = λ less. refl

pub returns-clause-len : goal.returns-clause-len
returns-clause-len g c = omega (arith, c.remove-next.ensures.len)

pub returns-clause-capacity : goal.returns-clause-capacity
returns-clause-capacity g c = c.remove-next.ensures.capacity

pub returns-clause-none : goal.returns-clause-none
returns-clause-none g c = λ less. absurd (omega (arith, c.remove-next.ensures.len, less))

pub returns-then-not-are_few-clause-joined : goal.returns-then-not-are_few-clause-joined
returns-then-not-are_few-clause-joined g c = λ low order but.
    let items : List (List Area) = c.args.rows.now.items in
    let i = c.args.index in
    let next : i + 1 ≡ suc i = omega arith in
    let many : suc i < length items → 16 < length (get_or items i []) + length (get_or items (suc i) []) =
    rw next at (rw c.deref.ensures.value at (c.if-not-are_few.ensures.many refl)) in
    record { front = but.front; back = apart_back items i (rw next at but.back) many }

pub returns-clause-joined : goal.returns-clause-joined
returns-clause-joined g c = λ low order but.
    let items : List (List Area) = c.args.rows.now.items in
    let i = c.args.index in
    let next : i + 1 ≡ suc i = omega arith in
    let within : i + 1 < length items = rw c.deref.ensures.value at (c.if-not-are_few.ensures.two refl) in
    let base = rw (c.deref_mut.ensures.value, c.remove-next.ensures.items) at c.take_over.ensures in
    let same = get_or-remove_below items (i + 1) [] i (omega arith) within in
    let moved = c.remove-next.ensures.value ∙ get_or_default items (i + 1) c.remove-next.result [] within in
    let is = base ∙ ap (λ (row : List Area). set (remove items (i + 1)) i (row ++ c.remove-next.result)) same
    ∙ ap (λ (row : List Area). set (remove items (i + 1)) i (get_or items i [] ++ row)) moved in
    let left : length (remove items (i + 1)) ≡ c.remove-next.new.self.len =
    ap length (sym c.remove-next.ensures.items) ∙ omega arith in
    let long = length-set (remove items (i + 1)) i (get_or items i [] ++ get_or items (i + 1) []) ∙ left in
    let written = written_back c.remove-next.new.self.items c.take_over.new.rows
    (set (remove items (i + 1)) i (get_or items i [] ++ get_or items (i + 1) []))
    c.remove-next.new.self.len is long in
    rw (written, next) (record {
      front = join_front items i low order (omega arith) but.front;
      back = join_back items i (omega arith) (rw next at but.back);
    })
