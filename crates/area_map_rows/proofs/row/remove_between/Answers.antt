use Rattle.std.proofs.Common.{◌≡◌, ◌∙◌, ◌-◌, ◌++◌, ℕ, List, length, take, drop, refl, sym, ap, take-append-drop, arith}
use Rattle.std.proofs.lemmas.List.{length-append, length-drop, length-take-le}
use Rattle.iofd_words.specs.declared.rows.Area.{Area}
use Rattle.area_map_rows.proofs.Removed.{last_goes}
use Rattle.std.specs.List.{remove}
use Rattle.area_map_rows.proofs.row.remove_between.Goals as goal

pub loop-at-init : goal.loop-at-init
loop-at-init g c =
    record {
      rest = sym (take-append-drop c.args.to c.args.areas.now.items);
      from = c.requires.order;
      to = omega arith;
      capacity = refl;
    }

pub overflow_sub-at : goal.overflow_sub-at
overflow_sub-at g c = omega arith

pub remove-requires : goal.remove-requires
remove-requires g c =
    let items : List Area = c.args.areas.now.items in
    let before = c.loop-at.invariant in
    let at = c.loop-at.at in
    let long = ap length before.rest ∙ length-append (take at items) (drop c.args.to items) in
    let front = length-take-le at items (omega arith) in
    omega (arith, long, front)

pub loop-at-smaller : goal.loop-at-smaller
loop-at-smaller g c = omega arith

pub loop-at-preserved : goal.loop-at-preserved
loop-at-preserved g c =
    let items : List Area = c.args.areas.now.items in
    let before = c.loop-at.invariant in
    let at = c.loop-at.at in
    record {
      rest = c.remove.ensures.items ∙ ap (λ (areas : List Area). remove areas (at - 1)) before.rest
          ∙ last_goes items (drop c.args.to items) at (omega arith) (omega (arith, before.to, c.requires.bound));
      from = omega arith;
      to = omega (arith, before.to);
      capacity = c.remove.ensures.capacity ∙ before.capacity;
    }

pub returns-clause-rest : goal.returns-clause-rest
returns-clause-rest g c =
    let items : List Area = c.args.areas.now.items in
    let same : c.loop-at.at ≡ c.args.from = omega (arith, c.loop-at.invariant.from) in
    c.loop-at.invariant.rest ∙ ap (λ (at : ℕ). take at items ++ drop c.args.to items) same

pub returns-clause-len : goal.returns-clause-len
returns-clause-len g c =
    let items : List Area = c.args.areas.now.items in
    let before = c.loop-at.invariant in
    let at = c.loop-at.at in
    let long = ap length before.rest ∙ length-append (take at items) (drop c.args.to items) in
    let front = length-take-le at items (omega (arith, before.to, c.requires.bound)) in
    omega (arith, long, front, before.to, length-drop c.args.to items)

pub returns-clause-capacity : goal.returns-clause-capacity
returns-clause-capacity g c = c.loop-at.invariant.capacity
