use Rattle.std.proofs.Common.{◌≡◌, ℕ, suc, List, [], ◌∷◌, ◌++◌, length, map, append-nil, append_assoc, refl, sym}
use Rattle.std.proofs.Common.{◌∙◌, ap, arith}
use Rattle.iofd_words.specs.declared.rows.Area.{Area}
use Rattle.hwpt_device.proofs.pins.numbers_of.Goals as goal

pub loop-area-init : goal.loop-area-init
loop-area-init g c =
    let number : Area → ℕ = λ area. area.memory in
    let left : List Area = c.into_iter-area-iterator.result in
    let all : left ≡ c.args.areas.now.areas =
    c.into_iter-area-iterator.ensures.into_iter_gives ∙ c.iter-area-items.ensures.areas in
    let many = ap (λ (l : List Area). length l) all in
    let len = c.in_ok-numbers.ensures.len in
    let capacity = c.in_ok-numbers.ensures.capacity in
    let count = c.len.ensures in
    record {
      same = ap (λ (numbers : List ℕ). numbers ++ map number left) c.in_ok-numbers.ensures.items ∙ ap (map number) all;
      room = omega (arith, many, len, capacity, count);
    }

pub push_reserved-requires : goal.push_reserved-requires
push_reserved-requires g c =
    let rest : List Area = c.next.new.self in
    let long = ap (λ (l : List Area). length l) c.in-Some.ensures.steps in
    let longer : length (c.in-Some.area.now ∷ rest) ≡ suc (length rest) = refl in
    let room = c.loop-area.invariant.room in
    omega (arith, long, longer, room)

pub loop-area-preserved : goal.loop-area-preserved
loop-area-preserved g c =
    let number : Area → ℕ = λ area. area.memory in
    let so_far : List ℕ = c.loop-area.numbers.items in
    let area = c.in-Some.area.now in
    let rest : List Area = c.next.new.self in
    let long = ap (λ (l : List Area). length l) c.in-Some.ensures.steps in
    let longer : length (area ∷ rest) ≡ suc (length rest) = refl in
    let room = c.loop-area.invariant.room in
    let len = c.push_reserved.ensures.len in
    let capacity = c.push_reserved.ensures.capacity in
    record {
      same = ap (λ (numbers : List ℕ). numbers ++ map number rest) {y = so_far ++ number area ∷ []}
          c.push_reserved.ensures.items
          ∙ append_assoc so_far (number area ∷ []) (map number rest)
          ∙ ap (λ (areas : List Area). so_far ++ map number areas) (sym c.in-Some.ensures.steps)
          ∙ c.loop-area.invariant.same;
      room = omega (arith, long, longer, room, len, capacity);
    }

pub returns : goal.returns
returns g c =
    let number : Area → ℕ = λ area. area.memory in
    let all : List ℕ = c.loop-area.numbers.items in
    sym (append-nil all) ∙ ap (λ (areas : List Area). all ++ map number areas) (sym c.in-None.ensures.steps.0)
    ∙ c.loop-area.invariant.same
