use Rattle.std.proofs.Common.{◌≡◌, ℕ, suc, ◌+◌, List, [], ◌∷◌, length, refl, sym, ap, ◌∙◌, arith}
use Rattle.std.specs.List.{sum_by}
use Rattle.std.proofs.lemmas.List.Sums.{sum_by-cons}
use Rattle.iofd_words.specs.declared.rows.Area.{Area}
use Rattle.user_memory.specs.Memory.{new_pages}
use Rattle.hwpt_device.proofs.CountedOnce.{few_newly}
use Rattle.hwpt_device.proofs.pins.most_new_pages.Goals as goal

pub loop-area-preserved : goal.loop-area-preserved
loop-area-preserved g c =
    let area = c.in-Some.area.now in
    let rest : List Area = c.next.new.self in
    let pages : Area → ℕ = λ a. new_pages c.args.memory.now a.memory in
    let before = c.loop-area.invariant in
    let counts : before.done + length (area ∷ rest) ≡ length c.args.areas.now.areas =
    ap (λ (l : List Area). before.done + length l) (sym c.in-Some.ensures.steps) ∙ before.counts in
    let sum : c.loop-area.count + sum_by pages (area ∷ rest) ≡ sum_by pages c.args.areas.now.areas =
    ap (λ (l : List Area). c.loop-area.count + sum_by pages l) (sym c.in-Some.ensures.steps) ∙ before.sum in
    let first : sum_by pages (area ∷ rest) ≡ pages area + sum_by pages rest = sum_by-cons pages area rest in
    let added : c.from-count.result ≡ pages area = c.from-count.ensures ∙ c.new_pages.ensures.value in
    let few = c.new_pages.ensures.few in
    let from = c.from-count.ensures in
    let most = before.most in
    let longer : length (area ∷ rest) ≡ suc (length rest) = refl in
    record {
      done = before.done + 1;
      counts = omega (arith, counts, longer);
      most = omega (arith, most, few, from);
      sum = omega (arith, sum, first, added);
    }

pub returns-clause-most : goal.returns-clause-most
returns-clause-most g c =
    let pages : Area → ℕ = λ a. new_pages c.args.memory.now a.memory in
    let sum : c.loop-area.count + sum_by pages [] ≡ sum_by pages c.args.areas.now.areas =
    ap (λ (l : List Area). c.loop-area.count + sum_by pages l) (sym c.in-None.ensures.steps.0)
    ∙ c.loop-area.invariant.sum in
    let few = few_newly c.args.memory.now c.args.areas.now.areas c.objects_told.ensures in
    omega (arith, sum, few)

pub returns-clause-value : goal.returns-clause-value
returns-clause-value g c =
    let pages : Area → ℕ = λ a. new_pages c.args.memory.now a.memory in
    let sum : c.loop-area.count + sum_by pages [] ≡ sum_by pages c.args.areas.now.areas =
    ap (λ (l : List Area). c.loop-area.count + sum_by pages l) (sym c.in-None.ensures.steps.0)
    ∙ c.loop-area.invariant.sum in
    omega (arith, sum)

pub overflow_add-count : goal.overflow_add-count
overflow_add-count g c =
    let before = c.loop-area.invariant in
    let counts = before.counts in
    let many = c.iter-area-items.ensures.kept.few in
    let most = before.most in
    let few = c.new_pages.ensures.few in
    let from = c.from-count.ensures in
    omega (arith, counts, many, most, few, from)
