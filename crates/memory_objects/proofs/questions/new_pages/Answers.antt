use borrow.Author.Count.{falls}
use borrow.Author.Rules.{scaled_Fits}
use mir.Syntax.{w128}
use mir.Val.{Fits}
use Rattle.std.proofs.Common.{ℕ, ◌<◌, ◌≤◌, ◌*◌, ◌^◌, length, ◌≡◌, ◌+◌, Bool, cond, get_or, take, sym, ap, ◌∙◌, subst, arith}
use Rattle.std.proofs.lemmas.List.{take_all, take_more}
use Rattle.memory_objects.specs.Objects.{new_count_in, new_pages, object_at, standing}
use Rattle.memory_objects.proofs.Counted.{no_numbers, one_number_more}
use Rattle.memory_objects.proofs.AreaCounts.{rising_left}
use Rattle.memory_objects.proofs.Standing.{stands}
use Rattle.memory_objects.proofs.questions.new_pages.Goals as goal
use Rattle.memory_objects.proofs.questions.new_pages.Goals.{then-not-is_repeated, else-not-is_repeated}

sum_fits : (sum i n count more : ℕ) → sum ≤ 2 ^ 36 * i → i < n → count ≤ 2 ^ 36 → more ≡ count → n * 8 < 2 ^ 63
    → Fits w128 (sum + more)
sum_fits sum i n count more few within one is all = record { fits = omega arith }

pub loop-i-init : goal.loop-i-init
loop-i-init g c = record { sum = sym (no_numbers (standing c.args.entries.now)); few = omega arith }

pub offset_bounds-numbers-i : goal.offset_bounds-numbers-i
offset_bounds-numbers-i g c =
    scaled_Fits c.loop-i.i (length c.args.numbers.now) _ c.loop-i-test.true c.well_formed.1.0.1

pub bounds-numbers-i : goal.bounds-numbers-i
bounds-numbers-i g c = c.loop-i-test.true

pub is_repeated-requires-clause-sorted : goal.is_repeated-requires-clause-sorted
is_repeated-requires-clause-sorted g c = c.requires.sorted

pub is_repeated-requires-clause-within : goal.is_repeated-requires-clause-within
is_repeated-requires-clause-within g c = c.loop-i-test.true

pub new_count-requires : goal.new_count-requires
new_count-requires g c = c.requires.rising

pub overflow_add-sum : goal.overflow_add-sum
overflow_add-sum g c =
    sum_fits c.loop-i.sum c.loop-i.i (length c.args.numbers.now) c.new_count.result c.from-sum.result
    c.loop-i.invariant.few c.loop-i-test.true c.new_count.ensures.few c.from-sum.ensures
    c.well_formed.1.0.1

pub loop-i-smaller : goal.loop-i-smaller
loop-i-smaller g c = falls (length c.args.numbers.now) c.loop-i.i c.loop-i-test.true

pub loop-i-preserved : goal.loop-i-preserved
loop-i-preserved g c =
    let numbers = c.args.numbers.now in
    let i = c.loop-i.i in
    let n = get_or numbers i 0 in
    let objects = standing c.args.entries.now in
    let next = ap (new_pages objects) (take_more numbers i 0 c.loop-i-test.true) in
    let sums =
    next ∙ one_number_more (take i numbers) n objects (rising_left stands c.args.entries.now c.requires.rising) in
    let P : Bool → Type 0 = λ b. new_pages objects (take (i + 1) numbers) ≡ new_pages objects (take i numbers)
    + cond b 0 (new_count_in (object_at objects n)) in
    let told = subst P (sym c.is_repeated.ensures) sums in
    elim c.if-not-is_repeated.branch [
      | then-not-is_repeated w ↦
          let fresh = subst P w.if-not-is_repeated.true told in
          record {
            sum = omega (arith, fresh, w.sum-is, w.new_count.ensures.value, c.loop-i.invariant.sum);
            few = omega (arith, w.sum-is, w.new_count.ensures.few, c.loop-i.invariant.few);
          }
      | else-not-is_repeated w ↦
          let again = subst P w.if-not-is_repeated.false told in
          record {
            sum = omega (arith, again, w.sum-is, c.loop-i.invariant.sum);
            few = omega (arith, w.sum-is, c.loop-i.invariant.few);
          }
    ]

pub returns : goal.returns
returns g c = c.loop-i.invariant.sum ∙ ap (new_pages (standing c.args.entries.now))
    (take_all c.loop-i.i c.args.numbers.now (omega arith))
