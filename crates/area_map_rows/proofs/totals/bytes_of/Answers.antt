use Rattle.std.proofs.Common.{◌≡◌, suc, ◌+◌, List, ◌∷◌, length, refl, sym, ap, ◌∙◌, arith, ◌≤◌}
use Rattle.std.proofs.lemmas.List.Sums.{sum_by-cons}
use Rattle.iofd_words.specs.Span.{size_of}
use Rattle.iofd_words.specs.declared.rows.Area.{Area}
use Rattle.area_map_rows.specs.Areas.{bytes_of}
use Rattle.iofd_words.specs.Areas.{most_areas}
use Rattle.area_map_rows.proofs.totals.bytes_of.Goals as goal

pub loop-area-preserved : goal.loop-area-preserved
loop-area-preserved g c =
    let area = c.in-Some.area.now in
    let rest : List Area = c.next.new.self in
    let before = c.loop-area.invariant in
    let counts : before.done + length (area ∷ rest) ≡ length c.args.areas =
    ap (λ (l : List Area). before.done + length l) (sym c.in-Some.ensures.steps) ∙ before.counts in
    let sum : c.loop-area.bytes + bytes_of (area ∷ rest) ≡ bytes_of c.args.areas =
    ap (λ (l : List Area). c.loop-area.bytes + bytes_of l) (sym c.in-Some.ensures.steps) ∙ before.sum in
    let first : bytes_of (area ∷ rest) ≡ size_of area.span + bytes_of rest =
    sum_by-cons (λ (a : Area). size_of a.span) area rest in
    let added = c.size_of-bytes.ensures.value in
    let bound = c.size_of-bytes.ensures.bound in
    let most = before.most in
    let longer : length (area ∷ rest) ≡ suc (length rest) = refl in
    record {
      done = before.done + 1;
      counts = omega (arith, counts, longer);
      most = omega (arith, most, bound);
      sum = omega (arith, sum, first, added);
    }

pub loop-area-init : goal.loop-area-init
loop-area-init g c =
    let gives = c.into_iter-area-iterator.ensures.into_iter_gives in
    record {
      done = 0;
      counts = omega (arith, ap length gives);
      most = omega arith;
      sum = omega (arith, ap bytes_of gives);
    }

pub overflow_add-bytes : goal.overflow_add-bytes
overflow_add-bytes g c =
    let before = c.loop-area.invariant in
    let few : length c.args.areas ≤ most_areas = c.requires in
    record { fits = omega (arith, before.counts, before.most, few, c.size_of-bytes.ensures.bound) }

pub loop-area-smaller : goal.loop-area-smaller
loop-area-smaller g c = omega (arith, ap length c.in-Some.ensures.steps)

pub returns : goal.returns
returns g c = omega (arith, c.loop-area.invariant.sum, ap bytes_of c.in-None.ensures.steps.0)
