use Rattle.std.proofs.Common.{◌≡◌, ◌∙◌, ◌-◌, ◌≤◌, ◌==◌, ℕ, not, take, drop, List, length, map, refl, ap, arith}
use Rattle.std.proofs.Math.Nat.{le_refl}
use Rattle.std.proofs.Math.Seq.{drop-append_seam}
use Rattle.std.specs.List.{filter}
use Rattle.std.proofs.lemmas.List.{length-map}
use Rattle.iofd_words.specs.declared.rows.Area.{Area}
use Rattle.area_map_rows.specs.Areas.{areas_outside}
use Rattle.area_map_rows.proofs.Rows.{written_back}
use Rattle.area_map.proofs.RowsRemoved.{outside_in_rows, few_outside, nonempty_in_rows, nonempty_rows}
use Rattle.area_map.proofs.RowsSame.{filled_count, filled_front, filled_parts, same_dropped, slice_back}
use Rattle.area_map.proofs.removal.remove_areas.Goals as goal

within : (to long many count : ℕ) → to ≤ long → long ≡ many → count ≡ many → to ≤ count
within to long many count low is counted = omega (arith, low, is, counted)

pub overflow_sub-result : goal.overflow_sub-result
overflow_sub-result g c =
    within c.remove_within-from.result.1 _ _ c.len-count.result c.remove_within-from.ensures.bound
    c.deref_mut.ensures.len c.len-count.ensures

pub returns-then-not-empty-clause-areas : goal.returns-then-not-empty-clause-areas
returns-then-not-empty-clause-areas g c =
    let is = rw c.deref_mut.ensures.value at c.remove_within-from.ensures.rows in
    let long : length (map (areas_outside c.args.span) c.args.rows.now.items) ≡ c.args.rows.now.len =
    length-map c.args.rows.now.items (areas_outside c.args.span) ∙ omega arith in
    let written = written_back c.args.rows.now.items c.remove_within-from.new.rows
    (map (areas_outside c.args.span) c.args.rows.now.items) c.args.rows.now.len is long in
    rw (written) (outside_in_rows c.args.span c.args.rows.now.items)

pub returns-clause-areas : goal.returns-clause-areas
returns-clause-areas g c =
    let is = rw c.deref_mut.ensures.value at c.remove_within-from.ensures.rows in
    let long : length (map (areas_outside c.args.span) c.args.rows.now.items) ≡ c.args.rows.now.len =
    length-map c.args.rows.now.items (areas_outside c.args.span) ∙ omega arith in
    let written = written_back c.args.rows.now.items c.remove_within-from.new.rows
    (map (areas_outside c.args.span) c.args.rows.now.items) c.args.rows.now.len is long in
    rw (c.drop_empty.ensures.rows, written, nonempty_in_rows (map (areas_outside c.args.span) c.args.rows.now.items))
    (outside_in_rows c.args.span c.args.rows.now.items)

pub returns-clause-rows : goal.returns-clause-rows
returns-clause-rows g c =
    let is = rw c.deref_mut.ensures.value at c.remove_within-from.ensures.rows in
    let long : length (map (areas_outside c.args.span) c.args.rows.now.items) ≡ c.args.rows.now.len =
    length-map c.args.rows.now.items (areas_outside c.args.span) ∙ omega arith in
    let written = written_back c.args.rows.now.items c.remove_within-from.new.rows
    (map (areas_outside c.args.span) c.args.rows.now.items) c.args.rows.now.len is long in
    rw (c.drop_empty.ensures.rows, written) (nonempty_rows (map (areas_outside c.args.span) c.args.rows.now.items)
    (few_outside c.args.span c.args.rows.now.items c.requires.rows))

pub returns-clause-count : goal.returns-clause-count
returns-clause-count g c =
    let is = rw c.deref_mut.ensures.value at c.remove_within-from.ensures.rows in
    let long : length (map (areas_outside c.args.span) c.args.rows.now.items) ≡ c.args.rows.now.len =
    length-map c.args.rows.now.items (areas_outside c.args.span) ∙ omega arith in
    let written = written_back c.args.rows.now.items c.remove_within-from.new.rows
    (map (areas_outside c.args.span) c.args.rows.now.items) c.args.rows.now.len is long in
    let rows : List (List Area) = c.args.rows.now.items in
    let count = rw (c.deref_mut.ensures.value, is) at c.remove_within-from.ensures.count in
    rw (c.drop_empty.ensures.rows, written, nonempty_in_rows (map (areas_outside c.args.span) rows)) count

pub returns-then-not-empty-clause-others : goal.returns-then-not-empty-clause-others
returns-then-not-empty-clause-others g c =
    let part = c.remove_within-from in
    let is = rw c.deref_mut.ensures.value at part.ensures.rows in
    let long : length part.new.rows ≡ c.args.rows.now.len =
    ap length is ∙ length-map c.args.rows.now.items (areas_outside c.args.span) ∙ omega arith in
    let back = slice_back c.args.rows.now.items part.new.rows c.args.rows.now.len long in
    let others = rw c.deref_mut.ensures.value at part.ensures.others in
    rw back others

pub returns-clause-others : goal.returns-clause-others
returns-clause-others g c =
    let part = c.remove_within-from in
    let is = rw c.deref_mut.ensures.value at part.ensures.rows in
    let long : length part.new.rows ≡ c.args.rows.now.len =
    ap length is ∙ length-map c.args.rows.now.items (areas_outside c.args.span) ∙ omega arith in
    let back = slice_back c.args.rows.now.items part.new.rows c.args.rows.now.len long in
    let others = rw c.deref_mut.ensures.value at part.ensures.others in
    rw (c.drop_empty.ensures.rows, back) (same_dropped part.result.0 c.len-count.result c.args.rows.now.items
    part.new.rows c.requires.rows (omega arith) (omega (arith, long)) others.before)

pub remove_within-from-requires-clause-kept : goal.remove_within-from-requires-clause-kept
remove_within-from-requires-clause-kept g c = rw c.deref_mut.ensures.value c.requires.kept

pub remove_within-from-requires-clause-rows : goal.remove_within-from-requires-clause-rows
remove_within-from-requires-clause-rows g c = rw c.deref_mut.ensures.value c.requires.rows

pub returns-then-not-empty-clause-rows : goal.returns-then-not-empty-clause-rows
returns-then-not-empty-clause-rows g c =
    let part = c.remove_within-from in
    let is = rw c.deref_mut.ensures.value at part.ensures.rows in
    let long : length part.new.rows ≡ c.args.rows.now.len =
    ap length is ∙ length-map c.args.rows.now.items (areas_outside c.args.span) ∙ omega arith in
    let back = slice_back c.args.rows.now.items part.new.rows c.args.rows.now.len long in
    rw back (part.ensures.empty c.if-not-empty.true)

pub returns-then-not-empty-clause-count : goal.returns-then-not-empty-clause-count
returns-then-not-empty-clause-count g c =
    let part = c.remove_within-from in
    let is = rw c.deref_mut.ensures.value at part.ensures.rows in
    let long : length part.new.rows ≡ c.args.rows.now.len =
    ap length is ∙ length-map c.args.rows.now.items (areas_outside c.args.span) ∙ omega arith in
    let back = slice_back c.args.rows.now.items part.new.rows c.args.rows.now.len long in
    rw back (rw c.deref_mut.ensures.value at part.ensures.count)

pub returns-then-not-empty-clause-len : goal.returns-then-not-empty-clause-len
returns-then-not-empty-clause-len g c = le_refl c.args.rows.now.len

pub returns-then-not-empty-clause-capacity : goal.returns-then-not-empty-clause-capacity
returns-then-not-empty-clause-capacity g c = refl

pub returns-clause-len : goal.returns-clause-len
returns-clause-len g c = c.drop_empty.ensures.len

pub returns-clause-capacity : goal.returns-clause-capacity
returns-clause-capacity g c = c.drop_empty.ensures.capacity

pub overflow_sub-result-2 : goal.overflow_sub-result-2
overflow_sub-result-2 g c =
    let part = c.remove_within-from in
    let rows : List (List Area) = c.args.rows.now.items in
    let is = rw c.deref_mut.ensures.value at part.ensures.rows in
    let long : length part.new.rows ≡ c.args.rows.now.len =
    ap length is ∙ length-map rows (areas_outside c.args.span) ∙ omega arith in
    let back = slice_back rows part.new.rows c.args.rows.now.len long in
    let others = rw c.deref_mut.ensures.value at part.ensures.others in
    let count = filled_count part.result.1 rows part.new.rows c.requires.rows others.behind in
    let left = ap length (rw back at c.drop_empty.ensures.rows) in
    omega (arith, count, left)

pub returns-clause-rest : goal.returns-clause-rest
returns-clause-rest g c =
    let part = c.remove_within-from in
    let rows : List (List Area) = c.args.rows.now.items in
    let is = rw c.deref_mut.ensures.value at part.ensures.rows in
    let long : length part.new.rows ≡ c.args.rows.now.len =
    ap length is ∙ length-map rows (areas_outside c.args.span) ∙ omega arith in
    let back = slice_back rows part.new.rows c.args.rows.now.len long in
    let others = rw c.deref_mut.ensures.value at part.ensures.others in
    let count = filled_count part.result.1 rows part.new.rows c.requires.rows others.behind in
    let left = ap length (rw back at c.drop_empty.ensures.rows) in
    let bound = rw c.deref_mut.ensures.value at part.ensures.bound in
    let front : List (List Area) = filter (λ (row : List Area). not (length row == 0)) (take part.result.1
    part.new.rows)
    in
    let parts = rw back at c.drop_empty.ensures.rows ∙ filled_parts part.result.1 rows part.new.rows c.requires.rows
    others.behind in
    let end : c.len.result - (c.len-count.result - part.result.1) ≡ length front = omega (arith, count, left, bound) in
    record {
      place = part.result.1;
      rest = rw (end, parts) (drop-append_seam front (drop part.result.1 rows));
    }

pub returns-clause-order : goal.returns-clause-order
returns-clause-order g c =
    let part = c.remove_within-from in
    let rows : List (List Area) = c.args.rows.now.items in
    let is = rw c.deref_mut.ensures.value at part.ensures.rows in
    let long : length part.new.rows ≡ c.args.rows.now.len =
    ap length is ∙ length-map rows (areas_outside c.args.span) ∙ omega arith in
    let back = slice_back rows part.new.rows c.args.rows.now.len long in
    let others = rw c.deref_mut.ensures.value at part.ensures.others in
    let count = filled_count part.result.1 rows part.new.rows c.requires.rows others.behind in
    let left = ap length (rw back at c.drop_empty.ensures.rows) in
    let bound = rw c.deref_mut.ensures.value at part.ensures.bound in
    let front = filled_front part.result.0 part.result.1 rows part.new.rows c.requires.rows others.before
    part.ensures.order (omega (arith, bound, part.ensures.order)) in
    omega (arith, count, left, bound, front)

pub returns-then-not-empty-clause-rest : goal.returns-then-not-empty-clause-rest
returns-then-not-empty-clause-rest g c = record {
  place = c.remove_within-from.result.1;
  rest = (returns-then-not-empty-clause-others g c).behind;
}

pub returns-then-not-empty-clause-order : goal.returns-then-not-empty-clause-order
returns-then-not-empty-clause-order g c = c.remove_within-from.ensures.order
