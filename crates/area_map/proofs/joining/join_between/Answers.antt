use Rattle.std.proofs.Common.{◌≡◌, ◌∙◌, ◌+◌, ◌-◌, ◌≤◌, List, vec_len, arith}
use Rattle.iofd_words.specs.declared.rows.Area.{Area}
use Rattle.area_map.proofs.Joined.{joined_whole}
use Rattle.area_map.proofs.RowsSame.{same_less}
use Rattle.area_map.proofs.joining.join_between.Goals as goal

pub loop-index-preserved : goal.loop-index-preserved
loop-index-preserved g c =
    let now = c.loop-index in
    let low = c.saturating_sub-low.result in
    let above = c.loop-index-test.true in
    let back : now.index - 1 + 1 ≡ now.index = omega (arith, above) in
    let first : List (List Area) = now.rows.items in
    let second : List (List Area) = c.join.new.rows.items in
    record {
      order = omega (arith, above);
      areas = c.join.ensures.areas ∙ now.invariant.areas;
      rows = c.join.ensures.rows;
      joined = c.join.ensures.joined low (omega (arith, above)) (rw back now.invariant.joined);
      len = omega (arith, c.join.ensures.len, now.invariant.len);
      capacity = c.join.ensures.capacity ∙ now.invariant.capacity;
      before = same_less low (now.index - 1) second first (omega (arith, above)) c.join.ensures.before
          ∙ now.invariant.before;
      none = λ (same : vec_len c.args.rows.now ≤ vec_len c.join.new.rows).
          c.join.ensures.none (omega (arith, same, now.invariant.len))
          ∙ now.invariant.none (omega (arith, same, c.join.ensures.len));
    }

pub returns-clause-joined : goal.returns-clause-joined
returns-clause-joined g c =
    let now = c.loop-index in
    let here : now.index ≡ c.saturating_sub-low.result = omega (arith, now.invariant.order, c.loop-index-test.false) in
    let joined = rw here at now.invariant.joined in
    joined_whole now.rows.items c.saturating_sub-low.result joined.front joined.back
