use Rattle.std.proofs.Common.{◌∙◌, ◌-◌, List, arith}
use Rattle.iofd_words.specs.declared.rows.Area.{Area}
use Rattle.area_map.proofs.Joined.{joined_but}
use Rattle.area_map.proofs.RowsSame.{same_less, same_past}
use Rattle.area_map.proofs.removal.remove_and_join.Goals as goal

pub returns-then-join_between-clause-others : goal.returns-then-join_between-clause-others
returns-then-join_between-clause-others g c =
    let part = c.remove_areas-from in
    let old : List (List Area) = c.args.rows.now.items in
    let mid : List (List Area) = part.new.rows.items in
    let new : List (List Area) = c.join_between.new.rows.items in
    record {
      before = same_less c.saturating_sub.result (part.result.0 - 1) new mid (omega arith) c.join_between.ensures.before
          ∙ same_less c.saturating_sub.result part.result.0 mid old (omega arith) part.ensures.others.before;
      behind = same_past c.len-count.result old new (omega arith) (omega arith);
    }

pub returns-else-join_between-clause-others : goal.returns-else-join_between-clause-others
returns-else-join_between-clause-others g c =
    rw (c.join_between.ensures.none c.if-join_between.false) c.remove_areas-from.ensures.others

pub join_between-requires-clause-joined : goal.join_between-requires-clause-joined
join_between-requires-clause-joined g c =
    let part = c.remove_areas-from in
    joined_but c.args.rows.now.items part.new.rows.items part.result.0 part.result.3 part.ensures.rest.place
    c.requires.joined part.ensures.others.before part.ensures.rest.rest
