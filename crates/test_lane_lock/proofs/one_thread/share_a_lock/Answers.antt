use Rattle.std.proofs.Common.{◌≡◌, length, sym, subst, rules}
use Rattle.std.proofs.lemmas.List.{with_items_is}
use Rattle.lane_lock.specs.Passes.{OwnsAll}
use Rattle.test_lane_lock.proofs.one_thread.share_a_lock.Goals as goal

pub close-requires : goal.close-requires
close-requires c =
    let lock = c.in-Some.lock in
    let after = c.each_lent-shared.new.passes in
    let kept : length after ≡ c.in-Some.passes.len = search rules in
    subst (OwnsAll lock) (sym (with_items_is c.in-Some.passes after kept)) c.each_lent-shared.ensures
