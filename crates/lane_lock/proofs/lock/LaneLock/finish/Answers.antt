use Rattle.std.proofs.Common.{sym, ◌∙◌}
use Rattle.lane_lock.proofs.Ends.{closes, first_is, not_none, ends}
use Rattle.lane_lock.proofs.lock.LaneLock.finish.Goals as goal

pub unreachable-requires : goal.unreachable-requires
unreachable-requires g c =
    let t = closes _ g.K.Kept.history g.K.Kept.maker _ _ _ _ _ c.requires.1 c.close_with-closed.ensures.values.2 in
    not_none _ g.K.Kept.history g.K.Kept.maker c.args.self.table.shared.key _ _ t.0
    c.take-first.ensures.value t.1 c.in-None.is

pub returns : goal.returns
returns g c =
    let t = closes _ g.K.Kept.history g.K.Kept.maker _ _ _ _ _ c.requires.1 c.close_with-closed.ensures.values.2 in
    ends _ g.K.Kept.history g.K.Kept.maker c.args.self.table.shared.key
    c.args.self.table.shared.key _ _ c.in-Some.share t.0
    (sym c.in-Some.is ∙ first_is _ g.K.Kept.history g.K.Kept.maker c.args.self.table.shared.key _ _ t.0
    c.take-first.ensures.value t.1) t.2 c.try_unwrap.ensures.ok c.try_unwrap.ensures.err
