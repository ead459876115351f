use Rattle.std.proofs.Common.{ap, sym, ◌∙◌}
use Rattle.iofd_words.specs.World.{World}
use Rattle.journal_audit_tables.proofs.Free.{world_free, world_not_within}
use Rattle.journal_audit_tables.proofs.frames.are_free.Goals as goal

pub returns-then-not-are_within : goal.returns-then-not-are_within
returns-then-not-are_within g c =
    world_not_within _ c.args.world.now c.pool.result c.args.frames.now _ c.are_within.result c.world.view_is
    c.pool.ensures.value c.are_within.ensures c.if-not-are_within.true

pub returns : goal.returns
returns g c =
    world_free c.args.world.now c.pool.result c.args.frames.now _ _ c.are_within.result c.are_reached.result
    (c.pool.ensures.value ∙ ap (λ (w : World). w.settings.pool) c.world.view_is) c.are_within.ensures
    c.if-not-are_within.false (sym c.in_ok-are_different.ensures ∙ c.if-not-branch.false) c.in_ok-set.ensures
    c.are_reached.ensures
