use Rattle.std.proofs.Common.{sym, ◌∙◌}
use Rattle.user_memory_rows.proofs.Gone.{released_none}
use Rattle.server_state.proofs.release.unpin_untranslated.Goals as goal

pub unpin_space-requires : goal.unpin_space-requires
unpin_space-requires g c = rw (sym c.has_over.ensures ∙ c.if-not-has_over.true) at c.requires

pub returns-then-not-has_over : goal.returns-then-not-has_over
returns-then-not-has_over g c = rw (sym c.has_over.ensures ∙ c.if-not-has_over.true) c.unpin_space.ensures

pub returns-else-not-has_over : goal.returns-else-not-has_over
returns-else-not-has_over g c = rw (sym c.has_over.ensures ∙ c.if-not-has_over.false)
    (released_none _ _ c.args.memory.now c.args.pool.now c.requires)
