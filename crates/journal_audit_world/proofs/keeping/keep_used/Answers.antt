use Rattle.std.proofs.Common.{rules, not, ◌||◌}
use Rattle.std.proofs.lemmas.Fn.{filter_same}
use Rattle.iofd_words.specs.declared.rows.MemoryObject.{MemoryObject}
use Rattle.journal_audit_world.specs.Keys.{has_number}
use Rattle.journal_audit_world.proofs.Kept.{used_alike}
use Rattle.journal_audit_world.proofs.keeping.keep_used.Goals as goal

pub returns : goal.returns
returns g c = used_alike c.args.asked.now c.in_ok-used.used c.args.areas.now _ _ c.in_ok-used.ensures c.requires
    (filter_same _ (λ (m : MemoryObject). not (has_number c.args.asked.now m.number)
    || has_number c.in_ok-used.used m.number) _ (λ x b f k. search rules) _ _ c.retain.ensures.filtered)
