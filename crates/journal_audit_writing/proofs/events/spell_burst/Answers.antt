use Rattle.std.proofs.Common.{List, ℕ, length, subst}
use Rattle.std.specs.Int.{w8, to_le_bytes}
use Rattle.journal_audit_bytes.specs.Head.{all_spelled}
use Rattle.journal_audit_writing.specs.Texts.{byte_text}
use Rattle.journal_audit_writing.specs.Writing.{Appends}
use Rattle.journal_audit_writing.proofs.Lists.{appended_then, burst_fits, burst_text, on_ok}
use Rattle.journal_audit_writing.proofs.events.spell_burst.Goals as goal

pub returns-clause-bytes : goal.returns-clause-bytes
returns-clause-bytes g c =
    let old = c.args.out.now.items in
    let shown = c.as_slice-bytes.result.now in
    rw (← c.as_slice-bytes.ensures.value)
    (subst (λ (text : List ℕ). Appends c.spell_all.result old c.spell_all.new.out.items text) (burst_text shown)
    (appended_then c.spell_all.result old c.spell.new.out.items c.spell_all.new.out.items
    (to_le_bytes w8 (length shown)) (all_spelled byte_text shown) c.in_ok-spell.ensures.bytes
    c.spell_all.ensures.bytes))

pub returns-clause-fits : goal.returns-clause-fits
returns-clause-fits g c =
    rw (← c.as_slice-bytes.ensures.value) (on_ok c.spell_all.result c.spell_all.ensures.fits
    (λ fits. burst_fits c.as_slice-bytes.result.now c.as_slice-bytes.ensures.some c.as_slice-bytes.ensures.few fits))
