use Rattle.std.proofs.Common.{List, ℕ, length, subst}
use Rattle.std.specs.Int.{w32, to_le_bytes}
use Rattle.journal_audit_bytes.specs.Head.{all_spelled}
use Rattle.journal_audit_writing.specs.Texts.{range_text}
use Rattle.journal_audit_writing.specs.Writing.{Appends}
use Rattle.journal_audit_writing.proofs.Lists.{appended_then, on_ok, ranges_fit, ranges_text}
use Rattle.journal_audit_writing.proofs.events.spell_ranges.Goals as goal

pub returns-clause-bytes : goal.returns-clause-bytes
returns-clause-bytes g c =
    let old = c.args.out.now.items in
    let ranges = c.args.ranges.now in
    subst (λ (text : List ℕ). Appends c.spell_all.result old c.spell_all.new.out.items text) (ranges_text ranges)
    (appended_then c.spell_all.result old c.spell.new.out.items c.spell_all.new.out.items
    (to_le_bytes w32 (length ranges)) (all_spelled range_text ranges) c.in_ok-spell.ensures.bytes
    c.spell_all.ensures.bytes)

pub returns-clause-fits : goal.returns-clause-fits
returns-clause-fits g c =
    on_ok c.spell_all.result c.spell_all.ensures.fits (λ fits. ranges_fit c.args.ranges.now c.requires fits)
