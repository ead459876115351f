use Rattle.std.proofs.Common.{List, ℕ, subst}
use Rattle.journal_audit_writing.specs.Writing.{Appends}
use Rattle.journal_audit_writing.proofs.Lists.{frames_fit, frames_text, on_ok}
use Rattle.journal_audit_writing.proofs.events.spell_frames.Goals as goal

pub returns-clause-bytes : goal.returns-clause-bytes
returns-clause-bytes g c =
    subst (λ (text : List ℕ). Appends c.spell_counted.result c.args.out.now.items c.spell_counted.new.out.items text)
    (frames_text c.args.frames.now) c.spell_counted.ensures.bytes

pub returns-clause-fits : goal.returns-clause-fits
returns-clause-fits g c =
    on_ok c.spell_counted.result c.spell_counted.ensures.fits (λ fits. frames_fit c.args.frames.now fits)
