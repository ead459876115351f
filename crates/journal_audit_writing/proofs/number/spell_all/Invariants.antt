use Rattle.std.proofs.Common.{◌≡◌, ◌++◌, take}
use Rattle.std.specs.List.{AllByRecursion}
use Rattle.journal_audit_bytes.specs.Head.{all_spelled}
use Rattle.journal_audit_writing.proofs.number.spell_all.Given as goal

-- those so far are written
abbrev pub invariant-loop-item : goal.invariant-loop-item
invariant-loop-item g l = record {
  bytes : l.out.items ≡ l.initial.out.items ++ all_spelled g.T.Spell.text (take l.item-index l.items);
  fits : AllByRecursion g.T.Spell.fits (take l.item-index l.items);
}
