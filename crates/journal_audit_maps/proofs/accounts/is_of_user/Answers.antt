use Rattle.std.proofs.Common.{◌∙◌}
use Rattle.journal_audit_maps.proofs.AccessPinned.{match_none}
use Rattle.journal_audit_maps.proofs.HeldBy.{user_at, user_none}
use Rattle.journal_audit_maps.proofs.accounts.is_of_user.Goals as goal

pub returns-in_default : goal.returns-in_default
returns-in_default c = user_none c.args.memory.now c.args.user c.args.pin.now
    (match_none _ _ _ c.in_default.is c.place_of.ensures)

pub returns : goal.returns
returns c = c.is_page_of.ensures
    ∙ user_at c.args.memory.now c.args.user c.args.pin.now c.in-Some.place _ c.requires c.in-Some.ensures.0
    c.in-Some.ensures.1
