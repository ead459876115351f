use Rattle.journal_audit_events.proofs.Unchanged.{access_written, user_written}
use Rattle.journal_audit_events.proofs.events.change_in_place.Goals as goal

pub returns-in-UserWrite : goal.returns-in-UserWrite
returns-in-UserWrite g c = user_written c.args.at c.args.world.now _ c.args.reply _ _ _ c.in-UserWrite.is

pub returns-in-AccessWrite : goal.returns-in-AccessWrite
returns-in-AccessWrite g c = access_written c.args.at c.args.world.now _ c.args.reply _ _ _ _ c.in-AccessWrite.is
