use Rattle.user_memory.proofs.memory.UserMemory.new.Goals as goal
use Rattle.user_memory.proofs.Opened.{limits_opened, told_opened}

pub invariant_of-result : goal.invariant_of-result
invariant_of-result g c = rw (c.new-3.ensures.objects, c.in_ok-new.ensures.ok) (told_opened c.args.limits.now)

pub returns-clause-limits : goal.returns-clause-limits
returns-clause-limits g c = rw c.in_ok-new.ensures.ok (limits_opened c.args.limits.now)
