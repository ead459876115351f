use Rattle.std.proofs.Common.{◌∙◌}
use Rattle.user_memory.proofs.Users.{held_seen, user_known}
use Rattle.user_memory.proofs.memory.UserMemory.held.Goals as goal

pub held-requires : goal.held-requires
held-requires g c = user_known c.self.inside.accounts c.args.user.0 (rw (← c.self.view_is) at c.requires)

pub returns : goal.returns
returns g c =
    rw (← c.self.view_is)
    (c.held.ensures.value ∙ held_seen c.self.inside.users.pages c.self.inside.accounts c.self.inside.objects.objects
    c.args.user c.self.invariant (user_known c.self.inside.accounts c.args.user.0
    (rw (← c.self.view_is) at c.requires)))
