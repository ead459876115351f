use Rattle.iofd_words.specs.Pages.{page_of}
use Rattle.user_memory.proofs.Follow.{given_follow}
use Rattle.user_memory.proofs.Settled.{memory_of}
use Rattle.user_memory.proofs.Users.{limits_of}
use Rattle.user_memory.proofs.Rooms.{follow_with}
use Rattle.user_memory.proofs.memory.UserMemory.map_page.Goals as goal
use Rattle.user_memory.proofs.memory.UserMemory.map_page.Goals.{in-Ok, in-Err}

pub returns-clause-holds : goal.returns-clause-holds
returns-clause-holds g c =
    elim c.match-map.branch [
      | in-Ok w ↦ rw (w.result-is, ← c.self.view_is)
          (follow_with c.self.inside.users.room c.map.new.self.room
          (memory_of c.self.inside.users.pages (limits_of c.self.inside.accounts) c.self.inside.objects.objects)
          (memory_of c.map.new.self.pages (limits_of c.self.inside.accounts) c.self.inside.objects.objects)
          c.args.pool.now c.map.new.pool
          (given_follow (limits_of c.self.inside.accounts) c.self.inside.objects.objects c.self.inside.users.pages
          c.map.new.self.pages c.args.user (page_of c.args.va) w.in-Ok.frame w.in-Ok.ensures.more
          c.args.pool.now c.map.new.pool w.in-Ok.ensures.least w.in-Ok.ensures.pool))
      | in-Err w ↦ rw w.result-is tt
    ]
