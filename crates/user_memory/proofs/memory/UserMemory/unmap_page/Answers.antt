use Rattle.iofd_words.specs.Pages.{page_of}
use Rattle.user_memory.proofs.Follow.{held_page, unmap_follow}
use Rattle.user_memory.proofs.Settled.{memory_of}
use Rattle.user_memory.proofs.Users.{limits_of}
use Rattle.user_memory.proofs.Rooms.{backed_without, follow_with}
use Rattle.user_memory.proofs.memory.UserMemory.unmap_page.Goals as goal

pub unmap-requires : goal.unmap-requires
unmap-requires g c =
    held_page (record {
      pages = c.self.inside.users.pages;
      limits = limits_of c.self.inside.accounts;
      objects = c.self.inside.objects.objects;
      room = c.self.inside.users.room;
    }) c.args.pool.now.holds c.args.user (page_of c.args.va) (rw (←
    c.self.view_is) at c.requires.backed)

pub returns-clause-holds : goal.returns-clause-holds
returns-clause-holds g c =
    let limits = limits_of c.self.inside.accounts in
    let objects = c.self.inside.objects.objects in
    let before = memory_of c.self.inside.users.pages limits objects in
    let backed = backed_without c.self.inside.users.room before c.args.pool.now.holds
    (rw (← c.self.view_is) at c.requires.backed) in
    rw (← c.self.view_is)
    (follow_with c.self.inside.users.room c.unmap.new.self.room before (memory_of c.unmap.new.self.pages limits objects)
    c.args.pool.now c.unmap.new.pool
    (unmap_follow limits objects c.unmap.new.self.pages
    c.self.inside.users.pages c.args.user (page_of c.args.va) c.args.pool.now c.unmap.new.pool
    (rw (← c.self.view_is) at c.requires.present) backed
    c.unmap.ensures.less c.unmap.ensures.pool))
