use Rattle.std.proofs.Common.{◌≤◌, ◌<◌, ◌+◌, ◌^◌, cond, subst, sym}
use Rattle.std.proofs.lemmas.Result.{on_err_weaker}
use Rattle.memory_objects.specs.Objects.{object_at}
use Rattle.user_memory.specs.Changes.{HasShare, Settles}
use Rattle.user_memory.specs.Memory.{Memory, areas_over}
use Rattle.user_memory.proofs.Settled.{memory_of}
use Rattle.user_memory.proofs.Shared.{room_there, shared_more, shared_settles, shared_tell}
use Rattle.user_memory.proofs.Users.{limits_of}
use Rattle.user_memory.proofs.Rooms.{lacks_first, settles_with, share_with, with_room}
use Rattle.user_memory.proofs.memory.UserMemory.share.Goals as goal

pub add_area-requires : goal.add_area-requires
add_area-requires g c =
    let Few : Memory → Type 0 = λ m. areas_over m c.args.number + 1 < 2 ^ 64 in
    room_there c.self.inside.objects.objects c.args.number (subst Few (sym c.self.view_is) c.requires.few)

pub invariant_of-self : goal.invariant_of-self
invariant_of-self g c =
    shared_tell c.args.number c.self.inside.objects.objects c.add_area.new.self.objects c.add_area.ensures.objects
    c.self.inside.accounts c.self.invariant c.add_area.ensures.pins c.add_area.ensures.invariant

pub returns-clause-share : goal.returns-clause-share
returns-clause-share g c =
    let n = c.args.number in
    let rows = c.self.inside.users.pages in
    let limits = limits_of c.self.inside.accounts in
    let There : Memory → Type 0 = λ m. 1 ≤ areas_over m n in
    let more = shared_more n c.self.inside.objects.objects c.add_area.new.self.objects c.add_area.ensures.objects rows
    limits limits c.add_area.ensures.rows (subst There (sym c.self.view_is) c.requires.there) in
    let room = c.self.inside.users.room in
    let after = memory_of rows limits c.add_area.new.self.objects in
    let V : Memory → Type 0 = λ m. HasShare (cond c.args.pinned 1 0) n m (with_room room after) in
    subst V c.self.view_is (rw c.if-pinned.false (share_with room room (memory_of rows limits
    c.self.inside.objects.objects) after 0 n more))

pub returns-clause-settles : goal.returns-clause-settles
returns-clause-settles g c =
    let rows = c.self.inside.users.pages in
    let limits = limits_of c.self.inside.accounts in
    let room = c.self.inside.users.room in
    let after = memory_of rows limits c.add_area.new.self.objects in
    let V : Memory → Type 0 = λ m. Settles m (with_room room after) c.args.pool.now c.args.pool.now in
    subst V c.self.view_is
    (settles_with room room (memory_of rows limits c.self.inside.objects.objects) after c.args.pool.now c.args.pool.now
    (shared_settles c.args.number c.self.inside.objects.objects c.add_area.new.self.objects c.add_area.ensures.objects
    rows limits c.args.pool.now c.self.invariant.told c.add_area.ensures.pins c.add_area.ensures.invariant))

pub returns-then-pinned-clause-first : goal.returns-then-pinned-clause-first
returns-then-pinned-clause-first g c =
    on_err_weaker c.share_pinned.result (lacks_first (object_at c.args.self.now.objects c.args.number))
    c.share_pinned.ensures.lacking
