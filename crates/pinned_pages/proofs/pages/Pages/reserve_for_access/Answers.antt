use Rattle.std.proofs.Common.{◌∙◌, ℕ, eqb, ap, sym, arith}
use Rattle.std.specs.List.{range_with_len}
use Rattle.std.proofs.lemmas.Bool.{leb-true}
use Rattle.std.proofs.lemmas.List.FromFn.{length-range_with_len}
use Rattle.std.proofs.lemmas.List.Sums.{count_by-le-length}
use Rattle.pinned_pages.specs.Pages.{MemoryPages, access_pins}
use Rattle.pinned_pages.proofs.pages.Pages.reserve_for_access.Goals as goal

pub returns-then-has_room-clause-ok : goal.returns-then-has_room-clause-ok
returns-then-has_room-clause-ok g c =
    let old = c.args.self.now.pages in
    let all = range_with_len c.args.first c.args.count in
    let most = count_by-le-length (λ (i : ℕ). eqb (access_pins old i) 0) all in
    let long = length-range_with_len c.args.first c.args.count in
    let room = leb-true c.args.count c.self.inside.access.room (sym c.has_room.ensures ∙ c.if-has_room.true) in
    let same = ap (λ (v : MemoryPages). v.room) c.self.view_is in
    omega (arith, most, long, room, same)
