use Rattle.std.proofs.Common.{◌≤◌, ◌-◌, ℕ, List, get_or, length, drop, sym, ap, ◌∙◌, arith, subst}
use Rattle.iofd_words.specs.declared.numbers.FrameNo.{FrameNo}
use Rattle.iofd_words.specs.Levels.{levels_of}
use Rattle.page_table_words.specs.Released.{HasFewerHolds, times}
use Rattle.page_table_words.specs.Under.{frames_under}
use Rattle.page_table_words.proofs.FramesUnder.{all_counted}
use Rattle.page_table_words.proofs.Releasing.{all_collected, all_released, given_permutes, gives_back, may_release}
use Rattle.page_table_words.proofs.Releasing.{rest_is}
use Rattle.page_table.proofs.table.Table.release.Goals as goal

pub collect-requires-clause-room : goal.collect-requires-clause-room
collect-requires-clause-room g c =
    let can = rw (← c.self.view_is) at c.requires in
    let counted = ap (λ (k : ℕ). length (frames_under c.args.pool.now (k - 1) c.self.inside.root))
    c.levels.ensures.value ∙ all_counted c.args.pool.now (levels_of c.self.inside.width) c.self.inside.root
    can.rows can.pages can.stands in
    omega (arith, counted, can.enough, c.args.out.now.ok.0, c.args.out.now.ok.1)

pub returns-clause-out : goal.returns-clause-out
returns-clause-out g c =
    rw (← c.self.view_is)
    (λ rows pages stands.
    gives_back rows c.args.out.now.items c.collect.new.out.items c.sort_from.new.frames.items _ c.len-start.result
    (omega (arith, c.len-start.ensures, c.args.out.now.ok.0)) c.collect.ensures.out
    (all_collected c.args.pool.now (levels_of c.self.inside.width) c.levels.result c.self.inside.root rows pages
    c.levels.ensures.value stands) c.sort_from.ensures.front c.sort_from.ensures.same
    c.sort_from.ensures.rising)

pub release_all-requires : goal.release_all-requires
release_all-requires g c = λ f.
    let can = rw (← c.self.view_is) at c.requires in
    let levels = levels_of c.self.inside.width in
    let given = drop c.len-start.result c.sort_from.new.frames.items in
    let permuted = given_permutes can.rows c.args.out.now.items c.collect.new.out.items c.sort_from.new.frames.items _
    c.len-start.result (omega (arith, c.len-start.ensures, c.args.out.now.ok.0)) c.collect.ensures.out
    (all_collected c.args.pool.now levels c.levels.result c.self.inside.root can.rows can.pages c.levels.ensures.value
    can.stands) c.sort_from.ensures.same in
    subst (λ (frames : List FrameNo). times f frames ≤ get_or c.args.pool.now.holds f 0)
    (sym (rest_is c.deref.result.now c.sort_from.new.frames.items c.len-start.result c.deref.ensures.value))
    (may_release c.args.pool.now levels c.self.inside.root can.rows can.pages can.stands given permuted f)

pub returns-clause-pool : goal.returns-clause-pool
returns-clause-pool g c =
    rw (← c.self.view_is)
    (λ rows pages stands.
    let levels = levels_of c.self.inside.width in
    let given = drop c.len-start.result c.sort_from.new.frames.items in
    let permuted = given_permutes rows c.args.out.now.items c.collect.new.out.items c.sort_from.new.frames.items _
    c.len-start.result (omega (arith, c.len-start.ensures, c.args.out.now.ok.0)) c.collect.ensures.out
    (all_collected c.args.pool.now levels c.levels.result c.self.inside.root rows pages c.levels.ensures.value stands)
    c.sort_from.ensures.same in
    let fewer : HasFewerHolds c.args.pool.now c.release_all.new.pool given =
    subst (HasFewerHolds c.args.pool.now c.release_all.new.pool)
    (rest_is c.deref.result.now c.sort_from.new.frames.items c.len-start.result c.deref.ensures.value)
    c.release_all.ensures in
    all_released c.args.pool.now levels c.self.inside.root rows pages stands given permuted
    c.release_all.new.pool fewer)
