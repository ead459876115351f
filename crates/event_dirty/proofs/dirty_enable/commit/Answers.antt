use Rattle.std.proofs.Common.{true, false}
use Rattle.iofd_steps.specs.After.{changed}
use Rattle.iofd_steps.specs.Answers.{Answers}
use Rattle.iofd_words.specs.Dirty.{without_tracked, with_tracking}
use Rattle.server_state.proofs.DirtyMoves.{dirty_started, dirty_stopped}
use Rattle.event_dirty.proofs.Kept.{shows_marked}
use Rattle.event_dirty.proofs.dirty_enable.commit.Goals as goal

pub returns-in_ok-start-clause-ok : goal.returns-in_ok-start-clause-ok
unfolding changed Answers
returns-in_ok-start-clause-ok g c = rw c.if-on.true (λ at w tidy shows none.
    let s = c.args.state.now in (
      tt,
      shows_marked w s (with_tracking c.args.file c.args.hwpt true w.tracked) c.start.new.self shows
          (dirty_started w.tracked s.dirty c.start.new.self shows.dirty c.args.file c.args.hwpt
          c.in_ok-start.ensures.tracks c.in_ok-start.ensures.marks),
    ))

pub returns-else-on-clause-ok : goal.returns-else-on-clause-ok
unfolding changed Answers
returns-else-on-clause-ok g c = rw c.if-on.false (λ at w tidy shows none.
    let s = c.args.state.now in (
      tt,
      shows_marked w s (without_tracked c.args.file c.args.hwpt w.tracked) c.stop.new.self shows
          (dirty_stopped w.tracked s.dirty c.stop.new.self shows.dirty c.args.file c.args.hwpt
          c.stop.ensures.tracks c.stop.ensures.marks),
    ))
