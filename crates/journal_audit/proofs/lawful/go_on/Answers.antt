use Rattle.std.proofs.Common.{◌≡◌, Bool, false, List, ap, sym, subst, ◌&&◌, ◌∙◌}
use Rattle.std.specs.List.{list_all}
use Rattle.iofd_words.specs.Frames.{is_free}
use Rattle.iofd_words.specs.Tables.{are_different}
use Rattle.iofd_words.specs.World.{World}
use Rattle.iofd_words.specs.declared.numbers.FrameNo.{FrameNo}
use Rattle.journal_audit_tables.specs.Coming.{ComingFits}
use Rattle.journal_audit_tables.specs.declared.coming.Coming.{Coming}
use Rattle.journal_audit_world.specs.Unwritten.{unwritten}
use Rattle.journal_audit.proofs.ComingFits.{coming_fits}
use Rattle.journal_audit.proofs.Lawfully.{after_moves, by_moves, if_ok_weaker, not_free}
use Rattle.journal_audit.proofs.lawful.go_on.Goals as goal

-- the frames that are taken are free, and no two are one
abbrev are_free_in : World → List FrameNo → Bool
are_free_in w frames =
    list_all (λ frame. is_free w.settings.pool w.user_pages w.pins w.table_frames frame.0) frames && are_different frames

pub returns-then-not-branch-clause-lawful : goal.returns-then-not-branch-clause-lawful
returns-then-not-branch-clause-lawful g c =
    not_free c.args.at c.args.world.now c.args.record.now c.requires.granted
    (subst (λ (frames : List FrameNo). are_free_in c.args.world.now frames ≡ false) c.taken-taken.ensures
    (sym c.in_ok-are_free.ensures ∙ c.if-not-branch.true))

pub move_tables-requires : goal.move_tables-requires
move_tables-requires g c =
    subst (λ (what : Coming). ComingFits what) (sym c.coming_with-coming.ensures)
    (rw (c.event-event.ensures, c.reply-reply.ensures) (coming_fits c.args.world.now c.args.record.now.event
    c.args.record.now.reply c.requires.granted c.requires.answered))

pub returns-clause-lawful : goal.returns-clause-lawful
returns-clause-lawful g c =
    if_ok_weaker c.move_tables.result _ _
    (λ moved decides. by_moves c.args.at c.args.world.now c.args.record.now _ _ moved c.taken-taken.ensures
    c.given-given.ensures c.requires.granted c.requires.answered
    (rw (c.event-event.ensures, c.reply-reply.ensures) at (decides c.args.at c.args.world.now (record {
      kept = c.requires.kept;
      granted = rw c.event-event.ensures c.requires.granted;
      answers = rw (c.event-event.ensures, c.reply-reply.ensures) c.requires.answered;
      changed = c.in_ok-change.ensures;
      goes = c.gone_with-gone.ensures;
      comes = c.coming_with-coming.ensures;
      free = sym c.in_ok-are_free.ensures ∙ c.if-not-branch.false;
    }))))
    c.move_tables.ensures.moved

pub returns-clause-after : goal.returns-clause-after
returns-clause-after g c =
    if_ok_weaker c.move_tables.result _ _
    (λ moved leads yes. (rw (c.event-event.ensures, c.reply-reply.ensures) at
    (leads c.args.at c.args.world.now (record {
      kept = c.requires.kept;
      granted = rw c.event-event.ensures c.requires.granted;
      answers = rw (c.event-event.ensures, c.reply-reply.ensures) c.requires.answered;
      changed = c.in_ok-change.ensures;
      goes = c.gone_with-gone.ensures;
      comes = c.coming_with-coming.ensures;
      free = sym c.in_ok-are_free.ensures ∙ c.if-not-branch.false;
    }) yes))
    ∙ ap (λ (w : World). unwritten w) (after_moves c.args.at c.args.world.now c.args.record.now _ _
    c.taken-taken.ensures c.given-given.ensures c.requires.granted))
    c.move_tables.ensures.after
