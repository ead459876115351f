use Rattle.std.proofs.Common.{Some, None, cond, ap, sym, ◌∙◌}
use Rattle.iofd_words.specs.View.{view}
use Rattle.iofd_words.specs.declared.refusal.Cause.TheVariants as cause
use Rattle.journal_audit.proofs.RefusedRows.{map_by_frames, map_by_pages, map_by_place, map_by_words, map_some}
use Rattle.journal_audit.proofs.RefusedRows.{map_sum}
use Rattle.journal_audit.proofs.map.refusal.Goals as goal

pub returns-in-Some : goal.returns-in-Some
returns-in-Some g c =
    map_by_words (view c.args.world.now) c.args.file c.args.request c.in-Some.cause (sym c.in-Some.ensures)

pub returns-in-Some-2 : goal.returns-in-Some-2
returns-in-Some-2 g c =
    map_by_place (view c.args.world.now) c.args.file c.args.request (sym c.in_default.ensures) c.in-Some-2.cause
    (sym c.in_ok-cause.ensures ∙ c.in-Some-2.is)

pub returns-in-Some-3 : goal.returns-in-Some-3
returns-in-Some-3 g c =
    map_by_pages (view c.args.world.now) c.args.file c.args.request (sym c.in_default.ensures)
    (sym c.in_ok-cause.ensures ∙ c.in_default-2.is) c.in-Some-3.cause (sym c.in_ok-cause-2.ensures ∙ c.in-Some-3.is)

pub lacks_frames-requires-clause-some : goal.lacks_frames-requires-clause-some
lacks_frames-requires-clause-some g c =
    map_some (view c.args.world.now) c.args.file c.args.request (sym c.in_default.ensures)

pub lacks_frames-requires-clause-sum : goal.lacks_frames-requires-clause-sum
lacks_frames-requires-clause-sum g c =
    map_sum (view c.args.world.now) c.args.file c.args.request (sym c.in_default.ensures)

pub returns-then-branch : goal.returns-then-branch
returns-then-branch g c =
    ap (λ b. cond b (Some cause.Frames) None) (sym c.if-branch.true)
    ∙ map_by_frames (view c.args.world.now) c.args.file c.args.request (sym c.in_default.ensures)
    (sym c.in_ok-cause.ensures ∙ c.in_default-2.is) c.in_ok-lacks_frames.field-0
    (sym c.in_ok-cause-2.ensures ∙ c.in_default-3.is) c.in_ok-lacks_frames.ensures

pub returns : goal.returns
returns g c =
    ap (λ b. cond b (Some cause.Frames) None) (sym c.if-branch.false)
    ∙ map_by_frames (view c.args.world.now) c.args.file c.args.request (sym c.in_default.ensures)
    (sym c.in_ok-cause.ensures ∙ c.in_default-2.is) c.in_ok-lacks_frames.field-0
    (sym c.in_ok-cause-2.ensures ∙ c.in_default-3.is) c.in_ok-lacks_frames.ensures
