use Rattle.std.proofs.Common.{◌/◌, Option, IsTrue, Result, Ok, Err, subst}
use Rattle.std.specs.Result.{OnErr, OnOk}
use Rattle.event_device_access.proofs.FirstMarks.{first_mark}
use Rattle.event_device_access.specs.FirstMark.{is_first_mark}
use Rattle.iofd_words.specs.Dirty.{marked_by}
use Rattle.iofd_words.specs.declared.rows.Attachment.{Attachment}
use Rattle.server_state.proofs.DirtyMoves.{dirty_marked}
use Rattle.server_state.specs.Shows.{DirtyShown}
use Rattle.event_device_access.proofs.device_write.mark.Goals as goal

on_ok : {X E : Type 0} (r : Result X E) (P Q : Type 0) → (P → Q) → OnOk r P → OnOk r Q
on_ok (Ok x) P Q more known = more known
on_ok (Err e) P Q more known = known

pub returns-clause-marks : goal.returns-clause-marks
returns-clause-marks g c = on_ok c.mark.result _ _
    (λ marks tracked shown. subst (λ (o : Option Attachment).
    DirtyShown (marked_by o (c.args.iova.0 / 4096) tracked) c.mark.new.self) c.in-Some.ensures
    (dirty_marked tracked c.args.state.now.dirty c.mark.new.self shown c.in-Some.attachment.now.file
    c.in-Some.attachment.now.hwpt (c.args.iova.0 / 4096) c.mark.ensures.tracks marks))
    c.mark.ensures.marks

on_err : {X E : Type 0} (r : Result X E) (P Q : Type 0) → (P → Q) → OnErr r P → OnErr r Q
on_err (Ok x) P Q more known = known
on_err (Err e) P Q more known = more known

-- memory is wanting only for the first mark among 64 pages
pub returns-clause-lacking : goal.returns-clause-lacking
returns-clause-lacking g c = on_err c.mark.result _ _
    (λ known tracked shown. subst (λ (o : Option Attachment).
    IsTrue (is_first_mark o (c.args.iova.0 / 4096) tracked)) c.in-Some.ensures
    (first_mark tracked c.args.state.now.dirty c.in-Some.attachment.now (c.args.iova.0 / 4096) shown known.0 known.1))
    c.mark.ensures.memory
