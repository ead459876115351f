use Rattle.std.proofs.lemmas.Result.{err_from_is_err_and}
use Rattle.journal_audit_writing.specs.Writing.{Keeps}
use Rattle.journal_audit_writing.proofs.Appended.{keeps_then}
use Rattle.journal_audit_writing.proofs.records.spell_record.Goals as goal

pub returns-in_err-spell_event-clause-bytes : goal.returns-in_err-spell_event-clause-bytes
returns-in_err-spell_event-clause-bytes g c =
    let p = err_from_is_err_and c.from_residual-in_err-spell_event.result
    c.from_residual-in_err-spell_event.ensures.1 in
    let a : Keeps c.args.out.now.items c.spell.new.out.items = (_, c.in_ok-spell.ensures.bytes) in
    rw p.1 (keeps_then _ _ _ a c.in_err-spell_event.ensures.bytes)

pub returns-in_err-spell_reply-clause-bytes : goal.returns-in_err-spell_reply-clause-bytes
returns-in_err-spell_reply-clause-bytes g c =
    let p = err_from_is_err_and c.from_residual-in_err-spell_reply.result
    c.from_residual-in_err-spell_reply.ensures.1 in
    let a : Keeps c.args.out.now.items c.spell.new.out.items = (_, c.in_ok-spell.ensures.bytes) in
    let b : Keeps c.spell.new.out.items c.spell_event.new.out.items = (_, c.in_ok-spell_event.ensures.bytes) in
    rw p.1 (keeps_then _ _ _ a (keeps_then _ _ _ b c.in_err-spell_reply.ensures.bytes))

pub returns-in_err-spell_frames-clause-bytes : goal.returns-in_err-spell_frames-clause-bytes
returns-in_err-spell_frames-clause-bytes g c =
    let p = err_from_is_err_and c.from_residual-in_err-spell_frames.result
    c.from_residual-in_err-spell_frames.ensures.1 in
    let a : Keeps c.args.out.now.items c.spell.new.out.items = (_, c.in_ok-spell.ensures.bytes) in
    let b : Keeps c.spell.new.out.items c.spell_event.new.out.items = (_, c.in_ok-spell_event.ensures.bytes) in
    let d : Keeps c.spell_event.new.out.items c.spell_reply.new.out.items = (_, c.in_ok-spell_reply.ensures.bytes) in
    rw p.1 (keeps_then _ _ _ a (keeps_then _ _ _ b (keeps_then _ _ _ d c.in_err-spell_frames.ensures.bytes)))
