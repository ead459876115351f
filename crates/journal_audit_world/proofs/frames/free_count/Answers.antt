use Rattle.std.proofs.Common.{◌∙◌, arith}
use Rattle.journal_audit_world.proofs.Marks.{counted_alike, is_marked}
use Rattle.iofd_words.specs.Frames.{is_free}
use Rattle.journal_audit_world.proofs.frames.free_count.Goals as goal

pub returns : goal.returns
returns c =
    c.unmarked.ensures
    ∙ counted_alike _ (is_free c.args.pool c.args.pages.now c.args.pins.now c.args.tables.now) 0 c.args.pool
    (λ f within. is_marked c.args.pool c.args.pages.now c.args.pins.now c.args.tables.now f
    c.mark_pages.new.reached c.mark_pins.new.reached c.mark_tables.new.reached
    (omega (arith, within)) (omega (arith, c.requires)) (c.mark_pages.ensures f (omega (arith, c.requires)))
    (c.mark_pins.ensures f (omega (arith, c.requires))) (c.mark_tables.ensures f (omega (arith, c.requires))))
