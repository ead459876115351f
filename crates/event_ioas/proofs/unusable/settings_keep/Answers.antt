use Rattle.std.proofs.Common.{refl, sym, ◌∙◌}
use Rattle.event_ioas.proofs.UnusableAmong.{kept_by}
use Rattle.event_ioas.proofs.unusable.settings_keep.Goals as goal

pub returns-then-interrupts_meet : goal.returns-then-interrupts_meet
returns-then-interrupts_meet g c =
    c.if-interrupts_meet.true ∙ sym (kept_by c.args.device.now c.args.ranges.now
    ∙ rw (sym c.interrupts_meet.ensures ∙ c.if-interrupts_meet.true) refl)

pub returns-else-interrupts_meet : goal.returns-else-interrupts_meet
returns-else-interrupts_meet g c =
    rw c.reserved.ensures at c.some_meets.ensures
    ∙ sym (kept_by c.args.device.now c.args.ranges.now
    ∙ rw (sym c.interrupts_meet.ensures ∙ c.if-interrupts_meet.false) refl)
