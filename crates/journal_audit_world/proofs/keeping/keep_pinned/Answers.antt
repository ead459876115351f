use Rattle.std.proofs.Common.{rules, not, ◌||◌, refl}
use Rattle.std.proofs.lemmas.Fn.{filter_same}
use Rattle.iofd_words.specs.Pins.{is_accessed, page_of_pin}
use Rattle.iofd_words.specs.declared.rows.Pin.{Pin}
use Rattle.journal_audit_world.specs.Keys.{has_number}
use Rattle.journal_audit_world.proofs.Kept.{pinned_alike}
use Rattle.journal_audit_world.proofs.keeping.keep_pinned.Goals as goal

pub returns : goal.returns
returns g c = pinned_alike c.args.asked.now c.in_ok-translated.translated c.args.objects.now c.args.areas.now _
    c.in_ok-left.left.items c.args.access_pins.now _ _ c.in_ok-translated.ensures c.in_ok-left.ensures refl c.requires
    (filter_same _ (λ (pin : Pin). not (has_number c.args.asked.now pin.memory)
    || has_number c.in_ok-translated.translated pin.memory
    || is_accessed c.args.objects.now c.in_ok-left.left.items c.args.access_pins.now (page_of_pin pin)) _
    (λ x b f k. search rules) _ _ c.retain.ensures.filtered)
