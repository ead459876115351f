use Rattle.std.proofs.Common.{◌≡◌, ◌∙◌, ℕ, ◌+◌, ◌<◌, Bool, true, false, ◌&&◌, ◌||◌, List, get_or, length, take, refl}
use Rattle.std.proofs.Common.{sym, ap}
use Rattle.std.specs.List.{list_any}
use Rattle.std.proofs.lemmas.List.{take_all}
use Rattle.std.proofs.lemmas.List.Folds.{list_any_more}
use Rattle.iofd_rows.proofs.Bools.{or_none}
use Rattle.iofd_rows.specs.Reached.{keeps_of}
use Rattle.iofd_words.specs.Attachments.{is_attached_to}
use Rattle.iofd_words.specs.Files.{device_of}
use Rattle.iofd_words.specs.Ranges.{in_spans}
use Rattle.iofd_words.specs.Usable.{reserved_of}
use Rattle.iofd_words.specs.declared.rows.Attachment.{Attachment}
use Rattle.event_ioas.specs.LeftOut.{only}
use Rattle.server_state.specs.Held.{objects_in}
use Rattle.event_ioas.proofs.usable_ranges.kept_spans.Goals as goal
use Rattle.event_ioas.proofs.usable_ranges.kept_spans.Goals.{then-is_attached_to+in_ok-add_kept, else-is_attached_to}

-- one more attachment
more : (keeps : Attachment → Bool) (xs : List Attachment) (i : ℕ) (d : Attachment) (before now : Bool) → i < length xs
    → before ≡ list_any keeps (take i xs) → now ≡ (before || keeps (get_or xs i d))
    → now ≡ list_any keeps (take (i + 1) xs)
more keeps xs i d before now within was is =
    is ∙ ap (λ (b : Bool). b || keeps (get_or xs i d)) was ∙ sym (list_any_more keeps xs i d within)

-- of a device that is attached its spans come, and of another none
with_its : (before attached its : Bool) → attached ≡ true → (before || its) ≡ (before || (attached && its))
with_its before attached its is = rw is refl

with_none : (before attached its : Bool) → attached ≡ false → before ≡ (before || (attached && its))
with_none before attached its is = rw is (sym (or_none before))

pub loop-attachment-init : goal.loop-attachment-init
loop-attachment-init g c n = ap (λ spans. in_spans spans n) c.new-spans.ensures.items

pub loop-attachment-preserved : goal.loop-attachment-preserved
loop-attachment-preserved g c n =
    let state = c.args.state.now in
    let keeps = keeps_of state.config (objects_in state.objects) c.args.file c.args.ioas (only n) in
    let xs = c.deref-attachment-items.result.now in
    let i = c.loop-attachment.attachment-index in
    let d : Attachment = record { device = record { 0 = 0 }; file = record { 0 = 0 }; hwpt = record { 0 = 0 } } in
    let before = in_spans c.loop-attachment.spans.items n in
    let attached = is_attached_to (objects_in state.objects) c.args.file c.args.ioas (get_or xs i d) in
    let its = in_spans (reserved_of (device_of state.config (get_or xs i d).device)) n in
    more keeps xs i d before (in_spans c.if-is_attached_to.spans.items n) c.loop-attachment-test.true
    (c.loop-attachment.invariant n) (elim c.if-is_attached_to.branch [
      | then-is_attached_to+in_ok-add_kept w ↦
          ap (λ spans. in_spans spans.items n) w.spans-is ∙ w.in_ok-add_kept.ensures n
          ∙ with_its before attached its (sym c.is_attached_to.ensures ∙ w.if-is_attached_to.true)
      | else-is_attached_to w ↦
          ap (λ spans. in_spans spans.items n) w.spans-is
          ∙ with_none before attached its (sym c.is_attached_to.ensures ∙ w.if-is_attached_to.false)
    ])

pub returns : goal.returns
returns g c n =
    let state = c.args.state.now in
    let keeps = keeps_of state.config (objects_in state.objects) c.args.file c.args.ioas (only n) in
    c.loop-attachment.invariant n
    ∙ ap (list_any keeps) (take_all c.loop-attachment.attachment-index c.deref-attachment-items.result.now
    c.loop-attachment-test.false ∙ c.deref-attachment-items.ensures.value)
