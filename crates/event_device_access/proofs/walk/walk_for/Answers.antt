use Rattle.std.proofs.Common.{◌≡◌, ◌<◌, ◌^◌, ◌⊎◌, inl, inr, List, Some, None, sym, ap, ◌∙◌, arith}
use Rattle.iofd_words.specs.Attachments.{attachment_of}
use Rattle.iofd_words.specs.View.{View}
use Rattle.iofd_words.specs.Walk.{translation}
use Rattle.iofd_words.specs.declared.rows.Attachment.{Attachment}
use Rattle.page_table.specs.declared.walk.Walk.{Walk}
use Rattle.page_table.specs.declared.walk.Walk.TheVariants as walk
use Rattle.event_device_access.proofs.Translated.{translation_of, unattached_translates, walk_translates}
use Rattle.server_state.proofs.ViewShown.{same_view}
use Rattle.server_state.specs.Leads.{leads_of}
use Rattle.server_state.specs.Seen.{seen}
use Rattle.event_device_access.proofs.walk.walk_for.Goals as goal

pub returns-in_default : goal.returns-in_default
returns-in_default g c =
    sym (unattached_translates (seen c.args.state.now) c.args.device c.args.address (sym c.in_default.ensures))

pub returns-in-Hit : goal.returns-in-Hit
returns-in-Hit g c =
    let s = c.args.state.now in
    let known = c.requires in
    let w = known.world in
    let a = c.in-Some.attachment.now in
    let small : c.args.address < 2 ^ 64 = omega arith in
    let attached : attachment_of w.attachments c.args.device ≡ Some a =
    ap (λ (l : List Attachment). attachment_of l c.args.device) known.shows.devices.attached
    ∙ sym c.in-Some.ensures in
    let shown = ap (λ (v : View). translation v c.args.device c.args.address)
    (same_view w s known.shows known.tidy.tabled.owned) in
    sym (shown ∙ walk_translates known.at w s known.tidy known.shows a c.args.address small c.args.device attached
    ∙ ap translation_of (sym (c.in-Hit.ensures w.table_frames (leads_of w) known.shows.tables.stand)))

-- what isn't hit is translated to nothing
missed : (to : Walk) → (to ≡ walk.Beyond) ⊎ (to ≡ walk.None) → translation_of to ≡ None
missed to (inl beyond) = ap translation_of beyond
missed to (inr none) = ap translation_of none

pub returns-in-Beyond : goal.returns-in-Beyond
returns-in-Beyond g c =
    let s = c.args.state.now in
    let known = c.requires in
    let w = known.world in
    let a = c.in-Some.attachment.now in
    let small : c.args.address < 2 ^ 64 = omega arith in
    let attached : attachment_of w.attachments c.args.device ≡ Some a =
    ap (λ (l : List Attachment). attachment_of l c.args.device) known.shows.devices.attached
    ∙ sym c.in-Some.ensures in
    let shown = ap (λ (v : View). translation v c.args.device c.args.address)
    (same_view w s known.shows known.tidy.tabled.owned) in
    sym (shown ∙ walk_translates known.at w s known.tidy known.shows a c.args.address small c.args.device attached
    ∙ ap translation_of (sym (c.walk.ensures w.table_frames (leads_of w) known.shows.tables.stand))
    ∙ missed c.walk.result c.in-Beyond.is)
