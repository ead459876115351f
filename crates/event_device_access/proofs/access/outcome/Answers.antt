use Rattle.std.proofs.Common.{◌≡◌, ◌<◌, ◌^◌, leb, false, List, Option, Some, None, sym, ap, ◌∙◌, arith}
use Rattle.std.specs.Option.{option_map_or}
use Rattle.iofd_words.specs.Attachments.{attachment_of}
use Rattle.iofd_words.specs.Files.{device_of}
use Rattle.iofd_words.specs.Policy.{Denied, access_outcomes}
use Rattle.iofd_words.specs.Settings.{DeviceSettings, Settings}
use Rattle.iofd_words.specs.Width.{bits_of}
use Rattle.iofd_words.specs.declared.numbers.FrameNo.{FrameNo}
use Rattle.iofd_words.specs.declared.rows.Attachment.{Attachment}
use Rattle.event_device_access.specs.Outcomes.{chosen_outcome}
use Rattle.event_device_access.proofs.Walked.{beyond_given, hit_given, missed_given, unattached_given, unright_given}
use Rattle.server_state.proofs.ViewShown.{same_outcomes}
use Rattle.server_state.specs.Leads.{leads_of}
use Rattle.server_state.specs.Seen.{seen}
use Rattle.event_device_access.proofs.access.outcome.Goals.{in_default-walk-via-in-Hit+else-allow}
use Rattle.event_device_access.proofs.access.outcome.Goals.{in_default-walk-via-in_default-walk}
use Rattle.event_device_access.proofs.access.outcome.Goals as goal

pub returns-in_default-attachment_of : goal.returns-in_default-attachment_of
returns-in_default-attachment_of g c =
    let s = c.args.state.now in
    let uncached = ap (λ (o : Option FrameNo). chosen_outcome o (access_outcomes (seen s) c.args.device c.args.address
    c.args.kind)) c.in_default.is in
    sym (uncached ∙ unattached_given (seen s) c.args.device c.args.address c.args.kind
    (sym c.in_default-attachment_of.ensures))

pub returns-then-is_beyond : goal.returns-then-is_beyond
returns-then-is_beyond g c =
    let s = c.args.state.now in
    let uncached = ap (λ (o : Option FrameNo). chosen_outcome o (access_outcomes (seen s) c.args.device c.args.address
    c.args.kind)) c.in_default.is in
    sym (uncached ∙ beyond_given (seen s) c.args.device c.args.address c.args.kind
    c.in-Some-attachment_of.attachment.now (sym c.in-Some-attachment_of.ensures)
    (sym c.is_beyond.ensures ∙ c.if-is_beyond.true))

pub returns-in-Hit : goal.returns-in-Hit
returns-in-Hit g c =
    let s = c.args.state.now in
    let known = c.requires in
    let w = known.world in
    let a = c.in-Some-attachment_of.attachment.now in
    let small : c.args.address < 2 ^ 64 = omega arith in
    let attached : attachment_of w.attachments c.args.device ≡ Some a =
    ap (λ (l : List Attachment). attachment_of l c.args.device) known.shows.devices.attached
    ∙ sym c.in-Some-attachment_of.ensures in
    let near : option_map_or (λ (d : DeviceSettings). leb (2 ^ bits_of d.width) c.args.address)
    (device_of w.settings c.args.device) false ≡ false =
    ap (λ (set : Settings). option_map_or (λ (d : DeviceSettings). leb (2 ^ bits_of d.width) c.args.address)
    (device_of set c.args.device) false) known.shows.settings
    ∙ sym c.is_beyond.ensures ∙ c.if-is_beyond.false in
    let uncached = ap (λ (o : Option FrameNo). chosen_outcome o (access_outcomes (seen s) c.args.device c.args.address
    c.args.kind)) c.in_default.is in
    let shown = ap (chosen_outcome None) (same_outcomes w s known.shows known.tidy.tabled.owned
    c.args.device c.args.address c.args.kind) in
    let passes = hit_given known.at w s known.tidy known.shows c.args.device a c.args.address small c.args.kind attached
    near c.in-Hit.frame c.in-Hit.rights (c.in-Hit.ensures w.table_frames (leads_of w) known.shows.tables.stand)
    (sym c.allow.ensures ∙ c.if-allow.true) in
    sym (uncached ∙ shown ∙ passes)

pub returns-in_default-walk : goal.returns-in_default-walk
returns-in_default-walk g c =
    let s = c.args.state.now in
    let known = c.requires in
    let w = known.world in
    let a = c.in-Some-attachment_of.attachment.now in
    let small : c.args.address < 2 ^ 64 = omega arith in
    let attached : attachment_of w.attachments c.args.device ≡ Some a =
    ap (λ (l : List Attachment). attachment_of l c.args.device) known.shows.devices.attached
    ∙ sym c.in-Some-attachment_of.ensures in
    let near : option_map_or (λ (d : DeviceSettings). leb (2 ^ bits_of d.width) c.args.address)
    (device_of w.settings c.args.device) false ≡ false =
    ap (λ (set : Settings). option_map_or (λ (d : DeviceSettings). leb (2 ^ bits_of d.width) c.args.address)
    (device_of set c.args.device) false) known.shows.settings
    ∙ sym c.is_beyond.ensures ∙ c.if-is_beyond.false in
    let uncached = ap (λ (o : Option FrameNo). chosen_outcome o (access_outcomes (seen s) c.args.device c.args.address
    c.args.kind)) c.in_default.is in
    let shown = ap (chosen_outcome None) (same_outcomes w s known.shows known.tidy.tabled.owned
    c.args.device c.args.address c.args.kind) in
    let told = ap Denied c.denied.ensures in
    elim c.in_default-walk.branch [
      | in_default-walk-via-in-Hit+else-allow v ↦ told
          ∙ sym (uncached ∙ shown ∙ unright_given known.at w s known.tidy known.shows
          c.args.device a c.args.address small
          c.args.kind attached near v.in-Hit.frame v.in-Hit.rights
          (v.in-Hit.ensures w.table_frames (leads_of w) known.shows.tables.stand)
          (sym v.allow.ensures ∙ v.if-allow.false))
      | in_default-walk-via-in_default-walk v ↦ told
          ∙ sym (uncached ∙ shown ∙ missed_given known.at w s known.tidy known.shows
          c.args.device a c.args.address small
          c.args.kind attached near c.walk.result
          (c.walk.ensures w.table_frames (leads_of w) known.shows.tables.stand) v.in_default-walk.not-Hit)
    ]
