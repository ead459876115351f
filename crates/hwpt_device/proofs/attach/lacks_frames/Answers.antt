use Rattle.std.proofs.Common.{sym, ◌∙◌}
use Rattle.iofd_words.specs.Files.{device_of}
use Rattle.server_state.specs.Seen.{seen}
use Rattle.hwpt_device.proofs.Narrowed.{wide_attached}
use Rattle.hwpt_device.proofs.attach.lacks_frames.Goals as goal

pub lacks_frames-requires-clause-within : goal.lacks_frames-requires-clause-within
lacks_frames-requires-clause-within g c =
    wide_attached (seen c.args.state.now) c.args.file c.args.ioas c.in-Some.width
    (device_of c.args.state.now.config c.args.device) (sym c.width_of.ensures ∙ c.in-Some.is) c.requires.within
