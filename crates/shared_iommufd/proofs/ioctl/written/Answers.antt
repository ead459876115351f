use Rattle.std.proofs.Common.{◌∙◌}
use Rattle.shared_iommufd.specs.Ioctls.{event_written_back}
use Rattle.shared_iommufd.proofs.IoctlBytes.{front}
use Rattle.shared_iommufd.proofs.ioctl.written.Goals as goal

pub returns : goal.returns
returns g c = (
  c.errno_of.ensures,
  c.filled.ensures
      ∙ front c.write_back-count.result (event_written_back c.args.event c.args.reply.now) _ _
      c.write_back-count.ensures.count c.write_back-count.ensures.bytes,
)
