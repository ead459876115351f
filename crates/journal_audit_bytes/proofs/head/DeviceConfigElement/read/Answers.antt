use Rattle.journal_audit_bytes.proofs.Least.{span_least}
use Rattle.journal_audit_bytes.proofs.head.DeviceConfigElement.read.Goals as goal

pub counted_at-requires : goal.counted_at-requires
counted_at-requires g c = span_least
