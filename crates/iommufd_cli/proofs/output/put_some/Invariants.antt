use Rattle.std.specs.Io.KnownBytes.{Keeps}
use Rattle.iommufd_cli.proofs.output.put_some.Given as goal

-- nothing is written yet
abbrev pub invariant-loop : goal.invariant-loop
invariant-loop g l = Keeps (g.W.Write.contents l.initial.writer) (g.W.Write.contents l.writer)
