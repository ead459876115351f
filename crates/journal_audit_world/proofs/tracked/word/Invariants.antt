use Rattle.std.proofs.Common.{◌≡◌, ◌+◌, ◌^◌, ◌<◌}
use Rattle.journal_audit_world.specs.Keys.{has_number}
use Rattle.journal_audit_world.specs.Tracked.{bits}
use Rattle.journal_audit_world.proofs.tracked.word.Given as goal

abbrev pub invariant-loop-k : goal.invariant-loop-k
invariant-loop-k g l = (l.word ≡ bits (λ k. has_number l.pages (l.page + k)) l.k) × (l.word < 2 ^ l.k)
