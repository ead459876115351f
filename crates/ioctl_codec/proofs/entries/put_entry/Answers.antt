use Rattle.std.proofs.Common.{◌≡◌, ℕ, List, ◌++◌, append_assoc, ap, ◌∙◌, rules}
use Rattle.std.specs.Int.{to_le_bytes, w64}
use Rattle.ioctl_codec.specs.Entries.{entry_bytes}
use Rattle.ioctl_codec.proofs.entries.put_entry.Goals as goal

-- a number, and then another
both_put : (old mid new a b : List ℕ) → mid ≡ old ++ a → new ≡ mid ++ b → new ≡ old ++ (a ++ b)
both_put old mid new a b first second = second ∙ ap (λ (x : List ℕ). x ++ b) first ∙ append_assoc old a b

pub returns-clause-bytes : goal.returns-clause-bytes
unfolding entry_bytes
returns-clause-bytes g c =
    both_put c.args.out.now.items c.extend_from_slice.new.self.items c.extend_from_slice-2.new.self.items
    (to_le_bytes w64 c.args.start) (to_le_bytes w64 c.args.last) (search rules) (search rules)
