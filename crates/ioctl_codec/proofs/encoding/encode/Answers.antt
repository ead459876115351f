use Rattle.std.proofs.Common.{◌≡◌, ℕ, List, ◌++◌, take, None, sym, ap, subst, ◌∙◌}
use Rattle.std.proofs.lemmas.List.{take_at}
use Rattle.ioctl_codec.specs.Entries.{entries_bytes}
use Rattle.ioctl_codec.specs.Layout.{structure_bytes}
use Rattle.ioctl_codec.specs.Structures.{structure_of, values_of, entries_of}
use Rattle.ioctl_codec.specs.Spelling.{canonical, Spells}
use Rattle.ioctl_codec.proofs.Canonical.{canonical_of}
use Rattle.ioctl_codec.proofs.encoding.encode.Goals as goal

pub returns-clause-round_trip : goal.returns-clause-round_trip
returns-clause-round_trip g c =
    let command = c.args.command.now in
    let count = c.put_command-count.result in
    let put = c.put_command-count.ensures in
    let entries = c.in_ok-put_entries.ensures in
    let structure = structure_bytes (structure_of command) (values_of command) None in
    let front : take count c.put_command-count.new.out ≡ structure =
    ap (take count) put.bytes ∙ take_at structure _ count (sym put.count) in
    let whole : c.put_entries.new.out.items ≡ canonical command =
    entries.bytes ∙ ap (λ (x : List ℕ). x ++ entries_bytes (entries_of command)) (c.in_ok-spelling.ensures ∙ front) in
    subst (λ (bytes : List ℕ). Spells (structure_of command).number bytes command) (sym whole)
    (canonical_of command (put.fits c.requires) entries.fits c.requires)
