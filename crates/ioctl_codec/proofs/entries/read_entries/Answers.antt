use Rattle.std.proofs.Common.{ℕ, ◌*◌, length, drop, ap, ◌∙◌, arith}
use Rattle.std.proofs.lemmas.List.{drop-drop, length-drop}
use Rattle.ioctl_codec.specs.Entries.{entries_at}
use Rattle.ioctl_codec.proofs.EntriesBytes.{read_more}
use Rattle.ioctl_codec.proofs.entries.read_entries.Goals as goal

pub entry_at-entry-requires : goal.entry_at-entry-requires
entry_at-entry-requires g c =
    let bytes = c.args.bytes.now in
    let index = c.loop-index._index in
    omega (
      arith,
      ap length c.loop-index.invariant.rest,
      length-drop (16 * index) bytes,
      c.requires,
      c.loop-index-test.true,
    )

pub loop-index-preserved : goal.loop-index-preserved
loop-index-preserved g c =
    let bytes = c.args.bytes.now in
    let index = c.loop-index._index in
    let so_far = c.loop-index.invariant in
    let next = c.entry_at-entry in
    record {
      entries = read_more index bytes c.loop-index.rest.now c.loop-index.entries.items c.push.new.self.items
          next.result.0 so_far.entries so_far.rest next.ensures.value c.in_ok-push.ensures.items;
      rest = next.ensures.rest ∙ (ap (drop 16) so_far.rest
          ∙ (drop-drop 16 (16 * index) bytes ∙ ap (λ (n : ℕ). drop n bytes) (omega arith)));
    }

pub returns-clause-entries : goal.returns-clause-entries
returns-clause-entries g c =
    c.loop-index.invariant.entries ∙ ap (λ (n : ℕ). entries_at n c.args.bytes.now)
    (omega (arith, c.loop-index-test.false, c.loop-index.auto._index-end))
