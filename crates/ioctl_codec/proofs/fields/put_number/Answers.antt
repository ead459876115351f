use Rattle.std.proofs.Common.{◌≡◌, ℕ, ◌+◌, ◌-◌, List, ◌++◌, drop, take, refl, ◌∙◌, arith}
use Rattle.std.proofs.lemmas.List.{drop-drop}
use Rattle.std.specs.Int.{to_le_bytes, w32, w64}
use Rattle.ioctl_codec.proofs.fields.put_number.Goals as goal

-- n bytes, written at a place
overwritten : (at n k : ℕ) (out now bytes : List ℕ) → k ≡ n → now ≡ bytes
    → take at out ++ (now ++ drop k (drop at out)) ≡ take at out ++ (bytes ++ drop (at + n) out)
overwritten at n k out now bytes same is = rw (is, same, drop-drop n at out) refl

pub returns-in-U32-clause-written : goal.returns-in-U32-clause-written
returns-in-U32-clause-written c =
    let now = c.copy_from_slice.new.self in
    let is : now ≡ to_le_bytes w32 c.args.number = rw c.to_le_bytes-bytes.ensures at c.copy_from_slice.ensures.after in
    rw c.in-U32.is (overwritten c.args.at 4 (c.args.at + 4 - c.args.at) c.args.out.now now
    (to_le_bytes w32 c.args.number) (omega arith) is)

pub returns-in-U64-clause-written : goal.returns-in-U64-clause-written
returns-in-U64-clause-written c =
    let now = c.copy_from_slice-in-U64.new.self in
    let is : now ≡ to_le_bytes w64 c.args.number =
    c.copy_from_slice-in-U64.ensures.after ∙ c.to_le_bytes-bytes.ensures in
    rw c.in-U64.is (overwritten c.args.at 8 (c.args.at + 8 - c.args.at) c.args.out.now now
    (to_le_bytes w64 c.args.number) (omega arith) is)
