use Rattle.std.proofs.Common.{◌≡◌, ℕ, ◌<◌, ◌≤◌, List, [], ◌∷◌, ◌++◌, length, take, Result, Ok, Err, OnErr}
use Rattle.std.proofs.Common.{ap, ◌∙◌, arith}
use Rattle.std.proofs.lemmas.List.{take-append-le}
use Rattle.iofd_words.proofs.Unsaid.{unsaid}
use Rattle.iommufd_script.proofs.hex_bytes.HexBytes.to_vec.Goals as goal

no_bytes : (n : ℕ) (own items : List ℕ) → n ≡ length own → n ≡ 0 → items ≡ [] → items ≡ own
no_bytes n [] items len none empty = empty
no_bytes n (x ∷ own) items len none empty = absurd (omega (arith, len, none))

on_err : {T E P : Type 0} (r : Result T E) → P → OnErr r P
on_err (Ok x) p = tt
on_err (Err e) p = p

-- the buffer has the bytes, and no more
all_of : (n : ℕ) (own buffer rest : List ℕ) → n ≡ length own → length buffer ≡ n
    → take (length own) buffer ≡ own → take n (buffer ++ rest) ≡ own
all_of n own buffer rest len room written =
    let within : n ≤ length buffer = omega (arith, room) in
    rw take-append-le (ap (λ (k : ℕ). take k buffer) len ∙ written)

pub returns-then-len-eq0-clause-ok : goal.returns-then-len-eq0-clause-ok
returns-then-len-eq0-clause-ok g c =
    no_bytes c.len-len.result c.args.self.now c.new.result.items c.len-len.ensures c.if-len-eq0.true c.new.ensures.items

pub returns-then-len-eq0-clause-memory : goal.returns-then-len-eq0-clause-memory
returns-then-len-eq0-clause-memory g c = tt

pub returns-in_err-vec-clause-ok : goal.returns-in_err-vec-clause-ok
returns-in_err-vec-clause-ok g c =
    unsaid (λ bytes. bytes.items ≡ c.args.self.now) c.from_residual.result c.from_residual.ensures.0

pub returns-in_err-vec-clause-memory : goal.returns-in_err-vec-clause-memory
returns-in_err-vec-clause-memory g c =
    let some : 0 < length c.args.self.now = omega (arith, c.len-len.ensures, c.if-len-eq0.false) in
    on_err c.from_residual.result some

pub returns-clause-ok : goal.returns-clause-ok
returns-clause-ok g c =
    let made : c.in_ok-vec.vec.len ≡ c.len-len.result = c.in_ok-vec.ensures.len in
    let room : length c.write_over.new.buffer ≡ c.in_ok-vec.vec.len =
    c.write_over.auto.buffer ∙ c.deref_mut.ensures.len in
    all_of c.in_ok-vec.vec.len c.args.self.now c.write_over.new.buffer _ (made ∙ c.len-len.ensures) room
    c.write_over.ensures

pub returns-clause-memory : goal.returns-clause-memory
returns-clause-memory g c = tt
