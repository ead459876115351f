use Rattle.std.proofs.Common.{◌≡◌, ℕ, ◌≤◌, ap, ◌∙◌, arith}
use Rattle.std.specs.Prelude.{nat_eq, nat_le}
use Rattle.std.proofs.lemmas.Bool.Decides.{nat_tests}
use Rattle.held_pins.specs.Counts.{count_in}
use Rattle.held_pins.specs.Held.{holder_cmp, holder_of, tally}
use Rattle.held_pins.specs.Held.Tally.{OfHolder}
use Rattle.held_pins.specs.HeldPins.{count_of}
use Rattle.held_pins.proofs.held_pins.HeldPins.is_full.Goals as goal

at_most : (n : ℕ) → n ≤ 65535 → nat_eq n 65535 ≡ nat_le 65535 n
at_most n few = grind (arith, nat_tests)

pub returns : goal.returns
returns g c =
    let held = c.self.inside in
    let file = c.args.file in
    let access = c.args.access in
    let what = OfHolder (holder_of file access) in
    ap (λ n. nat_eq n 65535)
    (c.count.ensures ∙ ap (λ key. count_in holder_cmp held.counts.holders key) c.new.ensures)
    ∙ at_most (tally held.counts what) (c.self.invariant.few (holder_of file access))
    ∙ ap (λ n. nat_le 65535 n) (c.self.invariant.tallied what)
    ∙ ap (λ pins. nat_le 65535 (count_of pins file access)) c.self.view_is
