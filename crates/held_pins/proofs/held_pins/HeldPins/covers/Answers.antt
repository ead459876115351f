use Rattle.std.proofs.Common.{◌≡◌, true, false, ap, sym, ◌∙◌, arith}
use Rattle.std.specs.Prelude.{nat_lt}
use Rattle.std.proofs.lemmas.Bool.Decides.{nat_tests}
use Rattle.iofd_words.specs.declared.fault.AccessKind.TheVariants.{Read, Write}
use Rattle.held_pins.specs.Held.{page_in}
use Rattle.held_pins.specs.HeldPins.{is_covered_in}
use Rattle.held_pins.proofs.Asked.{counted_at, read_covered, write_covered}
use Rattle.held_pins.proofs.held_pins.HeldPins.covers.Goals as goal

pub returns-then-written : goal.returns-then-written
returns-then-written g c =
    let held = c.self.inside in
    let file = c.args.file in
    let access = c.args.access in
    let ioas = c.args.ioas in
    let some : nat_lt 0 c.count-written.result ≡ true = search (arith, nat_tests) in
    let counted = counted_at held.counts.pages c.new.result (page_in file ioas c.args.address access true)
    c.count-written.result c.count-written.ensures c.new.ensures in
    some
    ∙ read_covered held.spans held.counts file access ioas c.args.address c.self.invariant true (sym counted ∙ some)
    ∙ ap (λ pins. is_covered_in pins file access ioas c.args.address Read) c.self.view_is
    ∙ ap (λ kind. is_covered_in c.args.self.now file access ioas c.args.address kind) (sym c.in-Read.is)

pub returns-else-written : goal.returns-else-written
returns-else-written g c =
    let held = c.self.inside in
    let file = c.args.file in
    let access = c.args.access in
    let ioas = c.args.ioas in
    let none : nat_lt 0 c.count-written.result ≡ false = search (arith, nat_tests) in
    let counted = counted_at held.counts.pages c.new.result (page_in file ioas c.args.address access true)
    c.count-written.result c.count-written.ensures c.new.ensures in
    counted_at held.counts.pages c.new-else-written.result (page_in file ioas c.args.address access false)
    c.count.result c.count.ensures c.new-else-written.ensures
    ∙ read_covered held.spans held.counts file access ioas c.args.address c.self.invariant false (sym counted ∙ none)
    ∙ ap (λ pins. is_covered_in pins file access ioas c.args.address Read) c.self.view_is
    ∙ ap (λ kind. is_covered_in c.args.self.now file access ioas c.args.address kind) (sym c.in-Read.is)

pub returns-in-Write : goal.returns-in-Write
returns-in-Write g c =
    let held = c.self.inside in
    let file = c.args.file in
    let access = c.args.access in
    let ioas = c.args.ioas in
    counted_at held.counts.pages c.new.result (page_in file ioas c.args.address access true) c.count-written.result
    c.count-written.ensures c.new.ensures
    ∙ write_covered held.spans held.counts file access ioas c.args.address c.self.invariant
    ∙ ap (λ pins. is_covered_in pins file access ioas c.args.address Write) c.self.view_is
    ∙ ap (λ kind. is_covered_in c.args.self.now file access ioas c.args.address kind) (sym c.in-Write.is)
