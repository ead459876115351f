use Rattle.std.proofs.Common.{◌≡◌, ◌+◌, ◌∙◌, cond, eqb, ℕ, Option, Some, None, true, false, sym, ap, arith, subst}
use Rattle.std.specs.Prelude.{is_some}
use Rattle.std.proofs.lemmas.Bool.Decides.{nat_tests}
use Rattle.pinned_pages.specs.Access.{are_counted, pins_in, row_at}
use Rattle.pinned_pages.specs.Pages.{MemoryPages, access_pins}
use Rattle.pinned_pages.specs.declared.access_pins.AccessPin.{AccessPin}
use Rattle.pinned_pages.proofs.AccessRows.{found_counted}
use Rattle.pinned_pages.proofs.Runs.{counted_more, none_is}
use Rattle.pinned_pages.proofs.pages.Pages.new_rows.Given.{Over}
use Rattle.pinned_pages.proofs.pages.Pages.new_rows.Goals as goal
use Rattle.pinned_pages.proofs.pages.Pages.new_rows.Goals.{then-is_none, else-is_none}

-- a row says some pin
pins_there : (g : Over) (c : goal.Joined-is_none g) (o : Option AccessPin)
    → row_at c.args.self.now.pages.access (c.args.first + c.loop-at.at) ≡ o → is_some o ≡ true
    → eqb (pins_in o) 0 ≡ false
pins_there g c (Some pin) is some =
    let C : MemoryPages → Type 0 = λ v. are_counted v.pages.count v.pages.access ≡ true in
    let all = subst C c.self.view_is c.self.invariant.counted in
    let pins = (found_counted c.args.self.now.pages.count c.args.self.now.pages.access all
    (c.args.first + c.loop-at.at) pin is).1 in
    grind (arith, nat_tests)
pins_there g c None is some = cc

pub loop-at-preserved : goal.loop-at-preserved
loop-at-preserved g c =
    let at = c.args.first + c.loop-at.at in
    let p = λ (i : ℕ). eqb (access_pins c.args.self.now.pages i) 0 in
    let more = counted_more p c.args.first c.loop-at.at at (omega arith) in
    let row = sym (ap (λ (v : MemoryPages). row_at v.pages.access at) c.self.view_is) ∙ sym c.get.ensures in
    elim c.if-is_none.branch [
      | then-is_none w ↦
          let none = none_is c.get.result w.if-is_none.ensures in
          let one = ap {B = ℕ} (λ o. cond (eqb (pins_in o) 0) 1 0) (row ∙ none) in
          rw w.new-is (record {
            new = omega (arith, more, one, c.loop-at.invariant.new);
            few = omega (arith, c.loop-at.invariant.few);
          })
      | else-is_none w ↦
          let some = ap (λ o. eqb (pins_in o) 0) row ∙ pins_there g c c.get.result row w.if-is_none.ensures in
          let zero = ap {B = ℕ} (λ b. cond b 1 0) some in
          rw w.new-is (record {
            new = omega (arith, more, zero, c.loop-at.invariant.new);
            few = omega (arith, c.loop-at.invariant.few);
          })
    ]
