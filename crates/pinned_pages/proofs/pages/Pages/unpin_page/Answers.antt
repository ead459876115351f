use Rattle.std.proofs.Common.{◌≡◌, ◌<◌, ◌≤◌, ◌-◌, ◌∙◌, ℕ, cond, eqb, None, sym, ap, arith, subst}
use Rattle.pinned_pages.specs.Access.{AccessMap, pins_in, row_at}
use Rattle.pinned_pages.specs.Accesses.{IsAccessReleased}
use Rattle.pinned_pages.specs.Pages.{MemoryPages, ObjectPages, access_pins}
use Rattle.pinned_pages.proofs.AccessRuns.{last_gone, one_fewer}
use Rattle.pinned_pages.proofs.pages.Pages.unpin_page.Goals as goal

pub returns-in-Some-clause-pages : goal.returns-in-Some-clause-pages
returns-in-Some-clause-pages g c =
    let inside = c.self.inside in
    let pages : ObjectPages = record {
      user = inside.user;
      va = inside.va;
      count = inside.count;
      writable = inside.writable;
      table_pins = inside.table_pins;
      frames = inside.frames.items;
      access = inside.access.rows;
    } in
    let same : pages ≡ c.args.self.now.pages = ap (λ (p : MemoryPages). p.pages) c.self.view_is in
    let low : c.args.index < inside.count = subst (λ (p : ObjectPages). c.args.index < p.count) (sym same)
    c.requires.within in
    let pin = c.in-Some.field-0 in
    let more = c.in-Some.ensures.more in
    let R : ObjectPages → Type 0 = λ p. IsAccessReleased c.args.index 1 p (record pages {
      access = c.unpin_one.new.self.rows;
    }) in
    subst R same (one_fewer pages c.unpin_one.new.self.rows c.args.index pin c.self.invariant low
    c.in-Some.ensures.before (pin.pins - 1) (omega (arith, more)) (omega (arith, more)) c.in-Some.ensures.rows)

pub returns-then-self-gt0-clause-pages : goal.returns-then-self-gt0-clause-pages
returns-then-self-gt0-clause-pages g c =
    let inside = c.self.inside in
    let pages : ObjectPages = record {
      user = inside.user;
      va = inside.va;
      count = inside.count;
      writable = inside.writable;
      table_pins = inside.table_pins;
      frames = inside.frames.items;
      access = inside.access.rows;
    } in
    let same : pages ≡ c.args.self.now.pages = ap (λ (p : MemoryPages). p.pages) c.self.view_is in
    let low : c.args.index < inside.count = subst (λ (p : ObjectPages). c.args.index < p.count) (sym same)
    c.requires.within in
    let index = c.args.index in
    let same_map = c.in_default.ensures.none in
    let row = ap (λ (m : AccessMap). row_at m.rows index) (sym same_map) ∙ sym c.get.ensures ∙ c.in-Some-get.is in
    let rows = subst (λ (m : AccessMap). (i : ℕ) → row_at c.remove.new.self.rows i
    ≡ cond (eqb index i) None (row_at m.rows i)) same_map c.remove.ensures.rows in
    let few = c.in_default.ensures.few in
    let R : ObjectPages → Type 0 = λ p. IsAccessReleased c.args.index 1 p
    (record pages { access = c.remove.new.self.rows }) in
    let some : 1 ≤ pins_in (row_at inside.access.rows c.args.index) =
    subst (λ (p : ObjectPages). 1 ≤ access_pins p c.args.index) (sym same) c.requires.pins in
    let pins = ap pins_in row in
    subst R same (last_gone pages c.remove.new.self.rows c.args.index c.in-Some-get.pin c.self.invariant low row
    (omega (arith, some, pins, few)) rows)

pub returns-clause-pages : goal.returns-clause-pages
returns-clause-pages g c =
    let inside = c.self.inside in
    let pages : ObjectPages = record {
      user = inside.user;
      va = inside.va;
      count = inside.count;
      writable = inside.writable;
      table_pins = inside.table_pins;
      frames = inside.frames.items;
      access = inside.access.rows;
    } in
    let same : pages ≡ c.args.self.now.pages = ap (λ (p : MemoryPages). p.pages) c.self.view_is in
    let low : c.args.index < inside.count = subst (λ (p : ObjectPages). c.args.index < p.count) (sym same)
    c.requires.within in
    let index = c.args.index in
    let same_map = c.in_default.ensures.none in
    let row = ap (λ (m : AccessMap). row_at m.rows index) (sym same_map) ∙ sym c.get.ensures ∙ c.in-Some-get.is in
    let rows = subst (λ (m : AccessMap). (i : ℕ) → row_at c.remove.new.self.rows i
    ≡ cond (eqb index i) None (row_at m.rows i)) same_map c.remove.ensures.rows in
    let few = c.in_default.ensures.few in
    let R : ObjectPages → Type 0 = λ p. IsAccessReleased c.args.index 1 p
    (record pages { access = c.remove.new.self.rows }) in
    let some : 1 ≤ pins_in (row_at inside.access.rows c.args.index) =
    subst (λ (p : ObjectPages). 1 ≤ access_pins p c.args.index) (sym same) c.requires.pins in
    let pins = ap pins_in row in
    subst R same (last_gone pages c.remove.new.self.rows c.args.index c.in-Some-get.pin c.self.invariant low row
    (omega (arith, some, pins, few)) rows)
