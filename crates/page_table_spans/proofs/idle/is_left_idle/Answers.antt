use Rattle.std.proofs.Common.{◌≡◌, Bool, true, false, not, ◌||◌, refl, sym, ap, ◌∙◌}
use Rattle.page_table_spans.proofs.IdleAreas.{left_told}
use Rattle.page_table_spans.proofs.idle.is_left_idle.Goals as goal

pub returns-then-not-meets_before : goal.returns-then-not-meets_before
returns-then-not-meets_before g c =
    let told = left_told c.args.level c.args.number c.first_page-first.result c.first_page.result c.args.areas.now.areas
    c.args.span c.requires.apart c.requires.uncut (rw c.first.ensures.value at c.first.ensures.ordered)
    c.first_page-first.ensures c.first_page.ensures c.meets_before.result c.meets_behind.result
    (rw c.first.ensures.value at c.meets_before.ensures) (rw c.last.ensures.value at c.meets_behind.ensures) in
    sym (ap not (told ∙ none c.meets_before.result c.meets_behind.result c.if-not-meets_before.true))
  where
    none : (b e : Bool) → b ≡ false → (b || e) ≡ e
    none false e is = refl
    none true e is = cc

pub returns-else-not-meets_before : goal.returns-else-not-meets_before
returns-else-not-meets_before g c =
    let span = c.args.span in
    let told = left_told c.args.level c.args.number c.first_page-first.result c.first_page.result c.args.areas.now.areas
    c.args.span c.requires.apart c.requires.uncut (rw c.first.ensures.value at c.first.ensures.ordered)
    c.first_page-first.ensures c.first_page.ensures c.meets_before.result _
    (rw c.first.ensures.value at c.meets_before.ensures) refl in
    sym (ap not (told ∙ some c.meets_before.result _ c.if-not-meets_before.false))
  where
    some : (b e : Bool) → b ≡ true → (b || e) ≡ b
    some true e is = refl
    some false e is = cc
