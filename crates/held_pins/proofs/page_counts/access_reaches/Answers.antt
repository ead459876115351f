use Rattle.std.proofs.Common.{◌≡◌, false, ap, sym, subst, ◌∙◌}
use Rattle.std.specs.BTreeMap.Range.{IsLeBy}
use Rattle.held_pins.specs.Counts.{IsFirstFrom}
use Rattle.held_pins.specs.Held.{count_exchanged, page_cmp, page_in}
use Rattle.held_pins.specs.declared.keys.PageKey.{PageKey}
use Rattle.held_pins.proofs.Order.{none_from, none_reached}
use Rattle.held_pins.proofs.page_counts.access_reaches.Goals as goal

pub returns-in-Some-clause-none : goal.returns-in-Some-clause-none
returns-in-Some-clause-none g c misses key is =
    let start : c.new-least.result ≡ page_in c.args.file c.args.access c.args.span.first (record { 0 = 0 }) false =
    c.new-least.ensures
    ∙ ap (λ first. page_in c.args.file c.args.access first (record { 0 = 0 }) false) c.first.ensures.value in
    let P : PageKey → Type 0 = λ from. IsFirstFrom page_cmp (count_exchanged c.args.counts.now) from c.in-Some.key in
    none_reached c.args.file c.args.access c.args.span (count_exchanged c.args.counts.now) c.in-Some.key key
    (subst P start c.in-Some.ensures.found) (sym c.is_reached.ensures ∙ misses) is

pub returns-in-None-clause-none : goal.returns-in-None-clause-none
returns-in-None-clause-none g c misses key is =
    let start : c.new-least.result ≡ page_in c.args.file c.args.access c.args.span.first (record { 0 = 0 }) false =
    c.new-least.ensures
    ∙ ap (λ first. page_in c.args.file c.args.access first (record { 0 = 0 }) false) c.first.ensures.value in
    let P : PageKey → Type 0 = λ from. (other : PageKey) → IsLeBy page_cmp from other
    → count_exchanged c.args.counts.now other ≡ 0 in
    none_from c.args.file c.args.access c.args.span (count_exchanged c.args.counts.now) key
    (subst P start c.in-None.ensures.none) is
