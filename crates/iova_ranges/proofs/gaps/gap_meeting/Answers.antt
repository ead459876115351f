use Rattle.std.proofs.Common.{◌≡◌, ◌≤◌, None, find, leb, rules, sym, ap, subst, ◌∙◌, ℕ, arith}
use Rattle.std.specs.Option.{option_copied}
use Rattle.iofd_words.specs.Bounds.{Bounds}
use Rattle.iova_ranges.proofs.LeftOut.{gap_above}
use Rattle.iova_ranges.proofs.gaps.gap_meeting.Goals as goal

pub returns-in-None : goal.returns-in-None
returns-in-None c =
    let found = sym c.first_reaching.ensures ∙ ap option_copied c.in-None.is in
    let none : find (λ (x : Bounds). leb c.args.span.first x.last) c.args.spans.now ≡ None =
    subst (λ (n : ℕ). find (λ (x : Bounds). leb n x.last) c.args.spans.now ≡ None) c.first.ensures.value found in
    let ordered : c.args.span.first ≤ c.args.span.last = search (rules, c.first.ensures, arith) in
    let high : c.args.span.first ≤ 18446744073709551615 = search (rules, c.first.ensures, c.first.type_inv, arith) in
    rw (c.between.ensures, c.first-in-None.ensures.value) (gap_above c.args.spans.now c.args.span none ordered high)
