use Rattle.std.proofs.Common.{◌≤◌, arith, sym, ap, ◌∙◌}
use Rattle.std.specs.Option.{option_copied}
use Rattle.iofd_words.specs.Bounds.{Bounds}
use Rattle.event_ioas.proofs.UnusableAmong.{lacks_last}
use Rattle.event_ioas.proofs.unusable.some_ends_among.Goals as goal

pub returns-in-Some : goal.returns-in-Some
returns-in-Some c =
    let last = ap (λ (r : Bounds). r.last) c.range.view_is in
    let fits : c.in-Some.range.now.last ≤ 0xffff_ffff_ffff_ffff = omega (arith, last) in
    rw last at c.some_lacks.ensures
    ∙ lacks_last c.args.tables.now c.args.file c.args.ioas c.args.ranges.now c.in-Some.range.now c.requires
    (sym c.last.ensures.value ∙ ap option_copied c.in-Some.is) fits
