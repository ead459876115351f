use Rattle.std.proofs.Common.{arith, refl, ltb, ap, sym, ◌∙◌, eqb-true, ℕ}
use Rattle.iofd_words.specs.View.{view}
use Rattle.journal_audit.proofs.LackedTables.{frames_lacked, none_lacked, placed_within}
use Rattle.journal_audit.proofs.placing.lacks_frames.Goals as goal

pub missing_over-requires : goal.missing_over-requires
missing_over-requires g c =
    let within = placed_within (view c.args.world.now) c.args.file c.args.request _ c.in-Some.start c.requires.sum
    c.in_ok-start.ensures c.in-Some.is in
    omega (arith, within)

pub returns-then-is_empty : goal.returns-then-is_empty
returns-then-is_empty g c =
    let empty = eqb-true _ 0 (sym c.is_empty.ensures ∙ c.if-is_empty.true) in
    let long = c.in_ok-missing.missing.ok in
    none_lacked _ c.args.world.now c.args.file c.args.request _ c.world.view_is c.in_ok-start.ensures c.in-Some.start
    _ _ _ _ c.in_ok-missing.missing.items c.requires.some c.in-Some.is c.in_ok-missing.ensures c.deref.ensures.value
    c.deref-2.ensures.value refl refl (omega (arith, empty, long))

pub returns : goal.returns
returns g c =
    let long = c.in_ok-missing.missing.ok in
    let counted = c.len.ensures in
    frames_lacked _ c.args.world.now c.args.file c.args.request _ c.world.view_is c.in_ok-start.ensures c.in-Some.start
    _ _ _ _ c.in_ok-missing.missing.items c.requires.some c.in-Some.is c.in_ok-missing.ensures c.deref.ensures.value
    c.deref-2.ensures.value refl refl c.free_count.result _ c.free_count.ensures
    (ap (λ (n : ℕ). ltb c.free_count.result n) (omega (arith, long, counted)))
