use Rattle.std.proofs.Common.{Some, None, List, arith, cond, ap, sym, ◌∙◌}
use Rattle.std.specs.List.{list_all}
use Rattle.iofd_rows.specs.Pinned.{has_object, have_own_numbers}
use Rattle.iofd_words.specs.World.{World}
use Rattle.iofd_words.specs.declared.rows.Area.{Area}
use Rattle.iofd_words.specs.declared.rows.MemoryObject.{MemoryObject}
use Rattle.iofd_words.specs.declared.refusal.Cause.TheVariants as cause
use Rattle.journal_audit_maps.proofs.AccessPinned.{match_some}
use Rattle.journal_audit_maps.proofs.PagesAsked.{pages_told}
use Rattle.journal_audit_maps.proofs.access_pin.refusal_by_pages.Goals as goal

pub gather-requires-clause-own : goal.gather-requires-clause-own
gather-requires-clause-own g c =
    ap (λ (rows : List MemoryObject). have_own_numbers rows)
    (c.deref-3.ensures.value ∙ ap (λ (x : World). x.memory) c.world.view_is)
    ∙ c.requires.kept.pins.numbers

pub gather-requires-clause-sizes : goal.gather-requires-clause-sizes
gather-requires-clause-sizes g c =
    ap (λ (rows : List MemoryObject). list_all (has_object rows) c.deref.result.now)
    (c.deref-3.ensures.value ∙ ap (λ (x : World). x.memory) c.world.view_is)
    ∙ ap (λ (rows : List Area). list_all (has_object c.args.world.now.memory) rows)
    (c.deref.ensures.value ∙ ap (λ (x : World). x.areas) c.world.view_is)
    ∙ c.requires.kept.pins.sizes

pub returns-then-passes_limit : goal.returns-then-passes_limit
returns-then-passes_limit g c =
    ap (λ b. cond b (Some cause.Account) None) (sym c.if-passes_limit.true)
    ∙ pages_told _ c.args.world.now c.args.file c.args.ioas c.args.asked _ _ _ _ c.in-Some.found.items c.len.result
    c.passes_limit.result c.world.view_is c.deref.ensures.value c.deref-2.ensures.value c.deref-3.ensures.value
    c.deref-4.ensures.value (match_some _ _ _ _ c.in-Some.is c.in_ok-found.ensures) (let told = c.len.ensures in let kept = c.in-Some.found.ok in omega (arith, told, kept))
    c.passes_limit.ensures

pub returns : goal.returns
returns g c =
    ap (λ b. cond b (Some cause.Account) None) (sym c.if-passes_limit.false)
    ∙ pages_told _ c.args.world.now c.args.file c.args.ioas c.args.asked _ _ _ _ c.in-Some.found.items c.len.result
    c.passes_limit.result c.world.view_is c.deref.ensures.value c.deref-2.ensures.value c.deref-3.ensures.value
    c.deref-4.ensures.value (match_some _ _ _ _ c.in-Some.is c.in_ok-found.ensures) (let told = c.len.ensures in let kept = c.in-Some.found.ok in omega (arith, told, kept))
    c.passes_limit.ensures
