use Rattle.std.proofs.Common.{◌≡◌, ◌||◌, ℕ, eqb, List, ap, sym, ◌∙◌}
use Rattle.std.specs.List.{list_all, list_any}
use Rattle.iofd_rows.proofs.ListTests.{any-filter}
use Rattle.iofd_words.specs.Areas.{areas_of, is_of}
use Rattle.iofd_words.specs.World.{World}
use Rattle.iofd_words.specs.declared.rows.Area.{Area}
use Rattle.iofd_words.specs.declared.rows.MemoryObject.{MemoryObject}
use Rattle.journal_audit_world.specs.Keys.{has_number}
use Rattle.journal_audit_page_tables.specs.PageSets.{frame_in}
use Rattle.journal_audit_page_tables.specs.Listed.{has_few_pages}
use Rattle.journal_audit_page_tables.proofs.ListedObjects.{all_gathered, few_pages, none_gathered}
use Rattle.journal_audit_page_tables.proofs.Told.{if_ok, if_some}
use Rattle.journal_audit_world.specs.Over.{is_over}
use Rattle.journal_audit_page_tables.proofs.pinning.newly_pinned.Goals as goal

pub list_objects-requires-clause-few : goal.list_objects-requires-clause-few
list_objects-requires-clause-few g c =
    ap (λ (rows : List MemoryObject). list_all has_few_pages rows)
    (c.deref-4.ensures.value ∙ ap (λ (x : World). x.memory) c.world.view_is)
    ∙ few_pages c.args.at c.args.world.now c.requires.kept

pub returns : goal.returns
returns g c =
    let a = c.deref.ensures.value ∙ ap (λ (x : World). x.areas) c.world.view_is in
    let p = c.deref-2.ensures.value ∙ ap (λ (x : World). x.pins) c.world.view_is in
    let u = c.deref-3.ensures.value ∙ ap (λ (x : World). x.user_pages) c.world.view_is in
    let m = c.deref-4.ensures.value ∙ ap (λ (x : World). x.memory) c.world.view_is in
    let numbers : (n : ℕ) → has_number c.add_under.new.numbers n
    ≡ list_any (λ (area : Area). eqb area.memory n) (areas_of c.deref.result.now c.args.file c.args.ioas) =
    λ n. c.in_ok-add_under.ensures n
    ∙ ap (λ (ks : List ℕ). has_number ks n || is_over (is_of c.args.file c.args.ioas) c.deref.result.now n)
    c.new-numbers.ensures
    ∙ sym (any-filter (λ (area : Area). eqb area.memory n) (is_of c.args.file c.args.ioas) c.deref.result.now) in
    if_ok c.list_objects.result _ _ (λ all. if_some _ _ _ _ all
    (none_gathered (frame_in c.in_ok-frames.frames) c.add_under.new.numbers c.in_ok-pinned.pinned.keys
    c.deref.result.now c.deref-2.result.now c.deref-4.result.now c.deref-3.result.now c.args.file c.args.ioas
    c.in_ok-frames.ensures c.in_ok-pinned.ensures numbers c.args.world.now a p m u)
    (λ found. all_gathered (frame_in c.in_ok-frames.frames) c.add_under.new.numbers c.in_ok-pinned.pinned.keys
    c.deref.result.now c.deref-2.result.now c.deref-4.result.now c.deref-3.result.now c.args.file c.args.ioas
    c.in_ok-frames.ensures c.in_ok-pinned.ensures numbers c.args.world.now a p m u found.items))
    c.list_objects.ensures
