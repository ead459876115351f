use Rattle.std.proofs.Common.{◌≡◌, Bool, true, false, ◌&&◌, not, eqb, List, refl, sym, ◌∙◌, ap}
use Rattle.std.specs.Prelude.{is_none}
use Rattle.std.specs.List.{filter, list_any}
use Rattle.iofd_words.specs.Pins.{unpinned_pages}
use Rattle.iofd_words.specs.declared.rows.Area.{Area}
use Rattle.user_memory.specs.Memory.{frame_now, pinned_frame, rows_of}
use Rattle.hwpt_device.proofs.Asks.{lacks_under, none_under}
use Rattle.server_state.proofs.TableRows.{areas_of_other}
use Rattle.hwpt_device.proofs.making.lacks_page.Goals as goal

-- where no page table stands on the address space
untranslated : (has lacks : Bool) → has ≡ false → lacks ≡ (not has && lacks)
untranslated true lacks none = cc
untranslated false lacks none = refl

pub returns-in-Some : goal.returns-in-Some
returns-in-Some g c =
    let m = c.args.state.now.memory in
    let L = λ (areas : List Area). list_any (λ page. is_none (frame_now m page))
    (unpinned_pages (pinned_frame m) (filter
    (λ row. list_any (λ area. eqb area.memory row.number) areas) (rows_of m))) in
    c.lack_page.ensures ∙ lacks_under m c.in-Some.areas.now.areas c.objects_told.ensures
    ∙ ap L (sym c.in-Some.ensures.1)
    ∙ untranslated _ _ (sym c.has_hwpt.ensures ∙ c.if-has_hwpt.false)

pub returns-in-None : goal.returns-in-None
returns-in-None g c =
    let m = c.args.state.now.memory in
    let L = λ (areas : List Area). list_any (λ page. is_none (frame_now m page))
    (unpinned_pages (pinned_frame m) (filter
    (λ row. list_any (λ area. eqb area.memory row.number) areas) (rows_of m))) in
    sym (ap (list_any (λ page. is_none (frame_now m page))) (none_under m))
    ∙ ap L (sym (areas_of_other c.args.state.now.objects.rows c.args.file c.args.ioas c.in-None.ensures))
    ∙ untranslated _ _ (sym c.has_hwpt.ensures ∙ c.if-has_hwpt.false)
