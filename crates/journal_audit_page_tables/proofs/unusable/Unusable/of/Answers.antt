use Rattle.std.proofs.Common.{List, map, ap, ◌∙◌}
use Rattle.std.specs.List.{filter, list_any}
use Rattle.iofd_words.specs.Attachments.{is_attached_to}
use Rattle.iofd_words.specs.World.{World}
use Rattle.iofd_words.specs.declared.rows.Attachment.{Attachment}
use Rattle.iofd_words.specs.declared.rows.Object.{Object}
use Rattle.iofd_words.specs.declared.width.Width.TheVariants.{Bits39, Bits48, Bits57}
use Rattle.journal_audit_page_tables.specs.Unusable.{is_table}
use Rattle.journal_audit_page_tables.proofs.Narrowed.{unusable_is}
use Rattle.journal_audit_page_tables.proofs.unusable.Unusable.of.Goals as goal

pub returns : goal.returns
returns g c range =
    let w = c.args.world.now in
    unusable_is w.settings w.objects w.attachments c.args.file c.args.ioas range c.has_table.result c.has_table-2.result
    c.has_table-3.result c.in_ok-devices.devices.items
    (c.has_table.ensures ∙ ap (λ (rows : List Object). list_any (is_table c.args.file c.args.ioas Bits39) rows)
    (c.deref-3.ensures.value ∙ ap (λ (x : World). x.objects) c.world.view_is))
    (c.has_table-2.ensures ∙ ap (λ (rows : List Object). list_any (is_table c.args.file c.args.ioas Bits48) rows)
    (c.deref-4.ensures.value ∙ ap (λ (x : World). x.objects) c.world.view_is))
    (c.has_table-3.ensures ∙ ap (λ (rows : List Object). list_any (is_table c.args.file c.args.ioas Bits57) rows)
    (c.deref-5.ensures.value ∙ ap (λ (x : World). x.objects) c.world.view_is))
    (c.in_ok-devices.ensures
    ∙ ap (λ (rows : List Object). map (λ (a : Attachment). a.device)
    (filter (is_attached_to rows c.args.file c.args.ioas) c.deref-2.result.now))
    (c.deref.ensures.value ∙ ap (λ (x : World). x.objects) c.world.view_is)
    ∙ ap (λ (rows : List Attachment). map (λ (a : Attachment). a.device)
    (filter (is_attached_to w.objects c.args.file c.args.ioas) rows))
    (c.deref-2.ensures.value ∙ ap (λ (x : World). x.attachments) c.world.view_is))
