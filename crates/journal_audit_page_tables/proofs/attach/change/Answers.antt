use Rattle.std.proofs.Common.{List, Some, ap, sym, ◌∙◌}
use Rattle.iofd_words.specs.Objects.{binding_of, kind_of}
use Rattle.iofd_words.specs.World.{World}
use Rattle.iofd_words.specs.declared.rows.Object.{Object}
use Rattle.iofd_words.specs.declared.rows.ObjectKind.{ObjectKind}
use Rattle.journal_audit_page_tables.proofs.Attached.{space_answers, space_done, space_present, table_done}
use Rattle.journal_audit_page_tables.proofs.Told.{if_ok}
use Rattle.journal_audit_page_tables.proofs.attach.change.Goals as goal

pub attach_to_space-requires-clause-present : goal.attach_to_space-requires-clause-present
attach_to_space-requires-clause-present g c =
    let binding = sym (c.binding_of.ensures ∙ ap (λ (rows : List Object). binding_of rows c.args.device)
    (c.deref.ensures.value ∙ ap (λ (x : World). x.objects) c.world.view_is)) ∙ c.in-Some.is in
    let wide = sym c.width_of.ensures ∙ c.in-Some-width_of.is in
    let named = sym (c.kind_of.ensures ∙ ap (λ (rows : List Object). kind_of rows c.in-Some.bound.file c.args.pt_id)
    (c.deref-2.ensures.value ∙ ap (λ (x : World). x.objects) c.world.view_is)) ∙ c.in-Some-Ioas.is
    ∙ ap (λ (k : ObjectKind). Some k) c.in-Some-Ioas.field-0-is in
    space_present c.args.world.now c.args.device c.args.pt_id c.in-Some.bound binding named c.requires.granted

pub attach_to_space-requires-clause-answered : goal.attach_to_space-requires-clause-answered
attach_to_space-requires-clause-answered g c =
    let binding = sym (c.binding_of.ensures ∙ ap (λ (rows : List Object). binding_of rows c.args.device)
    (c.deref.ensures.value ∙ ap (λ (x : World). x.objects) c.world.view_is)) ∙ c.in-Some.is in
    let wide = sym c.width_of.ensures ∙ c.in-Some-width_of.is in
    let named = sym (c.kind_of.ensures ∙ ap (λ (rows : List Object). kind_of rows c.in-Some.bound.file c.args.pt_id)
    (c.deref-2.ensures.value ∙ ap (λ (x : World). x.objects) c.world.view_is)) ∙ c.in-Some-Ioas.is
    ∙ ap (λ (k : ObjectKind). Some k) c.in-Some-Ioas.field-0-is in
    space_answers _ c.args.world.now c.args.device c.args.pt_id c.in-Id.id c.args.reply c.in-Some.bound
    c.in-Some-width_of.width c.in-Id.is binding wide named c.requires.answered

pub returns-in-Some-Ioas : goal.returns-in-Some-Ioas
returns-in-Some-Ioas g c =
    let binding = sym (c.binding_of.ensures ∙ ap (λ (rows : List Object). binding_of rows c.args.device)
    (c.deref.ensures.value ∙ ap (λ (x : World). x.objects) c.world.view_is)) ∙ c.in-Some.is in
    let wide = sym c.width_of.ensures ∙ c.in-Some-width_of.is in
    let named = sym (c.kind_of.ensures ∙ ap (λ (rows : List Object). kind_of rows c.in-Some.bound.file c.args.pt_id)
    (c.deref-2.ensures.value ∙ ap (λ (x : World). x.objects) c.world.view_is)) ∙ c.in-Some-Ioas.is
    ∙ ap (λ (k : ObjectKind). Some k) c.in-Some-Ioas.field-0-is in
    if_ok c.attach_to_space.result _ _
    (λ done is. space_done _ c.args.world.now c.args.device c.args.pt_id c.in-Id.id c.args.reply c.in-Some.bound
    c.in-Some-width_of.width c.in-Id.is binding wide c.args.at c.attach_to_space.new.world named is)
    c.attach_to_space.ensures

pub returns-in-Some-Hwpt : goal.returns-in-Some-Hwpt
returns-in-Some-Hwpt g c =
    let binding = sym (c.binding_of.ensures ∙ ap (λ (rows : List Object). binding_of rows c.args.device)
    (c.deref.ensures.value ∙ ap (λ (x : World). x.objects) c.world.view_is)) ∙ c.in-Some.is in
    let wide = sym c.width_of.ensures ∙ c.in-Some-width_of.is in
    let named = sym (c.kind_of.ensures ∙ ap (λ (rows : List Object). kind_of rows c.in-Some.bound.file c.args.pt_id)
    (c.deref-2.ensures.value ∙ ap (λ (x : World). x.objects) c.world.view_is)) ∙ c.in-Some-Hwpt.is
    ∙ ap (λ (k : ObjectKind). Some k) c.in-Some-Hwpt.field-0-is in
    if_ok c.join.result _ _
    (λ done is. table_done _ c.args.world.now c.args.device c.args.pt_id c.in-Id.id c.args.reply c.in-Some.bound
    c.in-Some-width_of.width c.in-Id.is binding wide c.args.at c.join.new.world
    c.in-Some-Hwpt.field-0-0 c.in-Some-Hwpt.field-0-1 c.in-Some-Hwpt.field-0-2 named is)
    c.join.ensures
