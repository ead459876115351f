use Rattle.std.proofs.Common.{◌∙◌, eqb, List, sym, ap}
use Rattle.std.specs.List.{position}
use Rattle.iofd_words.specs.Objects.{is_object}
use Rattle.page_table_set.specs.PageTables.{Hwpt}
use Rattle.page_table_set.proofs.PlaceOfFile.{no_place, place_of}
use Rattle.page_table_set.proofs.lookups.own_place.Goals as goal

pub returns-in_err-behind-clause-value : goal.returns-in_err-behind-clause-value
returns-in_err-behind-clause-value c =
    let same = ap (λ (list : List Hwpt). position (λ h. is_object c.args.file c.args.id h.object) list)
    c.of_file.ensures in
    c.from_residual.ensures
    ∙ sym (no_place c.args.file.0 (λ h. eqb h.object.id.0 c.args.id.0) c.args.tables.now
    (sym (c.in_err-behind.ensures.value ∙ same)))

pub returns-clause-value : goal.returns-clause-value
returns-clause-value c =
    let same = ap (λ (list : List Hwpt). position (λ h. is_object c.args.file c.args.id h.object) list)
    c.of_file.ensures in
    let place = place_of c.args.file.0 (λ h. eqb h.object.id.0 c.args.id.0) c.args.tables.now c.in_ok-behind.behind
    c.requires (sym (c.in_ok-behind.ensures.value ∙ same)) in
    rw c.count_below.ensures.value (sym place.0)

pub returns-clause-within : goal.returns-clause-within
returns-clause-within c =
    let same = ap (λ (list : List Hwpt). position (λ h. is_object c.args.file c.args.id h.object) list)
    c.of_file.ensures in
    let place = place_of c.args.file.0 (λ h. eqb h.object.id.0 c.args.id.0) c.args.tables.now c.in_ok-behind.behind
    c.requires (sym (c.in_ok-behind.ensures.value ∙ same)) in
    rw c.count_below.ensures.value place.1
