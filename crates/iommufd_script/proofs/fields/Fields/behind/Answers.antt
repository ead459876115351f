use Rattle.std.proofs.Common.{◌≡◌, ◌+◌, ◌-◌, length, take, drop, sym, ap, ◌∙◌, arith}
use Rattle.std.proofs.lemmas.List.{take_all, length-drop, drop-drop}
use Rattle.iommufd_script.specs.Fields.{field_end, fields}
use Rattle.iommufd_script.proofs.FirstField.{all_one, behind_first, ends_within}
use Rattle.iommufd_script.proofs.fields.Fields.behind.Goals as goal

pub returns-then-end-line : goal.returns-then-end-line
returns-then-end-line c = all_one c.args.line.now c.args.end c.requires c.if-end-line.true

pub overflow_add-result : goal.overflow_add-result
overflow_add-result c = let most = ends_within c.args.line.now in omega (arith, most)

pub slice_bounds-result-count : goal.slice_bounds-result-count
slice_bounds-result-count c = let most = ends_within c.args.line.now in omega (arith, most)

pub slice_bounds-result-start : goal.slice_bounds-result-start
slice_bounds-result-start c = let most = ends_within c.args.line.now in omega (arith, most)

pub returns : goal.returns
returns c = behind_first c.args.line.now c.args.end c.requires c.if-end-line.false
