use Rattle.std.proofs.Common.{◌≡◌, ◌-◌, length, take, drop, sym, ◌∙◌, arith}
use Rattle.std.proofs.lemmas.List.{take_all, length-drop}
use Rattle.iommufd_script.proofs.Parts.{first_line, last_line}
use Rattle.iommufd_script.proofs.split.split_line.Goals as goal

pub returns-then-end-text-clause-lines : goal.returns-then-end-text-clause-lines
returns-then-end-text-clause-lines c =
    last_line c.args.text.now c.requires (sym c.first_place-end.ensures.place ∙ c.if-end-text.true)

pub returns-clause-lines : goal.returns-clause-lines
returns-clause-lines c =
    let text = c.args.text.now in
    let end = c.first_place-end.result in
    let back = c.split_at.result.1.now in
    let place = c.first_place-end.ensures.place in
    let back-is : back ≡ drop end text = c.split_at.ensures.back in
    let cut : take (length back - 1) (drop 1 back) ≡ drop 1 back =
    take_all (length back - 1) (drop 1 back) (omega (arith, length-drop 1 back)) in
    rw (cut, back-is, c.split_at.ensures.front, place) (first_line text (omega arith))
