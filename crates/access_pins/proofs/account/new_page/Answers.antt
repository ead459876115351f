use Rattle.std.proofs.Common.{◌∷◌, ◌∙◌, [], sym, arith, true, false}
use Rattle.std.proofs.lemmas.List.Sums.{count_by-le-length}
use Rattle.access_pages.specs.Runs.{runs_in}
use Rattle.access_pins.proofs.NewOnce.{is_in_none, one_beside}
use Rattle.user_memory.specs.Memory.{new_in_runs}
use Rattle.access_pins.proofs.account.new_page.Goals as goal
use Rattle.access_pins.proofs.account.new_page.Goals.{else-count-gt0-via-then-count-gt0+else-is_among}
use Rattle.access_pins.proofs.account.new_page.Goals.{else-count-gt0-via-else-count-gt0}

pub returns-then-is_among : goal.returns-then-is_among
returns-then-is_among g c =
    sym (one_beside c.args.memory.now (runs_in c.args.span c.args.others) c.args.run c.requires.one true
    (sym c.is_among.ensures ∙ c.if-is_among.true))

pub returns : goal.returns
returns g c = elim c.else-count-gt0.branch [
  | else-count-gt0-via-then-count-gt0+else-is_among w ↦ c.new_pages_in-count.ensures
      ∙ sym (one_beside c.args.memory.now (runs_in c.args.span c.args.others) c.args.run c.requires.one false
      (sym w.is_among.ensures ∙ w.if-is_among.false))
  | else-count-gt0-via-else-count-gt0 w ↦
      let most = count_by-le-length (is_in_none (runs_in c.args.span c.args.others))
      (new_in_runs c.args.memory.now (c.args.run ∷ [])) in
      let same = c.new_pages_in-count.ensures in
      let none = w.if-count-gt0.false in
      omega (arith, most, same, none)
]
