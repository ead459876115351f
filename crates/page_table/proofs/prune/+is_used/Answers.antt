use Rattle.std.proofs.Common.{◌≡◌, ◌-◌, ◌*◌, ◌+◌, ◌||◌, Bool, false, sym, ◌∙◌, ap, arith}
use Rattle.std.proofs.lemmas.Bool.{false_from_ne_true}
use Rattle.std.proofs.lemmas.Bool.Decides.{nat_tests}
use Rattle.iofd_words.specs.Levels.{number_at}
use Rattle.page_table_words.specs.Pruned.{is_used}
use Rattle.page_table_words.proofs.RowsUnder.{child_page}
use Rattle.page_table_words.proofs.Visiting.{entry_small, holds_within, next_holds}
use Rattle.page_table.proofs.Wanted.{child_found, child_number, leaf_used, used_all, used_before, used_more, used_none}
use Rattle.page_table.proofs.Wanted.{used_present, used_some}
use Rattle.page_table.proofs.prune.+is_used.Goals as goal
use Rattle.page_table.proofs.prune.+is_used.Goals.{else-is_present-via-then-is_present+else-is_used, then-level-eq1}
use Rattle.page_table.proofs.prune.+is_used.Goals.{else-level-eq1, else-is_present-via-else-is_present}

pub loop-index-init : goal.loop-index-init
loop-index-init g t c =
    λ levels root rows pages page stands at. used_none pages c.args.level (number_at c.args.level page)

pub at-entry-requires-clause-frame : goal.at-entry-requires-clause-frame
at-entry-requires-clause-frame g t c = holds_within c.args.pool.now c.args.level c.args.table c.requires.table

pub frame-requires : goal.frame-requires
frame-requires g t c = entry_small c.args.pool.now c.args.level c.args.table c.requires.table (omega arith)
    c.loop-index.index (omega arith) c.at-entry.result.0 c.at-entry.ensures

pub is_used-requires : goal.is_used-requires
is_used-requires g t c κs within =
    let next = next_holds c.args.pool.now c.args.level c.args.table c.requires.table (omega arith) c.loop-index.index
    (omega arith) c.at-entry.result.0 c.at-entry.ensures c.frame.result
    (sym c.if-is_present.ensures) c.frame.ensures in
    (omega arith, (within, (omega arith, (omega arith, next))))

pub returns-then-is_used : goal.returns-then-is_used
returns-then-is_used g t c = λ levels root rows pages page stands at.
    let n = c.loop-index.index in
    let number = number_at c.args.level page in
    let some = used_some pages c.args.level number n c.requires.some (omega arith) in
    elim c.if-level-eq1.branch [
      | then-level-eq1 w ↦
          sym (some (leaf_used c.args.pool.now levels root rows pages stands c.args.level page n c.args.table
          c.requires.some (omega arith) at w.if-level-eq1.true
          (grind (arith, nat_tests, c.if-is_present.ensures, c.at-entry.ensures))))
      | else-level-eq1 w ↦
          let found = child_found c.args.pool.now levels root rows pages stands c.args.level page n c.args.table
          (omega arith) (omega arith) at c.at-entry.result.0 c.at-entry.ensures w.frame.result
          (sym c.if-is_present.ensures) w.frame.ensures in
          let below = w.is_used.ensures levels root rows pages (child_page c.args.level page n) stands found in
          sym (some (ap (is_used pages (c.args.level - 1)) (sym (child_number c.args.level page n)) ∙ sym below
          ∙ sym w.value-is ∙ c.if-is_used.true))
    ]

pub loop-index-preserved : goal.loop-index-preserved
loop-index-preserved g t c = λ levels root rows pages page stands at.
    let n = c.loop-index.index in
    let number = number_at c.args.level page in
    let more = used_more pages c.args.level number n c.requires.some (omega arith) in
    let before = c.loop-index.invariant levels root rows pages page stands at in
    let present = used_present c.args.pool.now levels root rows pages stands c.args.level page n c.args.table
    c.requires.some (omega arith) at in
    let step : is_used pages (c.args.level - 1) (number * 512 + n) ≡ false =
    elim c.else-is_present.branch [
      | else-is_present-via-then-is_present+else-is_used w ↦ elim w.if-level-eq1.branch [
        | then-level-eq1 w' ↦ absurd (omega arith)
        | else-level-eq1 w' ↦
            let found = child_found c.args.pool.now levels root rows pages stands c.args.level page n c.args.table
            (omega arith) (omega arith) at c.at-entry.result.0 c.at-entry.ensures w'.frame.result
            (sym w.if-is_present.ensures) w'.frame.ensures in
            let below = w'.is_used.ensures levels root rows pages (child_page c.args.level page n) stands found in
            ap (is_used pages (c.args.level - 1)) (sym (child_number c.args.level page n)) ∙ sym below ∙ sym w'.value-is
            ∙ w.if-is_used.false
      ]
      | else-is_present-via-else-is_present w ↦ false_from_ne_true _
          (λ used. present used (grind (arith, nat_tests, w.if-is_present.ensures, c.at-entry.ensures)))
    ] in
    more ∙ ap (λ (b : Bool). b || is_used pages (c.args.level - 1) (number * 512 + n)) before ∙ step

pub returns : goal.returns
returns g t c = λ levels root rows pages page stands at.
    let end : c.loop-index.index ≡ 512 = omega arith in
    sym (c.loop-index.invariant levels root rows pages page stands at)
    ∙ ap (used_before pages c.args.level (number_at c.args.level page)) end
    ∙ used_all pages c.args.level (number_at c.args.level page)
