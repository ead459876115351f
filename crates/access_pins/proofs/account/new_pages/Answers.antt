use Rattle.std.proofs.Common.{◌≡◌, ◌+◌, ◌∷◌, ◌∙◌, List, length, suc, ap, refl, sym, arith}
use Rattle.std.specs.List.{list_all}
use Rattle.access_pages.specs.Runs.{run_in, runs_in}
use Rattle.access_pins.proofs.NewOnce.{area_more, first_lies, new_beside, no_runs, shorter}
use Rattle.iofd_rows.proofs.Bools.{and_true}
use Rattle.iofd_words.specs.Span.{meets}
use Rattle.iofd_words.specs.declared.rows.Area.{Area}
use Rattle.user_memory.specs.Memory.{new_in_runs, run_lies}
use Rattle.access_pins.proofs.account.new_pages.Goals as goal

pub loop-area-preserved : goal.loop-area-preserved
loop-area-preserved g c =
    let m = c.args.memory.now in
    let span = c.args.span in
    let area = c.in-Some.area.now in
    let left : List Area = c.next.new.self in
    let before = c.loop-area.invariant in
    let counts : before.done + length (area ∷ left) ≡ length c.args.areas =
    ap (λ (l : List Area). before.done + length l) (sym c.in-Some.ensures.steps) ∙ before.counts in
    let longer : length (area ∷ left) ≡ suc (length left) = refl in
    let more = area_more m span c.loop-area.left left area c.in-Some.ensures.steps c.run_in.result c.run_in.ensures in
    let new = c.new_pages_of.ensures
    ∙ ap (λ (l : List Area). new_beside m (runs_in span l) c.run_in.result) c.again.ensures in
    let wide = c.new_pages_of.type_inv in
    let from = c.from-count.ensures in
    let few = before.few in
    let pages = before.pages in
    record {
      met = (and_true (meets area.span span) (list_all (λ (a : Area). meets a.span span) left)
          (ap (λ (l : List Area). list_all (λ (a : Area). meets a.span span) l) (sym c.in-Some.ensures.steps)
          ∙ before.met)).1;
      lies = (and_true (run_lies m (run_in span area)) (list_all (run_lies m) (runs_in span left))
          (ap (λ (l : List Area). list_all (run_lies m) (runs_in span l)) (sym c.in-Some.ensures.steps)
          ∙ before.lies)).1;
      done = before.done + 1;
      counts = omega (arith, counts, longer);
      few = omega (arith, few, wide, from);
      pages = omega (arith, pages, more, new, from);
    }

pub returns : goal.returns
returns g c =
    let m = c.args.memory.now in
    let pages = c.loop-area.invariant.pages in
    let none : length (new_in_runs m (runs_in c.args.span c.loop-area.left)) ≡ 0 =
    ap (λ (l : List Area). length (new_in_runs m (runs_in c.args.span l))) c.in_default.ensures.steps.0 ∙ no_runs m in
    omega (arith, pages, none)

pub run_in-requires : goal.run_in-requires
run_in-requires g c =
    (and_true (meets c.in-Some.area.now.span c.args.span) (list_all (λ (a : Area). meets a.span c.args.span) c.next.new.self)
    (ap (λ (l : List Area). list_all (λ (a : Area). meets a.span c.args.span) l) (sym c.in-Some.ensures.steps)
    ∙ c.loop-area.invariant.met)).0

pub new_pages_of-requires-clause-lies : goal.new_pages_of-requires-clause-lies
new_pages_of-requires-clause-lies g c = first_lies c.args.memory.now c.args.span c.loop-area.left c.next.new.self c.in-Some.area.now
    c.in-Some.ensures.steps c.loop-area.invariant.lies c.run_in.result c.run_in.ensures

pub loop-area-smaller : goal.loop-area-smaller
loop-area-smaller g c =
    shorter c.loop-area.left c.next.new.self c.in-Some.area.now c.in-Some.ensures.steps
