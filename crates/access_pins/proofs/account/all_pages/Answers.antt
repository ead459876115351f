use Rattle.std.proofs.Common.{◌≡◌, ◌+◌, ◌∷◌, ◌∙◌, List, length, suc, ap, refl, sym, arith}
use Rattle.std.specs.List.{list_all}
use Rattle.access_pages.specs.Runs.{run_in, runs_in}
use Rattle.access_pins.proofs.NewOnce.{area_most, first_lies, no_runs, run_few, run_most, shorter}
use Rattle.iofd_rows.proofs.Bools.{and_true}
use Rattle.iofd_words.specs.Span.{meets}
use Rattle.iofd_words.specs.declared.rows.Area.{Area}
use Rattle.user_memory.specs.Memory.{new_in_runs, run_lies}
use Rattle.access_pins.proofs.account.all_pages.Goals as goal

pub loop-area-preserved : goal.loop-area-preserved
loop-area-preserved g c =
    let m = c.args.memory.now in
    let span = c.args.span in
    let area = c.in-Some.area.now in
    let left : List Area = c.next.new.self in
    let before = c.loop-area.invariant in
    let counts : before.done + length (area ∷ left) ≡ length c.args.areas =
    ap (λ (l : List Area). before.done + length l) (sym c.in-Some.ensures.steps) ∙ before.counts in
    let longer : length (area ∷ left) ≡ suc (length left) = refl in
    let more = area_most m span c.loop-area.area-iterator left area c.in-Some.ensures.steps c.run_in.result
    c.run_in.ensures in
    let lies = first_lies m span c.loop-area.area-iterator left area c.in-Some.ensures.steps before.lies c.run_in.result
    c.run_in.ensures in
    let own = run_most m c.run_in.result lies c.objects_told.ensures.memory.rising in
    let wide = run_few m c.run_in.result lies c.objects_told.ensures in
    let from = c.from-count.ensures in
    let few = before.few in
    let most = before.most in
    record {
      met = (and_true (meets area.span span) (list_all (λ (a : Area). meets a.span span) left)
          (ap (λ (l : List Area). list_all (λ (a : Area). meets a.span span) l) (sym c.in-Some.ensures.steps)
          ∙ before.met)).1;
      lies = (and_true (run_lies m (run_in span area)) (list_all (run_lies m) (runs_in span left))
          (ap (λ (l : List Area). list_all (run_lies m) (runs_in span l)) (sym c.in-Some.ensures.steps)
          ∙ before.lies)).1;
      done = before.done + 1;
      counts = omega (arith, counts, longer);
      few = omega (arith, few, wide, from);
      most = omega (arith, most, more, own, from);
    }

pub returns : goal.returns
returns g c =
    let m = c.args.memory.now in
    let most = c.loop-area.invariant.most in
    let none : length (new_in_runs m (runs_in c.args.span c.loop-area.area-iterator)) ≡ 0 =
    ap (λ (l : List Area). length (new_in_runs m (runs_in c.args.span l))) c.in-None.ensures.steps.0 ∙ no_runs m in
    omega (arith, most, none)

pub overflow_add-count : goal.overflow_add-count
overflow_add-count g c =
    let before = c.loop-area.invariant in
    let counts = before.counts in
    let many = c.requires.few in
    let few = before.few in
    let lies = first_lies c.args.memory.now c.args.span c.loop-area.area-iterator c.next.new.self c.in-Some.area.now
    c.in-Some.ensures.steps before.lies c.run_in.result c.run_in.ensures in
    let wide = run_few c.args.memory.now c.run_in.result lies c.objects_told.ensures in
    let from = c.from-count.ensures in
    omega (arith, counts, many, few, wide, from)

pub run_in-requires : goal.run_in-requires
run_in-requires g c =
    (and_true (meets c.in-Some.area.now.span c.args.span) (list_all (λ (a : Area). meets a.span c.args.span) c.next.new.self)
    (ap (λ (l : List Area). list_all (λ (a : Area). meets a.span c.args.span) l) (sym c.in-Some.ensures.steps)
    ∙ c.loop-area.invariant.met)).0

pub loop-area-smaller : goal.loop-area-smaller
loop-area-smaller g c =
    shorter c.loop-area.area-iterator c.next.new.self c.in-Some.area.now c.in-Some.ensures.steps
