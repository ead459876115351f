use Rattle.std.proofs.Common.{◌∙◌, ◌||◌, Bool, List, ap, sym}
use Rattle.std.specs.List.{list_all}
use Rattle.access_pages.specs.Runs.{runs_in}
use Rattle.access_pins.proofs.NewOnce.{shorter}
use Rattle.iofd_rows.proofs.Bools.{and_true}
use Rattle.iofd_words.specs.Pins.{ObjectPage}
use Rattle.iofd_words.specs.Span.{meets}
use Rattle.iofd_words.specs.declared.rows.Area.{Area}
use Rattle.memory_objects.specs.Runs.{covers}
use Rattle.memory_objects.specs.declared.run.PageRun.{PageRun}
use Rattle.user_memory.specs.Memory.{is_in_runs}
use Rattle.access_pins.proofs.account.is_among.Goals as goal

pub returns-then-has_page : goal.returns-then-has_page
returns-then-has_page g c =
    let page : ObjectPage = record { memory = c.args.number; index = c.args.index } in
    let rest = is_in_runs (runs_in c.args.span c.next.new.self) page in
    sym (c.loop-area.invariant.same
    ∙ ap (λ (l : List Area). is_in_runs (runs_in c.args.span l) page) c.in-Some.ensures.steps
    ∙ ap (λ (run : PageRun). covers run page.memory page.index || rest) (sym c.run_in.ensures)
    ∙ ap (λ (b : Bool). b || rest) (sym c.has_page.ensures ∙ c.if-has_page.true))

pub loop-area-preserved : goal.loop-area-preserved
loop-area-preserved g c =
    let page : ObjectPage = record { memory = c.args.number; index = c.args.index } in
    let span = c.args.span in
    let area = c.in-Some.area.now in
    let left : List Area = c.next.new.self in
    let rest = is_in_runs (runs_in span left) page in
    record {
      met = (and_true (meets area.span span) (list_all (λ (a : Area). meets a.span span) left)
          (ap (λ (l : List Area). list_all (λ (a : Area). meets a.span span) l) (sym c.in-Some.ensures.steps)
          ∙ c.loop-area.invariant.met)).1;
      same = c.loop-area.invariant.same
          ∙ ap (λ (l : List Area). is_in_runs (runs_in span l) page) c.in-Some.ensures.steps
          ∙ ap (λ (run : PageRun). covers run page.memory page.index || rest) (sym c.run_in.ensures)
          ∙ ap (λ (b : Bool). b || rest) (sym c.has_page.ensures ∙ c.if-has_page.false);
    }

pub returns : goal.returns
returns g c =
    let page : ObjectPage = record { memory = c.args.number; index = c.args.index } in
    sym (c.loop-area.invariant.same
    ∙ ap (λ (l : List Area). is_in_runs (runs_in c.args.span l) page) c.in-None.ensures.steps.0)

pub run_in-requires : goal.run_in-requires
run_in-requires g c =
    (and_true (meets c.in-Some.area.now.span c.args.span) (list_all (λ (a : Area). meets a.span c.args.span) c.next.new.self)
    (ap (λ (l : List Area). list_all (λ (a : Area). meets a.span c.args.span) l) (sym c.in-Some.ensures.steps)
    ∙ c.loop-area.invariant.met)).0

pub loop-area-smaller : goal.loop-area-smaller
loop-area-smaller g c =
    shorter c.loop-area.area-iterator c.next.new.self c.in-Some.area.now c.in-Some.ensures.steps
