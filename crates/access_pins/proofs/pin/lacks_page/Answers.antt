use Rattle.std.proofs.Common.{◌∙◌, ◌||◌, Bool, List, ap, sym}
use Rattle.std.specs.Prelude.{is_none}
use Rattle.std.specs.List.{list_all, list_any}
use Rattle.access_pages.specs.Runs.{run_in, runs_in}
use Rattle.access_pins.proofs.NewAccessed.{next_new, none_new}
use Rattle.access_pins.proofs.NewOnce.{first_lies, shorter}
use Rattle.iofd_rows.proofs.Bools.{and_true}
use Rattle.iofd_words.specs.Pins.{ObjectPage}
use Rattle.iofd_words.specs.Span.{meets}
use Rattle.iofd_words.specs.declared.rows.Area.{Area}
use Rattle.user_memory.specs.Memory.{frame_now, new_in_runs, run_lies}
use Rattle.access_pins.proofs.pin.lacks_page.Goals as goal

pub returns-then-lacks_page_in : goal.returns-then-lacks_page_in
returns-then-lacks_page_in g c =
    let m = c.args.memory.now in
    let q = λ (page : ObjectPage). is_none (frame_now m page) in
    let rest = list_any q (new_in_runs m (runs_in c.args.span c.next.new.self)) in
    sym (c.loop-area.invariant.same
    ∙ next_new q m c.args.span c.loop-area.area-iterator c.next.new.self c.in-Some.area.now c.in-Some.ensures.steps
    c.run_in.result c.run_in.ensures c.lacks_page_in.result c.lacks_page_in.ensures
    ∙ ap (λ (b : Bool). b || rest) c.if-lacks_page_in.true)

pub loop-area-preserved : goal.loop-area-preserved
loop-area-preserved g c =
    let m = c.args.memory.now in
    let span = c.args.span in
    let q = λ (page : ObjectPage). is_none (frame_now m page) in
    let area = c.in-Some.area.now in
    let left : List Area = c.next.new.self in
    let rest = list_any q (new_in_runs m (runs_in span left)) in
    record {
      met = (and_true (meets area.span span) (list_all (λ (a : Area). meets a.span span) left)
          (ap (λ (l : List Area). list_all (λ (a : Area). meets a.span span) l) (sym c.in-Some.ensures.steps)
          ∙ c.loop-area.invariant.met)).1;
      lies = (and_true (run_lies m (run_in span area)) (list_all (run_lies m) (runs_in span left))
          (ap (λ (l : List Area). list_all (run_lies m) (runs_in span l)) (sym c.in-Some.ensures.steps)
          ∙ c.loop-area.invariant.lies)).1;
      same = c.loop-area.invariant.same
          ∙ next_new q m span c.loop-area.area-iterator left area c.in-Some.ensures.steps
          c.run_in.result c.run_in.ensures c.lacks_page_in.result c.lacks_page_in.ensures
          ∙ ap (λ (b : Bool). b || rest) c.if-lacks_page_in.false;
    }

pub returns : goal.returns
returns g c =
    let m = c.args.memory.now in
    let q = λ (page : ObjectPage). is_none (frame_now m page) in
    sym (c.loop-area.invariant.same
    ∙ ap (λ (l : List Area). list_any q (new_in_runs m (runs_in c.args.span l))) c.in-None.ensures.steps.0
    ∙ none_new q m)

pub run_in-requires : goal.run_in-requires
run_in-requires g c =
    (and_true (meets c.in-Some.area.now.span c.args.span) (list_all (λ (a : Area). meets a.span c.args.span) c.next.new.self)
    (ap (λ (l : List Area). list_all (λ (a : Area). meets a.span c.args.span) l) (sym c.in-Some.ensures.steps)
    ∙ c.loop-area.invariant.met)).0

pub lacks_page_in-requires : goal.lacks_page_in-requires
lacks_page_in-requires g c = first_lies c.args.memory.now c.args.span c.loop-area.area-iterator c.next.new.self c.in-Some.area.now
    c.in-Some.ensures.steps c.loop-area.invariant.lies c.run_in.result c.run_in.ensures

pub loop-area-smaller : goal.loop-area-smaller
loop-area-smaller g c =
    shorter c.loop-area.area-iterator c.next.new.self c.in-Some.area.now c.in-Some.ensures.steps
