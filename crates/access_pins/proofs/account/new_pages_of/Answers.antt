use borrow.Author.Count.{falls}
use Rattle.std.proofs.Common.{ℕ, ◌≤◌, ◌≡◌, ◌+◌, ◌-◌, ◌∙◌, Bool, List, [], ◌∷◌, length, not, ap, refl, sym, arith}
use Rattle.std.specs.List.{count_by}
use Rattle.iofd_words.specs.Pins.{ObjectPage}
use Rattle.user_memory.specs.Memory.{is_in_runs, new_in_runs}
use Rattle.access_pages.specs.Runs.{runs_in}
use Rattle.access_pins.proofs.NewOnce.{few_beside, first_pages, new_beside, none_first, page_lies, page_next, page_run}
use Rattle.access_pins.proofs.NewOnce.{run_few}
use Rattle.iofd_words.specs.declared.rows.Area.{Area}
use Rattle.access_pins.proofs.account.new_pages_of.Goals as goal

pub overflow_add-index-end : goal.overflow_add-index-end
overflow_add-index-end g c =
    let few = run_few c.args.memory.now c.args.run c.requires.lies c.objects_told.ensures in
    omega (arith, few)

pub loop-index-init : goal.loop-index-init
loop-index-init g c =
    let run = c.args.run in
    let none : run.first - run.first ≡ 0 = omega arith in
    sym (ap (λ n. new_beside c.args.memory.now (runs_in c.args.span c.args.others) (first_pages run n)) none
    ∙ none_first c.args.memory.now (runs_in c.args.span c.args.others) run)

pub new_page-count-requires-clause-lies : goal.new_page-count-requires-clause-lies
new_page-count-requires-clause-lies g c =
    page_lies c.args.memory.now c.args.run c.loop-index.index c.requires.lies c.loop-index-test.true

pub overflow_add-count : goal.overflow_add-count
overflow_add-count g c =
    let m = c.args.memory.now in
    let run = c.args.run in
    let index = c.loop-index.index in
    let low = c.loop-index.auto.index in
    let high = c.loop-index-test.true in
    let next = page_next m (runs_in c.args.span c.args.others) run index c.loop-index.count c.new_page-count.result
    low c.loop-index.invariant
    (c.new_page-count.ensures
    ∙ ap (λ (l : List Area). new_beside m (runs_in c.args.span l) (page_run run.number index)) c.again.ensures) in
    let few = few_beside m (runs_in c.args.span c.args.others) run (index + 1 - run.first) (omega (arith, low, high)) in
    let most = c.new_pages_in.ensures in
    let wide = c.new_pages_in.type_inv in
    omega (arith, next, few, most, wide)

pub loop-index-preserved : goal.loop-index-preserved
loop-index-preserved g c =
    let m = c.args.memory.now in
    let index = c.loop-index.index in
    page_next m (runs_in c.args.span c.args.others) c.args.run index c.loop-index.count c.new_page-count.result
    c.loop-index.auto.index c.loop-index.invariant
    (c.new_page-count.ensures
    ∙ ap (λ (l : List Area). new_beside m (runs_in c.args.span l) (page_run c.args.run.number index)) c.again.ensures)

pub new_pages_in-requires : goal.new_pages_in-requires
new_pages_in-requires g c = c.requires.lies

nothing_new : (f : ObjectPage → Bool) (pages : List ObjectPage) → length pages ≡ 0 → 0 ≡ count_by f pages
nothing_new f [] none = refl
nothing_new f (page ∷ pages) none = absurd (omega (arith, none))

pub returns-then-new_pages_in-eq0 : goal.returns-then-new_pages_in-eq0
returns-then-new_pages_in-eq0 g c =
    nothing_new (λ (page : ObjectPage). not (is_in_runs (runs_in c.args.span c.args.others) page))
    (new_in_runs c.args.memory.now (c.args.run ∷ [])) (sym c.new_pages_in.ensures ∙ c.if-new_pages_in-eq0.true)

pub new_page-count-requires-clause-one : goal.new_page-count-requires-clause-one
new_page-count-requires-clause-one g c = refl

pub new_page-count-requires-clause-met : goal.new_page-count-requires-clause-met
new_page-count-requires-clause-met g c = rw c.again.ensures c.requires.met

pub loop-index-smaller : goal.loop-index-smaller
loop-index-smaller g c = falls (c.args.run.first + c.args.run.count) c.loop-index.index c.loop-index-test.true

all_passed : (first count index : ℕ) → first ≤ index → first + count ≤ index
    → (first ≤ first + count → index ≤ first + count) → index - first ≡ count
all_passed first count index low past high = omega (arith, high)

pub returns : goal.returns
returns g c =
    let run = c.args.run in
    let m = c.args.memory.now in
    c.loop-index.invariant
    ∙ ap (λ n. new_beside m (runs_in c.args.span c.args.others) (first_pages run n))
    (all_passed run.first run.count c.loop-index.index c.loop-index.auto.index c.loop-index-test.false
    c.loop-index.auto.index-end)
