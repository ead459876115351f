use Rattle.std.proofs.Common.{◌≤◌, ◌-◌, ◌*◌, ℕ, List, get_or, drop, sym, ap, ◌∙◌, arith, subst}
use Rattle.std.proofs.lemmas.Nat.{pow_pos}
use Rattle.iofd_words.specs.declared.numbers.FrameNo.{FrameNo}
use Rattle.page_table_words.specs.Cut.{Cuts}
use Rattle.iofd_words.specs.Levels.{levels_of}
use Rattle.page_table_words.specs.Pruned.{gone}
use Rattle.page_table_words.specs.Released.{HasFewerHolds, times}
use Rattle.page_table_words.specs.Rows.{table_at}
use Rattle.page_table.proofs.Parting.{root_counted}
use Rattle.page_table.proofs.Pruning.{all_pruned, gone_same, may_give, root_stays, still_stands}
use Rattle.page_table_words.proofs.Releasing.{given_permutes, gives_back, rest_is}
use Rattle.page_table_words.proofs.Tops.{number-first}
use Rattle.page_table.proofs.table.Table.prune.Goals as goal

pub cut_idle-requires-clause-table : goal.cut_idle-requires-clause-table
cut_idle-requires-clause-table g c =
    let can = rw (← c.self.view_is) at c.requires in
    let levels = levels_of c.self.inside.width in
    let counted =
    root_counted c.args.pool.now levels c.self.inside.root can.rows can.pages can.stands c.args.kept.now in
    rw c.levels.ensures.value (record {
      levels = levels;
      root = c.self.inside.root;
      rows = can.rows;
      pages = can.pages;
      page = 0;
      stands = can.stands;
      at = can.stands.at_root;
      is = sym (number-first levels);
      enough = omega (arith, counted, can.enough);
    })

pub cut_idle-requires-clause-within : goal.cut_idle-requires-clause-within
cut_idle-requires-clause-within g c = pow_pos (9 * (5 - c.levels.result))

pub release_all-requires : goal.release_all-requires
release_all-requires g c = λ f.
    let can = rw (← c.self.view_is) at c.requires in
    let levels = levels_of c.self.inside.width in
    let root = c.self.inside.root in
    let kept = c.args.kept.now in
    let start = c.len-start.result in
    let given = drop start c.sort_from.new.frames.items in
    let same = c.levels.ensures.value in
    let cuts = subst (λ (k : ℕ). Cuts c.args.pool.now c.cut_idle.new.pool levels root can.rows can.pages kept k 0
    c.args.out.now.items c.cut_idle.new.out.items) same
    (c.cut_idle.ensures.cut levels root can.rows can.pages 0 can.stands (ap (λ (k : ℕ). table_at can.rows k 0) same
    ∙ can.stands.at_root) (sym (number-first c.levels.result)) (root_stays c.args.pool.now levels root
    can.rows can.pages kept can.stands)) in
    let permuted = given_permutes (gone levels can.pages kept can.rows) c.args.out.now.items c.cut_idle.new.out.items
    c.sort_from.new.frames.items cuts.frames start (omega (arith, c.len-start.ensures, c.args.out.now.ok.0)) cuts.is
    (gone_same c.args.pool.now c.cut_idle.new.pool levels root can.rows can.pages kept c.args.out.now.items
    c.cut_idle.new.out.items can.stands cuts c.cut_idle.ensures.holds) c.sort_from.ensures.same in
    subst (λ (frames : List FrameNo). times f frames ≤ get_or c.cut_idle.new.pool.holds f 0)
    (sym (rest_is c.deref.result.now c.sort_from.new.frames.items start c.deref.ensures.value))
    (may_give c.args.pool.now c.cut_idle.new.pool levels root can.rows can.pages kept c.args.out.now.items
    c.cut_idle.new.out.items can.stands cuts c.cut_idle.ensures.holds given permuted f)

pub returns-clause-out : goal.returns-clause-out
returns-clause-out g c =
    rw (← c.self.view_is)
    (λ rows pages stands.
    let levels = levels_of c.self.inside.width in
    let root = c.self.inside.root in
    let kept = c.args.kept.now in
    let start = c.len-start.result in
    let same = c.levels.ensures.value in
    let cuts = subst (λ (k : ℕ). Cuts c.args.pool.now c.cut_idle.new.pool levels root rows pages kept k 0
    c.args.out.now.items c.cut_idle.new.out.items) same
    (c.cut_idle.ensures.cut levels root rows pages 0 stands (ap (λ (k : ℕ). table_at rows k 0) same ∙ stands.at_root)
    (sym (number-first c.levels.result)) (root_stays c.args.pool.now levels root rows pages kept stands)) in
    gives_back (gone levels pages kept rows) c.args.out.now.items c.cut_idle.new.out.items c.sort_from.new.frames.items
    cuts.frames start (omega (arith, c.len-start.ensures, c.args.out.now.ok.0)) cuts.is
    (gone_same c.args.pool.now c.cut_idle.new.pool levels root rows pages kept c.args.out.now.items
    c.cut_idle.new.out.items stands cuts c.cut_idle.ensures.holds) c.sort_from.ensures.front
    c.sort_from.ensures.same c.sort_from.ensures.rising)

pub returns-clause-pool : goal.returns-clause-pool
returns-clause-pool g c =
    rw (← c.self.view_is)
    (λ rows pages stands.
    let levels = levels_of c.self.inside.width in
    let root = c.self.inside.root in
    let kept = c.args.kept.now in
    let start = c.len-start.result in
    let given = drop start c.sort_from.new.frames.items in
    let same = c.levels.ensures.value in
    let cuts = subst (λ (k : ℕ). Cuts c.args.pool.now c.cut_idle.new.pool levels root rows pages kept k 0
    c.args.out.now.items c.cut_idle.new.out.items) same
    (c.cut_idle.ensures.cut levels root rows pages 0 stands (ap (λ (k : ℕ). table_at rows k 0) same ∙ stands.at_root)
    (sym (number-first c.levels.result)) (root_stays c.args.pool.now levels root rows pages kept stands)) in
    let permuted = given_permutes (gone levels pages kept rows) c.args.out.now.items c.cut_idle.new.out.items
    c.sort_from.new.frames.items cuts.frames start (omega (arith, c.len-start.ensures, c.args.out.now.ok.0)) cuts.is
    (gone_same c.args.pool.now c.cut_idle.new.pool levels root rows pages kept c.args.out.now.items
    c.cut_idle.new.out.items stands cuts c.cut_idle.ensures.holds) c.sort_from.ensures.same in
    let fewer : HasFewerHolds c.cut_idle.new.pool c.release_all.new.pool given =
    subst (HasFewerHolds c.cut_idle.new.pool c.release_all.new.pool)
    (rest_is c.deref.result.now c.sort_from.new.frames.items start c.deref.ensures.value) c.release_all.ensures in
    all_pruned c.args.pool.now c.cut_idle.new.pool levels root rows pages kept c.args.out.now.items
    c.cut_idle.new.out.items stands cuts c.cut_idle.ensures.holds given permuted c.release_all.new.pool fewer)

pub returns-clause-table : goal.returns-clause-table
returns-clause-table g c =
    rw (← c.self.view_is)
    (λ rows pages stands.
    let levels = levels_of c.self.inside.width in
    let root = c.self.inside.root in
    let kept = c.args.kept.now in
    let start = c.len-start.result in
    let given = drop start c.sort_from.new.frames.items in
    let same = c.levels.ensures.value in
    let cuts = subst (λ (k : ℕ). Cuts c.args.pool.now c.cut_idle.new.pool levels root rows pages kept k 0
    c.args.out.now.items c.cut_idle.new.out.items) same
    (c.cut_idle.ensures.cut levels root rows pages 0 stands (ap (λ (k : ℕ). table_at rows k 0) same ∙ stands.at_root)
    (sym (number-first c.levels.result)) (root_stays c.args.pool.now levels root rows pages kept stands)) in
    let permuted = given_permutes (gone levels pages kept rows) c.args.out.now.items c.cut_idle.new.out.items
    c.sort_from.new.frames.items cuts.frames start (omega (arith, c.len-start.ensures, c.args.out.now.ok.0)) cuts.is
    (gone_same c.args.pool.now c.cut_idle.new.pool levels root rows pages kept c.args.out.now.items
    c.cut_idle.new.out.items stands cuts c.cut_idle.ensures.holds) c.sort_from.ensures.same in
    let fewer : HasFewerHolds c.cut_idle.new.pool c.release_all.new.pool given =
    subst (HasFewerHolds c.cut_idle.new.pool c.release_all.new.pool)
    (rest_is c.deref.result.now c.sort_from.new.frames.items start c.deref.ensures.value) c.release_all.ensures in
    still_stands c.args.pool.now c.cut_idle.new.pool levels root rows pages kept c.args.out.now.items
    c.cut_idle.new.out.items stands cuts c.cut_idle.ensures.holds given permuted c.release_all.new.pool fewer)
