use Rattle.std.proofs.Common.{refl, sym, ◌∙◌, arith}
use Rattle.page_table.proofs.CutBefore.{child_stays, cuts_absent, cuts_all, cuts_idle, cuts_last, cuts_none}
use Rattle.page_table.proofs.CutBefore.{cuts_wanted, holds_cut, idle_length, room_left, still_at, uncut}
use Rattle.page_table.proofs.Parting.{number_fits, wanted_counted}
use Rattle.page_table_words.proofs.RowsUnder.{child_index, child_page}
use Rattle.page_table_words.proofs.Visiting.{entry_small, holds_within, next_holds}
use Rattle.page_table.proofs.Wanted.{child_found, child_none, child_place, unwanted, wanted}
use Rattle.page_table.proofs.prune.+cut_idle.Goals as goal
use Rattle.page_table.proofs.prune.+cut_idle.Goals.{then-is_present+then-is_idle, then-is_present+else-is_idle}
use Rattle.page_table.proofs.prune.+cut_idle.Goals.{else-is_present}

pub returns-then-level-eq1-clause-cut : goal.returns-then-level-eq1-clause-cut
returns-then-level-eq1-clause-cut g t c = λ levels root rows pages page stands at number named.
    cuts_last c.args.pool.now levels root rows pages c.args.kept.now c.args.level page c.args.table c.args.out.now.items
    c.if-level-eq1.true stands

pub loop-index-init : goal.loop-index-init
loop-index-init g t c = record {
  holds = refl;
  len = omega arith;
  capacity = refl;
  cut = λ levels root rows pages page stands at number. cuts_none c.args.pool.now levels root rows pages c.args.kept.now
      c.args.level page c.args.table c.args.out.now.items stands;
}

pub at-entry-requires-clause-frame : goal.at-entry-requires-clause-frame
at-entry-requires-clause-frame g t c =
    let can = c.requires.table in
    let before = c.loop-index.invariant.cut can.levels can.root can.rows can.pages can.page can.stands can.at can.is in
    holds_within c.loop-index.pool c.args.level c.args.table
    (holds_cut c.args.pool.now c.loop-index.pool c.args.level c.args.number c.args.table c.args.kept.now _
    c.loop-index.index c.args.out.now.items c.loop-index.out.items can before)

pub frame-next-requires : goal.frame-next-requires
frame-next-requires g t c =
    let can = c.requires.table in
    let before = c.loop-index.invariant.cut can.levels can.root can.rows can.pages can.page can.stands can.at can.is in
    let now = holds_cut c.args.pool.now c.loop-index.pool c.args.level c.args.number c.args.table c.args.kept.now _
    c.loop-index.index c.args.out.now.items c.loop-index.out.items can before in
    entry_small c.loop-index.pool c.args.level c.args.table now (omega arith) c.loop-index.index (omega arith)
    c.at-entry.result.0 c.at-entry.ensures

pub is_idle-requires-clause-table : goal.is_idle-requires-clause-table
is_idle-requires-clause-table g t c =
    let can = c.requires.table in
    let before = c.loop-index.invariant.cut can.levels can.root can.rows can.pages can.page can.stands can.at can.is in
    let now = holds_cut c.args.pool.now c.loop-index.pool c.args.level c.args.number c.args.table c.args.kept.now _
    c.loop-index.index c.args.out.now.items c.loop-index.out.items can before in
    next_holds c.loop-index.pool c.args.level c.args.table now (omega arith) c.loop-index.index (omega arith)
    c.at-entry.result.0 c.at-entry.ensures c.frame-next.result (sym c.if-is_present.ensures) c.frame-next.ensures

pub collect-requires-clause-table : goal.collect-requires-clause-table
collect-requires-clause-table g t c =
    let can = c.requires.table in
    let before = c.loop-index.invariant.cut can.levels can.root can.rows can.pages can.page can.stands can.at can.is in
    let now = holds_cut c.args.pool.now c.loop-index.pool c.args.level c.args.number c.args.table c.args.kept.now _
    c.loop-index.index c.args.out.now.items c.loop-index.out.items can before in
    next_holds c.loop-index.pool c.args.level c.args.table now (omega arith) c.loop-index.index (omega arith)
    c.at-entry.result.0 c.at-entry.ensures c.frame-next.result (sym c.if-is_present.ensures) c.frame-next.ensures

pub put-requires-clause-frame : goal.put-requires-clause-frame
put-requires-clause-frame g t c =
    let can = c.requires.table in
    let before = c.loop-index.invariant.cut can.levels can.root can.rows can.pages can.page can.stands can.at can.is in
    holds_within c.loop-index.pool c.args.level c.args.table
    (holds_cut c.args.pool.now c.loop-index.pool c.args.level c.args.number c.args.table c.args.kept.now _
    c.loop-index.index c.args.out.now.items c.loop-index.out.items can before)

pub collect-requires-clause-room : goal.collect-requires-clause-room
collect-requires-clause-room g t c =
    let can = c.requires.table in
    let level = c.args.level in
    let n = c.loop-index.index in
    let kept = c.args.kept.now in
    let before = c.loop-index.invariant.cut can.levels can.root can.rows can.pages can.page can.stands can.at can.is in
    let rest = uncut can.levels can.pages kept level can.page n can.rows in
    let at = still_at can.levels can.pages kept level can.page n can.rows c.args.table can.at in
    let found = child_found c.loop-index.pool can.levels can.root rest can.pages before.stands level can.page n
    c.args.table (omega arith) (omega arith) at c.at-entry.result.0 c.at-entry.ensures c.frame-next.result
    (sym c.if-is_present.ensures) c.frame-next.ensures in
    let answer = c.is_idle.ensures can.levels can.root rest can.pages (child_page level can.page n) before.stands found
    (child_place level can.page n c.args.number can.is) in
    let idle =
    unwanted can.pages kept level can.page n c.args.number c.is_idle.result can.is answer c.if-is_idle.true in
    let long = idle_length c.args.pool.now can.levels can.root can.rows can.pages kept level can.page c.args.table
    c.args.out.now.items c.loop-index.pool n c.loop-index.out.items (omega arith) (omega arith) before can.at
    c.frame-next.result found idle in
    let room = room_left c.args.pool.now can.levels can.root can.rows can.pages kept level can.page c.args.table
    c.args.out.now.items c.loop-index.pool n c.loop-index.out.items (omega arith) (omega arith) before in
    omega (
      arith,
      long,
      room,
      can.enough,
      c.loop-index.invariant.capacity,
      c.loop-index.out.ok.0,
      c.args.out.now.ok.0,
      c.args.out.now.ok.1,
    )

pub cut_idle-requires : goal.cut_idle-requires
cut_idle-requires g t c κs within =
    let can = c.requires.table in
    let level = c.args.level in
    let n = c.loop-index.index in
    let kept = c.args.kept.now in
    let before = c.loop-index.invariant.cut can.levels can.root can.rows can.pages can.page can.stands can.at can.is in
    let rest = uncut can.levels can.pages kept level can.page n can.rows in
    let at = still_at can.levels can.pages kept level can.page n can.rows c.args.table can.at in
    let found = child_found c.loop-index.pool can.levels can.root rest can.pages before.stands level can.page n
    c.args.table (omega arith) (omega arith) at c.at-entry.result.0 c.at-entry.ensures c.frame-next.result
    (sym c.if-is_present.ensures) c.frame-next.ensures in
    let place = child_place level can.page n c.args.number can.is in
    let answer =
    c.is_idle.ensures can.levels can.root rest can.pages (child_page level can.page n) before.stands found place in
    let needed =
    wanted can.pages kept level can.page n c.args.number c.is_idle.result can.is answer c.if-is_idle.false in
    let room = room_left c.args.pool.now can.levels can.root can.rows can.pages kept level can.page c.args.table
    c.args.out.now.items c.loop-index.pool n c.loop-index.out.items (omega arith) (omega arith) before in
    let counted = wanted_counted c.loop-index.pool can.levels can.root rest can.pages before.stands kept level can.page
    n c.args.table (omega arith) at needed in
    let fits = number_fits level c.args.number n (omega arith) c.requires.few (omega arith) c.requires.within in (
      omega arith,
      (
        within.0,
        (
          within.1,
          (
            omega arith,
            (
              omega arith,
              (
                fits.0,
                record {
                  levels = can.levels;
                  root = can.root;
                  rows = rest;
                  pages = can.pages;
                  page = child_page level can.page n;
                  stands = before.stands;
                  at = found;
                  is = place;
                  enough = omega (
                    arith,
                    counted,
                    room,
                    can.enough,
                    c.loop-index.invariant.capacity,
                    c.loop-index.out.ok.0,
                    c.args.out.now.ok.0,
                    c.args.out.now.ok.1,
                  );
                },
              ),
            ),
          ),
        ),
      ),
    )

pub loop-index-preserved : goal.loop-index-preserved
loop-index-preserved g t c =
    let level = c.args.level in
    let n = c.loop-index.index in
    let kept = c.args.kept.now in
    let old = c.args.pool.now in
    let now = c.loop-index.pool in
    let listed = c.args.out.now.items in
    let listing = c.loop-index.out.items in
    elim c.if-is_present.branch [
      | then-is_present+then-is_idle w ↦
          rw (w.pool-is, w.out-is) (record {
            holds = (w.put.ensures level (child_page level c.requires.table.page n)
                (sym (child_index level c.requires.table.page n (omega arith) (omega arith)))).holds
                ∙ c.loop-index.invariant.holds;
            len = omega (arith, w.collect.ensures.len, c.loop-index.invariant.len);
            capacity = w.collect.ensures.capacity ∙ c.loop-index.invariant.capacity;
            cut = λ levels root rows pages page stands at number.
                let before = c.loop-index.invariant.cut levels root rows pages page stands at number in
                let rest = uncut levels pages kept level page n rows in
                let still = still_at levels pages kept level page n rows c.args.table at in
                let found = child_found now levels root rest pages before.stands level page n c.args.table (omega arith)
                (omega arith) still c.at-entry.result.0 c.at-entry.ensures w.frame-next.result
                (sym w.if-is_present.ensures) w.frame-next.ensures in
                let answer = w.is_idle.ensures levels root rest pages (child_page level page n) before.stands found
                (child_place level page n c.args.number number) in
                let idle =
                unwanted pages kept level page n c.args.number w.is_idle.result number answer w.if-is_idle.true in
                cuts_idle old levels root rows pages kept level page c.args.table listed now n listing (omega arith)
                (omega arith) before at w.frame-next.result found idle w.put.new.pool w.collect.new.out.items
                (w.put.ensures level (child_page level page n)
                (sym (child_index level page n (omega arith) (omega arith))))
                w.collect.ensures.out;
          })
      | then-is_present+else-is_idle w ↦
          rw (w.pool-is, w.out-is) (record {
            holds = w.cut_idle.ensures.holds ∙ c.loop-index.invariant.holds;
            len = omega (arith, w.cut_idle.ensures.len, c.loop-index.invariant.len);
            capacity = w.cut_idle.ensures.capacity ∙ c.loop-index.invariant.capacity;
            cut = λ levels root rows pages page stands at number.
                let before = c.loop-index.invariant.cut levels root rows pages page stands at number in
                let rest = uncut levels pages kept level page n rows in
                let still = still_at levels pages kept level page n rows c.args.table at in
                let found = child_found now levels root rest pages before.stands level page n c.args.table (omega arith)
                (omega arith) still c.at-entry.result.0 c.at-entry.ensures w.frame-next.result
                (sym w.if-is_present.ensures) w.frame-next.ensures in
                let place = child_place level page n c.args.number number in
                let answer =
                w.is_idle.ensures levels root rest pages (child_page level page n) before.stands found place in
                let needed =
                wanted pages kept level page n c.args.number w.is_idle.result number answer w.if-is_idle.false in
                let stays = child_stays old levels root rows pages kept level page c.args.table listed now n listing
                (omega arith) (omega arith) before at w.frame-next.result found needed in
                cuts_wanted old levels root rows pages kept level page c.args.table listed now n listing (omega arith)
                (omega arith) before at w.frame-next.result found needed w.cut_idle.new.pool
                w.cut_idle.new.out.items
                (w.cut_idle.ensures.cut levels root rest pages (child_page level page n)
                before.stands found place stays);
          })
      | else-is_present w ↦
          rw (w.pool-is, w.out-is) (record {
            holds = c.loop-index.invariant.holds;
            len = c.loop-index.invariant.len;
            capacity = c.loop-index.invariant.capacity;
            cut = λ levels root rows pages page stands at number.
                let before = c.loop-index.invariant.cut levels root rows pages page stands at number in
                let rest = uncut levels pages kept level page n rows in
                let still = still_at levels pages kept level page n rows c.args.table at in
                let none = child_none now levels root rest pages before.stands level page n c.args.table (omega arith)
                (omega arith) still c.at-entry.result.0 c.at-entry.ensures (sym w.if-is_present.ensures) in
                cuts_absent old levels root rows pages kept level page c.args.table listed now n listing (omega arith)
                (omega arith) before at none;
          })
    ]

pub returns-clause-cut : goal.returns-clause-cut
returns-clause-cut g t c = λ levels root rows pages page stands at number named.
    cuts_all c.args.pool.now levels root rows pages c.args.kept.now c.args.level page c.args.table c.args.out.now.items
    c.loop-index.pool c.loop-index.index c.loop-index.out.items (omega arith)
    (c.loop-index.invariant.cut levels root rows pages page stands at number) named
