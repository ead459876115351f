use Rattle.std.proofs.Common.{◌≡◌, ◌+◌, None, sym, ap, subst, arith, ◌∙◌, refl, eqb, true}
use Rattle.pinned_pages.specs.Holds.{HasMoreHolds, times}
use Rattle.pinned_pages.specs.Pages.{MemoryPages, ObjectPages, held_frames, new_count, new_frames}
use Rattle.pinned_pages.specs.Pages.{pin_refusal, pinned, pinned_count}
use Rattle.pinned_pages.proofs.FirstPin.{first_counted, first_held, first_is, first_kept, granted}
use Rattle.pinned_pages.proofs.pages.Pages.pin_reserved.Goals as goal

pub invariant_of-self-2 : goal.invariant_of-self-2
invariant_of-self-2 g c =
    let inside = c.self.inside in
    let pages : ObjectPages = record {
      user = inside.user;
      va = inside.va;
      count = inside.count;
      writable = inside.writable;
      table_pins = inside.table_pins;
      frames = inside.frames.items;
      access = inside.access.rows;
    } in
    let rows = c.args.users.now.pages in
    let same : pages ≡ c.args.self.now.pages = ap (λ (p : MemoryPages). p.pages) c.self.view_is in
    let none : inside.table_pins ≡ 0 = omega (arith, c.if-self-gt0.false) in
    let P : ObjectPages → Type 0 = λ p. pin_refusal p rows c.args.accounts.now ≡ None in
    let there = (granted pages rows c.args.accounts.now (subst P (sym same) c.requires.granted) none).0 in
    first_kept pages rows c.hold_all.new.frames.items c.self.invariant none c.hold_all.ensures.frames there

pub returns-clause-pages : goal.returns-clause-pages
returns-clause-pages g c =
    let inside = c.self.inside in
    let pages : ObjectPages = record {
      user = inside.user;
      va = inside.va;
      count = inside.count;
      writable = inside.writable;
      table_pins = inside.table_pins;
      frames = inside.frames.items;
      access = inside.access.rows;
    } in
    let rows = c.args.users.now.pages in
    let same : pages ≡ c.args.self.now.pages = ap (λ (p : MemoryPages). p.pages) c.self.view_is in
    let none : inside.table_pins ≡ 0 = omega (arith, c.if-self-gt0.false) in
    let P : ObjectPages → Type 0 = λ p. pin_refusal p rows c.args.accounts.now ≡ None in
    let there = (granted pages rows c.args.accounts.now (subst P (sym same) c.requires.granted) none).0 in
    first_is pages rows c.hold_all.new.frames.items c.self.invariant none c.hold_all.ensures.frames there
    ∙ ap (λ p. pinned p rows) same

pub returns-clause-pool : goal.returns-clause-pool
returns-clause-pool g c =
    let inside = c.self.inside in
    let pages : ObjectPages = record {
      user = inside.user;
      va = inside.va;
      count = inside.count;
      writable = inside.writable;
      table_pins = inside.table_pins;
      frames = inside.frames.items;
      access = inside.access.rows;
    } in
    let rows = c.args.users.now.pages in
    let same : pages ≡ c.args.self.now.pages = ap (λ (p : MemoryPages). p.pages) c.self.view_is in
    let none : inside.table_pins ≡ 0 = omega (arith, c.if-self-gt0.false) in
    let first : eqb inside.table_pins 0 ≡ true = rw none refl in
    let H : ObjectPages → Type 0 = λ p. HasMoreHolds c.args.pool.now c.hold_all.new.pool (new_frames p rows) in
    subst H same (rw first c.hold_all.ensures.pool)

pub returns-clause-held : goal.returns-clause-held
returns-clause-held g c frame =
    let inside = c.self.inside in
    let pages : ObjectPages = record {
      user = inside.user;
      va = inside.va;
      count = inside.count;
      writable = inside.writable;
      table_pins = inside.table_pins;
      frames = inside.frames.items;
      access = inside.access.rows;
    } in
    let rows = c.args.users.now.pages in
    let same : pages ≡ c.args.self.now.pages = ap (λ (p : MemoryPages). p.pages) c.self.view_is in
    let none : inside.table_pins ≡ 0 = omega (arith, c.if-self-gt0.false) in
    let P : ObjectPages → Type 0 = λ p. pin_refusal p rows c.args.accounts.now ≡ None in
    let there = (granted pages rows c.args.accounts.now (subst P (sym same) c.requires.granted) none).0 in
    let Q : ObjectPages → Type 0 = λ p. times frame (held_frames (record pages {
      table_pins = 1;
      frames = c.hold_all.new.frames.items;
    })) ≡ times frame (held_frames p) + times frame (new_frames p rows) in
    subst Q same (first_held pages rows c.hold_all.new.frames.items c.self.invariant none c.hold_all.ensures.frames
    there
    frame)

pub returns-clause-count : goal.returns-clause-count
returns-clause-count g c =
    let inside = c.self.inside in
    let pages : ObjectPages = record {
      user = inside.user;
      va = inside.va;
      count = inside.count;
      writable = inside.writable;
      table_pins = inside.table_pins;
      frames = inside.frames.items;
      access = inside.access.rows;
    } in
    let rows = c.args.users.now.pages in
    let same : pages ≡ c.args.self.now.pages = ap (λ (p : MemoryPages). p.pages) c.self.view_is in
    let none : inside.table_pins ≡ 0 = omega (arith, c.if-self-gt0.false) in
    let P : ObjectPages → Type 0 = λ p. pin_refusal p rows c.args.accounts.now ≡ None in
    let there = (granted pages rows c.args.accounts.now (subst P (sym same) c.requires.granted) none).0 in
    let Q : ObjectPages → Type 0 = λ p. pinned_count (record pages {
      table_pins = 1;
      frames = c.hold_all.new.frames.items;
    }) ≡ pinned_count p + new_count p in
    subst Q same (first_counted pages rows c.hold_all.new.frames.items c.self.invariant none c.hold_all.ensures.frames
    there)
