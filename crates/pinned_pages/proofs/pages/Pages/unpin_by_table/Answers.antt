use Rattle.std.proofs.Common.{◌≡◌, ◌<◌, ◌≤◌, ◌+◌, ℕ, sym, ap, subst, arith, ◌∙◌, refl, eqb, true, List, [], length}
use Rattle.std.specs.List.{filter_map, range_with_len, slice_get}
use Rattle.iofd_words.specs.declared.numbers.FrameNo.{FrameNo}
use Rattle.mem_account.specs.Accounts.{held_by, refunded}
use Rattle.pinned_pages.specs.Holds.{AreHeld, times}
use Rattle.pinned_pages.specs.Pages.{MemoryPages, ObjectPages, access_frame, count_of_others, held_frames, last_count}
use Rattle.pinned_pages.specs.Pages.{last_frames}
use Rattle.pinned_pages.specs.Pages.{pinned_count, refunded_last, unless}
use Rattle.pinned_pages.proofs.FirstPin.{last_counted, last_held}
use Rattle.pinned_pages.proofs.pages.Pages.unpin_by_table.Goals as goal

pub refund-requires-clause-held : goal.refund-requires-clause-held
refund-requires-clause-held g c =
    let inside = c.self.inside in
    let pages : ObjectPages = record {
      user = inside.user;
      va = inside.va;
      count = inside.count;
      writable = inside.writable;
      table_pins = inside.table_pins;
      frames = inside.frames.items;
      access = inside.access.rows;
    } in
    let same : pages ≡ c.args.self.now.pages = ap (λ (p : MemoryPages). p.pages) c.self.view_is in
    let some : 0 < inside.table_pins = subst (λ (p : ObjectPages). 0 < p.table_pins) (sym same) c.requires.some in
    let one : inside.table_pins ≡ 1 = omega (arith, some, c.if-self-gt1.false) in
    let last : eqb inside.table_pins 1 ≡ true = rw one refl in
    let H : ObjectPages → Type 0 = λ p. p.table_pins ≡ 1 → pinned_count p ≤ held_by c.args.accounts.now p.user.0 in
    let held : pinned_count pages ≤ held_by c.args.accounts.now inside.user.0 =
    subst H (sym same) c.requires.held one in
    let counts = last_counted pages c.self.invariant some in
    let own = c.others-others.ensures.value ∙ ap count_of_others (sym same) in
    omega (arith, own, held, counts)

pub release_others-requires : goal.release_others-requires
release_others-requires g c =
    let inside = c.self.inside in
    let pages : ObjectPages = record {
      user = inside.user;
      va = inside.va;
      count = inside.count;
      writable = inside.writable;
      table_pins = inside.table_pins;
      frames = inside.frames.items;
      access = inside.access.rows;
    } in
    let same : pages ≡ c.args.self.now.pages = ap (λ (p : MemoryPages). p.pages) c.self.view_is in
    let some : 0 < inside.table_pins = subst (λ (p : ObjectPages). 0 < p.table_pins) (sym same) c.requires.some in
    let one : inside.table_pins ≡ 1 = omega (arith, some, c.if-self-gt1.false) in
    let H : ObjectPages → Type 0 = λ p. p.table_pins ≡ 1 → AreHeld (held_frames p) c.args.pool.now.holds in
    let held = subst H (sym same) c.requires.holds one in
    let holds = c.args.pool.now.holds in
    let few : AreHeld (filter_map (λ i. unless (access_frame pages i) (slice_get inside.frames.items i))
    (range_with_len 0 inside.count)) holds = λ frame.
    let counts = last_held pages c.self.invariant some frame in let all = held frame in omega (arith, counts, all) in
    let N : ℕ → Type 0 = λ n. AreHeld (filter_map (λ i. unless (access_frame pages i) (slice_get inside.frames.items i))
    (range_with_len 0 n)) holds in
    let P : List FrameNo → Type 0 = λ fs. AreHeld (filter_map (λ i. unless (access_frame pages i) (slice_get fs i))
    (range_with_len 0 (length fs))) holds in
    subst P (sym c.deref.ensures.value) (subst N (sym (c.self.invariant.pinned some)) few)

pub returns-clause-accounts : goal.returns-clause-accounts
returns-clause-accounts g c =
    let inside = c.self.inside in
    let pages : ObjectPages = record {
      user = inside.user;
      va = inside.va;
      count = inside.count;
      writable = inside.writable;
      table_pins = inside.table_pins;
      frames = inside.frames.items;
      access = inside.access.rows;
    } in
    let same : pages ≡ c.args.self.now.pages = ap (λ (p : MemoryPages). p.pages) c.self.view_is in
    let some : 0 < inside.table_pins = subst (λ (p : ObjectPages). 0 < p.table_pins) (sym same) c.requires.some in
    let one : inside.table_pins ≡ 1 = omega (arith, some, c.if-self-gt1.false) in
    let last : eqb inside.table_pins 1 ≡ true = rw one refl in
    let own = c.others-others.ensures.value ∙ ap count_of_others (sym same) in
    let A : ObjectPages → Type 0 = λ p. c.refund.new.self ≡ refunded_last p c.args.accounts.now in
    subst A same (rw last (c.refund.ensures ∙ ap (refunded c.args.accounts.now inside.user.0) own))

pub returns-clause-held : goal.returns-clause-held
returns-clause-held g c frame =
    let inside = c.self.inside in
    let pages : ObjectPages = record {
      user = inside.user;
      va = inside.va;
      count = inside.count;
      writable = inside.writable;
      table_pins = inside.table_pins;
      frames = inside.frames.items;
      access = inside.access.rows;
    } in
    let same : pages ≡ c.args.self.now.pages = ap (λ (p : MemoryPages). p.pages) c.self.view_is in
    let some : 0 < inside.table_pins = subst (λ (p : ObjectPages). 0 < p.table_pins) (sym same) c.requires.some in
    let one : inside.table_pins ≡ 1 = omega (arith, some, c.if-self-gt1.false) in
    let last : eqb inside.table_pins 1 ≡ true = rw one refl in
    let Q : ObjectPages → Type 0 = λ p. times frame (held_frames p)
    ≡ times frame (held_frames (record pages { table_pins = 0; frames = c.clear.new.self.items }))
    + times frame (last_frames p) in
    let none : c.clear.new.self.items ≡ [] = c.clear.ensures.items in
    subst Q same (rw (last, none) (last_held pages c.self.invariant some frame))

pub returns-clause-count : goal.returns-clause-count
returns-clause-count g c =
    let inside = c.self.inside in
    let pages : ObjectPages = record {
      user = inside.user;
      va = inside.va;
      count = inside.count;
      writable = inside.writable;
      table_pins = inside.table_pins;
      frames = inside.frames.items;
      access = inside.access.rows;
    } in
    let same : pages ≡ c.args.self.now.pages = ap (λ (p : MemoryPages). p.pages) c.self.view_is in
    let some : 0 < inside.table_pins = subst (λ (p : ObjectPages). 0 < p.table_pins) (sym same) c.requires.some in
    let one : inside.table_pins ≡ 1 = omega (arith, some, c.if-self-gt1.false) in
    let last : eqb inside.table_pins 1 ≡ true = rw one refl in
    let Q : ObjectPages → Type 0 = λ p. pinned_count p
    ≡ pinned_count (record pages { table_pins = 0; frames = c.clear.new.self.items }) + last_count p in
    let none : c.clear.new.self.items ≡ [] = c.clear.ensures.items in
    subst Q same (rw (last, none) (last_counted pages c.self.invariant some))
