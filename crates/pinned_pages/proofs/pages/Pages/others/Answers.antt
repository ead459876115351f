use Rattle.std.proofs.Common.{◌≡◌, ◌∙◌, ◌-◌, ap, arith}
use Rattle.pinned_pages.specs.Pages.{MemoryPages, ObjectPages, count_of_others}
use Rattle.pinned_pages.proofs.PinnedPage.{others}
use Rattle.pinned_pages.proofs.pages.Pages.others.Goals as goal

pub overflow_sub-result : goal.overflow_sub-result
overflow_sub-result g c =
    let inside = c.self.inside in
    let pages : ObjectPages = record {
      user = inside.user;
      va = inside.va;
      count = inside.count;
      writable = inside.writable;
      table_pins = inside.table_pins;
      frames = inside.frames.items;
      access = inside.access.rows;
    } in
    let all = others pages c.len.result (c.len.ensures inside.count c.self.invariant.counted) in
    omega (arith, all)

pub returns-clause-value : goal.returns-clause-value
returns-clause-value g c =
    let inside = c.self.inside in
    let pages : ObjectPages = record {
      user = inside.user;
      va = inside.va;
      count = inside.count;
      writable = inside.writable;
      table_pins = inside.table_pins;
      frames = inside.frames.items;
      access = inside.access.rows;
    } in
    let all = others pages c.len.result (c.len.ensures inside.count c.self.invariant.counted) in
    let own : inside.count - c.len.result ≡ count_of_others pages = omega (arith, all) in
    own ∙ ap (λ (v : MemoryPages). count_of_others v.pages) c.self.view_is
