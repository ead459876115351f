use Rattle.std.proofs.Common.{◌∙◌, ap, Option, Some}
use Rattle.std.specs.Prelude.{is_some}
use Rattle.std.specs.List.{slice_get}
use Rattle.iofd_words.specs.declared.numbers.FrameNo.{FrameNo}
use Rattle.pinned_pages.specs.Pages.{MemoryPages, ObjectPages, is_pinned, or_else}
use Rattle.pinned_pages.proofs.PinnedPage.{pinned_page}
use Rattle.pinned_pages.proofs.pages.Pages.frame.Goals as goal

pub returns-in-Some-clause-pinned : goal.returns-in-Some-clause-pinned
returns-in-Some-clause-pinned g c =
    let inside = c.self.inside in
    let pages : ObjectPages = record {
      user = inside.user;
      va = inside.va;
      count = inside.count;
      writable = inside.writable;
      table_pins = inside.table_pins;
      frames = inside.frames.items;
      access = inside.access.rows;
    } in
    let some : Option FrameNo = Some c.in-Some.frame in
    ap (λ o. is_some (or_else o (slice_get inside.frames.items c.args.index))) c.in-Some.ensures
    ∙ pinned_page pages c.self.invariant c.args.index
    ∙ ap (λ (v : MemoryPages). is_pinned v.pages c.args.index) c.self.view_is
