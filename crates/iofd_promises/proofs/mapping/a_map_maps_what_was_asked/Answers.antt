use Rattle.std.proofs.Common.{length, refl}
use Rattle.iofd_steps.specs.Run.{world_of}
use Rattle.iofd_words.specs.Tables.{with_tables}
use Rattle.iofd_words.specs.declared.event.Event.TheVariants as event
use Rattle.iofd_words.specs.declared.reply.Reply.TheVariants as reply
use Rattle.iofd_promises.specs.Mapped.{MapsAsked}
use Rattle.iofd_promises.proofs.Facts.{pinned_of}
use Rattle.iofd_promises.proofs.NewAreas.{maps_asked}
use Rattle.iofd_promises.proofs.Steps.{by_event, run_before}
use Rattle.iofd_promises.proofs.mapping.a_map_maps_what_was_asked.Goals as goal

pub returns : goal.returns
unfolding with_tables
returns g c = λ settings before r file request iova run of_event answered.
    let w = world_of settings before in
    by_event settings before r run (λ new. MapsAsked w new file request iova) (event.Map file request) (reply.Iova iova)
    refl of_event answered (λ none answers.
    let m = maps_asked _ (length before) w file request iova
    (pinned_of settings before (run_before settings before _ run)) none in
    let p = m.placed in
    record {
      area = m.area;
      placed = record {
        there = p.there;
        of_file = p.of_file;
        of_space = p.of_space;
        first = p.first;
        last = p.last;
        reads = p.reads;
        writes = p.writes;
        live = p.live;
        others = p.others;
        alone = p.alone;
      };
      object = m.object;
      there = m.there;
      number = m.number;
      fresh = m.fresh;
      va = m.va;
      pages = m.pages;
      writable = m.writable;
      n = m.n;
      file_is = m.file_is;
      user_is = m.user_is;
    })
