use Rattle.std.proofs.Common.{length, refl}
use Rattle.iofd_steps.specs.Run.{world_of}
use Rattle.iofd_words.specs.Tables.{with_tables}
use Rattle.iofd_words.specs.declared.event.Event.TheVariants as event
use Rattle.iofd_words.specs.declared.reply.Reply.TheVariants as reply
use Rattle.iofd_promises.specs.Mapped.{MapsAgain}
use Rattle.iofd_promises.proofs.NewAreas.{maps_again}
use Rattle.iofd_promises.proofs.Steps.{by_event}
use Rattle.iofd_promises.proofs.mapping.a_copy_maps_the_same_memory.Goals as goal

pub returns : goal.returns
unfolding with_tables
returns g c = λ settings before r file request iova run of_event answered.
    let w = world_of settings before in
    by_event settings before r run (λ new. MapsAgain w new file request iova) (event.Copy file request)
    (reply.Iova iova) refl of_event answered (λ none answers.
    let m = maps_again _ (length before) w file request iova none in
    let p = m.placed in
    record {
      area = m.area;
      placed = record {
        there = p.there;
        of_file = p.of_file;
        of_space = p.of_space;
        first = p.first;
        last = p.last;
        reads = p.reads;
        writes = p.writes;
        live = p.live;
        others = p.others;
        alone = p.alone;
      };
      source = m.source;
      there = m.there;
      of_file = m.of_file;
      of_space = m.of_space;
      first = m.first;
      last = m.last;
      live = m.live;
      same_memory = m.same_memory;
      no_other = m.no_other;
    })
