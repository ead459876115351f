use Rattle.std.proofs.Common.{◌≡◌, [], Some, inl, ap, ◌∙◌, rules}
use Rattle.std.proofs.lemmas.List.{get_or-set_other}
use Rattle.frame_memory.specs.Pool.{FramePool, bytes_of, given, least_free, zeros}
use Rattle.page_table_words.specs.Entries.{entry_at}
use Rattle.page_table_words.proofs.AddingTable.{other_frame, take_ok, taken_least}
use Rattle.page_table.proofs.extension.add_table.Goals as goal

pub unwrap-frame-requires : goal.unwrap-frame-requires
unwrap-frame-requires g c = take_ok c.args.pool.now.holds c.take.result c.requires.free c.take.ensures.least

pub returns : goal.returns
unfolding entry_at
returns g c =
    let old = c.args.pool.now in
    let frame = c.unwrap-frame.result in
    let least : least_free old.holds ≡ Some frame.0 =
    taken_least old.holds c.take.result frame c.take.ensures.least c.take.ensures.refused c.unwrap-frame.ensures in
    let taken : c.take.new.self ≡ given old frame.0 = rw c.unwrap-frame.ensures at c.take.ensures.ok in
    record {
      least = least;
      small = search rules;
      holds = c.write.ensures.holds ∙ ap (λ (pool : FramePool). pool.holds) taken;
      entry = c.write.ensures.entry ∙ c.to.ensures;
      empty = λ i small. c.write.ensures.others frame.0 i
          (inl (other_frame old.holds frame.0 c.args.table.0 least c.requires.held))
          ∙ (rw c.unwrap-frame.ensures at c.take.ensures.zero) i small;
      others = λ f i held apart. c.write.ensures.others f i apart ∙ c.take.ensures.others f i held;
      bytes = λ f not_table not_frame. c.write.ensures.bytes f not_table
          ∙ ap (λ (pool : FramePool). bytes_of pool f) taken ∙ get_or-set_other old.bytes frame.0 f zeros [] not_frame;
    }
