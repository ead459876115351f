use Rattle.std.proofs.Common.{ℕ, [], ap, sym, ◌∙◌, inl, inr, ⊎_elim, ◌≢◌}
use Rattle.std.proofs.lemmas.List.{get_or-set_other}
use Rattle.frame_memory.specs.Pool.{FramePool, bytes_of}
use Rattle.page_table_words.specs.Entries.{entry_at}
use Rattle.iofd_words.specs.Levels.{index_at}
use Rattle.page_table.proofs.entry.Entry.put.Goals as goal

pub returns : goal.returns
unfolding entry_at
returns g c = λ level page is. record {
  holds = ap (λ (pool : FramePool). pool.holds) c.set_word.ensures.new;
  entry = ap (λ (i : ℕ). entry_at c.set_word.new.self c.args.frame.0 i) (sym is) ∙ c.set_word.ensures.word;
  others = λ f i apart. c.set_word.ensures.others f i
      (⊎_elim (λ (frame : f ≢ c.args.frame.0). inl frame)
      (λ (index : i ≢ index_at level page). inr (λ same. index (same ∙ is))) apart);
  bytes = λ f other. ap (λ (pool : FramePool). bytes_of pool f) c.set_word.ensures.new
      ∙ get_or-set_other c.args.pool.now.bytes c.args.frame.0 f _ [] other;
}
