-- Frames are shown once the tables of page tables that are gone have given theirs back.
use Rattle.std.proofs.Common.{◌≡◌, ℕ, ◌+◌, ◌<◌, Bool, true, false, not, ltb, List, [], get_or, length, refl, ap, sym}
use Rattle.std.proofs.Common.{◌∙◌, arith}
use Rattle.std.specs.Prelude.{slice_index}
use Rattle.std.specs.List.{filter}
use Rattle.std.proofs.lemmas.Bool.Decides.{nat_tests}
use Rattle.iofd_words.specs.Frames.{FrameWrite}
use Rattle.iofd_words.specs.declared.rows.TableFrame.{TableFrame}
use Rattle.frame_memory.specs.Pool.{FramePool}
use Rattle.user_memory_rows.specs.Shown.{FramesShown, tables_in}
use Rattle.server_state.proofs.GivenBack.{parts}
use Rattle.page_table_words.specs.Released.{Releases}
use Rattle.page_table_words.specs.Rows.{TableRow}
use Rattle.page_table_words.specs.Taken.{names}
use Rattle.user_memory.specs.Memory.{Memory, reached}

module _ (pool : ℕ) (writes : List FrameWrite) (frames : List TableFrame) (goes : TableFrame
    → Bool) (rows : List TableRow) (memory : Memory) (before after : FramePool)
    (shown : FramesShown pool writes frames memory before)
    (unreached : (f : ℕ) → 0 < tables_in frames f → reached memory f ≡ 0)
    (named : (f : ℕ) → names rows f ≡ ltb 0 (tables_in (filter goes frames) f))
    (releases : Releases rows before after) where
  abbrev left : List TableFrame
  left = filter (λ table. not (goes table)) frames

  holds_after : (f : ℕ) → slice_index after.holds f ≡ reached memory f + tables_in left f
  holds_after f = by_name (names rows f) refl
    where
      by_name : (b : Bool) → names rows f ≡ b → slice_index after.holds f ≡ reached memory f + tables_in left f
      by_name true is =
          let gone = releases.free f is in
          let some : ltb 0 (tables_in (filter goes frames) f) ≡ true = sym (named f) ∙ is in
          let more : 0 < tables_in (filter goes frames) f = search (some, arith, nat_tests) in
          let sum = parts goes frames f in
          let few = shown.once f in
          let none = unreached f (omega (arith, more, sum)) in
          omega (arith, gone, more, sum, few, none)
      by_name false is =
          let same = releases.others f is in
          let none : ltb 0 (tables_in (filter goes frames) f) ≡ false = sym (named f) ∙ is in
          let zero_there : tables_in (filter goes frames) f ≡ 0 = grind (arith, nat_tests) in
          let sum = parts goes frames f in
          let held = shown.holds f in
          omega (arith, same, zero_there, sum, held)

  pub given_shown : FramesShown pool writes left memory after
  given_shown = record {
    size = releases.count ∙ shown.size;
    count = ap (λ (all : List (List ℕ)). length all) releases.bytes ∙ shown.count;
    full = λ f within some. ap (λ (all : List (List ℕ)). length (get_or all f [])) releases.bytes
        ∙ shown.full f within some;
    holds = holds_after;
    once = λ f. let sum = parts goes frames f in let few = shown.once f in omega (arith, sum, few);
    written = λ f offset within below some. ap (λ (all : List (List ℕ)). get_or (get_or all f []) offset 0)
        releases.bytes ∙ shown.written f offset within below some;
  }
