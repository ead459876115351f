use Rattle.std.proofs.Common.{◌≡◌, ◌<◌, ℕ, [], eqb, length, subst}
use Rattle.std.specs.List.{find, slice_get}
use Rattle.std.specs.Option.{IfSome}
use Rattle.iofd_words.specs.declared.rows.MemoryObject.{MemoryObject}
use Rattle.user_memory.specs.Memory.{Memory, pinned_frame, rows_of, table_pins}
use Rattle.user_memory.proofs.PinnedFrames.{all_pages, each_page, no_pages}
use Rattle.user_memory.proofs.memory.UserMemory.frames.Goals as goal

pub returns-clause-count : goal.returns-clause-count
returns-clause-count g c =
    let n = c.args.number in
    let frames = c.frames.result.now in
    let P : Memory → Type 0 = λ m. 0 < table_pins m n
    → IfSome (find (λ (row : MemoryObject). eqb row.number n) (rows_of m)) (λ row. length frames ≡ row.count) in
    subst P c.self.view_is (all_pages frames c.self.inside.objects.objects n c.frames.ensures.count)

pub returns-clause-none : goal.returns-clause-none
returns-clause-none g c =
    let n = c.args.number in
    let frames = c.frames.result.now in
    let P : Memory → Type 0 = λ m. table_pins m n ≡ 0 → frames ≡ [] in
    subst P c.self.view_is (no_pages frames c.self.inside.objects.objects n
    c.frames.ensures.none c.frames.ensures.count)

pub returns-clause-each : goal.returns-clause-each
returns-clause-each g c =
    let n = c.args.number in
    let frames = c.frames.result.now in
    let P : Memory → Type 0 = λ m. 0 < table_pins m n → (i : ℕ) → slice_get frames i
    ≡ pinned_frame m (record { memory = n; index = i }) in
    subst P c.self.view_is (each_page frames c.self.inside.objects.objects n c.frames.ensures.each)
