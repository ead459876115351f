use Rattle.std.proofs.Common.{◌≡◌, ℕ, ◌+◌, ◌-◌, ◌<◌, List, ◌∷◌, ◌++◌, [], sym, ap, ◌∙◌, arith}
use Rattle.std.proofs.lemmas.List.{append-nil, append_assoc}
use Rattle.iofd_words.specs.declared.numbers.FrameNo.{FrameNo}
use Rattle.frame_memory.specs.Pool.{free_count}
use Rattle.page_table_words.specs.Taken.{least_frames}
use Rattle.page_table_words.proofs.Extending.{all_extend, ends_below, none_left, more_lowest, more_stand}
use Rattle.page_table_words.proofs.Frames.{free_taken, least_frames_more, no_frames}
use Rattle.page_table.proofs.extension.+extend.Goals as goal

pub returns-then-level-eq1-clause-out : goal.returns-then-level-eq1-clause-out
returns-then-level-eq1-clause-out g t c =
    sym (ap (λ (frames : List FrameNo). c.args.out.now.items ++ frames)
    (no_frames c.args.pool.now.holds _ (omega arith)) ∙ append-nil c.args.out.now.items)

pub returns-then-level-eq1-clause-tables : goal.returns-then-level-eq1-clause-tables
returns-then-level-eq1-clause-tables g t c = λ levels root rows pages stands lowest.
    none_left c.args.pool.now levels root rows pages c.args.level c.args.page c.args.table
    c.if-level-eq1.true stands lowest

pub returns-clause-out : goal.returns-clause-out
returns-clause-out g t c =
    let added = c.add_table-next.ensures in
    let old = c.args.out.now.items in
    c.extend.ensures.out ∙ ap (λ (items : List FrameNo). items
    ++ least_frames c.add_table-next.new.pool.holds (c.args.level - 1 - 1)) c.push_reserved.ensures.items
    ∙ append_assoc old (c.add_table-next.result ∷ [])
    (least_frames c.add_table-next.new.pool.holds (c.args.level - 1 - 1))
    ∙ ap (λ (holds : List ℕ). old ++ c.add_table-next.result ∷ least_frames holds (c.args.level - 1 - 1)) added.holds
    ∙ ap (λ (frames : List FrameNo). old ++ frames)
    (sym (least_frames_more c.args.pool.now.holds (c.args.level - 1) c.add_table-next.result
    (omega arith) added.least))

pub returns-clause-free : goal.returns-clause-free
returns-clause-free g t c =
    let added = c.add_table-next.ensures in
    let fewer : free_count c.add_table-next.new.pool.holds + 1 ≡ free_count c.args.pool.now.holds =
    ap (λ (holds : List ℕ). free_count holds + 1) added.holds
    ∙ free_taken c.args.pool.now.holds c.add_table-next.result.0 added.least in
    omega (arith, fewer, c.extend.ensures.free)

pub returns-clause-tables : goal.returns-clause-tables
returns-clause-tables g t c = λ levels root rows pages stands lowest.
    let low : 1 < c.args.level = omega arith in
    let old = c.args.pool.now in
    let mid = c.add_table-next.new.pool in
    let next = c.add_table-next.result in
    let added = c.add_table-next.ensures in
    all_extend old mid levels root rows pages c.args.level c.args.page c.args.table next stands lowest low added
    c.extend.new.pool c.extend.result
    (c.extend.ensures.tables levels root _ pages
    (more_stand old mid levels root rows pages c.args.level c.args.page c.args.table next stands lowest low
    added) (more_lowest old mid levels root rows pages c.args.level c.args.page c.args.table next
    stands lowest low added))

pub extend-requires : goal.extend-requires
extend-requires g t c κs within =
    let added = c.add_table-next.ensures in
    let fewer : free_count c.add_table-next.new.pool.holds + 1 ≡ free_count c.args.pool.now.holds =
    ap (λ (holds : List ℕ). free_count holds + 1) added.holds
    ∙ free_taken c.args.pool.now.holds c.add_table-next.result.0 added.least in
    let ends = ends_below c.args.pool.now c.add_table-next.new.pool c.args.level c.args.page c.args.table
    c.add_table-next.result c.requires.table (omega arith) added in
    (omega arith, (within.0, (within.1, (omega arith, (omega arith, (ends, (omega (arith, fewer), omega arith)))))))
