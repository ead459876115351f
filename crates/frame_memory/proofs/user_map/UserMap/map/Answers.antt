use Rattle.std.proofs.Common.{◌≡◌, ◌+◌, ◌<◌, ◌≤◌, ◌∙◌, ℕ, true, false, List, Result, Ok, Err, is_some}
use Rattle.std.proofs.Common.{ap, arith, refl, subst, sym}
use Rattle.std.specs.Prelude.{is_err}
use Rattle.std.specs.Result.{OnErr, OnOk}
use Rattle.iofd_words.specs.Pages.{page_of}
use Rattle.iofd_words.specs.declared.numbers.FrameNo.{FrameNo}
use Rattle.iofd_words.specs.declared.refusal.Cause.TheVariants as cause
use Rattle.iofd_words.specs.declared.rows.UserPage.{UserPage}
use Rattle.frame_memory.specs.Pool.{least_free}
use Rattle.frame_memory.specs.UserPages.{HasOneMore, UserPages, are_rising, user_page, with_page}
use Rattle.frame_memory.proofs.Refusals.{full_refused, never_fails, none_refuses, none_there, not_memory, not_taken}
use Rattle.frame_memory.proofs.Refusals.{overlap_refused, refusal_told, taken}
use Rattle.frame_memory.proofs.user_map.UserMap.map.Goals as goal

-- ---- what is said of a result that is known to be bad or good

at_error : {X Y : Type 0} (result : Result X Y) (P : Type 0) → is_err result ≡ true → OnErr result P → P
at_error (Ok x) P bad told = cc
at_error (Err e) P bad told = told

at_answer : {X Y : Type 0} (result : Result X Y) (P : Type 0) → is_err result ≡ false → OnOk result P → P
at_answer (Ok x) P good told = told
at_answer (Err e) P good told = cc

more_room : (seen before after : ℕ) → before ≡ seen → before ≤ after → seen ≤ after + 1
more_room seen before after same more = omega (arith, same, more)

one_less : (seen before between after : ℕ) → before ≡ seen → before ≤ between → between ≤ after + 1 → seen ≤ after + 1
one_less seen before between after same more last = omega (arith, same, more, last)

-- ---- the pages are as before until the page is added

pub invariant_of-self : goal.invariant_of-self
invariant_of-self g c =
    subst (λ (pages : List UserPage). are_rising pages ≡ true) (sym c.reserve.ensures.pages) c.self.invariant

pub invariant_of-self-in_err-frame : goal.invariant_of-self-in_err-frame
invariant_of-self-in_err-frame g c =
    subst (λ (pages : List UserPage). are_rising pages ≡ true) (sym c.reserve.ensures.pages) c.self.invariant

pub invariant_of-self-2 : goal.invariant_of-self-2
invariant_of-self-2 g c = c.add.ensures.rising

pub returns-then-is_err-clause-memory : goal.returns-then-is_err-clause-memory
returns-then-is_err-clause-memory g c = λ told.
    sym (ap (λ (seen : UserPages). seen.room) c.self.view_is)
    ∙ at_error c.reserve.result (c.self.inside.pages.room ≡ 0) (sym c.is_err.ensures.value ∙ c.if-is_err.true)
    c.reserve.ensures.full

pub returns-then-is_err-clause-err : goal.returns-then-is_err-clause-err
returns-then-is_err-clause-err g c =
    at_error c.reserve.result (c.reserve.new.self ≡ c.self.inside.pages)
    (sym c.is_err.ensures.value ∙ c.if-is_err.true) c.reserve.ensures.err
    ∙ c.self.view_is

pub returns-then-is_err-clause-room : goal.returns-then-is_err-clause-room
returns-then-is_err-clause-room g c =
    more_room c.args.self.now.room c.self.inside.pages.room c.reserve.new.self.room
    (ap (λ (seen : UserPages). seen.room) c.self.view_is) c.reserve.ensures.room

pub add-requires-clause-room : goal.add-requires-clause-room
add-requires-clause-room g c =
    at_answer c.reserve.result (0 < c.reserve.new.self.room) (sym c.is_err.ensures.value ∙ c.if-is_err.false)
    c.reserve.ensures.ok

pub returns-clause-pages : goal.returns-clause-pages
returns-clause-pages g c =
    c.add.ensures.pages
    ∙ ap (λ (pages : List UserPage). with_page pages c.args.user (page_of c.args.va) c.in_ok-frame.frame)
    (c.reserve.ensures.pages ∙ ap (λ (seen : UserPages). seen.pages) c.self.view_is)

pub returns-clause-more : goal.returns-clause-more
returns-clause-more g c =
    subst (λ (pages : List UserPage). HasOneMore pages c.add.new.self.pages (user_page c.args.user (page_of c.args.va)
    c.in_ok-frame.frame)) (c.reserve.ensures.pages ∙ ap (λ (seen : UserPages). seen.pages) c.self.view_is)
    c.add.ensures.more

pub returns-clause-room : goal.returns-clause-room
returns-clause-room g c =
    one_less c.args.self.now.room c.self.inside.pages.room c.reserve.new.self.room c.add.new.self.room
    (ap (λ (seen : UserPages). seen.room) c.self.view_is) c.reserve.ensures.room c.add.ensures.room

pub returns-then-is_err-clause-pool_err : goal.returns-then-is_err-clause-pool_err
returns-then-is_err-clause-pool_err g c = refl

pub returns-then-not-has_free-clause-refused : goal.returns-then-not-has_free-clause-refused
returns-then-not-has_free-clause-refused g c =
    let absent = ap is_some (sym c.frame_at.ensures) ∙ sym c.if-is_some.ensures in
    let refusal = full_refused c.args.self.now.pages c.args.pool.now.holds c.args.user (page_of c.args.va) absent
    (sym c.if-not-has_free.ensures) in
    refusal_told FrameNo _ cause.Frames c.refused-then-not-has_free.result refusal c.refused-then-not-has_free.ensures

pub returns-then-is_some-clause-err : goal.returns-then-is_some-clause-err
returns-then-is_some-clause-err g c = refl

pub refused-requires : goal.refused-requires
refused-requires g c = tt

pub returns-then-is_some-clause-refused : goal.returns-then-is_some-clause-refused
returns-then-is_some-clause-refused g c =
    let there = ap is_some (sym c.frame_at.ensures) ∙ sym c.if-is_some.ensures in
    let refusal = overlap_refused c.args.self.now.pages c.args.pool.now.holds c.args.user (page_of c.args.va) there in
    refusal_told FrameNo _ cause.Overlap c.refused.result refusal c.refused.ensures

pub returns-then-is_some-clause-taken : goal.returns-then-is_some-clause-taken
returns-then-is_some-clause-taken g c =
    let there = ap is_some (sym c.frame_at.ensures) ∙ sym c.if-is_some.ensures in
    let refusal = overlap_refused c.args.self.now.pages c.args.pool.now.holds c.args.user (page_of c.args.va) there in
    not_taken _ _ cause.Overlap refusal

pub returns-then-is_some-clause-memory : goal.returns-then-is_some-clause-memory
returns-then-is_some-clause-memory g c memory =
    absurd (not_memory FrameNo c.refused.result cause.Overlap c.refused.ensures memory)

pub returns-then-is_some-clause-least : goal.returns-then-is_some-clause-least
returns-then-is_some-clause-least g c = tt

pub returns-then-is_some-clause-pages : goal.returns-then-is_some-clause-pages
returns-then-is_some-clause-pages g c = tt

pub returns-then-is_some-clause-more : goal.returns-then-is_some-clause-more
returns-then-is_some-clause-more g c = tt

pub returns-then-is_some-clause-pool : goal.returns-then-is_some-clause-pool
returns-then-is_some-clause-pool g c = tt

pub returns-then-is_some-clause-room : goal.returns-then-is_some-clause-room
returns-then-is_some-clause-room g c = omega arith

pub returns-then-is_some-clause-pool_err : goal.returns-then-is_some-clause-pool_err
returns-then-is_some-clause-pool_err g c = refl

pub refused-requires-then-not-has_free : goal.refused-requires-then-not-has_free
refused-requires-then-not-has_free g c = tt

pub returns-then-not-has_free-clause-taken : goal.returns-then-not-has_free-clause-taken
returns-then-not-has_free-clause-taken g c =
    let absent = ap is_some (sym c.frame_at.ensures) ∙ sym c.if-is_some.ensures in
    let refusal = full_refused c.args.self.now.pages c.args.pool.now.holds c.args.user (page_of c.args.va) absent
    (sym c.if-not-has_free.ensures) in
    not_taken _ _ cause.Frames refusal

pub returns-then-not-has_free-clause-memory : goal.returns-then-not-has_free-clause-memory
returns-then-not-has_free-clause-memory g c memory =
    absurd (not_memory FrameNo c.refused-then-not-has_free.result cause.Frames c.refused-then-not-has_free.ensures
    memory)

pub returns-then-not-has_free-clause-least : goal.returns-then-not-has_free-clause-least
returns-then-not-has_free-clause-least g c = tt

pub returns-then-not-has_free-clause-pages : goal.returns-then-not-has_free-clause-pages
returns-then-not-has_free-clause-pages g c = tt

pub returns-then-not-has_free-clause-more : goal.returns-then-not-has_free-clause-more
returns-then-not-has_free-clause-more g c = tt

pub returns-then-not-has_free-clause-pool : goal.returns-then-not-has_free-clause-pool
returns-then-not-has_free-clause-pool g c = tt

pub returns-then-not-has_free-clause-room : goal.returns-then-not-has_free-clause-room
returns-then-not-has_free-clause-room g c = omega arith

pub returns-then-not-has_free-clause-err : goal.returns-then-not-has_free-clause-err
returns-then-not-has_free-clause-err g c = refl

pub returns-then-not-has_free-clause-pool_err : goal.returns-then-not-has_free-clause-pool_err
returns-then-not-has_free-clause-pool_err g c = refl

pub returns-then-is_err-clause-refused : goal.returns-then-is_err-clause-refused
returns-then-is_err-clause-refused g c =
    let absent = ap is_some (sym c.frame_at.ensures) ∙ sym c.if-is_some.ensures in
    let refusal = none_refuses c.args.self.now.pages c.args.pool.now.holds c.args.user (page_of c.args.va) absent
    (sym c.if-not-has_free.ensures) in
    none_there _ _ refusal

pub returns-then-is_err-clause-taken : goal.returns-then-is_err-clause-taken
returns-then-is_err-clause-taken g c = taken _ _ refl

pub returns-then-is_err-clause-least : goal.returns-then-is_err-clause-least
returns-then-is_err-clause-least g c = tt

pub returns-then-is_err-clause-pages : goal.returns-then-is_err-clause-pages
returns-then-is_err-clause-pages g c = tt

pub returns-then-is_err-clause-more : goal.returns-then-is_err-clause-more
returns-then-is_err-clause-more g c = tt

pub returns-then-is_err-clause-pool : goal.returns-then-is_err-clause-pool
returns-then-is_err-clause-pool g c = tt

pub returns-in_err-frame-clause-refused : goal.returns-in_err-frame-clause-refused
returns-in_err-frame-clause-refused g c =
    absurd (never_fails (λ n. record { 0 = n }) (least_free c.args.pool.now.holds) c.take.result _
    (sym c.if-not-has_free.ensures) c.take.ensures.least c.in_err-frame.was)

pub returns-in_err-frame-clause-taken : goal.returns-in_err-frame-clause-taken
returns-in_err-frame-clause-taken g c =
    absurd (never_fails (λ n. record { 0 = n }) (least_free c.args.pool.now.holds) c.take.result _
    (sym c.if-not-has_free.ensures) c.take.ensures.least c.in_err-frame.was)

pub returns-in_err-frame-clause-memory : goal.returns-in_err-frame-clause-memory
returns-in_err-frame-clause-memory g c =
    absurd (never_fails (λ n. record { 0 = n }) (least_free c.args.pool.now.holds) c.take.result _
    (sym c.if-not-has_free.ensures) c.take.ensures.least c.in_err-frame.was)

pub returns-in_err-frame-clause-least : goal.returns-in_err-frame-clause-least
returns-in_err-frame-clause-least g c =
    absurd (never_fails (λ n. record { 0 = n }) (least_free c.args.pool.now.holds) c.take.result _
    (sym c.if-not-has_free.ensures) c.take.ensures.least c.in_err-frame.was)

pub returns-in_err-frame-clause-pages : goal.returns-in_err-frame-clause-pages
returns-in_err-frame-clause-pages g c =
    absurd (never_fails (λ n. record { 0 = n }) (least_free c.args.pool.now.holds) c.take.result _
    (sym c.if-not-has_free.ensures) c.take.ensures.least c.in_err-frame.was)

pub returns-in_err-frame-clause-more : goal.returns-in_err-frame-clause-more
returns-in_err-frame-clause-more g c =
    absurd (never_fails (λ n. record { 0 = n }) (least_free c.args.pool.now.holds) c.take.result _
    (sym c.if-not-has_free.ensures) c.take.ensures.least c.in_err-frame.was)

pub returns-in_err-frame-clause-pool : goal.returns-in_err-frame-clause-pool
returns-in_err-frame-clause-pool g c =
    absurd (never_fails (λ n. record { 0 = n }) (least_free c.args.pool.now.holds) c.take.result _
    (sym c.if-not-has_free.ensures) c.take.ensures.least c.in_err-frame.was)

pub returns-in_err-frame-clause-room : goal.returns-in_err-frame-clause-room
returns-in_err-frame-clause-room g c =
    absurd (never_fails (λ n. record { 0 = n }) (least_free c.args.pool.now.holds) c.take.result _
    (sym c.if-not-has_free.ensures) c.take.ensures.least c.in_err-frame.was)

pub returns-in_err-frame-clause-err : goal.returns-in_err-frame-clause-err
returns-in_err-frame-clause-err g c =
    absurd (never_fails (λ n. record { 0 = n }) (least_free c.args.pool.now.holds) c.take.result _
    (sym c.if-not-has_free.ensures) c.take.ensures.least c.in_err-frame.was)

pub returns-in_err-frame-clause-pool_err : goal.returns-in_err-frame-clause-pool_err
returns-in_err-frame-clause-pool_err g c =
    absurd (never_fails (λ n. record { 0 = n }) (least_free c.args.pool.now.holds) c.take.result _
    (sym c.if-not-has_free.ensures) c.take.ensures.least c.in_err-frame.was)

pub returns-clause-refused : goal.returns-clause-refused
returns-clause-refused g c =
    let absent = ap is_some (sym c.frame_at.ensures) ∙ sym c.if-is_some.ensures in
    let refusal = none_refuses c.args.self.now.pages c.args.pool.now.holds c.args.user (page_of c.args.va) absent
    (sym c.if-not-has_free.ensures) in
    none_there _ _ refusal

pub returns-clause-taken : goal.returns-clause-taken
returns-clause-taken g c = taken _ _ tt

pub returns-clause-err : goal.returns-clause-err
returns-clause-err g c = tt

pub returns-clause-pool_err : goal.returns-clause-pool_err
returns-clause-pool_err g c = tt
