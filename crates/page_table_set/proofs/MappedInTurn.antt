-- Some page tables have a span mapped, and one more.
use Rattle.std.proofs.Common.{◌≡◌, ℕ, ◌+◌, ◌<◌, ◌≤◌, Bool, true, false, cond, List, [], ◌++◌, append-nil, get_or}
use Rattle.std.proofs.Common.{length, length-append, take, refl, ap, subst, sym, ◌∙◌, arith}
use Rattle.std.proofs.lemmas.List.{append_assoc}
use Rattle.iofd_rows.proofs.Each.{IsIn}
use Rattle.iofd_words.specs.Bounds.{Bounds}
use Rattle.iofd_words.specs.Pages.{page_of}
use Rattle.iofd_words.specs.TablePlaces.{pages_in}
use Rattle.iofd_words.specs.Tables.{MissingTable, in_frames}
use Rattle.iofd_words.specs.declared.flags.Rights.{Rights}
use Rattle.iofd_words.specs.declared.numbers.FileNo.{FileNo}
use Rattle.iofd_words.specs.declared.numbers.FrameNo.{FrameNo}
use Rattle.iofd_words.specs.declared.numbers.ObjId.{ObjId}
use Rattle.iofd_words.specs.declared.rows.TableFrame.{TableFrame}
use Rattle.frame_memory.specs.Pool.{FramePool, free_count}
use Rattle.page_table_spans.proofs.LeastFrames.{length_least}
use Rattle.page_table_spans.specs.Spans.{HasFrames, held_once}
use Rattle.page_table_words.proofs.Frames.{no_frames}
use Rattle.page_table_words.specs.Rows.{TableRow}
use Rattle.page_table_set.proofs.Changed.{retold}
use Rattle.page_table_set.proofs.Counted.{rows_append}
use Rattle.page_table_set.proofs.MappedOver.{SpanMapped, call_free, call_holds, call_others, call_out, call_stand}
use Rattle.page_table_set.proofs.MappedOver.{has_frames, leads_mapped, mapped_leads}
use Rattle.page_table_set.proofs.Missing.{frames_in_turn, held_more, missing_counted, missing_few, missing_in_turn}
use Rattle.page_table_set.proofs.Missing.{missing_more, missing_same, missing_still, rows_of_others}
use Rattle.page_table_set.proofs.OthersKept.{kept_in_turn}
use Rattle.page_table_set.proofs.Partly.{Leads, all_done, all_taken, at_in, is_among, not_before, partly, same_then}
use Rattle.page_table_set.proofs.Partly.{told_then}
use Rattle.page_table_set.specs.OverSpans.{LeadsMapped, frames_for, is_over, missing_in, tables_missing, tables_needed}
use Rattle.page_table_set.specs.OverSpans.{with_missing}
use Rattle.page_table_set.specs.PageTables.{AllStand, Hwpt, KeepsOthers, rows_of}

-- these are done
pub record IsMapped (file : FileNo) (ioas : ObjId) (span : Bounds) (to : List FrameNo) (rights : Rights)
    (old now : FramePool) (before after : List FrameNo) (tables done : List Hwpt) (frames : List TableFrame)
    (leads : Leads) : Type 0 where
  pub stand : (others : Leads) → LeadsMapped (is_over file ioas) (page_of span.first) to rights leads others
      → AllStand now (with_missing frames (tables_missing frames file ioas span done) old.holds)
      (partly done leads others) tables
  pub holds : now.holds ≡ held_once old.holds (frames_for (tables_missing frames file ioas span done) old.holds)
  pub free : free_count now.holds + length (tables_missing frames file ioas span done) ≡ free_count old.holds
  pub out : after ≡ before ++ frames_for (tables_missing frames file ioas span done) old.holds
  pub kept : KeepsOthers (with_missing frames (tables_missing frames file ioas span done) old.holds) old now

pub none_mapped : (file : FileNo) (ioas : ObjId) (span : Bounds) (to : List FrameNo) (rights : Rights)
    (pool : FramePool) (out : List FrameNo) (tables : List Hwpt) (frames : List TableFrame) (leads : Leads)
    → AllStand pool frames leads tables → IsMapped file ioas span to rights pool pool out out tables [] frames leads
none_mapped file ioas span to rights pool out tables frames leads stand =
    let none = no_frames pool.holds 0 refl in
    record {
      stand = λ others mapped. subst (λ (l : List TableFrame). AllStand pool l leads tables)
          (sym (append-nil frames)) stand;
      holds = ap (held_once pool.holds) (sym none);
      free = omega arith;
      out = sym (append-nil out) ∙ ap (λ (fs : List FrameNo). out ++ fs) (sym none);
      kept = λ frame none. refl;
    }

module _ (file : FileNo) (ioas : ObjId) (span : Bounds) (to : List FrameNo) (rights : Rights) (old mid : FramePool)
    (before between : List FrameNo)
    (tables : List Hwpt) (n : ℕ) (d : Hwpt) (within : n < length tables) (frames : List TableFrame) (leads : Leads)
    (is : IsMapped file ioas span to rights old mid before between tables (take n tables) frames leads) where
  abbrev one : Hwpt
  one = get_or tables n d

  abbrev so_far : List MissingTable
  so_far = tables_missing frames file ioas span (take n tables)

  abbrev frames_now : List TableFrame
  frames_now = with_missing frames (tables_missing frames file ioas span (take n tables)) old.holds

  one_in : IsIn tables one
  one_in = at_in tables n d within

  a_stand : AllStand mid frames_now (partly (take n tables) leads
      (mapped_leads (is_over file ioas) (page_of span.first) to rights leads)) tables
  a_stand = is.stand (mapped_leads (is_over file ioas) (page_of span.first) to rights leads)
      (leads_mapped (is_over file ioas) (page_of span.first) to rights leads)

  is_new : is_among (take n tables) one.object ≡ false
  is_new = not_before tables n d a_stand.own within

  rows_still : rows_of frames_now one.object ≡ rows_of frames one.object
  rows_still =
      rows_append frames (in_frames so_far (frames_for so_far old.holds)) one.object
      ∙ ap (λ (l : List TableRow). rows_of frames one.object ++ l)
      (rows_of_others frames file ioas span (take n tables) one.object (frames_for so_far old.holds) is_new)
      ∙ append-nil (rows_of frames one.object)

  lacks_still : missing_in frames_now span one ≡ missing_in frames span one
  lacks_still = missing_same frames_now frames span one rows_still

  few_so_far : length so_far ≤ free_count old.holds
  few_so_far = let free = is.free in omega (arith, free)

  module _ (over : is_over file ioas (get_or tables n d).object ≡ true) where
    all_so_far : length so_far + length (missing_in frames_now span one) ≤ tables_needed frames file ioas span tables
    all_so_far =
        let more = ap (λ (l : List MissingTable). length l) (missing_more frames file ioas span tables n d within over)
        ∙ length-append so_far (missing_in frames span one) in
        let few = missing_few frames file ioas span tables (n + 1) in
        let all = missing_counted frames file ioas span tables in
        let same = ap (λ (l : List MissingTable). length l) lacks_still in
        omega (arith, more, few, all, same)

    pub its_frames : (room left : ℕ) → tables_needed frames file ioas span tables ≤ free_count old.holds
        → tables_needed frames file ioas span tables ≤ room
        → left + length between ≡ room + length before → HasFrames mid one.table (pages_in span) left
    its_frames room left free enough lens =
        let all = all_so_far in
        let now = is.free in
        let out = ap (λ (l : List FrameNo). length l) is.out ∙ length-append before (frames_for so_far old.holds) in
        let long = length_least old.holds (length so_far) few_so_far in
        has_frames mid frames_now (partly (take n tables) leads
        (mapped_leads (is_over file ioas) (page_of span.first) to rights leads)) tables one
        span a_stand one_in left
        (omega (arith, all, now, free)) (omega (arith, all, out, long, enough, lens))

    pub mapped_next : (new : FramePool) (after : List FrameNo)
        → SpanMapped mid new one.table (page_of span.first) (pages_in span) to rights between after
        → IsMapped file ioas span to rights old new before after tables (take (n + 1) tables) frames leads
    mapped_next new after call = record {
      stand = λ others mapped.
          told_then new (with_missing frames (tables_missing frames file ioas span (take (n + 1) tables)) old.holds)
          leads others tables n d within
          (subst (λ (l : List TableFrame). AllStand new l
          (retold one.object (others one.object) (partly (take n tables) leads others)) tables) (rows_then)
          (call_stand mid frames_now (partly (take n tables) leads others) tables one span (is.stand others mapped)
          one_in new to rights between after call
          (is_over file ioas) leads others mapped over
          (λ page. ap (λ (b : Bool). cond b (others one.object) (leads one.object) page) is_new) few));
      holds = holds_then;
      free = free_then;
      out = out_then;
      kept = kept_then;
    }
      where
        more : tables_missing frames file ioas span (take (n + 1) tables) ≡ so_far ++ missing_in frames span one
        more = missing_more frames file ioas span tables n d within over

        any : Leads
        any = partly (take n tables) leads (mapped_leads (is_over file ioas) (page_of span.first) to rights leads)

        few : length (missing_in frames_now span one) ≤ free_count mid.holds
        few = let left = call_free mid frames_now any tables one span a_stand one_in new to rights between after
            call in omega (arith, left)

        rows_then : with_missing frames_now (missing_in frames_now span one) mid.holds ≡ with_missing frames
            (tables_missing frames file ioas span (take (n + 1) tables)) old.holds
        rows_then =
            ap (λ (m : List MissingTable). with_missing frames_now m mid.holds) lacks_still
            ∙ ap (with_missing frames_now (missing_in frames span one)) is.holds
            ∙ missing_in_turn old.holds so_far (missing_in frames span one) frames few_so_far
            ∙ ap (λ (m : List MissingTable). with_missing frames m old.holds) (sym more)

        holds_then : new.holds ≡ held_once old.holds
            (frames_for (tables_missing frames file ioas span (take (n + 1) tables)) old.holds)
        holds_then =
            call_holds mid frames_now any tables one span a_stand one_in new to rights between after call
            ∙ ap (λ (m : List MissingTable). held_once mid.holds (frames_for m mid.holds)) lacks_still
            ∙ ap (λ (holds : List ℕ). held_once holds (frames_for (missing_in frames span one) holds)) is.holds
            ∙ sym (held_more old.holds so_far (missing_in frames span one))
            ∙ ap (λ (m : List MissingTable). held_once old.holds (frames_for m old.holds)) (sym more)

        kept_then : KeepsOthers (with_missing frames
            (tables_missing frames file ioas span (take (n + 1) tables)) old.holds) old new
        kept_then =
            subst (λ (l : List TableFrame). KeepsOthers l old new) rows_then
            (kept_in_turn old mid new frames_now (in_frames (missing_in frames_now span one)
            (frames_for (missing_in frames_now span one) mid.holds)) is.kept
            (call_others mid frames_now any tables one span a_stand one_in new to rights between after call))

        free_then : free_count new.holds + length
            (tables_missing frames file ioas span (take (n + 1) tables)) ≡ free_count old.holds
        free_then =
            let left = call_free mid frames_now any tables one span a_stand one_in new to rights between after call in
            let now = is.free in
            let same = ap (λ (l : List MissingTable). length l) lacks_still in
            let sum =
            ap (λ (l : List MissingTable). length l) more ∙ length-append so_far (missing_in frames span one) in
            omega (arith, left, now, same, sum)

        out_then : after ≡ before ++ frames_for (tables_missing frames file ioas span (take (n + 1) tables)) old.holds
        out_then =
            call_out mid frames_now any tables one span a_stand one_in new to rights between after call
            ∙ ap (λ (m : List MissingTable). between ++ frames_for m mid.holds) lacks_still
            ∙ ap (λ (holds : List ℕ). between ++ frames_for (missing_in frames span one) holds) is.holds
            ∙ ap (λ (l : List FrameNo). l ++ frames_for (missing_in frames span one)
            (held_once old.holds (frames_for so_far old.holds))) is.out
            ∙ append_assoc before (frames_for so_far old.holds)
            (frames_for (missing_in frames span one) (held_once old.holds (frames_for so_far old.holds)))
            ∙ ap (λ (l : List FrameNo). before ++ l)
            (sym (frames_in_turn old.holds so_far (missing_in frames span one)))
            ∙ ap (λ (m : List MissingTable). before ++ frames_for m old.holds) (sym more)

  -- one over another address space is passed over
  pub passed_over : is_over file ioas (get_or tables n d).object ≡ false
      → IsMapped file ioas span to rights old mid before between tables (take (n + 1) tables) frames leads
  passed_over other =
      let same = missing_still frames file ioas span tables n d within other in
      record {
        stand = λ others mapped.
            same_then mid (with_missing frames (tables_missing frames file ioas span (take (n + 1) tables)) old.holds)
            leads others tables n d within
            (λ page. mapped.others one.object page other)
            (subst (λ (m : List MissingTable). AllStand mid (with_missing frames m old.holds)
            (partly (take n tables) leads others) tables) (sym same) (is.stand others mapped));
        holds = is.holds ∙ ap (λ (m : List MissingTable). held_once old.holds (frames_for m old.holds)) (sym same);
        free =
            let now = is.free in let long = ap (λ (m : List MissingTable). length m) same in omega (arith, now, long);
        out = is.out ∙ ap (λ (m : List MissingTable). before ++ frames_for m old.holds) (sym same);
        kept =
            subst (λ (m : List MissingTable). KeepsOthers (with_missing frames m old.holds) old mid) (sym same) is.kept;
      }

-- all are done
pub all_mapped : (file : FileNo) (ioas : ObjId) (span : Bounds) (to : List FrameNo) (rights : Rights)
    (old now : FramePool) (before after : List FrameNo) (tables : List Hwpt) (n : ℕ)
    (frames : List TableFrame) (leads : Leads)
    → length tables ≤ n → IsMapped file ioas span to rights old now before after tables (take n tables) frames leads
    → IsMapped file ioas span to rights old now before after tables tables frames leads
all_mapped file ioas span to rights old now before after tables n frames leads all is =
    subst (λ (l : List Hwpt). IsMapped file ioas span to rights old now before after tables l frames leads)
    (all_taken tables n all) is

pub they_stand : (file : FileNo) (ioas : ObjId) (span : Bounds) (to : List FrameNo) (rights : Rights)
    (old now : FramePool) (before after : List FrameNo) (tables : List Hwpt)
    (frames : List TableFrame) (leads others : Leads)
    → IsMapped file ioas span to rights old now before after tables tables frames leads
    → LeadsMapped (is_over file ioas) (page_of span.first) to rights leads others
    → AllStand now (with_missing frames (tables_missing frames file ioas span tables) old.holds) others tables
they_stand file ioas span to rights old now before after tables frames leads others is mapped =
    all_done now (with_missing frames (tables_missing frames file ioas span tables) old.holds) leads others tables
    (length tables) (omega arith)
    (subst (λ (l : List Hwpt). AllStand now (with_missing frames (tables_missing frames file ioas span tables)
    old.holds) (partly l leads others) tables) (sym (all_taken tables (length tables) (omega arith)))
    (is.stand others mapped))
