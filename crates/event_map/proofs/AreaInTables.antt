-- An area is mapped in the page tables over its address space: its pages lead to the frames at which they are pinned.
use Rattle.std.proofs.Common.{◌≡◌, ◌⊎◌, inl, inr, ℕ, ◌+◌, ◌-◌, ◌*◌, ◌/◌, ◌%◌, ◌<◌, ◌≤◌, Bool, true, false, cond, eqb}
use Rattle.std.proofs.Common.{Option, Some, None, List, [], ◌∷◌, ◌++◌, append-nil, length, refl, ap, subst, sym, ◌∙◌}
use Rattle.std.proofs.Common.{arith}
use Rattle.std.specs.Prelude.{IfSome, slice_get, slice_index_or}
use Rattle.std.specs.List.{find, flat_map}
use Rattle.std.proofs.lemmas.Bool.Decides.{nat_tests}
use Rattle.std.proofs.lemmas.Option.{slice_get-get_or}
use Rattle.frame_memory.specs.Pool.{FramePool}
use Rattle.page_table_set.specs.OverSpans.{LeadsMapped, hwpts_over, is_over, missing_in, with_missing}
use Rattle.page_table_set.specs.PageTables.{AllStand, Hwpt}
use Rattle.iofd_rows.proofs.Bools.{and_true}
use Rattle.iofd_rows.proofs.Each.{IsIn}
use Rattle.iofd_words.specs.Pages.{page_of}
use Rattle.iofd_words.specs.Span.{holds, is_whole_pages, size_of}
use Rattle.iofd_words.specs.TablePlaces.{is_live}
use Rattle.iofd_words.specs.Tables.{MissingTable}
use Rattle.iofd_words.specs.declared.numbers.FrameNo.{FrameNo}
use Rattle.iofd_words.specs.declared.rows.Area.{Area}
use Rattle.iofd_words.specs.declared.rows.MemoryObject.{MemoryObject}
use Rattle.iofd_words.specs.declared.rows.Object.{Object}
use Rattle.iofd_words.specs.declared.rows.TableFrame.{TableFrame}
use Rattle.event_map.specs.AreaMapped.{IsAreaMapped, area_leads, missing_for}
use Rattle.server_state.proofs.LeadsStay.{stand_alike}
use Rattle.server_state.specs.Leads.{lead_by, leads_in, object_page}
use Rattle.page_table_spans.specs.Spans.{held_once}
use Rattle.page_table_words.specs.Rows.{MappedPage}
use Rattle.page_table_words.specs.Taken.{least_frames}
use Rattle.user_memory.specs.Memory as memory
use Rattle.user_memory.specs.Memory.{Memory, pinned_frame}

abbrev Leads : Type 0
Leads = Object → ℕ → Option MappedPage

-- ---- as many frames as pages

pub as_long : (m : Memory) (a : Area) (to : List FrameNo) → a.span.first ≤ a.span.last → is_whole_pages a.span ≡ true
    → (object : MemoryObject) → find (λ (row : MemoryObject). eqb row.number a.memory) (memory.rows_of m) ≡ Some object
    → object.count * 4096 ≡ size_of a.span
    → IfSome (find (λ (row : MemoryObject). eqb row.number a.memory) (memory.rows_of m)) (λ row. length to ≡ row.count)
    → length to ≡ size_of a.span / 4096
as_long m a to ordered whole object found size long =
    let here : length to ≡ object.count = rw found at long in
    omega (arith, here, size)

-- ---- where its pages lead

module _ (m : Memory) (a : Area) (to : List FrameNo) (live : is_live a.phase ≡ true)
    (ordered : a.span.first ≤ a.span.last) (whole : is_whole_pages a.span ≡ true)
    (each : (index : ℕ) → slice_get to index ≡ pinned_frame m (record { memory = a.memory; index = index }))
    (long : length to ≡ size_of a.span / 4096) where
  starts : a.span.first % 4096 ≡ 0
  starts = let is =
      (and_true (eqb (a.span.first % 4096) 0) (eqb (a.span.last % 4096) 4095) whole).0 in search (is, arith, nat_tests)

  ends : a.span.last % 4096 ≡ 4095
  ends = let is =
      (and_true (eqb (a.span.first % 4096) 0) (eqb (a.span.last % 4096) 4095) whole).1 in search (is, arith, nat_tests)

  within : (k : ℕ) → k < length to → holds a.span ((page_of a.span.first + k) * 4096) ≡ true
  within k below =
      let low : a.span.first ≤ (page_of a.span.first + k) * 4096 = omega (arith, starts) in
      let high : (page_of a.span.first + k) * 4096 ≤ a.span.last = omega (arith, starts, ends, below, long, ordered) in
      grind (arith, nat_tests)

  without : (page : ℕ) → (page < page_of a.span.first) ⊎ (page_of a.span.first + length to ≤ page)
      → holds a.span (page * 4096) ≡ false
  without page (inl before) =
      let low : page * 4096 < a.span.first = omega (arith, starts, before) in
      grind (arith, nat_tests)
  without page (inr after) =
      let high : a.span.last < page * 4096 = omega (arith, starts, ends, after, long, ordered) in
      grind (arith, nat_tests)

  lead_at : (k : ℕ) (d : FrameNo) → k < length to
      → leads_in (pinned_frame m) (a ∷ []) (page_of a.span.first + k) ≡ Some (record {
        page = page_of a.span.first + k;
        frame = slice_index_or to k d;
        rights = a.rights;
      })
  lead_at k d below =
      let here = within k below in
      let index : page_of a.span.first + k - page_of a.span.first ≡ k = omega arith in
      let frame : pinned_frame m (object_page (page_of a.span.first + k) a) ≡ Some (slice_index_or to k d) =
      ap (λ (i : ℕ). pinned_frame m (record { memory = a.memory; index = i })) index ∙ sym (each k)
      ∙ slice_get-get_or to k d below in
      rw (live, here) (ap (λ (o : Option FrameNo). elim o as (λ _. Option MappedPage) [
        | Some f ↦ Some (record { page = page_of a.span.first + k; frame = f; rights = a.rights })
        | None ↦ None
      ]) frame)

  pub area_mapped : (leads : Leads) → LeadsMapped (is_over a.file a.ioas) (page_of a.span.first) to a.rights
      leads (area_leads m a leads)
  area_mapped leads = record {
    inside = λ object k d it below. let here = within k below in let is =
        lead_at k d below in rw (it, live, here) (by_lead (page_of a.span.first + k) here is);
    outside = λ object page it beside. let away = without page beside in rw (it, live, away) refl;
    others = λ object page it. rw it refl;
  }
    where
      by_lead : (page : ℕ) → holds a.span (page * 4096) ≡ true → {x : Option MappedPage}
          → leads_in (pinned_frame m) (a ∷ []) page ≡ x → lead_by (pinned_frame m) page (Some a) ≡ x
      by_lead page here is = let other = rw (live, here) at is in other

-- ---- where no page table is over its address space

none_over : (a : Area) (tables : List Hwpt) → hwpts_over a.file a.ioas tables ≡ [] → (h : Hwpt) → IsIn tables h
    → is_over a.file a.ioas h.object ≡ false
none_over a [] none h within = absurd within
none_over a (t ∷ tables) none h within = by_test (is_over a.file a.ioas t.object) refl none within (none_over a tables)
  where
    by_test : (b : Bool) → is_over a.file a.ioas t.object ≡ b
        → cond b (t ∷ hwpts_over a.file a.ioas tables) (hwpts_over a.file a.ioas tables) ≡ [] → IsIn (t ∷ tables) h
        → (hwpts_over a.file a.ioas tables ≡ [] → (h : Hwpt) → IsIn tables h → is_over a.file a.ioas h.object ≡ false)
        → is_over a.file a.ioas h.object ≡ false
    by_test true is none within later = cc
    by_test false is none (inl same) later = ap (λ (x : Hwpt). is_over a.file a.ioas x.object) (sym same) ∙ is
    by_test false is none (inr rest) later = later none h rest

no_frames : (holds : List ℕ) → least_frames holds 0 ≡ []
unfolding least_frames
no_frames holds = refl

pub none_mapped : (m : Memory) (a : Area) (tables : List Hwpt) (pool : FramePool) (out : List FrameNo)
    → hwpts_over a.file a.ioas tables ≡ []
    → (frames : List TableFrame) (leads : Leads) → AllStand pool frames leads tables
    → IsAreaMapped m a tables pool pool out out frames leads
none_mapped m a tables pool out none frames leads all =
    let missing : missing_for frames a tables ≡ [] = ap (flat_map (missing_in frames a.span)) none in
    let same : with_missing frames (missing_for frames a tables) pool.holds ≡ frames =
    ap (λ (l : List MissingTable). with_missing frames l pool.holds) missing ∙ append-nil frames in
    let taken : least_frames pool.holds (length (missing_for frames a tables)) ≡ [] =
    ap (λ (l : List MissingTable). least_frames pool.holds (length l)) missing ∙ no_frames pool.holds in
    record {
      stand = subst (λ (rows : List TableFrame). AllStand pool rows (area_leads m a leads) tables) (sym same)
          (stand_alike pool frames leads (area_leads m a leads) tables
          (λ h within page. rw (none_over a tables none h within) refl) all);
      others = λ frame no. refl;
      holds = ap (held_once pool.holds) (sym taken);
      out = sym (ap (λ (l : List FrameNo). out ++ l) taken ∙ append-nil out);
    }
