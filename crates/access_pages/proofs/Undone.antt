-- A pin of a run fails: the pins of the runs before it are taken off again, and all is as it was.
use Rattle.std.proofs.Common.{◌≡◌, ℕ, ◌+◌, Bool, true, false, ◌&&◌, ◌||◌, eqb, ltb, None}
use Rattle.std.proofs.Common.{List, [], ◌++◌, length, take, refl, ap, subst, sym, ◌∙◌, arith}
use Rattle.std.specs.Prelude.{slice_index, if◌then◌else◌}
use Rattle.std.specs.List.{count_by}
use Rattle.std.proofs.Math.Seq.{take-append_seam}
use Rattle.frame_memory.specs.Pool.{FramePool}
use Rattle.iofd_words.specs.Bounds.{Bounds}
use Rattle.iofd_words.specs.Pins.{ObjectPage}
use Rattle.iofd_words.specs.declared.rows.Area.{Area}
use Rattle.iofd_words.specs.declared.rows.MemoryObject.{MemoryObject}
use Rattle.iofd_words.specs.declared.rows.UserPage.{UserPage}
use Rattle.memory_objects.specs.Objects.{pins_on}
use Rattle.memory_objects.specs.declared.run.PageRun.{PageRun}
use Rattle.user_memory.specs.Changes.{SameObjects, Settles}
use Rattle.user_memory.specs.Memory.{IsBacked, Memory, access_pins, frame_now, is_pinned, pinned_frame, reached}
use Rattle.user_memory.specs.Memory.{rows_of, table_pins}
use Rattle.user_memory_rows.proofs.Released.{only_after}
use Rattle.user_memory_rows.specs.Shown.{has_page}
use Rattle.access_pages.proofs.PinSteps.{Pinning}
use Rattle.access_pages.proofs.Through.{settles_through, still_pinned}
use Rattle.access_pages.proofs.UnpinSteps.{lie_still}
use Rattle.access_pages.specs.Runs.{ArePinned, AreReleased, MayPin, MayRelease, OnlyPinned, runs_in}

-- ---- nothing that is seen has changed

-- a call that failed has left all as it was
pub record IsUnchanged (a b : Memory) (p q : FramePool) : Type 0 where
  pub objects : SameObjects a b
  pub pages : b.pages ≡ a.pages
  pub limits : b.limits ≡ a.limits
  pub pool : q ≡ p

pub none_done : (a b made : Memory) (p q given : FramePool) → b ≡ made → q ≡ given → SameObjects a made
    → made.pages ≡ a.pages → made.limits ≡ a.limits → given ≡ p → IsUnchanged a b p q
none_done a b made p q given is is_given objects pages limits pool =
    let U : Memory → Type 0 = λ m. IsUnchanged a m p q in
    subst U (sym is) (record { objects = objects; pages = pages; limits = limits; pool = is_given ∙ pool })

module _ (a b : Memory) (pool : FramePool) (same : SameObjects a b) (pages : b.pages ≡ a.pages)
    (limits : b.limits ≡ a.limits) (only : OnlyPinned a) where
  pinned_same : (page : ObjectPage) → is_pinned b page ≡ is_pinned a page
  pinned_same page =
      ap (λ (l : List MemoryObject). has_page l page
      && (ltb 0 (table_pins b page.memory) || ltb 0 (access_pins b page))) same.rows
      ∙ ap (λ n. has_page (rows_of a) page && (ltb 0 n || ltb 0 (access_pins b page))) (same.pins page.memory)
      ∙ ap (λ n. has_page (rows_of a) page && (ltb 0 (table_pins a page.memory) || ltb 0 n)) (same.access page)

  reached_same : (frame : ℕ) → reached b frame ≡ reached a frame
  reached_same frame =
      ap (λ (l : List UserPage). count_by (λ (p : UserPage). eqb p.frame.0 frame) l + pins_on b.objects frame) pages
      ∙ ap (λ n. count_by (λ (p : UserPage). eqb p.frame.0 frame) a.pages + n) (same.named frame)

  pub backed_same : (holds : List ℕ) → IsBacked a holds → IsBacked b holds
  backed_same holds backed = record {
    least = λ frame. let is = reached_same frame in let least = backed.least frame in omega (arith, is, least);
    most = λ frame. let is = reached_same frame in let most = backed.most frame in omega (arith, is, most);
  }

  pub only_same : OnlyPinned b
  only_same page is = same.frames page ∙ only page (sym (pinned_same page) ∙ is)

  pub settles_same : Settles a b pool pool
  settles_same = record {
    pages = pages;
    limits = limits;
    frames = λ page. same.frames page ∙ stays page (is_pinned a page) refl (pinned_same page);
    holds = record {
      count = refl;
      holds = λ frame. ap (λ n. slice_index pool.holds frame + n) (sym (reached_same frame));
      backed = backed_same pool.holds;
    };
    bytes = refl;
    kept = same.kept;
  }
    where
      stays : (page : ObjectPage) (x : Bool) → is_pinned a page ≡ x → is_pinned b page ≡ is_pinned a page
          → pinned_frame a page ≡ (if is_pinned b page
          then (if is_pinned a page then pinned_frame a page else frame_now b page) else None)
      stays page true is alike = rw (alike, is) refl
      stays page false is alike = rw (alike, is) (only page is)

-- ---- the runs that were done

-- which they are
pub done_first : (all done left : List Area) (count : ℕ) → done ++ left ≡ all → count ≡ length done
    → take count all ≡ done
done_first all done left count split counted =
    rw (counted, sym split) (take-append_seam done left)

-- they may be released
pub may_undo : (span : Bounds) (all left : List Area) (count : ℕ) (first now next : Memory)
    (before between after : FramePool) → Pinning span all left count first now before between
    → IsUnchanged now next between after → MayRelease (runs_in span (take count all)) next after.holds
may_undo span all left count first now next before between after p same =
    let M : List Area → Type 0 = λ areas. MayRelease (runs_in span areas) next after.holds in
    let B : FramePool → Type 0 = λ pool. IsBacked next pool.holds in
    subst M (sym (done_first all p.done left count p.split p.counted)) (record {
      lies = lie_still (runs_in span p.done) now next same.objects.rows p.lies;
      pins = λ page.
          let some = p.pinned.access page in
          let is = same.objects.access page in
          omega (arith, some, is);
      backed = subst B (sym same.pool) (backed_same now next between same.objects same.pages same.limits p.may.only
          between.holds p.may.backed);
      invariant = same.objects.kept;
      only = only_same now next between same.objects same.pages same.limits p.may.only;
    })

-- then no pins are there but the old ones
pub undone : (span : Bounds) (all left : List Area) (count : ℕ) (first now next last : Memory)
    (before between after end : FramePool) → Pinning span all left count first now before between
    → IsUnchanged now next between after → AreReleased (runs_in span (take count all)) next last after end
    → ArePinned [] first last before end
undone span all left count first now next last before between after end p same less =
    let R : List Area → Type 0 = λ areas. AreReleased (runs_in span areas) next last after end in
    let gone = subst R (done_first all p.done left count p.split p.counted) less in
    let S : FramePool → Type 0 = λ pool. Settles now next between pool in
    let stays = subst S (sym same.pool)
    (settles_same now next between same.objects same.pages same.limits p.may.only) in
    let settled = settles_through first now next before between after same.objects.rows p.pinned.settles stays
    (λ page was is. still_pinned first now page p.pinned.rows
    (let tables = p.pinned.pins page.memory in omega (arith, tables))
    (let some = p.pinned.access page in omega (arith, some)) was) in
    record {
      rows = gone.rows ∙ same.objects.rows ∙ p.pinned.rows;
      areas = λ number. gone.areas number ∙ same.objects.areas number ∙ p.pinned.areas number;
      pins = λ number. gone.pins number ∙ same.objects.pins number ∙ p.pinned.pins number;
      access = λ page.
          let less = gone.access page in
          let is = same.objects.access page in
          let some = p.pinned.access page in
          omega (arith, less, is, some);
      settles = settles_through first next last before after end gone.rows settled gone.settles
          (λ page was is. still_pinned first next page (same.objects.rows ∙ p.pinned.rows)
          (let tables = p.pinned.pins page.memory in let alike = same.objects.pins page.memory in
          omega (arith, tables, alike))
          (let some = p.pinned.access page in let alike = same.objects.access page in omega (arith, some, alike)) was);
    }

-- ---- all runs

module _ (runs : List PageRun) (first now : Memory) (before between : FramePool)
    (pinned : ArePinned runs first now before between) where
  -- what was pinned may be let go of
  pub may_take_back : MayPin runs first before.holds → MayRelease runs now between.holds
  may_take_back may = record {
    lies = lie_still runs first now pinned.rows may.lies;
    pins = λ page. let some = pinned.access page in omega (arith, some);
    backed = pinned.settles.holds.backed may.backed;
    invariant = pinned.settles.kept;
    only = only_after first now before between pinned.settles;
  }

  -- then no pins are there but the old ones
  pub taken_back : (last : Memory) (end : FramePool) → AreReleased runs now last between end
      → ArePinned [] first last before end
  taken_back last end gone = record {
    rows = gone.rows ∙ pinned.rows;
    areas = λ number. gone.areas number ∙ pinned.areas number;
    pins = λ number. gone.pins number ∙ pinned.pins number;
    access = λ page.
        let less = gone.access page in
        let some = pinned.access page in
        omega (arith, less, some);
    settles = settles_through first now last before between end gone.rows pinned.settles gone.settles
        (λ page was is. still_pinned first now page pinned.rows
        (let tables = pinned.pins page.memory in omega (arith, tables))
        (let some = pinned.access page in omega (arith, some)) was);
  }
