-- Pages of areas are cleared in page tables one area after the other.
use Rattle.std.proofs.Common.{◌≡◌, ◌⊎◌, inl, inr, ℕ, ◌+◌, ◌-◌, ◌*◌, ◌/◌, ◌<◌, ◌≤◌, Bool, true, false, cond, ◌&&◌, ◌||◌}
use Rattle.std.proofs.Common.{is_some, Option, Some, None, List, [], ◌∷◌, ◌++◌, append-nil, map, refl, ap, subst, sym}
use Rattle.std.proofs.Common.{◌∙◌, arith}
use Rattle.std.proofs.lemmas.Bool.Decides.{nat_tests}
use Rattle.std.proofs.lemmas.List.{append_assoc}
use Rattle.frame_memory.specs.Pool.{FramePool}
use Rattle.page_table_set.proofs.Staying.{all_told}
use Rattle.page_table_set.specs.OverSpans.{LeadsCleared, is_over}
use Rattle.page_table_set.specs.PageTables.{AllStand, Hwpt, PageTables}
use Rattle.iofd_rows.proofs.Bools.{both_true}
use Rattle.iofd_rows.proofs.Each.{IsIn, of_each}
use Rattle.iofd_rows.proofs.Unusable.{each_not}
use Rattle.iofd_runs.specs.Fits.{begins_at_page}
use Rattle.iofd_words.specs.Objects.{has_hwpt}
use Rattle.iofd_words.specs.Span.{holds}
use Rattle.iofd_words.specs.TablePlaces.{is_live}
use Rattle.iofd_words.specs.declared.numbers.FileNo.{FileNo}
use Rattle.iofd_words.specs.declared.numbers.ObjId.{ObjId}
use Rattle.iofd_words.specs.declared.rows.Area.{Area}
use Rattle.iofd_words.specs.declared.rows.Object.{Object}
use Rattle.iofd_words.specs.declared.rows.TableFrame.{TableFrame}
use Rattle.server_state.proofs.TablesUnreached.{in_list}
use Rattle.event_unmap.specs.Cleared.{CanClear, Clears, cleared, is_beyond}
use Rattle.server_state.specs.Leads.{live_area_at}
use Rattle.page_table_words.specs.Rows.{MappedPage}

abbrev Leads : Type 0
Leads = Object → ℕ → Option MappedPage

module _ (file : FileNo) (ioas : ObjId) where
  -- ---- one area

  -- the pages of a live area that begins at a page are those from its first to its last one
  pub one_cleared : (area : Area) (leads : Leads) → is_live area.phase ≡ true → begins_at_page area ≡ true
      → area.span.first ≤ area.span.last
      → LeadsCleared file ioas (area.span.first / 4096) (area.span.last / 4096 - area.span.first / 4096 + 1) leads
      (cleared file ioas (area ∷ []) leads)
  one_cleared area leads live whole ordered = record {
    inside = λ object page over low high. let here = within page low high in rw (over, live, here) refl;
    outside = λ object page over beside. let away = without page beside in rw (over, live, away) refl;
    others = λ object page over. rw over refl;
  }
    where
      within : (page : ℕ) → area.span.first / 4096 ≤ page
          → page < area.span.first / 4096 + (area.span.last / 4096 - area.span.first / 4096 + 1)
          → holds area.span (page * 4096) ≡ true
      within page low high = grind (arith, nat_tests)

      without : (page : ℕ) → (page < area.span.first / 4096)
          ⊎ (area.span.first / 4096 + (area.span.last / 4096 - area.span.first / 4096 + 1) ≤ page)
          → holds area.span (page * 4096) ≡ false
      without page (inl before) = grind (arith, nat_tests)
      without page (inr after) = grind (arith, nat_tests)

  fails_both : {X : Type 0} (b : Bool) (x y : X) → cond (b && false) x y ≡ y
  fails_both true x y = refl
  fails_both false x y = refl

  -- nothing is, where no page table is over the address space
  pub none_over : (areas : List Area) (pool : FramePool) (rows : List TableFrame) (leads : Leads) (tables : List Hwpt)
      → has_hwpt (map (λ (h : Hwpt). h.object) tables) file ioas ≡ false
      → AllStand pool rows leads tables → AllStand pool rows (cleared file ioas areas leads) tables
  none_over areas pool rows leads tables none stand =
      all_told pool rows leads (cleared file ioas areas leads) tables stand (λ h within page.
      let over : is_over file ioas h.object ≡ false =
      each_not (is_over file ioas) (map (λ (h : Hwpt). h.object) tables) h.object none
      (in_list (λ (h : Hwpt). h.object) tables h within) in
      rw over refl)

  -- ---- one more

  some_further : (page : ℕ) (done : List Area) (a : Area)
      → is_some (live_area_at page (done ++ a ∷ [])) ≡ (is_some (live_area_at page done)
      || is_some (live_area_at page (a ∷ [])))
  some_further page [] a = refl
  some_further page (d ∷ done) a = by_test (is_live d.phase && holds d.span (page * 4096)) (some_further page done a)
    where
      by_test : (b : Bool) → is_some (live_area_at page (done ++ a ∷ [])) ≡ (is_some (live_area_at page done)
          || is_some (live_area_at page (a ∷ [])))
          → is_some (cond b (Some d) (live_area_at page (done ++ a ∷ [])))
          ≡ (is_some (cond b (Some d) (live_area_at page done)) || is_some (live_area_at page (a ∷ [])))
      by_test true rest = refl
      by_test false rest = rest

  pub cleared_further : (done : List Area) (a : Area) (leads : Leads) (object : Object) (page : ℕ)
      → cleared file ioas (done ++ a ∷ []) leads object page ≡ cleared file ioas (a ∷ [])
      (cleared file ioas done leads) object page
  cleared_further done a leads object page =
      ap (λ (b : Bool). cond (is_over file ioas object && b) None (leads object page)) (some_further page done a)
      ∙ by_tests (is_over file ioas object) (is_some (live_area_at page done))
      (is_some (live_area_at page (a ∷ []))) (leads object page)
    where
      by_tests : (o x y : Bool) (to : Option MappedPage)
          → cond (o && (x || y)) None to ≡ cond (o && y) None (cond (o && x) None to)
      by_tests true true true to = refl
      by_tests true true false to = refl
      by_tests true false true to = refl
      by_tests true false false to = refl
      by_tests false x y to = refl

  -- ---- all of them

  -- the pages of some of the areas are cleared, and these are left
  pub record AreClearing (all left : List Area) (kept now : PageTables) (before pool : FramePool) : Type 0 where
    pub done : List Area
    pub parts : done ++ left ≡ all
    pub same : now ≡ kept
    pub cleared : Clears file ioas done kept.tables before pool

  pub clearing_first : (all : List Area) (kept : PageTables) (pool : FramePool)
      → AreClearing all all kept kept pool pool
  clearing_first all kept pool = record {
    done = [];
    parts = refl;
    same = refl;
    cleared = record {
      holds = refl;
      stand = λ rows leads stand. all_told pool rows leads (cleared file ioas [] leads) kept.tables stand
          (λ h within page. fails_both (is_over file ioas h.object) None (leads h.object page));
      others = λ rows leads stand frame none. refl;
    };
  }

  in_parts : (done : List Area) (a : Area) (rest : List Area) → IsIn (done ++ a ∷ rest) a
  in_parts [] a rest = inl refl
  in_parts (d ∷ done) a rest = inr (in_parts done a rest)

  module _ (all left rest : List Area) (a : Area) (kept now : PageTables) (before pool : FramePool)
      (is : left ≡ a ∷ rest) (clearing : AreClearing all left kept now before pool) where
    within : IsIn all a
    within = subst (λ (l : List Area). IsIn l a) (ap (λ (l : List Area). clearing.done ++ l) (sym is) ∙ clearing.parts)
        (in_parts clearing.done a rest)

    -- the next one may be cleared
    pub can_clear : CanClear before kept.tables file ioas all → CanClear pool now.tables file ioas (a ∷ [])
    can_clear can =
        let starts : begins_at_page a ≡ true = of_each begins_at_page all a can.starts within in
        subst (λ (t : PageTables). CanClear pool t.tables file ioas (a ∷ [])) (sym clearing.same)
        (record {
          stand = record {
            frames = can.stand.frames;
            leads = cleared file ioas clearing.done can.stand.leads;
            stand = clearing.cleared.stand can.stand.frames can.stand.leads can.stand.stand;
          };
          starts = both_true _ _ starts refl;
          below = λ h there over. let apart : is_beyond h a ≡ false =
              each_not (is_beyond h) all a (can.below h there over) within in rw apart refl;
        })

    -- and is
    pub clearing_further : (next : PageTables) (after : FramePool) → next ≡ now
        → Clears file ioas (a ∷ []) now.tables pool after → AreClearing all rest kept next before after
    clearing_further next after same clears =
        let were = clearing.cleared in
        let here : Clears file ioas (a ∷ []) kept.tables pool after =
        subst (λ (t : PageTables). Clears file ioas (a ∷ []) t.tables pool after) clearing.same clears in
        record {
          done = clearing.done ++ a ∷ [];
          parts = append_assoc clearing.done (a ∷ []) rest ∙ ap (λ (l : List Area). clearing.done ++ l) (sym is)
              ∙ clearing.parts;
          same = same ∙ clearing.same;
          cleared = record {
            holds = here.holds ∙ were.holds;
            stand = λ rows leads all_stand.
                all_told after rows (cleared file ioas (a ∷ []) (cleared file ioas clearing.done leads))
                (cleared file ioas (clearing.done ++ a ∷ []) leads) kept.tables
                (here.stand rows (cleared file ioas clearing.done leads) (were.stand rows leads all_stand))
                (λ h there page. cleared_further clearing.done a leads h.object page);
            others = λ rows leads all_stand frame none. here.others rows (cleared file ioas clearing.done leads)
                (were.stand rows leads all_stand) frame none ∙ were.others rows leads all_stand frame none;
          };
        }

  -- none is left
  pub clearing_last : (all left : List Area) (kept now : PageTables) (before pool : FramePool) → left ≡ []
      → AreClearing all left kept now before pool
      → Clears file ioas all kept.tables before pool
  clearing_last all left kept now before pool none clearing =
      let whole : clearing.done ≡ all =
      sym (append-nil clearing.done) ∙ ap (λ (l : List Area). clearing.done ++ l) (sym none) ∙ clearing.parts in
      subst (λ (l : List Area). Clears file ioas l kept.tables before pool) whole clearing.cleared
