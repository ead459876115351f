-- As the areas that lie in a span go, or begin to leave, the pages of its live areas have no live area any more, and
-- every other page has the one that it had.
use Rattle.std.proofs.Common.{◌≡◌, ℕ, ◌+◌, ◌*◌, ◌<◌, ◌≤◌, Bool, true, false, cond, ◌&&◌, not, is_some, ltb, Option}
use Rattle.std.proofs.Common.{Some, None, List, [], ◌∷◌, map, refl, ap, ◌∙◌, arith}
use Rattle.std.specs.List.{filter}
use Rattle.std.proofs.lemmas.Bool.Decides.{nat_tests}
use Rattle.area_map_rows.specs.Areas.{AreApart, AreApartFrom, areas_outside, areas_within}
use Rattle.event_unmap.specs.Waiting.{waiting}
use Rattle.iofd_words.specs.Areas.{leaving, tried, with_tries}
use Rattle.iofd_words.specs.Bounds.{Bounds}
use Rattle.iofd_words.specs.Pins.{ObjectPage}
use Rattle.iofd_words.specs.Span.{holds, lies_in}
use Rattle.iofd_words.specs.TablePlaces.{is_live}
use Rattle.iofd_words.specs.declared.numbers.FrameNo.{FrameNo}
use Rattle.iofd_words.specs.declared.rows.Area.{Area}
use Rattle.iofd_words.specs.declared.rows.Phase.{Phase}
use Rattle.iofd_words.specs.declared.rows.Phase.TheVariants.{Live, Leaving}
use Rattle.server_state.specs.Leads.{lead_by, leads_in, live_area_at}

-- what leaves is live no more
left_live : (most : ℕ) (owed : List ℕ) (phase : Phase) → is_live (tried most (leaving owed phase)) ≡ false
left_live most owed phase = by_count (ltb most 100)
  where
    marked_so : (phase : Phase) → is_live (leaving owed phase) ≡ false
    marked_so Live = refl
    marked_so (Leaving still tries) = refl

    counted_so : (phase : Phase) → is_live (with_tries (most + 1) (leaving owed phase)) ≡ false
    counted_so Live = refl
    counted_so (Leaving still tries) = refl

    by_count : (b : Bool) → is_live (cond b (with_tries (most + 1) (leaving owed phase)) (leaving owed phase)) ≡ false
    by_count true = counted_so phase
    by_count false = marked_so phase

module _ (page : ℕ) where
  abbrev has_live : Area → Bool
  has_live area = is_live area.phase && holds area.span (page * 4096)

  -- an area that leaves is found no more than one that is gone
  pub waiting_found : (span : Bounds) (most : ℕ) (owed : List ℕ) (areas : List Area)
      → live_area_at page (map (waiting span most owed) areas) ≡ live_area_at page (areas_outside span areas)
  waiting_found span most owed [] = refl
  waiting_found span most owed (a ∷ areas) = by_test (lies_in a.span span) (waiting_found span most owed areas)
    where
      by_test : (b : Bool) → live_area_at page (map (waiting span most owed) areas) ≡ live_area_at page
          (areas_outside span areas)
          → live_area_at page (record a { phase = cond b (tried most (leaving owed a.phase)) a.phase }
          ∷ map (waiting span most owed) areas) ≡ live_area_at page (cond (not b) (a ∷ areas_outside span areas)
          (areas_outside span areas))
      by_test true rest = rw (left_live most owed a.phase) rest
      by_test false rest = ap (λ (o : Option Area). cond (has_live a) (Some a) o) rest

  -- areas that begin behind the page don't hold it
  none_behind : (q : Area → Bool) (low : ℕ) (areas : List Area) → AreApartFrom low areas → page * 4096 < low
      → live_area_at page (filter q areas) ≡ None
  none_behind q low [] apart before = refl
  none_behind q low (a ∷ areas) apart before =
      let start : low ≤ a.span.first = apart.0 in
      let own : a.span.first ≤ a.span.last = apart.1 in
      let misses : has_live a ≡ false = grind (arith, nat_tests) in
      by_test (q a) misses (none_behind q (a.span.last + 1) areas apart.2 (omega (arith, start, own, before)))
    where
      by_test : (b : Bool) → has_live a ≡ false → live_area_at page (filter q areas) ≡ None
          → live_area_at page (cond b (a ∷ filter q areas) (filter q areas)) ≡ None
      by_test true misses rest = rw misses rest
      by_test false misses rest = rest

  -- what is found once those in the span are gone
  pub found_outside : (span : Bounds) (low : ℕ) (areas : List Area) → AreApartFrom low areas
      → live_area_at page (areas_outside span areas) ≡ cond (is_some (live_area_at page (areas_within span areas))) None
      (live_area_at page areas)
  found_outside span low [] apart = refl
  found_outside span low (a ∷ areas) apart =
      by_tests (lies_in a.span span) (has_live a) refl (found_outside span (a.span.last + 1) areas apart.2)
    where
      behind : has_live a ≡ true → page * 4096 < a.span.last + 1
      behind here = grind (arith, nat_tests)

      by_tests : (l h : Bool) → has_live a ≡ h
          → live_area_at page (areas_outside span areas) ≡ cond (is_some (live_area_at page (areas_within span areas)))
          None (live_area_at page areas)
          → live_area_at page (cond (not l) (a ∷ areas_outside span areas) (areas_outside span areas))
          ≡ cond (is_some (live_area_at page (cond l (a ∷ areas_within span areas) (areas_within span areas)))) None
          (cond h (Some a) (live_area_at page areas))
      by_tests true true here rest =
          rw here (none_behind (λ (x : Area). not (lies_in x.span span)) (a.span.last + 1) areas apart.2 (behind here))
      by_tests true false here rest = rw here rest
      by_tests false true here rest =
          let none = none_behind (λ (x : Area). lies_in x.span span) (a.span.last + 1) areas apart.2 (behind here) in
          rw (here, none) refl
      by_tests false false here rest = rw here rest

  -- ---- where the page leads

  nowhere : (frame_of : ObjectPage → Option FrameNo) (b : Bool) (o : Option Area)
      → lead_by frame_of page (cond b None o) ≡ cond b None (lead_by frame_of page o)
  nowhere frame_of true o = refl
  nowhere frame_of false o = refl

  pub leads_outside : (frame_of : ObjectPage → Option FrameNo) (span : Bounds) (areas : List Area) → AreApart areas
      → leads_in frame_of (areas_outside span areas) page ≡ cond (is_some (live_area_at page (areas_within span areas)))
      None (leads_in frame_of areas page)
  leads_outside frame_of span areas apart =
      ap (lead_by frame_of page) (found_outside span 0 areas apart)
      ∙ nowhere frame_of (is_some (live_area_at page (areas_within span areas))) (live_area_at page areas)

  pub leads_waiting : (frame_of : ObjectPage → Option FrameNo) (span : Bounds) (most : ℕ) (owed : List ℕ)
      (areas : List Area) → AreApart areas
      → leads_in frame_of (map (waiting span most owed) areas) page ≡ cond
      (is_some (live_area_at page (areas_within span areas))) None (leads_in frame_of areas page)
  leads_waiting frame_of span most owed areas apart =
      ap (lead_by frame_of page) (waiting_found span most owed areas) ∙ leads_outside frame_of span areas apart
