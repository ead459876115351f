-- The areas that an UNMAP touches, among all areas and among those of its address space.
use Rattle.std.proofs.Common.{◌≡◌, ℕ, ◌+◌, ◌≤◌, Bool, true, false, cond, ◌&&◌, not, List, [], ◌∷◌, map}
use Rattle.std.proofs.Common.{refl, ap, arith}
use Rattle.std.specs.List.{filter, list_any}
use Rattle.std.proofs.lemmas.Bool.Decides.{nat_tests}
use Rattle.area_map_rows.specs.Areas.{AreApartFrom, areas_outside, areas_within}
use Rattle.iofd_rows.proofs.Bools.{or_false}
use Rattle.event_unmap.specs.Waiting.{waiting}
use Rattle.iofd_words.specs.Areas.{areas_of, is_cut, is_held_back, is_of, is_touched, is_waiting, leaving}
use Rattle.iofd_words.specs.Areas.{touched, tried}
use Rattle.iofd_words.specs.Areas.{unmapped_span, with_phase}
use Rattle.iofd_words.specs.Bounds.{Bounds}
use Rattle.iofd_words.specs.Span.{lies_in, meets}
use Rattle.iofd_words.specs.declared.event.UnmapRequest.{UnmapRequest}
use Rattle.iofd_words.specs.declared.numbers.FileNo.{FileNo}
use Rattle.iofd_words.specs.declared.numbers.ObjId.{ObjId}
use Rattle.iofd_words.specs.declared.rows.Area.{Area}
use Rattle.server_state.specs.Spaces.{is_space}

-- ---- where no area is cut

module _ (span : Bounds) where
  -- the areas that meet the span are those that lie in it
  abbrev pub AreAlike : List Area → Type 0
  AreAlike [] = Unit {0}
  AreAlike (a ∷ areas) = (meets a.span span ≡ lies_in a.span span) × AreAlike areas

  pub alike : (low : ℕ) (areas : List Area) → AreApartFrom low areas → is_cut span areas ≡ false → AreAlike areas
  alike low [] apart uncut = tt
  alike low (a ∷ areas) apart uncut =
      let parts = or_false (meets a.span span && not (lies_in a.span span)) (is_cut span areas) uncut in
      let here = parts.0 in
      let own : a.span.first ≤ a.span.last = apart.1 in
      let same : meets a.span span ≡ lies_in a.span span = grind (arith, nat_tests) in
      (same, alike (a.span.last + 1) areas apart.2 parts.1)

  pub met_waiting : (most : ℕ) (attached : List ℕ) (areas : List Area) → AreAlike areas
      → map (λ (a : Area). with_phase (cond (meets a.span span) (tried most (leaving attached a.phase)) a.phase) a)
      areas ≡ map (waiting span most attached) areas
  met_waiting most attached [] are = refl
  met_waiting most attached (a ∷ areas) are = rw (are.0, met_waiting most attached areas are.1) refl

  pub unmet_outside : (areas : List Area) → AreAlike areas
      → filter (λ (a : Area). not (meets a.span span)) areas ≡ areas_outside span areas
  unmet_outside [] are = refl
  unmet_outside (a ∷ areas) are = rw (are.0, unmet_outside areas are.1) refl

  pub met_within : (areas : List Area) → AreAlike areas
      → filter (λ (a : Area). meets a.span span) areas ≡ areas_within span areas
  met_within [] are = refl
  met_within (a ∷ areas) are = rw (are.0, met_within areas are.1) refl

-- ---- among all areas

-- an area of one address space isn't one of another
apart : (file : FileNo) (ioas : ObjId) (f : FileNo) (i : ObjId) (a : Area) → is_space file ioas f i ≡ false
    → is_of f i a ≡ true → is_of file ioas a ≡ false
apart file ioas f i a other is = grind (arith, nat_tests)

module _ (file : FileNo) (request : UnmapRequest) where
  pub waits_filtered : (attached : List ℕ) (is_pinned : Area → Bool) (areas : List Area)
      → is_waiting areas attached is_pinned file request ≡ list_any (is_held_back attached is_pinned)
      (filter (λ (a : Area). meets a.span (unmapped_span request)) (areas_of areas file request.ioas))
  waits_filtered attached is_pinned [] = refl
  waits_filtered attached is_pinned (a ∷ areas) =
      let rest = waits_filtered attached is_pinned areas in grind (arith, nat_tests)

  -- all touched areas are leaving, and so many tries were the most
  abbrev pub left_at : ℕ → List ℕ → Area → Area
  left_at most attached a =
      with_phase (cond (is_touched file request a) (tried most (leaving attached a.phase)) a.phase) a

  -- the same of those of the address space
  abbrev met_at : ℕ → List ℕ → Area → Area
  met_at most attached a =
      with_phase (cond (meets a.span (unmapped_span request)) (tried most (leaving attached a.phase)) a.phase) a

  pub leaving_own : (most : ℕ) (attached : List ℕ) (areas : List Area)
      → areas_of (map (left_at most attached) areas) file request.ioas
      ≡ map (met_at most attached) (areas_of areas file request.ioas)
  leaving_own most attached [] = refl
  leaving_own most attached (a ∷ areas) = by_test (is_of file request.ioas a) (leaving_own most attached areas)
    where
      by_test : (b : Bool)
          → areas_of (map (left_at most attached) areas) file request.ioas
          ≡ map (met_at most attached) (areas_of areas file request.ioas)
          → cond b (with_phase (cond (b && meets a.span (unmapped_span request))
          (tried most (leaving attached a.phase)) a.phase) a
          ∷ areas_of (map (left_at most attached) areas) file request.ioas)
          (areas_of (map (left_at most attached) areas) file request.ioas)
          ≡ map (met_at most attached) (cond b (a ∷ areas_of areas file request.ioas)
          (areas_of areas file request.ioas))
      by_test true rest = ap (λ (l : List Area). met_at most attached a ∷ l) rest
      by_test false rest = rest

  pub leaving_other : (most : ℕ) (attached : List ℕ) (areas : List Area) (f : FileNo) (i : ObjId)
      → is_space file request.ioas f i ≡ false
      → areas_of (map (left_at most attached) areas) f i ≡ areas_of areas f i
  leaving_other most attached [] f i other = refl
  leaving_other most attached (a ∷ areas) f i other =
      by_test (is_of f i a) (λ is. apart file request.ioas f i a other is) refl
      (leaving_other most attached areas f i other)
    where
      by_test : (b : Bool) → (is_of f i a ≡ true → is_of file request.ioas a ≡ false) → is_of f i a ≡ b
          → areas_of (map (left_at most attached) areas) f i ≡ areas_of areas f i
          → cond b (with_phase (cond (is_of file request.ioas a && meets a.span (unmapped_span request))
          (tried most (leaving attached a.phase)) a.phase) a
          ∷ areas_of (map (left_at most attached) areas) f i)
          (areas_of (map (left_at most attached) areas) f i)
          ≡ cond b (a ∷ areas_of areas f i) (areas_of areas f i)
      by_test true away is rest = let outside = away is in rw (outside, rest) refl
      by_test false away is rest = rest

  pub left_own : (areas : List Area) → areas_of (filter (λ (a : Area). not (is_touched file request a)) areas) file
      request.ioas ≡ filter (λ (a : Area). not (meets a.span (unmapped_span request)))
      (areas_of areas file request.ioas)
  left_own [] = refl
  left_own (a ∷ areas) = let rest =
      left_own areas in by_tests (is_of file request.ioas a) (meets a.span (unmapped_span request)) refl refl rest
    where
      by_tests : (b m : Bool) → is_of file request.ioas a ≡ b → meets a.span (unmapped_span request) ≡ m
          → areas_of (filter (λ (a : Area). not (is_touched file request a)) areas) file request.ioas ≡ filter
          (λ (a : Area). not (meets a.span (unmapped_span request))) (areas_of areas file request.ioas)
          → areas_of (cond (not (b && m)) (a ∷ filter (λ (a : Area). not (is_touched file request a)) areas)
          (filter (λ (a : Area). not (is_touched file request a)) areas)) file request.ioas
          ≡ filter (λ (a : Area). not (meets a.span (unmapped_span request)))
          (cond b (a ∷ areas_of areas file request.ioas) (areas_of areas file request.ioas))
      by_tests true true is met rest = rw met rest
      by_tests true false is met rest = rw (is, met, rest) refl
      by_tests false m is met rest = rw is rest

  pub left_other : (areas : List Area) (f : FileNo) (i : ObjId) → is_space file request.ioas f i ≡ false
      → areas_of (filter (λ (a : Area). not (is_touched file request a)) areas) f i ≡ areas_of areas f i
  left_other [] f i other = refl
  left_other (a ∷ areas) f i other = by_tests (is_of f i a) (is_touched file request a) refl
      (λ is. apart file request.ioas f i a other is) (left_other areas f i other) refl
    where
      by_tests : (b t : Bool) → is_of f i a ≡ b → (is_of f i a ≡ true → is_of file request.ioas a ≡ false)
          → areas_of (filter (λ (a : Area). not (is_touched file request a)) areas) f i ≡ areas_of areas f i
          → is_touched file request a ≡ t
          → areas_of (cond (not t) (a ∷ filter (λ (a : Area). not (is_touched file request a)) areas)
          (filter (λ (a : Area). not (is_touched file request a)) areas)) f i ≡ cond b (a
          ∷ areas_of areas f i) (areas_of areas f i)
      by_tests b false is away rest untouched = rw (is, rest) refl
      by_tests true true is away rest touches =
          let outside = away is in let none : false ≡ true = rw outside at touches in cc
      by_tests false true is away rest touches = rest

  pub touched_own : (areas : List Area) → touched areas file request ≡ filter
      (λ (a : Area). meets a.span (unmapped_span request)) (areas_of areas file request.ioas)
  touched_own [] = refl
  touched_own (a ∷ areas) = by_test (is_of file request.ioas a) (touched_own areas)
    where
      by_test : (b : Bool) → touched areas file request ≡ filter (λ (a : Area). meets a.span (unmapped_span request))
          (areas_of areas file request.ioas)
          → cond (b && meets a.span (unmapped_span request)) (a ∷ touched areas file request)
          (touched areas file request) ≡ filter (λ (a : Area). meets a.span (unmapped_span request))
          (cond b (a ∷ areas_of areas file request.ioas) (areas_of areas file request.ioas))
      by_test true rest = rw rest refl
      by_test false rest = rest
