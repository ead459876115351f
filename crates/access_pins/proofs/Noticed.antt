-- The spans of leaving areas that an access object's pins meet, one area after the other.
use Rattle.std.proofs.Common.{◌≡◌, ◌<◌, ◌+◌, Bool, true, false, cond, ◌&&◌, not, List, [], ◌∷◌, ◌++◌, map, length}
use Rattle.std.proofs.Common.{refl, ap, Option}
use Rattle.std.proofs.Common.{Some, None, sym, ◌∙◌, append_assoc, arith}
use Rattle.std.specs.List.{filter, list_any}
use Rattle.held_pins.specs.HeldPins.{are_own_met}
use Rattle.held_pins.specs.declared.pin.HeldPin.{HeldPin}
use Rattle.iofd_rows.proofs.Bools.{or_false}
use Rattle.iofd_words.specs.Accesses.{notices}
use Rattle.iofd_words.specs.Bounds.{Bounds}
use Rattle.iofd_words.specs.Objects.{access_ioas, kind_of}
use Rattle.iofd_words.specs.TablePlaces.{is_live}
use Rattle.iofd_words.specs.declared.numbers.FileNo.{FileNo}
use Rattle.iofd_words.specs.declared.numbers.ObjId.{ObjId}
use Rattle.iofd_words.specs.declared.rows.Area.{Area}
use Rattle.iofd_words.specs.declared.rows.ObjectKind.{ObjectKind}
use Rattle.iofd_words.specs.declared.rows.ObjectKind.TheVariants as kind
use Rattle.server_state.specs.Held.{areas_at, objects_in}
use Rattle.server_state.specs.Seen.{seen}
use Rattle.server_state.specs.declared.state.State.{State}

abbrev pub is_noticed : List HeldPin → FileNo → ObjId → Area → Bool
is_noticed pins file access area = not (is_live area.phase) && are_own_met pins file access area.span

abbrev pub span_of : Area → Bounds
span_of area = area.span

length_mapped : (l : List Area) → length (map span_of l) ≡ length l
length_mapped [] = refl
length_mapped (x ∷ l) = let rest = length_mapped l in omega (arith, rest)

module _ (pins : List HeldPin) (file : FileNo) (access : ObjId) where
  -- the spans of those that are noticed
  abbrev pub noticed : List Area → List Bounds
  noticed areas = map span_of (filter (is_noticed pins file access) areas)

  -- where none is leaving there are none
  pub none_noticed : (areas : List Area) → list_any (λ (area : Area). not (is_live area.phase)) areas ≡ false
      → noticed areas ≡ []
  none_noticed [] none = refl
  none_noticed (area ∷ areas) none =
      let parts = or_false (not (is_live area.phase)) (list_any (λ (a : Area). not (is_live a.phase)) areas) none in
      ap (λ (b : Bool). map span_of (cond (b && are_own_met pins file access area.span)
      (area ∷ filter (is_noticed pins file access) areas) (filter (is_noticed pins file access) areas))) parts.0
      ∙ none_noticed areas parts.1

  module _ (spans goal : List Bounds) (area : Area) (all rest : List Area) (steps : all ≡ area ∷ rest)
      (before : spans ++ noticed all ≡ goal) where
    parted : (b : Bool) → is_noticed pins file access area ≡ b
        → spans ++ map span_of (cond b (area ∷ filter (is_noticed pins file access) rest)
        (filter (is_noticed pins file access) rest)) ≡ goal
    parted b is =
        ap (λ (c : Bool). spans ++ map span_of (cond c (area ∷ filter (is_noticed pins file access) rest)
        (filter (is_noticed pins file access) rest))) (sym is)
        ∙ ap (λ (l : List Area). spans ++ noticed l) (sym steps) ∙ before

    -- one is, and its span is listed
    pub listed : is_noticed pins file access area ≡ true → (more : List Bounds) → more ≡ spans ++ area.span ∷ []
        → more ++ noticed rest ≡ goal
    listed is more pushed =
        ap (λ (l : List Bounds). l ++ noticed rest) pushed
        ∙ append_assoc spans (area.span ∷ []) (noticed rest) ∙ parted true is

    -- one isn't
    pub passed : is_noticed pins file access area ≡ false → spans ++ noticed rest ≡ goal
    passed is = parted false is

    -- one is, so there are some
    pub some_noticed : is_noticed pins file access area ≡ true → (all_areas : List Area) → noticed all_areas ≡ goal
        → 0 < length (filter (is_noticed pins file access) all_areas)
    some_noticed is all_areas same =
        let long : length (spans ++ (area.span ∷ noticed rest)) ≡ length (noticed all_areas) =
        ap (λ (l : List Bounds). length l) (parted true is ∙ sym same) in
        let parts = length_both spans (area.span ∷ noticed rest) in
        let mapped = length_mapped (filter (is_noticed pins file access) all_areas) in
        omega (arith, long, parts, mapped)
      where
        length_both : (a b : List Bounds) → length (a ++ b) ≡ length a + length b
        length_both [] b = omega arith
        length_both (x ∷ a) b = let rest = length_both a b in omega (arith, rest)

-- those of the address space to which the access object is attached
module _ {A : Type 0} (s : State A) (file : FileNo) (access ioas : ObjId) (areas : List Area)
    (attached : kind_of (objects_in s.objects) file access ≡ Some (kind.Access (Some ioas)))
    (has : areas_at s.objects.rows file ioas ≡ areas) where
  pub noticed_in : notices (seen s) file access ≡ noticed s.access_pins file access areas
  noticed_in =
      ap (λ (o : Option ObjectKind). elim (elim o as (λ _. Option ObjId)
      [ Some k ↦ access_ioas k | None ↦ None ]) as (λ _. List Bounds) [
        | Some to ↦ noticed s.access_pins file access (areas_at s.objects.rows file to)
        | None ↦ []
      ]) attached
      ∙ ap (noticed s.access_pins file access) has

  -- as many as there are such areas
  pub some_in : length (notices (seen s) file access) ≡ length (filter (is_noticed s.access_pins file access) areas)
  some_in =
      ap (λ (l : List Bounds). length l) noticed_in
      ∙ length_mapped (filter (is_noticed s.access_pins file access) areas)
