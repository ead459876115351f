-- What a MAP and a COPY make.
use Rattle.std.proofs.Common.{◌≡◌, ◌≢◌, ◌⊎◌, ◌≤◌, Contains, sym, ℕ, zero, suc, ◌+◌, ◌-◌, ◌*◌, ◌/◌, ◌%◌, Bool, true}
use Rattle.std.proofs.Common.{false, cond, eqb, ltb, is_none, is_some, Option, Some, None, List, [], ◌∷◌, ◌++◌}
use Rattle.std.proofs.Common.{refl, arith, inl, inr, ⊎_elim}
use Rattle.std.proofs.Math.Nat.{div-add-mod}
use Rattle.std.proofs.lemmas.Bool.Decides.{nat_tests}
use Rattle.iofd_steps.specs.After.{changed, copy_changes, map_changes, mapped_area, memory_object, settle}
use Rattle.iofd_words.specs.Areas.{lies_before, with_area}
use Rattle.iofd_refusals.specs.Checks.{refusal}
use Rattle.iofd_words.specs.Copies.{placed_as}
use Rattle.iofd_words.specs.Files.{numbered, user_of}
use Rattle.iofd_words.specs.Pages.{is_whole}
use Rattle.iofd_words.specs.Rights.{is_readable, is_writeable}
use Rattle.iofd_words.specs.TablePlaces.{is_live}
use Rattle.iofd_words.specs.View.{view}
use Rattle.iofd_words.specs.World.{World}
use Rattle.iofd_words.specs.declared.event.CopyRequest.{CopyRequest}
use Rattle.iofd_words.specs.declared.event.Event.TheVariants as event
use Rattle.iofd_words.specs.declared.event.MapRequest.{MapRequest}
use Rattle.iofd_words.specs.declared.fault.AccessKind.TheVariants.{Read, Write}
use Rattle.iofd_words.specs.declared.numbers.FileNo.{FileNo}
use Rattle.iofd_words.specs.declared.numbers.Iova.{Iova}
use Rattle.iofd_words.specs.declared.numbers.UserNo.{UserNo}
use Rattle.iofd_words.specs.declared.reply.Reply.TheVariants as reply
use Rattle.iofd_words.specs.declared.rows.Area.{Area}
use Rattle.iofd_words.specs.declared.rows.MemoryObject.{MemoryObject}
use Rattle.iofd_words.specs.declared.rows.Phase.{Phase}
use Rattle.iofd_words.specs.declared.rows.Phase.TheVariants.{Live, Leaving}
use Rattle.iofd_rows.proofs.Bools.{and_true}
use Rattle.iofd_rows.proofs.Each.{IsIn, area_added, in_with_area, inserted_in, of_each}
use Rattle.iofd_rows.proofs.Named.{id_is}
use Rattle.iofd_rows.specs.Pinned.{ArePinned}
use Rattle.iofd_runs.proofs.CopySource.{source_area, source_is}
use Rattle.iofd_runs.proofs.NotRefused.{CopyPassed, MapPassed, copy_passed, map_passed}
use Rattle.iofd_promises.specs.Mapped.{MapsAgain, MapsAsked, NewArea}
use Rattle.iofd_promises.specs.Reaches.{lets}
use Rattle.iofd_promises.proofs.Rows.{contains, within}

-- ---- one more row

pub stays_in : (area : Area) (areas : List Area) (x : Area) → IsIn areas x → IsIn (with_area area areas) x
stays_in area areas x there = inserted_in lies_before area areas x (inr there)

comes_from : (area : Area) (areas : List Area) (x : Area) → IsIn (with_area area areas) x → (x ≡ area) ⊎ IsIn areas x
comes_from area areas x there = ⊎_elim (λ (new : area ≡ x). inl (sym new)) (λ (old : IsIn areas x). inr old)
    (in_with_area area areas x there)

last_in : {X : Type 0} (xs : List X) (x : X) → IsIn (xs ++ x ∷ []) x
last_in [] x = inl refl
last_in (y ∷ xs) x = inr (last_in xs x)

-- ---- the area

reads_asked : (reads writes : Bool) → lets Read (cond reads 1 0 + cond writes 2 0) ≡ reads
reads_asked true true = refl
reads_asked true false = refl
reads_asked false true = refl
reads_asked false false = refl

writes_asked : (reads writes : Bool) → lets Write (cond reads 1 0 + cond writes 2 0) ≡ writes
writes_asked true true = refl
writes_asked true false = refl
writes_asked false true = refl
writes_asked false false = refl

end_is : (first count : ℕ) → eqb count 0 ≡ false → first + count - 1 + 1 ≡ first + count
end_is first count some = let above : 1 ≤ count = search (some, arith, nat_tests) in omega (arith, above)

new_area : (w new : World) (memory : ℕ) (file : FileNo) (request : MapRequest) (iova : Iova)
    → eqb request.length 0 ≡ false → new.areas ≡ with_area (mapped_area memory file request iova) w.areas
    → NewArea w new file request.ioas iova request.length request.flags (mapped_area memory file request iova)
new_area w new memory file request iova some is = record {
  there = rw is (contains _ area (area_added area w.areas));
  of_file = refl;
  of_space = refl;
  first = refl;
  last = end_is iova.0 request.length some;
  reads = reads_asked (is_readable request.flags) (is_writeable request.flags);
  writes = writes_asked (is_readable request.flags) (is_writeable request.flags);
  live = refl;
  others = λ other has. rw is (contains _ other (stays_in area w.areas other (within w.areas other has)));
  alone = λ other has. listed other (comes_from area w.areas other (within _ other (rw (← is) has)));
}
  where
    area : Area
    area = mapped_area memory file request iova

    listed : (other : Area) → (other ≡ area) ⊎ IsIn w.areas other → (other ≡ area) ⊎ Contains w.areas other
    listed other (inl same) = inl same
    listed other (inr there) = inr (contains w.areas other there)

-- ---- a MAP

whole_pages : (size : ℕ) → is_whole size ≡ true → size / 4096 * 4096 ≡ size
whole_pages size whole =
    let rest : size % 4096 ≡ 0 = search (whole, arith, nat_tests) in
    let parts = div-add-mod size 4096 in
    omega (arith, rest, parts)

pub maps_asked : (A : Type 0) (at : ℕ) (w : World) (file : FileNo) (request : MapRequest) (iova : Iova) → ArePinned at w
    → refusal {A = A} w (event.Map file request) ≡ None
    → MapsAsked w (changed {A = A} at w (event.Map file request) (reply.Iova iova)) file request iova
unfolding changed settle
maps_asked A at w file request iova pins none =
    by_user (user_of w.settings file) refl (and_true (is_some (user_of w.settings file)) _ passed.opened).0
  where
    passed : MapPassed (view w) file request
    passed = map_passed (view w) file request none

    earlier : (other : MemoryObject) → IsIn w.memory other → other.number ≢ at
    earlier other there same = let less = of_each (λ (m : MemoryObject). ltb m.number at) w.memory other pins.made
        there in search (less, same, arith, nat_tests)

    by_user : (o : Option UserNo) → user_of w.settings file ≡ o → is_some o ≡ true
        → MapsAsked w (map_changes at w file request iova o) file request iova
    by_user None is some = cc
    by_user (Some user) is some = by_number file.0 refl is
      where
        by_number : (n : ℕ) → file.0 ≡ n → numbered w.settings.files n ≡ Some user
            → MapsAsked w (map_changes at w file request iova (Some user)) file request iova
        by_number zero number is = cc
        by_number (suc n) number is =
            record {
              area = mapped_area at file request iova;
              placed =
                  new_area w (map_changes at w file request iova (Some user)) at file request iova passed.some refl;
              object = memory_object at user request;
              there = contains _ (memory_object at user request) (last_in w.memory (memory_object at user request));
              number = refl;
              fresh = λ other has. earlier other (within w.memory other has);
              va = refl;
              pages = whole_pages request.length passed.whole;
              writable = refl;
              n = n;
              file_is = omega (arith, number);
              user_is = is;
            }

-- ---- a COPY

is_mapped : (phase : Phase) → is_live phase ≡ true → phase ≡ Live
is_mapped Live is = refl
is_mapped (Leaving owed tries) is = cc

pub maps_again : (A : Type 0) (at : ℕ) (w : World) (file : FileNo) (request : CopyRequest) (iova : Iova)
    → refusal {A = A} w (event.Copy file request) ≡ None
    → MapsAgain w (changed {A = A} at w (event.Copy file request) (reply.Iova iova)) file request iova
unfolding changed settle
maps_again A at w file request iova none = by_source (source_area w file request) refl passed.found
  where
    passed : CopyPassed (view w) file request
    passed = copy_passed (view w) file request none

    by_source : (o : Option Area) → source_area w file request ≡ o → is_none o ≡ false
        → MapsAgain w (copy_changes w file request iova o) file request iova
    by_source None is some = cc
    by_source (Some source) is some =
        let found = source_is w file request source is in
        let ends = found.last in
        let exact = end_is request.src_iova.0 request.length passed.some in
        record {
          area = mapped_area source.memory file (placed_as request) iova;
          placed = new_area w (copy_changes w file request iova (Some source)) source.memory file
              (placed_as request) iova passed.some refl;
          source = source;
          there = contains w.areas source found.within;
          of_file = found.of_file;
          of_space = id_is source.ioas request.src_ioas
              (and_true (eqb source.file.0 file.0) (eqb source.ioas.0 request.src_ioas.0) found.of_space).1;
          first = found.first;
          last = omega (arith, ends, exact);
          live = is_mapped source.phase found.live;
          same_memory = refl;
          no_other = refl;
        }
