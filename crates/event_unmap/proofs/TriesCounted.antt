-- Areas that begin to leave, and then see one try more.
use Rattle.std.proofs.Common.{◌≡◌, ℕ, ◌+◌, ◌<◌, Bool, true, false, cond, ltb, List, [], ◌∷◌, map, refl, sym, ◌∙◌}
use Rattle.std.proofs.Common.{ap, arith}
use Rattle.std.proofs.lemmas.Bool.Decides.{nat_tests}
use Rattle.area_map_rows.specs.Areas as rows
use Rattle.event_unmap.specs.Waiting.{waiting}
use Rattle.iofd_rows.specs.Ids.{have_own_ids}
use Rattle.iofd_words.specs.Areas.{leaving, with_tries}
use Rattle.iofd_words.specs.Bounds.{Bounds}
use Rattle.iofd_words.specs.Span.{lies_in}
use Rattle.iofd_words.specs.declared.numbers.FileNo.{FileNo}
use Rattle.iofd_words.specs.declared.numbers.ObjId.{ObjId}
use Rattle.iofd_words.specs.declared.rows.Area.{Area}
use Rattle.iofd_words.specs.declared.rows.Phase.{Phase}
use Rattle.iofd_words.specs.declared.rows.Phase.TheVariants.{Live, Leaving}
use Rattle.object_table.specs.Table.{Table}
use Rattle.server_state.specs.Spaces.{HasAreas, IsOrderly}
use Rattle.server_state.specs.declared.held.Held.{Held}

module _ (span : Bounds) (most : ℕ) (owed : List ℕ) where
  -- an area where tries are counted, and where they aren't
  abbrev counted : Bool → Area → Area
  counted few a =
      record a {
        phase = cond (lies_in a.span span)
            (cond few (with_tries (most + 1) (leaving owed a.phase)) (leaving owed a.phase)) a.phase;
      }

  -- an area that is marked, and then gets its number
  each : (a : Area) → rows.tried span (most + 1) (rows.marked span owed a) ≡ counted true a
  each a = by_tests (lies_in a.span span) refl a.phase refl
    where
      by_tests : (b : Bool) → lies_in a.span span ≡ b → (p : Phase) → a.phase ≡ p
          → rows.tried span (most + 1) (rows.marked span owed a) ≡ counted true a
      by_tests true here Live is = rw (here, is) refl
      by_tests true here (Leaving still tries) is = rw (here, is) refl
      by_tests false here p is = rw here refl

  -- before that one more is
  pub one_more : ltb most 100 ≡ true → (areas : List Area)
      → map (rows.tried span (most + 1)) (map (rows.marked span owed) areas) ≡ map (waiting span most owed) areas
  one_more few [] = refl
  one_more few (a ∷ areas) =
      ap (λ (x : Area). x ∷ map (rows.tried span (most + 1)) (map (rows.marked span owed) areas))
      (each a ∙ ap (λ (b : Bool). counted b a) (sym few))
      ∙ ap (λ (l : List Area). waiting span most owed a ∷ l) (one_more few areas)

module _ {A : Type 0} (file : FileNo) (ioas : ObjId) (old : Table (Held A)) where
  -- a table whose areas have changed is orderly still
  pub orderly_after : (areas : List Area) (new : Table (Held A)) → IsOrderly old → HasAreas file ioas areas old new
      → IsOrderly new
  orderly_after areas new orderly has =
      record { ids = ap have_own_ids has.objects ∙ orderly.ids }

  -- they change once more
  pub areas_again : (areas later : List Area) (between new : Table (Held A)) → HasAreas file ioas areas old between
      → HasAreas file ioas later between new → HasAreas file ioas later old new
  areas_again areas later between new first second =
      record {
        objects = second.objects ∙ first.objects;
        here = second.here;
        others = λ f i other. second.others f i other ∙ first.others f i other;
        files = second.files ∙ first.files;
        users = λ f i. second.users f i ∙ first.users f i;
      }

pub too_few : (most : ℕ) → most < 100 → ltb most 100 ≡ true
too_few most few = search (few, arith, nat_tests)
