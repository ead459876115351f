-- Objects and attachments that a step brings: an object with a name that no other had, and a device's attachment.
use Rattle.std.proofs.Common.{◌≡◌, ℕ, true, Some, None, List, sym, ◌∙◌, ⊎_elim, subst, ap, false}
use Rattle.iofd_steps.specs.After.{changed}
use Rattle.iofd_steps.specs.Answers.{Answers}
use Rattle.iofd_refusals.specs.Checks.{refusal}
use Rattle.iofd_words.specs.Objects.{is_fresh, is_object, kind_of, is_access}
use Rattle.iofd_words.specs.World.{World}
use Rattle.iofd_words.specs.declared.event.Event.{Event}
use Rattle.iofd_words.specs.declared.numbers.FileNo.{FileNo}
use Rattle.iofd_words.specs.declared.numbers.ObjId.{ObjId}
use Rattle.iofd_words.specs.declared.reply.Reply.{Reply}
use Rattle.iofd_words.specs.declared.rows.Object.{Object}
use Rattle.iofd_words.specs.declared.rows.ObjectKind.{ObjectKind}
use Rattle.iofd_rows.specs.Ids.{have_own_ids}
use Rattle.iofd_rows.proofs.Each.{IsIn, in_filter, in_with_object, of_any, in_map}
use Rattle.iofd_rows.proofs.Named.{kind_only, named, object_of_kind}
use Rattle.iofd_rows.proofs.Accesses.{Attaches, IsReattached, Stays, reattached, reattached_is}
use Rattle.iofd_rows.proofs.Bools.{clash}
use Rattle.iofd_runs.proofs.OwnIds.{unused}
use Rattle.iofd_runs.proofs.Moves.{Fewer, More, ObjectsMove, Same, changed_moves, Reattached}

-- ---- an object that is there after it

-- it was there, or its id was fresh, or it is an access object that was there with another attachment
pub data Came (objects : List Object) (object : Object) : Type 0 where
  WasThere : IsIn objects object → Came objects object
  HasNewId : is_fresh objects object.file object.id ≡ true → Came objects object
  WasAccess : (old : Object) → IsIn objects old → object.file ≡ old.file → object.id ≡ old.id
      → is_access old.kind ≡ true → Came objects object

pub came : {A : Type 0} → (at : ℕ) (w : World) (e : Event A) (answer : Reply) → refusal w e ≡ None → Answers w e answer
    → (x : Object) → IsIn (changed at w e answer).objects x → Came w.objects x
came at w e answer none answers x within =
    by_move (changed at w e answer) (changed_moves at w e answer).objects within
  where
    by_move : (new : World) → ObjectsMove w e answer new → IsIn new.objects x → Came w.objects x
    by_move new (Same is) within = WasThere (rw is at within)
    by_move new (Fewer stays stay bound is) within = WasThere (in_filter stays w.objects x (rw is at within)).0
    by_move new (More object fresh admitted makes is) within =
        ⊎_elim
        (λ (new : object ≡ x). HasNewId
        (subst (λ (o : Object). is_fresh w.objects o.file o.id ≡ true) new (fresh answers)))
        (λ (before : IsIn w.objects x). WasThere before) (in_with_object object w.objects x (rw is at within))
    by_move new (Reattached file id attached is) within =
        let (old, there, same) = in_map (reattached file id attached) w.objects x (rw is at within) in
        subst (Came w.objects) same
        (by_change old (reattached file id attached old) there (reattached_is file id attached old))
      where
        by_change : (old turned : Object) → IsIn w.objects old → IsReattached attached old turned
            → Came w.objects turned
        by_change old turned there (Stays is) = WasThere (subst (IsIn w.objects) (sym is) there)
        by_change old turned there (Attaches before is made) =
            WasAccess old there (ap (λ (o : Object). o.file) made) (ap (λ (o : Object). o.id) made) (ap is_access is)

-- a name that had an object, which is no access object, and has one still has the same one
pub same_kind : (old new : List Object) (file : FileNo) (id : ObjId) (before k : ObjectKind) → have_own_ids old ≡ true
    → ((x : Object) → IsIn new x → Came old x) → is_access before ≡ false
    → kind_of old file id ≡ Some before → kind_of new file id ≡ Some k → kind_of old file id ≡ Some k
same_kind old new file id before k own each other was is =
    let (x, first, within, of_file, of_id, of_kind) = object_of_kind new file id k is in
    let (y, first_y, within_y, file_y, id_y, kind_y) = object_of_kind old file id before was in
    by_coming x y of_file of_id of_kind within_y file_y id_y (each x within)
  where
    by_coming : (x y : Object) → x.file ≡ file → x.id ≡ id → x.kind ≡ k → IsIn old y → y.file ≡ file → y.id ≡ id
        → Came old x → kind_of old file id ≡ Some k
    by_coming x y of_file of_id of_kind within_y file_y id_y (WasThere there) =
        rw (of_file, of_id, of_kind) at (kind_only old x own there)
    by_coming x y of_file of_id of_kind within_y file_y id_y (HasNewId fresh) =
        let free = unused old x.file x.id fresh in
        let taken = of_any (is_object x.file x.id) old y within_y (named x y (file_y ∙ sym of_file) (id_y ∙ sym of_id))
        in
        cc
    by_coming x y of_file of_id of_kind within_y file_y id_y (WasAccess a there file_a id_a access) =
        let here : kind_of old file id ≡ Some a.kind =
        rw (sym of_file ∙ file_a, sym of_id ∙ id_a) (kind_only old a own there) in
        let same : before ≡ a.kind = cc in
        absurd (clash _ other (ap is_access same ∙ access))
