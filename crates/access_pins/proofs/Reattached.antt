-- The world after an access object was attached or detached is shown.
use Rattle.std.proofs.Common.{◌≡◌, ℕ, ◌+◌, ◌-◌, ◌<◌, ◌≤◌, Bool, true, false, is_none, is_some, Option, Some, None, List}
use Rattle.std.proofs.Common.{length, refl, sym, ◌∙◌, ap, arith}
use Rattle.iofd_runs.proofs.NotRefused.{access_attach_passed, access_detach_passed}
use Rattle.iofd_refusals.specs.Checks.{access_attach_checks, access_detach_checks}
use Rattle.iofd_words.specs.FirstTrue.{first_true}
use Rattle.iofd_words.specs.Objects.{access_ioas, access_ioas_of, has_access, has_ioas, is_hwpt, is_ioas, kind_of}
use Rattle.iofd_words.specs.Objects.{objects_of, with_access}
use Rattle.iofd_words.specs.View.{view}
use Rattle.iofd_words.specs.World.{World}
use Rattle.iofd_words.specs.declared.numbers.FileNo.{FileNo}
use Rattle.iofd_words.specs.declared.numbers.ObjId.{ObjId}
use Rattle.iofd_words.specs.declared.rows.Object.{Object}
use Rattle.iofd_words.specs.declared.rows.ObjectKind.{ObjectKind}
use Rattle.iofd_words.specs.declared.rows.ObjectKind.TheVariants as kind
use Rattle.object_table.specs.Table.{Table, rows_of}
use Rattle.server_state.proofs.AccessPinsStay.{holders_stay}
use Rattle.iofd_words.specs.declared.event.Event.TheVariants as event
use Rattle.iofd_words.specs.declared.reply.Reply.TheVariants as reply
use Rattle.iofd_steps.specs.After.{changed}
use Rattle.iofd_steps.specs.Answers.{Answers}
use Rattle.server_state.proofs.AccessesHeld.{access_of}
use Rattle.server_state.proofs.AccessesShown.{attached_shown, attached_space, detached_shown}
use Rattle.server_state.proofs.Counted.{few_users}
use Rattle.server_state.proofs.DevicesOn.{on_tables}
use Rattle.server_state.proofs.Objects.{same_count}
use Rattle.server_state.proofs.Orderly.{orderly}
use Rattle.server_state.specs.Accesses.{HasAccess, one_at}
use Rattle.server_state.specs.Held.{objects_in}
use Rattle.server_state.specs.Shows.{Shows}
use Rattle.server_state.specs.Spaces.{IsOrderly}
use Rattle.server_state.specs.Step.{IsTidy}
use Rattle.server_state.specs.Users.{users_at}
use Rattle.server_state.specs.declared.held.Held.{Held}
use Rattle.server_state.specs.declared.state.State.{State}

-- an address space is no page table
no_table : (o : Option ObjectKind) → elim o as (λ _. Bool) [ Some k ↦ is_ioas k | None ↦ false ] ≡ true
    → elim o as (λ _. Bool) [ Some k ↦ is_hwpt k | None ↦ false ] ≡ false
no_table None is = refl
no_table (Some kind.Ioas) is = refl
no_table (Some (kind.Hwpt over of automatic)) is = cc
no_table (Some (kind.Device device)) is = refl
no_table (Some (kind.Access attached)) is = refl

module _ {A : Type 0} (at : ℕ) (w : World) (s : State A) (file : FileNo) (id : ObjId) (tidy : IsTidy at w)
    (shows : Shows w s) where
  -- what is said of the world's objects is said of those that are kept
  abbrev kept : (List Object → Bool) → Type 0
  kept test = test w.objects ≡ true → test (objects_in s.objects) ≡ true

  keep : (test : List Object → Bool) → kept test
  keep test is = ap test (sym shows.objects.rows) ∙ is

  -- its address space has few users
  few_there : (ioas : ObjId) → has_ioas w.objects file ioas ≡ true → length (rows_of s.objects file) ≤ 65535
      → users_at s.objects.rows file ioas < 4294967295
  few_there ioas space few =
      let many = few_users w.objects file ioas in
      let same : length (objects_of w.objects file) ≡ length (rows_of s.objects file) =
      ap (λ (l : List Object). length (objects_of l file)) shows.objects.rows ∙ same_count s.objects.rows file in
      let none = on_tables w.objects w.attachments file ioas tidy.debts.tables
      (no_table (kind_of w.objects file ioas) space) in
      let counted = shows.objects.counted file ioas in
      omega (arith, many, same, none, counted, few)

  pub shows_attached : (ioas : ObjId) (table : Table (Held A))
      → first_true (access_attach_checks (view w) file id ioas) ≡ None
      → length (rows_of s.objects file) ≤ 65535
      → (IsOrderly s.objects → has_access (objects_in s.objects) file id ≡ true
      → has_ioas (objects_in s.objects) file ioas ≡ true → users_at s.objects.rows file ioas < 4294967295
      → HasAccess file id (Some ioas) (λ f i. one_at file ioas f i + users_at s.objects.rows f i) s.objects table)
      → Shows (record w { objects = with_access file id (Some ioas) w.objects }) (record s { objects = table })
  unfolding changed Answers
  shows_attached ioas table none few attaches =
      let passed = access_attach_passed (view w) file id ioas none in
      let (before, is_kind) = access_of (kind_of w.objects file id) passed.there in
      let unattached : is_some before ≡ false =
      ap (λ (o : Option ObjectKind). is_some (elim o as (λ _. Option ObjId) [ Some k ↦ access_ioas k | None ↦ None ]))
      (sym is_kind) ∙ passed.unattached in
      attached_shown at w s file id before table tidy shows is_kind ioas (to_nothing before unattached) passed.space
      (attaches (orderly at w s tidy shows) (keep (λ l. has_access l file id) passed.there)
      (keep (λ l. has_ioas l file ioas) passed.space) (few_there ioas passed.space few))
      (holders_stay {A = A} at w (event.AccessAttach file id ioas) reply.Done none tt)
    where
      to_nothing : (o : Option ObjId) → is_some o ≡ false → o ≡ None
      to_nothing None is = refl
      to_nothing (Some ioas) is = cc

  pub shows_detached : (ioas : ObjId) (table : Table (Held A))
      → first_true (access_detach_checks (view w) file id) ≡ None
      → access_ioas_of (objects_in s.objects) file id ≡ Some ioas
      → (IsOrderly s.objects → has_access (objects_in s.objects) file id ≡ true
      → has_ioas (objects_in s.objects) file ioas ≡ true → 0 < users_at s.objects.rows file ioas
      → HasAccess file id None (λ f i. users_at s.objects.rows f i - one_at file ioas f i) s.objects table)
      → Shows (record w { objects = with_access file id None w.objects }) (record s { objects = table })
  unfolding changed Answers
  shows_detached ioas table none is detaches =
      let passed = access_detach_passed (view w) file id none in
      let (before, is_kind) = access_of (kind_of w.objects file id) passed.there in
      let attached : before ≡ Some ioas =
      ap (λ (o : Option ObjectKind). elim o as (λ _. Option ObjId) [ Some k ↦ access_ioas k | None ↦ None ])
      (sym is_kind)
      ∙ ap (λ (l : List Object). access_ioas_of l file id) shows.objects.rows ∙ is in
      let (space, some) = attached_space at w s file id before s.objects tidy shows is_kind ioas attached in
      detached_shown at w s file id before table tidy shows is_kind ioas attached
      (detaches (orderly at w s tidy shows) (keep (λ l. has_access l file id) passed.there)
      (keep (λ l. has_ioas l file ioas) space) some)
      (holders_stay {A = A} at w (event.AccessDetach file id) reply.Done none tt)

  -- one that is attached to nothing was refused
  pub never_loose : first_true (access_detach_checks (view w) file id) ≡ None
      → access_ioas_of (objects_in s.objects) file id ≡ None → ⊥
  never_loose none is =
      let passed = access_detach_passed (view w) file id none in
      let loose : is_none (access_ioas_of w.objects file id) ≡ true =
      ap (λ (l : List Object). is_none (access_ioas_of l file id)) shows.objects.rows
      ∙ ap (λ (o : Option ObjId). is_none o) is in
      let attached = passed.attached in
      cc
