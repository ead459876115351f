use Rattle.std.proofs.Common.{◌≡◌, ℕ, false, Option, Some, None, is_some, Result, Ok, Err, List, refl, sym, ◌∙◌, subst}
use Rattle.std.specs.Option.{IfSome}
use Rattle.std.specs.Result.{IfOk, result_ok}
use Rattle.iofd_steps.specs.Look.{answers_in, lawful_answers, query_checks}
use Rattle.iofd_words.specs.FirstTrue.{first_true}
use Rattle.iofd_words.specs.Record.{Record}
use Rattle.iofd_words.specs.View.{view}
use Rattle.iofd_words.specs.World.{World}
use Rattle.iofd_words.specs.declared.query.Answer.TheVariants as answer
use Rattle.iofd_words.specs.declared.query.Query.{Query}
use Rattle.iofd_words.specs.declared.query.Query.TheVariants as query
use Rattle.iofd_words.specs.declared.refusal.Cause.{Cause}
use Rattle.event_device_access.proofs.DeviceReads.{answered_read}
use Rattle.server_state.proofs.ViewShown.{same_query_refusal}
use Rattle.server_state.specs.Choice.{IsLooked}
use Rattle.server_state.specs.Seen.{seen}
use Rattle.server_state.specs.Shows.{Shows}
use Rattle.server_state.specs.Step.{IsAsked, IsKnown, IsTidy}
use Rattle.server_state.specs.declared.state.State.{State}
use Rattle.iommufd_core.proofs.look.bytes_of.Goals as goal

-- ---- what nothing refuses

module _ {A : Type 0} (s : State A) (q : Query) (refused : Option Cause)
    (is : refused ≡ first_true (query_checks (seen s) q)) (no : is_some refused ≡ false) where
  none : None ≡ first_true (query_checks (seen s) q)
  none = by_cause refused no ∙ is
    where
      by_cause : (o : Option Cause) → is_some o ≡ false → None ≡ o
      by_cause None nothing = refl
      by_cause (Some cause) nothing = absurd cc

  -- may be asked
  asked : IsKnown s → IsAsked q s
  asked known = record {
    known = known;
    none = sym (none ∙ same_query_refusal known.world s known.shows known.tidy.tabled.owned q);
  }

  -- and is answered as it is then
  told : (bytes : List ℕ)
      → ((at : ℕ) (w : World) (records : List (Record A)) → IsTidy at w → Shows w s
      → first_true (query_checks (view w) q) ≡ None → IsLooked (lawful_answers w records q) (answer.Read bytes))
      → (at : ℕ) (w : World) (records : List (Record A)) → IsTidy at w → Shows w s
      → IsLooked (answers_in w records q) (answer.Read bytes)
  told bytes looked at w records tidy shows =
      subst (λ lawful. IsLooked lawful (answer.Read bytes))
      (sym (answered_read w records s shows tidy.tabled.owned q none))
      (looked at w records tidy shows (sym (none ∙ same_query_refusal w s shows tidy.tabled.owned q)))

-- ---- of a device

pub bytes-requires : goal.bytes-requires
bytes-requires g c =
    asked c.args.state.now (query.DeviceRead c.in-DeviceRead.device c.in-DeviceRead.iova c.in-DeviceRead.len) _
    (rw c.from.ensures at c.refusal.ensures) (sym c.if-is_some.ensures) c.requires

-- what is known of an Ok is known of the Some that it becomes
of_ok : {X E : Type 0} (r : Result X E) (P Q : X → Type 0) → ((x : X) → P x → Q x) → IfOk r P → IfSome (result_ok r) Q
of_ok (Ok x) P Q weaker known = weaker x known
of_ok (Err e) P Q weaker known = tt

pub returns-else-is_some-clause-read : goal.returns-else-is_some-clause-read
returns-else-is_some-clause-read g c =
    let device_read = query.DeviceRead c.in-DeviceRead.device c.in-DeviceRead.iova c.in-DeviceRead.len in
    rw (c.in-DeviceRead.is, c.ok.ensures.value) (of_ok c.bytes.result _ _
    (λ bytes. told c.args.state.now device_read _ (rw c.from.ensures at c.refusal.ensures)
    (sym c.if-is_some.ensures) bytes.now) c.bytes.ensures.read)

-- ---- of a user

pub bytes-requires-in-UserRead : goal.bytes-requires-in-UserRead
bytes-requires-in-UserRead g c =
    asked c.args.state.now (query.UserRead c.in-UserRead.user c.in-UserRead.va c.in-UserRead.len) _
    (rw c.from-in-UserRead.ensures at c.refusal-in-UserRead.ensures) (sym c.if-is_some-2.ensures) c.requires

pub returns-else-is_some-2-clause-read : goal.returns-else-is_some-2-clause-read
returns-else-is_some-2-clause-read g c =
    rw c.in-UserRead.is (told c.args.state.now
    (query.UserRead c.in-UserRead.user c.in-UserRead.va c.in-UserRead.len) _
    (rw c.from-in-UserRead.ensures at c.refusal-in-UserRead.ensures) (sym c.if-is_some-2.ensures)
    c.bytes-in-UserRead.result.now c.bytes-in-UserRead.ensures.read)

-- ---- of an access object

pub bytes-requires-in-AccessRead : goal.bytes-requires-in-AccessRead
bytes-requires-in-AccessRead g c =
    asked c.args.state.now
    (query.AccessRead c.in-AccessRead.file c.in-AccessRead.access c.in-AccessRead.iova c.in-AccessRead.len) _
    c.refusal-in-AccessRead.ensures (sym c.if-is_some-3.ensures) c.requires

pub returns-else-is_some-3-clause-read : goal.returns-else-is_some-3-clause-read
returns-else-is_some-3-clause-read g c =
    rw c.in-AccessRead.is (told c.args.state.now
    (query.AccessRead c.in-AccessRead.file c.in-AccessRead.access c.in-AccessRead.iova c.in-AccessRead.len) _
    c.refusal-in-AccessRead.ensures (sym c.if-is_some-3.ensures) c.bytes-in-AccessRead.result.now
    c.bytes-in-AccessRead.ensures.read)
