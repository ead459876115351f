use Rattle.std.proofs.Common.{◌≡◌, ℕ, Bool, true, false, not, Option, Some, None, is_some, List, [], ◌∷◌, refl, sym}
use Rattle.std.proofs.Common.{◌∙◌, ap, subst, arith}
use Rattle.std.specs.Option.{option_map, unwrap_or}
use Rattle.iofd_words.specs.Attachments.{attachment_of}
use Rattle.iofd_words.specs.Files.{device_of, is_device}
use Rattle.iofd_words.specs.FirstTrue.{first_true}
use Rattle.iofd_words.specs.Record.{Record}
use Rattle.iofd_words.specs.Settings.{DeviceSettings, Settings}
use Rattle.iofd_words.specs.Turns.{turns_of}
use Rattle.iofd_words.specs.View.{View}
use Rattle.iofd_words.specs.Walk.{translation}
use Rattle.iofd_words.specs.declared.numbers.DeviceNo.{DeviceNo}
use Rattle.iofd_words.specs.declared.numbers.ObjId.{ObjId}
use Rattle.iofd_words.specs.declared.query.Answer.TheVariants as answer
use Rattle.iofd_words.specs.declared.query.Query.{Query}
use Rattle.iofd_words.specs.declared.query.Translation.{Translation}
use Rattle.iofd_words.specs.declared.refusal.Cause.TheVariants as cause
use Rattle.iommufd_core.specs.TurnCounts.{AreTurns, count_for}
use Rattle.server_state.specs.Choice.{IsLooked}
use Rattle.server_state.proofs.ViewShown.{same_count, same_view}
use Rattle.server_state.specs.Step.{IsAsked}
use Rattle.iommufd_core.proofs.look.answer.Goals as goal

pub read-requires : goal.read-requires
read-requires g c = subst (λ (query : Query). IsAsked query c.args.state.now) c.in-DeviceRead.is c.requires.asked

pub read-requires-in-UserRead : goal.read-requires-in-UserRead
read-requires-in-UserRead g c =
    subst (λ (query : Query). IsAsked query c.args.state.now) c.in-UserRead.is c.requires.asked

pub read-requires-in-AccessRead : goal.read-requires-in-AccessRead
read-requires-in-AccessRead g c =
    subst (λ (query : Query). IsAsked query c.args.state.now) c.in-AccessRead.is c.requires.asked

pub returns-in-DeviceRead : goal.returns-in-DeviceRead
returns-in-DeviceRead g c =
    rw c.in-DeviceRead.is (λ at w records tidy shows turns. c.read.ensures at w records tidy shows)

pub returns-in-UserRead : goal.returns-in-UserRead
returns-in-UserRead g c =
    rw c.in-UserRead.is (λ at w records tidy shows turns. c.read-in-UserRead.ensures at w records tidy shows)

pub returns-in-AccessRead : goal.returns-in-AccessRead
returns-in-AccessRead g c =
    rw c.in-AccessRead.is (λ at w records tidy shows turns. c.read-in-AccessRead.ensures at w records tidy shows)

-- the one lawful answer
one_count : (n m : ℕ) → m ≡ n → IsLooked (answer.Count n ∷ []) (answer.Count m)
one_count n m is = record { is_lawful = (0, omega arith, ap answer.Count (sym is)); is_fault_else = λ has. cc }

one_attached : (o p : Option ObjId) → p ≡ o → IsLooked (answer.Attached o ∷ []) (answer.Attached p)
one_attached o p is = record { is_lawful = (0, omega arith, ap answer.Attached (sym is)); is_fault_else = λ has. cc }

pub returns-in-FreeFrames : goal.returns-in-FreeFrames
returns-in-FreeFrames g c =
    rw c.in-FreeFrames.is (λ at w records tidy shows turns none. one_count _ _
    (c.from.ensures ∙ c.free_count.ensures ∙ same_count w c.args.state.now shows))

pub returns-in-Held : goal.returns-in-Held
returns-in-Held g c =
    rw c.in-Held.is (λ at w records tidy shows turns none. one_count _ _
    (c.held.ensures ∙ ap (λ (v : View). v.held_by c.in-Held.user)
    (same_view w c.args.state.now shows tidy.tabled.owned)))

-- its known page table
pub hwpt_of-requires : goal.hwpt_of-requires
hwpt_of-requires g c = c.requires.asked.known

pub returns-in-AttachedTo : goal.returns-in-AttachedTo
returns-in-AttachedTo g c =
    rw c.in-AttachedTo.is (λ at w records tidy shows turns none. one_attached _ _
    (c.hwpt_of.ensures
    ∙ ap (λ (v : View). option_map (λ a. a.hwpt) (attachment_of v.attachments c.in-AttachedTo.device))
    (same_view w c.args.state.now shows tidy.tabled.owned)))

-- ---- of a port

-- what isn't refused for its device has one that is there
there_is : (settings : Settings) (device : DeviceNo)
    → first_true ((cause.Id, not (is_device settings device)) ∷ []) ≡ None → is_device settings device ≡ true
there_is settings device none = by_test (is_device settings device) none
  where
    by_test : (b : Bool) → first_true ((cause.Id, not b) ∷ []) ≡ None → b ≡ true
    by_test true is = refl
    by_test false is = cc

-- the turns of a device that is there
one_turns : {A : Type 0} (counts : List ℕ) (settings : Settings) (records : List (Record A)) (device : DeviceNo)
    (count : ℕ) → AreTurns counts settings records → is_device settings device ≡ true
    → count ≡ unwrap_or (count_for counts device) 0
    → IsLooked (answer.Count (turns_of device records) ∷ []) (answer.Count count)
one_turns counts settings records device count are there is =
    one_count _ _ (by_device (device_of settings device) there (is ∙ ap (λ (o : Option ℕ). unwrap_or o 0) (are device)))
  where
    by_device : (o : Option DeviceSettings) → is_some o ≡ true
        → count ≡ unwrap_or (option_map (λ there. turns_of device records) o) 0 → count ≡ turns_of device records
    by_device None there is = cc
    by_device (Some settings) there is = is

pub returns-in-Turns : goal.returns-in-Turns
returns-in-Turns g c =
    rw c.in-Turns.is (λ at w records tidy shows turns none.
    one_turns c.args.turns.now c.args.state.now.config records c.in-Turns.device c.unwrap_or.result turns
    (ap (λ (settings : Settings). is_device settings c.in-Turns.device) (sym shows.settings)
    ∙ there_is w.settings c.in-Turns.device none)
    (c.unwrap_or.ensures ∙ ap (λ (o : Option ℕ). unwrap_or o 0) c.count_for.ensures))

pub walk_for-requires : goal.walk_for-requires
walk_for-requires g c = c.requires.asked.known

one_walk : (o p : Option Translation) → p ≡ o → IsLooked (answer.Walk o ∷ []) (answer.Walk p)
one_walk o p is = record { is_lawful = (0, omega arith, ap answer.Walk (sym is)); is_fault_else = λ has. cc }

pub returns-in-WalkFor : goal.returns-in-WalkFor
returns-in-WalkFor g c =
    rw c.in-WalkFor.is (λ at w records tidy shows turns none. one_walk _ _
    (c.walk_for.ensures
    ∙ ap (λ (v : View). translation v c.in-WalkFor.device c.in-WalkFor.iova.0)
    (same_view w c.args.state.now shows tidy.tabled.owned)))

pub cached-requires-clause-asked : goal.cached-requires-clause-asked
cached-requires-clause-asked g c =
    subst (λ (query : Query). IsAsked query c.args.state.now) c.in-CachedRead.is c.requires.asked

pub cached-requires-clause-passes : goal.cached-requires-clause-passes
cached-requires-clause-passes g c = rw c.in-CachedRead.is at c.requires.may

pub returns-in-CachedRead : goal.returns-in-CachedRead
returns-in-CachedRead g c =
    rw c.in-CachedRead.is (λ at w records tidy shows turns. c.cached.ensures at w records tidy shows)

pub report-requires : goal.report-requires
report-requires g c = subst (λ (query : Query). IsAsked query c.args.state.now) c.in-Dirty.is c.requires.asked

pub returns-in-Dirty : goal.returns-in-Dirty
returns-in-Dirty g c =
    rw c.in-Dirty.is (λ at w records tidy shows turns. c.report.ensures at w records tidy shows)
