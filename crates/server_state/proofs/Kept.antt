-- Spans that attached devices keep for themselves: what a search among attachments, and then among a device's spans,
-- finds.
use Rattle.std.proofs.Common.{◌≡◌, Bool, true, false, ◌&&◌, eqb, Option, Some, None, is_some, find, List, MatchOption}
use Rattle.std.proofs.Common.{ap, sym, ◌∙◌}
use Rattle.std.specs.List.{filter, list_any}
use Rattle.std.proofs.lemmas.List.Folds.{list_any-append}
use Rattle.iofd_rows.proofs.Bools.{and_true, both_false, both_true, clash, or_none}
use Rattle.iofd_rows.proofs.Each.{IsIn, in_found, of_any}
use Rattle.iofd_rows.proofs.ListTests.{any-filter, or_left, or_right}
use Rattle.iofd_rows.proofs.Unusable.{any-flat_map, by_rows}
use Rattle.iofd_rows.specs.Reached.{ends_in, keeps_of}
use Rattle.iofd_runs.proofs.OwnIds.{any_found}
use Rattle.iofd_words.specs.Attachments.{is_attached_to}
use Rattle.iofd_words.specs.Bounds.{Bounds}
use Rattle.iofd_words.specs.Files.{device_of}
use Rattle.iofd_words.specs.Objects.{is_hwpt_over}
use Rattle.iofd_words.specs.Ranges.{meets_some}
use Rattle.iofd_words.specs.Settings.{Settings}
use Rattle.iofd_words.specs.Span.{meets}
use Rattle.iofd_words.specs.Usable.{beyond, beyond_table, beyond_tables, reserved_in, reserved_of, unusable}
use Rattle.iofd_words.specs.declared.numbers.FileNo.{FileNo}
use Rattle.iofd_words.specs.declared.numbers.ObjId.{ObjId}
use Rattle.iofd_words.specs.declared.rows.Attachment.{Attachment}
use Rattle.iofd_words.specs.declared.rows.Object.{Object}
use Rattle.iofd_words.specs.declared.rows.ObjectKind.{ObjectKind}
use Rattle.iofd_words.specs.declared.rows.ObjectKind.TheVariants as kind
use Rattle.server_state.proofs.PageTables.{any_kept, over_is_table}
use Rattle.server_state.specs.Choice.{first_of}
use Rattle.server_state.specs.Reach.{IsOneOf}
use Rattle.server_state.specs.Tables.{page_tables_among}

pub none_found : {X : Type 0} (p : X → Bool) (xs : List X) → find p xs ≡ None → list_any p xs ≡ false
none_found p xs none = any_found p xs ∙ ap (λ o. is_some o) none

pub some_found : {X : Type 0} (p : X → Bool) (xs : List X) (o : Option X) → o ≡ find p xs → list_any p xs ≡ is_some o
some_found p xs o is = any_found p xs ∙ ap (λ o. is_some o) (sym is)

module _ (settings : Settings) (objects : List Object) (attachments : List Attachment) (file : FileNo)
    (ioas : ObjId) (span : Bounds) where
  -- what a device that is attached keeps is reserved
  among : (a : Attachment) (one : Bounds) (test : Bounds → Bool) → IsIn attachments a
      → is_attached_to objects file ioas a ≡ true → IsIn (reserved_of (device_of settings a.device)) one
      → test one ≡ true
      → list_any test (reserved_in settings objects attachments file ioas) ≡ true
  among a one test within attached kept met =
      any-flat_map test (λ (x : Attachment). reserved_of (device_of settings x.device))
      (filter (is_attached_to objects file ioas) attachments)
      ∙ any-filter (λ (x : Attachment). list_any test (reserved_of (device_of settings x.device)))
      (is_attached_to objects file ioas) attachments
      ∙ of_any (λ (x : Attachment). is_attached_to objects file ioas x
      && list_any test (reserved_of (device_of settings x.device))) attachments a within
      (both_true _ _ attached (of_any test (reserved_of (device_of settings a.device)) one kept met))

  pub kept_found : (a : Attachment) (o : Option Bounds)
      → find (keeps_of settings objects file ioas span) attachments ≡ Some a
      → o ≡ find (λ (one : Bounds). meets one span) (reserved_of (device_of settings a.device))
      → MatchOption o (list_any (keeps_of settings objects file ioas span) attachments ≡ false)
      (λ (one : Bounds). IsOneOf (reserved_in settings objects attachments file ioas) span one)
  kept_found a o found is =
      let keeper = in_found (keeps_of settings objects file ioas span) attachments a found in
      let parts = and_true (is_attached_to objects file ioas a)
      (meets_some (reserved_of (device_of settings a.device)) span) keeper.1 in
      by_found o is keeper.0 parts.0 parts.1
    where
      by_found : (o : Option Bounds) → o ≡ find (λ (one : Bounds). meets one span)
          (reserved_of (device_of settings a.device)) → IsIn attachments a → is_attached_to objects file ioas a ≡ true
          → meets_some (reserved_of (device_of settings a.device)) span ≡ true
          → MatchOption o (list_any (keeps_of settings objects file ioas span) attachments ≡ false)
          (λ (one : Bounds). IsOneOf (reserved_in settings objects attachments file ioas) span one)
      by_found None is within attached some = absurd
          (clash _ (some_found (λ (one : Bounds). meets one span) (reserved_of (device_of settings a.device)) None is)
          some)
      by_found (Some one) is within attached some =
          let kept =
          in_found (λ (one : Bounds). meets one span) (reserved_of (device_of settings a.device)) one (sym is) in
          record { met = kept.1; among = λ test met. among a one test within attached kept.0 met }

  -- what can't be used is what no table translates and what devices keep
  pub unusable_found : (o : Option Bounds) → list_any (ends_in file ioas span) objects ≡ false
      → MatchOption o (list_any (keeps_of settings objects file ioas span) attachments ≡ false)
      (IsOneOf (reserved_in settings objects attachments file ioas) span)
      → MatchOption o (meets_some (unusable settings objects attachments file ioas) span ≡ false)
      (IsOneOf (unusable settings objects attachments file ioas) span)
  unusable_found None ends keeps = by_rows settings objects attachments file ioas span ∙ both_false _ _ ends keeps
  unusable_found (Some one) ends is =
      record {
        met = is.met;
        among = λ test passes.
            list_any-append test (beyond_tables objects file ioas) (reserved_in settings objects attachments file ioas)
            ∙ or_right (list_any test (beyond_tables objects file ioas)) _ (is.among test passes);
      }

  pub unusable_beyond : (one : Bounds) → IsOneOf (beyond_tables objects file ioas) span one
      → IsOneOf (unusable settings objects attachments file ioas) span one
  unusable_beyond one is =
      record {
        met = is.met;
        among = λ test passes.
            list_any-append test (beyond_tables objects file ioas) (reserved_in settings objects attachments file ioas)
            ∙ or_left (list_any test (beyond_tables objects file ioas)) _ (is.among test passes);
      }

-- ---- page tables

module _ (tables objects : List Object) (are : tables ≡ page_tables_among objects) (file : FileNo)
    (ioas : ObjId) (span : Bounds) where
  abbrev over : Object → Bool
  over o = eqb o.file.0 file.0 && is_hwpt_over ioas o.kind

  pub none_ends : find (ends_in file ioas span) tables ≡ None → list_any (ends_in file ioas span) objects ≡ false
  none_ends none =
      any_kept tables objects are (ends_in file ioas span)
      (λ o ends. over_is_table ioas o.kind (and_true (eqb o.file.0 file.0) (is_hwpt_over ioas o.kind)
      (and_true (over o) (meets_some (beyond_table o.kind) span) ends).0).1)
      ∙ none_found (ends_in file ioas span) tables none

  among_tables : (object : Object) (test : Bounds → Bool) → IsIn tables object → over object ≡ true
      → list_any test (beyond_table object.kind) ≡ true → list_any test (beyond_tables objects file ioas) ≡ true
  among_tables object test within here passes =
      any-flat_map test (λ (o : Object). beyond_table o.kind) (filter over objects)
      ∙ any-filter (λ (o : Object). list_any test (beyond_table o.kind)) over objects
      ∙ any_kept tables objects are (λ (o : Object). over o && list_any test (beyond_table o.kind))
      (λ o both. over_is_table ioas o.kind (and_true (eqb o.file.0 file.0) (is_hwpt_over ioas o.kind)
      (and_true (over o) (list_any test (beyond_table o.kind)) both).0).1)
      ∙ of_any (λ (o : Object). over o && list_any test (beyond_table o.kind)) tables object within
      (both_true _ _ here passes)

  pub end_found : (object : Object) (o : Option Bounds) → find (ends_in file ioas span) tables ≡ Some object
      → o ≡ first_of (beyond_table object.kind)
      → MatchOption o (list_any (ends_in file ioas span) objects ≡ false)
      (IsOneOf (beyond_tables objects file ioas) span)
  end_found object o found is =
      let place = in_found (ends_in file ioas span) tables object found in
      let parts = and_true (over object) (meets_some (beyond_table object.kind) span) place.1 in
      by_kind object.kind o is (and_true (eqb object.file.0 file.0) (is_hwpt_over ioas object.kind) parts.0).1 parts.1
      (λ test. among_tables object test place.0 parts.0)
    where
      by_kind : (k : ObjectKind) (o : Option Bounds) → o ≡ first_of (beyond_table k) → is_hwpt_over ioas k ≡ true
          → meets_some (beyond_table k) span ≡ true
          → ((test : Bounds → Bool) → list_any test (beyond_table k) ≡ true
          → list_any test (beyond_tables objects file ioas) ≡ true)
          → MatchOption o (list_any (ends_in file ioas span) objects ≡ false)
          (IsOneOf (beyond_tables objects file ioas) span)
      by_kind kind.Ioas o is over met among = cc
      by_kind (kind.Device device) o is over met among = cc
      by_kind (kind.Access attached) o is over met among = cc
      by_kind (kind.Hwpt own width automatic) None is over met among = cc
      by_kind (kind.Hwpt own width automatic) (Some one) is over met among =
          let same : one ≡ beyond width = cc in
          record {
            met = rw same (sym (or_none (meets (beyond width) span)) ∙ met);
            among = λ test passes. among test (or_none (test (beyond width)) ∙ ap test (sym same) ∙ passes);
          }
