-- What a guard shows, and what a commit makes, said of settings and records.
use Rattle.std.proofs.Common.{◌≡◌, ℕ, List, [], ◌∷◌, ◌++◌, length, drop, ap, refl, sym, ◌∙◌, subst}
use Rattle.std.proofs.Common.{append-nil, Result, Ok, Err, Vec}
use Rattle.std.proofs.lemmas.List.{append_cancel_left}
use Rattle.iofd_words.specs.Bounds.{Bounds}
use Rattle.iofd_steps.specs.Look.{answers_to}
use Rattle.iofd_steps.specs.Run.{IsRun}
use Rattle.iofd_words.specs.Settings.{Settings}
use Rattle.iofd_words.specs.declared.call_error.CallError.{CallError}
use Rattle.iofd_words.specs.declared.call_error.CallError.TheVariants as error
use Rattle.iofd_words.specs.declared.event.Act.{Act}
use Rattle.iofd_words.specs.declared.numbers.FileNo.{FileNo}
use Rattle.iofd_words.specs.declared.numbers.ObjId.{ObjId}
use Rattle.iofd_words.specs.declared.query.Answer.{Answer}
use Rattle.iofd_words.specs.declared.query.Query.{Query}
use Rattle.ioctl_codec.specs.declared.command.RangesRequest.{RangesRequest}
use Rattle.iommufd_core.specs.History.{History}
use Rattle.iommufd_core.specs.declared.apply.Stamp.{Stamp}
use Rattle.iova_ranges.specs.declared.range_set.RangeSet.{RangeSet}
use Rattle.journal_audit_writing.specs.declared.whole.JournalError.{JournalError}
use Rattle.lane_lock.specs.History.{Legal, StartsWith, made_by}
use Rattle.lane_lock.specs.Outcomes.{HadLane, HadNoLane, OnlySees}
use Rattle.lane_lock.specs.Passes.{SamePass, number_of, view_of}
use Rattle.lane_lock.specs.Views.{IsBlank}
use Rattle.server_state.specs.Choice.{IsLooked}
use Rattle.guarded_core.specs.Applied.{IsApplied}
use Rattle.guarded_core.specs.Entries.{history_of, maker_of, told}
use Rattle.guarded_core.specs.Told.{TellsRanges}
use Rattle.shared_iommufd.specs.Ioctls.{AnswersRanges, AnswersSet, IsTold}
use Rattle.shared_iommufd.specs.Made.{Makes}
use Rattle.guarded_core.specs.Passes.{CoreGhosts, CorePass}
use Rattle.shared_iommufd.specs.Seen.{AreNotices, HasSeen, IsAnswered, IsJournalOf}
use Rattle.guarded_core.specs.Told.{TellsJournal, TellsNotices}
use Rattle.shared_iommufd.specs.declared.ioctl_answer.IoctlAnswer.{IoctlAnswer}
use Rattle.guarded_core.specs.declared.kept_core.Entry.{Entry}
use Rattle.guarded_core.specs.declared.kept_core.Entry.TheVariants as entry
use Rattle.guarded_core.proofs.Entered.{starts_so, is_history, one_entry, same_settings, told_more}

module _ {A : Type 0} {g : CoreGhosts A} where
  -- the pass has seen all that the core h tells, which begins with the opening o
  pub has_seen : (settings : Settings) (o h : History A) (p : CorePass A g) → o.settings ≡ settings → o.records ≡ []
      → StartsWith (told h) (told o) → IsRun h.settings h.records → (view_of p).seen ≡ told h
      → Legal maker_of (length (told o)) (told h) (number_of p) (view_of p).seen (view_of p).made
      → IsBlank (view_of p)
      → HasSeen settings p h.records
  has_seen settings o h p opened fresh starts run seen legal home =
      let e : h.settings ≡ settings = same_settings h o starts ∙ opened in
      let is : h ≡ history_of settings h.records = is_history h settings e in
      let base : length (told o) ≡ 1 = one_entry o fresh in
      record {
        seen = seen ∙ ap (told {A = A}) is;
        run = subst (λ (s : Settings). IsRun s h.records) e run;
        legal = subst
            (λ (c : ℕ × History A). Legal maker_of c.0 (told c.1) (number_of p) (view_of p).seen (view_of p).made)
            (λ i. (base i, is i)) legal;
        home = home;
      }

  -- and the core h has answered a question so
  pub answered : (settings : Settings) (o h : History A) (p : CorePass A g) (query : Query) (answer : Answer)
      → o.settings ≡ settings → o.records ≡ [] → StartsWith (told h) (told o) → IsRun h.settings h.records
      → (view_of p).seen ≡ told h
      → Legal maker_of (length (told o)) (told h) (number_of p) (view_of p).seen (view_of p).made
      → IsBlank (view_of p)
      → IsLooked (answers_to h.settings h.records query) answer → IsAnswered settings p query answer
  answered settings o h p query answer opened fresh starts run seen legal home looked =
      let e : h.settings ≡ settings = same_settings h o starts ∙ opened in
      record {
        records = h.records;
        seen = has_seen settings o h p opened fresh starts run seen legal home;
        looked = subst (λ (s : Settings). IsLooked (answers_to s h.records query) answer) e looked;
      }

  -- and has told notices so
  pub notified : (settings : Settings) (o h : History A) (p : CorePass A g) (file : FileNo) (access : ObjId)
      (answer : Result (Vec Bounds A) CallError) → o.settings ≡ settings → o.records ≡ []
      → StartsWith (told h) (told o) → IsRun h.settings h.records → (view_of p).seen ≡ told h
      → Legal maker_of (length (told o)) (told h) (number_of p) (view_of p).seen (view_of p).made
      → IsBlank (view_of p)
      → TellsNotices h file access answer → AreNotices settings p file access answer
  notified settings o h p file access answer opened fresh starts run seen legal home tells =
      let e : h.settings ≡ settings = same_settings h o starts ∙ opened in
      record {
        records = h.records;
        seen = has_seen settings o h p opened fresh starts run seen legal home;
        tells = subst (λ (x : History A). TellsNotices x file access answer) (is_history h settings e) tells;
      }

  -- and has told its journal so
  pub journalled : (settings : Settings) (o h : History A) (p : CorePass A g) (answer : Result (Vec ℕ A) JournalError)
      → o.settings ≡ settings → o.records ≡ [] → StartsWith (told h) (told o) → IsRun h.settings h.records
      → (view_of p).seen ≡ told h
      → Legal maker_of (length (told o)) (told h) (number_of p) (view_of p).seen (view_of p).made
      → IsBlank (view_of p)
      → TellsJournal h answer → IsJournalOf settings p answer
  journalled settings o h p answer opened fresh starts run seen legal home tells =
      let e : h.settings ≡ settings = same_settings h o starts ∙ opened in
      record {
        records = h.records;
        seen = has_seen settings o h p opened fresh starts run seen legal home;
        tells = subst (λ (x : History A). TellsJournal x answer) (is_history h settings e) tells;
      }

  -- The pass is p as the call begins, q before the act and r after it; the core tells old before the act, and new after
  -- it.
  pub makes_from : (settings : Settings) (o old new : History A) (p q r : CorePass A g) (act : Act A) (stamp : Stamp)
      (x : Entry A) → o.settings ≡ settings → o.records ≡ [] → StartsWith (told old) (told o) → SamePass p q
      → OnlySees (view_of p) (view_of q) → StartsWith (told old) (view_of q).seen
      → made_by maker_of (number_of q) (drop (length (told o)) (told old)) ≡ (view_of q).made
      → IsApplied (record { 0 = number_of q }) act stamp old new → (view_of r).seen ≡ told new
      → (view_of r).seen ≡ told old ++ x ∷ [] → (view_of r).made ≡ (view_of q).made ++ x ∷ []
      → IsBlank (view_of r) → HadNoLane (view_of p) (view_of r)
      → (m : Makes settings p act stamp r) × (m.before ≡ old.records)
  makes_from settings o old new p q r act stamp x opened fresh starts same sees later mine applied seen grown own home
      had =
      let e : old.settings ≡ settings = same_settings old o starts ∙ opened in
      let was : old ≡ history_of settings old.records = is_history old settings e in
      let made = applied.one_more.made in
      let more : new ≡ record old { records = old.records ++ made ∷ [] } = applied.one_more.records in
      let is : new ≡ history_of settings (old.records ++ made ∷ []) =
      more ∙ is_history (record old { records = old.records ++ made ∷ [] }) settings e in
      let both : told old ++ x ∷ [] ≡ told old ++ entry.Made made ∷ [] =
      sym grown ∙ (seen ∙ (ap (told {A = A}) more ∙ told_more old made)) in
      let last : x ∷ [] ≡ entry.Made made ∷ [] = append_cancel_left (told old) (x ∷ []) (entry.Made made ∷ []) both in (
        record {
          before = old.records;
          made = made;
          later = subst (λ (h : History A). StartsWith (told h) (view_of p).seen) was
              (starts_so (told old) (view_of q).seen (view_of p).seen later sees.later);
          mine = subst (λ (c : ℕ × ℕ × List (Entry A)). made_by maker_of c.0 (drop c.1 (told old)) ≡ c.2)
              (λ i. (same.number i, one_entry o fresh i, sees.made i)) mine;
          applied = subst (λ (c : ℕ × History A × History A). IsApplied (record { 0 = c.0 }) act stamp c.1 c.2)
              (λ i. (same.number i, was i, is i)) applied;
          seen = seen ∙ ap (told {A = A}) is;
          own = own ∙ (λ i. sees.made i ++ last i);
          home = home;
          had = had;
        },
        refl,
      )

  pub makes : (settings : Settings) (o old new : History A) (p q r : CorePass A g) (act : Act A) (stamp : Stamp)
      (x : Entry A) → o.settings ≡ settings → o.records ≡ [] → StartsWith (told old) (told o) → SamePass p q
      → OnlySees (view_of p) (view_of q) → StartsWith (told old) (view_of q).seen
      → made_by maker_of (number_of q) (drop (length (told o)) (told old)) ≡ (view_of q).made
      → IsApplied (record { 0 = number_of q }) act stamp old new → (view_of r).seen ≡ told new
      → (view_of r).seen ≡ told old ++ x ∷ [] → (view_of r).made ≡ (view_of q).made ++ x ∷ []
      → IsBlank (view_of r) → HadNoLane (view_of p) (view_of r)
      → Makes settings p act stamp r
  makes settings o old new p q r act stamp x opened fresh starts same sees later mine applied seen grown own home had =
      (makes_from settings o old new p q r act stamp x opened fresh starts same sees later mine applied seen grown own
      home had).0

  -- a pass is itself, and has seen what it has seen
  pub same_pass : (p : CorePass A g) → SamePass p p
  same_pass p = record { table = refl; number = refl; lane = refl }

  pub sees_same : (p : CorePass A g) → OnlySees (view_of p) (view_of p)
  sees_same p = record {
    number = refl;
    opening = refl;
    passes = refl;
    made = refl;
    later = ([], sym (append-nil (view_of p).seen));
  }
