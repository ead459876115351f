-- What a core tells through its lock, and how that grows.
use Rattle.std.proofs.Common.{append_assoc}
use Rattle.std.proofs.Common.{◌≡◌, List, [], ◌∷◌, ◌++◌, length, map, refl, ap, ◌∙◌, Result, Ok, Err, IfOk}
use Rattle.std.proofs.lemmas.List.{map-append}
use Rattle.iofd_words.specs.Record.{Record}
use Rattle.iofd_words.specs.Settings.{Settings}
use Rattle.iofd_words.specs.declared.event.Event.{Event}
use Rattle.iofd_words.specs.declared.numbers.PassNo.{PassNo}
use Rattle.iofd_words.specs.declared.refusal.NoMemory.{NoMemory}
use Rattle.iommufd_core.specs.History.{HasOneMore, History}
use Rattle.iommufd_core.specs.declared.apply.Stamp.{Stamp}
use Rattle.lane_lock.specs.History.{StartsWith}
use Rattle.guarded_core.specs.Entries.{history_of, maker_of, told}
use Rattle.guarded_core.specs.declared.kept_core.Entry.{Entry}
use Rattle.guarded_core.specs.declared.kept_core.Entry.TheVariants as entry

module _ {A : Type 0} where
  -- the history begins with what begins what it begins with
  pub starts_so : (h b a : List (Entry A)) → StartsWith h b → StartsWith b a → StartsWith h a
  starts_so h b a s t = (t.0 ++ s.0, s.1 ∙ (ap (λ (l : List (Entry A)). l ++ s.0) t.1 ∙ append_assoc a t.0 s.0))

  -- what begins with an opening tells its settings
  pub same_settings : (h o : History A) → StartsWith (told h) (told o) → h.settings ≡ o.settings
  same_settings h o (more, e) = cc

  pub is_history : (h : History A) (settings : Settings) → h.settings ≡ settings → h ≡ history_of settings h.records
  is_history h settings e = λ i. record { settings = e i; records = h.records }

  -- one record more is one entry more
  pub told_more : (h : History A) (r : Record A)
      → told (record h { records = h.records ++ r ∷ [] }) ≡ told h ++ entry.Made r ∷ []
  told_more h r = ap (λ (l : List (Entry A)). entry.Opened h.settings ∷ l) (map-append entry.Made h.records (r ∷ []))

  -- an opening without records is one entry
  pub one_entry : (o : History A) → o.records ≡ [] → length (told o) ≡ 1
  one_entry o none = ap (λ (l : List (Record A)). length (told (history_of o.settings l))) none

  -- where an act was applied, the core tells one entry more, of the caller
  pub one_entry_more : (caller : PassNo) (e : Event A) (old new : History A) (r : Result Stamp NoMemory)
      → IfOk r (λ stamp. HasOneMore caller e stamp.reply old new)
      → IfOk r (λ _. (x : Entry A) × (told new ≡ told old ++ x ∷ []) × (maker_of x ≡ caller.0))
  one_entry_more caller e old new (Ok stamp) more = (
    entry.Made more.made,
    ap (told {A = A}) more.records ∙ told_more old more.made,
    ap (λ (pass : PassNo). pass.0) more.pass,
  )
  one_entry_more caller e old new (Err error) more = tt

  none_mapped : (rs : List (Record A)) → map entry.Made rs ≡ [] → rs ≡ []
  none_mapped [] e = refl
  none_mapped (r ∷ rs) e = cc

  -- a lock over a core without records was opened with its settings, and no records
  pub opened_so : (o h : History A) (settings : Settings) → told o ≡ told h → h ≡ history_of settings []
      → (o.settings ≡ settings) × (o.records ≡ [])
  opened_so o h settings same new =
      let e : told o ≡ told (history_of settings []) = same ∙ ap (told {A = A}) new in (cc, none_mapped o.records cc)
