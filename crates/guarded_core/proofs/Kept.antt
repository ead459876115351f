-- What a port keeps serves under a later guard, and what it keeps once that is gone.
use Rattle.std.proofs.Common.{◌≡◌, ◌⊎◌, ℕ, ◌-◌, Bool, true, false, cond, eqb, nat_eq, inl, inr, Option, Some, None, List, []}
use Rattle.std.proofs.Common.{◌∷◌, ◌++◌, map, take, refl, sym, ap, subst, ◌∙◌}
use Rattle.std.proofs.Common.{arith}
use Rattle.std.proofs.Math.Logic.{∥∥₁_elim, ∥∥₁_map}
use Rattle.std.proofs.Props.{props}
use Rattle.std.proofs.lemmas.Bool.{eqb-true}
use Rattle.std.specs.Map.{lookup, remove_entry}
use Rattle.lru.proofs.CallerLemmas.{Contains-remove_entry, Contains-take}
use Rattle.lru.proofs.Splits.{Contains-cons, Contains-nil}
use Rattle.iofd_steps.specs.Look.{passes_in}
use Rattle.iofd_words.specs.Pages.{crosses, page_of}
use Rattle.iofd_words.specs.Rights.{has_right}
use Rattle.iofd_steps.specs.Run.{IsRun}
use Rattle.iofd_words.specs.Record.{Record}
use Rattle.iofd_words.specs.Settings.{Settings}
use Rattle.iofd_words.specs.Turns.{turns_of}
use Rattle.iofd_words.specs.View.{view}
use Rattle.iofd_words.specs.Walk.{translation}
use Rattle.iofd_words.specs.declared.fault.AccessKind.{AccessKind}
use Rattle.iofd_words.specs.declared.numbers.DeviceNo.{DeviceNo}
use Rattle.iofd_words.specs.declared.query.Translation.{Translation}
use Rattle.iofd_interleavings.proofs.Interleaved.{every_interleaving}
use Rattle.iofd_interleavings.specs.Caches.{Entry as CacheEntry, IsBacked}
use Rattle.iofd_interleavings.specs.Interleavings.{EveryInterleaving}
use Rattle.iommufd_core.specs.History.{History, world}
use Rattle.lane_lock.specs.History.{StartsWith}
use Rattle.port_cache.specs.Cached.{IsUsed, Leaves, Translations, compared, used, with_right}
use Rattle.guarded_core.specs.Caches.{AreSound, IsGood, MayKeep, Serves, WereSound, either_with_right, entry_of, found}
use Rattle.guarded_core.specs.Entries.{history_of, told}
use Rattle.guarded_core.specs.declared.kept_core.Entry.{Entry}
use Rattle.guarded_core.specs.declared.kept_core.Entry.TheVariants as entry
use Rattle.guarded_core.proofs.Entered.{starts_so}
use Rattle.port_cache.proofs.Used.{contains_page}

-- ---- histories that begin with what was told

module _ {A : Type 0} where
  abbrev made_in : List (Entry A) → List (Record A)
  made_in [] = []
  made_in (entry.Opened settings ∷ es) = made_in es
  made_in (entry.Made made ∷ es) = made ∷ made_in es

  made_in-append : (a b : List (Entry A)) → made_in (a ++ b) ≡ made_in a ++ made_in b
  made_in-append [] b = refl
  made_in-append (entry.Opened settings ∷ a) b = made_in-append a b
  made_in-append (entry.Made made ∷ a) b = ap (λ l. made ∷ l) (made_in-append a b)

  made_in-made : (rs : List (Record A)) → made_in (map entry.Made rs) ≡ rs
  made_in-made [] = refl
  made_in-made (r ∷ rs) = ap (λ l. r ∷ l) (made_in-made rs)

  abbrev settings_in : Settings → List (Entry A) → Settings
  settings_in other (entry.Opened settings ∷ es) = settings
  settings_in other es = other

  -- the one is the other, with more records
  pub is_longer : (h b : History A) → StartsWith (told h) (told b)
      → (more : List (Record A)) × (h ≡ history_of b.settings (b.records ++ more))
  is_longer h b (rest, is) = (
    made_in rest,
    λ i. record {
      settings = settings i;
      records = records i;
    },
  )
    where
      settings : h.settings ≡ b.settings
      settings = ap (settings_in h.settings) is

      records : h.records ≡ b.records ++ made_in rest
      records = sym (made_in-made h.records) ∙ (ap made_in is
          ∙ (made_in-append (told b) rest ∙ ap (λ l. l ++ made_in rest) (made_in-made b.records)))

-- ---- what serves

module _ {A : Type 0} (device : DeviceNo) where
  none_sound : (h : History A) → AreSound h device []
  none_sound h page t has = absurd (Contains-nil (page, t) has)

  -- a translation that was good is good as long as the device has no turn
  stays_backed : (b : History A) (more : List (Record A)) (e : CacheEntry) → IsRun b.settings (b.records ++ more)
      → turns_of device (b.records ++ more) ≡ turns_of device b.records → IsBacked (world b) device e
      → IsBacked (world (history_of b.settings (b.records ++ more))) device e
  stays_backed b more e run same backed =
      let law : EveryInterleaving A = every_interleaving in
      law.stays b.settings b.records more device (e ∷ []) run same
      (λ x has. elim (Contains-cons e [] x has) [
        | inl is ↦ subst (λ (y : CacheEntry). IsBacked (world b) device y) is backed
        | inr later ↦ absurd (Contains-nil x later)
      ]) e (0, omega arith, refl)

  were_then : (h : History A) (turns : ℕ) (kept : Translations) → IsRun h.settings h.records
      → turns ≡ turns_of device h.records → (kept ≡ []) ⊎ WereSound told device (told h) turns kept → AreSound h device kept
  were_then h turns kept run same (inl none) = subst (AreSound h device) (sym none) (none_sound h)
  were_then h turns kept run same (inr were) =
      let (more, is) = is_longer h were.history were.later in
      let long = history_of were.history.settings (were.history.records ++ more) in
      let all : IsRun long.settings long.records = subst (λ (x : History A). IsRun x.settings x.records) is run in
      let turned : turns_of device long.records ≡ turns_of device were.history.records =
      ap (λ (x : History A). turns_of device x.records) (sym is) ∙ (sym same ∙ sym were.turned) in
      subst (λ (x : History A). AreSound x device kept) (sym is)
      (λ page t has. stays_backed were.history more (entry_of page t) all turned (were.sound page t has))

  later_too : (seen now : List (Entry A)) (turns : ℕ) (kept : Translations) → StartsWith now seen
      → (kept ≡ []) ⊎ WereSound told device seen turns kept → (kept ≡ []) ⊎ WereSound told device now turns kept
  later_too seen now turns kept later (inl none) = inl none
  later_too seen now turns kept later (inr were) = inr (record {
    history = were.history;
    later = starts_so now seen (told were.history) later were.later;
    turned = were.turned;
    sound = were.sound;
  })

  -- what may be kept may be kept later
  pub keeps_later : (seen now : List (Entry A)) (turns : ℕ) (kept : Translations) → StartsWith now seen
      → MayKeep told device seen turns kept → MayKeep told device now turns kept
  keeps_later seen now turns kept later may = ∥∥₁_map may (later_too seen now turns kept later)

  -- it serves in each history that begins with what was seen
  pub keeps_serves : (h : History A) (seen : List (Entry A)) (turns : ℕ) (kept : Translations)
      → StartsWith (told h) seen → MayKeep told device seen turns kept → Serves h device turns kept
  keeps_serves h seen turns kept later may =
      ∥∥₁_map (keeps_later seen (told h) turns kept later may) (λ were run same. were_then h turns kept run same were)

-- ---- what is found

module _ (kind : AccessKind) where
  right_of : (o : Option Translation) (t : Translation) → with_right kind o ≡ Some t
      → (o ≡ Some t) × (has_right t.rights kind ≡ true)
  right_of None t is = cc
  right_of (Some x) t is = by_test (has_right x.rights kind) refl is
    where
      by_test : (b : Bool) → has_right x.rights kind ≡ b → cond b (Some x) None ≡ Some t
          → (Some x ≡ Some t) × (has_right t.rights kind ≡ true)
      by_test true has is = let same : x ≡ t = cc in
          (ap Some same, subst (λ (y : Translation). has_right y.rights kind ≡ true) same has)
      by_test false has is = cc

  one_of : (kept walked : Option Translation) (t : Translation) → either_with_right kind kept walked ≡ Some t
      → ((kept ≡ Some t) ⊎ (walked ≡ Some t)) × (has_right t.rights kind ≡ true)
  one_of kept walked t is = by_kept (with_right kind kept) refl is
    where
      by_kept : (o : Option Translation) → with_right kind kept ≡ o
          → elim o as (λ _. Option Translation) [ Some x ↦ Some x | None ↦ with_right kind walked ] ≡ Some t
          → ((kept ≡ Some t) ⊎ (walked ≡ Some t)) × (has_right t.rights kind ≡ true)
      by_kept (Some x) there is =
          let same : Some x ≡ Some t = is in
          let found = right_of kept t (there ∙ same) in (inl found.0, found.1)
      by_kept None there is = let found = right_of walked t is in (inr found.0, found.1)

module _ {A : Type 0} (h : History A) (device : DeviceNo) (run : IsRun h.settings h.records) (turns : ℕ)
    (kept : Translations) where
  compared_sound : (IsRun h.settings h.records → turns ≡ turns_of device h.records → AreSound h device kept)
      → AreSound h device (compared turns (turns_of device h.records) kept)
  compared_sound serves = by_test (eqb turns (turns_of device h.records)) refl
    where
      by_test : (b : Bool) → eqb turns (turns_of device h.records) ≡ b → AreSound h device (cond b kept [])
      by_test true same = serves run (eqb-true turns (turns_of device h.records) same)
      by_test false other = none_sound device h

  module _ (address : ℕ) (kind : AccessKind) (t : Translation)
      (is : found h.settings h.records device turns kept address kind ≡ Some t) where
    parts : ((lookup (nat_eq (page_of address)) (compared turns (turns_of device h.records) kept) ≡ Some t)
        ⊎ (translation (view (world h)) device address ≡ Some t)) × (has_right t.rights kind ≡ true)
    parts = one_of kind (lookup (nat_eq (page_of address)) (compared turns (turns_of device h.records) kept))
        (translation (view (world h)) device address) t is

    by_one : ((lookup (nat_eq (page_of address)) (compared turns (turns_of device h.records) kept) ≡ Some t)
        ⊎ (translation (view (world h)) device address ≡ Some t))
        → AreSound h device (compared turns (turns_of device h.records) kept)
        → IsBacked (world h) device (entry_of (page_of address) t)
    by_one (inl there) sound = sound (page_of address) t
        (contains_page (page_of address) (compared turns (turns_of device h.records) kept) t there)
    by_one (inr walked) sound =
        let law : EveryInterleaving A = every_interleaving in
        (law.fills h.settings h.records device address t run walked).backed

    -- it is good
    found_backed : (IsRun h.settings h.records → turns ≡ turns_of device h.records → AreSound h device kept)
        → IsBacked (world h) device (entry_of (page_of address) t)
    found_backed serves = by_one parts.0 (compared_sound serves)

    passes : (address' : ℕ) → IsBacked (world h) device (entry_of (page_of address) t) → (len : ℕ)
        → crosses address len ≡ false → passes_in (world h) device (record { 0 = address }) len kind t.frame ≡ true
    passes address' backed len inside =
        let law : EveryInterleaving A = every_interleaving in
        let e = entry_of (page_of address) t in
        law.passes h.settings h.records device (e ∷ []) (record { 0 = address }) len kind e run
        (λ x has. elim (Contains-cons e [] x has) [
          | inl is ↦ subst (λ (y : CacheEntry). IsBacked (world h) device y) is backed
          | inr later ↦ absurd (Contains-nil x later)
        ]) (record { cached = (0, omega arith, refl); page = refl; right = parts.1; inside = inside })

    -- and the access passes at its frame
    pub found_passes : Serves h device turns kept → (len : ℕ) → crosses address len ≡ false
        → passes_in (world h) device (record { 0 = address }) len kind t.frame ≡ true
    found_passes serves len inside =
        ∥∥₁_elim serves (hlevel props) (λ (s : IsRun h.settings h.records → turns ≡ turns_of device h.records
        → AreSound h device kept). passes address (found_backed s) len inside)

    -- it is good, and has the right
    pub found_good : Serves h device turns kept → IsGood h device (page_of address) t
    found_good serves = ∥∥₁_map serves found_backed

    pub found_right : has_right t.rights kind ≡ true
    found_right = parts.1

  -- ---- what is kept then

  used_sound : (most page : ℕ) (t : Translation) (old : Translations) → IsBacked (world h) device (entry_of page t)
      → AreSound h device old → AreSound h device (used most page t old)
  used_sound most page t old backed sound p x has =
      elim (Contains-cons (page, t) (take (most - 1) (remove_entry (nat_eq page) old)) (p, x) has) [
        | inl same ↦ subst (λ (y : ℕ × Translation). IsBacked (world h) device (entry_of y.0 y.1)) same backed
        | inr later ↦ sound p x (Contains-remove_entry (nat_eq page) old (p, x)
            (Contains-take (most - 1) (remove_entry (nat_eq page) old) (p, x) later))
      ]

  is_used_sound : (most page : ℕ) (t : Translation) (old new : Translations) → IsBacked (world h) device (entry_of page t)
      → AreSound h device old → IsUsed most page t old new → AreSound h device new
  is_used_sound most page t old new backed sound (inl is) =
      subst (AreSound h device) (sym is) (used_sound most page t old backed sound)
  is_used_sound most page t old new backed sound (inr is) = subst (AreSound h device) (sym is.0) sound

  leaves_sound : (most address : ℕ) (kind : AccessKind) (o : Option Translation) (new : Translations)
      → found h.settings h.records device turns kept address kind ≡ o
      → Leaves most (page_of address) o (compared turns (turns_of device h.records) kept) new
      → (IsRun h.settings h.records → turns ≡ turns_of device h.records → AreSound h device kept)
      → AreSound h device new
  leaves_sound most address kind None new is leaves serves =
      subst (AreSound h device) (sym leaves) (compared_sound serves)
  leaves_sound most address kind (Some t) new is leaves serves =
      is_used_sound most (page_of address) t (compared turns (turns_of device h.records) kept) new
      (found_backed address kind t is serves) (compared_sound serves) leaves

  pub keeps_found : (seen : List (Entry A)) (turns' most address : ℕ) (kind : AccessKind) (o : Option Translation)
      (new : Translations) → StartsWith seen (told h) → Serves h device turns kept
      → turns' ≡ turns_of device h.records → o ≡ found h.settings h.records device turns kept address kind
      → Leaves most (page_of address) o (compared turns (turns_of device h.records) kept) new
      → MayKeep told device seen turns' new
  keeps_found seen turns' most address kind o new later serves turned is leaves =
      ∥∥₁_map serves (λ s. inr (record {
        history = h;
        later = later;
        turned = sym turned;
        sound = leaves_sound most address kind o new (sym is) leaves s;
      }))
