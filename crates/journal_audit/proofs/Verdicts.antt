-- Bytes have one verdict.
use Rattle.std.proofs.Common.{◌≡◌, ◌≢◌, ◌⊎◌, inl, inr, ℕ, zero, suc, ◌+◌, Some, List, [], ◌∷◌, ◌++◌, length, refl, sym}
use Rattle.std.proofs.Common.{ap}
use Rattle.std.proofs.Common.{◌∙◌, subst, arith, append_assoc, Result, Ok, Err, IfOk}
use Rattle.iofd_steps.specs.Run.{IsRun, IsRunFrom, Lawful, after, world_from, world_of}
use Rattle.iofd_words.specs.Record.{Record}
use Rattle.iofd_words.specs.Settings.{Settings}
use Rattle.iofd_words.specs.World.{World, opening}
use Rattle.iofd_words.specs.declared.refusal.NoMemory.{NoMemory}
use Rattle.journal_audit.specs.Verdict.{BeginNoHead, BeginNoRecord, BeginWithRun, IsVerdict, NoneFollows}
use Rattle.journal_audit.specs.declared.verdict.Verdict.{Verdict}
use Rattle.journal_audit.specs.declared.verdict.Verdict.TheVariants.{Run, NotRun, Torn}
use Rattle.journal_audit_bytes.specs.Format.{Raw, Spells}
use Rattle.journal_audit_bytes.specs.Head.{SpellsHead}
use Rattle.journal_audit_bytes.specs.HeadReading.{head_at}
use Rattle.journal_audit_bytes.specs.Journal.{SpellRecords, SpellsRecord, raw_record}
use Rattle.journal_audit_bytes.specs.Reading.{record_at}
use Rattle.journal_audit_bytes.specs.declared.version.Version.{Version}
use Rattle.journal_audit_bytes.proofs.Fields.{some_is}
use Rattle.journal_audit_bytes.proofs.Heads.{head_again}
use Rattle.journal_audit_bytes.proofs.Records.{record_again}
use Rattle.journal_audit.proofs.Again.{one_record, spelled_here}

pub grouped : (a b c : List ℕ) → (a ++ b) ++ c ≡ a ++ (b ++ c)
grouped a b c = simp append_assoc

one_settings : {v w : Version} (s t : Settings) (text other rest behind : List ℕ) → SpellsHead v s text
    → SpellsHead w t other → text ++ rest ≡ other ++ behind → ((v ≡ w) × (s ≡ t)) × (rest ≡ behind)
one_settings {v} {w} s t text other rest behind p q same =
    let read = some_is (v, s, rest) (w, t, behind) (sym (head_again v s text rest p) ∙ ap head_at same
    ∙ head_again w t other behind q) in (
      (ap (λ (x : Version × Settings × List ℕ). x.0) read, ap (λ (x : Version × Settings × List ℕ). x.1) read),
      ap (λ (x : Version × Settings × List ℕ). x.2) read,
    )

nothing_read : (version : Version) (passes : ℕ) (x : Raw × List ℕ) → record_at version passes [] ≡ Some x → ⊥
unfolding record_at
nothing_read version passes x is = cc

-- a record has bytes
pub some_text : (version : Version) (passes : ℕ) (r : Raw) (text rest : List ℕ) → Spells version passes r text
    → [] ≡ text ++ rest → ⊥
some_text version passes r text rest spells none =
    let read = ap (record_at version passes) none ∙ record_again version passes r text rest spells in
    nothing_read version passes (r, rest) read

module _ {A : Type 0} where
  -- ---- two lists of records at the front of the same bytes

  -- behind the records comes this one, at the front of the rest, and then others
  record Behind (v : Version) (s : Settings) (records more : List (Record A)) (rest : List ℕ) : Type 0 where
    r : Record A
    later : List (Record A)
    text : List ℕ
    left : List ℕ
    spells : SpellsRecord v s r text
    rest_is : rest ≡ text ++ left
    more_is : more ≡ records ++ r ∷ later

  -- they are one list, or one of them goes on behind the other
  abbrev Compared : Version → Settings → List (Record A) → List ℕ → List (Record A) → List ℕ → Type 0
  Compared v s p rest q other = ((p ≡ q) × (rest ≡ other)) ⊎ (Behind v s p q rest ⊎ Behind v s q p other)

  one_before : (v : Version) (s : Settings) (r : Record A) (p q : List (Record A)) (rest other : List ℕ)
      → Compared v s p rest q other
      → Compared v s (r ∷ p) rest (r ∷ q) other
  one_before v s r p q rest other (inl same) = inl (ap (λ (rs : List (Record A)). r ∷ rs) same.0, same.1)
  one_before v s r p q rest other (inr (inl b)) =
      inr (inl (record {
        r = b.r;
        later = b.later;
        text = b.text;
        left = b.left;
        spells = b.spells;
        rest_is = b.rest_is;
        more_is = ap (λ (rs : List (Record A)). r ∷ rs) b.more_is;
      }))
  one_before v s r p q rest other (inr (inr b)) =
      inr (inr (record {
        r = b.r;
        later = b.later;
        text = b.text;
        left = b.left;
        spells = b.spells;
        rest_is = b.rest_is;
        more_is = ap (λ (rs : List (Record A)). r ∷ rs) b.more_is;
      }))

  compare : (v : Version) (s : Settings) (p q : List (Record A)) (front ahead rest other : List ℕ)
      → SpellRecords v s p front
      → SpellRecords v s q ahead → front ++ rest ≡ ahead ++ other → Compared v s p rest q other
  compare v s [] [] front ahead rest other of_p of_q same =
      inl (refl, sym (ap (λ (x : List ℕ). x ++ rest) of_p) ∙ same ∙ ap (λ (x : List ℕ). x ++ other) of_q)
  compare v s [] (r ∷ q) front ahead rest other of_p of_q same =
      inr (inl (record {
        r = r;
        later = q;
        text = of_q.0;
        left = of_q.1 ++ other;
        spells = of_q.2;
        rest_is = sym (ap (λ (x : List ℕ). x ++ rest) of_p) ∙ same ∙ ap (λ (x : List ℕ). x ++ other) of_q.4
            ∙ grouped of_q.0 of_q.1 other;
        more_is = refl;
      }))
  compare v s (r ∷ p) [] front ahead rest other of_p of_q same =
      inr (inr (record {
        r = r;
        later = p;
        text = of_p.0;
        left = of_p.1 ++ rest;
        spells = of_p.2;
        rest_is = sym (ap (λ (x : List ℕ). x ++ other) of_q) ∙ sym same ∙ ap (λ (x : List ℕ). x ++ rest) of_p.4
            ∙ grouped of_p.0 of_p.1 rest;
        more_is = refl;
      }))
  compare v s (r ∷ p) (x ∷ q) front ahead rest other of_p of_q same =
      let bytes = sym (grouped of_p.0 of_p.1 rest) ∙ sym (ap (λ (y : List ℕ). y ++ rest) of_p.4) ∙ same
      ∙ ap (λ (y : List ℕ). y ++ other) of_q.4 ∙ grouped of_q.0 of_q.1 other in
      let one = one_record v s r x of_p.0 of_q.0 (of_p.1 ++ rest) (of_q.1 ++ other) of_p.2 of_q.2 bytes in
      subst (λ (y : Record A). Compared v s (r ∷ p) rest (y ∷ q) other) one.0
      (one_before v s r p q rest other (compare v s p q of_p.1 of_q.1 rest other of_p.3 of_q.3 one.1))

  -- ---- two beginnings of the same bytes

  -- the bytes as head, records and rest
  pub parted : {v : Version} (bytes : List ℕ) (s : Settings) (p : List (Record A)) (rest : List ℕ)
      (b : BeginWithRun bytes v s p rest) → bytes ≡ b.journal.head ++ (b.journal.records ++ rest)
  parted bytes s p rest b =
      b.bytes_are ∙ ap (λ (x : List ℕ). x ++ rest) b.journal.bytes_are
      ∙ grouped b.journal.head b.journal.records rest

  -- they are of one version, and have the same settings
  same_head : {v w : Version} (bytes : List ℕ) (s t : Settings) (p q : List (Record A)) (rest other : List ℕ)
      → (b : BeginWithRun bytes v s p rest) → (d : BeginWithRun bytes w t q other)
      → ((v ≡ w) × (s ≡ t)) × (b.journal.records ++ rest ≡ d.journal.records ++ other)
  same_head bytes s t p q rest other b d =
      one_settings s t b.journal.head d.journal.head (b.journal.records ++ rest) (d.journal.records ++ other)
      b.journal.head_is d.journal.head_is (sym (parted bytes s p rest b) ∙ parted bytes t q other d)

  compared : (v : Version) (s : Settings) (bytes : List ℕ) (p q : List (Record A)) (rest other : List ℕ)
      → BeginWithRun bytes v s p rest → BeginWithRun bytes v s q other → Compared v s p rest q other
  compared v s bytes p q rest other b d =
      compare v s p q b.journal.records d.journal.records rest other b.journal.records_are d.journal.records_are
      (same_head bytes s s p q rest other b d).1

  -- ---- a run that goes on

  lawful_from : (at : ℕ) (w : World) (p : List (Record A)) (r : Record A) (later : List (Record A))
      → IsRunFrom at w (p ++ r ∷ later) → Lawful (at + length p) (world_from at w p) r
  lawful_from at w [] r later run =
      let here : at ≡ at + 0 = omega arith in subst (λ (n : ℕ). Lawful n w r) here run.0
  lawful_from at w (x ∷ p) r later run =
      let here : at + 1 + length p ≡ at + suc (length p) = omega arith in
      subst (λ (n : ℕ). Lawful n (world_from (at + 1) (after at w x) p) r) here
      (lawful_from (at + 1) (after at w x) p r later run.1)

  lawful_behind : (s : Settings) (p : List (Record A)) (r : Record A) (later : List (Record A))
      → IsRun s (p ++ r ∷ later) → Lawful (length p) (world_of s p) r
  unfolding IsRun world_of
  lawful_behind s p r later run =
      let here : 0 + length p ≡ length p = omega arith in
      subst (λ (n : ℕ). Lawful n (world_from 0 (opening s) p) r) here (lawful_from 0 (opening s) p r later run)

  no_head_there : {v : Version} (bytes : List ℕ) (s : Settings) (p : List (Record A)) (rest : List ℕ)
      → BeginWithRun bytes v s p rest → BeginNoHead bytes → ⊥
  no_head_there {v} bytes s p rest b none =
      none v s b.journal.head (b.journal.records ++ rest) b.journal.head_is (parted bytes s p rest b)

  same_length : (p q : List (Record A)) (m n : ℕ) → p ≡ q → m ≡ length p → n ≡ length q → m ≡ n
  same_length p q m n same first second = first ∙ ap length same ∙ sym second

module _ {A : Type 0} (v : Version) (s : Settings) where
  -- where a run goes on behind the records, a lawful record stands there
  goes_on : (bytes : List ℕ) (p q : List (Record A)) (rest other : List ℕ) → BeginWithRun bytes v s q other
      → (b : Behind v s p q rest) → Lawful (length p) (world_of s p) b.r
  goes_on bytes p q rest other d b =
      lawful_behind s p b.r b.later (subst (λ (rs : List (Record A)). IsRun s rs) b.more_is d.run)

  -- and where none follows there is none
  none_there : (bytes : List ℕ) (p q : List (Record A)) (rest other : List ℕ) → BeginWithRun bytes v s q other
      → Behind v s p q rest → NoneFollows v s p rest → ⊥
  none_there bytes p q rest other d b n =
      n.none b.r
      (spelled_here v s n.raw b.r n.text b.text n.behind b.left n.spells b.spells (sym n.rest_is ∙ b.rest_is))
      (goes_on bytes p q rest other d b)

  none_torn : (p q : List (Record A)) (rest : List ℕ) → Behind v s p q rest → BeginNoRecord v s.passes rest → ⊥
  none_torn p q rest b torn = torn (raw_record b.r b.spells.reply) b.text b.left b.spells.spells b.rest_is

  none_unspelt : (p : List (Record A)) (rest : List ℕ) → NoneFollows v s p rest → BeginNoRecord v s.passes rest → ⊥
  none_unspelt p rest n torn = torn n.raw n.text n.behind n.spells n.rest_is

  none_at_end : (p q : List (Record A)) (rest : List ℕ) → rest ≡ [] → Behind v s p q rest → ⊥
  none_at_end p q rest ends b =
      some_text v s.passes (raw_record b.r b.spells.reply) b.text b.left b.spells.spells (sym ends ∙ b.rest_is)

-- ---- two verdicts on bytes of one version and settings

module _ (A : Type 0) (v : Version) (s : Settings) where
  abbrev RunAt : List ℕ → ℕ → Type 0
  RunAt bytes count = (p : List (Record A)) × BeginWithRun bytes v s p [] × (count ≡ length p)

  abbrev NotRunAt : List ℕ → ℕ → Type 0
  NotRunAt bytes index =
      (p : List (Record A)) × (rest : List ℕ) × BeginWithRun bytes v s p rest × NoneFollows v s p rest
      × (index ≡ length p)

  abbrev TornAt : List ℕ → ℕ → Type 0
  TornAt bytes offset =
      (p : List (Record A)) × (rest : List ℕ) × BeginWithRun bytes v s p rest × BeginNoRecord v s.passes rest
      × (rest ≢ []) × (length bytes ≡ offset + length rest)

  -- a run that ends with the bytes, and one behind which something stands
  ended : (bytes : List ℕ) (p q : List (Record A)) (other : List ℕ) → BeginWithRun bytes v s p []
      → BeginWithRun bytes v s q other → (other ≡ [] → ⊥) → (Behind v s q p other → ⊥) → ⊥
  ended bytes p q other b d more not_behind =
      elim (compared v s bytes p q [] other b d) [
        | inl same ↦ more (sym same.1)
        | inr (inl behind) ↦ none_at_end v s p q [] refl behind
        | inr (inr behind) ↦ not_behind behind
      ]

  runs_here : (bytes : List ℕ) (m n : ℕ) → RunAt bytes m → RunAt bytes n → m ≡ n
  runs_here bytes m n (p, b, count) (q, d, other) =
      elim (compared v s bytes p q [] [] b d) [
        | inl same ↦ same_length p q m n same.0 count other
        | inr (inl behind) ↦ absurd (none_at_end v s p q [] refl behind)
        | inr (inr behind) ↦ absurd (none_at_end v s q p [] refl behind)
      ]

  run_not_here : (bytes : List ℕ) (m n : ℕ) → RunAt bytes m → NotRunAt bytes n → ⊥
  run_not_here bytes m n (p, b, count) (q, other, d, none, index) =
      ended bytes p q other b d
      (λ ends. some_text v s.passes none.raw none.text none.behind none.spells (sym ends ∙ none.rest_is))
      (λ behind. none_there v s bytes q p other [] b behind none)

  run_torn_here : (bytes : List ℕ) (m n : ℕ) → RunAt bytes m → TornAt bytes n → ⊥
  run_torn_here bytes m n (p, b, count) (q, other, d, torn, more, place) =
      ended bytes p q other b d more (λ behind. none_torn v s q p other behind torn)

  nots_here : (bytes : List ℕ) (m n : ℕ) → NotRunAt bytes m → NotRunAt bytes n → m ≡ n
  nots_here bytes m n (p, rest, b, none, index) (q, other, d, nothing, place) =
      elim (compared v s bytes p q rest other b d) [
        | inl same ↦ same_length p q m n same.0 index place
        | inr (inl behind) ↦ absurd (none_there v s bytes p q rest other d behind none)
        | inr (inr behind) ↦ absurd (none_there v s bytes q p other rest b behind nothing)
      ]

  not_torn_here : (bytes : List ℕ) (m n : ℕ) → NotRunAt bytes m → TornAt bytes n → ⊥
  not_torn_here bytes m n (p, rest, b, none, index) (q, other, d, torn, more, place) =
      elim (compared v s bytes p q rest other b d) [
        | inl same ↦ none_unspelt v s p rest none
            (subst (λ (x : List ℕ). BeginNoRecord v s.passes x) (sym same.1) torn)
        | inr (inl behind) ↦ none_there v s bytes p q rest other d behind none
        | inr (inr behind) ↦ none_torn v s q p other behind torn
      ]

  torns_here : (bytes : List ℕ) (m n : ℕ) → TornAt bytes m → TornAt bytes n → m ≡ n
  torns_here bytes m n (p, rest, b, torn, more, place) (q, other, d, broken, beyond, offset) =
      elim (compared v s bytes p q rest other b d) [
        | inl same ↦ let long : length rest ≡ length other = ap length same.1 in omega (arith, long, place, offset)
        | inr (inl behind) ↦ absurd (none_torn v s p q rest behind torn)
        | inr (inr behind) ↦ absurd (none_torn v s q p other behind broken)
      ]

-- ---- two verdicts

-- what holds of one version and settings holds of the same
moved : {v w : Version} {s t : Settings} (P : Version → Settings → Type 0) → (v ≡ w) × (s ≡ t) → P w t → P v s
moved {v} {w} {s} {t} P same p =
    subst (λ (x : Settings). P v x) (sym same.1) (subst (λ (x : Version). P x t) (sym same.0) p)

module _ {A : Type 0} where
  runs : (bytes : List ℕ) (m n : ℕ) → IsVerdict A bytes (Run m) → IsVerdict A bytes (Run n) → m ≡ n
  runs bytes m n (v, s, p, b, count) (w, t, q, d, other) =
      runs_here A v s bytes m n (p, b, count)
      (moved (λ x y. RunAt A x y bytes n) (same_head bytes s t p q [] [] b d).0 (q, d, other))

  run_not : (bytes : List ℕ) (m n : ℕ) → IsVerdict A bytes (Run m) → IsVerdict A bytes (NotRun n) → ⊥
  run_not bytes m n (v, s, p, b, count) (w, t, q, other, d, none, index) =
      run_not_here A v s bytes m n (p, b, count)
      (moved (λ x y. NotRunAt A x y bytes n) (same_head bytes s t p q [] other b d).0
      (q, other, d, none, index))

  run_torn : (bytes : List ℕ) (m offset : ℕ) → IsVerdict A bytes (Run m) → IsVerdict A bytes (Torn offset) → ⊥
  run_torn bytes m zero (v, s, p, b, count) torn = no_head_there bytes s p [] b torn
  run_torn bytes m (suc offset) (v, s, p, b, count) (w, t, q, other, d, torn, more, place) =
      run_torn_here A v s bytes m (suc offset) (p, b, count)
      (moved (λ x y. TornAt A x y bytes (suc offset)) (same_head bytes s t p q [] other b d).0
      (q, other, d, torn, more, place))

  nots : (bytes : List ℕ) (m n : ℕ) → IsVerdict A bytes (NotRun m) → IsVerdict A bytes (NotRun n) → m ≡ n
  nots bytes m n (v, s, p, rest, b, none, index) (w, t, q, other, d, nothing, place) =
      nots_here A v s bytes m n (p, rest, b, none, index)
      (moved (λ x y. NotRunAt A x y bytes n) (same_head bytes s t p q rest other b d).0
      (q, other, d, nothing, place))

  not_torn : (bytes : List ℕ) (m offset : ℕ) → IsVerdict A bytes (NotRun m) → IsVerdict A bytes (Torn offset) → ⊥
  not_torn bytes m zero (v, s, p, rest, b, none, index) torn = no_head_there bytes s p rest b torn
  not_torn bytes m (suc offset) (v, s, p, rest, b, none, index) (w, t, q, other, d, torn, more, place) =
      not_torn_here A v s bytes m (suc offset) (p, rest, b, none, index)
      (moved (λ x y. TornAt A x y bytes (suc offset)) (same_head bytes s t p q rest other b d).0
      (q, other, d, torn, more, place))

torns : (A : Type 0) (bytes : List ℕ) (a b : ℕ) → IsVerdict A bytes (Torn a) → IsVerdict A bytes (Torn b) → a ≡ b
torns A bytes zero zero p q = refl
torns A bytes zero (suc n) none (w, t, q, other, d, torn, more, place) =
    absurd (no_head_there {A = A} bytes t q other d none)
torns A bytes (suc m) zero (v, s, p, rest, b, torn, more, place) none =
    absurd (no_head_there {A = A} bytes s p rest b none)
torns A bytes (suc m) (suc n) (v, s, p, rest, b, torn, more, place) (w, t, q, other, d, broken, beyond, offset) =
    torns_here A v s bytes (suc m) (suc n) (p, rest, b, torn, more, place)
    (moved (λ x y. TornAt A x y bytes (suc n)) (same_head {A = A} bytes s t p q rest other b d).0
    (q, other, d, broken, beyond, offset))

one_verdict : (A : Type 0) (bytes : List ℕ) (u v : Verdict) → IsVerdict A bytes u → IsVerdict A bytes v → u ≡ v
one_verdict A bytes (Run m) (Run n) p q = ap (λ (k : ℕ). Run k) (runs bytes m n p q)
one_verdict A bytes (Run m) (NotRun n) p q = absurd (run_not bytes m n p q)
one_verdict A bytes (Run m) (Torn n) p q = absurd (run_torn bytes m n p q)
one_verdict A bytes (NotRun m) (Run n) p q = absurd (run_not bytes n m q p)
one_verdict A bytes (NotRun m) (NotRun n) p q = ap (λ (k : ℕ). NotRun k) (nots bytes m n p q)
one_verdict A bytes (NotRun m) (Torn n) p q = absurd (not_torn bytes m n p q)
one_verdict A bytes (Torn m) (Run n) p q = absurd (run_torn bytes n m q p)
one_verdict A bytes (Torn m) (NotRun n) p q = absurd (not_torn bytes n m q p)
one_verdict A bytes (Torn m) (Torn n) p q = ap (λ (k : ℕ). Torn k) (torns A bytes m n p q)

pub only : (A : Type 0) (bytes : List ℕ) (r : Result Verdict NoMemory) → IfOk r (λ u. IsVerdict A bytes u)
    → (v : Verdict) → IsVerdict A bytes v → IfOk r (λ u. u ≡ v)
only A bytes (Ok u) is v q = one_verdict A bytes u v is q
only A bytes (Err e) is v q = tt
