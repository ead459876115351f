-- Where memory is asked for: what stands in the bytes then.
use Rattle.std.proofs.Common.{◌≡◌, ◌≢◌, ◌⊎◌, inl, inr, ℕ, zero, suc, ◌*◌, ◌<◌, ◌≤◌, List, [], ◌∷◌, ◌++◌, length, Option}
use Rattle.std.proofs.Common.{Some, None, refl, ap, ◌∙◌, arith}
use Rattle.std.specs.Prelude.{option_map}
use Rattle.std.specs.Int.{w16, w32, w64, to_le_bytes}
use Rattle.journal_audit_bytes.specs.Format.{BeginWithFrames, BeginWithList, BeginWithMoves, HasRanges, Row}
use Rattle.journal_audit_bytes.specs.Format.{Tagged, dirty_event_rows, entries, event_rows, events_of, frames}
use Rattle.journal_audit_bytes.specs.Format.{list_spelled, replies_of, row_of}
use Rattle.journal_audit_bytes.specs.Head.{BeginWithUsers}
use Rattle.journal_audit_bytes.specs.HeadReading.{HasBytesFor, counted_at, limit_at, many_at, version_at}
use Rattle.journal_audit_bytes.specs.Reading.{◌>>=◌, HasElements, IsWithRanges, fields_of_row, fields_of_tag, list_at}
use Rattle.journal_audit_bytes.specs.Reading.{number_at, tagged_at}
use Rattle.journal_audit_bytes.specs.Version.{mark}
use Rattle.journal_audit_bytes.specs.declared.version.Version.{Version}
use Rattle.journal_audit_bytes.specs.declared.version.Version.TheVariants.{One, Two}
use Rattle.journal_audit_bytes.proofs.Elements.{elements_enough, number_enough, sizes_4, sizes_16}
use Rattle.journal_audit_bytes.proofs.Fields.{IsBytes, number_takes, wide16, wide32}
use Rattle.journal_audit_bytes.proofs.Heads.{users_read, version_takes}
use Rattle.journal_audit_bytes.proofs.Records.{events_of_wide, frames_wide, list_takes, replies_of_wide}
use Rattle.journal_audit_bytes.proofs.Records.{tagged_takes}
use Rattle.journal_audit_bytes.proofs.Tags.{with_more}

-- ---- a list for which the bytes are enough stands there

not_empty : (es : List (List ℕ)) (n : ℕ) → 0 < n → length es ≡ n → es ≢ []
not_empty es n some long none =
    let zero_long : length es ≡ 0 = ap length none in omega (arith, some, long, zero_long)

pub frames_stand : (bytes : List ℕ) (n : ℕ) (rest : List ℕ) → number_at w16 bytes ≡ Some (n, rest) → 0 < n
    → 4 * n ≤ length rest → HasElements (list_at frames bytes)
unfolding list_at
frames_stand bytes n rest is some long =
    let x = elements_enough n (w32 ∷ []) rest (omega (arith, long, sizes_4 n)) in
    (x.0, rw (is, x.1) refl, not_empty x.0.0 n some x.2)

pub entries_stand : (bytes : List ℕ) (n : ℕ) (rest : List ℕ) → number_at w32 bytes ≡ Some (n, rest) → 0 < n
    → 16 * n ≤ length rest → HasElements (list_at entries bytes)
unfolding list_at
entries_stand bytes n rest is some long =
    let x = elements_enough n (w64 ∷ w64 ∷ []) rest (omega (arith, long, sizes_16 n)) in
    (x.0, rw (is, x.1) refl, not_empty x.0.0 n some x.2)

limits_stand : (n : ℕ) (bytes : List ℕ) → n * 8 ≤ length bytes
    → (x : List ℕ × List ℕ) × (many_at limit_at n bytes ≡ Some x)
unfolding limit_at
limits_stand zero bytes long = (([], bytes), refl)
limits_stand (suc n) bytes long =
    let a = number_enough w64 bytes (omega (arith, long)) in
    let b = limits_stand n a.0.1 (omega (arith, long, a.2)) in (
      (a.0.0 ∷ b.0.0, b.0.1),
      ap (λ (o : Option (ℕ × List ℕ)). o >>= λ e. many_at limit_at n e.1 >>= λ es. Some (e.0 ∷ es.0, es.1)) a.1
          ∙ ap (λ (o : Option (List ℕ × List ℕ)). o >>= λ es. Some (a.0.0 ∷ es.0, es.1)) b.1,
    )

pub users_stand : (bytes : List ℕ) → HasBytesFor 8 bytes
    → (x : List ℕ × List ℕ) × (counted_at limit_at bytes ≡ Some x)
unfolding counted_at
users_stand bytes h =
    let x = limits_stand h.0.0 h.0.1 h.2 in
    (x.0, ap (λ (o : Option (ℕ × List ℕ)). o >>= λ n. many_at limit_at n.0 n.1) h.1 ∙ x.1)

-- ---- an event that has ranges

pub ranges_read : (bytes : List ℕ) {file ioas : ℕ} {a b : List ℕ} → number_at w16 bytes ≡ Some (file, a)
    → number_at w32 a ≡ Some (ioas, b) → HasElements (list_at entries b)
    → IsWithRanges event_rows (fields_of_tag event_rows 0x82 bytes)
unfolding fields_of_tag fields_of_row
ranges_read bytes {file} {ioas} f i (x, is, some) =
    ((record { tag = 0x82; numbers = file ∷ ioas ∷ []; list = x.0 }, x.1), rw (f, i, is) refl, refl, some)

-- both versions have it
pub same_ranges : (version : Version) (bytes : List ℕ)
    → fields_of_tag (events_of version) 0x82 bytes ≡ fields_of_tag event_rows 0x82 bytes
unfolding fields_of_tag
same_ranges One bytes = refl
same_ranges Two bytes = refl

ranges_too : (rows more : List Row) (tag : ℕ) → HasRanges rows tag → HasRanges (rows ++ more) tag
ranges_too rows more tag has = by_case (row_of rows tag) refl has
  where
    by_case : (o : Option Row) → row_of rows tag ≡ o → option_map (λ row. row.list) o ≡ Some (Some entries)
        → HasRanges (rows ++ more) tag
    by_case None is has = absurd cc
    by_case (Some row) is has =
        ap (λ (o : Option Row). option_map (λ row. row.list) o) (with_more rows more tag row is) ∙ has

has_ranges : (version : Version) (tag : ℕ) → HasRanges event_rows tag → HasRanges (events_of version) tag
has_ranges One tag has = has
has_ranges Two tag has = ranges_too event_rows dirty_event_rows tag has

pub ranges_of_version : (version : Version) (read : Option (Tagged × List ℕ)) → IsWithRanges event_rows read
    → IsWithRanges (events_of version) read
ranges_of_version version read h = (h.0, h.1, has_ranges version h.0.0.tag h.2, h.3)

-- ---- heads

pub with_users : (bytes : List ℕ) {version : Version} {marked pool : List ℕ} {n : ℕ} (x : List ℕ × List ℕ)
    → IsBytes bytes → version_at bytes ≡ Some (version, marked) → number_at w32 marked ≡ Some (n, pool)
    → counted_at limit_at pool ≡ Some x → BeginWithUsers bytes
with_users bytes {version} {marked} {pool} {n} x fits a b c =
    let mark_part = version_takes bytes (version, marked) fits a in
    let pool_part = number_takes w32 wide32 marked n pool mark_part.rest_fits b in
    let users_part = users_read.takes pool x pool_part.0.rest_fits c in
    record {
      version = version;
      pool = n;
      pool_fits = pool_part.1;
      users = x.0;
      users_fit = users_part.1;
      rest = x.1;
      bytes_are = mark_part.parts ∙ ap (λ (t : List ℕ). mark version ++ t)
          (pool_part.0.parts ∙ ap (λ (t : List ℕ). to_le_bytes w32 n ++ t) users_part.0.parts);
    }

-- ---- records

with_event : (version : Version) (passes : ℕ) (bytes : List ℕ) (pass : ℕ) (rest : List ℕ) (e : Tagged × List ℕ)
    → IsBytes bytes → number_at w16 bytes ≡ Some (pass, rest) → pass < passes
    → tagged_at (events_of version) rest ≡ Some e
    → (IsBytes e.1 → (HasRanges (events_of version) e.0.tag × (e.0.list ≢ [])) ⊎ BeginWithMoves version e.1)
    → BeginWithList version passes bytes
with_event version passes bytes pass rest e fits a below b list =
    let pass_part = number_takes w16 wide16 bytes pass rest fits a in
    let event_part = tagged_takes (events_of version) (events_of_wide version) rest e pass_part.0.rest_fits b in
    record {
      pass = pass;
      pass_is = below;
      event = e.0;
      text = event_part.text;
      event_is = event_part.spells;
      rest = e.1;
      bytes_are = pass_part.0.parts ∙ ap (λ (t : List ℕ). to_le_bytes w16 pass ++ t) event_part.takes.parts;
      list = list event_part.takes.rest_fits;
    }

with_frames : (bytes : List ℕ) → IsBytes bytes → HasElements (list_at frames bytes) → BeginWithFrames bytes
with_frames bytes fits (x, is, some) =
    let part = list_takes frames frames_wide bytes x fits is in
    record { numbers = x.0; some = some; fit = part.1; rest = x.1; bytes_are = part.0.parts }

with_reply : (version : Version) (bytes : List ℕ) (a : Tagged × List ℕ) → IsBytes bytes
    → tagged_at (replies_of version) bytes ≡ Some a
    → (IsBytes a.1 → BeginWithFrames a.1
    ⊎ ((given : List ℕ) × (a.1 ≡ list_spelled frames [] ++ given) × BeginWithFrames given))
    → BeginWithMoves version bytes
with_reply version bytes a fits is moves =
    let part = tagged_takes (replies_of version) (replies_of_wide version) bytes a fits is in
    record {
      reply = a.0;
      text = part.text;
      reply_is = part.spells;
      rest = a.1;
      bytes_are = part.takes.parts;
      moves = moves part.takes.rest_fits;
    }

-- those that were taken, or those given back where none were taken
taken_or_given : (bytes : List ℕ) (t : List (List ℕ) × List ℕ) → IsBytes bytes → list_at frames bytes ≡ Some t
    → HasElements (list_at frames t.1)
    → BeginWithFrames bytes ⊎ ((given : List ℕ) × (bytes ≡ list_spelled frames [] ++ given) × BeginWithFrames given)
taken_or_given bytes ([], rest) fits is later =
    let part = list_takes frames frames_wide bytes ([], rest) fits is in
    inr (rest, part.0.parts, with_frames rest part.0.rest_fits later)
taken_or_given bytes (e ∷ es, rest) fits is later = inl (with_frames bytes fits ((e ∷ es, rest), is, λ none. cc))

module _ (version : Version) (passes : ℕ) (bytes : List ℕ) (fits : IsBytes bytes) {pass : ℕ} {rest : List ℕ}
    (is : number_at w16 bytes ≡ Some (pass, rest)) (below : pass < passes) where
  -- the event's ranges
  pub event_list : IsWithRanges (events_of version) (tagged_at (events_of version) rest)
      → BeginWithList version passes bytes
  event_list h = with_event version passes bytes pass rest h.0 fits is below h.1 (λ _. inl (h.2, h.3))

  module _ (e a : Tagged × List ℕ) (event : tagged_at (events_of version) rest ≡ Some e)
      (reply : tagged_at (replies_of version) e.1 ≡ Some a) where
    pub taken_list : HasElements (list_at frames a.1) → BeginWithList version passes bytes
    taken_list h = with_event version passes bytes pass rest e fits is below event
        (λ more. inr (with_reply version e.1 a more reply (λ later. inl (with_frames a.1 later h))))

    pub given_list : (t : List (List ℕ) × List ℕ) → list_at frames a.1 ≡ Some t → HasElements (list_at frames t.1)
        → BeginWithList version passes bytes
    given_list t taken h = with_event version passes bytes pass rest e fits is below event
        (λ more. inr (with_reply version e.1 a more reply (λ later. taken_or_given a.1 t later taken h)))
