-- A port's read, piece by piece.
use Rattle.std.proofs.Common.{◌≡◌, ℕ, ◌+◌, ◌-◌, ◌<◌, ◌≤◌, min, None, List, [], ◌∷◌, ◌++◌, length, drop, length-append}
use Rattle.std.proofs.Common.{Result, length-drop, append_assoc, refl, sym, ap, ◌∙◌, subst, arith}
use Rattle.std.proofs.Math.Nat.{min-le_left}
use Rattle.std.proofs.lemmas.List.{drop-drop, drop_at, length-take-le, take_at}
use borrow.Rule.Slice.PartMut.{mid_of, put_mid, put_same}
use Rattle.iofd_words.specs.Pages.{offset_of, page_of}
use Rattle.iofd_words.specs.Settings.{Settings}
use Rattle.iofd_words.specs.declared.fault.AccessKind.TheVariants.{Read}
use Rattle.iofd_words.specs.declared.numbers.DeviceNo.{DeviceNo}
use Rattle.iofd_words.specs.declared.numbers.Iova.{Iova}
use Rattle.iofd_words.specs.declared.query.Answer.{Answer}
use Rattle.iofd_words.specs.declared.query.Answer.TheVariants as answer
use Rattle.lane_lock.specs.Outcomes.{HadNone, OnlySees}
use Rattle.lane_lock.specs.Passes.{SamePass, lane_of, view_of}
use Rattle.lane_lock.specs.declared.refusal.NotNow.{NotNow}
use Rattle.lane_lock.proofs.Retries.{lane_then, none_had, none_then, read_had, sees_then}
use Rattle.port_cache.specs.Cached.{Leaves, Translations, compared}
use Rattle.guarded_core.specs.Caches.{found}
use Rattle.guarded_core.specs.Passes.{CoreGhosts, CorePass}
use Rattle.shared_iommufd.specs.Pieces.{HavePassed, Piece, bytes_of, standing_after, piece_len}
use Rattle.shared_iommufd.specs.PortReads.{
  DeniesRead,
  HasRead,
  IsReadAnswer,
  IsReadPiece,
  IsReadSo,
  Reads,
  ReadsOn,
  StopsRead,
  TellsRead,
}
use Rattle.shared_iommufd.specs.Ports.{KeepsSame, Standing}
use Rattle.port_cache.specs.declared.cache.Found.{Found}
use Rattle.shared_iommufd.specs.declared.error.PortCause.{PortCause}
use Rattle.shared_iommufd.specs.declared.error.PortError.{PortError}
use Rattle.guarded_core.specs.declared.try_error.TryError.{TryError}
use Rattle.guarded_core.specs.declared.try_error.TryError.TheVariants as tried
use Rattle.shared_iommufd.proofs.DeviceAnswers.{ComesOfRead, comes_of_read}
use Rattle.guarded_core.proofs.Guards.{refused_sees}
use Rattle.shared_iommufd.proofs.Passed.{bytes_more, none_passed, one_passed, passed_later, standing_more}

-- bytes that are written behind those that stand in place of the old ones
put_behind : (new old bytes : List ℕ) (done k : ℕ) → length new ≡ done → k ≡ length bytes
    → done + length bytes ≤ length old
    → put_mid done k (new ++ drop done old) bytes ≡ (new ++ bytes) ++ drop (done + length bytes) old
put_behind new old bytes done k count part within =
    let rest : drop k (drop done (new ++ drop done old)) ≡ drop (done + length bytes) old =
    ap (drop k) (drop_at new (drop done old) done count)
    ∙ (drop-drop k done old ∙ ap (λ n. drop (done + n) old) part) in
    (λ i. take_at new (drop done old) done count i ++ (bytes ++ rest i))
    ∙ sym (append_assoc new bytes (drop (done + length bytes) old))

-- a part of the buffer
part_length : (done k : ℕ) (buffer : List ℕ) → k ≤ length buffer - done → length (mid_of done k buffer) ≡ k
part_length done k buffer few =
    let rest : length (drop done buffer) ≡ length buffer - done = length-drop done buffer in
    length-take-le k (drop done buffer) (omega (arith, few, rest))

-- as many bytes as the next piece has are left
piece_few : (address left : ℕ) → piece_len address left ≤ left
piece_few address left = min-le_left left (min (4096 - offset_of address) 64)

-- ---- one piece, whenever it is told of

module _ {A : Type 0} {g : CoreGhosts A} where
  -- what is read by a port that keeps the same is read so
  tells_sooner : (settings : Settings) (device : DeviceNo) (address len : ℕ) (o p : Standing A g) (finds : Found)
      (told : Answer) (pass : CorePass A g) → KeepsSame o p → TellsRead settings device address len p finds told pass
      → TellsRead settings device address len o finds told pass
  tells_sooner settings device address len o p finds told pass same tells = record {
    records = tells.records;
    seen = tells.seen;
    turns = tells.turns;
    found = tells.found ∙ (λ i. found settings tells.records device (same.turns i) (same.kept i) address Read);
    lawful = tells.lawful;
    by = tells.by;
  }

  read_sooner : (settings : Settings) (device : DeviceNo) (most address len : ℕ) (o p : Standing A g) (told : Answer)
      (q : Standing A g) → OnlySees (view_of o.pass) (view_of p.pass) → HadNone (view_of o.pass) (view_of p.pass)
      → KeepsSame o p → IsReadSo settings device most address len p told q
      → IsReadSo settings device most address len o told q
  read_sooner settings device most address len o p told q sees had same read = record {
    sees = sees_then (view_of o.pass) (view_of p.pass) (view_of q.pass) sees read.sees;
    had = lane_then (view_of o.pass) (view_of p.pass) (view_of q.pass) had read.had;
    finds = read.finds;
    tells = tells_sooner settings device address len o p read.finds told q.pass same read.tells;
    turns = read.turns;
    leaves = subst (λ (c : ℕ × Translations). Leaves most (page_of address) read.finds.translation
        (compared c.0 read.finds.turns c.1) q.kept) (λ i. (same.turns i, same.kept i)) read.leaves;
  }

module _ {A : Type 0} {g : CoreGhosts A} (settings : Settings) (device : DeviceNo) (most address : ℕ) (old : List ℕ)
    (first : Standing A g) where
  pub none_read : HasRead settings device most address old first 0 first old
  none_read = record {
    pieces = [];
    passed = none_passed (IsReadPiece settings device most) address (length old) first;
    had = none_had (view_of first.pass);
    buffer = refl;
  }

  -- the buffer is as long as it was
  pub same_length : (done : ℕ) (p : Standing A g) (buffer : List ℕ)
      → HasRead settings device most address old first done p buffer → length buffer ≡ length old
  same_length done p buffer has =
      let count = has.passed.count in
      let within = has.passed.within in
      let both : length (bytes_of has.pieces ++ drop done old) ≡ length (bytes_of has.pieces) + length (drop done old) =
      length-append (bytes_of has.pieces) (drop done old) in
      let rest : length (drop done old) ≡ length old - done = length-drop done old in
      ap length has.buffer ∙ (let e : length (bytes_of has.pieces ++ drop done old) ≡ length old =
      omega (arith, both, rest, count, within) in e)

  -- one piece more
  pub one_read : (of : DeviceNo × ℕ) (done len k : ℕ) (p q : Standing A g) (buffer bytes : List ℕ)
      → of ≡ (device, most) → HasRead settings device most address old first done p buffer → done < length buffer
      → length bytes ≡ length (mid_of done k buffer) → len ≡ piece_len (address + done) (length buffer - done) → k ≡ len
      → SamePass p.pass q.pass
      → IsReadSo settings of.0 of.1 (address + done) (length (mid_of done k buffer)) p (answer.Read bytes) q
      → HasRead settings device most address old first (done + len) q (put_mid done k buffer bytes)
  one_read of done len k p q buffer bytes its has less part fits same_len same read =
      let long = same_length done p buffer has in
      let few : k ≤ length buffer - done = subst (λ (n : ℕ). n ≤ length buffer - done) (sym (same_len ∙ fits))
      (piece_few (address + done) (length buffer - done)) in
      let count : length bytes ≡ len = part ∙ (part_length done k buffer few ∙ same_len) in
      let pieces = has.pieces in
      let piece : Piece A g = record { bytes = bytes; at = None; after = q } in
      let passed : HavePassed (IsReadPiece settings device most) address (length old) first (pieces ++ piece ∷ [])
      (done + length bytes) q =
      one_passed (IsReadPiece settings device most) address (length old) done first p pieces piece has.passed
      (subst (λ (n : ℕ). done < n) long less) (count ∙ (fits ∙ ap (λ n. piece_len (address + done) (n - done)) long)) same record {
        read = read_sooner settings device most (address + done) (length bytes) (standing_after first pieces) p
            (answer.Read bytes) q has.passed.sees has.had has.passed.keeps
            (subst (λ (c : (DeviceNo × ℕ) × ℕ). IsReadSo settings c.0.0 c.0.1 (address + done) c.1 p (answer.Read bytes) q)
            (λ i. (its i, sym part i)) read);
        at = refl;
      } in
      subst (λ (n : ℕ). HasRead settings device most address old first (done + n) q (put_mid done k buffer bytes)) count
      record {
        pieces = pieces ++ piece ∷ [];
        passed = passed;
        had = subst (λ (r : Standing A g). HadNone (view_of r.pass) (view_of q.pass))
            (sym (standing_more first pieces piece)) (none_had (view_of q.pass));
        buffer = ap (λ l. put_mid done k l bytes) has.buffer
            ∙ (put_behind (bytes_of pieces) old bytes done k has.passed.count (same_len ∙ sym count) passed.within
            ∙ ap (λ l. l ++ drop (done + length bytes) old) (sym (bytes_more pieces piece)));
      }

  -- the pass has only seen more since
  pub read_later : (done : ℕ) (p q : Standing A g) (buffer : List ℕ)
      → HasRead settings device most address old first done p buffer → SamePass p.pass q.pass
      → OnlySees (view_of p.pass) (view_of q.pass) → HadNone (view_of p.pass) (view_of q.pass) → KeepsSame p q
      → HasRead settings device most address old first done q buffer
  read_later done p q buffer has same sees had keeps = record {
    pieces = has.pieces;
    passed = passed_later (IsReadPiece settings device most) address (length old) done first p q has.pieces has.passed
        same sees keeps;
    had = none_then (view_of (standing_after first has.pieces).pass) (view_of p.pass) (view_of q.pass) has.had had;
    buffer = has.buffer;
  }

  -- the next piece isn't read, and nothing was written into its part of the buffer
  pub read_stops : (of : DeviceNo × ℕ) (done len k : ℕ) (p q : Standing A g) (buffer bytes : List ℕ)
      (cause : TryError PortCause) → of ≡ (device, most) → HasRead settings device most address old first done p buffer
      → done < length buffer → bytes ≡ mid_of done k buffer
      → len ≡ piece_len (address + done) (length buffer - done) → k ≡ len → SamePass p.pass q.pass
      → DeniesRead settings of.0 of.1 (address + done) (length (mid_of done k buffer)) p cause q
      → StopsRead settings device most address old first (record { done = done; cause = cause }) q
      (put_mid done k buffer bytes)
  read_stops of done len k p q buffer bytes cause its has less kept fits same_len same denied =
      let long = same_length done p buffer has in
      let few : k ≤ length buffer - done = subst (λ (n : ℕ). n ≤ length buffer - done) (sym (same_len ∙ fits))
      (piece_few (address + done) (length buffer - done)) in
      let as_it_was : put_mid done k buffer bytes ≡ buffer = ap (put_mid done k buffer) kept ∙ put_same done k buffer in
      record {
        before = p;
        read = subst (λ (l : List ℕ). HasRead settings device most address old first done p l) (sym as_it_was) has;
        less = subst (λ (n : ℕ). done < n) long less;
        same = same;
        denied =
            let count : length (mid_of done k buffer) ≡ piece_len (address + done) (length old - done) =
            part_length done k buffer few
            ∙ (same_len ∙ (fits ∙ ap (λ n. piece_len (address + done) (n - done)) long)) in
            subst (λ (c : (DeviceNo × ℕ) × ℕ). DeniesRead settings c.0.0 c.0.1 (address + done) c.1 p cause q)
            (λ i. (its i, count i)) denied;
      }

  -- it has come to the end
  pub all_read : (done : ℕ) (p : Standing A g) (buffer : List ℕ)
      → HasRead settings device most address old first done p buffer → length buffer ≤ done
      → HasRead settings device most address old first (length old) p buffer
  all_read done p buffer has end =
      let long = same_length done p buffer has in
      let within = has.passed.within in
      let e : done ≡ length old = omega (arith, long, within, end) in
      subst (λ (n : ℕ). HasRead settings device most address old first n p buffer) e has

pub read_answer : (address len : ℕ) (a : Answer) → ComesOfRead address len a → IsReadAnswer len a
read_answer address len (answer.Read bytes) comes = comes.0
read_answer address len (answer.Fault fault) comes = tt
read_answer address len (answer.Refused refusal) comes = tt
read_answer address len (answer.Count count) comes = comes
read_answer address len (answer.Attached hwpt) comes = comes
read_answer address len (answer.Walk translation) comes = comes
read_answer address len (answer.Dirty words) comes = comes

-- ---- a read that goes on

module _ {A : Type 0} {g : CoreGhosts A} (settings : Settings) (of at : DeviceNo × ℕ) (address : ℕ) (old : List ℕ)
    (first : Standing A g) where
  pub goes_on : (done : ℕ) (p q : Standing A g) (buffer new : List ℕ)
      (result : Result (Unit {0}) (PortError (TryError PortCause))) → of ≡ at
      → HasRead settings at.0 at.1 address old first done p buffer
      → ReadsOn settings of.0 of.1 address p done buffer result q new
      → Reads settings at.0 at.1 address old first result q new
  goes_on done p q buffer new result its has on =
      subst (λ (d : DeviceNo × ℕ). Reads settings d.0 d.1 address old first result q new) its
      (on old first (subst (λ (d : DeviceNo × ℕ). HasRead settings d.0 d.1 address old first done p buffer) (sym its) has))

  -- it stopped since the lane couldn't be had, and has come no less far
  pub stays_read : (error : PortError (TryError PortCause)) (refused : NotNow) (q : Standing A g) (new : List ℕ)
      → error.cause ≡ tried.NotNow refused → StopsRead settings at.0 at.1 address old first error q new
      → HasRead settings at.0 at.1 address old first error.done q new
  stays_read error refused q new is stops =
      let len = piece_len (address + error.done) (length old - error.done) in
      let denied : DeniesRead settings at.0 at.1 (address + error.done) len stops.before (tried.NotNow refused) q =
      subst (λ (c : TryError PortCause). DeniesRead settings at.0 at.1 (address + error.done) len stops.before c q) is
      stops.denied in
      read_later settings at.0 at.1 address old first error.done stops.before q new stops.read stops.same
      (refused_sees (view_of stops.before.pass) (view_of q.pass) (lane_of stops.before.pass) refused denied.0)
      (read_had (view_of stops.before.pass) (view_of q.pass) (lane_of stops.before.pass) refused denied.0) denied.1

module _ {A : Type 0} {g : CoreGhosts A} where
  -- what the answer to a device's read may be
  pub comes_of_answer : (settings : Settings) (device : DeviceNo) (most : ℕ) (iova : Iova) (len : ℕ) (p q : Standing A g)
      (a b : Answer) → a ≡ b → IsReadSo settings device most iova.0 len p a q → ComesOfRead iova.0 len b
  comes_of_answer settings device most iova len p q a b is read =
      subst (ComesOfRead iova.0 len) is
      (comes_of_read settings read.tells.records device iova len a read.tells.seen.run read.tells.lawful)

  -- what had come so far when the port stood as p has come so far when it stands as q
  abbrev pub HasGoneOn : Settings → DeviceNo → ℕ → ℕ → ℕ → Standing A g → List ℕ → ℕ → Standing A g → List ℕ → Type 0
  HasGoneOn settings device most address done p buffer done' q buffer' =
      (old : List ℕ) (first : Standing A g) → HasRead settings device most address old first done p buffer
      → HasRead settings device most address old first done' q buffer'
