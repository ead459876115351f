-- A port's write, piece by piece.
use Rattle.std.proofs.Common.{◌≡◌, ℕ, ◌+◌, ◌-◌, ◌<◌, ◌≤◌, ◌^◌, min, Option, None, List, [], ◌∷◌, ◌++◌, length, take, drop}
use Rattle.std.proofs.Common.{Result, length-drop, map, refl, sym, ap, ◌∙◌, subst, arith}
use Rattle.std.proofs.Math.Nat.{min-le_left}
use Rattle.std.proofs.Math.Seq.{take-add}
use Rattle.std.proofs.lemmas.List.{length-take-le}
use Rattle.iofd_words.specs.Pages.{offset_of, page_of}
use Rattle.iofd_steps.specs.Run.{IsRun}
use Rattle.iofd_words.specs.Settings.{Settings}
use Rattle.iofd_words.specs.declared.event.Act.{Act}
use Rattle.iofd_words.specs.declared.fault.AccessKind.TheVariants.{Write}
use Rattle.iofd_words.specs.declared.fault.Fault.{Fault}
use Rattle.iofd_words.specs.declared.numbers.DeviceNo.{DeviceNo}
use Rattle.iofd_words.specs.declared.numbers.FrameNo.{FrameNo}
use Rattle.iofd_words.specs.declared.numbers.Iova.{Iova}
use Rattle.iofd_words.specs.declared.query.Translation.{Translation}
use Rattle.iofd_words.specs.declared.refusal.Refusal.{Refusal}
use Rattle.iofd_words.specs.declared.reply.Reply.{Reply}
use Rattle.iofd_words.specs.declared.reply.Reply.TheVariants as reply
use Rattle.iommufd_core.specs.History.{History}
use Rattle.iommufd_core.specs.declared.apply.Stamp.{Stamp}
use Rattle.lane_lock.specs.History.{made_by}
use Rattle.lane_lock.specs.Outcomes.{HadNoLane, OnlySees}
use Rattle.lane_lock.specs.Passes.{SamePass, view_of}
use Rattle.lane_lock.specs.declared.refusal.NotNow.{NotNow}
use Rattle.guarded_core.specs.Applied.{IsApplied}
use Rattle.port_cache.specs.Cached.{Leaves, Translations, compared}
use Rattle.guarded_core.specs.Caches.{found, write_by}
use Rattle.guarded_core.specs.Entries.{history_of, maker_of, told}
use Rattle.shared_iommufd.specs.Made.{Makes}
use Rattle.guarded_core.specs.Passes.{CoreGhosts, CorePass}
use Rattle.shared_iommufd.specs.Pieces.{HavePassed, Piece, standing_after, piece_len}
use Rattle.shared_iommufd.specs.PortWrites.{
  DeniesWrite,
  HasWritten,
  IsWrittenPiece,
  IsWrittenSo,
  StopsWrite,
  TellsWrite,
  Writes,
  WritesOn,
}
use Rattle.shared_iommufd.specs.Ports.{KeepsSame, Standing}
use Rattle.port_cache.specs.declared.cache.Found.{Found}
use Rattle.shared_iommufd.specs.declared.error.PortCause.{PortCause}
use Rattle.shared_iommufd.specs.declared.error.PortError.{PortError}
use Rattle.guarded_core.specs.declared.try_error.TryError.{TryError}
use Rattle.guarded_core.specs.declared.try_error.TryError.TheVariants as tried
use Rattle.guarded_core.specs.declared.kept_core.Entry.TheVariants as entry
use Rattle.shared_iommufd.proofs.DeviceAnswers.{ComesOfWrite, comes_of_write}
use Rattle.guarded_core.proofs.Guards.{commit_had, commit_sees}
use Rattle.shared_iommufd.proofs.Passed.{bytes_more, none_passed, one_passed, passed_later, place_more, standing_more}
use Rattle.guarded_core.proofs.Entered.{starts_so}

module _ {A : Type 0} {g : CoreGhosts A} where
  -- what was made once the pass had seen more was made by it as it was before
  abbrev pub makes_sooner : (settings : Settings) (o p q : CorePass A g) (act : Act A) (stamp : Stamp) → SamePass o p
      → OnlySees (view_of o) (view_of p) → HadNoLane (view_of o) (view_of p) → Makes settings p act stamp q
      → Makes settings o act stamp q
  makes_sooner settings o p q act stamp same sees had m = record {
    before = m.before;
    made = m.made;
    later = starts_so (told (history_of settings m.before)) (view_of p).seen (view_of o).seen m.later sees.later;
    mine = subst (λ (n : ℕ). made_by maker_of n (map entry.Made m.before) ≡ (view_of o).made)
        same.number (m.mine ∙ sees.made);
    applied = subst (λ (n : ℕ). IsApplied (record { 0 = n }) act stamp (history_of settings m.before)
        (history_of settings (m.before ++ m.made ∷ []))) same.number m.applied;
    seen = m.seen;
    own = m.own ∙ ap (λ l. l ++ entry.Made m.made ∷ []) sees.made;
    home = m.home;
    had = m.had ∙ had;
  }

  -- what is written by a port that keeps the same is written so
  tells_sooner : (settings : Settings) (device : DeviceNo) (address : ℕ) (bytes : List ℕ) (o p : Standing A g)
      (finds : Found) (stamp : Stamp) (pass : CorePass A g) → SamePass o.pass p.pass
      → OnlySees (view_of o.pass) (view_of p.pass) → HadNoLane (view_of o.pass) (view_of p.pass) → KeepsSame o p
      → TellsWrite settings device address bytes p finds stamp pass
      → TellsWrite settings device address bytes o finds stamp pass
  tells_sooner settings device address bytes o p finds stamp pass is_pass sees had same tells = record {
    makes = makes_sooner settings o.pass p.pass pass (write_by device address bytes finds.translation) stamp is_pass sees
        had tells.makes;
    turns = tells.turns;
    found = tells.found ∙ (λ i. found settings tells.makes.before device (same.turns i) (same.kept i) address Write);
    passes = tells.passes;
  }

  written_sooner : (settings : Settings) (device : DeviceNo) (most address : ℕ) (bytes : List ℕ) (o p : Standing A g)
      (told : Reply) (place : Option ℕ) (q : Standing A g) → SamePass o.pass p.pass
      → OnlySees (view_of o.pass) (view_of p.pass) → HadNoLane (view_of o.pass) (view_of p.pass) → KeepsSame o p
      → IsWrittenSo settings device most address bytes p told place q
      → IsWrittenSo settings device most address bytes o told place q
  written_sooner settings device most address bytes o p told place q is_pass sees had same written = record {
    finds = written.finds;
    stamp = written.stamp;
    tells = tells_sooner settings device address bytes o p written.finds written.stamp q.pass is_pass sees had same
        written.tells;
    reply = written.reply;
    at = written.at;
    turns = written.turns;
    leaves = subst (λ (c : ℕ × Translations). Leaves most (page_of address) written.finds.translation
        (compared c.0 written.finds.turns c.1) q.kept) (λ i. (same.turns i, same.kept i)) written.leaves;
  }

  -- what the reply to a device's write may be
  pub comes_of_made : (settings : Settings) (device : DeviceNo) (iova : Iova) (bytes : List ℕ) (o : Option Translation)
      (p q : CorePass A g) (stamp : Stamp) → Makes settings p (write_by device iova.0 bytes o) stamp q
      → ComesOfWrite iova.0 stamp.reply
  comes_of_made settings device iova bytes o p q stamp m =
      let one = m.applied.one_more in
      let same : history_of settings (m.before ++ m.made ∷ []) ≡ history_of settings (m.before ++ one.made ∷ []) =
      one.records in
      let run : IsRun settings (m.before ++ one.made ∷ []) = subst (λ (h : History A). IsRun h.settings h.records) same
      m.applied.run in
      subst (ComesOfWrite iova.0) one.reply (comes_of_write settings m.before one.made device iova bytes run one.event)

-- where a write passed its address is below every width
pub passed_below : (address : ℕ) (r : Reply) (frame : FrameNo) → ComesOfWrite address r → r ≡ reply.Passed frame
    → address < 2 ^ 57
passed_below address r frame comes is = subst (ComesOfWrite address) is comes

-- there is no other answer
pub no_other : (address : ℕ) (r : Reply) → ComesOfWrite address r → ((frame : FrameNo) → r ≡ reply.Passed frame → ⊥)
    → ((fault : Fault) → r ≡ reply.Fault fault → ⊥) → ((refusal : Refusal) → r ≡ reply.Refused refusal → ⊥) → ⊥
no_other address (reply.Passed frame) comes passed denied refused = passed frame refl
no_other address (reply.Fault fault) comes passed denied refused = denied fault refl
no_other address (reply.Refused refusal) comes passed denied refused = refused refusal refl
no_other address other comes passed denied refused = absurd comes

module _ {A : Type 0} {g : CoreGhosts A} (settings : Settings) (device : DeviceNo) (most address : ℕ) (bytes : List ℕ)
    (first : Standing A g) where
  pub none_written : HasWritten settings device most address bytes first 0 first None
  none_written = record {
    pieces = [];
    passed = none_passed (IsWrittenPiece settings device most) address (length bytes) first;
    had = refl;
    taken = refl;
    ends = refl;
  }

  -- one piece more
  pub one_written : (of : DeviceNo × ℕ) (done len k : ℕ) (p q : Standing A g) (before last : Option ℕ) (frame : FrameNo)
      → of ≡ (device, most) → HasWritten settings device most address bytes first done p before → done < length bytes
      → len ≡ piece_len (address + done) (length bytes - done) → k ≡ len → SamePass p.pass q.pass
      → IsWrittenSo settings of.0 of.1 (address + done) (take k (drop done bytes)) p (reply.Passed frame) last q
      → HasWritten settings device most address bytes first (done + len) q last
  one_written of done len k p q before last frame its has less fits same_len same written_so =
      let pieces = has.pieces in
      let part = take len (drop done bytes) in
      let piece : Piece A g = record { bytes = part; at = last; after = q } in
      let written : IsWrittenSo settings device most (address + done) part p (reply.Passed frame) last q =
      subst (λ (c : (DeviceNo × ℕ) × ℕ). IsWrittenSo settings c.0.0 c.0.1 (address + done) (take c.1 (drop done bytes)) p
      (reply.Passed frame) last q) (λ i. (its i, same_len i)) written_so in
      let few : len ≤ length bytes - done = subst (λ (n : ℕ). n ≤ length bytes - done) (sym fits)
      (min-le_left (length bytes - done) (min (4096 - offset_of (address + done)) 64)) in
      let rest : length (drop done bytes) ≡ length bytes - done = length-drop done bytes in
      let count : length part ≡ len = length-take-le len (drop done bytes) (omega (arith, few, rest)) in
      let passed : HavePassed (IsWrittenPiece settings device most) address (length bytes) first (pieces ++ piece ∷ [])
      (done + length part) q =
      one_passed (IsWrittenPiece settings device most) address (length bytes) done first p pieces piece has.passed less
      (count ∙ fits) same record {
        frame = frame;
        written = written_sooner settings device most (address + done) part (standing_after first pieces) p
            (reply.Passed frame) last q has.passed.same has.passed.sees has.had has.passed.keeps written;
      } in
      subst (λ (n : ℕ). HasWritten settings device most address bytes first (done + n) q last) count record {
        pieces = pieces ++ piece ∷ [];
        passed = passed;
        had = subst (λ (r : Standing A g). HadNoLane (view_of r.pass) (view_of q.pass))
            (sym (standing_more first pieces piece)) refl;
        taken = bytes_more pieces piece
            ∙ (ap (λ l. l ++ part) has.taken
            ∙ (sym (take-add done len bytes) ∙ ap (λ n. take (done + n) bytes) (sym count)));
        ends = sym (place_more None pieces piece);
      }

  -- the pass has only seen more since
  pub written_later : (done : ℕ) (p q : Standing A g) (last : Option ℕ)
      → HasWritten settings device most address bytes first done p last → SamePass p.pass q.pass
      → OnlySees (view_of p.pass) (view_of q.pass) → HadNoLane (view_of p.pass) (view_of q.pass) → KeepsSame p q
      → HasWritten settings device most address bytes first done q last
  written_later done p q last has same sees had keeps = record {
    pieces = has.pieces;
    passed = passed_later (IsWrittenPiece settings device most) address (length bytes) done first p q has.pieces
        has.passed same sees keeps;
    had = had ∙ has.had;
    taken = has.taken;
    ends = has.ends;
  }

  -- the next piece isn't written
  pub write_stops : (lanes : ℕ) (of : DeviceNo × ℕ) (done len k : ℕ) (p q : Standing A g) (before last : Option ℕ)
      (cause : TryError PortCause) → of ≡ (device, most)
      → HasWritten settings device most address bytes first done p before → done < length bytes
      → len ≡ piece_len (address + done) (length bytes - done) → k ≡ len → SamePass p.pass q.pass
      → DeniesWrite settings lanes of.0 of.1 (address + done) (take k (drop done bytes)) p before cause q last
      → StopsWrite settings lanes device most address bytes first (record { done = done; cause = cause }) q last
  write_stops lanes of done len k p q before last cause its has less fits same_len same denied =
      record {
        before = p;
        place = before;
        written = has;
        less = less;
        same = same;
        denied = subst (λ (c : (DeviceNo × ℕ) × ℕ). DeniesWrite settings lanes c.0.0 c.0.1 (address + done)
            (take c.1 (drop done bytes)) p before cause q last) (λ i. (its i, (same_len ∙ fits) i)) denied;
      }

  -- it has come to the end
  pub all_written : (done : ℕ) (p : Standing A g) (last : Option ℕ)
      → HasWritten settings device most address bytes first done p last → length bytes ≤ done
      → HasWritten settings device most address bytes first (length bytes) p last
  all_written done p last has end =
      let within = has.passed.within in
      let e : done ≡ length bytes = omega (arith, within, end) in
      subst (λ (n : ℕ). HasWritten settings device most address bytes first n p last) e has

-- ---- a write that goes on

module _ {A : Type 0} {g : CoreGhosts A} (settings : Settings) (lanes : ℕ) (of at : DeviceNo × ℕ) (address : ℕ)
    (bytes : List ℕ) (first : Standing A g) where
  pub goes_on : (done : ℕ) (p q : Standing A g) (before last : Option ℕ)
      (result : Result (Unit {0}) (PortError (TryError PortCause))) → of ≡ at
      → HasWritten settings at.0 at.1 address bytes first done p before
      → WritesOn settings lanes of.0 of.1 address bytes p done before result q last
      → Writes settings lanes at.0 at.1 address bytes first result q last
  goes_on done p q before last result its has on =
      subst (λ (d : DeviceNo × ℕ). Writes settings lanes d.0 d.1 address bytes first result q last) its
      (on first (subst (λ (d : DeviceNo × ℕ). HasWritten settings d.0 d.1 address bytes first done p before) (sym its)
      has))

  -- it stopped since the lanes couldn't be had, and has come no less far
  pub stays_written : (error : PortError (TryError PortCause)) (refused : NotNow) (q : Standing A g) (last : Option ℕ)
      → error.cause ≡ tried.NotNow refused → StopsWrite settings lanes at.0 at.1 address bytes first error q last
      → HasWritten settings at.0 at.1 address bytes first error.done q last
  stays_written error refused q last is stops =
      let part = take (piece_len (address + error.done) (length bytes - error.done)) (drop error.done bytes) in
      let denied : DeniesWrite settings lanes at.0 at.1 (address + error.done) part stops.before stops.place
      (tried.NotNow refused) q last =
      subst (λ (c : TryError PortCause). DeniesWrite settings lanes at.0 at.1 (address + error.done) part stops.before
      stops.place c q last) is stops.denied in
      subst (λ (l : Option ℕ). HasWritten settings at.0 at.1 address bytes first error.done q l) (sym denied.2)
      (written_later settings at.0 at.1 address bytes first error.done stops.before q stops.place stops.written stops.same
      (commit_sees lanes (view_of stops.before.pass) (view_of q.pass) refused denied.0)
      (commit_had lanes (view_of stops.before.pass) (view_of q.pass) refused denied.0) denied.1)

module _ {A : Type 0} {g : CoreGhosts A} where
  -- what had come so far when the port stood as p has come so far when it stands as q
  abbrev pub HasGoneOn : Settings → DeviceNo → ℕ → ℕ → List ℕ → ℕ → Standing A g → Option ℕ → ℕ → Standing A g → Option ℕ
      → Type 0
  HasGoneOn settings device most address bytes done p last done' q last' =
      (first : Standing A g) → HasWritten settings device most address bytes first done p last
      → HasWritten settings device most address bytes first done' q last'
