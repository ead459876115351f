-- A port's reads.
use Rattle.std.specs.Prelude.{◌≡◌, ℕ, ◌+◌, ◌-◌, ◌<◌, None, Result, Ok, Err, List, ◌++◌, length, drop}
use Rattle.std.specs.Prelude.{Contains}
use Rattle.iofd_steps.specs.Look.{answers_to}
use Rattle.iofd_words.specs.Pages.{page_of}
use Rattle.iofd_words.specs.Record.{Record}
use Rattle.iofd_words.specs.Settings.{Settings}
use Rattle.iofd_words.specs.Turns.{turns_of}
use Rattle.iofd_words.specs.declared.fault.AccessKind.TheVariants.{Read}
use Rattle.iofd_words.specs.declared.numbers.DeviceNo.{DeviceNo}
use Rattle.iofd_words.specs.declared.query.Answer.{Answer}
use Rattle.iofd_words.specs.declared.query.Answer.TheVariants as answer
use Rattle.iofd_words.specs.declared.query.Query.TheVariants as query
use Rattle.lane_lock.specs.Outcomes.{HadLane, HadNone, OnlySees, RefusesRead}
use Rattle.lane_lock.specs.Passes.{SamePass, lane_of, view_of}
use Rattle.port_cache.specs.Cached.{Leaves, compared}
use Rattle.guarded_core.specs.Caches.{ReadBy, found}
use Rattle.guarded_core.specs.Passes.{CoreGhosts, CorePass}
use Rattle.shared_iommufd.specs.Pieces.{HavePassed, Piece, bytes_of, piece_len, standing_after}
use Rattle.shared_iommufd.specs.Ports.{KeepsSame, Standing}
use Rattle.shared_iommufd.specs.Seen.{HasSeen}
use Rattle.port_cache.specs.declared.cache.Found.{Found}
use Rattle.shared_iommufd.specs.declared.error.PortCause.{PortCause}
use Rattle.shared_iommufd.specs.declared.error.PortCause.TheVariants as cause
use Rattle.shared_iommufd.specs.declared.error.PortError.{PortError}
use Rattle.guarded_core.specs.declared.try_error.TryError.{TryError}
use Rattle.guarded_core.specs.declared.try_error.TryError.TheVariants as tried

-- what a device's read of so many bytes may be answered
abbrev pub IsReadAnswer : ℕ → Answer → Type 0
IsReadAnswer len (answer.Read bytes) = length bytes ≡ len
IsReadAnswer len (answer.Fault fault) = Unit {0}
IsReadAnswer len (answer.Refused refusal) = Unit {0}
IsReadAnswer len (answer.Count count) = ⊥
IsReadAnswer len (answer.Attached hwpt) = ⊥
IsReadAnswer len (answer.Walk translation) = ⊥
IsReadAnswer len (answer.Dirty words) = ⊥

-- the answer is no bytes, for this cause
abbrev pub IsDenial : Answer → PortCause → Type 0
IsDenial a (cause.Refused refusal) = a ≡ answer.Refused refusal
IsDenial a (cause.Fault fault) = a ≡ answer.Fault fault
IsDenial a (cause.Memory no_memory) = ⊥

module _ {A : Type 0} {g : CoreGhosts A} where
  -- What a guard tells of the device's read of so many bytes, by what a port keeps that stands as p: the pass has then
  -- seen just these records, the answer is one that the policy allows then, and is by what the read finds.
  pub record TellsRead (settings : Settings) (device : DeviceNo) (address len : ℕ) (p : Standing A g) (finds : Found)
      (told : Answer) (pass : CorePass A g) : Type 0 where
    pub records : List (Record A)
    pub seen : HasSeen settings pass records
    pub turns : finds.turns ≡ turns_of device records
    pub found : finds.translation ≡ found settings records device p.turns p.kept address Read
    pub lawful : Contains (answers_to settings records (query.DeviceRead device (record { 0 = address }) len)) told
    pub by : ReadBy settings records device (record { 0 = address }) len finds.translation told

  -- The device's read of so many bytes at the address is answered so, after all records that the pass has then seen;
  -- these begin with what it had seen before, and it made none and had a share once. The port, which may keep so many
  -- pages, keeps what the read found.
  pub record IsReadSo (settings : Settings) (device : DeviceNo) (most address len : ℕ) (p : Standing A g) (told : Answer)
      (q : Standing A g) : Type 0 where
    pub sees : OnlySees (view_of p.pass) (view_of q.pass)
    pub had : HadLane (view_of p.pass) (view_of q.pass)
    pub finds : Found
    pub tells : TellsRead settings device address len p finds told q.pass
    pub turns : q.turns ≡ finds.turns
    pub leaves : Leaves most (page_of address) finds.translation (compared p.turns finds.turns p.kept) q.kept

  -- a piece of a read
  pub record IsReadPiece (settings : Settings) (device : DeviceNo) (most address : ℕ) (p : Standing A g)
      (piece : Piece A g) : Type 0 where
    pub read : IsReadSo settings device most address (length piece.bytes) p (answer.Read piece.bytes) piece.after
    pub at : piece.at ≡ None

  -- So many bytes have been read, and stand in the buffer in place of the old ones; the others are the old ones. Since
  -- the last of them the pass had no share to read, and not the last lane to write.
  pub record HasRead (settings : Settings) (device : DeviceNo) (most address : ℕ) (old : List ℕ) (p : Standing A g)
      (done : ℕ) (q : Standing A g) (new : List ℕ) : Type 0 where
    pub pieces : List (Piece A g)
    pub passed : HavePassed (IsReadPiece settings device most) address (length old) p pieces done q
    pub had : HadNone (view_of (standing_after p pieces).pass) (view_of q.pass)
    pub buffer : new ≡ bytes_of pieces ++ drop done old

  -- why a piece isn't read: the answer that it got is no read; or its lane couldn't be had, and nothing was seen
  abbrev pub DeniesRead : Settings → DeviceNo → ℕ → ℕ → ℕ → Standing A g → TryError PortCause → Standing A g → Type 0
  DeniesRead settings device most address len p (tried.Call (cause.Refused refusal)) q =
      IsReadSo settings device most address len p (answer.Refused refusal) q
  DeniesRead settings device most address len p (tried.Call (cause.Fault fault)) q =
      IsReadSo settings device most address len p (answer.Fault fault) q
  DeniesRead settings device most address len p (tried.Call (cause.Memory no_memory)) q = ⊥
  DeniesRead settings device most address len p (tried.NotNow refused) q =
      RefusesRead (view_of p.pass) (view_of q.pass) (lane_of p.pass) refused × KeepsSame p q

  -- it stopped at the first piece that isn't read
  pub record StopsRead (settings : Settings) (device : DeviceNo) (most address : ℕ) (old : List ℕ) (p : Standing A g)
      (error : PortError (TryError PortCause)) (q : Standing A g) (new : List ℕ) : Type 0 where
    pub before : Standing A g
    pub read : HasRead settings device most address old p error.done before new
    pub less : error.done < length old
    pub same : SamePass before.pass q.pass
    pub denied : DeniesRead settings device most (address + error.done)
        (piece_len (address + error.done) (length old - error.done)) before error.cause q

  -- how a read ends: all bytes have been read, or it stopped
  abbrev pub Reads : Settings → DeviceNo → ℕ → ℕ → List ℕ → Standing A g
      → Result (Unit {0}) (PortError (TryError PortCause)) → Standing A g → List ℕ → Type 0
  Reads settings device most address old p (Ok done) q new =
      HasRead settings device most address old p (length old) q new
  Reads settings device most address old p (Err error) q new =
      StopsRead settings device most address old p error q new

  -- how it ends that had come so far: whatever was read before is a part of it
  abbrev pub ReadsOn : Settings → DeviceNo → ℕ → ℕ → Standing A g → ℕ → List ℕ
      → Result (Unit {0}) (PortError (TryError PortCause)) → Standing A g → List ℕ → Type 0
  ReadsOn settings device most address p done buffer result q new =
      (old : List ℕ) (first : Standing A g) → HasRead settings device most address old first done p buffer
      → Reads settings device most address old first result q new

-- what a call that waits ends with, as one that doesn't may end with it: never since its lane couldn't be had
abbrev pub as_tried : Result (Unit {0}) (PortError PortCause) → Result (Unit {0}) (PortError (TryError PortCause))
as_tried (Ok done) = Ok done
as_tried (Err error) = Err (record { done = error.done; cause = tried.Call error.cause })
