-- A port's writes.
use Rattle.std.specs.Prelude.{◌≡◌, ◌⊎◌, ℕ, ◌+◌, ◌-◌, ◌<◌, Option, Some, None, Result, Ok, Err, List, length, take, drop}
use Rattle.std.specs.Prelude.{IfSome}
use Rattle.iofd_words.specs.Pages.{page_of}
use Rattle.iofd_words.specs.Settings.{Settings}
use Rattle.iofd_words.specs.Turns.{turns_of}
use Rattle.iofd_words.specs.declared.fault.AccessKind.TheVariants.{Write}
use Rattle.iofd_words.specs.declared.numbers.DeviceNo.{DeviceNo}
use Rattle.iofd_words.specs.declared.numbers.FrameNo.{FrameNo}
use Rattle.iofd_words.specs.declared.reply.Reply.{Reply}
use Rattle.iofd_words.specs.declared.reply.Reply.TheVariants as reply
use Rattle.iommufd_core.specs.declared.apply.Stamp.{Stamp}
use Rattle.lane_lock.specs.Outcomes.{HadAll, HadNoLane, MetNone, OnlySees}
use Rattle.lane_lock.specs.Passes.{SamePass, view_of}
use Rattle.port_cache.specs.Cached.{Leaves, compared}
use Rattle.guarded_core.specs.Caches.{found, write_by}
use Rattle.guarded_core.specs.Guarded.{RefusesCommit}
use Rattle.shared_iommufd.specs.Made.{Makes}
use Rattle.guarded_core.specs.Passes.{CoreGhosts, CorePass}
use Rattle.shared_iommufd.specs.Pieces.{HavePassed, Piece, bytes_of, last_place, piece_len, standing_after}
use Rattle.shared_iommufd.specs.Ports.{KeepsSame, Standing}
use Rattle.port_cache.specs.declared.cache.Found.{Found}
use Rattle.shared_iommufd.specs.declared.error.PortCause.{PortCause}
use Rattle.shared_iommufd.specs.declared.error.PortCause.TheVariants as cause
use Rattle.shared_iommufd.specs.declared.error.PortError.{PortError}
use Rattle.guarded_core.specs.declared.try_error.TryError.{TryError}
use Rattle.guarded_core.specs.declared.try_error.TryError.TheVariants as tried

module _ {A : Type 0} {g : CoreGhosts A} where
  -- What a guard tells of the device's write of these bytes, by what a port keeps that stands as p: the pass made one
  -- record, by what the write finds after the records before.
  pub record TellsWrite (settings : Settings) (device : DeviceNo) (address : ℕ) (bytes : List ℕ) (p : Standing A g)
      (finds : Found) (stamp : Stamp) (pass : CorePass A g) : Type 0 where
    pub makes : Makes settings p.pass (write_by device address bytes finds.translation) stamp pass
    pub turns : finds.turns ≡ turns_of device makes.before
    pub found : finds.translation ≡ found settings makes.before device p.turns p.kept address Write
    pub passes : IfSome finds.translation (λ t. stamp.reply ≡ reply.Passed t.frame)

  -- The pass made one record, of the device's write of these bytes at the address; its reply is this, and it stands at
  -- this place. The port, which may keep so many pages, keeps what the write found.
  pub record IsWrittenSo (settings : Settings) (device : DeviceNo) (most address : ℕ) (bytes : List ℕ)
      (p : Standing A g) (answer : Reply) (place : Option ℕ) (q : Standing A g) : Type 0 where
    pub finds : Found
    pub stamp : Stamp
    pub tells : TellsWrite settings device address bytes p finds stamp q.pass
    pub reply : stamp.reply ≡ answer
    pub at : place ≡ Some stamp.at
    pub turns : q.turns ≡ finds.turns
    pub leaves : Leaves most (page_of address) finds.translation (compared p.turns finds.turns p.kept) q.kept

  -- a piece of a write
  pub record IsWrittenPiece (settings : Settings) (device : DeviceNo) (most address : ℕ) (p : Standing A g)
      (piece : Piece A g) : Type 0 where
    pub frame : FrameNo
    pub written : IsWrittenSo settings device most address piece.bytes p (reply.Passed frame) piece.at piece.after

  -- So many of the bytes have been written, and the last record of these pieces stands at this place. Since then the
  -- pass had no share to read.
  pub record HasWritten (settings : Settings) (device : DeviceNo) (most address : ℕ) (bytes : List ℕ) (p : Standing A g)
      (done : ℕ) (q : Standing A g) (last : Option ℕ) : Type 0 where
    pub pieces : List (Piece A g)
    pub passed : HavePassed (IsWrittenPiece settings device most) address (length bytes) p pieces done q
    pub had : HadNoLane (view_of (standing_after p pieces).pass) (view_of q.pass)
    pub taken : bytes_of pieces ≡ take done bytes
    pub ends : last ≡ last_place None pieces

  -- Why a piece isn't written: the reply to its record says so; or it made none, for want of memory while no lane was
  -- met held and all were had once, or since the lanes couldn't be had, of which there are so many; then the port
  -- keeps what it kept.
  abbrev pub DeniesWrite : Settings → ℕ → DeviceNo → ℕ → ℕ → List ℕ → Standing A g → Option ℕ → TryError PortCause
      → Standing A g → Option ℕ → Type 0
  DeniesWrite settings lanes device most address bytes p before (tried.Call (cause.Refused refusal)) q last =
      IsWrittenSo settings device most address bytes p (reply.Refused refusal) last q
  DeniesWrite settings lanes device most address bytes p before (tried.Call (cause.Fault fault)) q last =
      IsWrittenSo settings device most address bytes p (reply.Fault fault) last q
  DeniesWrite settings lanes device most address bytes p before (tried.Call (cause.Memory no_memory)) q last =
      OnlySees (view_of p.pass) (view_of q.pass) × KeepsSame p q × (last ≡ before)
      × MetNone (view_of p.pass) (view_of q.pass) × HadAll (view_of p.pass) (view_of q.pass)
  DeniesWrite settings lanes device most address bytes p before (tried.NotNow refused) q last =
      RefusesCommit lanes (view_of p.pass) (view_of q.pass) (tried.NotNow refused) × KeepsSame p q × (last ≡ before)

  -- it stopped at the first piece that isn't written
  pub record StopsWrite (settings : Settings) (lanes : ℕ) (device : DeviceNo) (most address : ℕ) (bytes : List ℕ)
      (p : Standing A g) (error : PortError (TryError PortCause)) (q : Standing A g) (last : Option ℕ) : Type 0 where
    pub before : Standing A g
    pub place : Option ℕ
    pub written : HasWritten settings device most address bytes p error.done before place
    pub less : error.done < length bytes
    pub same : SamePass before.pass q.pass
    pub denied : DeniesWrite settings lanes device most (address + error.done)
        (take (piece_len (address + error.done) (length bytes - error.done)) (drop error.done bytes)) before place
        error.cause q last

  -- how a write ends, and where the last record that it made stands: all bytes have been written, or it stopped
  abbrev pub Writes : Settings → ℕ → DeviceNo → ℕ → ℕ → List ℕ → Standing A g
      → Result (Unit {0}) (PortError (TryError PortCause)) → Standing A g → Option ℕ → Type 0
  Writes settings lanes device most address bytes p (Ok done) q last =
      HasWritten settings device most address bytes p (length bytes) q last
  Writes settings lanes device most address bytes p (Err error) q last =
      StopsWrite settings lanes device most address bytes p error q last

  -- how one ends that had come so far: whatever was written before is a part of it
  abbrev pub WritesOn : Settings → ℕ → DeviceNo → ℕ → ℕ → List ℕ → Standing A g → ℕ → Option ℕ
      → Result (Unit {0}) (PortError (TryError PortCause)) → Standing A g → Option ℕ → Type 0
  WritesOn settings lanes device most address bytes p done before result q last =
      (first : Standing A g) → HasWritten settings device most address bytes first done p before
      → Writes settings lanes device most address bytes first result q last
