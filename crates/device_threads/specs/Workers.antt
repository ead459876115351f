-- Workers: what is asked of them, and what they hand back.
use Rattle.std.specs.Prelude.{◌≡◌, ℕ, ◌<◌, ◌≤◌, ◌^◌, List, [], length, slice_get, Some, Vec, vec_capacity}
use Rattle.std.specs.declared.alloc.Global.{Global}
use Rattle.iofd_words.specs.declared.event.Act.{Act}
use Rattle.iommufd_core.specs.declared.apply.Stamp.{Stamp}
use Rattle.lane_lock.specs.Passes.{lanes_of}
use Rattle.guarded_core.specs.Passes.{CoreGhosts}
use Rattle.guarded_core.specs.declared.kept_core.Entry.{Entry}
use Rattle.shared_iommufd.specs.Ports.{IsPortOf, SamePort}
use Rattle.shared_iommufd.specs.Servers.{settings_of}
use Rattle.shared_iommufd.specs.declared.server.Server.{Server}
use Rattle.device_threads.specs.Jobs.{AreDone}
use Rattle.device_threads.specs.Pairs.{Pairwise}
use Rattle.device_threads.specs.declared.job.JobResult.{JobResult}
use Rattle.device_threads.specs.declared.worker.Finished.{Finished}
use Rattle.device_threads.specs.declared.worker.Worker.{Worker}

abbrev pub CoreWorker : (A : Type 0) → CoreGhosts A → Type 0
CoreWorker A g = Worker A (Act A) Stamp (Entry A) g

abbrev pub CoreFinished : (A : Type 0) → CoreGhosts A → Type 0
CoreFinished A g = Finished A (Act A) Stamp (Entry A) g

module _ {A : Type 0} {g : CoreGhosts A} where
  -- the worker's port is this server's, and its jobs can be counted
  pub record CanRun (server : Server A) (worker : CoreWorker A g) : Type 0 where
    pub owned : IsPortOf server worker.port
    pub few : length worker.jobs.items < 2 ^ 32

  abbrev pub AllCanRun : Server A → List (CoreWorker A g) → Type 0
  AllCanRun server workers =
      (i : ℕ) (worker : CoreWorker A g) → slice_get workers i ≡ Some worker → CanRun server worker

  -- The worker's port comes back, and with it one result for each of its jobs and no other, in their order: of the
  -- port's device, numbered from 1.
  pub record HasRun (server : Server A) (worker : CoreWorker A g) (finished : CoreFinished A g) : Type 0 where
    pub owned : IsPortOf server finished.port
    pub same : SamePort worker.port finished.port
    pub done : AreDone (settings_of server) (lanes_of server.lock) 1 worker.port worker.jobs.items
        finished.results.items finished.port

  -- each worker has run, in the order of the workers
  abbrev pub HaveRun : Server A → List (CoreWorker A g) → List (CoreFinished A g) → Type 0
  HaveRun server workers finished = Pairwise (HasRun server) workers finished

  -- the ports are this server's still
  abbrev pub AllBack : Server A → List (CoreFinished A g) → Type 0
  AllBack server finished =
      (i : ℕ) (one : CoreFinished A g) → slice_get finished i ≡ Some one → IsPortOf server one.port

  -- there is room for the results of all its jobs
  pub record HasRoom (worker : CoreWorker A g) (room : Vec JobResult Global) : Type 0 where
    pub empty : room.items ≡ []
    pub enough : length worker.jobs.items ≤ vec_capacity room

  -- a worker that can run, and room for its results
  pub record IsReady (server : Server A) (worker : CoreWorker A g) (results : Vec JobResult Global) : Type 0 where
    pub can : CanRun server worker
    pub room : HasRoom worker results
