-- What is kept shows the world in which an address space allows other ranges, or all addresses again.
use Rattle.std.proofs.Common.{◌≡◌, cond, length, List, [], ◌∷◌, ◌++◌, sym, ◌∙◌, ap}
use Rattle.iofd_words.specs.Allowed.{AllowedRanges, allowed_of, with_allowed, without_allowed}
use Rattle.iofd_words.specs.Bounds.{Bounds}
use Rattle.iofd_words.specs.World.{World}
use Rattle.iofd_words.specs.declared.numbers.FileNo.{FileNo}
use Rattle.iofd_words.specs.declared.numbers.ObjId.{ObjId}
use Rattle.iova_ranges.specs.AllowedRows.{AllowedRows}
use Rattle.iofd_rows.proofs.Allowed.{allowed_set, allowed_with, allowed_without, is_of_space}
use Rattle.server_state.specs.Shows.{Shows}
use Rattle.server_state.specs.declared.state.State.{State}

-- the rows that are kept tell for each address space what the world does
shows_rows : {A : Type 0} (w : World) (s : State A) (allowed : List AllowedRanges) (kept : AllowedRows) → Shows w s
    → ((f : FileNo) (i : ObjId) → allowed_of allowed f i ≡ allowed_of kept.rows f i)
    → Shows (record w { allowed = allowed }) (record s { allowed = kept })
shows_rows w s allowed kept shows same =
    record {
      settings = shows.settings;
      limits = shows.limits;
      dirty = shows.dirty;
      allowed = same;
      objects = shows.objects;
      devices = shows.devices;
      users = shows.users;
      pins = shows.pins;
      access_pins = shows.access_pins;
      frames = shows.frames;
      tables = record { tables = shows.tables.tables; widths = shows.tables.widths; stand = shows.tables.stand };
    }

pub shows_allowed : {A : Type 0} (w : World) (s : State A) (file : FileNo) (ioas : ObjId) (ranges : List Bounds)
    (kept : AllowedRows) → Shows w s → kept.rows ≡ without_allowed file ioas s.allowed.rows ++ record {
      file = file;
      ioas = ioas;
      spans = ranges;
    } ∷ []
    → Shows (record w { allowed = with_allowed file ioas ranges w.allowed }) (record s { allowed = kept })
shows_allowed w s file ioas ranges kept shows is =
    shows_rows w s (with_allowed file ioas ranges w.allowed) kept shows (λ f i.
    allowed_with file ioas ranges w.allowed f i
    ∙ ap (cond (is_of_space file ioas f i) ranges) (shows.allowed f i)
    ∙ sym (allowed_set file ioas ranges s.allowed.rows f i)
    ∙ ap (λ (l : List AllowedRanges). allowed_of l f i) (sym is))

-- an empty list
pub shows_lifted : {A : Type 0} (w : World) (s : State A) (file : FileNo) (ioas : ObjId) (ranges : List Bounds)
    (kept : AllowedRows) → Shows w s → length ranges ≡ 0 → kept.rows ≡ without_allowed file ioas s.allowed.rows
    → Shows (record w { allowed = with_allowed file ioas ranges w.allowed }) (record s { allowed = kept })
shows_lifted w s file ioas [] kept shows none is =
    shows_rows w s (with_allowed file ioas [] w.allowed) kept shows (λ f i.
    allowed_with file ioas [] w.allowed f i
    ∙ ap (cond (is_of_space file ioas f i) []) (shows.allowed f i)
    ∙ sym (allowed_without file ioas s.allowed.rows f i)
    ∙ ap (λ (l : List AllowedRanges). allowed_of l f i) (sym is))
shows_lifted w s file ioas (range ∷ ranges) kept shows none is = cc
