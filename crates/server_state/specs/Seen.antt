-- What is kept, as the view that the refusals and the policy read. It is that of the world that is shown.
use Rattle.std.specs.Prelude.{nat_le}
use Rattle.std.specs.List.{list_any}
use Rattle.dirty_bitmap.specs.Tracking.{is_tracked}
use Rattle.frame_memory.specs.Pool.{free_count}
use Rattle.held_pins.specs.HeldPins.{are_own_met, count_of, holds_some, is_covered}
use Rattle.page_table_set.specs.Kept.{has_kept}
use Rattle.iofd_words.specs.Allowed.{allowed_of}
use Rattle.iofd_words.specs.Frames.{frame_at}
use Rattle.iofd_words.specs.Objects as object
use Rattle.iofd_words.specs.Pins.{is_equal, most_pins}
use Rattle.iofd_words.specs.View.{View}
use Rattle.server_state.specs.AccessPins.{row_of}
use Rattle.server_state.specs.Held.{areas_at, objects_in}
use Rattle.server_state.specs.declared.state.State.{State}
use Rattle.object_table.specs.Table as table
use Rattle.user_memory.specs.Memory.{frame_now, held_by, pinned_frame, rows_of}

abbrev pub seen : {A : Type 0} → State A → View
seen s =
    record {
      settings = s.config;
      is_open = table.is_open s.objects;
      objects = objects_in s.objects;
      binding_of = object.binding_of s.bindings.items;
      attachments = s.attachments.items;
      areas_of = areas_at s.objects.rows;
      allowed_of = allowed_of s.allowed.rows;
      memory = rows_of s.memory;
      frame_at = frame_at s.memory.pages;
      frame_now = frame_now s.memory;
      pinned_frame = pinned_frame s.memory;
      holds_pin = holds_some s.access_pins;
      has_most_pins = λ file access. nat_le most_pins (count_of s.access_pins file access);
      is_held = λ pin. list_any (λ kept. is_equal pin (row_of kept)) s.access_pins;
      is_covered = is_covered s.access_pins;
      meets_pin = are_own_met s.access_pins;
      held_by = held_by s.memory;
      free_count = free_count s.pool.holds;
      has_table = has_kept s.pool s.page_tables.tables;
      tracks = is_tracked s.dirty;
    }
