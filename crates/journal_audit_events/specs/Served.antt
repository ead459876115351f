-- The events that are judged so far: those by which no area, no page table and no access pin comes, and no UNMAP.
use Rattle.std.specs.Prelude.{Bool, true, false}
use Rattle.iofd_words.specs.declared.event.Event.{Event}
use Rattle.iofd_words.specs.declared.event.Event.TheVariants as event

abbrev pub is_served : {A : Type 0} → Event A → Bool
is_served (event.Map file request) = false
is_served (event.Copy file request) = false
is_served (event.Unmap file request) = false
is_served (event.HwptAlloc file request) = false
is_served (event.Attach device pt_id) = false
is_served (event.AccessPin file id request) = false
is_served e = true

-- those of them that need no memory
abbrev pub needs_none : {A : Type 0} → Event A → Bool
needs_none (event.IoasAlloc file) = false
needs_none (event.AllowIovas file ioas ranges) = false
needs_none (event.Destroy file id) = false
needs_none (event.Close file) = false
needs_none (event.Detach device) = false
needs_none (event.AccessUnpin file id request) = false
needs_none (event.UserMap user va) = false
needs_none (event.Bind file device) = false
needs_none (event.AccessCreate file) = false
needs_none (event.DeviceWrite device iova bytes) = false
needs_none (event.DirtyEnable file hwpt on) = false
needs_none e = is_served e
