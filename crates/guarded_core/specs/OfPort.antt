-- What a device's port asks for alone.
use Rattle.std.specs.Prelude.{Bool, true, false}
use Rattle.iofd_words.specs.declared.event.Event.{Event}
use Rattle.iofd_words.specs.declared.event.Event.TheVariants as event
use Rattle.iofd_words.specs.declared.query.Query.{Query}
use Rattle.iofd_words.specs.declared.query.Query.TheVariants as query

-- the events of a device that is attached, detached or flushed, or writes
abbrev pub event_of_port : {A : Type 0} → Event A → Bool
event_of_port (event.Attach device pt_id) = true
event_of_port (event.Detach device) = true
event_of_port (event.Flush device) = true
event_of_port (event.DeviceWrite device iova bytes) = true
event_of_port e = false

-- a device's read, and what a walk finds for it
abbrev pub query_of_port : Query → Bool
query_of_port (query.DeviceRead device iova len) = true
query_of_port (query.WalkFor device iova) = true
query_of_port (query.CachedRead device iova len frame) = true
query_of_port q = false
