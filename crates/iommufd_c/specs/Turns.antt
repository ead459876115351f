-- The events of a device's turns.
use Rattle.iofd_words.specs.declared.event.Event.{Event}
use Rattle.iofd_words.specs.declared.event.Event.TheVariants as event
use Rattle.iofd_words.specs.declared.numbers.DeviceNo.{DeviceNo}
use Rattle.iommufd_c.specs.declared.handle.turn.Turn.{Turn}
use Rattle.iommufd_c.specs.declared.handle.turn.Turn.TheVariants as turn

abbrev pub turn_event : {A : Type 0} → DeviceNo → Turn → Event A
turn_event device turn.Flush = event.Flush device
turn_event device (turn.Attach pt_id) = event.Attach device pt_id
turn_event device turn.Detach = event.Detach device
