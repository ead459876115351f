use Rattle.iommufd_cli.proofs.steps.plain_event.Goals as goal
use Rattle.iommufd_cli.proofs.steps.plain_event.Goals.{in-Close, in-UserMap, in-UserUnmap, in-Bind, in-Unbind}
use Rattle.iommufd_cli.proofs.steps.plain_event.Goals.{in-Attach, in-Detach, in-Flush, in-AccessCreate}
use Rattle.iommufd_cli.proofs.steps.plain_event.Goals.{in-AccessAttach, in-AccessDetach, in-AccessPin, in-AccessUnpin}

pub returns : goal.returns
returns g c = elim c.match-step.branch [
  | in-Close w ↦ rw w.in-Close.is (rw w.event-is at c.answer_event.ensures)
  | in-UserMap w ↦ rw w.in-UserMap.is (rw w.event-is at c.answer_event.ensures)
  | in-UserUnmap w ↦ rw w.in-UserUnmap.is (rw w.event-is at c.answer_event.ensures)
  | in-Bind w ↦ rw w.in-Bind.is (rw w.event-is at c.answer_event.ensures)
  | in-Unbind w ↦ rw w.in-Unbind.is (rw w.event-is at c.answer_event.ensures)
  | in-Attach w ↦ rw w.in-Attach.is (rw w.event-is at c.answer_event.ensures)
  | in-Detach w ↦ rw w.in-Detach.is (rw w.event-is at c.answer_event.ensures)
  | in-Flush w ↦ rw w.in-Flush.is (rw w.event-is at c.answer_event.ensures)
  | in-AccessCreate w ↦ rw w.in-AccessCreate.is (rw w.event-is at c.answer_event.ensures)
  | in-AccessAttach w ↦ rw w.in-AccessAttach.is (rw w.event-is at c.answer_event.ensures)
  | in-AccessDetach w ↦ rw w.in-AccessDetach.is (rw w.event-is at c.answer_event.ensures)
  | in-AccessPin w ↦ rw w.in-AccessPin.is (rw w.event-is at c.answer_event.ensures)
  | in-AccessUnpin w ↦ rw w.in-AccessUnpin.is (rw w.event-is at c.answer_event.ensures)
]
