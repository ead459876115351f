use Rattle.iommufd_cli.proofs.steps.user_write.Goals as goal

pub returns : goal.returns
returns g c = rw c.burst.ensures at c.answer_event.ensures
