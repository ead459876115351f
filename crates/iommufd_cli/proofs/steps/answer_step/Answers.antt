use Rattle.iommufd_cli.proofs.steps.answer_step.Goals as goal

pub returns-in-Ioctl : goal.returns-in-Ioctl
returns-in-Ioctl g c = rw c.in-Ioctl.is c.answer_ioctl.ensures

pub returns-in-UserRead : goal.returns-in-UserRead
returns-in-UserRead g c = rw c.in-UserRead.is c.user_read.ensures

pub returns-in-UserWrite : goal.returns-in-UserWrite
returns-in-UserWrite g c = rw c.in-UserWrite.is c.user_write.ensures

pub returns-in-DeviceRead : goal.returns-in-DeviceRead
returns-in-DeviceRead g c = rw c.in-DeviceRead.is c.device_read.ensures

pub returns-in-DeviceWrite : goal.returns-in-DeviceWrite
returns-in-DeviceWrite g c = rw c.in-DeviceWrite.is c.device_write.ensures

pub returns-in-AccessRead : goal.returns-in-AccessRead
returns-in-AccessRead g c = rw c.in-AccessRead.is c.access_read.ensures

pub returns-in-AccessWrite : goal.returns-in-AccessWrite
returns-in-AccessWrite g c = rw c.in-AccessWrite.is c.access_write.ensures

pub returns-in-Notices : goal.returns-in-Notices
returns-in-Notices g c = rw c.in-Notices.is c.answer_notices.ensures

pub returns-in-FreeFrames : goal.returns-in-FreeFrames
returns-in-FreeFrames g c = rw c.in-FreeFrames.is c.answer_query.ensures

pub returns-in-Held : goal.returns-in-Held
returns-in-Held g c = rw c.in-Held.is c.answer_query-in-Held.ensures
