-- What a command of a file asks for, and what an ioctl answers to it.
use Rattle.std.specs.Prelude.{ℕ, true, false, nat_lt, Option, Some, None, if◌then◌else◌}
use Rattle.iofd_words.specs.Refusal as refusals
use Rattle.iofd_words.specs.declared.event.Event.{Event}
use Rattle.iofd_words.specs.declared.event.Event.TheVariants as event
use Rattle.iofd_words.specs.declared.numbers.FileNo.{FileNo}
use Rattle.iofd_words.specs.declared.refusal.Cause.TheVariants.{Places}
use Rattle.iofd_words.specs.declared.refusal.Errno.{Errno}
use Rattle.iofd_words.specs.declared.reply.Reply.{Reply}
use Rattle.iofd_words.specs.declared.reply.Reply.TheVariants as reply
use Rattle.ioctl_codec.specs.declared.events.Asked.{Asked}
use Rattle.ioctl_codec.specs.declared.events.Asked.TheVariants as asks
use Rattle.ioctl_codec.specs.declared.command.Command.{Command}
use Rattle.ioctl_codec.specs.declared.command.Command.TheVariants as command
use Rattle.ioctl_codec.specs.declared.command.RangesRequest.{RangesRequest}

module _ {A : Type 0} where
  -- the event that a command of this file asks for, or what is asked for by a question
  abbrev pub asked : FileNo → Command A → Asked A
  asked file (command.Destroy id) = asks.Event (event.Destroy file id)
  asked file command.IoasAlloc = asks.Event (event.IoasAlloc file)
  asked file (command.IoasAllowIovas ioas ranges) = asks.Event (event.AllowIovas file ioas ranges)
  asked file (command.IoasIovaRanges request) = asks.Ranges request
  asked file (command.IoasMap request) = asks.Event (event.Map file request)
  asked file (command.IoasCopy request) = asks.Event (event.Copy file request)
  asked file (command.IoasUnmap request) = asks.Event (event.Unmap file request)
  asked file (command.HwptAlloc request) = asks.Event (event.HwptAlloc file request)
  asked file (command.DirtyEnable hwpt on) = asks.Event (event.DirtyEnable file hwpt on)
  asked file (command.DirtyReport request true) = asks.Event (event.DirtyClear file request)
  asked file (command.DirtyReport request false) = asks.Dirty request

  -- the command whose event it is, if it is one's
  abbrev pub command_of : Event A → Option (Command A)
  command_of (event.IoasAlloc file) = Some command.IoasAlloc
  command_of (event.AllowIovas file ioas ranges) = Some (command.IoasAllowIovas ioas ranges)
  command_of (event.Map file request) = Some (command.IoasMap request)
  command_of (event.Copy file request) = Some (command.IoasCopy request)
  command_of (event.Unmap file request) = Some (command.IoasUnmap request)
  command_of (event.HwptAlloc file request) = Some (command.HwptAlloc request)
  command_of (event.Destroy file id) = Some (command.Destroy id)
  command_of (event.DirtyEnable file hwpt on) = Some (command.DirtyEnable hwpt on)
  command_of (event.DirtyClear file request) = Some (command.DirtyReport request true)
  command_of (event.Close file) = None
  command_of (event.UserMap user va) = None
  command_of (event.UserUnmap user va) = None
  command_of (event.UserWrite user va bytes) = None
  command_of (event.Bind file device) = None
  command_of (event.Unbind file id) = None
  command_of (event.AccessCreate file) = None
  command_of (event.AccessAttach file id ioas) = None
  command_of (event.AccessDetach file id) = None
  command_of (event.AccessPin file id request) = None
  command_of (event.AccessUnpin file id request) = None
  command_of (event.AccessWrite file id iova bytes) = None
  command_of (event.Attach device pt_id) = None
  command_of (event.Detach device) = None
  command_of (event.Flush device) = None
  command_of (event.DeviceWrite device iova bytes) = None

-- the error that an ioctl answers to a reply, if it is none of success
abbrev pub errno_of : Reply → Option Errno
errno_of (reply.Pending errno) = Some errno
errno_of (reply.Refused refusal) = Some (refusals.errno_of refusal.cause)
errno_of _ = None

-- the error that an ioctl answers where so many ranges were asked for: more than have places are refused
abbrev pub ranges_errno : RangesRequest → ℕ → Option Errno
ranges_errno request count = if nat_lt request.places count then Some (refusals.errno_of Places) else None
