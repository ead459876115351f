-- What a record keeps of a step besides its event, and how it is read.
use Rattle.std.specs.Prelude.{List, []}
use Rattle.iofd_words.specs.declared.numbers.FrameNo.{FrameNo}
use Rattle.iofd_words.specs.declared.numbers.PassNo.{PassNo}
use Rattle.iofd_words.specs.declared.reply.Reply.{Reply}
use Rattle.iofd_words.specs.declared.reply.Reply.TheVariants as reply
use Rattle.iofd_words.specs.declared.told.Side.{Side}
use Rattle.iofd_words.specs.declared.told.Side.TheVariants.{Taken, Given}
use Rattle.iofd_words.specs.declared.told.Told.{Told}
use Rattle.iofd_words.specs.declared.told.Told.TheVariants as told

-- of frames of one side, those that were taken, and those that were given back
abbrev pub taken_on : Side → List FrameNo → List FrameNo
taken_on Taken frames = frames
taken_on Given frames = []

abbrev pub given_on : Side → List FrameNo → List FrameNo
given_on Taken frames = []
given_on Given frames = frames

module _ {A : Type 0} where
  abbrev pub pass_of : Told A → PassNo
  pass_of (told.Done side pass frames) = pass
  pass_of (told.Id side pass id frames) = pass
  pass_of (told.Iova side pass iova frames) = pass
  pass_of (told.Bytes side pass count frames) = pass
  pass_of (told.Pending side pass errno frames) = pass
  pass_of (told.Frame side pass frame frames) = pass
  pass_of (told.Passed side pass frame frames) = pass
  pass_of (told.Fault side pass source kind reason page frames) = pass
  pass_of (told.Dirty pass words) = pass
  pass_of (told.Refused side pass refusal frames) = pass
  pass_of (told.Whole whole) = whole.value.pass

  abbrev pub reply_of : Told A → Reply
  reply_of (told.Done side pass frames) = reply.Done
  reply_of (told.Id side pass id frames) = reply.Id id
  reply_of (told.Iova side pass iova frames) = reply.Iova iova
  reply_of (told.Bytes side pass count frames) = reply.Bytes count
  reply_of (told.Pending side pass errno frames) = reply.Pending errno
  reply_of (told.Frame side pass frame frames) = reply.Frame frame
  reply_of (told.Passed side pass frame frames) = reply.Passed frame
  reply_of (told.Fault side pass source kind reason page frames) =
      reply.Fault (record { page = page; source = source; kind = kind; reason = reason })
  reply_of (told.Dirty pass words) = reply.Dirty words
  reply_of (told.Refused side pass refusal frames) = reply.Refused refusal
  reply_of (told.Whole whole) = whole.value.reply

  abbrev pub taken_of : Told A → List FrameNo
  taken_of (told.Done side pass frames) = taken_on side frames.items
  taken_of (told.Id side pass id frames) = taken_on side frames.items
  taken_of (told.Iova side pass iova frames) = taken_on side frames.items
  taken_of (told.Bytes side pass count frames) = taken_on side frames.items
  taken_of (told.Pending side pass errno frames) = taken_on side frames.items
  taken_of (told.Frame side pass frame frames) = taken_on side frames.items
  taken_of (told.Passed side pass frame frames) = taken_on side frames.items
  taken_of (told.Fault side pass source kind reason page frames) = taken_on side frames.items
  taken_of (told.Dirty pass words) = []
  taken_of (told.Refused side pass refusal frames) = taken_on side frames.items
  taken_of (told.Whole whole) = whole.value.taken.items

  abbrev pub given_of : Told A → List FrameNo
  given_of (told.Done side pass frames) = given_on side frames.items
  given_of (told.Id side pass id frames) = given_on side frames.items
  given_of (told.Iova side pass iova frames) = given_on side frames.items
  given_of (told.Bytes side pass count frames) = given_on side frames.items
  given_of (told.Pending side pass errno frames) = given_on side frames.items
  given_of (told.Frame side pass frame frames) = given_on side frames.items
  given_of (told.Passed side pass frame frames) = given_on side frames.items
  given_of (told.Fault side pass source kind reason page frames) = given_on side frames.items
  given_of (told.Dirty pass words) = []
  given_of (told.Refused side pass refusal frames) = given_on side frames.items
  given_of (told.Whole whole) = whole.value.given.items
