-- The lines of a script: each keyword, the kinds of the fields behind it, and what the line then is.
use Rattle.std.specs.Prelude.{ℕ, Bool, List, [], ◌∷◌, codes, Option}
use Rattle.std.specs.Str.{bytes_eq}
use Rattle.iofd_words.specs.FirstTrue.{first_true}
use Rattle.iofd_words.specs.declared.event.PinRequest.{PinRequest}
use Rattle.iommufd_script.specs.Fields.{Kind, Decimal, Hex, Length, Source, AddressWidth, Bytes, Access, Purpose}
use Rattle.iommufd_script.specs.Fields.{Mark, Spans, Makes, read}
use Rattle.iommufd_script.specs.declared.keyword.HeadKeyword.{HeadKeyword}
use Rattle.iommufd_script.specs.declared.keyword.HeadKeyword.TheVariants as head
use Rattle.iommufd_script.specs.declared.keyword.StepKeyword.{StepKeyword}
use Rattle.iommufd_script.specs.declared.keyword.StepKeyword.TheVariants as step
use Rattle.iommufd_script.specs.declared.line.HeadLine.{HeadLine}
use Rattle.iommufd_script.specs.declared.line.HeadLine.TheVariants as heading
use Rattle.iommufd_script.specs.declared.line.Step.{Step}
use Rattle.iommufd_script.specs.declared.line.Step.TheVariants as made

-- the kinds of a line's fields, and what is made of their values
pub record Row (A : Type 0) : Type 0 where
  pub kinds : List Kind
  pub makes : Makes kinds A

-- ---- the head

abbrev pub head_keyword : List ℕ → Option HeadKeyword
head_keyword word = first_true (
    (head.Pool, bytes_eq word (codes "pool"))
    ∷ (head.User, bytes_eq word (codes "user"))
    ∷ (head.File, bytes_eq word (codes "file"))
    ∷ (head.Device, bytes_eq word (codes "device"))
    ∷ (head.Begin, bytes_eq word (codes "begin"))
    ∷ [])

abbrev pub head_row : HeadKeyword → Row HeadLine
-- frames
head_row head.Pool = record { kinds = Decimal 32 ∷ []; makes = λ frames. heading.Pool frames }
-- limit of pinned pages
head_row head.User = record { kinds = Decimal 64 ∷ []; makes = λ limit. heading.User limit }
-- its user
head_row head.File = record { kinds = Decimal 16 ∷ []; makes = λ user. heading.File (record { 0 = user }) }
-- source, width, the x86 mark, reserved spans
head_row head.Device = record {
  kinds = Source ∷ AddressWidth ∷ Mark ∷ Spans ∷ [];
  makes = λ source width x86 reserved. heading.Device (record { 0 = source }) width x86 reserved;
}
head_row head.Begin = record { kinds = []; makes = heading.Begin }

-- ---- the steps

abbrev pub step_keyword : List ℕ → Option StepKeyword
step_keyword word = first_true (
    (step.Ioctl, bytes_eq word (codes "ioctl"))
    ∷ (step.Close, bytes_eq word (codes "close"))
    ∷ (step.UserMap, bytes_eq word (codes "umap"))
    ∷ (step.UserUnmap, bytes_eq word (codes "uunmap"))
    ∷ (step.UserRead, bytes_eq word (codes "uread"))
    ∷ (step.UserWrite, bytes_eq word (codes "uwrite"))
    ∷ (step.Bind, bytes_eq word (codes "bind"))
    ∷ (step.Unbind, bytes_eq word (codes "unbind"))
    ∷ (step.Attach, bytes_eq word (codes "attach"))
    ∷ (step.Detach, bytes_eq word (codes "detach"))
    ∷ (step.Flush, bytes_eq word (codes "flush"))
    ∷ (step.DeviceRead, bytes_eq word (codes "dread"))
    ∷ (step.DeviceWrite, bytes_eq word (codes "dwrite"))
    ∷ (step.AccessCreate, bytes_eq word (codes "access"))
    ∷ (step.AccessAttach, bytes_eq word (codes "aattach"))
    ∷ (step.AccessDetach, bytes_eq word (codes "adetach"))
    ∷ (step.AccessPin, bytes_eq word (codes "apin"))
    ∷ (step.AccessUnpin, bytes_eq word (codes "aunpin"))
    ∷ (step.AccessRead, bytes_eq word (codes "aread"))
    ∷ (step.AccessWrite, bytes_eq word (codes "awrite"))
    ∷ (step.Notices, bytes_eq word (codes "notices"))
    ∷ (step.FreeFrames, bytes_eq word (codes "free"))
    ∷ (step.Held, bytes_eq word (codes "held"))
    ∷ [])

-- the pages of a pin, and whether it is for writes too
abbrev pub pin_request : ℕ → ℕ → Bool → PinRequest
pin_request iova length write = record { iova = record { 0 = iova }; length = length; write = write }

abbrev pub step_row : StepKeyword → Row Step
-- file, command number, the command's bytes
step_row step.Ioctl = record {
  kinds = Decimal 16 ∷ Hex 32 ∷ Bytes ∷ [];
  makes = λ file number bytes. made.Ioctl (record { 0 = file }) number bytes;
}
-- file
step_row step.Close = record { kinds = Decimal 16 ∷ []; makes = λ file. made.Close (record { 0 = file }) }
-- user, address
step_row step.UserMap =
    record { kinds = Decimal 16 ∷ Hex 64 ∷ []; makes = λ user va. made.UserMap (record { 0 = user }) va }
-- user, address
step_row step.UserUnmap = record {
  kinds = Decimal 16 ∷ Hex 64 ∷ [];
  makes = λ user va. made.UserUnmap (record { 0 = user }) va;
}
-- user, address, how many bytes
step_row step.UserRead = record {
  kinds = Decimal 16 ∷ Hex 64 ∷ Length ∷ [];
  makes = λ user va len. made.UserRead (record { 0 = user }) va len;
}
-- user, address, bytes
step_row step.UserWrite = record {
  kinds = Decimal 16 ∷ Hex 64 ∷ Access ∷ [];
  makes = λ user va bytes. made.UserWrite (record { 0 = user }) va bytes;
}
-- file, device
step_row step.Bind = record {
  kinds = Decimal 16 ∷ Decimal 16 ∷ [];
  makes = λ file device. made.Bind (record { 0 = file }) (record { 0 = device });
}
-- file, id of a device's object
step_row step.Unbind = record {
  kinds = Decimal 16 ∷ Decimal 32 ∷ [];
  makes = λ file id. made.Unbind (record { 0 = file }) (record { 0 = id });
}
-- device, id of an address space or of a page table
step_row step.Attach = record {
  kinds = Decimal 16 ∷ Decimal 32 ∷ [];
  makes = λ device id. made.Attach (record { 0 = device }) (record { 0 = id });
}
-- device
step_row step.Detach = record { kinds = Decimal 16 ∷ []; makes = λ device. made.Detach (record { 0 = device }) }
-- device
step_row step.Flush = record { kinds = Decimal 16 ∷ []; makes = λ device. made.Flush (record { 0 = device }) }
-- device, address, how many bytes
step_row step.DeviceRead = record {
  kinds = Decimal 16 ∷ Hex 64 ∷ Length ∷ [];
  makes = λ device iova len. made.DeviceRead (record { 0 = device }) (record { 0 = iova }) len;
}
-- device, address, bytes
step_row step.DeviceWrite = record {
  kinds = Decimal 16 ∷ Hex 64 ∷ Access ∷ [];
  makes = λ device iova bytes. made.DeviceWrite (record { 0 = device }) (record { 0 = iova }) bytes;
}
-- file
step_row step.AccessCreate =
    record { kinds = Decimal 16 ∷ []; makes = λ file. made.AccessCreate (record { 0 = file }) }
-- file, id of an access object, id of an address space
step_row step.AccessAttach = record {
  kinds = Decimal 16 ∷ Decimal 32 ∷ Decimal 32 ∷ [];
  makes = λ file id ioas. made.AccessAttach (record { 0 = file }) (record { 0 = id }) (record { 0 = ioas });
}
-- file, id of an access object
step_row step.AccessDetach = record {
  kinds = Decimal 16 ∷ Decimal 32 ∷ [];
  makes = λ file id. made.AccessDetach (record { 0 = file }) (record { 0 = id });
}
-- file, id of an access object, address, length, what the pin is for
step_row step.AccessPin = record {
  kinds = Decimal 16 ∷ Decimal 32 ∷ Hex 64 ∷ Hex 64 ∷ Purpose ∷ [];
  makes = λ file id iova length write.
      made.AccessPin (record { 0 = file }) (record { 0 = id }) (pin_request iova length write);
}
-- file, id of an access object, address, length, what the pin is for
step_row step.AccessUnpin = record {
  kinds = Decimal 16 ∷ Decimal 32 ∷ Hex 64 ∷ Hex 64 ∷ Purpose ∷ [];
  makes = λ file id iova length write.
      made.AccessUnpin (record { 0 = file }) (record { 0 = id }) (pin_request iova length write);
}
-- file, id of an access object, address, how many bytes
step_row step.AccessRead = record {
  kinds = Decimal 16 ∷ Decimal 32 ∷ Hex 64 ∷ Length ∷ [];
  makes = λ file id iova len.
      made.AccessRead (record { 0 = file }) (record { 0 = id }) (record { 0 = iova }) len;
}
-- file, id of an access object, address, bytes
step_row step.AccessWrite = record {
  kinds = Decimal 16 ∷ Decimal 32 ∷ Hex 64 ∷ Access ∷ [];
  makes = λ file id iova bytes.
      made.AccessWrite (record { 0 = file }) (record { 0 = id }) (record { 0 = iova }) bytes;
}
-- file, id of an access object
step_row step.Notices = record {
  kinds = Decimal 16 ∷ Decimal 32 ∷ [];
  makes = λ file id. made.Notices (record { 0 = file }) (record { 0 = id });
}
step_row step.FreeFrames = record { kinds = []; makes = made.FreeFrames }
-- user
step_row step.Held = record { kinds = Decimal 16 ∷ []; makes = λ user. made.Held (record { 0 = user }) }

-- ---- a line by its keyword

abbrev pub by_row : {A : Type 0} → Row A → List (List ℕ) → Option A
by_row row texts = read row.kinds row.makes texts

unfoldable pub head_of : HeadKeyword → List (List ℕ) → Option HeadLine
head_of keyword texts = by_row (head_row keyword) texts

unfoldable pub step_at : StepKeyword → List (List ℕ) → Option Step
step_at keyword texts = by_row (step_row keyword) texts
