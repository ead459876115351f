-- Files, users and devices, which are numbered from 1.
use Rattle.std.specs.Prelude.{ℕ, zero, suc, Bool, ◌==◌, ◌&&◌, not, Option, None, is_some, List, slice_get}
use Rattle.std.specs.List.{list_any}
use Rattle.iofd_words.specs.Settings.{Settings, DeviceSettings}
use Rattle.iofd_words.specs.declared.numbers.FileNo.{FileNo}
use Rattle.iofd_words.specs.declared.numbers.UserNo.{UserNo}
use Rattle.iofd_words.specs.declared.numbers.DeviceNo.{DeviceNo}

-- the nth of a list, counted from 1
abbrev pub numbered : {A : Type 0} → List A → ℕ → Option A
numbered xs zero = None
numbered xs (suc n) = slice_get xs n

abbrev pub limit_of : Settings → UserNo → Option ℕ
limit_of settings user = numbered settings.users user.0

abbrev pub user_of : Settings → FileNo → Option UserNo
user_of settings file = numbered settings.files file.0

abbrev pub device_of : Settings → DeviceNo → Option DeviceSettings
device_of settings device = numbered settings.devices device.0

-- a user that is there
abbrev pub is_user : Settings → UserNo → Bool
is_user settings user = is_some (limit_of settings user)

-- a device that is there
abbrev pub is_device : Settings → DeviceNo → Bool
is_device settings device = is_some (device_of settings device)

-- a file that is there and isn't closed
abbrev pub is_open : Settings → List FileNo → FileNo → Bool
is_open settings closed file = is_some (user_of settings file) && not (list_any (λ f. f.0 == file.0) closed)
