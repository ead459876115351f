-- Settings with the same lists are the same.
use Rattle.std.proofs.Common.{◌≡◌, ℕ, List}
use Rattle.iofd_words.specs.Settings.{Settings, DeviceSettings}
use Rattle.iofd_words.specs.declared.numbers.UserNo.{UserNo}

pub same_settings : (s : Settings) (users : List ℕ) (files : List UserNo) (devices : List DeviceSettings)
    → users ≡ s.users → files ≡ s.files → devices ≡ s.devices
    → record s { users = users; files = files; devices = devices } ≡ s
same_settings s users files devices a b c i = record s { users = a i; files = b i; devices = c i }
