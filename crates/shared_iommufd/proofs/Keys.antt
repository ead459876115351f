-- The keys of a new server.
use Rattle.std.proofs.Common.{◌≡◌, ℕ, zero, suc, ◌+◌, ◌<◌, true, is_some, List, [], ◌∷◌, ◌++◌, length, slice_get, Some}
use Rattle.std.proofs.Common.{add-one, ap, sym, ◌∙◌, subst, refl, arith, ◌⊎◌, ⊎_elim, inl, inr}
use Rattle.iofd_words.specs.Files.{is_device, numbered}
use Rattle.iofd_words.specs.Settings.{DeviceSettings, Settings}
use Rattle.lane_lock.proofs.PassLists.{get_inside}
use Rattle.shared_iommufd.specs.Ports.{AllKeys}
use Rattle.shared_iommufd.specs.Servers.{settings_of}
use Rattle.shared_iommufd.specs.declared.port_key.PortKey.{PortKey}
use Rattle.shared_iommufd.specs.declared.server.Server.{Server}

-- what is there is found by its number
there : (ds : List DeviceSettings) (i : ℕ) → i < length ds → is_some (slice_get ds i) ≡ true
there [] i below = absurd (omega arith)
there (d ∷ ds) zero below = refl
there (d ∷ ds) (suc i) below = there ds i (omega arith)

known : {A : Type 0} (s : Settings) (key : PortKey A) (i : ℕ) → key.device.0 ≡ i + 1 → i < length s.devices
    → is_device s key.device ≡ true
known s key i is below =
    let e : key.device.0 ≡ suc i = is ∙ add-one i in
    subst (λ n. is_some (numbered s.devices n) ≡ true) (sym e) (there s.devices i below)

pub all_keys : {A : Type 0} (server : Server A) (settings : Settings) (most : ℕ) (keys : List (PortKey A))
    → settings_of server ≡ settings → length keys ≡ length settings.devices
    → ((i : ℕ) (key : PortKey A) → slice_get keys i ≡ Some key
    → (key.device.0 ≡ i + 1) × (key.cache.pages.cap ≡ most)) → AllKeys server most keys
all_keys server settings most keys same count each =
    record {
      count = count ∙ ap (λ (s : Settings). length s.devices) (sym same);
      each = λ i key at. (each i key at).0;
      most = λ i key at. (each i key at).1;
      owned = λ i key at.
          let inside = get_inside keys i key at in
          let below : i < length settings.devices = omega (arith, count) in
          subst (λ (s : Settings). is_device s key.device ≡ true) (sym same) (known settings key i (each i key at).0 below);
    }

-- what stands in a list with one key more stands in the list, or is that key
one_of : {A : Type 0} (keys : List (PortKey A)) (last key : PortKey A) (i : ℕ) → slice_get (keys ++ last ∷ []) i ≡ Some key
    → (slice_get keys i ≡ Some key) ⊎ ((i ≡ length keys) × (last ≡ key))
one_of [] last key zero at = inr (refl, (let e : last ≡ key = cc in e))
one_of [] last key (suc i) at = cc
one_of (k ∷ keys) last key zero at = inl at
one_of (k ∷ keys) last key (suc i) at =
    ⊎_elim (λ (h : slice_get keys i ≡ Some key). inl h)
    (λ (h : (i ≡ length keys) × (last ≡ key)). let n = h.0 in inr (
      (let e : suc i ≡ length (k ∷ keys) = omega arith in e),
      h.1,
    )) (one_of keys last key i at)

-- one key more, of the next number and with as many pages
pub one_more : {A : Type 0} (most : ℕ) (keys : List (PortKey A)) (last : PortKey A) (number : ℕ)
    → ((i : ℕ) (key : PortKey A) → slice_get keys i ≡ Some key
    → (key.device.0 ≡ i + 1) × (key.cache.pages.cap ≡ most)) → length keys ≡ number
    → last.device.0 ≡ number + 1 → last.cache.pages.cap ≡ most → (i : ℕ) (key : PortKey A)
    → slice_get (keys ++ last ∷ []) i ≡ Some key → (key.device.0 ≡ i + 1) × (key.cache.pages.cap ≡ most)
one_more {A = A} most keys last number each count is cap i key at =
    ⊎_elim (each i key)
    (λ (h : (i ≡ length keys) × (last ≡ key)). (
      ap (λ (k : PortKey A). k.device.0) (sym h.1) ∙ (is ∙ ap (λ n. n + 1) (sym (h.0 ∙ count))),
      ap (λ (k : PortKey A). k.cache.pages.cap) (sym h.1) ∙ cap,
    ))
    (one_of keys last key i at)
