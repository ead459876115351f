-- What settles where a device is attached besides: the same pages are pinned.
use Rattle.std.proofs.Common.{◌≡◌, ℕ, Bool, true, false, ◌||◌, Option, Some, List, ◌++◌, append-nil, refl, sym, ap, ◌∙◌}
use Rattle.std.specs.List.{filter, filter_map, flat_map}
use Rattle.iofd_rows.proofs.ObjectPages.{translated-map}
use Rattle.iofd_runs.proofs.Accessed.{accessed_phases}
use Rattle.iofd_steps.specs.After.{settle, with_hwpt}
use Rattle.iofd_words.specs.Areas.{all_paid, paid}
use Rattle.iofd_words.specs.Objects.{automatic_hwpt}
use Rattle.iofd_words.specs.Pins.{ObjectPage, is_accessed, is_pinned, is_translated, pages_of, pin_now, pinned_frame}
use Rattle.iofd_words.specs.Pins.{pinned_pages, settled, unpinned_pages}
use Rattle.iofd_words.specs.World.{World}
use Rattle.iofd_words.specs.declared.numbers.DeviceNo.{DeviceNo}
use Rattle.iofd_words.specs.declared.numbers.FileNo.{FileNo}
use Rattle.iofd_words.specs.declared.numbers.ObjId.{ObjId}
use Rattle.iofd_words.specs.declared.rows.AccessPin.{AccessPin}
use Rattle.iofd_words.specs.declared.rows.Area.{Area}
use Rattle.iofd_words.specs.declared.rows.MemoryObject.{MemoryObject}
use Rattle.iofd_words.specs.declared.rows.Object.{Object}
use Rattle.iofd_words.specs.declared.rows.Pin.{Pin}
use Rattle.iofd_words.specs.declared.width.Width.{Width}
use Rattle.iofd_rows.specs.Pinned.{ArePinned}
use Rattle.journal_audit_maps.proofs.SettledMore.{settle_more}
use Rattle.journal_audit_page_tables.specs.Pinning.{with_device}
use Rattle.journal_audit_page_tables.proofs.ListedObjects.{fun_alike}
use Rattle.journal_audit_page_tables.proofs.TableComes.{never_kept}
use Rattle.journal_audit_world.specs.Unwritten.{unwritten}

-- what is owed says nothing of pages
paid_pages : (objects : List Object) (device : DeviceNo) (areas : List Area) (memory : List MemoryObject)
    (pins : List AccessPin)
    → pinned_pages objects (all_paid device areas) memory pins ≡ pinned_pages objects areas memory pins
paid_pages objects device areas memory pins =
    ap (λ (q : ObjectPage → Bool). filter q (flat_map pages_of memory))
    (fun_alike (is_pinned objects (all_paid device areas) pins) (is_pinned objects areas pins)
    (λ page. ap (λ b. b || is_accessed objects (all_paid device areas) pins page)
    (translated-map objects (λ (a : Area). paid device a.phase) areas page.memory)
    ∙ ap (λ b. is_translated objects areas page.memory || b)
    (accessed_phases objects (λ (a : Area). paid device a.phase) areas pins page)))

pub settle_with_device : (w new : World) (device : DeviceNo) (file : FileNo) (hwpt : ObjId)
    → settle w (with_device new device file hwpt) ≡ with_device (settle w new) device file hwpt
unfolding settle
settle_with_device w new device file hwpt =
    ap (λ (pages : List ObjectPage). record (with_device new device file hwpt) {
      pins = settled (pinned_pages w.objects w.areas w.memory w.access_pins) pages new.memory new.user_pages w.pins;
    }) (paid_pages new.objects device new.areas new.memory new.access_pins)

-- where nothing changes, pins are settled
pub settle_same : (at : ℕ) (w : World) → ArePinned at w → settle w w ≡ w
settle_same at w p =
    settle_more at w w (λ page. false) p refl (λ page listed. plain (is_pinned w.objects w.areas w.access_pins page))
    ∙ ap (λ (pages : List ObjectPage). record w { pins = w.pins ++ filter_map (pin_now w.memory w.user_pages) pages })
    (never_kept (unpinned_pages (pinned_frame w.pins) w.memory))
    ∙ ap (λ (pins : List Pin). record w { pins = pins }) (append-nil w.pins)
  where
    plain : (b : Bool) → b ≡ (b || false)
    plain true = refl
    plain false = refl

-- an automatic page table that is there serves
pub automatic_there : (at : ℕ) (w : World) (file : FileNo) (ioas id : ObjId) (width : Width) (object : Object)
    → ArePinned at w → automatic_hwpt w.objects file ioas width ≡ Some object
    → unwritten w ≡ unwritten (settle w (record w {
      objects = with_hwpt file ioas id width (automatic_hwpt w.objects file ioas width) w.objects;
    }))
automatic_there at w file ioas id width object p is =
    ap (λ (x : World). unwritten x) (sym (settle_same at w p))
    ∙ ap (λ (o : Option Object). unwritten (settle w (record w { objects = with_hwpt file ioas id width o w.objects })))
    (sym is)

-- the device joins what has settled
pub joined_after : (w left v new : World) (device : DeviceNo) (file : FileNo) (hwpt : ObjId)
    → new ≡ with_device v device file hwpt → unwritten v ≡ unwritten (settle w left)
    → unwritten new ≡ unwritten (settle w (with_device left device file hwpt))
joined_after w left v new device file hwpt new_is v_is =
    ap (λ (x : World). unwritten x) new_is
    ∙ ap (λ (x : World). with_device x device file hwpt) v_is
    ∙ ap (λ (x : World). unwritten x) (sym (settle_with_device w left device file hwpt))
