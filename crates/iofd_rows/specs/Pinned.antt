-- Every page that is to be pinned has one pin, and no other page has any; each area has a memory object of its size.
use Rattle.std.specs.Prelude.{◌≡◌, ℕ, ◌*◌, Bool, true, ◌==◌, ◌&&◌, ◌||◌, not, nat_lt, is_some}
use Rattle.std.specs.Prelude.{List, [], ◌∷◌, map}
use Rattle.std.specs.List.{list_any, list_all}
use Rattle.iofd_words.specs.Pins.{ObjectPage, is_page, page_of_pin, pinned_pages, pinned_frame}
use Rattle.iofd_words.specs.Span.{size_of}
use Rattle.iofd_rows.specs.AccessPins.{AreHeld, are_in_spaces}
use Rattle.iofd_words.specs.World.{World}
use Rattle.iofd_words.specs.declared.rows.Area.{Area}
use Rattle.iofd_words.specs.declared.rows.MemoryObject.{MemoryObject}

-- no memory object's number is that of a later one too
abbrev pub have_own_numbers : List MemoryObject → Bool
have_own_numbers [] = true
have_own_numbers (m ∷ memory) = not (list_any (λ other. other.number == m.number) memory) && have_own_numbers memory

-- the area's memory object is there, and has the area's size
abbrev pub has_object : List MemoryObject → Area → Bool
has_object memory area = list_any (λ m. m.number == area.memory && m.count * 4096 == size_of area.span) memory

-- the two areas are of one file, where they are over one memory object
abbrev pub share_in_file : Area → Area → Bool
share_in_file a b = not (a.memory == b.memory) || a.file.0 == b.file.0

-- areas share memory objects with areas of their own file alone
abbrev pub share_in_files : List Area → Bool
share_in_files areas = list_all (λ a. list_all (share_in_file a) areas) areas

-- no page comes again later
abbrev pub differ : List ObjectPage → Bool
differ [] = true
differ (page ∷ pages) = not (list_any (is_page page) pages) && differ pages

-- what holds of the world before the record at this position
pub record ArePinned (at : ℕ) (w : World) : Type 0 where
  -- no two memory objects have one number, and earlier records made them
  pub numbers : have_own_numbers w.memory ≡ true
  pub made : list_all (λ m. nat_lt m.number at) w.memory ≡ true
  -- each area has a memory object of its size, and each memory object an area
  pub sizes : list_all (has_object w.memory) w.areas ≡ true
  pub used : list_all (λ m. list_any (λ area. area.memory == m.number) w.areas) w.memory ≡ true
  -- each page that is to be pinned has one pin, and no other has any
  pub pinned : list_all (λ page. is_some (pinned_frame w.pins page))
      (pinned_pages w.objects w.areas w.memory w.access_pins) ≡ true
  pub only : list_all (λ pin. list_any (is_page (page_of_pin pin))
      (pinned_pages w.objects w.areas w.memory w.access_pins)) w.pins ≡ true
  pub once : differ (map page_of_pin w.pins) ≡ true
  -- access pins are held by who is attached, with areas under them
  pub held : AreHeld w.objects w.areas w.access_pins
  -- access objects are attached to address spaces of their own file alone
  pub spaces : are_in_spaces w.objects ≡ true
