-- For which causes pins, their ends and accesses through them are refused, in the worlds of the script of pins.
use Rattle.std.specs.Prelude.{ℕ, true, false, [], ◌∷◌, map}
use Rattle.std.specs.List.{range_with_len}
use Rattle.iofd_examples.specs.PinScript.{pinned, ready}
use Rattle.iofd_examples.specs.Words.{QuestionRefusals, Refusals, access_attach, access_detach, access_pin}
use Rattle.iofd_examples.specs.Words.{access_pin_row, access_read, access_unpin, access_write, area_row, close, destroy}
use Rattle.iofd_examples.specs.Words.{file, map_in, page_row}
use Rattle.iofd_words.specs.World.{World}
use Rattle.iofd_words.specs.declared.refusal.Cause.TheVariants as cause
use Rattle.iofd_words.specs.declared.rows.Phase.TheVariants.{Leaving, Live}

-- ---- pins

-- where none is held
abbrev pub pins_in_ready : Refusals
pins_in_ready =
    (access_pin 1 3 0x1000 0x1000 false, [])
    ∷ (access_pin 1 3 0x1000 0x4000 true, [])
    ∷ (access_pin 1 4 0x2000 0x1000 false, [])
    -- file 5 isn't there, and file 3 has nothing
    ∷ (access_pin 5 3 0x1000 0x1000 false, cause.Id ∷ cause.Id ∷ cause.Unattached ∷ [])
    ∷ (access_pin 3 3 0x1000 0x1000 false, cause.Id ∷ cause.Unattached ∷ [])
    -- an unknown id, an address space's, a device's; one that isn't attached
    ∷ (access_pin 1 9 0x1000 0x1000 false, cause.Id ∷ cause.Unattached ∷ [])
    ∷ (access_pin 1 1 0x1000 0x1000 false, cause.Id ∷ cause.Unattached ∷ [])
    ∷ (access_pin 1 6 0x1000 0x1000 false, cause.Id ∷ cause.Unattached ∷ [])
    ∷ (access_pin 1 5 0x1000 0x1000 false, cause.Unattached ∷ [])
    -- up to 2^64, and beyond
    ∷ (access_pin 1 3 0xffff_ffff_ffff_f000 0x1000 false, cause.Span ∷ [])
    ∷ (access_pin 1 3 0xffff_ffff_ffff_f000 0x2000 false, cause.Sum ∷ cause.Span ∷ [])
    ∷ (access_pin 1 3 0xffff_ffff_ffff_f800 0x1000 false, cause.Sum ∷ cause.Align ∷ cause.Span ∷ [])
    -- no page, half a page, and from the middle of one on
    ∷ (access_pin 1 3 0x1000 0 false, cause.Align ∷ [])
    ∷ (access_pin 1 3 0x1000 0x800 true, cause.Align ∷ [])
    ∷ (access_pin 1 3 0x1800 0x1000 true, cause.Align ∷ [])
    ∷ (access_pin 1 3 0x4800 0x1000 true, cause.Align ∷ cause.Span ∷ [])
    -- a page before the areas, and one behind them; file 2's address space of the same id has
    -- another
    ∷ (access_pin 1 3 0 0x2000 true, cause.Span ∷ [])
    ∷ (access_pin 1 3 0x4000 0x2000 true, cause.Span ∷ [])
    ∷ (access_pin 2 3 0x1000 0x1000 false, cause.Span ∷ [])
    ∷ (access_pin 2 3 0x3000 0x1000 true, cause.Absent ∷ [])
    -- an area that may be read alone, and one that may be written alone
    ∷ (access_pin 1 4 0x2000 0x1000 true, cause.Rights ∷ [])
    ∷ (access_pin 1 4 0x3000 0x1000 false, cause.Rights ∷ [])
    ∷ (access_pin 1 4 0x3000 0x1000 true, cause.Rights ∷ [])
    ∷ (access_pin 1 4 0x2000 0x2000 false, cause.Rights ∷ [])
    ∷ (access_pin 1 4 0x1000 0x2000 true, cause.Span ∷ cause.Rights ∷ [])
    -- a page that the user hasn't
    ∷ (access_pin 1 4 0x4000 0x1000 true, cause.Absent ∷ [])
    ∷ (access_pin 1 4 0x4000 0x2000 true, cause.Span ∷ cause.Absent ∷ [])
    ∷ (access_pin 1 4 0x2000 0x3000 false, cause.Rights ∷ cause.Absent ∷ cause.Account ∷ [])
    ∷ []

-- where user 1 has as many pinned pages as it may: pages that are pinned already may be pinned again
abbrev pub pins_in_pinned : Refusals
pins_in_pinned =
    (access_pin 1 3 0x1000 0x4000 true, [])
    ∷ (access_pin 1 3 0x3000 0x1000 false, [])
    ∷ (access_pin 1 4 0x2000 0x1000 false, cause.Account ∷ [])
    ∷ (access_pin 1 4 0x2000 0x1000 true, cause.Rights ∷ cause.Account ∷ [])
    ∷ (access_pin 1 4 0x4000 0x1000 false, cause.Absent ∷ cause.Account ∷ [])
    ∷ []

-- where it has given the first of them up: a page that is pinned already isn't needed again, to whichever area it is
abbrev pub given_up : World
given_up = record pinned { user_pages = page_row 1 0x11 1 ∷ page_row 1 0x12 2 ∷ [] }

abbrev pub pins_in_given_up : Refusals
pins_in_given_up =
    (access_pin 1 3 0x1000 0x1000 false, [])
    ∷ (access_pin 1 3 0x3000 0x2000 true, [])
    ∷ (access_pin 1 3 0x1000 0x4000 true, [])
    ∷ []

-- where areas are leaving
abbrev pub with_leaving : World
with_leaving =
    record ready {
      areas =
          area_row 1 1 0x1000 0x2fff 14 3 (Leaving [] 1)
          ∷ area_row 1 2 0x1000 0x1fff 17 3 Live ∷ area_row 1 2 0x2000 0x2fff 16 1 (Leaving [] 1)
          ∷ [];
    }

abbrev pub pins_in_leaving : Refusals
pins_in_leaving =
    (access_pin 1 3 0x1000 0x1000 false, cause.Leaving ∷ [])
    ∷ (access_pin 1 3 0x2000 0x1000 true, cause.Leaving ∷ [])
    ∷ (access_pin 1 3 0x1000 0x4000 false, cause.Span ∷ cause.Leaving ∷ [])
    ∷ (access_pin 1 4 0x2000 0x1000 false, cause.Leaving ∷ [])
    ∷ (access_pin 1 4 0x2000 0x1000 true, cause.Leaving ∷ cause.Rights ∷ [])
    -- a live area before a leaving one: alone, and both
    ∷ (access_pin 1 4 0x1000 0x1000 true, [])
    ∷ (access_pin 1 4 0x1000 0x2000 false, cause.Leaving ∷ [])
    ∷ []

-- in `leaving`: pages of areas that are leaving are read and written through a pin as before, and let go; another
-- access object may be attached there, and a MAP may lie beside them
abbrev pub events_in_leaving : Refusals
events_in_leaving =
    (access_write 1 3 0x1000 (1 ∷ []), [])
    ∷ (access_write 1 3 0x4fff (1 ∷ []), [])
    ∷ (access_unpin 1 3 0x1000 0x4000 true, [])
    ∷ (access_attach 1 5 1, [])
    ∷ (access_detach 1 3, cause.InUse ∷ [])
    ∷ (map_in 1 7 1 0x10000 0x1000 0x5000, [])
    ∷ []

-- in `others_leaving`: who holds no pin may be detached
abbrev pub detachments_in_leaving : Refusals
detachments_in_leaving =
    (access_detach 1 5, []) ∷ (access_detach 2 3, []) ∷ (access_detach 1 3, cause.InUse ∷ []) ∷ []

abbrev pub reads_in_leaving : QuestionRefusals
reads_in_leaving = (access_read 1 3 0x1000 1, []) ∷ (access_read 1 3 0x4fff 1, []) ∷ []

-- so many pins of file 1's second access object
abbrev pub with_pins : ℕ → World
with_pins many =
    record ready {
      access_pins = map (λ n. access_pin_row 1 4 0x2000 0x2fff false) (range_with_len 0 many);
    }

abbrev pub pins_at_limit : Refusals
pins_at_limit =
    (access_pin 1 4 0x2000 0x1000 false, cause.Full ∷ [])
    ∷ (access_pin 1 4 0x2000 0x1000 true, cause.Rights ∷ cause.Full ∷ [])
    ∷ (access_pin 1 4 0x4000 0x1000 true, cause.Full ∷ cause.Absent ∷ [])
    ∷ (access_pin 1 3 0x1000 0x1000 false, [])
    ∷ []

abbrev pub pins_below_limit : Refusals
pins_below_limit = (access_pin 1 4 0x2000 0x1000 false, []) ∷ []

-- ---- their ends, in `pinned`

abbrev pub unpins : Refusals
unpins =
    (access_unpin 1 3 0x1000 0x4000 true, [])
    ∷ (access_unpin 1 3 0x1000 0x1000 false, [])
    -- for other accesses, from another address on, of another length, and of no page
    ∷ (access_unpin 1 3 0x1000 0x4000 false, cause.NotHeld ∷ [])
    ∷ (access_unpin 1 3 0x1000 0x1000 true, cause.NotHeld ∷ [])
    ∷ (access_unpin 1 3 0x2000 0x3000 true, cause.NotHeld ∷ [])
    ∷ (access_unpin 1 3 0x1000 0x3000 true, cause.NotHeld ∷ [])
    ∷ (access_unpin 1 3 0x1000 0 false, cause.NotHeld ∷ [])
    -- of another access object, and of that of the same id in the other file
    ∷ (access_unpin 1 4 0x1000 0x4000 true, cause.NotHeld ∷ [])
    ∷ (access_unpin 2 3 0x1000 0x4000 true, cause.NotHeld ∷ [])
    -- one that isn't attached, an unknown id, an address space's, and a file that isn't there
    ∷ (access_unpin 1 5 0x1000 0x4000 true, cause.Unattached ∷ cause.NotHeld ∷ [])
    ∷ (access_unpin 1 9 0x1000 0x4000 true, cause.Id ∷ cause.Unattached ∷ cause.NotHeld ∷ [])
    ∷ (access_unpin 1 1 0x1000 0x4000 true, cause.Id ∷ cause.Unattached ∷ cause.NotHeld ∷ [])
    ∷ (access_unpin 5 3 0x1000 0x4000 true, cause.Id ∷ cause.Id ∷ cause.Unattached ∷ cause.NotHeld ∷ [])
    ∷ []

-- who holds a pin can't be detached
abbrev pub of_holders : Refusals
of_holders =
    (access_detach 1 3, cause.InUse ∷ [])
    ∷ (access_detach 1 4, [])
    ∷ (access_detach 2 3, [])
    ∷ (access_attach 1 3 2, cause.Bound ∷ [])
    ∷ (destroy 1 3, cause.InUse ∷ [])
    ∷ (destroy 1 1, cause.InUse ∷ [])
    ∷ (close 1, cause.InUse ∷ [])
    ∷ []

-- ---- accesses through pins

-- in `pinned`: all its pages may be written
abbrev pub writes_in_pinned : Refusals
writes_in_pinned =
    (access_write 1 3 0x1000 (1 ∷ []), [])
    ∷ (access_write 1 3 0x4fff (1 ∷ []), [])
    ∷ (access_write 1 3 0x1000 (range_with_len 0 64), [])
    -- too many bytes, none, and such as leave their page
    ∷ (access_write 1 3 0x1000 (range_with_len 0 65), cause.Cross ∷ [])
    ∷ (access_write 1 3 0x1000 [], cause.Cross ∷ [])
    ∷ (access_write 1 3 0x1fff (1 ∷ 2 ∷ []), cause.Cross ∷ [])
    -- beside the pin, and by an access object that holds none
    ∷ (access_write 1 3 0xfff (1 ∷ []), cause.NotHeld ∷ cause.Rights ∷ [])
    ∷ (access_write 1 3 0xfff (1 ∷ 2 ∷ []), cause.Cross ∷ cause.NotHeld ∷ cause.Rights ∷ [])
    ∷ (access_write 1 3 0x5000 (1 ∷ []), cause.NotHeld ∷ cause.Rights ∷ [])
    ∷ (access_write 1 4 0x2000 (1 ∷ []), cause.NotHeld ∷ cause.Rights ∷ [])
    ∷ (access_write 2 3 0x1000 (1 ∷ []), cause.NotHeld ∷ cause.Rights ∷ [])
    -- one that isn't attached, an unknown id, and a file that isn't there
    ∷ (access_write 1 5 0x1000 (1 ∷ []), cause.Unattached ∷ cause.NotHeld ∷ cause.Rights ∷ [])
    ∷ (access_write 1 5 0x1000 [], cause.Unattached ∷ cause.Cross ∷ cause.NotHeld ∷ cause.Rights ∷ [])
    ∷ (access_write 1 9 0x1000 (1 ∷ []), cause.Id ∷ cause.Unattached ∷ cause.NotHeld ∷ cause.Rights ∷ [])
    ∷ (
      access_write 5 3 0x1000 (1 ∷ []),
      cause.Id ∷ cause.Id ∷ cause.Unattached ∷ cause.NotHeld ∷ cause.Rights ∷ [],
    )
    ∷ []

-- in `one_left`: a pin for reads alone
abbrev pub writes_in_one_left : Refusals
writes_in_one_left =
    (access_write 1 3 0x1000 (1 ∷ []), cause.Rights ∷ [])
    ∷ (access_write 1 3 0x1fff (1 ∷ 2 ∷ []), cause.Cross ∷ cause.Rights ∷ [])
    ∷ (access_write 1 3 0x2000 (1 ∷ []), cause.NotHeld ∷ cause.Rights ∷ [])
    ∷ []

-- each pin is for reads, so of a read the last two rows are one
abbrev pub reads_in_pinned : QuestionRefusals
reads_in_pinned =
    (access_read 1 3 0x1000 1, [])
    ∷ (access_read 1 3 0x4fc0 64, [])
    ∷ (access_read 1 3 0x1000 65, cause.Cross ∷ [])
    ∷ (access_read 1 3 0x1000 0, cause.Cross ∷ [])
    ∷ (access_read 1 3 0x4fff 2, cause.Cross ∷ [])
    ∷ (access_read 1 3 0x5000 1, cause.NotHeld ∷ cause.Rights ∷ [])
    ∷ (access_read 1 4 0x2000 1, cause.NotHeld ∷ cause.Rights ∷ [])
    ∷ (access_read 2 3 0x1000 1, cause.NotHeld ∷ cause.Rights ∷ [])
    ∷ (access_read 1 5 0x1000 1, cause.Unattached ∷ cause.NotHeld ∷ cause.Rights ∷ [])
    ∷ (access_read 1 9 0x1000 1, cause.Id ∷ cause.Unattached ∷ cause.NotHeld ∷ cause.Rights ∷ [])
    ∷ (access_read 5 3 0x1000 1, cause.Id ∷ cause.Id ∷ cause.Unattached ∷ cause.NotHeld ∷ cause.Rights ∷ [])
    ∷ []

abbrev pub reads_in_one_left : QuestionRefusals
reads_in_one_left =
    (access_read 1 3 0x1000 1, []) ∷ (access_read 1 3 0x2000 1, cause.NotHeld ∷ cause.Rights ∷ []) ∷ []

-- ---- where file 1 is closed and has its objects still, which no run leaves

abbrev pub closed : World
closed = record pinned { closed = file 1 ∷ [] }

abbrev pub of_closed : Refusals
of_closed =
    (access_pin 1 3 0x1000 0x1000 true, cause.Id ∷ [])
    ∷ (access_pin 1 9 0x1000 0x1000 true, cause.Id ∷ cause.Id ∷ cause.Unattached ∷ [])
    ∷ (access_pin 1 5 0x1000 0x1000 true, cause.Id ∷ cause.Unattached ∷ [])
    ∷ (access_unpin 1 3 0x1000 0x4000 true, cause.Id ∷ [])
    ∷ (access_unpin 1 3 0x1000 0x4000 false, cause.Id ∷ cause.NotHeld ∷ [])
    ∷ (access_write 1 3 0x1000 (1 ∷ []), cause.Id ∷ [])
    ∷ (access_write 1 3 0x1000 [], cause.Id ∷ cause.Cross ∷ [])
    ∷ []
