use Rattle.std.proofs.Common.{◌∙◌, ap, le_of_lt, length, refl, sym}
use Rattle.std.specs.Option.{option_copied}
use Rattle.std.proofs.lemmas.Option.{slice_get_read}
use Rattle.memory_objects.proofs.lookups.object_at.Goals as goal

pub place_of-requires : goal.place_of-requires
place_of-requires g c = c.requires

pub returns-in_err-place : goal.returns-in_err-place
returns-in_err-place g c = ap option_copied c.from_residual.ensures ∙ sym c.in_err-place.ensures.none

pub offset_bounds-entries-place : goal.offset_bounds-entries-place
offset_bounds-entries-place g c = le_of_lt c.in_ok-place.ensures.within

pub bounds-entries-place : goal.bounds-entries-place
bounds-entries-place g c = c.in_ok-place.ensures.within

pub returns : goal.returns
returns g c =
    let all = c.args.entries.now in
    let x = c.index-entries-place.result in
    sym (slice_get_read all (length all) c.in_ok-place.place x refl c.in_ok-place.ensures.within
    c.index-entries-place.is) ∙ c.in_ok-place.ensures.some
