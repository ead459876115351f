use Rattle.std.proofs.Common.{◌≡◌, false, List, refl, subst, arith}
use Rattle.std.specs.List.{list_any}
use Rattle.iofd_words.specs.Span.{meets}
use Rattle.iofd_words.specs.Usable.{beyond}
use Rattle.iofd_words.specs.declared.rows.Area.{Area}
use Rattle.hwpt_device.proofs.NeverRefused.{never_full, on_ok_err}
use Rattle.hwpt_device.proofs.making.reserve.Goals as goal

pub tables_for_new-count-requires-clause-known : goal.tables_for_new-count-requires-clause-known
tables_for_new-count-requires-clause-known g c =
    record { at = c.requires.at; world = c.requires.world; tidy = c.requires.tidy; shows = c.requires.shows }

pub tables_for_new-count-requires-clause-within : goal.tables_for_new-count-requires-clause-within
tables_for_new-count-requires-clause-within g c =
    subst (λ (areas : List Area). list_any (λ area. meets (beyond c.args.width) area.span) areas ≡ false)
    (c.requires.shows.objects.spaces c.args.file c.args.ioas) c.requires.may.wide

pub returns-in-Ok-clause-frame_room : goal.returns-in-Ok-clause-frame_room
returns-in-Ok-clause-frame_room g c =
    omega (arith, c.tables_for_new-count.ensures, c.in_ok-reserve.ensures.ok, c.reserve.ensures.len)

pub returns-in_err-reserve-clause-rows : goal.returns-in_err-reserve-clause-rows
returns-in_err-reserve-clause-rows g c = refl

pub returns-in_err-reserve-clause-files : goal.returns-in_err-reserve-clause-files
returns-in_err-reserve-clause-files g c = refl

pub returns-in_err-reserve-clause-tables : goal.returns-in_err-reserve-clause-tables
returns-in_err-reserve-clause-tables g c = refl

pub returns-in_err-reserve-clause-others : goal.returns-in_err-reserve-clause-others
returns-in_err-reserve-clause-others g c = refl

pub returns-in_err-reserve-clause-numbers : goal.returns-in_err-reserve-clause-numbers
returns-in_err-reserve-clause-numbers g c = c.reserve.ensures.items

pub returns-in_err-reserve-2-clause-rows : goal.returns-in_err-reserve-2-clause-rows
returns-in_err-reserve-2-clause-rows g c = refl

pub returns-in_err-reserve-2-clause-files : goal.returns-in_err-reserve-2-clause-files
returns-in_err-reserve-2-clause-files g c = refl

pub returns-in_err-reserve-2-clause-others : goal.returns-in_err-reserve-2-clause-others
returns-in_err-reserve-2-clause-others g c = refl

pub returns-in_err-reserve-2-clause-tables : goal.returns-in_err-reserve-2-clause-tables
returns-in_err-reserve-2-clause-tables g c = c.reserve-2.ensures.tables

pub returns-in_err-reserve-2-clause-numbers : goal.returns-in_err-reserve-2-clause-numbers
returns-in_err-reserve-2-clause-numbers g c = c.reserve.ensures.items

pub returns-in-Ok-clause-others : goal.returns-in-Ok-clause-others
returns-in-Ok-clause-others g c = refl

pub returns-in-Ok-clause-tables : goal.returns-in-Ok-clause-tables
returns-in-Ok-clause-tables g c = c.reserve-2.ensures.tables

pub returns-in-Ok-clause-numbers : goal.returns-in-Ok-clause-numbers
returns-in-Ok-clause-numbers g c = c.reserve.ensures.items

pub returns-in-Err-Memory-clause-others : goal.returns-in-Err-Memory-clause-others
returns-in-Err-Memory-clause-others g c = refl

pub returns-in-Err-Memory-clause-tables : goal.returns-in-Err-Memory-clause-tables
returns-in-Err-Memory-clause-tables g c = c.reserve-2.ensures.tables

pub returns-in-Err-Memory-clause-numbers : goal.returns-in-Err-Memory-clause-numbers
returns-in-Err-Memory-clause-numbers g c = c.reserve.ensures.items

pub returns-in-Ok-clause-table_room : goal.returns-in-Ok-clause-table_room
returns-in-Ok-clause-table_room g c = c.in_ok-reserve-2.ensures.ok

pub returns-in_err-reserve-clause-table_room : goal.returns-in_err-reserve-clause-table_room
returns-in_err-reserve-clause-table_room g c = on_ok_err c.from_residual.result _ c.from_residual.ensures.0

pub returns-in_err-reserve-2-clause-table_room : goal.returns-in_err-reserve-2-clause-table_room
returns-in_err-reserve-2-clause-table_room g c =
    on_ok_err c.from_residual-in_err-reserve-2.result _ c.from_residual-in_err-reserve-2.ensures.0

pub returns-in_err-reserve-clause-frame_room : goal.returns-in_err-reserve-clause-frame_room
returns-in_err-reserve-clause-frame_room g c = on_ok_err c.from_residual.result _ c.from_residual.ensures.0

pub returns-in_err-reserve-2-clause-frame_room : goal.returns-in_err-reserve-2-clause-frame_room
returns-in_err-reserve-2-clause-frame_room g c =
    on_ok_err c.from_residual-in_err-reserve-2.result _ c.from_residual-in_err-reserve-2.ensures.0

pub returns-in_err-reserve-clause-object_room : goal.returns-in_err-reserve-clause-object_room
returns-in_err-reserve-clause-object_room g c = on_ok_err c.from_residual.result _ c.from_residual.ensures.0

pub returns-in_err-reserve-2-clause-object_room : goal.returns-in_err-reserve-2-clause-object_room
returns-in_err-reserve-2-clause-object_room g c =
    on_ok_err c.from_residual-in_err-reserve-2.result _ c.from_residual-in_err-reserve-2.ensures.0

pub returns-in-Ok-clause-rows : goal.returns-in-Ok-clause-rows
returns-in-Ok-clause-rows g c = c.reserve-3.ensures.rows

pub returns-in-Ok-clause-files : goal.returns-in-Ok-clause-files
returns-in-Ok-clause-files g c = c.reserve-3.ensures.files

pub returns-in-Err-Memory-clause-rows : goal.returns-in-Err-Memory-clause-rows
returns-in-Err-Memory-clause-rows g c = c.reserve-3.ensures.rows

pub returns-in-Err-Memory-clause-files : goal.returns-in-Err-Memory-clause-files
returns-in-Err-Memory-clause-files g c = c.reserve-3.ensures.files

pub unreachable-requires : goal.unreachable-requires
unreachable-requires g c =
    never_full c.requires.world c.args.state.now c.args.file c.args.ioas c.args.width c.in-Err-Refused.field-0
    c.in-Err-Refused.field-0-0 c.requires.shows c.requires.may
    c.in-Err-Refused.field-0-is c.in-Err-Refused.ensures.why
