-- The page tables as objects of their files.
use Rattle.std.proofs.Common.{◌≡◌, Bool, ◌&&◌, ◌||◌, eqb, List, [], ◌∷◌, map, refl, ap, arith}
use Rattle.std.specs.List.{find, list_any}
use Rattle.std.specs.Option.{option_map}
use Rattle.std.proofs.lemmas.Bool.Decides.{nat_tests}
use Rattle.iofd_words.specs.Objects.{automatic_hwpt, has_hwpt, is_automatic_over, is_hwpt_over}
use Rattle.iofd_words.specs.declared.numbers.FileNo.{FileNo}
use Rattle.iofd_words.specs.declared.numbers.ObjId.{ObjId}
use Rattle.iofd_words.specs.declared.rows.Object.{Object}
use Rattle.iofd_words.specs.declared.width.Width.{Width}
use Rattle.page_table_set.specs.PageTables.{Hwpt}

pub has_over_rows : (tables : List Hwpt) (file : FileNo) (ioas : ObjId)
    → list_any (λ (h : Hwpt). eqb h.object.file.0 file.0 && is_hwpt_over ioas h.object.kind) tables
    ≡ has_hwpt (map (λ h. h.object) tables) file ioas
has_over_rows [] file ioas = refl
has_over_rows (h ∷ tables) file ioas =
    ap (λ (b : Bool). eqb h.object.file.0 file.0 && is_hwpt_over ioas h.object.kind || b)
    (has_over_rows tables file ioas)

pub automatic_rows : (tables : List Hwpt) (file : FileNo) (ioas : ObjId) (width : Width)
    → option_map (λ (object : Object). object.id) (automatic_hwpt (map (λ h. h.object) tables) file ioas width)
    ≡ option_map (λ (h : Hwpt). h.object.id)
    (find (λ (h : Hwpt). eqb h.object.file.0 file.0 && is_automatic_over ioas width h.object.kind) tables)
automatic_rows [] file ioas width = refl
automatic_rows (h ∷ tables) file ioas width =
    let rest = automatic_rows tables file ioas width in grind (arith, nat_tests)
