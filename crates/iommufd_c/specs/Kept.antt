-- What a handle keeps.
use Rattle.std.specs.Prelude.{Option, Some, None}
use base.Fml.{Fml, feq}
use denote.RattleType.{RattleType}
use denote.RawPtr.{Ptr, null_ptr}
use mir.Syntax.{Ty}
use Rattle.std.specs.Box.Ownership.{box_owns}

-- a closed handle is null, and owns nothing; an open one is the address of a box, which it owns
abbrev pub keeps_boxed : (Ty → Ptr → Fml) → (R : RattleType) → Ptr → Option R.Denot → Fml
keeps_boxed may_free R at None = feq Ptr at null_ptr
keeps_boxed may_free R at (Some value) = box_owns may_free R at value
