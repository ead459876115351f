-- What is said of a result where it is known to be good or bad.
use Rattle.std.proofs.Common.{◌≡◌, true, false}
use Rattle.std.specs.Prelude.{Result, Ok, Err, is_err}
use Rattle.std.specs.Result.{OnErr, OnOk}

pub from_ok : {X Y : Type 0} (result : Result X Y) (P : Type 0) → is_err result ≡ false → OnOk result P → P
from_ok (Ok x) P good said = said
from_ok (Err e) P good said = cc

pub from_err : {X Y : Type 0} (result : Result X Y) (P : Type 0) → is_err result ≡ true → OnErr result P → P
from_err (Ok x) P bad said = cc
from_err (Err e) P bad said = said

pub on_err : {X Y : Type 0} (result : Result X Y) (P : Type 0) → P → OnErr result P
on_err (Ok x) P holds = tt
on_err (Err e) P holds = holds

pub err_so : {X Y : Type 0} (result : Result X Y) (P Q : Type 0) → (P → Q) → OnErr result P → OnErr result Q
err_so (Ok x) P Q so said = tt
err_so (Err e) P Q so said = so said
