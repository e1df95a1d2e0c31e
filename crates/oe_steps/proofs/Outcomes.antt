-- What a call promises where it is not refused, and where it is.
use Rattle.std.proofs.Common.{Err, Ok, OnErr, OnOk, Result, false, is_err, ◌≡◌}

pub on_ok : {T E : Type 0} (X Y : Type 0) (r : Result T E) → (X → Y) → OnOk r X → OnOk r Y
on_ok X Y (Ok x) f h = f h
on_ok X Y (Err x) f h = h

pub on_err : {T E : Type 0} (X Y : Type 0) (r : Result T E) → (X → Y) → OnErr r X → OnErr r Y
on_err X Y (Ok x) f h = h
on_err X Y (Err x) f h = f h

pub ok_holds : {T E : Type 0} (X : Type 0) (r : Result T E) → is_err r ≡ false → OnOk r X → X
ok_holds X (Ok x) e h = h
ok_holds X (Err x) e h = absurd cc
