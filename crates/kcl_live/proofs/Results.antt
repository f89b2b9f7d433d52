-- What holds of the value or the error of a result.
use Rattle.std.proofs.Common.{Result, Ok, Err}
use Rattle.std.specs.Prelude.{IfErr, OnErr, OnOk}

pub on_ok : {A E : Type 0} (r : Result A E) (X : Type 0) → X → OnOk r X
on_ok (Ok a) X x = x
on_ok (Err e) X x = tt

pub err_both : {A E : Type 0} (r : Result A E) (X : E → Type 0) (Y : Type 0) (Z : E → Type 0)
    → ((e : E) → X e → Y → Z e) → IfErr r X → OnErr r Y → IfErr r Z
err_both (Ok a) X Y Z f x y = tt
err_both (Err e) X Y Z f x y = f e x y

pub err_so : {A E : Type 0} (r : Result A E) (X Y : E → Type 0) → ((e : E) → X e → Y e) → IfErr r X → IfErr r Y
err_so (Ok a) X Y f x = tt
err_so (Err e) X Y f x = f e x

pub err_to : {A E : Type 0} (r : Result A E) (X : E → Type 0) (Y : Type 0) → ((e : E) → X e → Y) → IfErr r X → OnErr r Y
err_to (Ok a) X Y f x = tt
err_to (Err e) X Y f x = f e x
