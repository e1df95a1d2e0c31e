-- Steps that are refused with a code: the first that refuses decides.
use Rattle.std.specs.Prelude.{◌≡◌, Result, Ok, Err, ⊤}
use Rattle.oe_replies.specs.declared.code.ReplyCode.{ReplyCode}
use Rattle.oe_routes.specs.declared.refusal.Refusal.{Refusal}
use Rattle.oe_routes.specs.declared.refusal.Refusal.TheVariants as refusal

infixl 10 ◌>>=◌
abbrev pub ◌>>=◌ : {A B : Type 0} → Result A ReplyCode → (A → Result B ReplyCode) → Result B ReplyCode
(Ok x) >>= next = next x
(Err code) >>= next = Err code

-- what a refusal says of a step: that it refuses with this code, or nothing where it is out of memory
abbrev pub Fails : {Y : Type 0} → Refusal → Result Y ReplyCode → Type 0
Fails refusal.OutOfMemory step = ⊤
Fails (refusal.Code code) step = step ≡ Err code

-- what a call answered, seen by view, is what the step gives, unless it is out of memory
abbrev pub Gives : {X Y : Type 0} → (X → Y) → Result X Refusal → Result Y ReplyCode → Type 0
Gives view (Ok x) step = step ≡ Ok (view x)
Gives view (Err e) step = Fails e step
