-- A refusal of a run that is handed on.
use Rattle.std.proofs.Common.{◌≡◌, Result, Ok, Err, IfErr, IsErrAnd, sym, subst}
use Rattle.oe_service.specs.declared.refusal.RunRefusal.{RunRefusal}

-- what `?` hands on is what was refused
pub handed_on : {X : Type 0} (P : RunRefusal → Type 0) (reason : RunRefusal) (made : Result X RunRefusal)
    → IsErrAnd made (λ e. e ≡ reason) → P reason → IfErr made P
handed_on P reason (Ok x) is p = tt
handed_on P reason (Err e) is p = subst P (sym is) p
