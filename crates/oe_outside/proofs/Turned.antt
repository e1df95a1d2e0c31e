-- A list that is kept with its first element last.
use Rattle.std.proofs.Common.{◌≡◌, List, [], ◌∷◌, ◌++◌, ap, ◌∙◌, reverse}
use Rattle.std.proofs.lemmas.List.{reverse-append}

pub reverse-popped : {X : Type 0} (xs ys : List X) (x : X) → xs ≡ ys ++ x ∷ [] → reverse xs ≡ x ∷ reverse ys
reverse-popped xs ys x popped = ap reverse popped ∙ reverse-append ys (x ∷ [])
