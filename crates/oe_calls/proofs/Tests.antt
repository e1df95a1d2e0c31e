-- Tests along lists: what a loop finds at the next element.
use Rattle.std.proofs.Common.{◌≡◌, ℕ, ◌+◌, ◌<◌, Bool, List, ◌∷◌, length, get_or, drop, sym, ap, ◌∙◌}
use Rattle.std.proofs.lemmas.List.{at_drop_more}
use Rattle.std.specs.Str.{bytes_eq}
use Rattle.oe_dims.specs.Names.{same_name}
use Rattle.oe_dims.proofs.OrderLemmas.{same_name-bytes_eq}

pub same_bytes : (a b : List ℕ) → bytes_eq a b ≡ same_name a b
same_bytes a b = same_name-bytes_eq a b

-- a function of a list at what is left of it, and at its next element and the rest
pub at_next : {X Y : Type 0} (f : List X → Y) (xs : List X) (i : ℕ) (x : X) → i < length xs → x ≡ get_or xs i x
    → f (drop i xs) ≡ f (x ∷ drop (i + 1) xs)
at_next f xs i x more is = at_drop_more f xs i x more ∙ ap (λ y. f (y ∷ drop (i + 1) xs)) (sym is)
