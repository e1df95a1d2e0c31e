-- The largest of some numbers, and a sum that is cut at a limit, one number after the other.
use Rattle.std.specs.Prelude.{◌≡◌, ◌<◌, ◌≤◌, ◌+◌, ◌*◌, ℕ, List, [], ◌∷◌, ◌++◌, length, map, min, max, take, sum_by, Bool, true, false, if◌then◌else◌}
use Rattle.std.proofs.Common.{get_or, ap, ◌∙◌, subst, arith}
use Rattle.std.proofs.lemmas.List.{map_more}
use Rattle.std.proofs.lemmas.List.Sums.{sum_by_more}
use Rattle.std.proofs.Math.Nat.{mul-le-mul}
use Rattle.oe_order.specs.Live.{largest}

pub largest_of_more : (xs : List ℕ) (x : ℕ) → largest (xs ++ x ∷ []) ≡ max (largest xs) x
largest_of_more [] x = omega arith
largest_of_more (y ∷ ys) x = rw (largest_of_more ys x) (omega arith)

-- the largest so far and one more number
pub most_more : (f : ℕ → ℕ) (xs : List ℕ) (i most next : ℕ) → i < length xs → most ≡ max 1 (largest (map f (take i xs)))
    → next ≡ max most (f (get_or xs i 0)) → next ≡ max 1 (largest (map f (take (i + 1) xs)))
most_more f xs i most next within so_far is =
    let more : largest (map f (take (i + 1) xs)) ≡ max (largest (map f (take i xs))) (f (get_or xs i 0)) =
    ap largest (map_more f xs i 0 within) ∙ largest_of_more (map f (take i xs)) (f (get_or xs i 0)) in
    omega arith

-- a sum that is cut at a limit, and one more number
pub cut_more : (f : ℕ → ℕ) (limit : ℕ) (xs : List ℕ) (i sum next : ℕ) → i < length xs → sum ≡ min limit (sum_by f (take i xs))
    → next ≡ min limit (sum + f (get_or xs i 0)) → next ≡ min limit (sum_by f (take (i + 1) xs))
cut_more f limit xs i sum next within so_far is =
    let more : sum_by f (take (i + 1) xs) ≡ sum_by f (take i xs) + f (get_or xs i 0) = sum_by_more f xs i 0 within in
    omega arith

-- a reach that is cut at a limit is as good as the whole one, where no side is longer than the limit
pub cut_reach : (most side limit halo : ℕ) → most ≤ limit → min most (side + 2 * min limit halo) ≡ min most (side + 2 * halo)
cut_reach most side limit halo within = omega arith

-- four sides of at most 65536 labels
pub product_most : (t bands y x : ℕ) → t ≤ 65536 → bands ≤ 65536 → y ≤ 65536 → x ≤ 65536
    → t * bands * y * x ≤ 18446744073709551616
product_most t bands y x t_in bands_in y_in x_in =
    let plane : t * bands ≤ 65536 * 65536 = mul-le-mul t_in bands_in in
    let box : t * bands * y ≤ 65536 * 65536 * 65536 = mul-le-mul plane y_in in
    mul-le-mul box x_in

widened_is : (whole : Bool) (most side halo cut result : ℕ) → most ≤ 65536 → cut ≡ min 65536 halo
    → result ≡ (if whole then most else min most (side + 2 * cut)) → result ≡ (if whole then most else min most (side + 2 * halo))
widened_is true most side halo cut result within cut_is is = is
widened_is false most side halo cut result within cut_is is = omega arith

-- a side is that of the definition, though its reach is cut at the most labels that a dimension has
pub side_is : (whole of_run : Bool) (most most_of_run side cut halo result : ℕ) → whole ≡ of_run → most ≡ most_of_run
    → most ≤ 65536 → cut ≡ min 65536 halo → result ≡ (if whole then most else min most (side + 2 * cut))
    → result ≡ (if of_run then most_of_run else min most_of_run (side + 2 * halo))
side_is whole of_run most most_of_run side cut halo result whole_is most_is within cut_is is =
    widened_is of_run most_of_run side halo cut result (subst (λ (m : ℕ). m ≤ 65536) most_is within) cut_is
    (is ∙ ap (λ (w : Bool). if w then most else min most (side + 2 * cut)) whole_is
    ∙ ap (λ (m : ℕ). if of_run then m else min m (side + 2 * cut)) most_is)

pub cut_none : (halo : ℕ) → halo ≡ 0 → 0 ≡ min 65536 halo
cut_none halo none = omega arith

pub product_is : (t bands y x tt bb yy xx : ℕ) → t ≡ tt → bands ≡ bb → y ≡ yy → x ≡ xx → t * bands * y * x ≡ tt * bb * yy * xx
product_is t bands y x tt bb yy xx t_is bands_is y_is x_is = cc
