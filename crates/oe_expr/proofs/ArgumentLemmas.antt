-- The elements of a list, one by one.
use Rattle.std.proofs.Common.{◌≡◌, ℕ, suc, ◌+◌, ◌<◌, ◌≤◌, true, false, List, [], ◌∷◌, ◌++◌, length, drop, get_or, nat_le, Option, Some, None, option_map, option_and_then, refl, sym, ap, ◌∙◌, append_assoc, arith}
use Rattle.std.proofs.lemmas.List.{at_drop_more, at_drop_all}
use Rattle.std.proofs.lemmas.Bool.Decides.{nat_tests}
use Rattle.oe_graph.specs.Plain.{plain_arg, plain_args}
use Rattle.oe_graph.specs.declared.tree.Arg.{Arg}
use Rattle.oe_expr.specs.PlainRequests.{plain_scalar, plain_scalars}
use Rattle.oe_expr.specs.Requests as spec
use Rattle.oe_expr.specs.declared.request.Scalar.{Scalar}

-- ---- the scalars of a list

abbrev behind : List spec.Scalar → Option (List spec.Scalar) → Option (List spec.Scalar)
behind before rest = option_map (λ scalars. before ++ scalars) rest

-- the scalars so far, and those that are left
abbrev pub scalars_from : List Scalar → List Arg → ℕ → Option (List spec.Scalar)
scalars_from before args i = behind (plain_scalars before) (spec.scalars_in (plain_args (drop i args)))

none_before : (o : Option (List spec.Scalar)) → behind [] o ≡ o
none_before None = refl
none_before (Some scalars) = refl

pub scalars_first : (args : List Arg) → scalars_from [] args 0 ≡ spec.scalars_in (plain_args args)
scalars_first args = none_before (spec.scalars_in (plain_args args))

next_by : (before : List spec.Scalar) (s : spec.Scalar) (rest : Option (List spec.Scalar))
    → behind before (spec.with_both (λ s scalars. s ∷ scalars) (Some s) rest) ≡ behind (before ++ s ∷ []) rest
next_by before s None = refl
next_by before s (Some scalars) = ap Some (sym (append_assoc before (s ∷ []) scalars))

plain_more : (before : List Scalar) (s : Scalar) → plain_scalars (before ++ s ∷ []) ≡ plain_scalars before ++ plain_scalar s ∷ []
plain_more [] s = refl
plain_more (x ∷ before) s = ap (λ (rest : List spec.Scalar). plain_scalar x ∷ rest) (plain_more before s)

first_scalar : (before : List Scalar) (args : List Arg) (i : ℕ) (a : Arg) → i < length args → a ≡ get_or args i a
    → scalars_from before args i
    ≡ behind (plain_scalars before) (spec.with_both (λ s scalars. s ∷ scalars) (spec.scalar_in (plain_arg a)) (spec.scalars_in (plain_args (drop (i + 1) args))))
first_scalar before args i a below is =
    at_drop_more (λ xs. behind (plain_scalars before) (spec.scalars_in (plain_args xs))) args i a below
    ∙ ap (λ (b : Arg). behind (plain_scalars before) (spec.with_both (λ s scalars. s ∷ scalars) (spec.scalar_in (plain_arg b)) (spec.scalars_in (plain_args (drop (i + 1) args))))) (sym is)

pub scalars_next : (before : List Scalar) (args : List Arg) (i : ℕ) (a : Arg) (s : Scalar) → i < length args → a ≡ get_or args i a
    → spec.scalar_in (plain_arg a) ≡ Some (plain_scalar s) → scalars_from before args i ≡ scalars_from (before ++ s ∷ []) args (i + 1)
scalars_next before args i a s below is found =
    first_scalar before args i a below is
    ∙ (ap (λ o. behind (plain_scalars before) (spec.with_both (λ s scalars. s ∷ scalars) o (spec.scalars_in (plain_args (drop (i + 1) args))))) found
    ∙ (next_by (plain_scalars before) (plain_scalar s) (spec.scalars_in (plain_args (drop (i + 1) args)))
    ∙ sym (ap (λ scalars. behind scalars (spec.scalars_in (plain_args (drop (i + 1) args)))) (plain_more before s))))

pub scalars_stop : (before : List Scalar) (args : List Arg) (i : ℕ) (a : Arg) → i < length args → a ≡ get_or args i a
    → spec.scalar_in (plain_arg a) ≡ None → scalars_from before args i ≡ None
scalars_stop before args i a below is none =
    first_scalar before args i a below is
    ∙ ap (λ o. behind (plain_scalars before) (spec.with_both (λ s scalars. s ∷ scalars) o (spec.scalars_in (plain_args (drop (i + 1) args))))) none

append_none : (xs : List spec.Scalar) → xs ++ [] ≡ xs
append_none [] = refl
append_none (x ∷ xs) = ap (λ (rest : List spec.Scalar). x ∷ rest) (append_none xs)

pub scalars_end : (before : List Scalar) (args : List Arg) (i : ℕ) → length args ≤ i → scalars_from before args i ≡ Some (plain_scalars before)
scalars_end before args i past =
    at_drop_all (λ xs. behind (plain_scalars before) (spec.scalars_in (plain_args xs))) args i past ∙ ap Some (append_none (plain_scalars before))

-- ---- lists that are too long

counted : (f : Option spec.Scalar) (rest : Option (List spec.Scalar)) (n : ℕ) (scalars : List spec.Scalar)
    → ((ss : List spec.Scalar) → rest ≡ Some ss → length ss ≡ n)
    → spec.with_both (λ s scalars. s ∷ scalars) f rest ≡ Some scalars → length scalars ≡ suc n
counted None rest n scalars one e = absurd cc
counted (Some s) None n scalars one e = absurd cc
counted (Some s) (Some ss) n scalars one e =
    let is : s ∷ ss ≡ scalars = cc in
    ap length (sym is) ∙ ap suc (one ss refl)

scalar_count : (args : List Arg) (scalars : List spec.Scalar) → spec.scalars_in (plain_args args) ≡ Some scalars → length scalars ≡ length args
scalar_count [] scalars e = let is : [] ≡ scalars = cc in ap length (sym is)
scalar_count (a ∷ args) scalars e =
    counted (spec.scalar_in (plain_arg a)) (spec.scalars_in (plain_args args)) (length args) scalars (λ ss is. scalar_count args ss is) e

too_many : (n : ℕ) (scalars : List spec.Scalar) → length scalars ≡ n → 64 < n → spec.written_list scalars ≡ None
too_many n scalars long more =
    let no : nat_le (length scalars) 64 ≡ false = grind (arith, nat_tests) in
    rw no refl

pub too_long : (args : List Arg) → 64 < length args → option_and_then spec.written_list (spec.scalars_in (plain_args args)) ≡ None
too_long args more = by (spec.scalars_in (plain_args args)) refl
  where
    by : (o : Option (List spec.Scalar)) → spec.scalars_in (plain_args args) ≡ o → option_and_then spec.written_list o ≡ None
    by None e = refl
    by (Some scalars) e = too_many (length args) scalars (scalar_count args scalars e) more

plain_count : (scalars : List Scalar) → length (plain_scalars scalars) ≡ length scalars
plain_count [] = refl
plain_count (s ∷ scalars) = ap suc (plain_count scalars)

pub short_enough : (scalars : List Scalar) → length scalars ≤ 64 → spec.written_list (plain_scalars scalars) ≡ Some (spec.written (plain_scalars scalars))
short_enough scalars few =
    let count = plain_count scalars in
    let yes : nat_le (length (plain_scalars scalars)) 64 ≡ true = grind (arith, nat_tests) in
    rw yes refl
