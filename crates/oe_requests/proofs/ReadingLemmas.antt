-- Lists of arguments by their length.
use Rattle.std.proofs.Common.{◌+◌, ◌<◌, ◌≤◌, ◌++◌, map, drop, get_or, option_map, append_assoc, ◌≡◌, ◌≢◌, ℕ, suc, false, true, Bool, ◌==◌, List, [], ◌∷◌, length, Option, Some, None, option_and_then, is_some, if◌then◌else◌, refl, sym, ap, ◌∙◌, arith}
use Rattle.std.proofs.lemmas.Bool.Decides.{nat_tests}
use Rattle.std.proofs.lemmas.List.{at_drop_more, at_drop_all}
use Rattle.oe_expr.specs.Requests.{with_both}
use Rattle.oe_graph.specs.Plain.{plain_arg, plain_args, plain_named}
use Rattle.oe_graph.specs.Tree as tree
use Rattle.oe_graph.specs.Tree.{Argument}
use Rattle.oe_graph.specs.declared.tree.Arg.{Arg}
use Rattle.oe_requests.specs.Parameters as spec

pub empty_list : (xs : List Arg) → (length xs == 0) ≡ spec.is_empty_list (tree.list (plain_args xs))
empty_list [] = refl
empty_list (x ∷ xs) = let no : (suc (length xs) == 0) ≡ false = grind (arith, nat_tests) in no

pub empty_object : (xs : List (List ℕ × Arg)) → (length xs == 0) ≡ spec.is_empty_object (tree.object (plain_named xs))
empty_object [] = refl
empty_object (x ∷ xs) = let no : (suc (length xs) == 0) ≡ false = grind (arith, nat_tests) in no

pub no_pair : (xs : List Arg) → length xs ≢ 2 → None ≡ spec.extent_in (tree.list (plain_args xs))
no_pair [] e = refl
no_pair (a ∷ []) e = refl
no_pair (a ∷ b ∷ []) e = absurd (e refl)
no_pair (a ∷ b ∷ c ∷ xs) e = refl

-- a test of an argument that is there
pub passes_by : (test : Argument → Bool) (o : Option Argument) (a : Argument) (b : Bool) → o ≡ Some a → b ≡ test a
    → b ≡ is_some (option_and_then (λ x. if test x then Some x else None) o)
passes_by test None a b e h = absurd cc
passes_by test (Some x) a b e h = let is : x ≡ a = cc in h ∙ sym (ap test is) ∙ by (test x)
  where
    by : (c : Bool) → c ≡ is_some (if c then Some x else None)
    by true = refl
    by false = refl

-- ---- lists, one element after the other

abbrev behind : {A : Type 0} → List A → Option (List A) → Option (List A)
behind before rest = option_map (λ xs. before ++ xs) rest

-- what was read so far, and what is left
abbrev pub each_from : {A : Type 0} → (Argument → Option A) → List A → List Arg → ℕ → Option (List A)
each_from reader before args i = behind before (spec.each_in reader (plain_args (drop i args)))

module _ {A : Type 0} (reader : Argument → Option A) where
  pub each_first : (args : List Arg) → each_from reader [] args 0 ≡ spec.each_in reader (plain_args args)
  each_first args = by (spec.each_in reader (plain_args args))
    where
      by : (o : Option (List A)) → behind [] o ≡ o
      by None = refl
      by (Some xs) = refl

  next_by : (before : List A) (x : A) (rest : Option (List A))
      → behind before (with_both (λ y ys. y ∷ ys) (Some x) rest) ≡ behind (before ++ x ∷ []) rest
  next_by before x None = refl
  next_by before x (Some xs) = ap Some (sym (append_assoc before (x ∷ []) xs))

  one_more : (before : List A) (args : List Arg) (i : ℕ) (a : Arg) → i < length args → a ≡ get_or args i a
      → each_from reader before args i
      ≡ behind before (with_both (λ y ys. y ∷ ys) (reader (plain_arg a)) (spec.each_in reader (plain_args (drop (i + 1) args))))
  one_more before args i a below is =
      at_drop_more (λ xs. behind before (spec.each_in reader (plain_args xs))) args i a below
      ∙ ap (λ (b : Arg). behind before (with_both (λ y ys. y ∷ ys) (reader (plain_arg b)) (spec.each_in reader (plain_args (drop (i + 1) args))))) (sym is)

  pub each_next : (before : List A) (args : List Arg) (i : ℕ) (a : Arg) (x : A) → i < length args → a ≡ get_or args i a
      → reader (plain_arg a) ≡ Some x → each_from reader before args i ≡ each_from reader (before ++ x ∷ []) args (i + 1)
  each_next before args i a x below is found =
      one_more before args i a below is
      ∙ (ap (λ o. behind before (with_both (λ y ys. y ∷ ys) o (spec.each_in reader (plain_args (drop (i + 1) args))))) found
      ∙ next_by before x (spec.each_in reader (plain_args (drop (i + 1) args))))

  pub each_stop : (before : List A) (args : List Arg) (i : ℕ) (a : Arg) → i < length args → a ≡ get_or args i a
      → reader (plain_arg a) ≡ None → each_from reader before args i ≡ None
  each_stop before args i a below is none =
      one_more before args i a below is
      ∙ ap (λ o. behind before (with_both (λ y ys. y ∷ ys) o (spec.each_in reader (plain_args (drop (i + 1) args))))) none

  append_none : (xs : List A) → xs ++ [] ≡ xs
  append_none [] = refl
  append_none (x ∷ xs) = ap (λ (rest : List A). x ∷ rest) (append_none xs)

  pub each_end : (before : List A) (args : List Arg) (i : ℕ) → length args ≤ i → each_from reader before args i ≡ Some before
  each_end before args i past =
      at_drop_all (λ xs. behind before (spec.each_in reader (plain_args xs))) args i past ∙ ap Some (append_none before)

-- what is seen of a list that grows
pub map_more : {A B : Type 0} (view : A → B) (before : List A) (x : A) → map view (before ++ x ∷ []) ≡ map view before ++ view x ∷ []
map_more view [] x = refl
map_more {B = B} view (y ∷ before) x = ap (λ (rest : List B). view y ∷ rest) (map_more view before x)
