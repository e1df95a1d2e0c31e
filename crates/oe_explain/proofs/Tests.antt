-- Tests of arguments beside the readers of the definitions.
use Rattle.std.proofs.Common.{◌≡◌, ◌≢◌, ℕ, suc, ◌<◌, ◌≤◌, ◌&&◌, ◌||◌, not, Bool, true, false, nat_le, if◌then◌else◌, List, [], ◌∷◌, length, Option, Some, None, IfSome, is_some, option_map, option_and_then, codes, refl, sym, ap, ◌∙◌, ℤ, arith}
use Rattle.std.specs.List.{list_all}
use Rattle.std.proofs.lemmas.Bool.Decides.{nat_tests}
use Rattle.std.proofs.Math.Bool.{and-true}
use Rattle.oe_cell.specs.Rational.{whole_of}
use Rattle.oe_dims.specs.Dimensions.{all_differ}
use Rattle.oe_dims.specs.Names.{same_name}
use Rattle.oe_graph.specs.Built.{is_literal}
use Rattle.oe_graph.specs.Plain.{plain_arg, plain_args}
use Rattle.oe_graph.specs.Tree as tree
use Rattle.oe_graph.specs.Tree.{Argument}
use Rattle.oe_graph.specs.declared.tree.Arg.{Arg}
use Rattle.oe_expr.specs.Requests as cell
use Rattle.oe_expr.specs.Requests.{with_both}
use Rattle.oe_kernel.specs.declared.border.Border.TheVariants.{Value}
use Rattle.oe_requests.specs.Parameters as cube
use Rattle.oe_requests.proofs.ReadingLemmas as reading

-- ---- what is there

pub map_some : {A B : Type 0} (f : A → B) (o : Option A) → is_some (option_map f o) ≡ is_some o
map_some f None = refl
map_some f (Some a) = refl

pub where_some : {A : Type 0} (test : A → Bool) (a : A) → test a ≡ is_some (cube.where_it test a)
where_some test a = by (test a)
  where
    by : (b : Bool) → b ≡ is_some (if b then Some a else None)
    by true = refl
    by false = refl

pub both_some : {A B C : Type 0} (f : A → B → C) (a : Option A) (b : Option B) → is_some (with_both f a b) ≡ (is_some a && is_some b)
both_some f None b = refl
both_some f (Some x) None = refl
both_some f (Some x) (Some y) = refl

-- null, or what a reader reads
pub or_null : {A : Type 0} (reader : Argument → Option A) (a : Argument)
    → (cell.is_null a || is_some (reader a)) ≡ is_some (cube.null_or reader a)
or_null reader tree.null = refl
or_null reader (tree.flag b) = sym (map_some Some (reader (tree.flag b)))
or_null reader (tree.whole z) = sym (map_some Some (reader (tree.whole z)))
or_null reader tree.inexact = sym (map_some Some (reader tree.inexact))
or_null reader (tree.text s) = sym (map_some Some (reader (tree.text s)))
or_null reader (tree.list rest) = sym (map_some Some (reader (tree.list rest)))
or_null reader (tree.object ms) = sym (map_some Some (reader (tree.object ms)))
or_null reader (tree.from_node id) = sym (map_some Some (reader (tree.from_node id)))
or_null reader (tree.from_parameter name) = sym (map_some Some (reader (tree.from_parameter name)))
or_null reader (tree.callback ns result) = sym (map_some Some (reader (tree.callback ns result)))

-- ---- numbers

pub whole_some : (z : ℤ) → is_literal z ≡ is_some (cell.whole_scalar z)
whole_some z = by (is_literal z)
  where
    by : (b : Bool) → b ≡ is_some (if b then Some (cell.literal (cell.whole_cell z)) else None)
    by true = refl
    by false = refl

pub border_some : (z : ℤ) → is_literal z ≡ is_some (cube.border_in (tree.whole z))
border_some z = by (is_literal z)
  where
    by : (b : Bool) → b ≡ is_some (option_map Value (option_map whole_of (if b then Some z else None)))
    by true = refl
    by false = refl

-- ---- names

pub scalar_names : (name : List ℕ)
    → (same_name name (codes "x") || (same_name name (codes "y") || same_name name (codes "context")))
    ≡ is_some (cell.scalar_parameter name)
scalar_names name = by (same_name name (codes "x")) (same_name name (codes "y")) (same_name name (codes "context"))
  where
    by : (a b c : Bool) → (a || (b || c))
        ≡ is_some (if a then Some cell.of_x else (if b then Some cell.of_y else (if c then Some cell.of_context else None)))
    by true b c = refl
    by false true c = refl
    by false false true = refl
    by false false false = refl

-- ---- lists

module _ {A : Type 0} (reader : Argument → Option A) where
  pub each_some : (args : List Arg) → list_all (λ a. is_some (reader (plain_arg a))) args ≡ is_some (cube.each_in reader (plain_args args))
  each_some [] = refl
  each_some (a ∷ args) =
      ap (λ b. is_some (reader (plain_arg a)) && b) (each_some args)
      ∙ sym (both_some (λ x xs. x ∷ xs) (reader (plain_arg a)) (cube.each_in reader (plain_args args)))

and_false : (b : Bool) → (b && false) ≡ false
and_false true = refl
and_false false = refl

scalars_some : (args : List Arg) → list_all (λ a. is_some (cell.scalar_in (plain_arg a))) args ≡ is_some (cell.scalars_in (plain_args args))
scalars_some [] = refl
scalars_some (a ∷ args) =
    ap (λ b. is_some (cell.scalar_in (plain_arg a)) && b) (scalars_some args)
    ∙ sym (both_some (λ s scalars. s ∷ scalars) (cell.scalar_in (plain_arg a)) (cell.scalars_in (plain_args args)))

scalars_count : (args : List Arg) → IfSome (cell.scalars_in (plain_args args)) (λ scalars. length scalars ≡ length args)
scalars_count [] = refl
scalars_count (a ∷ args) = both (cell.scalar_in (plain_arg a)) (cell.scalars_in (plain_args args)) (length args) (scalars_count args)
  where
    both : (s : Option cell.Scalar) (o : Option (List cell.Scalar)) (n : ℕ) → IfSome o (λ scalars. length scalars ≡ n)
        → IfSome (with_both (λ s scalars. s ∷ scalars) s o) (λ scalars. length scalars ≡ suc n)
    both None o n h = tt
    both (Some s) None n h = tt
    both (Some s) (Some scalars) n h = ap suc h

-- scalars, as many as a list may have that is written
pub written_some : (args : List Arg)
    → (nat_le (length args) 64 && list_all (λ a. is_some (cell.scalar_in (plain_arg a))) args)
    ≡ is_some (option_and_then cell.written_list (cell.scalars_in (plain_args args)))
written_some args =
    ap (λ b. nat_le (length args) 64 && b) (scalars_some args)
    ∙ by (cell.scalars_in (plain_args args)) (length args) (scalars_count args)
  where
    few : (b : Bool) (scalars : List cell.Scalar) → b ≡ is_some (if b then Some (cell.written scalars) else None)
    few true scalars = refl
    few false scalars = refl

    by : (o : Option (List cell.Scalar)) (n : ℕ) → IfSome o (λ scalars. length scalars ≡ n)
        → (nat_le n 64 && is_some o) ≡ is_some (option_and_then cell.written_list o)
    by None n h = and_false (nat_le n 64)
    by (Some scalars) n h =
        and-true (nat_le n 64) ∙ ap (λ k. nat_le k 64) (sym h) ∙ few (nat_le (length scalars) 64) scalars

pub written_few : (args : List Arg) → length args ≤ 64
    → list_all (λ a. is_some (cell.scalar_in (plain_arg a))) args
    ≡ is_some (option_and_then cell.written_list (cell.scalars_in (plain_args args)))
written_few args few =
    let yes : nat_le (length args) 64 ≡ true = grind (arith, nat_tests) in
    sym (ap (λ b. b && list_all (λ a. is_some (cell.scalar_in (plain_arg a))) args) yes) ∙ written_some args

pub written_many : (args : List Arg) → 64 < length args
    → false ≡ is_some (option_and_then cell.written_list (cell.scalars_in (plain_args args)))
written_many args many =
    let no : nat_le (length args) 64 ≡ false = grind (arith, nat_tests) in
    sym (ap (λ b. b && list_all (λ a. is_some (cell.scalar_in (plain_arg a))) args) no) ∙ written_some args

-- bands, and one at least
pub some_bands : (a : Argument) → (is_some (cube.bands_in a) && not (cube.is_empty_list a)) ≡ is_some (cube.some_bands_in a)
some_bands tree.null = refl
some_bands (tree.flag b) = refl
some_bands (tree.whole z) = refl
some_bands tree.inexact = refl
some_bands (tree.text s) = refl
some_bands (tree.list tree.no_arguments) = refl
some_bands (tree.list (tree.argument a rest)) = by (cube.name_in a) (cube.each_in cube.name_in rest)
  where
    differ : (b : Bool) (name : List ℕ) (names : List (List ℕ))
        → (is_some (if b then Some (name ∷ names) else None) && true)
        ≡ is_some (option_and_then (cube.where_it cube.is_given) (if b then Some (name ∷ names) else None))
    differ true name names = refl
    differ false name names = refl

    by : (o : Option (List ℕ)) (p : Option (List (List ℕ)))
        → (is_some (option_and_then (cube.where_it all_differ) (with_both (λ x xs. x ∷ xs) o p)) && true)
        ≡ is_some (option_and_then (cube.where_it cube.is_given) (option_and_then (cube.where_it all_differ) (with_both (λ x xs. x ∷ xs) o p)))
    by None p = refl
    by (Some name) None = refl
    by (Some name) (Some names) = differ (all_differ (name ∷ names)) name names
some_bands (tree.object ms) = refl
some_bands (tree.from_node id) = refl
some_bands (tree.from_parameter name) = refl
some_bands (tree.callback ns result) = refl

-- ---- pairs

pub no_pair : (xs : List Arg) → length xs ≢ 2 → false ≡ is_some (cube.extent_in (tree.list (plain_args xs)))
no_pair xs e = ap is_some (reading.no_pair xs e)

-- where an end is read, it is an instant unless it is null
is_end : (a : Argument) → IfSome (cube.null_or cube.instant_in a) (λ end. is_some end ≡ not (cell.is_null a))
is_end tree.null = refl
is_end (tree.flag b) = tt
is_end (tree.whole z) = tt
is_end tree.inexact = tt
is_end (tree.text s) = by (cube.instant_in (tree.text s))
  where
    by : (o : Option ℤ) → IfSome (option_map Some o) (λ end. is_some end ≡ true)
    by None = tt
    by (Some z) = refl
is_end (tree.list rest) = tt
is_end (tree.object ms) = tt
is_end (tree.from_node id) = tt
is_end (tree.from_parameter name) = tt
is_end (tree.callback ns result) = tt

not_both : (m n : Bool) → not (m && n) ≡ (not m || not n)
not_both true n = refl
not_both false n = refl

-- two ends, not both null
pub extent_some : (start end : Argument)
    → (is_some (cube.null_or cube.instant_in start) && (is_some (cube.null_or cube.instant_in end) && not (cell.is_null start && cell.is_null end)))
    ≡ is_some (cube.extent_of start end)
extent_some start end =
    by (cube.null_or cube.instant_in start) (cube.null_or cube.instant_in end) (cell.is_null start) (cell.is_null end) (is_end start) (is_end end)
  where
    by : (o p : Option (Option ℤ)) (m n : Bool) → IfSome o (λ end. is_some end ≡ not m) → IfSome p (λ end. is_some end ≡ not n)
        → (is_some o && (is_some p && not (m && n)))
        ≡ is_some (option_and_then (cube.where_it cube.is_limited) (with_both cube.extent_from o p))
    by None p m n h k = refl
    by (Some x) None m n h k = refl
    by (Some x) (Some y) m n h k =
        not_both m n
        ∙ ap (λ b. b || not n) (sym h)
        ∙ ap (λ b. is_some x || b) (sym k)
        ∙ where_some cube.is_limited (cube.extent_from x y)
