-- Values of parameters: given one after the other, hidden, and seen in a callback.
use Rattle.std.proofs.Common.{◌≡◌, ℕ, ◌+◌, ◌<◌, ◌||◌, Bool, true, false, if◌then◌else◌, List, [], ◌∷◌, ◌++◌, map, length, get_or, drop, refl, sym, ap, ◌∙◌, Option, Some, None, option_map, true≢false}
use denote.Bor.{Bor}
use Rattle.std.specs.List.{list_any}
use Rattle.std.specs.Option.{option_or}
use Rattle.std.proofs.lemmas.List.{drop_more, map-append}
use Rattle.oe_dims.specs.Names.{same_name}
use Rattle.oe_dims.proofs.OrderLemmas.{same_name_is}
use Rattle.oe_graph.specs.Plain.{plain_arg, plain_named, plain_parameter}
use Rattle.oe_graph.specs.References.{argument_named}
use Rattle.oe_graph.specs.Tree.{Argument, null, flag, whole, inexact, text, list, object, from_node, from_parameter, callback, ListValues, no_arguments, argument, Named, no_named, named}
use Rattle.oe_graph.specs.declared.tree.Arg.{Arg}
use Rattle.oe_graph.specs.declared.catalogue.ParameterRow.{ParameterRow}
use Rattle.oe_calls.specs.Renamed.{dangling, renamed, renamed_each, renamed_named}
use Rattle.oe_calls.specs.Substituted.{default_of, value_before, values_given, without_names, inside}
use Rattle.oe_calls.specs.PlainValues.{names_behind}
use Rattle.oe_memory.proofs.Lists.{append_none}

-- ---- values one after the other

-- members, and then others
abbrev pub joined : Named → Named → Named
joined no_named rest = rest
joined (named name a more) rest = named name a (joined more rest)

pub joined-none : (ms : Named) → joined ms no_named ≡ ms
joined-none no_named = refl
joined-none (named name a more) = ap (named name a) (joined-none more)

pub joined-last : (ms : List (List ℕ × Arg)) (name : List ℕ) (a : Arg) (rest : Named)
    → joined (plain_named (ms ++ (name, a) ∷ [])) rest ≡ joined (plain_named ms) (named name (plain_arg a) rest)
joined-last [] name a rest = refl
joined-last (m ∷ ms) name a rest = ap (named m.0 (plain_arg m.1)) (joined-last ms name a rest)

-- the value of a parameter
abbrev pub value_in : ParameterRow → Named → Option Argument
value_in p arguments = option_or (argument_named p.name arguments) (default_of (plain_parameter p))

pub values_given-next : (ps : List ParameterRow) (i : ℕ) (p : ParameterRow) (arguments : Named)
    → i < length ps → p ≡ get_or ps i p
    → values_given (map plain_parameter (drop i ps)) arguments
    ≡ value_before p.name (value_in p arguments) (values_given (map plain_parameter (drop (i + 1) ps)) arguments)
values_given-next ps i p arguments more is =
    ap (λ (xs : List ParameterRow). values_given (map plain_parameter xs) arguments)
    (drop_more ps i p more ∙ ap (λ (x : ParameterRow). x ∷ drop (i + 1) ps) (sym is))

-- ---- references dangle once for all

mutual
  dangling-again : (a : Argument) → renamed dangling (renamed dangling a) ≡ renamed dangling a
  dangling-again null = refl
  dangling-again (flag b) = refl
  dangling-again (whole z) = refl
  dangling-again inexact = refl
  dangling-again (text s) = refl
  dangling-again (list rest) = ap list (dangling_each-again rest)
  dangling-again (object ms) = ap object (dangling_named-again ms)
  dangling-again (from_node id) = refl
  dangling-again (from_parameter name) = refl
  dangling-again (callback ns result) = refl

  dangling_each-again : (rest : ListValues) → renamed_each dangling (renamed_each dangling rest) ≡ renamed_each dangling rest
  dangling_each-again no_arguments = refl
  dangling_each-again (argument a rest) =
      ap (λ b. argument b (renamed_each dangling (renamed_each dangling rest))) (dangling-again a)
      ∙ ap (argument (renamed dangling a)) (dangling_each-again rest)

  pub dangling_named-again : (ms : Named) → renamed_named dangling (renamed_named dangling ms) ≡ renamed_named dangling ms
  dangling_named-again no_named = refl
  dangling_named-again (named name a rest) =
      ap (λ b. named name b (renamed_named dangling (renamed_named dangling rest))) (dangling-again a)
      ∙ ap (named name (renamed dangling a)) (dangling_named-again rest)

-- ---- hidden in one list of names and then in another

pub any_append : (test : List ℕ → Bool) (xs ys : List (List ℕ))
    → list_any test (xs ++ ys) ≡ (list_any test xs || list_any test ys)
any_append test [] ys = refl
any_append test (x ∷ xs) ys = ap (λ b. test x || b) (any_append test xs ys) ∙ or_split (test x) (list_any test xs) (list_any test ys)
  where
    or_split : (a b c : Bool) → (a || (b || c)) ≡ ((a || b) || c)
    or_split true b c = refl
    or_split false b c = refl

dangling_if : (hidden : Bool) (name : List ℕ) (a : Argument) (rest : Named)
    → renamed_named dangling (if hidden then rest else named name a rest)
    ≡ (if hidden then renamed_named dangling rest else named name (renamed dangling a) (renamed_named dangling rest))
dangling_if true name a rest = refl
dangling_if false name a rest = refl

pub without-dangling : (names : List (List ℕ)) (ms : Named) → without_names names (renamed_named dangling ms) ≡ renamed_named dangling (without_names names ms)
without-dangling names no_named = refl
without-dangling names (named name a rest) =
    ap (λ more. if list_any (same_name name) names then more else named name (renamed dangling a) more) (without-dangling names rest)
    ∙ sym (dangling_if (list_any (same_name name) names) name a (without_names names rest))

without_if : (own : List (List ℕ)) (here before : Bool) (name : List ℕ) (a : Argument) (rest both : Named)
    → list_any (same_name name) own ≡ here
    → without_names own rest ≡ both
    → without_names own (if before then rest else named name a rest) ≡ (if here || before then both else named name a both)
without_if own true true name a rest both is more = more
without_if own false true name a rest both is more = more
without_if own true false name a rest both is more =
    ap (λ b. if b then without_names own rest else named name a (without_names own rest)) is ∙ more
without_if own false false name a rest both is more =
    ap (λ b. if b then without_names own rest else named name a (without_names own rest)) is ∙ ap (named name a) more

pub without-both : (own hidden : List (List ℕ)) (ms : Named) → without_names own (without_names hidden ms) ≡ without_names (own ++ hidden) ms
without-both own hidden no_named = refl
without-both own hidden (named name a rest) =
    without_if own _ (list_any (same_name name) hidden) name a (without_names hidden rest) (without_names (own ++ hidden) rest) refl
    (without-both own hidden rest)
    ∙ ap (λ b. if b then without_names (own ++ hidden) rest else named name a (without_names (own ++ hidden) rest))
    (sym (any_append (same_name name) own hidden))

-- what a callback in a callback sees
pub inside-inside : (own hidden : List (List ℕ)) (ms : Named) → inside (own ++ hidden) ms ≡ inside own (inside hidden ms)
inside-inside own hidden ms =
    ap (renamed_named dangling) (sym (without-both own hidden ms))
    ∙ (sym (dangling_named-again (without_names own (without_names hidden ms)))
    ∙ ap (renamed_named dangling) (sym (without-dangling own (without_names hidden ms))))

-- ---- the value of a name

pub argument_named-dangling : (name : List ℕ) (ms : Named)
    → argument_named name (renamed_named dangling ms) ≡ option_map (renamed dangling) (argument_named name ms)
argument_named-dangling name no_named = refl
argument_named-dangling name (named k a rest) =
    first (same_name k name) a rest (argument_named-dangling name rest)
  where
    first : (same : Bool) (a : Argument) (rest : Named)
        → argument_named name (renamed_named dangling rest) ≡ option_map (renamed dangling) (argument_named name rest)
        → (if same then Some (renamed dangling a) else argument_named name (renamed_named dangling rest))
        ≡ option_map (renamed dangling) (if same then Some a else argument_named name rest)
    first true a rest more = refl
    first false a rest more = more

-- a member that is hidden is not found, and another is found as before
either : (name : List ℕ) (names : List (List ℕ)) (k : List ℕ) (a : Argument) (rest : Named) (hidden same any : Bool)
    → list_any (same_name k) names ≡ hidden → same_name k name ≡ same → list_any (same_name name) names ≡ any
    → argument_named name (without_names names rest) ≡ (if any then None else argument_named name rest)
    → argument_named name (if hidden then without_names names rest else named k a (without_names names rest))
    ≡ (if any then None else (if same then Some a else argument_named name rest))
either name names k a rest true true true is same any more = more
either name names k a rest true true false is same any more =
    let k_is : name ≡ k = same_name_is k name same in
    absurd (true≢false (sym is ∙ (ap (λ n. list_any (same_name n) names) (sym k_is) ∙ any)))
either name names k a rest true false true is same any more = more
either name names k a rest true false false is same any more = more
either name names k a rest false true true is same any more =
    let k_is : name ≡ k = same_name_is k name same in
    absurd (true≢false (sym any ∙ (ap (λ n. list_any (same_name n) names) k_is ∙ is)))
either name names k a rest false true false is same any more = ap (λ b. if b then Some a else argument_named name (without_names names rest)) same
either name names k a rest false false true is same any more =
    ap (λ b. if b then Some a else argument_named name (without_names names rest)) same ∙ more
either name names k a rest false false false is same any more =
    ap (λ b. if b then Some a else argument_named name (without_names names rest)) same ∙ more

if_none : (any : Bool) → ◌≡◌ {A = Option Argument} None (if any then None else None)
if_none true = refl
if_none false = refl

pub argument_named-without : (name : List ℕ) (names : List (List ℕ)) (ms : Named)
    → argument_named name (without_names names ms) ≡ (if list_any (same_name name) names then None else argument_named name ms)
argument_named-without name names no_named = if_none (list_any (same_name name) names)
argument_named-without name names (named k a rest) =
    either name names k a rest _ _ _ refl refl refl (argument_named-without name names rest)

-- what is found in a callback
pub argument_named-inside : (name : List ℕ) (names : List (List ℕ)) (ms : Named)
    → argument_named name (inside names ms)
    ≡ option_map (renamed dangling) (if list_any (same_name name) names then None else argument_named name ms)
argument_named-inside name names ms =
    argument_named-dangling name (without_names names ms) ∙ ap (option_map (renamed dangling)) (argument_named-without name names ms)

pub hidden_value : (name : List ℕ) (names : List (List ℕ)) (ms : Named) → list_any (same_name name) names ≡ true
    → argument_named name (inside names ms) ≡ None
hidden_value name names ms hidden =
    argument_named-inside name names ms
    ∙ ap (λ b. option_map (renamed dangling) (if b then None else argument_named name ms)) hidden

pub seen_value : (name : List ℕ) (names : List (List ℕ)) (ms : Named) → list_any (same_name name) names ≡ false
    → argument_named name (inside names ms) ≡ option_map (renamed dangling) (argument_named name ms)
seen_value name names ms seen =
    argument_named-inside name names ms
    ∙ ap (λ b. option_map (renamed dangling) (if b then None else argument_named name ms)) seen

-- what a callback sees, where names were hidden before or not
pub inside_seen : (own hidden : List (Bor (List ℕ))) (given : Named) (was_carried : Bool)
    → inside (names_behind (own ++ (if was_carried then hidden else []))) given
    ≡ inside (names_behind own) (if was_carried then inside (names_behind hidden) given else given)
inside_seen own hidden given true =
    ap (λ names. inside names given) (map-append (λ (name : Bor (List ℕ)). name.now) own hidden)
    ∙ inside-inside (names_behind own) (names_behind hidden) given
inside_seen own hidden given false = ap (λ names. inside (names_behind names) given) (append_none own)
