-- What defaults change in the arguments of a node: they add the names of parameters, keep names rising, and bring no
-- reference, no parameter and no callback.
use Rattle.std.proofs.Common.{◌≡◌, ◌⊎◌, inl, inr, ℕ, Bool, true, false, if◌then◌else◌, List, [], ◌∷◌, ◌++◌, map, Contains, Option, Some, None, is_some, option_map, refl, sym, ap, ◌∙◌, subst}
use Rattle.std.specs.Option.{option_or}
use Rattle.std.proofs.lemmas.List.Elements.{Contains-append_left, Contains-append_right, Contains-append_cases}
use Rattle.oe_dims.specs.Names.{same_name, is_name_before, names_rise}
use Rattle.oe_dims.proofs.OrderLemmas.{same_name_is}
use Rattle.oe_graph.specs.Catalogue.{Parameter, plain_parameter, literal_value}
use Rattle.oe_graph.specs.Printed.{names_of}
use Rattle.oe_graph.specs.References.{argument_named, references_in, references_named, parameters_in, parameters_named, callbacks_in, callbacks_named}
use Rattle.oe_graph.specs.Tree.{Argument, null, Named, no_named, named, PlainGraph}
use Rattle.oe_graph.specs.declared.table.Literal.{Literal}
use Rattle.oe_graph.specs.declared.table.Literal.TheVariants as literal
use Rattle.oe_resolve.specs.Defaults.{put_argument, put_default, put_defaults}
use Rattle.oe_calls.proofs.Along.{later_there, there_cases, none_there, in_first}
use Rattle.oe_calls.proofs.NameLemmas.{other_before, starts_after, rise_from, rise_parts}

-- ---- one default

-- the default of a parameter of the catalogue
abbrev pub default_by : Option Literal → Option Argument
default_by d = option_or (option_map literal_value d) (if is_some d then Some null else None)

-- what stands in arguments: what stands in each, and a default brings nothing
module _ {X : Type 0} (inside : Argument → List X) (among : Named → List X)
    (among_more : (k : List ℕ) (a : Argument) (rest : Named) → among (named k a rest) ≡ inside a ++ among rest) where
  put_if : (before : Bool) (name other : List ℕ) (a b : Argument) (rest : Named) (x : X)
      → inside a ≡ []
      → (Contains (among (put_argument name a rest)) x → Contains (among rest) x)
      → Contains (among (if before then named other b (put_argument name a rest) else named name a (named other b rest))) x
      → Contains (among (named other b rest)) x
  put_if true name other a b rest x plain later has =
      let parts = Contains-append_cases (inside b) (among (put_argument name a rest)) x
      (subst (λ xs. Contains xs x) (among_more other b (put_argument name a rest)) has) in
      subst (λ xs. Contains xs x) (sym (among_more other b rest))
      (elim parts as (λ _. Contains (inside b ++ among rest) x) [
        | inl here ↦ Contains-append_left (inside b) (among rest) x here
        | inr there ↦ Contains-append_right (inside b) (among rest) x (later there)
      ])
  put_if false name other a b rest x plain later has =
      let all : inside a ++ among (named other b rest) ≡ among (named other b rest) = ap (λ xs. xs ++ among (named other b rest)) plain in
      subst (λ xs. Contains xs x) (among_more name a (named other b rest) ∙ all) has

  put_brings : (name : List ℕ) (a : Argument) (ms : Named) (x : X) → inside a ≡ []
      → Contains (among (put_argument name a ms)) x → Contains (among ms) x
  put_brings name a no_named x plain has =
      subst (λ xs. Contains xs x) (among_more name a no_named ∙ ap (λ xs. xs ++ among no_named) plain) has
  put_brings name a (named other b rest) x plain has =
      put_if (is_name_before other name) name other a b rest x plain (put_brings name a rest x plain) has

  module _ (plain : (l : Literal) → inside (literal_value l) ≡ []) where
    default_brings : (name : List ℕ) (given : Option Argument) (d : Option Literal) (ms : Named) (x : X)
        → Contains (among (put_default name given (default_by d) ms)) x → Contains (among ms) x
    default_brings name given None ms x has = has
    default_brings name None (Some l) ms x has = put_brings name (literal_value l) ms x (plain l) has
    default_brings name (Some a) (Some l) ms x has = has

    pub defaults_bring : (ps : List Parameter) (ms : Named) (x : X)
        → Contains (among (put_defaults (map plain_parameter ps) ms)) x → Contains (among ms) x
    defaults_bring [] ms x has = has
    defaults_bring (p ∷ ps) ms x has =
        default_brings p.name (argument_named p.name ms) p.default ms x
        (defaults_bring ps (put_default p.name (argument_named p.name ms) (default_by p.default) ms) x has)

no_references : (l : Literal) → references_in (literal_value l) ≡ []
no_references literal.Null = refl
no_references (literal.Flag b) = refl
no_references (literal.Whole z) = refl
no_references literal.EmptyList = refl
no_references literal.EmptyObject = refl

no_parameters : (l : Literal) → parameters_in (literal_value l) ≡ []
no_parameters literal.Null = refl
no_parameters (literal.Flag b) = refl
no_parameters (literal.Whole z) = refl
no_parameters literal.EmptyList = refl
no_parameters literal.EmptyObject = refl

no_callbacks : (l : Literal) → callbacks_in (literal_value l) ≡ []
no_callbacks literal.Null = refl
no_callbacks (literal.Flag b) = refl
no_callbacks (literal.Whole z) = refl
no_callbacks literal.EmptyList = refl
no_callbacks literal.EmptyObject = refl

pub references-defaults : (ps : List Parameter) (ms : Named) (id : List ℕ)
    → Contains (references_named (put_defaults (map plain_parameter ps) ms)) id → Contains (references_named ms) id
references-defaults = defaults_bring references_in references_named (λ k a rest. refl) no_references

pub parameters-defaults : (ps : List Parameter) (ms : Named) (p : List ℕ)
    → Contains (parameters_named (put_defaults (map plain_parameter ps) ms)) p → Contains (parameters_named ms) p
parameters-defaults = defaults_bring parameters_in parameters_named (λ k a rest. refl) no_parameters

pub callbacks-defaults : (ps : List Parameter) (ms : Named) (g : PlainGraph)
    → Contains (callbacks_named (put_defaults (map plain_parameter ps) ms)) g → Contains (callbacks_named ms) g
callbacks-defaults = defaults_bring callbacks_in callbacks_named (λ k a rest. refl) no_callbacks

-- ---- names after one default

put_name_if : (before : Bool) (name other : List ℕ) (a b : Argument) (rest : Named) (x : List ℕ)
    → (Contains (names_of (put_argument name a rest)) x → (name ≡ x) ⊎ Contains (names_of rest) x)
    → Contains (names_of (if before then named other b (put_argument name a rest) else named name a (named other b rest))) x
    → (name ≡ x) ⊎ Contains (other ∷ names_of rest) x
put_name_if true name other a b rest x later has =
    elim (there_cases other (names_of (put_argument name a rest)) x has) as (λ _. (name ≡ x) ⊎ Contains (other ∷ names_of rest) x) [
      | inl is ↦ inr (in_first other (names_of rest) x is)
      | inr there ↦ elim (later there) as (λ _. (name ≡ x) ⊎ Contains (other ∷ names_of rest) x) [
        | inl is ↦ inl is
        | inr old ↦ inr (later_there other (names_of rest) x old)
      ]
    ]
put_name_if false name other a b rest x later has = there_cases name (other ∷ names_of rest) x has

put_name : (name : List ℕ) (a : Argument) (ms : Named) (x : List ℕ) → Contains (names_of (put_argument name a ms)) x
    → (name ≡ x) ⊎ Contains (names_of ms) x
put_name name a no_named x has = there_cases name [] x has
put_name name a (named other b rest) x has =
    put_name_if (is_name_before other name) name other a b rest x (put_name name a rest x) has

kept_if : (before : Bool) (name other : List ℕ) (a b : Argument) (rest : Named) (x : List ℕ)
    → (Contains (names_of rest) x → Contains (names_of (put_argument name a rest)) x)
    → Contains (other ∷ names_of rest) x
    → Contains (names_of (if before then named other b (put_argument name a rest) else named name a (named other b rest))) x
kept_if true name other a b rest x later has =
    elim (there_cases other (names_of rest) x has) as (λ _. Contains (other ∷ names_of (put_argument name a rest)) x) [
      | inl is ↦ in_first other (names_of (put_argument name a rest)) x is
      | inr there ↦ later_there other (names_of (put_argument name a rest)) x (later there)
    ]
kept_if false name other a b rest x later has = later_there name (other ∷ names_of rest) x has

put_keeps : (name : List ℕ) (a : Argument) (ms : Named) (x : List ℕ) → Contains (names_of ms) x
    → Contains (names_of (put_argument name a ms)) x
put_keeps name a no_named x has = absurd (none_there x has)
put_keeps name a (named other b rest) x has =
    kept_if (is_name_before other name) name other a b rest x (put_keeps name a rest x) has

here_if : (before : Bool) (name other : List ℕ) (a b : Argument) (rest : Named)
    → Contains (names_of (put_argument name a rest)) name
    → Contains (names_of (if before then named other b (put_argument name a rest) else named name a (named other b rest))) name
here_if true name other a b rest later = later_there other (names_of (put_argument name a rest)) name later
here_if false name other a b rest later = in_first name (other ∷ names_of rest) name refl

put_here : (name : List ℕ) (a : Argument) (ms : Named) → Contains (names_of (put_argument name a ms)) name
put_here name a no_named = in_first name [] name refl
put_here name a (named other b rest) = here_if (is_name_before other name) name other a b rest (put_here name a rest)

-- a name that an argument was found under
found_if : (same : Bool) (name k : List ℕ) (a b : Argument) (rest : Named) → same_name k name ≡ same
    → (argument_named name rest ≡ Some b → Contains (names_of rest) name)
    → (if same then Some a else argument_named name rest) ≡ Some b → Contains (k ∷ names_of rest) name
found_if true name k a b rest is later found = in_first k (names_of rest) name (sym (same_name_is k name is))
found_if false name k a b rest is later found = later_there k (names_of rest) name (later found)

pub found_name : (name : List ℕ) (ms : Named) (b : Argument) → argument_named name ms ≡ Some b → Contains (names_of ms) name
found_name name no_named b found = absurd cc
found_name name (named k a rest) b found =
    found_if (same_name k name) name k a b rest refl (found_name name rest b) found

-- ---- names after all defaults

default_name : (name : List ℕ) (given : Option Argument) (d : Option Literal) (ms : Named) (x : List ℕ)
    → Contains (names_of (put_default name given (default_by d) ms)) x → (name ≡ x) ⊎ Contains (names_of ms) x
default_name name given None ms x has = inr has
default_name name None (Some l) ms x has = put_name name (literal_value l) ms x has
default_name name (Some a) (Some l) ms x has = inr has

default_keeps : (name : List ℕ) (given : Option Argument) (d : Option Literal) (ms : Named) (x : List ℕ)
    → Contains (names_of ms) x → Contains (names_of (put_default name given (default_by d) ms)) x
default_keeps name given None ms x has = has
default_keeps name None (Some l) ms x has = put_keeps name (literal_value l) ms x has
default_keeps name (Some a) (Some l) ms x has = has

default_gives : (name : List ℕ) (given : Option Argument) (d : Option Literal) (ms : Named)
    → argument_named name ms ≡ given → (d ≡ None → Contains (names_of ms) name)
    → Contains (names_of (put_default name given (default_by d) ms)) name
default_gives name given None ms is else_given = else_given refl
default_gives name None (Some l) ms is else_given = put_here name (literal_value l) ms
default_gives name (Some a) (Some l) ms is else_given = found_name name ms a is

abbrev pub the_names : List Parameter → List (List ℕ)
the_names ps = map (λ (p : Parameter). p.name) ps

pub names-defaults : (ps : List Parameter) (ms : Named) (x : List ℕ)
    → Contains (names_of (put_defaults (map plain_parameter ps) ms)) x → Contains (the_names ps) x ⊎ Contains (names_of ms) x
names-defaults [] ms x has = inr has
names-defaults (p ∷ ps) ms x has =
    let next = put_default p.name (argument_named p.name ms) (default_by p.default) ms in
    elim (names-defaults ps next x has) as (λ _. Contains (the_names (p ∷ ps)) x ⊎ Contains (names_of ms) x) [
      | inl later ↦ inl (later_there p.name (the_names ps) x later)
      | inr now ↦ elim (default_name p.name (argument_named p.name ms) p.default ms x now)
          as (λ _. Contains (the_names (p ∷ ps)) x ⊎ Contains (names_of ms) x) [
            | inl is ↦ inl (in_first p.name (the_names ps) x is)
            | inr old ↦ inr old
          ]
    ]

pub names-kept : (ps : List Parameter) (ms : Named) (x : List ℕ)
    → Contains (names_of ms) x → Contains (names_of (put_defaults (map plain_parameter ps) ms)) x
names-kept [] ms x has = has
names-kept (p ∷ ps) ms x has =
    names-kept ps (put_default p.name (argument_named p.name ms) (default_by p.default) ms) x
    (default_keeps p.name (argument_named p.name ms) p.default ms x has)

pub names-given : (ps : List Parameter) (ms : Named) (p : Parameter) → Contains ps p
    → (p.default ≡ None → Contains (names_of ms) p.name)
    → Contains (names_of (put_defaults (map plain_parameter ps) ms)) p.name
names-given [] ms p has else_given = absurd (none_there p has)
names-given (q ∷ ps) ms p has else_given =
    let next = put_default q.name (argument_named q.name ms) (default_by q.default) ms in
    elim (there_cases q ps p has) as (λ _. Contains (names_of (put_defaults (map plain_parameter ps) next)) p.name) [
      | inl is ↦ names-kept ps next p.name
          (subst (λ (r : Parameter). Contains (names_of (put_default r.name (argument_named r.name ms) (default_by r.default) ms)) p.name)
          (sym is) (default_gives p.name (argument_named p.name ms) p.default ms refl else_given))
      | inr there ↦ names-given ps next p there
          (λ none. default_keeps q.name (argument_named q.name ms) q.default ms p.name (else_given none))
    ]

-- ---- names rise after defaults

start_if : (before : Bool) (k name other : List ℕ) (a b : Argument) (rest : Named)
    → is_name_before k name ≡ true → is_name_before k other ≡ true
    → starts_after k (names_of (if before then named other b (put_argument name a rest) else named name a (named other b rest))) ≡ true
start_if true k name other a b rest before_name before_other = before_other
start_if false k name other a b rest before_name before_other = before_name

put_start : (k name : List ℕ) (a : Argument) (ms : Named) → is_name_before k name ≡ true → starts_after k (names_of ms) ≡ true
    → starts_after k (names_of (put_argument name a ms)) ≡ true
put_start k name a no_named before after = before
put_start k name a (named other b rest) before after =
    start_if (is_name_before other name) k name other a b rest before after

rise_if : (before : Bool) (name other : List ℕ) (a b : Argument) (rest : Named)
    → is_name_before other name ≡ before → same_name other name ≡ false
    → names_rise (other ∷ names_of rest) ≡ true
    → names_rise (names_of (put_argument name a rest)) ≡ true
    → names_rise (names_of (if before then named other b (put_argument name a rest) else named name a (named other b rest))) ≡ true
rise_if true name other a b rest is differ rise later =
    rise_from other (names_of (put_argument name a rest))
    (put_start other name a rest is (rise_parts other (names_of rest) rise).0) later
rise_if false name other a b rest is differ rise later =
    rise_from name (other ∷ names_of rest) (other_before other name is differ) rise

missing_if : (same : Bool) (a : Argument) (found : Option Argument) → (if same then Some a else found) ≡ None
    → (same ≡ false) × (found ≡ None)
missing_if true a found none = absurd cc
missing_if false a found none = (refl, none)

put_rises : (name : List ℕ) (a : Argument) (ms : Named) → argument_named name ms ≡ None → names_rise (names_of ms) ≡ true
    → names_rise (names_of (put_argument name a ms)) ≡ true
put_rises name a no_named missing rise = refl
put_rises name a (named other b rest) missing rise =
    let parts = missing_if (same_name other name) b (argument_named name rest) missing in
    rise_if (is_name_before other name) name other a b rest refl parts.0 rise
    (put_rises name a rest parts.1 (rise_parts other (names_of rest) rise).1)

default_rises : (name : List ℕ) (given : Option Argument) (d : Option Literal) (ms : Named)
    → argument_named name ms ≡ given → names_rise (names_of ms) ≡ true
    → names_rise (names_of (put_default name given (default_by d) ms)) ≡ true
default_rises name given None ms is rise = rise
default_rises name None (Some l) ms is rise = put_rises name (literal_value l) ms is rise
default_rises name (Some a) (Some l) ms is rise = rise

pub names_rise-defaults : (ps : List Parameter) (ms : Named) → names_rise (names_of ms) ≡ true
    → names_rise (names_of (put_defaults (map plain_parameter ps) ms)) ≡ true
names_rise-defaults [] ms rise = rise
names_rise-defaults (p ∷ ps) ms rise =
    names_rise-defaults ps (put_default p.name (argument_named p.name ms) (default_by p.default) ms)
    (default_rises p.name (argument_named p.name ms) p.default ms refl rise)
