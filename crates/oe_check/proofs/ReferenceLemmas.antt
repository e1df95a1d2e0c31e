-- The references of a node of a resolved graph are the cubes that its request works on, in their order.
use Rattle.std.proofs.Common.{◌≡◌, ℕ, zero, suc, ◌<◌, Bool, true, false, ◌&&◌, List, [], ◌∷◌, ◌++◌, ◌⊎◌, length, slice_index_or, Option, Some, None, refl, sym, ap, ◌∙◌, subst, Contains, if◌then◌else◌, arith, inl, inr}
use Rattle.std.specs.Prelude.{⊤, codes, is_some}
use Rattle.std.specs.List.{list_any}
use Rattle.std.specs.Option.{option_map, option_and_then, option_map_or}
use Rattle.std.specs.Ordering.{is_lt}
use Rattle.std.proofs.lemmas.Bool.{cases_Bool, and_parts, or_parts, not-true, false≢true}
use Rattle.std.proofs.lemmas.Cmp.{nat_list_cmp_total, tied_itself}
use Rattle.oe_dims.specs.Dimensions.{all_differ}
use Rattle.oe_dims.specs.Names.{same_name, is_name_before, names_rise}
use Rattle.oe_dims.proofs.OrderLemmas.{same_name_is, same_name_refl}
use Rattle.oe_dims.proofs.NameOrderLemmas.{before_trans}
use Rattle.oe_graph.specs.Catalogue.{Process, process_named}
use Rattle.oe_graph.specs.Printed.{names_of}
use Rattle.oe_graph.specs.References.{argument_named, references_in, references_each, references_named}
use Rattle.oe_graph.specs.Resolved.{IsResolvedNode, parameter_names}
use Rattle.oe_graph.specs.Tree as tree
use Rattle.oe_graph.specs.Tree.{Argument, ListValues, Named, PlainNode}
use Rattle.oe_expr.specs.Requests.{with_both, read, passes, where_passed, is_null}
use Rattle.oe_requests.specs.Parameters.{where_it, cube_in, callback_in, text_in, is_time_name, period_in, whole_in, number_in, literal_in, name_in, box_in, bounding_box_of, box_members, is_flat_box, is_box, side_of, crs_of, epsg_in, extent_in, extent_from, is_limited, instant_in, bands_in, some_bands_in, kernel_in, kernel_of, border_in, list_in, each_in, null_or, is_empty_list, is_empty_object, is_null_or_empty_object}
use Rattle.oe_requests.specs.declared.extent.BoundingBox.{BoundingBox}
use Rattle.oe_requests.specs.declared.extent.TemporalExtent.{TemporalExtent}
use Rattle.oe_requests.specs.declared.process.CubeProcess.{CubeProcess}
use Rattle.oe_requests.specs.declared.process.CubeProcess.TheVariants.{AggregateTemporal, AggregateTemporalPeriod, Apply, ApplyDimension, ApplyKernel, FilterBands, FilterBbox, FilterTemporal, LoadCollection, Mask, MergeCubes, ReduceDimension, SaveResult}
use Rattle.oe_requests.specs.Labels.{are_among}
use Rattle.oe_requests.specs.Requests.{NamedProcess, process_among, cube_processes, cube_process_named, CubeRequest, load_collection, filter_bbox, filter_temporal, filter_bands, apply, apply_kernel, reduce_dimension, aggregate_temporal, aggregate_temporal_period, apply_dimension, merge_cubes, mask, save_result, cube_ids, called, called_in, intervals_in, resolver_in, cube_request_of, cube_request_at}
use Rattle.oe_meanings.proofs.RequestLemmas.{found, both_found}

-- ---- names in byte order

not_before_itself : (a : List ℕ) → is_name_before a a ≡ true → ⊥
not_before_itself a h = false≢true (sym (ap is_lt (tied_itself nat_list_cmp_total a)) ∙ h)

rise_tail : (a : List ℕ) (names : List (List ℕ)) → names_rise (a ∷ names) ≡ true → names_rise names ≡ true
rise_tail a [] h = refl
rise_tail a (b ∷ names) h = (and_parts _ _ h).1

-- the first name stands before each later one
first_before : (a : List ℕ) (names : List (List ℕ)) (name : List ℕ) → names_rise (a ∷ names) ≡ true → Contains names name → is_name_before a name ≡ true
first_before a names name h has = by names h has.0 has.1 has.2
  where
    by : (names : List (List ℕ)) → names_rise (a ∷ names) ≡ true → (k : ℕ) → k < length names → slice_index_or names k name ≡ name → is_name_before a name ≡ true
    by [] h k below is = absurd (omega arith)
    by (b ∷ names) h zero below is = subst (λ n. is_name_before a n ≡ true) is (and_parts _ _ h).0
    by (b ∷ []) h (suc k) below is = absurd (omega arith)
    by (b ∷ c ∷ names) h (suc k) below is =
        let parts = and_parts _ _ h in
        let next = and_parts _ _ parts.1 in
        let skip : names_rise (a ∷ c ∷ names) ≡ true = let one = before_trans a b c parts.0 next.0 in let two = next.1 in rw (one, two) refl in
        by (c ∷ names) skip k (omega arith) is

here : (a : List ℕ) (names : List (List ℕ)) → Contains (a ∷ names) a
here a names = (0, omega arith, refl)

later : (a : List ℕ) (names : List (List ℕ)) (name : List ℕ) → Contains names name → Contains (a ∷ names) name
later a names name has = let below = has.1 in (suc has.0, omega arith, has.2)

-- a name among some is the first, or among the later ones
first_or_later : (a : List ℕ) (names : List (List ℕ)) (name : List ℕ) (k : ℕ) → k < length (a ∷ names) → slice_index_or (a ∷ names) k name ≡ name
    → (a ≡ name → ⊥) → Contains names name
first_or_later a names name zero below is other = absurd (other is)
first_or_later a names name (suc k) below is other = (k, omega arith, is)

-- names that rise are the same where they are the same in any order
same_names : (names others : List (List ℕ)) → names_rise names ≡ true → names_rise others ≡ true
    → ((name : List ℕ) → Contains names name → Contains others name) → ((name : List ℕ) → Contains others name → Contains names name)
    → names ≡ others
same_names [] [] h k f g = refl
same_names [] (b ∷ others) h k f g = let has = g b (here b others) in let below = has.1 in absurd (omega arith)
same_names (a ∷ names) [] h k f g = let has = f a (here a names) in let below = has.1 in absurd (omega arith)
same_names (a ∷ names) (b ∷ others) h k f g =
    by (cases_Bool (same_name a b))
    (λ (is : b ≡ a). same_names names others (rise_tail a names h) (rise_tail b others k) (onwards is) (back is))
  where
    -- the first of each is that of the other, since no other name stands before all
    not_other : (same_name a b ≡ false) → ⊥
    not_other differ =
        let one : Contains others a =
        let has = f a (here a names) in
        first_or_later b others a has.0 has.1 has.2 (λ is. false≢true (sym differ ∙ (ap (same_name a) is ∙ same_name_refl a))) in
        let two : Contains names b =
        let has = g b (here b others) in
        first_or_later a names b has.0 has.1 has.2 (λ is. false≢true (sym differ ∙ (ap (λ n. same_name n b) is ∙ same_name_refl b))) in
        not_before_itself a (before_trans a b a (first_before a names b h two) (first_before b others a k one))

    onwards : (b ≡ a) → (name : List ℕ) → Contains names name → Contains others name
    onwards is name has =
        let there = f name (later a names name has) in
        first_or_later b others name there.0 there.1 there.2
        (λ first. not_before_itself a (subst (λ n. is_name_before a n ≡ true) (sym first ∙ is) (first_before a names name h has)))

    back : (b ≡ a) → (name : List ℕ) → Contains others name → Contains names name
    back is name has =
        let there = g name (later b others name has) in
        first_or_later a names name there.0 there.1 there.2
        (λ first. not_before_itself b (subst (λ n. is_name_before b n ≡ true) (sym first ∙ sym is) (first_before b others name k has)))

    by : (same_name a b ≡ true) ⊎ (same_name a b ≡ false) → (b ≡ a → names ≡ others) → a ∷ names ≡ b ∷ others
    by (inl t) rest =
        let is : b ≡ a = same_name_is a b t in
        ap (λ n. n ∷ names) (sym is) ∙ ap (λ ns. b ∷ ns) (rest is)
    by (inr differ) rest = absurd (not_other differ)

-- names that rise differ
among_not : (a : List ℕ) (names : List (List ℕ)) → ((name : List ℕ) → Contains names name → same_name a name ≡ false) → list_any (same_name a) names ≡ false
among_not a [] h = refl
among_not a (b ∷ names) h =
    let one = h b (here b names) in
    let rest = among_not a names (λ name has. h name (later b names name has)) in
    rw (one, rest) refl

rising_differ : (names : List (List ℕ)) → names_rise names ≡ true → all_differ names ≡ true
rising_differ [] h = refl
rising_differ (a ∷ names) h =
    let rest = rising_differ names (rise_tail a names h) in
    let none = among_not a names (λ name has. apart name (first_before a names name h has) (cases_Bool (same_name a name))) in
    rw (none, rest) refl
  where
    apart : (name : List ℕ) → is_name_before a name ≡ true → (same_name a name ≡ true) ⊎ (same_name a name ≡ false) → same_name a name ≡ false
    apart name before (inl t) = absurd (not_before_itself a (subst (λ n. is_name_before a n ≡ true) (same_name_is a name t) before))
    apart name before (inr f) = f

any_is : (names : List (List ℕ)) (name : List ℕ) → list_any (same_name name) names ≡ true → Contains names name
any_is [] name h = absurd (false≢true h)
any_is (a ∷ names) name h = by (cases_Bool (same_name name a)) (any_is names name)
  where
    by : (same_name name a ≡ true) ⊎ (same_name name a ≡ false) → (list_any (same_name name) names ≡ true → Contains names name) → Contains (a ∷ names) name
    by (inl t) rest = (0, omega arith, same_name_is name a t)
    by (inr f) rest = later a names name (rest (rw f at h))

among_has : (names others : List (List ℕ)) → are_among same_name others names ≡ true → (name : List ℕ) → Contains names name → Contains others name
among_has names others h name has = by names h has.0 has.1 has.2
  where
    by : (names : List (List ℕ)) → are_among same_name others names ≡ true → (k : ℕ) → k < length names → slice_index_or names k name ≡ name → Contains others name
    by [] h k below is = absurd (omega arith)
    by (a ∷ names) h zero below is = subst (Contains others) is (any_is others a (and_parts _ _ h).0)
    by (a ∷ names) h (suc k) below is = by names (and_parts _ _ h).1 k (omega arith) is

-- ---- the references of arguments, one argument after the other

abbrev references_at : Named → List ℕ → List (List ℕ)
references_at arguments name = option_map_or references_in (argument_named name arguments) []

abbrev references_all : Named → List (List ℕ) → List (List ℕ)
references_all arguments [] = []
references_all arguments (name ∷ names) = references_at arguments name ++ references_all arguments names

at_other : (k : List ℕ) (a : Argument) (rest : Named) (name : List ℕ) → same_name k name ≡ false → references_at (tree.named k a rest) name ≡ references_at rest name
at_other k a rest name other = rw other refl

all_others : (k : List ℕ) (a : Argument) (rest : Named) (names : List (List ℕ)) → list_any (same_name k) names ≡ false
    → references_all (tree.named k a rest) names ≡ references_all rest names
all_others k a rest [] h = refl
all_others k a rest (name ∷ names) h =
    let parts = or_parts _ _ h in
    ap (λ refs. refs ++ references_all (tree.named k a rest) names) (at_other k a rest name parts.0)
    ∙ ap (λ refs. references_at rest name ++ refs) (all_others k a rest names parts.1)

one_by_one : (arguments : Named) → all_differ (names_of arguments) ≡ true → references_named arguments ≡ references_all arguments (names_of arguments)
one_by_one tree.no_named h = refl
one_by_one (tree.named k a rest) h =
    let parts = and_parts _ _ h in
    let first : references_at (tree.named k a rest) k ≡ references_in a = rw (same_name_refl k) refl in
    ap (λ refs. references_in a ++ refs) (one_by_one rest parts.1 ∙ sym (all_others k a rest (names_of rest) (not-true _ parts.0)))
    ∙ ap (λ refs. refs ++ references_all (tree.named k a rest) (names_of rest)) (sym first)

-- ---- readers of arguments without references

pub passed_so : {A : Type 0} (b : Bool) (o : Option A) (a : A) → where_passed b o ≡ Some a → (b ≡ true) × (o ≡ Some a)
passed_so true o a e = (refl, e)
passed_so false o a e = absurd cc

abbrev IsQuiet : {A : Type 0} → (Argument → Option A) → Type 0
IsQuiet {A} reader = (a : Argument) (v : A) → reader a ≡ Some v → references_in a ≡ []

mapped : {A B : Type 0} (f : A → B) (o : Option A) (b : B) → option_map f o ≡ Some b → (a : A) × (o ≡ Some a)
mapped f None b e = absurd cc
mapped f (Some a) b e = (a, refl)

quiet_then : {A B : Type 0} (reader : Argument → Option A) (f : A → Option B) → IsQuiet reader → IsQuiet (λ a. option_and_then f (reader a))
quiet_then reader f quiet a v e = let o = found f (reader a) v e in quiet a o.0 o.1

quiet_map : {A B : Type 0} (reader : Argument → Option A) (f : A → B) → IsQuiet reader → IsQuiet (λ a. option_map f (reader a))
quiet_map reader f quiet a v e = let o = mapped f (reader a) v e in quiet a o.0 o.1

-- a value without references, but for lists, objects and references themselves
quiet_but : (P : Argument → Type 0) → ((rest : ListValues) → P (tree.list rest) → references_each rest ≡ [])
    → ((ms : Named) → P (tree.object ms) → references_named ms ≡ []) → ((id : List ℕ) → P (tree.from_node id) → ⊥)
    → (a : Argument) → P a → references_in a ≡ []
quiet_but P lists objects nodes tree.null e = refl
quiet_but P lists objects nodes (tree.flag b) e = refl
quiet_but P lists objects nodes (tree.whole z) e = refl
quiet_but P lists objects nodes tree.inexact e = refl
quiet_but P lists objects nodes (tree.text s) e = refl
quiet_but P lists objects nodes (tree.list rest) e = lists rest e
quiet_but P lists objects nodes (tree.object ms) e = objects ms e
quiet_but P lists objects nodes (tree.from_node id) e = absurd (nodes id e)
quiet_but P lists objects nodes (tree.from_parameter name) e = refl
quiet_but P lists objects nodes (tree.callback ns result) e = refl

-- a reader that reads none of these three
nothing : {A : Type 0} {v : A} → None ≡ Some v → ⊥
nothing e = absurd cc

quiet_scalar : {A : Type 0} (reader : Argument → Option A) → ((rest : ListValues) → reader (tree.list rest) ≡ None)
    → ((ms : Named) → reader (tree.object ms) ≡ None) → ((id : List ℕ) → reader (tree.from_node id) ≡ None) → IsQuiet reader
quiet_scalar reader lists objects nodes a v e =
    quiet_but (λ b. reader b ≡ Some v) (λ rest is. absurd (nothing (sym (lists rest) ∙ is)))
    (λ ms is. absurd (nothing (sym (objects ms) ∙ is))) (λ id is. nothing (sym (nodes id) ∙ is)) a e

quiet_null_or : {A : Type 0} (reader : Argument → Option A) → IsQuiet reader → IsQuiet (null_or reader)
quiet_null_or reader quiet a v e =
    quiet_but (λ b. null_or reader b ≡ Some v) (λ rest is. quiet_map reader Some quiet (tree.list rest) v is)
    (λ ms is. quiet_map reader Some quiet (tree.object ms) v is)
    (λ id is. let none : id ∷ [] ≡ [] = quiet_map reader Some quiet (tree.from_node id) v is in absurd cc) a e

quiet_each : {A : Type 0} (reader : Argument → Option A) → IsQuiet reader → (rest : ListValues) (v : List A) → each_in reader rest ≡ Some v → references_each rest ≡ []
quiet_each reader quiet tree.no_arguments v e = refl
quiet_each reader quiet (tree.argument a rest) v e =
    let b = both_found (λ x xs. x ∷ xs) (reader a) (each_in reader rest) v e in
    let one = quiet a b.0 b.2 in
    let more = quiet_each reader quiet rest b.1 b.3 in
    ap (λ refs. refs ++ references_each rest) one ∙ more

quiet_list : {A : Type 0} (reader : Argument → Option A) → IsQuiet reader → IsQuiet (list_in reader)
quiet_list reader quiet a v e =
    quiet_but (λ b. list_in reader b ≡ Some v) (λ rest is. quiet_each reader quiet rest v is)
    (λ ms is. absurd (nothing is)) (λ id is. nothing is) a e

quiet_text : IsQuiet text_in
quiet_text = quiet_scalar text_in (λ rest. refl) (λ ms. refl) (λ id. refl)

quiet_period : IsQuiet period_in
quiet_period = quiet_scalar period_in (λ rest. refl) (λ ms. refl) (λ id. refl)

quiet_callback : IsQuiet callback_in
quiet_callback = quiet_scalar callback_in (λ rest. refl) (λ ms. refl) (λ id. refl)

quiet_whole : IsQuiet whole_in
quiet_whole = quiet_scalar whole_in (λ rest. refl) (λ ms. refl) (λ id. refl)

quiet_number : IsQuiet number_in
quiet_number a v e = quiet_map whole_in _ quiet_whole a v e

quiet_literal : IsQuiet literal_in
quiet_literal = quiet_scalar literal_in (λ rest. refl) (λ ms. refl) (λ id. refl)

quiet_border : IsQuiet border_in
quiet_border = quiet_scalar border_in (λ rest. refl) (λ ms. refl) (λ id. refl)

quiet_epsg : IsQuiet epsg_in
quiet_epsg = quiet_scalar epsg_in (λ rest. refl) (λ ms. refl) (λ id. refl)

quiet_name : IsQuiet name_in
quiet_name a v e = quiet_then text_in _ quiet_text a v e

quiet_bands : IsQuiet bands_in
quiet_bands a v e = quiet_then (list_in name_in) _ (quiet_list name_in quiet_name) a v e

quiet_some_bands : IsQuiet some_bands_in
quiet_some_bands a v e = quiet_then bands_in _ quiet_bands a v e

quiet_instant : IsQuiet instant_in
quiet_instant a v e = quiet_then text_in _ quiet_text a v e

quiet_kernel : IsQuiet kernel_in
quiet_kernel a v e = quiet_then (list_in (list_in number_in)) kernel_of (quiet_list (list_in number_in) (quiet_list number_in quiet_number)) a v e

-- two ends
ends_quiet : (rest : ListValues) (v : TemporalExtent) → extent_in (tree.list rest) ≡ Some v → references_each rest ≡ []
ends_quiet tree.no_arguments v e = refl
ends_quiet (tree.argument start tree.no_arguments) v e = absurd cc
ends_quiet (tree.argument start (tree.argument end tree.no_arguments)) v e =
    let o = found (where_it is_limited) (with_both extent_from (null_or instant_in start) (null_or instant_in end)) v e in
    let b = both_found extent_from (null_or instant_in start) (null_or instant_in end) o.0 o.1 in
    let one = quiet_null_or instant_in quiet_instant start b.0 b.2 in
    let two = quiet_null_or instant_in quiet_instant end b.1 b.3 in
    ap (λ refs. refs ++ (references_in end ++ [])) one ∙ ap (λ refs. refs ++ []) two
ends_quiet (tree.argument start (tree.argument end (tree.argument more rest))) v e = absurd cc

quiet_extent : IsQuiet extent_in
quiet_extent a v e =
    quiet_but (λ b. extent_in b ≡ Some v) (λ rest is. ends_quiet rest v is) (λ ms is. absurd (nothing is)) (λ id is. nothing is) a e

-- ---- arguments by their names

module _ (arguments : Named) where
  at_read : {A : Type 0} (reader : Argument → Option A) (name : List ℕ) (v : A) → IsQuiet reader → read reader name arguments ≡ Some v → references_at arguments name ≡ []
  at_read reader name v quiet e =
      let a = found reader (argument_named name arguments) v e in
      ap (λ o. option_map_or references_in o []) a.1 ∙ quiet a.0 v a.2

  at_test : (test : Argument → Bool) (name : List ℕ) → ((a : Argument) → test a ≡ true → references_in a ≡ []) → passes test name arguments ≡ true → references_at arguments name ≡ []
  at_test test name quiet e = by (argument_named name arguments) refl e
    where
      one : (a : Argument) (b : Bool) → test a ≡ b → is_some (if b then Some a else None) ≡ true → references_in a ≡ []
      one a true is h = quiet a is
      one a false is h = absurd (false≢true h)

      by : (o : Option Argument) → argument_named name arguments ≡ o → is_some (option_and_then (λ a. if test a then Some a else None) o) ≡ true → references_at arguments name ≡ []
      by None is h = absurd (false≢true h)
      by (Some a) is h = ap (λ o. option_map_or references_in o []) is ∙ one a (test a) refl h

  -- a test that passes where the argument is missing
  at_default : (test : Argument → Bool) (name : List ℕ) → ((a : Argument) → test a ≡ true → references_in a ≡ []) → option_map_or test (argument_named name arguments) true ≡ true → references_at arguments name ≡ []
  at_default test name quiet e = by (argument_named name arguments) refl e
    where
      by : (o : Option Argument) → argument_named name arguments ≡ o → option_map_or test o true ≡ true → references_at arguments name ≡ []
      by None is h = ap (λ o. option_map_or references_in o []) is
      by (Some a) is h = ap (λ o. option_map_or references_in o []) is ∙ quiet a h

  at_crs : (n : ℕ) → crs_of arguments ≡ Some n → references_at arguments (codes "crs") ≡ []
  at_crs n e = by (argument_named (codes "crs") arguments) refl e
    where
      by : (o : Option Argument) → argument_named (codes "crs") arguments ≡ o → option_map_or epsg_in o (Some 4326) ≡ Some n → references_at arguments (codes "crs") ≡ []
      by None is h = ap (λ o. option_map_or references_in o []) is
      by (Some a) is h = ap (λ o. option_map_or references_in o []) is ∙ quiet_epsg a n h

  at_cube : (name id : List ℕ) → read cube_in name arguments ≡ Some id → references_at arguments name ≡ id ∷ []
  at_cube name id e =
      let a = found cube_in (argument_named name arguments) id e in
      ap (λ o. option_map_or references_in o []) a.1 ∙ cube_refs a.0 id a.2
    where
      cube_refs : (a : Argument) (id : List ℕ) → cube_in a ≡ Some id → references_in a ≡ id ∷ []
      cube_refs tree.null id e = absurd cc
      cube_refs (tree.flag b) id e = absurd cc
      cube_refs (tree.whole z) id e = absurd cc
      cube_refs tree.inexact id e = absurd cc
      cube_refs (tree.text s) id e = absurd cc
      cube_refs (tree.list rest) id e = absurd cc
      cube_refs (tree.object ms) id e = absurd cc
      cube_refs (tree.from_node name) id e = let same : name ≡ id = cc in ap (λ n. n ∷ []) same
      cube_refs (tree.from_parameter name) id e = absurd cc
      cube_refs (tree.callback ns result) id e = absurd cc

  -- none where each name has none
  none_in_all : (names : List (List ℕ)) → ((name : List ℕ) → Contains names name → references_at arguments name ≡ []) → references_all arguments names ≡ []
  none_in_all [] h = refl
  none_in_all (name ∷ names) h =
      ap (λ refs. refs ++ references_all arguments names) (h name (here name names))
      ∙ none_in_all names (λ other has. h other (later name names other has))

-- ---- boxes, and tests of arguments without effect

no_truth : false ≡ true → ⊥
no_truth e = absurd cc

empty_list : (rest : ListValues) → is_empty_list (tree.list rest) ≡ true → references_each rest ≡ []
empty_list tree.no_arguments h = refl
empty_list (tree.argument a rest) h = absurd cc

empty_object : (ms : Named) → is_empty_object (tree.object ms) ≡ true → references_named ms ≡ []
empty_object tree.no_named h = refl
empty_object (tree.named k a rest) h = absurd cc

null_quiet : (a : Argument) → is_null a ≡ true → references_in a ≡ []
null_quiet a h =
    quiet_but (λ b. is_null b ≡ true) (λ rest is. absurd (no_truth is)) (λ ms is. absurd (no_truth is)) (λ id is. no_truth is) a h

list_quiet : (a : Argument) → is_empty_list a ≡ true → references_in a ≡ []
list_quiet a h = quiet_but (λ b. is_empty_list b ≡ true) empty_list (λ ms is. absurd (no_truth is)) (λ id is. no_truth is) a h

object_quiet : (a : Argument) → is_empty_object a ≡ true → references_in a ≡ []
object_quiet a h = quiet_but (λ b. is_empty_object b ≡ true) (λ rest is. absurd (no_truth is)) empty_object (λ id is. no_truth is) a h

time_name_quiet : (a : Argument) → is_time_name a ≡ true → references_in a ≡ []
time_name_quiet a h = quiet_but (λ b. is_time_name b ≡ true) (λ rest is. absurd (no_truth is)) (λ ms is. absurd (no_truth is)) (λ id is. no_truth is) a h

null_or_object_quiet : (a : Argument) → is_null_or_empty_object a ≡ true → references_in a ≡ []
null_or_object_quiet a h =
    quiet_but (λ b. is_null_or_empty_object b ≡ true) (λ rest is. absurd (no_truth is)) empty_object (λ id is. no_truth is) a h

box_quiet : (members : Named) (box : BoundingBox) → is_flat_box members ≡ true → bounding_box_of members ≡ Some box → references_named members ≡ []
box_quiet members box flat e =
    let parts = and_parts _ _ flat in
    let named = and_parts _ _ parts.0 in
    let named_so = and_parts _ _ named.0 in
    let west = found _ (side_of (codes "west") members) box e in
    let south = found _ (side_of (codes "south") members) box west.2 in
    let east = found _ (side_of (codes "east") members) box south.2 in
    let north = found _ (side_of (codes "north") members) box east.2 in
    let crs = mapped _ (crs_of members) box north.2 in
    let at_west = at_read members whole_in (codes "west") west.0 quiet_whole west.1 in
    let at_south = at_read members whole_in (codes "south") south.0 quiet_whole south.1 in
    let at_east = at_read members whole_in (codes "east") east.0 quiet_whole east.1 in
    let at_north = at_read members whole_in (codes "north") north.0 quiet_whole north.1 in
    let crs_none = at_crs members crs.0 crs.1 in
    let base = at_default members is_null (codes "base") null_quiet named.1 in
    let height = at_default members is_null (codes "height") null_quiet parts.1 in
    let each = λ (name : List ℕ) (has : Contains box_members name). one_of name has.0 has.1 has.2 at_west at_south at_east at_north crs_none base height in
    one_by_one members named_so.1
    ∙ none_in_all members (names_of members) (λ name has. each name (among_has (names_of members) box_members named_so.0 name has))
  where
    one_of : (name : List ℕ) (k : ℕ) → k < length box_members → slice_index_or box_members k name ≡ name
        → references_at members (codes "west") ≡ [] → references_at members (codes "south") ≡ [] → references_at members (codes "east") ≡ []
        → references_at members (codes "north") ≡ [] → references_at members (codes "crs") ≡ [] → references_at members (codes "base") ≡ []
        → references_at members (codes "height") ≡ [] → references_at members name ≡ []
    one_of name zero below is a b c d e f g = subst (λ n. references_at members n ≡ []) is a
    one_of name (suc zero) below is a b c d e f g = subst (λ n. references_at members n ≡ []) is b
    one_of name (suc (suc zero)) below is a b c d e f g = subst (λ n. references_at members n ≡ []) is c
    one_of name (suc (suc (suc zero))) below is a b c d e f g = subst (λ n. references_at members n ≡ []) is d
    one_of name (suc (suc (suc (suc zero)))) below is a b c d e f g = subst (λ n. references_at members n ≡ []) is e
    one_of name (suc (suc (suc (suc (suc zero))))) below is a b c d e f g = subst (λ n. references_at members n ≡ []) is f
    one_of name (suc (suc (suc (suc (suc (suc zero)))))) below is a b c d e f g = subst (λ n. references_at members n ≡ []) is g
    one_of name (suc (suc (suc (suc (suc (suc (suc k))))))) below is a b c d e f g = absurd (omega arith)

members_quiet : (ms : Named) (v : BoundingBox) → box_in (tree.object ms) ≡ Some v → references_named ms ≡ []
members_quiet ms v e = by (is_flat_box ms) refl e
  where
    by : (b : Bool) → is_flat_box ms ≡ b → (if b then option_and_then (where_it is_box) (bounding_box_of ms) else None) ≡ Some v → references_named ms ≡ []
    by true flat e = let o = found (where_it is_box) (bounding_box_of ms) v e in box_quiet ms o.0 flat o.1
    by false flat e = absurd cc

quiet_box : IsQuiet box_in
quiet_box a v e =
    quiet_but (λ b. box_in b ≡ Some v) (λ rest is. absurd (nothing is)) (λ ms is. members_quiet ms v is) (λ id is. nothing is) a e

-- ---- the parameters of each process

abbrev pub id_of : CubeProcess → List ℕ
id_of AggregateTemporal = codes "aggregate_temporal"
id_of AggregateTemporalPeriod = codes "aggregate_temporal_period"
id_of Apply = codes "apply"
id_of ApplyDimension = codes "apply_dimension"
id_of ApplyKernel = codes "apply_kernel"
id_of FilterBands = codes "filter_bands"
id_of FilterBbox = codes "filter_bbox"
id_of FilterTemporal = codes "filter_temporal"
id_of LoadCollection = codes "load_collection"
id_of Mask = codes "mask"
id_of MergeCubes = codes "merge_cubes"
id_of ReduceDimension = codes "reduce_dimension"
id_of SaveResult = codes "save_result"

-- in byte order of their names
abbrev parameters_of : CubeProcess → List (List ℕ)
parameters_of AggregateTemporal = codes "context" ∷ codes "data" ∷ codes "dimension" ∷ codes "intervals" ∷ codes "labels" ∷ codes "reducer" ∷ []
parameters_of AggregateTemporalPeriod = codes "context" ∷ codes "data" ∷ codes "dimension" ∷ codes "period" ∷ codes "reducer" ∷ []
parameters_of Apply = codes "context" ∷ codes "data" ∷ codes "process" ∷ []
parameters_of ApplyDimension = codes "context" ∷ codes "data" ∷ codes "dimension" ∷ codes "process" ∷ codes "target_dimension" ∷ []
parameters_of ApplyKernel = codes "border" ∷ codes "data" ∷ codes "factor" ∷ codes "kernel" ∷ codes "replace_invalid" ∷ []
parameters_of FilterBands = codes "bands" ∷ codes "data" ∷ codes "wavelengths" ∷ []
parameters_of FilterBbox = codes "data" ∷ codes "extent" ∷ []
parameters_of FilterTemporal = codes "data" ∷ codes "dimension" ∷ codes "extent" ∷ []
parameters_of LoadCollection = codes "bands" ∷ codes "id" ∷ codes "properties" ∷ codes "spatial_extent" ∷ codes "temporal_extent" ∷ []
parameters_of Mask = codes "data" ∷ codes "mask" ∷ codes "replacement" ∷ []
parameters_of MergeCubes = codes "context" ∷ codes "cube1" ∷ codes "cube2" ∷ codes "overlap_resolver" ∷ []
parameters_of ReduceDimension = codes "context" ∷ codes "data" ∷ codes "dimension" ∷ codes "reducer" ∷ []
parameters_of SaveResult = codes "data" ∷ codes "format" ∷ codes "options" ∷ []

parameters_rise : (process : CubeProcess) → names_rise (parameters_of process) ≡ true
parameters_rise AggregateTemporal = refl
parameters_rise AggregateTemporalPeriod = refl
parameters_rise Apply = refl
parameters_rise ApplyDimension = refl
parameters_rise ApplyKernel = refl
parameters_rise FilterBands = refl
parameters_rise FilterBbox = refl
parameters_rise FilterTemporal = refl
parameters_rise LoadCollection = refl
parameters_rise Mask = refl
parameters_rise MergeCubes = refl
parameters_rise ReduceDimension = refl
parameters_rise SaveResult = refl

-- the catalogue has these parameters and no others
abbrev has_these : CubeProcess → Process → Bool
has_these process p =
    are_among same_name (parameters_of process) (parameter_names p) && are_among same_name (parameter_names p) (parameters_of process)

catalogue_has : (process : CubeProcess) → option_map_or (has_these process) (process_named (id_of process)) false ≡ true
catalogue_has AggregateTemporal = refl
catalogue_has AggregateTemporalPeriod = refl
catalogue_has Apply = refl
catalogue_has ApplyDimension = refl
catalogue_has ApplyKernel = refl
catalogue_has FilterBands = refl
catalogue_has FilterBbox = refl
catalogue_has FilterTemporal = refl
catalogue_has LoadCollection = refl
catalogue_has Mask = refl
catalogue_has MergeCubes = refl
catalogue_has ReduceDimension = refl
catalogue_has SaveResult = refl

abbrev pub AreNamed : List NamedProcess → Type 0
AreNamed [] = ⊤
AreNamed (p ∷ others) = (id_of p.1 ≡ p.0) × AreNamed others

pub all_named : AreNamed cube_processes
all_named = (refl, (refl, (refl, (refl, (refl, (refl, (refl, (refl, (refl, (refl, (refl, (refl, (refl, tt)))))))))))))

pub id_is : (id : List ℕ) (processes : List NamedProcess) (process : CubeProcess) → AreNamed processes → process_among id processes ≡ Some process → id ≡ id_of process
id_is id [] process named e = absurd cc
id_is id (p ∷ others) process named e = by (same_name p.0 id) refl e (id_is id others process named.1)
  where
    by : (b : Bool) → same_name p.0 id ≡ b → (if b then Some p.1 else process_among id others) ≡ Some process
        → (process_among id others ≡ Some process → id ≡ id_of process) → id ≡ id_of process
    by true t e more =
        let same : p.1 ≡ process = cc in
        same_name_is p.0 id t ∙ (sym named.0 ∙ ap id_of same)
    by false f e more = more e

has_parameters : (id : List ℕ) (process : CubeProcess) (p : Process) → cube_process_named id ≡ Some process → process_named id ≡ Some p → has_these process p ≡ true
has_parameters id process p named row =
    let is = id_is id cube_processes process all_named named in
    sym (ap (λ o. option_map_or (has_these process) o false) (ap process_named (sym is) ∙ row)) ∙ catalogue_has process

-- ---- the references at the parameters of each process

module _ (given : Named) where
  none_then : (name : List ℕ) (names refs : List (List ℕ)) → references_at given name ≡ [] → references_all given names ≡ refs → references_all given (name ∷ names) ≡ refs
  none_then name names refs one rest = ap (λ first. first ++ references_all given names) one ∙ rest

  one_then : (name id : List ℕ) (names refs : List (List ℕ)) → references_at given name ≡ id ∷ [] → references_all given names ≡ refs → references_all given (name ∷ names) ≡ id ∷ refs
  one_then name id names refs one rest =
      ap (λ first. first ++ references_all given names) one ∙ ap (λ more. id ∷ more) rest

  abbrev AreCubes : CubeProcess → CubeRequest → Type 0
  AreCubes process r = references_all given (parameters_of process) ≡ cube_ids r

  load_references : (r : CubeRequest) → cube_request_of LoadCollection given ≡ Some r → AreCubes LoadCollection r
  load_references r e =
      let p = passed_so (passes is_null_or_empty_object (codes "properties") given) _ r e in
      let id = found _ (read text_in (codes "id") given) r p.1 in
      let box = found _ (read (null_or box_in) (codes "spatial_extent") given) r id.2 in
      let b = both_found (load_collection id.0 box.0) (read (null_or extent_in) (codes "temporal_extent") given) (read (null_or some_bands_in) (codes "bands") given) r box.2 in
      let bands_at = at_read given (null_or some_bands_in) (codes "bands") b.1 (quiet_null_or some_bands_in quiet_some_bands) b.3 in
      let id_at = at_read given text_in (codes "id") id.0 quiet_text id.1 in
      let properties_at = at_test given is_null_or_empty_object (codes "properties") null_or_object_quiet p.0 in
      let box_at = at_read given (null_or box_in) (codes "spatial_extent") box.0 (quiet_null_or box_in quiet_box) box.1 in
      let time_at = at_read given (null_or extent_in) (codes "temporal_extent") b.0 (quiet_null_or extent_in quiet_extent) b.2 in
      rw (bands_at, id_at, properties_at, box_at, time_at) (ap cube_ids {x = load_collection id.0 box.0 b.0 b.1} b.4)

  bbox_references : (r : CubeRequest) → cube_request_of FilterBbox given ≡ Some r → AreCubes FilterBbox r
  bbox_references r e =
      let b = both_found filter_bbox (read cube_in (codes "data") given) (read box_in (codes "extent") given) r e in
      let data_at = at_cube given (codes "data") b.0 b.2 in
      let extent_at = at_read given box_in (codes "extent") b.1 quiet_box b.3 in
      rw (data_at, extent_at) (ap cube_ids b.4)

  temporal_references : (r : CubeRequest) → cube_request_of FilterTemporal given ≡ Some r → AreCubes FilterTemporal r
  temporal_references r e =
      let d = found _ (read cube_in (codes "data") given) r e in
      let b = both_found (filter_temporal d.0) (read extent_in (codes "extent") given) (read (null_or text_in) (codes "dimension") given) r d.2 in
      let data_at = at_cube given (codes "data") d.0 d.1 in
      let dimension_at = at_read given (null_or text_in) (codes "dimension") b.1 (quiet_null_or text_in quiet_text) b.3 in
      let extent_at = at_read given extent_in (codes "extent") b.0 quiet_extent b.2 in
      rw (data_at, dimension_at, extent_at) (ap cube_ids b.4)

  bands_references : (r : CubeRequest) → cube_request_of FilterBands given ≡ Some r → AreCubes FilterBands r
  bands_references r e =
      let p = passed_so (passes is_empty_list (codes "wavelengths") given) _ r e in
      let b = both_found filter_bands (read cube_in (codes "data") given) (read bands_in (codes "bands") given) r p.1 in
      let bands_at = at_read given bands_in (codes "bands") b.1 quiet_bands b.3 in
      let data_at = at_cube given (codes "data") b.0 b.2 in
      let wavelengths_at = at_test given is_empty_list (codes "wavelengths") list_quiet p.0 in
      rw (bands_at, data_at, wavelengths_at) (ap cube_ids b.4)

  apply_references : (r : CubeRequest) → cube_request_of Apply given ≡ Some r → AreCubes Apply r
  apply_references r e =
      let b = both_found apply (read cube_in (codes "data") given) (called_in (codes "process") given) r e in
      let c = both_found called (read callback_in (codes "process") given) (read literal_in (codes "context") given) b.1 b.3 in
      let context_at = at_read given literal_in (codes "context") c.1 quiet_literal c.3 in
      let data_at = at_cube given (codes "data") b.0 b.2 in
      let process_at = at_read given callback_in (codes "process") c.0 quiet_callback c.2 in
      rw (context_at, data_at, process_at) (ap cube_ids b.4)

  kernel_references : (r : CubeRequest) → cube_request_of ApplyKernel given ≡ Some r → AreCubes ApplyKernel r
  kernel_references r e =
      let d = found _ (read cube_in (codes "data") given) r e in
      let k = found _ (read kernel_in (codes "kernel") given) r d.2 in
      let f = found _ (read number_in (codes "factor") given) r k.2 in
      let b = both_found (apply_kernel d.0 k.0 f.0) (read border_in (codes "border") given) (read number_in (codes "replace_invalid") given) r f.2 in
      let border_at = at_read given border_in (codes "border") b.0 quiet_border b.2 in
      let data_at = at_cube given (codes "data") d.0 d.1 in
      let factor_at = at_read given number_in (codes "factor") f.0 quiet_number f.1 in
      let kernel_at = at_read given kernel_in (codes "kernel") k.0 quiet_kernel k.1 in
      let replace_at = at_read given number_in (codes "replace_invalid") b.1 quiet_number b.3 in
      rw (border_at, data_at, factor_at, kernel_at, replace_at) (ap cube_ids b.4)

  reduce_references : (r : CubeRequest) → cube_request_of ReduceDimension given ≡ Some r → AreCubes ReduceDimension r
  reduce_references r e =
      let d = found _ (read cube_in (codes "data") given) r e in
      let b = both_found (reduce_dimension d.0) (read text_in (codes "dimension") given) (called_in (codes "reducer") given) r d.2 in
      let c = both_found called (read callback_in (codes "reducer") given) (read literal_in (codes "context") given) b.1 b.3 in
      let context_at = at_read given literal_in (codes "context") c.1 quiet_literal c.3 in
      let data_at = at_cube given (codes "data") d.0 d.1 in
      let dimension_at = at_read given text_in (codes "dimension") b.0 quiet_text b.2 in
      let reducer_at = at_read given callback_in (codes "reducer") c.0 quiet_callback c.2 in
      rw (context_at, data_at, dimension_at, reducer_at) (ap cube_ids b.4)

  aggregate_references : (r : CubeRequest) → cube_request_of AggregateTemporal given ≡ Some r → AreCubes AggregateTemporal r
  aggregate_references r e =
      let d = found _ (read cube_in (codes "data") given) r e in
      let i = found _ (intervals_in given) r d.2 in
      let x = found _ (read (list_in extent_in) (codes "intervals") given) i.0 i.1 in
      let l = found _ (read (list_in instant_in) (codes "labels") given) i.0 x.2 in
      let b = both_found (aggregate_temporal d.0 i.0) (read (null_or text_in) (codes "dimension") given) (called_in (codes "reducer") given) r i.2 in
      let c = both_found called (read callback_in (codes "reducer") given) (read literal_in (codes "context") given) b.1 b.3 in
      let context_at = at_read given literal_in (codes "context") c.1 quiet_literal c.3 in
      let data_at = at_cube given (codes "data") d.0 d.1 in
      let dimension_at = at_read given (null_or text_in) (codes "dimension") b.0 (quiet_null_or text_in quiet_text) b.2 in
      let intervals_at = at_read given (list_in extent_in) (codes "intervals") x.0 (quiet_list extent_in quiet_extent) x.1 in
      let labels_at = at_read given (list_in instant_in) (codes "labels") l.0 (quiet_list instant_in quiet_instant) l.1 in
      let reducer_at = at_read given callback_in (codes "reducer") c.0 quiet_callback c.2 in
      rw (context_at, data_at, dimension_at, intervals_at, labels_at, reducer_at) (ap cube_ids b.4)

  period_references : (r : CubeRequest) → cube_request_of AggregateTemporalPeriod given ≡ Some r → AreCubes AggregateTemporalPeriod r
  period_references r e =
      let d = found _ (read cube_in (codes "data") given) r e in
      let p = found _ (read period_in (codes "period") given) r d.2 in
      let b = both_found (aggregate_temporal_period d.0 p.0) (read (null_or text_in) (codes "dimension") given) (called_in (codes "reducer") given) r p.2 in
      let c = both_found called (read callback_in (codes "reducer") given) (read literal_in (codes "context") given) b.1 b.3 in
      let context_at = at_read given literal_in (codes "context") c.1 quiet_literal c.3 in
      let data_at = at_cube given (codes "data") d.0 d.1 in
      let dimension_at = at_read given (null_or text_in) (codes "dimension") b.0 (quiet_null_or text_in quiet_text) b.2 in
      let period_at = at_read given period_in (codes "period") p.0 quiet_period p.1 in
      let reducer_at = at_read given callback_in (codes "reducer") c.0 quiet_callback c.2 in
      rw (context_at, data_at, dimension_at, period_at, reducer_at) (ap cube_ids b.4)

  dimension_references : (r : CubeRequest) → cube_request_of ApplyDimension given ≡ Some r → AreCubes ApplyDimension r
  dimension_references r e =
      let t = passed_so (passes is_time_name (codes "dimension") given) _ r e in
      let u = passed_so (passes is_null (codes "target_dimension") given) _ r t.1 in
      let c = found _ (read literal_in (codes "context") given) r u.1 in
      let b = both_found apply_dimension (read cube_in (codes "data") given) (read callback_in (codes "process") given) r c.2 in
      let context_at = at_read given literal_in (codes "context") c.0 quiet_literal c.1 in
      let data_at = at_cube given (codes "data") b.0 b.2 in
      let dimension_at = at_test given is_time_name (codes "dimension") time_name_quiet t.0 in
      let process_at = at_read given callback_in (codes "process") b.1 quiet_callback b.3 in
      let target_at = at_test given is_null (codes "target_dimension") null_quiet u.0 in
      rw (context_at, data_at, dimension_at, process_at, target_at) (ap cube_ids b.4)

  merge_references : (r : CubeRequest) → cube_request_of MergeCubes given ≡ Some r → AreCubes MergeCubes r
  merge_references r e =
      let one = found _ (read cube_in (codes "cube1") given) r e in
      let b = both_found (merge_cubes one.0) (read cube_in (codes "cube2") given) (resolver_in given) r one.2 in
      let s = both_found _ (read (null_or callback_in) (codes "overlap_resolver") given) (read literal_in (codes "context") given) b.1 b.3 in
      let context_at = at_read given literal_in (codes "context") s.1 quiet_literal s.3 in
      let first_at = at_cube given (codes "cube1") one.0 one.1 in
      let second_at = at_cube given (codes "cube2") b.0 b.2 in
      let resolver_at = at_read given (null_or callback_in) (codes "overlap_resolver") s.0 (quiet_null_or callback_in quiet_callback) s.2 in
      rw (context_at, first_at, second_at, resolver_at) (ap cube_ids b.4)

  mask_references : (r : CubeRequest) → cube_request_of Mask given ≡ Some r → AreCubes Mask r
  mask_references r e =
      let d = found _ (read cube_in (codes "data") given) r e in
      let b = both_found (mask d.0) (read cube_in (codes "mask") given) (read literal_in (codes "replacement") given) r d.2 in
      let data_at = at_cube given (codes "data") d.0 d.1 in
      let mask_at = at_cube given (codes "mask") b.0 b.2 in
      let replacement_at = at_read given literal_in (codes "replacement") b.1 quiet_literal b.3 in
      rw (data_at, mask_at, replacement_at) (ap cube_ids b.4)

  save_references : (r : CubeRequest) → cube_request_of SaveResult given ≡ Some r → AreCubes SaveResult r
  save_references r e =
      let p = passed_so (passes is_empty_object (codes "options") given) _ r e in
      let b = both_found save_result (read cube_in (codes "data") given) (read text_in (codes "format") given) r p.1 in
      let data_at = at_cube given (codes "data") b.0 b.2 in
      let format_at = at_read given text_in (codes "format") b.1 quiet_text b.3 in
      let options_at = at_test given is_empty_object (codes "options") object_quiet p.0 in
      rw (data_at, format_at, options_at) (ap cube_ids b.4)

  process_references : (process : CubeProcess) (r : CubeRequest) → cube_request_of process given ≡ Some r → AreCubes process r
  process_references AggregateTemporal r e = aggregate_references r e
  process_references AggregateTemporalPeriod r e = period_references r e
  process_references Apply r e = apply_references r e
  process_references ApplyDimension r e = dimension_references r e
  process_references ApplyKernel r e = kernel_references r e
  process_references FilterBands r e = bands_references r e
  process_references FilterBbox r e = bbox_references r e
  process_references FilterTemporal r e = temporal_references r e
  process_references LoadCollection r e = load_references r e
  process_references Mask r e = mask_references r e
  process_references MergeCubes r e = merge_references r e
  process_references ReduceDimension r e = reduce_references r e
  process_references SaveResult r e = save_references r e

-- ---- at a node

pub references_are : (ids : List (List ℕ)) (n : PlainNode) (r : CubeRequest) → IsResolvedNode false [] ids n → cube_request_at n ≡ Some r
    → references_named n.arguments ≡ cube_ids r
references_are ids n r is e =
    let process = found _ (cube_process_named n.process_id) r e in
    let these = and_parts _ _ (has_parameters n.process_id process.0 is.process process.1 is.is_process) in
    let listed : names_of n.arguments ≡ parameters_of process.0 =
    same_names (names_of n.arguments) (parameters_of process.0) is.names_rise (parameters_rise process.0)
    (λ name has. among_has (parameter_names is.process) (parameters_of process.0) these.0 name (is.has_no_other name has))
    (λ name has. is.has_each name (among_has (parameters_of process.0) (parameter_names is.process) these.1 name has)) in
    one_by_one n.arguments (rising_differ (names_of n.arguments) is.names_rise)
    ∙ (ap (references_all n.arguments) listed ∙ process_references n.arguments process.0 r process.2)
