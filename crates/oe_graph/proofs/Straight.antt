-- Members that are put in byte order of their names stand one after the other.
use Rattle.std.proofs.Common.{◌≡◌, ℕ, suc, ◌==◌, List, [], ◌∷◌, true, Less, Greater, refl, ap, ◌∙◌}
use Rattle.std.proofs.lemmas.Bool.{and_parts}
use Rattle.std.proofs.lemmas.Cmp.{nat_list_cmp_total}
use Rattle.std.specs.Ordering.{nat_cmp, ordering_reverse}
use Rattle.std.specs.Cmp.Lexicographic.{slice_cmp}
use Rattle.serde_json.specs.Data.{Data, Members, no_members, member, put}
use Rattle.oe_dims.specs.Names.{is_name_before, names_rise}
use Rattle.oe_dims.proofs.NameOrderLemmas.{before_trans, is_less}
use Rattle.oe_graph.specs.Tree as tree
use Rattle.oe_graph.specs.Tree.{Named, Nodes}
use Rattle.oe_graph.specs.Printed.{argument_data, named_data, nodes_data, node_data, names_of, ids_of}

-- members after others
abbrev pub append : Members → Members → Members
append no_members more = more
append (member k d ms) more = member k d (append ms more)

append_one : (ms : Members) (k : List ℕ) (d : Data) (more : Members)
    → append (append ms (member k d no_members)) more ≡ append ms (member k d more)
append_one no_members k d more = refl
append_one (member l e ms) k d more = ap (member l e) (append_one ms k d more)

append_none : (ms : Members) → ms ≡ append ms no_members
append_none no_members = refl
append_none (member l e ms) = ap (member l e) (append_none ms)

-- ---- the order of names

before : (a b : List ℕ) → is_name_before a b ≡ true → slice_cmp nat_cmp a b ≡ Less
before a b h = is_less (slice_cmp nat_cmp a b) h

after : (a b : List ℕ) → is_name_before a b ≡ true → slice_cmp nat_cmp b a ≡ Greater
after a b h = nat_list_cmp_total.antisymm b a ∙ ap ordering_reverse (before a b h)

-- each name stands before this one
abbrev AllBefore : List ℕ → Members → Type 0
AllBefore k no_members = Unit {0}
AllBefore k (member l e ms) = (is_name_before l k ≡ true) × AllBefore k ms

put_end : (k : List ℕ) (d : Data) (ms : Members) → AllBefore k ms → put k d ms ≡ append ms (member k d no_members)
put_end k d no_members h = refl
put_end k d (member l e ms) h = rw (after l k h.0) (ap (member l e) (put_end k d ms h.1))

later_before : (k m : List ℕ) (d : Data) (ms : Members) → is_name_before k m ≡ true → AllBefore k ms
    → AllBefore m (append ms (member k d no_members))
later_before k m d no_members p h = (p, tt)
later_before k m d (member l e ms) p h = (before_trans l k m h.0 p, later_before k m d ms p h.1)

-- each name stands before the first of these
abbrev FirstAfter : List (List ℕ) → Members → Type 0
FirstAfter [] ms = Unit {0}
FirstAfter (k ∷ names) ms = AllBefore k ms

next_after : (k : List ℕ) (d : Data) (names : List (List ℕ)) (ms : Members) → names_rise (k ∷ names) ≡ true → AllBefore k ms
    → FirstAfter names (append ms (member k d no_members))
next_after k d [] ms rise h = tt
next_after k d (m ∷ names) ms rise h = later_before k m d ms (and_parts _ _ rise).0 h

rest_rises : (k : List ℕ) (names : List (List ℕ)) → names_rise (k ∷ names) ≡ true → names_rise names ≡ true
rest_rises k [] rise = refl
rest_rises k (m ∷ names) rise = (and_parts _ _ rise).1

-- ---- the members of an object and of a graph object, one after the other

abbrev pub named_list : Named → Members
named_list tree.no_named = no_members
named_list (tree.named name a rest) = member name (argument_data a) (named_list rest)

abbrev pub nodes_list : ℕ → ℕ → Nodes → Members
nodes_list index result tree.no_nodes = no_members
nodes_list index result (tree.node id process_id namespace arguments rest) =
    member id (node_data (named_data arguments no_members) namespace process_id (index == result)) (nodes_list (suc index) result rest)

named_after : (ms : Named) (found : Members) → names_rise (names_of ms) ≡ true → FirstAfter (names_of ms) found
    → named_data ms found ≡ append found (named_list ms)
named_after tree.no_named found rise h = append_none found
named_after (tree.named name a rest) found rise h =
    let d = argument_data a in
    ap (named_data rest) (put_end name d found h)
    ∙ (named_after rest (append found (member name d no_members)) (rest_rises name (names_of rest) rise) (next_after name d (names_of rest) found rise h)
    ∙ append_one found name d (named_list rest))

first_after_none : (names : List (List ℕ)) → FirstAfter names no_members
first_after_none [] = tt
first_after_none (k ∷ names) = tt

pub named_straight : (ms : Named) → names_rise (names_of ms) ≡ true → named_data ms no_members ≡ named_list ms
named_straight ms rise = named_after ms no_members rise (first_after_none (names_of ms))

nodes_after : (index result : ℕ) (ns : Nodes) (found : Members) → names_rise (ids_of ns) ≡ true → FirstAfter (ids_of ns) found
    → nodes_data index result ns found ≡ append found (nodes_list index result ns)
nodes_after index result tree.no_nodes found rise h = append_none found
nodes_after index result (tree.node id process_id namespace arguments rest) found rise h =
    let d = node_data (named_data arguments no_members) namespace process_id (index == result) in
    ap (nodes_data (suc index) result rest) (put_end id d found h)
    ∙ (nodes_after (suc index) result rest (append found (member id d no_members)) (rest_rises id (ids_of rest) rise)
    (next_after id d (ids_of rest) found rise h)
    ∙ append_one found id d (nodes_list (suc index) result rest))

pub nodes_straight : (index result : ℕ) (ns : Nodes) → names_rise (ids_of ns) ≡ true
    → nodes_data index result ns no_members ≡ nodes_list index result ns
nodes_straight index result ns rise = nodes_after index result ns no_members rise (first_after_none (ids_of ns))
