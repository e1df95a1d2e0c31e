-- How deep a part of a value is, and what a definition by members finds.
use Rattle.std.proofs.Common.{◌≡◌, ℕ, suc, max, ◌<◌, ◌≤◌, ◌+◌, List, [], ◌∷◌, ◌++◌, codes, refl, sym, ap, ◌∙◌, subst, Option, Some, None, Ordering, Less, Equal, Greater, nat_cmp, is_eq, Bool, true, false, if◌then◌else◌, option_and_then, arith}
use Rattle.std.specs.Cmp.Lexicographic.{slice_cmp}
use Rattle.std.specs.Ordering.{match_ordering}
use Rattle.serde_json.specs.Data.{Data, null, boolean, number, string, array, object, Members, no_members, member, depth, members_depth}
use Rattle.serde_json.specs.Find.{get, get_member, as_object}
use Rattle.serde_json.specs.View.{view, members_view}
use Rattle.serde_json.proofs.Views.{Entry}
use Rattle.oe_graph.specs.Form.{IsMember, first, later}

either : (o : Ordering) (d e : Data) (rest : Option Data) (n : ℕ)
    → match_ordering o rest (Some d) rest ≡ Some e → depth d ≤ n → (rest ≡ Some e → depth e ≤ n) → depth e ≤ n
either Less d e rest n is here there = there is
either Equal d e rest n is here there = let same : d ≡ e = cc in subst (λ x. depth x ≤ n) same here
either Greater d e rest n is here there = there is

pub member_depth : (k : List ℕ) (ms : Members) (e : Data) → get_member k ms ≡ Some e → depth e ≤ members_depth ms
member_depth k no_members e is = absurd cc
member_depth k (member l d ms) e is =
    either (slice_cmp nat_cmp k l) d e (get_member k ms) _ is (omega arith) (λ rest. let below = member_depth k ms e rest in omega arith)

-- an object in a member of an object is two levels further down
found_depth : (k : List ℕ) (d : Data) (ms : Members) (o : Option Data)
    → get k d ≡ o → option_and_then as_object o ≡ Some ms → members_depth ms + 2 ≤ depth d
found_depth k d ms None g is = absurd cc
found_depth k null ms (Some e) g is = absurd cc
found_depth k (boolean b) ms (Some e) g is = absurd cc
found_depth k (number n) ms (Some e) g is = absurd cc
found_depth k (string s) ms (Some e) g is = absurd cc
found_depth k (array ds) ms (Some e) g is = absurd cc
found_depth k (object ns) ms (Some null) g is = absurd cc
found_depth k (object ns) ms (Some (boolean b)) g is = absurd cc
found_depth k (object ns) ms (Some (number n)) g is = absurd cc
found_depth k (object ns) ms (Some (string s)) g is = absurd cc
found_depth k (object ns) ms (Some (array ds)) g is = absurd cc
found_depth k (object ns) ms (Some (object xs)) g is =
    let same : xs ≡ ms = cc in
    let below : suc (members_depth ms) ≤ members_depth ns = subst (λ y. suc (members_depth y) ≤ members_depth ns) same (member_depth k ns (object xs) g) in
    omega arith

pub inner_depth : (k : List ℕ) (d : Data) (ms : Members) → option_and_then as_object (get k d) ≡ Some ms → members_depth ms + 2 ≤ depth d
inner_depth k d ms is = found_depth k d ms (get k d) refl is

-- a member is no deeper than the object's deepest
pub member_depth_of : {k : List ℕ} {d : Data} {ms : Members} → IsMember k d ms → depth d ≤ members_depth ms
member_depth_of first = omega arith
member_depth_of (later m) = let below = member_depth_of m in omega arith

pub entry_depth : (done : List Entry) (e : Entry) (rest : List Entry) → depth (view e.1) ≤ members_depth (members_view (done ++ e ∷ rest))
entry_depth [] e rest = omega arith
entry_depth (x ∷ done) e rest = let below = entry_depth done e rest in omega arith

-- an entry among the others
pub within : (all done : List Entry) (e : Entry) (left : List Entry) → all ≡ done ++ e ∷ left → depth (view e.1) ≤ members_depth (members_view all)
within all done e left is = subst (λ es. depth (view e.1) ≤ members_depth (members_view es)) (sym is) (entry_depth done e left)
