-- What is read from a text stands in the form that reading gives, and so does what stands in it.
use Rattle.std.proofs.Common.{◌≡◌, ℕ, zero, suc, pos, neg_ℤ, ◌≤◌, ◌&&◌, ◌^◌, ◌==◌, nat_lt, nat_le, List, ◌∷◌, slice_index, drop, codes, Float, Bool, true, false, if◌then◌else◌, Option, Some, None, IfSome, option_map, option_and_then, Ordering, Less, Equal, Greater, refl, ap, ◌∙◌, subst, arith}
use Rattle.std.specs.Cmp.Lexicographic.{slice_cmp}
use Rattle.std.specs.Ordering.{nat_cmp, is_lt, ordering_reverse, match_ordering}
use Rattle.std.proofs.lemmas.Bool.{and_parts, and_from, false≢true, leb-true, lt-ltb}
use Rattle.std.proofs.lemmas.Cmp.{nat_list_cmp_total}
use Rattle.fast_float.specs.Text.{Parts, minus, scan}
use Rattle.json.specs.Json as json
use Rattle.json.specs.Lex.{tokens}
use Rattle.serde_json.specs.Data.{Num, negative, float, Data, null, boolean, number, string, array, object, Items, no_items, item, Members, no_members, member, put}
use Rattle.serde_json.specs.Find.{get, get_member, as_object}
use Rattle.serde_json.specs.Read.{number_of, number_from, float_of, is_integer, of_json, of_items, of_members, max_depth, read}
use Rattle.oe_dims.specs.Names.{is_name_before, names_rise}
use Rattle.oe_graph.specs.AsRead.{is_number_as_read, member_names, is_as_read, are_as_read, members_as_read}
use Rattle.oe_graph.specs.Form.{nodes_in}

abbrev Passes : {A : Type 0} → (A → Bool) → Option A → Type 0
Passes test o = IfSome o (λ a. test a ≡ true)

mapped : {A B : Type 0} (p : A → Bool) (q : B → Bool) (f : A → B) (o : Option A)
    → ((a : A) → p a ≡ true → q (f a) ≡ true)
    → Passes p o → Passes q (option_map f o)
mapped p q f None keeps h = tt
mapped p q f (Some a) keeps h = keeps a h

-- ---- numbers

-- of a number's parts, whatever they are: a float, or a whole number in range
float_if : (finite : Bool) (x : Float) → Passes is_number_as_read (if finite then Some (float x) else None)
float_if true x = refl
float_if false x = tt

float_passes : (sign : Bool) (p : Parts) → Passes is_number_as_read (float_of sign p)
float_passes sign p = float_if _ _

below_sign : (n : ℕ) → nat_lt 0 n ≡ true → nat_le n (2 ^ 63) ≡ true
    → is_number_as_read (negative (neg_ℤ (pos n))) ≡ true
below_sign zero some fits = absurd (false≢true some)
below_sign (suc n) some fits = let within : suc n ≤ 2 ^ 63 = leb-true _ _ fits in lt-ltb n (2 ^ 63) (omega arith)

either : (b : Bool) (n : Num) (o : Option Num) → (b ≡ true → is_number_as_read n ≡ true) → Passes is_number_as_read o
    → Passes is_number_as_read (if b then Some n else o)
either true n o whole h = whole refl
either false n o whole h = h

signed_from : (whole : Bool) (n : ℕ) → (whole && nat_lt 0 n && nat_le n (2 ^ 63)) ≡ true
    → is_number_as_read (negative (neg_ℤ (pos n))) ≡ true
signed_from whole n is =
    let parts = and_parts (whole && nat_lt 0 n) (nat_le n (2 ^ 63)) is in
    below_sign n (and_parts whole (nat_lt 0 n) parts.0).1 parts.1

number_from_passes : (sign : Bool) (p : Parts) → Passes is_number_as_read (number_from sign p)
number_from_passes false p = either _ _ _ (λ _. refl) (float_passes false p)
number_from_passes true p = either _ _ _ (signed_from (is_integer p) _) (float_passes true p)

by_sign : (b : Bool) (p q : Parts) → Passes is_number_as_read (if b then number_from true p else number_from false q)
by_sign true p q = number_from_passes true p
by_sign false p q = number_from_passes false q

number_passes : (s : List ℕ) → Passes is_number_as_read (number_of s)
unfolding number_of
number_passes s = by_sign (slice_index s 0 == minus) (scan (drop 1 s)) (scan s)

-- ---- objects

before_from : (a b : List ℕ) → slice_cmp nat_cmp b a ≡ Greater → is_name_before a b ≡ true
before_from a b h = ap is_lt (nat_list_cmp_total.antisymm a b ∙ ap ordering_reverse h)

rise_at : (o : Ordering) (l k m : List ℕ) (d e : Data) (ms : Members) → slice_cmp nat_cmp k m ≡ o
    → is_name_before l k ≡ true → names_rise (l ∷ m ∷ member_names ms) ≡ true
    → (is_name_before m k ≡ true → names_rise (m ∷ member_names (put k d ms)) ≡ true)
    → names_rise (l ∷ member_names
    (match_ordering o (member k d (member m e ms)) (member m d ms) (member m e (put k d ms)))) ≡ true
rise_at Less l k m d e ms is p h more =
    and_from _ _ p (and_from (is_name_before k m) _ (ap is_lt is) (and_parts _ _ h).1)
rise_at Equal l k m d e ms is p h more = h
rise_at Greater l k m d e ms is p h more =
    and_from (is_name_before l m) _ (and_parts _ _ h).0 (more (before_from m k is))

rise_after : (l k : List ℕ) (d : Data) (ms : Members) → is_name_before l k ≡ true
    → names_rise (l ∷ member_names ms) ≡ true
    → names_rise (l ∷ member_names (put k d ms)) ≡ true
rise_after l k d no_members p h = and_from _ _ p refl
rise_after l k d (member m e ms) p h =
    rise_at (slice_cmp nat_cmp k m) l k m d e ms refl p h
    (λ q. rise_after m k d ms q (and_parts (is_name_before l m) _ h).1)

first_at : (o : Ordering) (k m : List ℕ) (d e : Data) (ms : Members) → slice_cmp nat_cmp k m ≡ o
    → names_rise (m ∷ member_names ms) ≡ true
    → names_rise (member_names
    (match_ordering o (member k d (member m e ms)) (member m d ms) (member m e (put k d ms)))) ≡ true
first_at Less k m d e ms is h = and_from (is_name_before k m) _ (ap is_lt is) h
first_at Equal k m d e ms is h = h
first_at Greater k m d e ms is h = rise_after m k d ms (before_from m k is) h

put_rises : (k : List ℕ) (d : Data) (ms : Members) → names_rise (member_names ms) ≡ true
    → names_rise (member_names (put k d ms)) ≡ true
put_rises k d no_members h = refl
put_rises k d (member m e ms) h = first_at (slice_cmp nat_cmp k m) k m d e ms refl h

values_at : (o : Ordering) (a b c : Members) → members_as_read a ≡ true → members_as_read b ≡ true
    → members_as_read c ≡ true
    → members_as_read (match_ordering o a b c) ≡ true
values_at Less a b c p q r = p
values_at Equal a b c p q r = q
values_at Greater a b c p q r = r

put_values : (k : List ℕ) (d : Data) (ms : Members) → is_as_read d ≡ true → members_as_read ms ≡ true
    → members_as_read (put k d ms) ≡ true
put_values k d no_members p h = and_from _ _ p refl
put_values k d (member m e ms) p h =
    let parts = and_parts (is_as_read e) (members_as_read ms) h in
    values_at (slice_cmp nat_cmp k m) (member k d (member m e ms)) (member m d ms) (member m e (put k d ms))
    (and_from _ _ p h) (and_from _ _ p parts.1) (and_from _ _ parts.0 (put_values k d ms p parts.1))

-- ---- what is read

abbrev object_as_read : Members → Bool
object_as_read ms = names_rise (member_names ms) && members_as_read ms

next_item : (o : Option Data) (items : Option Items) → Passes is_as_read o → Passes are_as_read items
    → Passes are_as_read (option_and_then (λ d. option_map (item d) items) o)
next_item None items p q = tt
next_item (Some d) None p q = tt
next_item (Some d) (Some ds) p q = and_from _ _ p q

next_member : (o : Option Data) (rest : Data → Option Members) → Passes is_as_read o
    → ((d : Data) → is_as_read d ≡ true → Passes object_as_read (rest d))
    → Passes object_as_read (option_and_then rest o)
next_member None rest p q = tt
next_member (Some d) rest p q = q d p

mutual
  of_json_passes : (j : json.Json) → Passes is_as_read (of_json j)
  of_json_passes json.null = refl
  of_json_passes (json.boolean b) = refl
  of_json_passes (json.number s) = mapped is_number_as_read is_as_read number (number_of s) (λ n h. h) (number_passes s)
  of_json_passes (json.string s) = refl
  of_json_passes (json.array js) = mapped are_as_read is_as_read array (of_items js) (λ ds h. h) (of_items_passes js)
  of_json_passes (json.object ms) =
      mapped object_as_read is_as_read object (of_members ms no_members) (λ found h. h)
      (of_members_passes ms no_members refl refl)

  of_items_passes : (js : json.Items) → Passes are_as_read (of_items js)
  of_items_passes json.no_items = refl
  of_items_passes (json.item j js) = next_item (of_json j) (of_items js) (of_json_passes j) (of_items_passes js)

  of_members_passes : (ms : json.Members) (found : Members) → names_rise (member_names found) ≡ true
      → members_as_read found ≡ true
      → Passes object_as_read (of_members ms found)
  of_members_passes json.no_members found rise values = and_from _ _ rise values
  of_members_passes (json.member k j ms) found rise values =
      next_member (of_json j) (λ d. of_members ms (put k d found)) (of_json_passes j)
      (λ d h. of_members_passes ms (put k d found) (put_rises k d found rise) (put_values k d found h values))

some_passes : (o : Option Data) (d : Data) → Passes is_as_read o → o ≡ Some d → is_as_read d ≡ true
some_passes None d h is = absurd cc
some_passes (Some e) d h is = let same : e ≡ d = cc in subst (λ x. is_as_read x ≡ true) same h

of_json_all : (o : Option json.Json) → Passes is_as_read (option_and_then of_json o)
of_json_all None = tt
of_json_all (Some j) = of_json_passes j

-- the value of a text
pub read_as_read : (text : List ℕ) (d : Data) → read text ≡ Some d → is_as_read d ≡ true
read_as_read text d is =
    some_passes (read text) d
    (of_json_all (option_and_then (λ p. json.if_last p.0 p.1) (json.value max_depth (tokens text)))) is

-- ---- what stands in a value

member_by : (o : Ordering) (rest : Option Data) (e : Data) → Passes is_as_read rest → is_as_read e ≡ true
    → Passes is_as_read (match_ordering o rest (Some e) rest)
member_by Less rest e p q = p
member_by Equal rest e p q = q
member_by Greater rest e p q = p

member_passes : (name : List ℕ) (ms : Members) → members_as_read ms ≡ true → Passes is_as_read (get_member name ms)
member_passes name no_members h = tt
member_passes name (member l e ms) h =
    let parts = and_parts (is_as_read e) (members_as_read ms) h in
    member_by (slice_cmp nat_cmp name l) (get_member name ms) e (member_passes name ms parts.1) parts.0

get_passes : (name : List ℕ) (d : Data) → is_as_read d ≡ true → Passes is_as_read (get name d)
get_passes name null h = tt
get_passes name (boolean b) h = tt
get_passes name (number n) h = tt
get_passes name (string s) h = tt
get_passes name (array ds) h = tt
get_passes name (object ms) h =
    member_passes name ms (and_parts (names_rise (member_names ms)) (members_as_read ms) h).1

-- the member of a name
pub get_as_read : (name : List ℕ) (d e : Data) → is_as_read d ≡ true → get name d ≡ Some e → is_as_read e ≡ true
get_as_read name d e h is = some_passes (get name d) e (get_passes name d h) is

object_passes : (o : Option Data) → Passes is_as_read o → Passes object_as_read (option_and_then as_object o)
object_passes None h = tt
object_passes (Some null) h = tt
object_passes (Some (boolean b)) h = tt
object_passes (Some (number n)) h = tt
object_passes (Some (string s)) h = tt
object_passes (Some (array ds)) h = tt
object_passes (Some (object ms)) h = h

some_members : (o : Option Members) (ms : Members) → Passes object_as_read o → o ≡ Some ms → object_as_read ms ≡ true
some_members None ms h is = absurd cc
some_members (Some ns) ms h is = let same : ns ≡ ms = cc in subst (λ x. object_as_read x ≡ true) same h

-- the nodes of a graph
pub nodes_as_read : (d : Data) (ms : Members) → is_as_read d ≡ true → nodes_in d ≡ Some ms
    → (names_rise (member_names ms) && members_as_read ms) ≡ true
nodes_as_read d ms h is =
    let name = codes "process_graph" in
    some_members (nodes_in d) ms (object_passes (get name d) (get_passes name d h)) is
