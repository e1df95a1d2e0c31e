-- The compact text of a value whose numbers are whole reads as the value, with the members in order.
use Rattle.std.proofs.Common.{◌≡◌, ℕ, ◌≤◌, List, [], ◌∷◌, ◌++◌, Bool, true, false, Some, option_and_then, option_map, IsUtf8, refl, sym, ap, ◌∙◌, subst, append-nil}
use Rattle.std.specs.Prelude.{⊤}
use Rattle.std.proofs.lemmas.Str.{IsUtf8-append, IsUtf8-nil}
use Rattle.json.specs.Json as json
use Rattle.json.specs.Lex.{tokens}
use Rattle.json.specs.Print.{quoted, IsNumber}
use Rattle.json.specs.Tree as tree
use Rattle.json.proofs.Printed.Tokens.{tokens-print}
use Rattle.json.proofs.Printed.Trees.{value-json_tokens, ArePrintable-json_tokens}
use Rattle.json.proofs.Printed.Utf8.{IsUtf8-are_ascii, IsUtf8-quoted, IsUtf8-boolean}
use Rattle.serde_json.specs.Data.{Num, Data, null, boolean, number, string, array, object, Items, no_items, item, Members, no_members, member, put, depth, items_depth, members_depth}
use Rattle.serde_json.specs.Read.{number_of, of_json, of_items, of_members, read, max_depth}
use Rattle.serde_json.specs.Written.{number_text, outline, items_outline, members_outline, compact_text, items_text, members_text, comma_if}
use Rattle.serde_json.proofs.Texts.{print-outline}

-- a number that its text is read as
pub record IsWhole (n : Num) : Type 0 where
  pub reads : number_of (number_text n) ≡ Some n
  pub numeral : IsNumber (number_text n)
  pub utf8 : IsUtf8 (number_text n)

-- the texts in the value are UTF-8, and its numbers are read as they are written
abbrev mutual
  pub IsWritten : Data → Type 0
  IsWritten null = ⊤
  IsWritten (boolean b) = ⊤
  IsWritten (number n) = IsWhole n
  IsWritten (string s) = IsUtf8 s
  IsWritten (array ds) = AreWritten ds
  IsWritten (object ms) = HasWritten ms

  pub AreWritten : Items → Type 0
  AreWritten no_items = ⊤
  AreWritten (item d ds) = IsWritten d × AreWritten ds

  pub HasWritten : Members → Type 0
  HasWritten no_members = ⊤
  HasWritten (member k d ms) = IsUtf8 k × IsWritten d × HasWritten ms

-- the value with the members of its objects in order
abbrev mutual
  pub ordered : Data → Data
  ordered null = null
  ordered (boolean b) = boolean b
  ordered (number n) = number n
  ordered (string s) = string s
  ordered (array ds) = array (items_ordered ds)
  ordered (object ms) = object (members_put ms no_members)

  pub items_ordered : Items → Items
  items_ordered no_items = no_items
  items_ordered (item d ds) = item (ordered d) (items_ordered ds)

  pub members_put : Members → Members → Members
  members_put no_members found = found
  members_put (member k d ms) found = members_put ms (put k (ordered d) found)

mutual
  value_read : (d : Data) → IsWritten d → of_json (outline d) ≡ Some (ordered d)
  value_read null h = refl
  value_read (boolean b) h = refl
  value_read (number n) h = ap (option_map number) h.reads
  value_read (string s) h = refl
  value_read (array ds) h = ap (option_map array) (items_read ds h)
  value_read (object ms) h = ap (option_map object) (members_read ms no_members h)

  items_read : (ds : Items) → AreWritten ds → of_items (items_outline ds) ≡ Some (items_ordered ds)
  items_read no_items h = refl
  items_read (item d ds) h =
      ap (option_and_then (λ e. option_map (item e) (of_items (items_outline ds)))) (value_read d h.0)
      ∙ ap (option_map (item (ordered d))) (items_read ds h.1)

  members_read : (ms found : Members) → HasWritten ms → of_members (members_outline ms) found ≡ Some (members_put ms found)
  members_read no_members found h = refl
  members_read (member k d ms) found h =
      ap (option_and_then (λ e. of_members (members_outline ms) (put k e found))) (value_read d h.1)
      ∙ members_read ms (put k (ordered d) found) h.2

mutual
  value_numbers : (d : Data) → IsWritten d → tree.HasNumbers (outline d)
  value_numbers null h = tt
  value_numbers (boolean b) h = tt
  value_numbers (number n) h = h.numeral
  value_numbers (string s) h = tt
  value_numbers (array ds) h = items_numbers ds h
  value_numbers (object ms) h = members_numbers ms h

  items_numbers : (ds : Items) → AreWritten ds → tree.ItemsHaveNumbers (items_outline ds)
  items_numbers no_items h = tt
  items_numbers (item d ds) h = (value_numbers d h.0, items_numbers ds h.1)

  members_numbers : (ms : Members) → HasWritten ms → tree.MembersHaveNumbers (members_outline ms)
  members_numbers no_members h = tt
  members_numbers (member k d ms) h = (value_numbers d h.1, members_numbers ms h.2)

mutual
  value_deep : (d : Data) → tree.depth (outline d) ≡ depth d
  value_deep null = refl
  value_deep (boolean b) = refl
  value_deep (number n) = refl
  value_deep (string s) = refl
  value_deep (array ds) = rw (items_deep ds) refl
  value_deep (object ms) = rw (members_deep ms) refl

  items_deep : (ds : Items) → tree.items_depth (items_outline ds) ≡ items_depth ds
  items_deep no_items = refl
  items_deep (item d ds) = rw (value_deep d, items_deep ds) refl

  members_deep : (ms : Members) → tree.members_depth (members_outline ms) ≡ members_depth ms
  members_deep no_members = refl
  members_deep (member k d ms) = rw (value_deep d, members_deep ms) refl

byte : (b : ℕ) → List ℕ
byte b = b ∷ []

comma_utf8 : (later : Bool) → IsUtf8 (comma_if later)
comma_utf8 true = IsUtf8-are_ascii (44 ∷ []) refl
comma_utf8 false = IsUtf8-nil

mutual
  value_utf8 : (d : Data) → IsWritten d → IsUtf8 (compact_text d)
  value_utf8 null h = IsUtf8-are_ascii _ refl
  value_utf8 (boolean b) h = IsUtf8-boolean b
  value_utf8 (number n) h = h.utf8
  value_utf8 (string s) h = IsUtf8-quoted s h
  value_utf8 (array ds) h = IsUtf8-append (91 ∷ []) (items_text false ds) (IsUtf8-are_ascii (91 ∷ []) refl) (items_utf8 false ds h)
  value_utf8 (object ms) h = IsUtf8-append (123 ∷ []) (members_text false ms) (IsUtf8-are_ascii (123 ∷ []) refl) (members_utf8 false ms h)

  items_utf8 : (later : Bool) (ds : Items) → AreWritten ds → IsUtf8 (items_text later ds)
  items_utf8 later no_items h = IsUtf8-are_ascii (93 ∷ []) refl
  items_utf8 later (item d ds) h =
      IsUtf8-append (comma_if later) (compact_text d ++ items_text true ds) (comma_utf8 later)
      (IsUtf8-append (compact_text d) (items_text true ds) (value_utf8 d h.0) (items_utf8 true ds h.1))

  members_utf8 : (later : Bool) (ms : Members) → HasWritten ms → IsUtf8 (members_text later ms)
  members_utf8 later no_members h = IsUtf8-are_ascii (125 ∷ []) refl
  members_utf8 later (member k d ms) h =
      IsUtf8-append (comma_if later) _ (comma_utf8 later)
      (IsUtf8-append (quoted k) (58 ∷ (compact_text d ++ members_text true ms)) (IsUtf8-quoted k h.0)
      (IsUtf8-append (58 ∷ []) (compact_text d ++ members_text true ms) (IsUtf8-are_ascii (58 ∷ []) refl)
      (IsUtf8-append (compact_text d) (members_text true ms) (value_utf8 d h.1) (members_utf8 true ms h.2))))

pub written_utf8 : (d : Data) → IsWritten d → IsUtf8 (compact_text d)
written_utf8 d h = value_utf8 d h

-- what is read of the text
pub written_read : (d : Data) → IsWritten d → depth d ≤ max_depth → read (compact_text d) ≡ Some (ordered d)
written_read d h shallow =
    let j = outline d in
    let all : tokens (compact_text d) ≡ tree.json_tokens j = ap tokens (sym (print-outline d)) ∙ tokens-print (tree.json_tokens j) (ArePrintable-json_tokens j (value_numbers d h)) in
    let fits : tree.depth j ≤ max_depth = subst (λ n. n ≤ max_depth) (sym (value_deep d)) shallow in
    ap (λ ts. option_and_then of_json (option_and_then (λ p. json.if_last p.0 p.1) (json.value max_depth ts))) (all ∙ sym (append-nil (tree.json_tokens j)))
    ∙ ap (λ r. option_and_then of_json (option_and_then (λ p. json.if_last p.0 p.1) r)) (value-json_tokens j max_depth [] fits)
    ∙ value_read d h
