-- The text of the catalogue is read as the catalogue.
use Rattle.std.proofs.Common.{◌≡◌, ℕ, ◌≤◌, ◌^◌, List, [], Bool, true, false, ◌&&◌, Option, Some, None, refl, sym, ap, ◌∙◌, arith, append-nil, lit≤}
use Rattle.std.specs.Fmt.{digits}
use Rattle.std.specs.Prelude.{nat_lt, option_and_then}
use Rattle.std.proofs.lemmas.Bool.Decides.{nat_tests}
use Rattle.std.proofs.lemmas.Bool.{and_parts}
use Rattle.json.specs.Json as json
use Rattle.json.specs.Lex.{tokens}
use Rattle.json.specs.Token.{Token}
use Rattle.json.specs.Tree.{HasNumbers, ItemsHaveNumbers, MembersHaveNumbers, json_tokens}
use Rattle.json.specs.Tree as tree
use Rattle.json.proofs.Printed.Decimals.{IsNumber-decimal}
use Rattle.json.proofs.Printed.Tokens.{tokens-print}
use Rattle.json.proofs.Printed.Trees.{ArePrintable-json_tokens, value-json_tokens}
use Rattle.serde_json.specs.Data.{Num, unsigned, negative, float, Data, null, boolean, number, string, array, object, Items, no_items, item, Members, no_members, member}
use Rattle.serde_json.specs.Read.{max_depth, of_json, read}
use Rattle.serde_json.specs.Written.{compact_text, has_float, outline, items_outline, members_outline}
use Rattle.serde_json.proofs.OnLiterals.{serde_json_on_literals}
use Rattle.serde_json.proofs.Texts.{print-outline}
use Rattle.oe_graph.specs.Catalogue.{processes_data}

-- its numbers are whole and of 64 bits
abbrev is_short : Num → Bool
is_short (unsigned n) = nat_lt n (2 ^ 64)
is_short (negative z) = false
is_short (float x) = false

abbrev mutual
  are_short : Data → Bool
  are_short null = true
  are_short (boolean b) = true
  are_short (number n) = is_short n
  are_short (string s) = true
  are_short (array ds) = items_are_short ds
  are_short (object ms) = members_are_short ms

  items_are_short : Items → Bool
  items_are_short no_items = true
  items_are_short (item d ds) = are_short d && items_are_short ds

  members_are_short : Members → Bool
  members_are_short no_members = true
  members_are_short (member k d ms) = are_short d && members_are_short ms

mutual
  have_numbers : (d : Data) → are_short d ≡ true → HasNumbers (outline d)
  have_numbers null h = tt
  have_numbers (boolean b) h = tt
  have_numbers (number (unsigned n)) h = IsNumber-decimal n (grind (arith, nat_tests, h))
  have_numbers (number (negative z)) h = absurd cc
  have_numbers (number (float x)) h = absurd cc
  have_numbers (string s) h = tt
  have_numbers (array ds) h = items_have_numbers ds h
  have_numbers (object ms) h = members_have_numbers ms h

  items_have_numbers : (ds : Items) → items_are_short ds ≡ true → ItemsHaveNumbers (items_outline ds)
  items_have_numbers no_items h = tt
  items_have_numbers (item d ds) h =
      let parts = and_parts (are_short d) (items_are_short ds) h in
      (have_numbers d parts.0, items_have_numbers ds parts.1)

  members_have_numbers : (ms : Members) → members_are_short ms ≡ true → MembersHaveNumbers (members_outline ms)
  members_have_numbers no_members h = tt
  members_have_numbers (member k d ms) h =
      let parts = and_parts (are_short d) (members_are_short ms) h in
      (have_numbers d parts.0, members_have_numbers ms parts.1)

-- the tokens of a compact text
tokens_of : (d : Data) → are_short d ≡ true → tokens (compact_text d) ≡ json_tokens (outline d)
tokens_of d short =
    ap tokens (sym (print-outline d))
    ∙ tokens-print (json_tokens (outline d)) (ArePrintable-json_tokens (outline d) (have_numbers d short))

abbrev whole : Option (json.Json × List Token) → Option Data
whole found = option_and_then of_json (option_and_then (λ p. json.if_last p.0 p.1) found)

reads_outline : (d : Data) → are_short d ≡ true → tree.depth (outline d) ≤ max_depth
    → read (compact_text d) ≡ of_json (outline d)
unfolding json.value
reads_outline d short shallow =
    ap whole (ap (json.value max_depth) (tokens_of d short ∙ sym (append-nil (json_tokens (outline d))))
    ∙ value-json_tokens (outline d) max_depth [] shallow)

-- ---- the catalogue

all_short : are_short processes_data ≡ true
all_short = refl

flat : tree.depth (outline processes_data) ≤ max_depth
flat = lit≤ tt

as_written : of_json (outline processes_data) ≡ Some processes_data
unfolding digits serde_json_on_literals
as_written = refl

catalogue_reads : read (compact_text processes_data) ≡ Some processes_data
catalogue_reads = reads_outline processes_data all_short flat ∙ as_written

pub catalogue_whole : has_float processes_data ≡ false
catalogue_whole = refl

-- a text that is the catalogue's is read, and as the catalogue
pub is_catalogue : (text : List ℕ) (d : Data) → text ≡ compact_text processes_data → read text ≡ Some d → d ≡ processes_data
is_catalogue text d is found =
    let same : Some d ≡ Some processes_data = sym found ∙ ap read is ∙ catalogue_reads in
    cc

pub is_read : (text : List ℕ) → text ≡ compact_text processes_data → read text ≡ None → ⊥
is_read text is none =
    let same : None ≡ Some processes_data = sym none ∙ ap read is ∙ catalogue_reads in
    cc
