-- A header is the text of a JSON value, which says the head and no other.
use Rattle.std.proofs.Common.{◌≡◌, ℕ, ◌<◌, ◌≤◌, ◌^◌, List, [], ◌∷◌, ◌++◌, map, codes, decimal, false, Some, IsUtf8, refl, sym, ap, ◌∙◌, subst, append_assoc, arith}
use Rattle.std.specs.List.{filter_map}
use Rattle.json.specs.Print as json
use Rattle.serde_json.proofs.OnLiterals.{serde_json_on_literals}
use Rattle.serde_json.specs.Data.{Data, number, string, array, object, unsigned, no_members, member, depth}
use Rattle.serde_json.specs.Read.{read, max_depth}
use Rattle.serde_json.specs.Written.{compact_text, items_text}
use Rattle.oe_dims.specs.Dimensions.{IsShape, all_kinds}
use Rattle.oe_dims.specs.declared.kind.CellKind.{CellKind}
use Rattle.oe_dims.specs.declared.kind.CellKind.TheVariants.{Numbers, Flags}
use Rattle.oe_render.specs.CubeText.{Each}
use Rattle.oe_render.specs.Text.{listed_text, present_text}
use Rattle.oe_render.specs.Members.{kind_word}
use Rattle.oe_render.proofs.Leaves.{IsLeaf, AreLeaves, items, count_leaf, items_more, leaves_written, leaves_shallow, leaves_same, leaves_texts}
use Rattle.oe_render.proofs.ReadBack.{IsWritten, ordered, items_ordered, written_utf8, written_read}
use Rattle.oe_render.proofs.Spells.{name_leaves}
use Rattle.oe_render.proofs.Texts.{listed_is_more}
use Rattle.oe_render.proofs.WrittenCube.{shape_values, shape_values_text, shape_values_written, shape_values_shallow, shape_values_read}
use Rattle.oe_window.specs.declared.grid.ChunkSize.{ChunkSize}
use Rattle.oe_parts.specs.Head.{AreSides, IsPartHead, PartHead, chunk_total, header_text}
use Rattle.oe_parts.specs.HeadRead.{IsNumberOf, SaysPartHead}
use Rattle.oe_parts.proofs.SizeLemmas.{total_below}

-- ---- lists of numbers

abbrev count_data : ℕ → Data
count_data n = number (unsigned n)

-- each number fits 64 bits
abbrev AreFitting : List ℕ → Type 0
AreFitting [] = Unit {0}
AreFitting (n ∷ ns) = (n < 2 ^ 64) × AreFitting ns

count_leaves : (ns : List ℕ) → AreFitting ns → AreLeaves count_data decimal ns
count_leaves [] h = tt
count_leaves (n ∷ ns) h = (count_leaf n h.0, count_leaves ns h.1)

each_count : (ns : List ℕ) → Each IsNumberOf (items count_data ns) ns
each_count [] = tt
each_count (n ∷ ns) = (refl, each_count ns)

-- the end of a list in an object
counts_closed : (ns : List ℕ) (rest : List ℕ) → AreFitting ns → items_text false (items count_data ns) ++ rest ≡ listed_text (map decimal ns) ++ (93 ∷ rest)
counts_closed ns rest fits =
    ap (λ (t : List ℕ). t ++ rest) (items_more count_data decimal ns 0 (leaves_texts count_data decimal ns (count_leaves ns fits)) ∙ ap (λ (t : List ℕ). t ++ 93 ∷ []) (sym (listed_is_more (map decimal ns))))
    ∙ append_assoc (listed_text (map decimal ns)) (93 ∷ []) rest

-- ---- the whole

abbrev sides_list : ChunkSize → List ℕ
sides_list sides = sides.x ∷ sides.y ∷ sides.t ∷ []

abbrev range_list : PartHead → List ℕ
range_list h = h.first ∷ h.end ∷ []

abbrev head_value : PartHead → Data
head_value h = object (
    member (codes "graph") (string h.graph) (
    member (codes "chunk") (array (items count_data (sides_list h.sides))) (
    member (codes "range") (array (items count_data (range_list h))) (
    member (codes "chunks") (number (unsigned (chunk_total h))) (
    member (codes "cells") (string (kind_word h.kind)) (
    member (codes "dimensions") (array (shape_values h.shape)) (
    member (codes "again") (array (items count_data (sides_list h.sides))) no_members)))))))

kind_leaf : (kind : CellKind) → IsLeaf (string (kind_word kind)) (codes "\"" ++ kind_word kind ++ codes "\"")
kind_leaf Numbers = (name_leaves (codes "number" ∷ []) refl).0
kind_leaf Flags = (name_leaves (codes "boolean" ∷ []) refl).0

-- what stands behind the list of the range
abbrev tail_text : List ℕ → List ℕ → List ℕ → List ℕ
tail_text count word dimensions =
    codes ",\"chunks\":" ++ (count ++ (codes ",\"cells\":" ++ (word ++ (codes ",\"dimensions\":[" ++ dimensions))))

regroup : (a q b b' s c c' c'' r d d' n e w k f g h j : List ℕ)
    → a ++ (q ++ (b ++ (b' ++ (s ++ (c ++ (c' ++ (c'' ++ (r ++ (d ++ (d' ++ (n ++ (e ++ ((w ++ k) ++ (f ++ (g ++ (h ++ (b' ++ (s ++ (c ++ j)))))))))))))))))))
    ≡ a ++ q ++ b ++ (b' ++ s ++ c) ++ c' ++ (c'' ++ r ++ d) ++ d' ++ n ++ e ++ w ++ (k ++ f) ++ g ++ h ++ (b' ++ s ++ c) ++ j
regroup a q b b' s c c' c'' r d d' n e w k f g h j = simp append_assoc

value_text : (h : PartHead) → AreFitting (sides_list h.sides) → AreFitting (range_list h) → IsShape h.shape → compact_text (head_value h) ≡ header_text h
unfolding serde_json_on_literals header_text
value_text h sides range valid =
    let listed_s = listed_text (map decimal (sides_list h.sides)) in
    let listed_r = listed_text (map decimal (range_list h)) in
    let dims = listed_text (filter_map (present_text h.shape) all_kinds) in
    let count = decimal (chunk_total h) in
    let word = compact_text (string (kind_word h.kind)) in
    let again : List ℕ = codes ",\"again\":[" ++ (items_text false (items count_data (sides_list h.sides)) ++ 125 ∷ []) in
    let shapes : List ℕ = items_text false (shape_values h.shape) ++ again in
    ap (λ (t : List ℕ). codes "{\"graph\":" ++ (json.quoted h.graph ++ (codes ",\"chunk\":[" ++ t)))
    (counts_closed (sides_list h.sides) (codes ",\"range\":[" ++ (items_text false (items count_data (range_list h)) ++ tail_text count word shapes)) sides
    ∙ ap (λ (t : List ℕ). listed_s ++ (codes "],\"range\":[" ++ t)) (counts_closed (range_list h) (tail_text count word shapes) range
    ∙ ap (λ (t : List ℕ). listed_r ++ (93 ∷ tail_text count word t)) (shape_values_text h.shape again valid ∙ ap (λ (t : List ℕ). dims ++ (codes "],\"again\":[" ++ t)) (counts_closed (sides_list h.sides) (125 ∷ []) sides))
    ∙ ap (λ (w : List ℕ). listed_r ++ (93 ∷ tail_text count w (dims ++ (codes "],\"again\":[" ++ (listed_s ++ codes "]}"))))) (kind_leaf h.kind).text_is))
    ∙ regroup (codes "{\"graph\":") (json.quoted h.graph) (codes ",\"chunk\":") (codes "[") listed_s (codes "]") (codes ",\"range\":") (codes "[") listed_r (codes "]") (codes ",\"chunks\":") count (codes ",\"cells\":\"") (kind_word h.kind) (codes "\"") (codes ",\"dimensions\":[") dims (codes "],\"again\":") (codes "}")

-- ---- the head of a valid part

fitting_sides : (sides : ChunkSize) → AreSides sides → AreFitting (sides_list sides)
fitting_sides sides valid = (omega (arith, valid.x.1), (omega (arith, valid.y.1), (omega (arith, valid.t.1), tt)))

fitting_total : (h : PartHead) → IsPartHead h → chunk_total h < 2 ^ 64
fitting_total h valid = omega (arith, total_below h valid.sides valid.shape)

fitting_range : (h : PartHead) → IsPartHead h → AreFitting (range_list h)
fitting_range h valid =
    let total = fitting_total h valid in
    let some = valid.some in
    let within = valid.within in
    (omega (arith, total, some, within), (omega (arith, total, within), tt))

head_text_is : (h : PartHead) → IsPartHead h → compact_text (head_value h) ≡ header_text h
head_text_is h valid = value_text h (fitting_sides h.sides valid.sides) (fitting_range h valid) valid.shape

head_written : (h : PartHead) → IsPartHead h → IsWritten (head_value h)
head_written h valid = (
  (name_leaves (codes "graph" ∷ []) refl).0.written,
  valid.graph,
  (
    (name_leaves (codes "chunk" ∷ []) refl).0.written,
    leaves_written count_data decimal (sides_list h.sides) (count_leaves (sides_list h.sides) (fitting_sides h.sides valid.sides)),
    (
      (name_leaves (codes "range" ∷ []) refl).0.written,
      leaves_written count_data decimal (range_list h) (count_leaves (range_list h) (fitting_range h valid)),
      (
        (name_leaves (codes "chunks" ∷ []) refl).0.written,
        (count_leaf (chunk_total h) (fitting_total h valid)).written,
        (
          (name_leaves (codes "cells" ∷ []) refl).0.written,
          (kind_leaf h.kind).written,
          (
            (name_leaves (codes "dimensions" ∷ []) refl).0.written,
            shape_values_written h.shape valid.shape,
            (
              (name_leaves (codes "again" ∷ []) refl).0.written,
              leaves_written count_data decimal (sides_list h.sides) (count_leaves (sides_list h.sides) (fitting_sides h.sides valid.sides)),
              tt,
            ),
          ),
        ),
      ),
    ),
  ),
)

head_shallow : (h : PartHead) → IsPartHead h → depth (head_value h) ≤ max_depth
head_shallow h valid =
    omega (
      arith,
      shape_values_shallow h.shape valid.shape,
      leaves_shallow count_data decimal (sides_list h.sides) (count_leaves (sides_list h.sides) (fitting_sides h.sides valid.sides)),
      leaves_shallow count_data decimal (range_list h) (count_leaves (range_list h) (fitting_range h valid)),
    )

head_says : (h : PartHead) → IsPartHead h → SaysPartHead (ordered (head_value h)) h
head_says h valid = record {
  graph = refl;
  sides = (items_ordered (items count_data (sides_list h.sides)), refl, subst (λ ds. Each IsNumberOf ds (sides_list h.sides)) (sym (leaves_same count_data decimal (sides_list h.sides) (count_leaves (sides_list h.sides) (fitting_sides h.sides valid.sides)))) (each_count (sides_list h.sides)));
  range = (items_ordered (items count_data (range_list h)), refl, subst (λ ds. Each IsNumberOf ds (range_list h)) (sym (leaves_same count_data decimal (range_list h) (count_leaves (range_list h) (fitting_range h valid)))) (each_count (range_list h)));
  kind = refl;
  shape = (items_ordered (shape_values h.shape), refl, shape_values_read h.shape valid.shape);
}

-- a header is read as a value that says its head
pub header_read : (h : PartHead) → IsPartHead h → (value : Data) × (read (header_text h) ≡ Some value) × SaysPartHead value h
header_read h valid =
    let v = head_value h in (
      ordered v,
      ap read (sym (head_text_is h valid)) ∙ written_read v (head_written h valid) (head_shallow h valid),
      head_says h valid,
    )

pub header_utf8 : (h : PartHead) → IsPartHead h → IsUtf8 (header_text h)
header_utf8 h valid = subst IsUtf8 (head_text_is h valid) (written_utf8 (head_value h) (head_written h valid))
