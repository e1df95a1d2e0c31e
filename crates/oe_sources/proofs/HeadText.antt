-- A header is the text of a JSON value, which says the head and no other.
use Rattle.std.proofs.Common.{◌≡◌, ℕ, ◌≤◌, List, [], ◌∷◌, ◌++◌, map, codes, decimal, true, false, Option, Some, None, IsUtf8, refl, sym, ap, ap₂, ◌∙◌, subst, append_assoc, append-nil, arith}
use Rattle.std.specs.List.{filter_map}
use Rattle.serde_json.proofs.OnLiterals.{serde_json_on_literals}
use Rattle.serde_json.specs.Data.{Data, Members, number, string, array, object, unsigned, no_members, member, depth}
use Rattle.serde_json.specs.Read.{read, max_depth}
use Rattle.serde_json.specs.Written.{compact_text, items_text}
use Rattle.oe_dims.specs.Dimensions.{Dimensions, IsShape, all_kinds}
use Rattle.oe_dims.specs.Names.{is_name}
use Rattle.oe_dims.specs.declared.kind.CellKind.{CellKind}
use Rattle.oe_dims.specs.declared.kind.CellKind.TheVariants.{Numbers, Flags}
use Rattle.oe_render.specs.CubeText.{Each}
use Rattle.oe_render.specs.Text.{listed_text, present_text, quoted}
use Rattle.oe_render.specs.Members.{kind_word}
use Rattle.oe_render.proofs.Leaves.{IsLeaf, AreLeaves, items, count_leaf, items_more, leaves_written, leaves_shallow, leaves_same, leaves_texts}
use Rattle.oe_render.proofs.ReadBack.{IsWritten, ordered, items_ordered, written_utf8, written_read}
use Rattle.oe_render.proofs.Spells.{name_leaves}
use Rattle.oe_render.proofs.Texts.{listed_is_more}
use Rattle.oe_render.proofs.WrittenCube.{shape_values, shape_values_text, shape_values_written, shape_values_shallow, shape_values_read}
use Rattle.oe_sources.specs.Head.{Head, header_text}
use Rattle.oe_sources.specs.HeadRead.{IsHeadOf, SaysHead, SpellsWidth}
use Rattle.oe_sources.specs.declared.head.Version.{Version}
use Rattle.oe_sources.proofs.SizeLemmas.{byte_count_most}
use Rattle.oe_wide.specs.Wide.{byte_count}
use Rattle.oe_wide.specs.declared.width.Width.{Width}

-- ---- the parts

name_leaf : (name : List ℕ) → is_name name ≡ true → IsLeaf (string name) (quoted name)
name_leaf name h = (name_leaves (name ∷ []) (rw h refl)).0

kind_leaf : (kind : CellKind) → IsLeaf (string (kind_word kind)) (quoted (kind_word kind))
kind_leaf Numbers = name_leaf (codes "number") refl
kind_leaf Flags = name_leaf (codes "boolean") refl

abbrev width_data : Width → Data
width_data w = number (unsigned (byte_count w))

abbrev width_text : Width → List ℕ
width_text w = decimal (byte_count w)

width_leaves : (ws : List Width) → AreLeaves width_data width_text ws
width_leaves [] = tt
width_leaves (w ∷ ws) = (count_leaf (byte_count w) (omega (arith, byte_count_most w)), width_leaves ws)

each_width : (ws : List Width) → Each SpellsWidth (items width_data ws) ws
each_width [] = tt
each_width (w ∷ ws) = (refl, each_width ws)

abbrev listed_widths : List Width → List ℕ
listed_widths ws = listed_text (map width_text ws)

abbrev listed_dimensions : Dimensions → List ℕ
listed_dimensions d = listed_text (filter_map (present_text d) all_kinds)

-- the end of the widths in an object
widths_closed : (ws : List Width) (rest : List ℕ) → items_text false (items width_data ws) ++ rest ≡ listed_widths ws ++ (93 ∷ rest)
widths_closed ws rest =
    ap (λ (t : List ℕ). t ++ rest) (items_more width_data width_text ws 0 (leaves_texts width_data width_text ws (width_leaves ws)) ∙ ap (λ (t : List ℕ). t ++ 93 ∷ []) (sym (listed_is_more (map width_text ws))))
    ∙ append_assoc (listed_widths ws) (93 ∷ []) rest

-- ---- the whole

abbrev widths_before : Option (List Width) → Members → Members
widths_before None more = more
widths_before (Some ws) more = member (codes "widths") (array (items width_data ws)) more

abbrev head_value : List ℕ → CellKind → Option (List Width) → Dimensions → Data
head_value id kind ws d = object (
    member (codes "id") (string id) (
    member (codes "cells") (string (kind_word kind)) (
    widths_before ws (member (codes "dimensions") (array (shape_values d)) no_members))))

abbrev head_with : List ℕ → CellKind → Option (List Width) → Dimensions → Head
head_with id kind ws d = record { id = id; kind = kind; widths = ws; shape = d }

regroup_none : (a b c d e f g h : List ℕ) → a ++ (b ++ (c ++ (d ++ (e ++ (f ++ (g ++ h)))))) ≡ a ++ b ++ c ++ d ++ e ++ [] ++ f ++ g ++ h
regroup_none a b c d e f g h = simp (append_assoc, append-nil)

regroup_some : (a b c d e u v w f g h : List ℕ) → a ++ (b ++ (c ++ (d ++ (e ++ (u ++ (v ++ (w ++ (f ++ (g ++ h))))))))) ≡ a ++ b ++ c ++ d ++ e ++ (u ++ v ++ w) ++ f ++ g ++ h
regroup_some a b c d e u v w f g h = simp append_assoc

value_text : (id : List ℕ) (kind : CellKind) (ws : Option (List Width)) (d : Dimensions) → is_name id ≡ true → IsShape d → compact_text (head_value id kind ws d) ≡ header_text (head_with id kind ws d)
unfolding serde_json_on_literals header_text
value_text id kind None d named valid =
    ap (λ (t : List ℕ). codes "{\"id\":" ++ (compact_text (string id) ++ (codes ",\"cells\":" ++ (compact_text (string (kind_word kind)) ++ (codes ",\"dimensions\":[" ++ t))))) (shape_values_text d (125 ∷ []) valid)
    ∙ ap₂ (λ (a b : List ℕ). codes "{\"id\":" ++ (a ++ (codes ",\"cells\":" ++ (b ++ (codes ",\"dimensions\":[" ++ (listed_dimensions d ++ codes "]}")))))) (name_leaf id named).text_is (kind_leaf kind).text_is
    ∙ regroup_none (codes "{\"id\":") (quoted id) (codes ",\"cells\":") (quoted (kind_word kind)) (codes ",") (codes "\"dimensions\":[") (listed_dimensions d) (codes "]}")
value_text id kind (Some ws) d named valid =
    ap (λ (t : List ℕ). codes "{\"id\":" ++ (compact_text (string id) ++ (codes ",\"cells\":" ++ (compact_text (string (kind_word kind)) ++ (codes ",\"widths\":[" ++ t))))) (
    widths_closed ws (codes ",\"dimensions\":[" ++ (items_text false (shape_values d) ++ 125 ∷ []))
    ∙ ap (λ (t : List ℕ). listed_widths ws ++ (codes "],\"dimensions\":[" ++ t)) (shape_values_text d (125 ∷ []) valid))
    ∙ ap₂ (λ (a b : List ℕ). codes "{\"id\":" ++ (a ++ (codes ",\"cells\":" ++ (b ++ (codes ",\"widths\":[" ++ (listed_widths ws ++ (codes "],\"dimensions\":[" ++ (listed_dimensions d ++ codes "]}")))))))) (name_leaf id named).text_is (kind_leaf kind).text_is
    ∙ regroup_some (codes "{\"id\":") (quoted id) (codes ",\"cells\":") (quoted (kind_word kind)) (codes ",") (codes "\"widths\":[") (listed_widths ws) (codes "],") (codes "\"dimensions\":[") (listed_dimensions d) (codes "]}")

key : (name : List ℕ) → is_name name ≡ true → IsUtf8 name
key name h = (name_leaf name h).written

value_written : (id : List ℕ) (kind : CellKind) (ws : Option (List Width)) (d : Dimensions) → is_name id ≡ true → IsShape d → IsWritten (head_value id kind ws d)
value_written id kind None d named valid = (
  key (codes "id") refl,
  (name_leaf id named).written,
  (
    key (codes "cells") refl,
    (kind_leaf kind).written,
    (key (codes "dimensions") refl, shape_values_written d valid, tt),
  ),
)
value_written id kind (Some ws) d named valid = (
  key (codes "id") refl,
  (name_leaf id named).written,
  (
    key (codes "cells") refl,
    (kind_leaf kind).written,
    (
      key (codes "widths") refl,
      leaves_written width_data width_text ws (width_leaves ws),
      (key (codes "dimensions") refl, shape_values_written d valid, tt),
    ),
  ),
)

value_shallow : (id : List ℕ) (kind : CellKind) (ws : Option (List Width)) (d : Dimensions) → IsShape d → depth (head_value id kind ws d) ≤ max_depth
value_shallow id kind None d valid = omega (arith, shape_values_shallow d valid)
value_shallow id kind (Some ws) d valid =
    omega (arith, shape_values_shallow d valid, leaves_shallow width_data width_text ws (width_leaves ws))

value_says : (id : List ℕ) (kind : CellKind) (ws : Option (List Width)) (d : Dimensions) → IsShape d → SaysHead (ordered (head_value id kind ws d)) (head_with id kind ws d)
value_says id kind None d valid = record {
  id = refl;
  kind = refl;
  widths = tt;
  shape = (items_ordered (shape_values d), refl, shape_values_read d valid);
}
value_says id kind (Some ws) d valid = record {
  id = refl;
  kind = refl;
  widths = (items_ordered (items width_data ws), refl, subst (λ ds. Each SpellsWidth ds ws) (sym (leaves_same width_data width_text ws (width_leaves ws))) (each_width ws));
  shape = (items_ordered (shape_values d), refl, shape_values_read d valid);
}

-- a header is read as a value that says its head
pub header_read : (version : Version) (h : Head) → IsHeadOf version h → (value : Data) × (read (header_text h) ≡ Some value) × SaysHead value h
header_read version h valid =
    let v = head_value h.id h.kind h.widths h.shape in (
      ordered v,
      ap read (sym (value_text h.id h.kind h.widths h.shape valid.id valid.shape))
          ∙ written_read v (value_written h.id h.kind h.widths h.shape valid.id valid.shape) (value_shallow h.id h.kind h.widths h.shape valid.shape),
      value_says h.id h.kind h.widths h.shape valid.shape,
    )

pub header_utf8 : (version : Version) (h : Head) → IsHeadOf version h → IsUtf8 (header_text h)
header_utf8 version h valid =
    subst IsUtf8 (value_text h.id h.kind h.widths h.shape valid.id valid.shape)
    (written_utf8 (head_value h.id h.kind h.widths h.shape) (value_written h.id h.kind h.widths h.shape valid.id valid.shape))
