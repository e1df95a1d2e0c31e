-- What the part of some chunks of a graph's run says before its records is valid.
use Rattle.std.proofs.Common.{◌≡◌, ℕ, zero, suc, ◌+◌, ◌≤◌, inl, inr, List, [], ◌++◌, length, codes, Some, None, refl, sym, ap, ◌∙◌, subst, arith}
use Rattle.std.specs.List.{filter_map}
use Rattle.std.proofs.lemmas.List.{length-append}
use Rattle.oe_dims.specs.Dimensions.{Dimensions, IsShape, all_kinds, extent}
use Rattle.oe_dims.specs.declared.dims.DimsRow.{DimsRow}
use Rattle.oe_dims.specs.declared.kind.CellKind.{CellKind}
use Rattle.oe_dims.specs.declared.kind.CellKind.TheVariants.{Numbers}
use Rattle.oe_graph.specs.Form as form
use Rattle.oe_graph.specs.Form.{most_input}
use Rattle.oe_graph.specs.declared.code.Code.TheVariants.{InputTooLong}
use Rattle.oe_parts.proofs.HeadSizes.{short_header}
use Rattle.oe_parts.specs.Head.{AreSides, IsPartHead, PartHead}
use Rattle.oe_plan.specs.Figures.{shape_of_node}
use Rattle.oe_plan.specs.Ranges.{IsWithinRanges}
use Rattle.oe_render.specs.Text.{listed_text, present_text, quoted}
use Rattle.oe_render.specs.Members.{kind_word}
use Rattle.oe_check.specs.Checked.{CheckedGraph}
use Rattle.oe_sources.proofs.HeadSizes.{packed_short}
use Rattle.oe_sources.specs.Head.{header_text, widths_for, widths_text}
use Rattle.oe_window.specs.declared.grid.ChunkSize.{ChunkSize}
use Rattle.oe_top.proofs.Inputs.{sizes}
use Rattle.oe_top.specs.Faults.{of_form}
use Rattle.oe_top.specs.Judged.{IsCheckedText}
use Rattle.oe_top.specs.PartAnswer.{AreChunksOf, head_for, kind_of_result}

-- the text of a graph is no longer than an input may be
graph_short : (rows : List DimsRow) (text : List ℕ) (c : CheckedGraph) → IsCheckedText rows text c → length text ≤ most_input
graph_short rows text c checked = elim (sizes (length text) most_input) [
  | inl short ↦ short
  | inr long ↦ absurd (checked.valid InputTooLong [] (of_form (form.input_too_long long)))
]

-- a list so many times, one behind the other
abbrev times : {A : Type 0} → List A → ℕ → List A
times xs zero = []
times xs (suc n) = xs ++ times xs n

length-times : {A : Type 0} (xs : List A) (n : ℕ) → length xs ≡ 1 → length (times xs n) ≡ n
length-times xs zero one = refl
length-times xs (suc n) one = omega (arith, one, length-append xs (times xs n), length-times xs n one)

-- the dimensions of a shape are as long as in the header of a cube file at most
dimensions_fit : (shape : Dimensions) → IsShape shape → length (listed_text (filter_map (present_text shape) all_kinds)) ≤ 8388608
unfolding header_text
dimensions_fit shape valid =
    let widths = times (widths_for None) (extent shape.t) in
    let dimensions = listed_text (filter_map (present_text shape) all_kinds) in
    let front = codes "{\"id\":" ++ quoted (codes "a") ++ codes ",\"cells\":" ++ quoted (kind_word Numbers) ++ codes ","
    ++ widths_text (Some widths) ++ codes "\"dimensions\":[" in
    let short = packed_short (codes "a") shape Numbers widths refl valid (length-times (widths_for None) (extent shape.t) refl) in
    omega (arith, short, length-append (front ++ dimensions) (codes "]}"), length-append front dimensions)

-- the sides of a planned run are those that chunks may have
pub sides_valid : (size : ChunkSize) (workers : ℕ) → IsWithinRanges size workers → AreSides size
sides_valid size workers ranges = record { x = ranges.x; y = ranges.y; t = ranges.t }

pub head_valid : (rows : List DimsRow) (text : List ℕ) (c : CheckedGraph) (size : ChunkSize) (first end : ℕ) → IsCheckedText rows text c
    → AreSides size → IsShape (shape_of_node c c.result) → AreChunksOf c size first end → IsPartHead (head_for text c size first end)
head_valid rows text c size first end checked sides shape chunks = record {
  graph = checked.reads.is_read.utf8;
  sides = sides;
  some = chunks.0;
  within = chunks.1;
  shape = shape;
  short = short_header (head_for text c size first end) (graph_short rows text c checked)
      (dimensions_fit (shape_of_node c c.result) shape) shape sides chunks.0 chunks.1;
}

-- the head of a part is that of the chunks of its planned run
pub head_of_run : (head : PartHead) (text : List ℕ) (c planned : CheckedGraph) (size sides : ChunkSize) (first start end stop : ℕ)
    → head ≡ head_for text c size first end → planned ≡ c → sides ≡ size → start ≡ first → stop ≡ end
    → head ≡ head_for head.graph planned sides start stop
head_of_run head text c planned size sides first start end stop is same_graph same_sides same_first same_end =
    is ∙ ap (λ (t : List ℕ). head_for t c size first end) (sym (ap (λ (h : PartHead). h.graph) is))
    ∙ ap (λ (g : CheckedGraph). head_for head.graph g size first end) (sym same_graph)
    ∙ ap (λ (s : ChunkSize). head_for head.graph planned s first end) (sym same_sides)
    ∙ ap (λ (n : ℕ). head_for head.graph planned sides n end) (sym same_first)
    ∙ ap (λ (n : ℕ). head_for head.graph planned sides start n) (sym same_end)

-- a valid head is that of a text, by whatever name the text goes
pub head_valid_for : (head : PartHead) (text other : List ℕ) (c : CheckedGraph) (size : ChunkSize) (first end : ℕ) → text ≡ other
    → head ≡ head_for text c size first end → IsPartHead head → IsPartHead (head_for other c size first end)
head_valid_for head text other c size first end same is valid =
    subst IsPartHead (is ∙ ap (λ (t : List ℕ). head_for t c size first end) same) valid

-- the head that is made of a text, a kind and a shape that are those of the graph
pub head_made : (rows : List DimsRow) (text graph : List ℕ) (c : CheckedGraph) (size : ChunkSize) (first end : ℕ) (kind : CellKind) (shape : Dimensions)
    → IsCheckedText rows text c → AreSides size → AreChunksOf c size first end → graph ≡ text → kind ≡ kind_of_result c
    → shape ≡ shape_of_node c c.result → IsShape shape
    → IsPartHead (record { graph = graph; sides = size; first = first; end = end; kind = kind; shape = shape })
head_made rows text graph c size first end kind shape checked sides chunks same_graph same_kind same_shape is_shape =
    subst (λ (s : Dimensions). IsPartHead (record { graph = graph; sides = size; first = first; end = end; kind = kind; shape = s })) (sym same_shape)
    (subst (λ (k : CellKind). IsPartHead (record { graph = graph; sides = size; first = first; end = end; kind = k; shape = shape_of_node c c.result })) (sym same_kind)
    (subst (λ (g : List ℕ). IsPartHead (record { graph = g; sides = size; first = first; end = end; kind = kind_of_result c; shape = shape_of_node c c.result })) (sym same_graph)
    (head_valid rows text c size first end checked sides (subst IsShape same_shape is_shape) chunks)))
