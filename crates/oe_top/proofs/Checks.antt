-- Faults of all phases together, and what a check of them answers.
use Rattle.std.proofs.Common.{◌≡◌, false, ℕ, ◌<◌, ◌≤◌, inl, inr, List, [], ◌∷◌, length, Option, Some, None, IfSome, IfOk, IfErr, OnOk, Result, Ok, Err, refl, sym, ap, subst, arith}
use Rattle.oe_dims.specs.declared.dims.DimsRow.{DimsRow}
use Rattle.oe_graph.proofs.LeastLemmas.{IsLeast-unique}
use Rattle.oe_graph.specs.Faults.{IsLeast, is_before}
use Rattle.oe_graph.specs.Form as form
use Rattle.oe_graph.specs.Form.{most_input}
use Rattle.oe_graph.specs.Read.{IsFault, IsFaultless, Reads}
use Rattle.oe_graph.specs.Tree.{PlainGraph}
use Rattle.oe_graph.specs.declared.code.Code.{Code}
use Rattle.oe_graph.specs.declared.code.Code.TheVariants.{InputTooLong, NodeInvalid, ResultNodeCount}
use Rattle.oe_graph.specs.declared.fault.Fault.{Fault}
use Rattle.oe_graph.specs.declared.fault.Refusal as graph
use Rattle.oe_graph.specs.declared.fault.Refusal.TheVariants as refusal
use Rattle.oe_judge.specs.Judged.{StandsWithCollections, checked_over}
use Rattle.oe_outside.specs.Input.{ReadsUpTo}
use Rattle.oe_check.specs.Checked.{CheckedGraph}
use Rattle.oe_sources.specs.Catalogue.{Row}
use Rattle.oe_sources.specs.CatalogueDims.{AreDimsOf}
use Rattle.oe_top.proofs.Inputs.{read_whole, sizes, whole_same, within}
use Rattle.oe_top.specs.Faults.{StandsOver, of_form, of_graph}
use Rattle.oe_top.specs.Judged.{IsCheckedText, IsTextOfInput, JudgeEnds, JudgesBytes, RefusesInput}
use Rattle.oe_top.specs.declared.judge.InputRefusal.{InputRefusal}
use Rattle.oe_top.specs.declared.judge.InputRefusal.TheVariants as unread

-- ---- the phases

-- the bytes are the text of one graph
reads_one : (bytes : List ℕ) (g h : PlainGraph) → Reads bytes g → Reads bytes h → g ≡ h
reads_one bytes g h one two =
    let value : one.value ≡ two.value = cc (one.is_read.value, two.is_read.value) in
    let nodes : one.is_graph.nodes ≡ two.is_graph.nodes = cc (value, one.is_graph.is_main, two.is_graph.is_main) in
    cc (nodes, one.is_graph.built, two.is_graph.built)

module _ (rows : List DimsRow) (bytes : List ℕ) where
  form_only : (fault : Fault) → IsLeast (form.Stands bytes) fault → (code : Code) (node : List ℕ) → StandsOver rows bytes code node
      → is_before (record { code = code; node = node }) fault ≡ false
  form_only fault l code node (of_form s) = l.least (record { code = code; node = node }) s
  form_only fault l code node (of_graph reads s) = absurd (reads.valid fault.code fault.node l.stands)

  -- a fault of the form comes first
  pub form_first : (r : graph.Refusal) → IsFault (form.Stands bytes) r → IsFault (StandsOver rows bytes) r
  form_first (refusal.Fault fault) l = record { stands = of_form l.stands; least = λ g s. form_only fault l g.code g.node s }
  form_first refusal.OutOfMemory l = tt

  module _ (g : PlainGraph) (reads : Reads bytes g) where
    same_graph : (h : PlainGraph) → Reads bytes h → (code : Code) (node : List ℕ) → StandsWithCollections rows [] h code node
        → StandsWithCollections rows [] g code node
    same_graph h other code node s = subst (λ k. StandsWithCollections rows [] k code node) (reads_one bytes h g other reads) s

    graph_only : (fault : Fault) → IsLeast (StandsWithCollections rows [] g) fault → (code : Code) (node : List ℕ)
        → StandsOver rows bytes code node → is_before (record { code = code; node = node }) fault ≡ false
    graph_only fault l code node (of_form s) = absurd (reads.valid code node s)
    graph_only fault l code node (of_graph {g = h} other s) = l.least (record { code = code; node = node }) (same_graph h other code node s)

    -- without one of the form, a fault of the graph
    pub graph_next : (r : graph.Refusal) → IsFault (StandsWithCollections rows [] g) r → IsFault (StandsOver rows bytes) r
    graph_next (refusal.Fault fault) l = record { stands = of_graph reads l.stands; least = λ f s. graph_only fault l f.code f.node s }
    graph_next refusal.OutOfMemory l = tt

    -- or none at all
    pub none_over : IsFaultless (StandsWithCollections rows [] g) → IsFaultless (StandsOver rows bytes)
    none_over none code node (of_form s) = reads.valid code node s
    none_over none code node (of_graph {g = h} other s) = none code node (same_graph h other code node s)

    pub checked_text : (result : Result CheckedGraph graph.Refusal) → IfOk result (λ c. c ≡ checked_over rows [] g)
        → OnOk result (IsFaultless (StandsWithCollections rows [] g)) → IfOk result (IsCheckedText rows bytes)
    checked_text (Err e) is none = tt
    checked_text (Ok c) is none = record {
      graph = g;
      reads = reads;
      valid = none_over none;
      checked_is = is;
    }

    pub checked_refused : (result : Result CheckedGraph graph.Refusal) → IfErr result (IsFault (StandsWithCollections rows [] g))
        → IfErr result (IsFault (StandsOver rows bytes))
    checked_refused (Ok c) refused = tt
    checked_refused (Err e) refused = graph_next e refused

-- ---- an input over the limit

abbrev too_long : Fault
too_long = record { code = InputTooLong; node = [] }

node_after : (name : List ℕ) → is_before (record { code = NodeInvalid; node = name }) too_long ≡ false
node_after [] = refl
node_after (b ∷ name) = refl

count_after : (name : List ℕ) → is_before (record { code = ResultNodeCount; node = name }) too_long ≡ false
count_after [] = refl
count_after (b ∷ name) = refl

module _ (rows : List DimsRow) (bytes : List ℕ) (long : most_input < length bytes) where
  long_only : (code : Code) (node : List ℕ) → StandsOver rows bytes code node
      → is_before (record { code = code; node = node }) too_long ≡ false
  long_only code node (of_form (form.input_too_long _)) = refl
  long_only code node (of_form (form.graph_unreadable _)) = refl
  long_only code node (of_form (form.of_value r (form.graph_unreadable _))) = refl
  long_only code node (of_form (form.of_value r (form.process_graph_missing _))) = refl
  long_only code node (of_form (form.of_value r (form.node_id_invalid g m fails))) = node_after node
  long_only code node (of_form (form.of_value r (form.node_invalid g m valid fails))) = node_after node
  long_only code node (of_form (form.of_value r (form.result_node_count g other))) = count_after node
  long_only code node (of_graph reads s) = absurd (reads.valid InputTooLong [] (form.input_too_long long))

  long_least : IsLeast (StandsOver rows bytes) too_long
  long_least = record { stands = of_form (form.input_too_long long); least = λ f s. long_only f.code f.node s }

-- ---- the input

pub fault_of_all : (rows : List DimsRow) (before : Option (List ℕ)) (bytes : List ℕ) (after : Option (List ℕ)) (fault : Fault)
    → ReadsUpTo most_input before bytes after → IsLeast (StandsOver rows bytes) fault
    → IfSome before (λ all. IsLeast (StandsOver rows all) fault)
fault_of_all rows None bytes after fault read l = tt
fault_of_all rows (Some visible) bytes after fault read l = elim (sizes (length bytes) most_input) [
  | inl short ↦ subst (λ b. IsLeast (StandsOver rows b) fault) (whole_same visible bytes after read short) l
  | inr long ↦
      let further : length bytes ≤ length visible = within visible bytes after read in
      let same : fault ≡ too_long = IsLeast-unique (StandsOver rows bytes) fault too_long l (long_least rows bytes long) in
      subst (IsLeast (StandsOver rows visible)) (sym same) (long_least rows visible (omega arith))
]

-- bytes that were read and are the text of a graph are the whole input
pub kept_text : (rows : List DimsRow) (before : Option (List ℕ)) (bytes : List ℕ) (after : Option (List ℕ)) (c : CheckedGraph)
    → ReadsUpTo most_input before bytes after → IsCheckedText rows bytes c → IsTextOfInput rows before after bytes c
kept_text rows before bytes after c read text =
    let short : length bytes ≤ most_input = elim (sizes (length bytes) most_input) [
      | inl short ↦ short
      | inr long ↦ absurd (text.valid InputTooLong [] (of_form (form.input_too_long long)))
    ] in
    (read_whole before bytes after read short, text)

-- what a refusal of the bytes that were read says of the input
pub refuses_text : (rows : List DimsRow) (before : Option (List ℕ)) (before_faults : ℕ) (bytes : List ℕ) (after : Option (List ℕ)) (after_faults : ℕ) (refusal : InputRefusal)
    → ReadsUpTo most_input before bytes after → JudgesBytes rows bytes (Err refusal) → RefusesInput rows before before_faults after after_faults refusal
refuses_text rows before before_faults bytes after after_faults (unread.Graph fault) read least = record {
  bytes = bytes;
  was_read = read;
  least = least;
  of_all = fault_of_all rows before bytes after fault read least;
}
refuses_text rows before before_faults bytes after after_faults unread.ReadFault read never = absurd never
refuses_text rows before before_faults bytes after after_faults unread.OutOfMemory read free = tt

-- what judging the bytes that were read says of the input
pub judges : (rows : List DimsRow) (before : Option (List ℕ)) (before_faults : ℕ) (bytes : List ℕ) (after : Option (List ℕ)) (after_faults : ℕ) (result : Result CheckedGraph InputRefusal)
    → ReadsUpTo most_input before bytes after → JudgesBytes rows bytes result → JudgeEnds rows before before_faults after after_faults result
judges rows before before_faults bytes after after_faults (Ok c) read text =
    let kept = kept_text rows before bytes after c read text in
    record { bytes = bytes; read_whole = kept.0; text = kept.1 }
judges rows before before_faults bytes after after_faults (Err refusal) read judged =
    refuses_text rows before before_faults bytes after after_faults refusal read judged

-- ---- the collections

-- a graph that was checked over the rows of a catalogue has these rows
pub found_rows : (rows : List Row) (dims : List DimsRow) (bytes : List ℕ) (result : Result CheckedGraph InputRefusal)
    → JudgesBytes dims bytes result → AreDimsOf rows dims → IfOk result (λ c. AreDimsOf rows c.rows)
found_rows rows dims bytes (Ok c) text found =
    subst (AreDimsOf rows) (sym (ap (λ (k : CheckedGraph). k.rows) text.checked_is)) found
found_rows rows dims bytes (Err refusal) judged found = tt
