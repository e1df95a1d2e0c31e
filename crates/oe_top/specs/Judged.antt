-- What reading and judging an input answers: the checked graph that it is, or the least fault that stands in it.
use Rattle.std.specs.Prelude.{◌≡◌, ℕ, ◌+◌, ⊤, List, [], Option, Result, Ok, Err, IfSome}
use Rattle.oe_dims.specs.declared.dims.DimsRow.{DimsRow}
use Rattle.oe_graph.specs.Faults.{IsLeast}
use Rattle.oe_graph.specs.Form.{most_input}
use Rattle.oe_graph.specs.Read.{IsFaultless, Reads}
use Rattle.oe_graph.specs.Tree.{PlainGraph}
use Rattle.oe_graph.specs.declared.fault.Fault.{Fault}
use Rattle.oe_judge.specs.Judged.{checked_over}
use Rattle.oe_outside.specs.Faults.{NeverFalls, Rose}
use Rattle.oe_outside.specs.Input.{ReadsUpTo, TakesAtMost}
use Rattle.oe_check.specs.Checked.{CheckedGraph}
use Rattle.oe_sources.specs.CatalogueDims.{dims_of}
use Rattle.oe_top.specs.Faults.{StandsOver}
use Rattle.oe_top.specs.Objects.{IsReadWhole, Objects}
use Rattle.oe_top.specs.declared.judge.InputRefusal.{InputRefusal}
use Rattle.oe_top.specs.declared.judge.InputRefusal.TheVariants.{Graph, ReadFault, OutOfMemory}

module _ (rows : List DimsRow) where
  -- the bytes are the text of a graph in which no fault stands, and this is it with all defaults
  pub record IsCheckedText (bytes : List ℕ) (c : CheckedGraph) : Type 0 where
    pub graph : PlainGraph
    pub reads : Reads bytes graph
    pub valid : IsFaultless (StandsOver rows bytes)
    pub checked_is : c ≡ checked_over rows [] graph

  -- the whole input was read, and it is such a text
  pub record IsCheckedInput (before after : Option (List ℕ)) (c : CheckedGraph) : Type 0 where
    pub bytes : List ℕ
    pub read_whole : IsReadWhole before after bytes
    pub text : IsCheckedText bytes c

  -- these bytes, the whole input, were read and are such a text
  abbrev pub IsTextOfInput : Option (List ℕ) → Option (List ℕ) → List ℕ → CheckedGraph → Type 0
  IsTextOfInput before after bytes c = IsReadWhole before after bytes × IsCheckedText bytes c

  -- This is the least fault of the input. Over the limit one byte more was read; the fault is that of all of it, where
  -- it is visible.
  pub record IsFaultOfInput (before after : Option (List ℕ)) (fault : Fault) : Type 0 where
    pub bytes : List ℕ
    pub was_read : ReadsUpTo most_input before bytes after
    pub least : IsLeast (StandsOver rows bytes) fault
    pub of_all : IfSome before (λ all. IsLeast (StandsOver rows all) fault)

-- the whole input was read, and it is this graph, in which no fault stands over the collections
abbrev pub IsInput : Objects → Objects → CheckedGraph → Type 0
IsInput before after c = IsCheckedInput (dims_of before.collections) before.input after.input c

-- the same of an input with these bytes
abbrev pub IsInputText : Objects → Objects → List ℕ → CheckedGraph → Type 0
IsInputText before after text c = IsTextOfInput (dims_of before.collections) before.input after.input text c

-- why the input was not taken as a graph; out of memory has no cause
abbrev pub RefusesInput : List DimsRow → Option (List ℕ) → ℕ → Option (List ℕ) → ℕ → InputRefusal → Type 0
RefusesInput rows before before_faults after after_faults (Graph fault) = IsFaultOfInput rows before after fault
RefusesInput rows before before_faults after after_faults ReadFault = Rose before_faults after_faults
RefusesInput rows before before_faults after after_faults OutOfMemory = ⊤

-- the same over the collections of a call
abbrev pub IsRefused : Objects → Objects → InputRefusal → Type 0
IsRefused before after refusal =
    RefusesInput (dims_of before.collections) before.input before.input_faults after.input after.input_faults refusal

-- what reading and judging an input answers
abbrev pub JudgeEnds : List DimsRow → Option (List ℕ) → ℕ → Option (List ℕ) → ℕ → Result CheckedGraph InputRefusal → Type 0
JudgeEnds rows before before_faults after after_faults (Ok c) = IsCheckedInput rows before after c
JudgeEnds rows before before_faults after after_faults (Err refusal) =
    RefusesInput rows before before_faults after after_faults refusal

pub record JudgesInput (before : Option (List ℕ)) (before_faults : ℕ) (rows : List DimsRow) (after : Option (List ℕ))
    (after_faults : ℕ) (result : Result CheckedGraph InputRefusal) : Type 0 where
  pub ends : JudgeEnds rows before before_faults after after_faults result
  pub taken : TakesAtMost before (most_input + 1) after
  pub count : NeverFalls before_faults after_faults

-- what judging bytes answers, which are read already
abbrev pub JudgesBytes : List DimsRow → List ℕ → Result CheckedGraph InputRefusal → Type 0
JudgesBytes rows bytes (Ok c) = IsCheckedText rows bytes c
JudgesBytes rows bytes (Err (Graph fault)) = IsLeast (StandsOver rows bytes) fault
JudgesBytes rows bytes (Err ReadFault) = ⊥
JudgesBytes rows bytes (Err OutOfMemory) = ⊤
