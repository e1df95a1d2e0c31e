-- What people are told of a fault, line by line.
use Rattle.std.specs.Prelude.{◌≡◌, ℕ, List, [], ◌∷◌, ◌++◌, Option, Some, None, IsSome, codes, decimal}
use Rattle.oe_graph.specs.Codes.{name_of}
use Rattle.oe_graph.specs.Form as form
use Rattle.oe_graph.specs.Read.{Reads}
use Rattle.oe_graph.specs.Tree.{PlainGraph}
use Rattle.oe_graph.specs.declared.code.Code.{Code}
use Rattle.oe_graph.specs.declared.code.Code.TheVariants.{GraphUnreadable}
use Rattle.oe_graph.specs.declared.fault.Fault.{Fault}
use Rattle.oe_graph.specs.declared.table.ArgumentKind.{ArgumentKind}
use Rattle.oe_explain.specs.AtFault.{AtFault, at_fault}
use Rattle.oe_explain.specs.Words.{kind_words, hint_words}

-- a line: what it is of, and what is said of it
abbrev pub line : List ℕ → List ℕ → List ℕ
line of said = of ++ codes ": " ++ said ++ codes "\n"

-- of the graph as a whole no node is said
abbrev pub node_line : List ℕ → List ℕ
node_line [] = []
node_line (byte ∷ node) = line (codes "node") (byte ∷ node)

-- what an argument must hold, where that is known
abbrev pub must_hold_line : Option ArgumentKind → List ℕ
must_hold_line None = []
must_hold_line (Some kind) = line (codes "must hold") (kind_words kind)

abbrev pub argument_lines : Option AtFault → List ℕ
argument_lines None = []
argument_lines (Some a) = line (codes "argument") a.name ++ must_hold_line a.must_hold

-- where reading stopped: the number of the line from 1, and how many bytes of it were read
abbrev pub place_line : Option (ℕ × ℕ) → List ℕ
place_line None = []
place_line (Some place) =
    codes "stopped: line " ++ decimal place.0 ++ codes " column " ++ decimal place.1 ++ codes "\n"

-- all lines of a fault
abbrev pub explanation : Fault → Option AtFault → Option (ℕ × ℕ) → List ℕ
explanation fault argument place =
    line (codes "code") (name_of fault.code) ++ node_line fault.node ++ argument_lines argument ++ place_line place
    ++ line (codes "hint") (hint_words fault.code)

-- The text explains a fault where nothing is known of its argument. A place is said only of bytes that could not be
-- read; which, the reader of JSON says, and no definition.
pub record IsOfForm (fault : Fault) (text : List ℕ) : Type 0 where
  pub place : Option (ℕ × ℕ)
  pub unreadable : IsSome place → fault.code ≡ GraphUnreadable
  pub text_is : text ≡ explanation fault None place

-- The text explains a fault of bytes: with its argument where they are the text of a graph, and without one where a
-- fault stands in their form.
pub data Explains (bytes : List ℕ) (fault : Fault) (text : List ℕ) : Type 0 where
  of_graph : {g : PlainGraph} → Reads bytes g → text ≡ explanation fault (at_fault g fault) None
      → Explains bytes fault text
  of_form : {code : Code} {node : List ℕ} → form.Stands bytes code node → IsOfForm fault text
      → Explains bytes fault text
