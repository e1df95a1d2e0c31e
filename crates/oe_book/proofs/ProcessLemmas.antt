-- A text is that of a process just where its one value is a graph and the text is the value's.
use Rattle.std.proofs.Common.{◌≡◌, ◌↔◌, ℕ, Bool, List, sym, ap, ◌∙◌, subst, arith}
use Rattle.std.specs.Prelude.{IsTrue}
use Rattle.serde_json.specs.Data.{Data}
use Rattle.oe_dims.specs.Names.{same_name}
use Rattle.oe_dims.proofs.OrderLemmas.{same_name_is, same_name_refl}
use Rattle.oe_graph.specs.Faults.{IsLeast}
use Rattle.oe_graph.specs.Form.{IsReading, Stands, StandsIn, graph_unreadable, input_too_long, of_value}
use Rattle.oe_graph.specs.Read.{IsFaultless}
use Rattle.oe_graph.specs.declared.fault.Fault.{Fault}
use Rattle.oe_graph.proofs.ReadLemmas.{same_value}
use Rattle.oe_jobs.specs.Valid.{IsProcessText}
use Rattle.oe_book.specs.Process.{IsTextOf}

abbrev IsGraphText : Data → List ℕ → Type 0
IsGraphText d text = IsTextOf d text × IsFaultless (StandsIn d)

pub process_by : (text : List ℕ) (d : Data) → IsReading text d → IsTextOf d text → IsFaultless (StandsIn d) → IsProcessText text
process_by text d is text_of faultless = record {
  value = d;
  is_read = is;
  compact = text_of.compact;
  whole = text_of.whole;
  faultless = faultless;
  short = text_of.short;
}

pub process_found : (text : List ℕ) (d : Data) (told : Bool) → IsReading text d → (IsTrue told ↔ IsGraphText d text)
    → IsTrue told ↔ IsProcessText text
process_found text d told is found = (
  λ t. let h = found.0 t in process_by text d is h.0 h.1,
  λ p. found.1 (subst (λ (e : Data). IsGraphText e text) (same_value text p.value d p.is_read is)
      (record { compact = p.compact; whole = p.whole; short = p.short }, p.faultless)),
)

-- where a fault is the least one, one stands
pub fault_stands : (d : Data) (fault : Fault) → IsLeast (StandsIn d) fault → IsFaultless (StandsIn d) → ⊥
fault_stands d fault least faultless = faultless fault.code fault.node least.stands

-- what was written is the text of a value just where it is the one text of the value
pub text_is : (d : Data) (written text : List ℕ) (same : Bool) → IsTextOf d written → same ≡ same_name written text
    → IsTrue same ↔ IsTextOf d text
text_is d written text same is told = (
  λ t. subst (IsTextOf d) (sym (same_name_is written text (sym told ∙ t))) is,
  λ of.
      let equal : written ≡ text = is.compact ∙ sym of.compact in
      told ∙ (ap (same_name written) (sym equal) ∙ same_name_refl written),
)

-- no fault of its form stands in the text of a process
pub process_faultless : (text : List ℕ) → IsProcessText text → IsFaultless (Stands text)
process_faultless text p code name (input_too_long long) = absurd (omega (arith, long, p.short))
process_faultless text p code name (graph_unreadable none) = none p.value p.is_read
process_faultless text p code name (of_value {d} is stands) =
    p.faultless code name (subst (λ (e : Data). StandsIn e code name) (same_value text d p.value is p.is_read) stands)

pub no_fault : (text : List ℕ) (fault : Fault) → IsProcessText text → IsLeast (Stands text) fault → ⊥
no_fault text fault p least = process_faultless text p fault.code fault.node least.stands
