-- Which fault is refused: those of calls come before that of size, and this one before those of names.
use Rattle.std.proofs.Common.{◌≡◌, ◌<◌, ℕ, ◌⊎◌, inl, inr, List, [], Option, Some, None, refl, sym, ap, ◌∙◌, subst, arith}
use Rattle.oe_graph.specs.Codes.{phase_of}
use Rattle.oe_graph.specs.Faults.{is_before, IsLeast, IsLeastFault}
use Rattle.oe_graph.specs.Tree.{PlainGraph, PlainStored}
use Rattle.oe_graph.specs.declared.code.Code.{Code}
use Rattle.oe_graph.specs.declared.code.Code.TheVariants.{GraphTooLarge}
use Rattle.oe_graph.specs.declared.fault.Fault.{Fault}
use Rattle.oe_graph.proofs.LeastLemmas.{IsLeastFault-earlier, IsLeastFault-one, Either}
use Rattle.oe_resolve.specs.Expansion.{IsNameFault}
use Rattle.oe_calls.specs.Faults as faults
use Rattle.oe_calls.specs.Faults.{StandsWithStored}
use Rattle.oe_calls.specs.Reached.{IsCallFault}

module _ (stored : List PlainStored) (g : PlainGraph) where
  -- what faults are of
  data Phase : Code → List ℕ → Type 0 where
    of_calls : {code : Code} {at : List ℕ} → phase_of code ≡ 2 → Phase code at
    of_size : Phase GraphTooLarge []
    of_names : {code : Code} {at : List ℕ} → phase_of code ≡ 4 → Phase code at

  phase : (code : Code) (at : List ℕ) → StandsWithStored stored g code at → Phase code at
  phase code at (faults.process_unsupported has brings stands) = of_calls refl
  phase code at (faults.process_recursive has reach reaches) = of_calls refl
  phase code at (faults.graph_too_large more) = of_size
  phase code at (faults.callback_too_large has brings written more) = of_size
  phase code at (faults.argument_unknown times h same there absent) = of_names refl
  phase code at (faults.process_parameter_missing times h same there default optional absent) = of_names refl
  phase code at (faults.parameter_unknown h there absent) = of_names refl
  phase code at (faults.node_unknown times h there absent) = of_names refl
  phase code at (faults.graph_cycle h leads) = of_names refl

  -- a fault of a later phase than that of calls
  abbrev Later : Fault → Type 0
  Later f = (2 < phase_of f.code) × StandsWithStored stored g f.code f.node

  call_or_later : (f : Fault) → StandsWithStored stored g f.code f.node → Either (IsCallFault stored g) Later f
  call_or_later f stands = by f.code f.node (phase f.code f.node stands) stands
    where
      by : (code : Code) (at : List ℕ) → Phase code at → StandsWithStored stored g code at
          → Either (IsCallFault stored g) Later (record { code = code; node = at })
      by code at (of_calls is) has = inl (is, has)
      by code at of_size has = inr (omega arith, has)
      by code at (of_names is) has = inr (omega (arith, is), has)

  pub of_calls_least : (o : Option Fault) (f : Fault) → IsLeastFault (IsCallFault stored g) o → o ≡ Some f
      → IsLeast (StandsWithStored stored g) f
  of_calls_least o f is found =
      let own : IsLeastFault (IsCallFault stored g) (Some f) = subst (IsLeastFault (IsCallFault stored g)) found is in
      let all = IsLeastFault-earlier (IsCallFault stored g) Later f own (λ h later. omega (arith, own.0.0, later.0)) in
      record {
        stands = own.0.1;
        least = λ other stands. all.1 other (call_or_later other stands);
      }

  abbrev too_large : Fault
  too_large = record { code = GraphTooLarge; node = [] }

  abbrev pub Named : Fault → Type 0
  Named = IsNameFault stored g

  module _ (o : Option Fault) (is : IsLeastFault (IsCallFault stored g) o) (none : o ≡ None) where
    no_call : (f : Fault) → ¬ IsCallFault stored g f
    no_call = subst (IsLeastFault (IsCallFault stored g)) none is

    size_or_name : (f : Fault) → StandsWithStored stored g f.code f.node → (f ≡ too_large) ⊎ Named f
    size_or_name f stands = by f.code f.node (phase f.code f.node stands) stands
      where
        by : (code : Code) (at : List ℕ) → Phase code at → StandsWithStored stored g code at
            → (record { code = code; node = at } ≡ too_large) ⊎ Named (record { code = code; node = at })
        by code at (of_calls is) has = absurd (no_call (record { code = code; node = at }) (is, has))
        by code at of_size has = inl refl
        by code at (of_names is) has = inr (is, has)

    pub of_size_least : (at : List ℕ) → at ≡ [] → StandsWithStored stored g GraphTooLarge []
        → IsLeast (StandsWithStored stored g) (record { code = GraphTooLarge; node = at })
    of_size_least at empty has =
        let all = IsLeastFault-earlier (λ f. f ≡ too_large) Named too_large (IsLeastFault-one too_large) (λ h named. omega (arith, named.0)) in
        subst (λ xs. IsLeast (StandsWithStored stored g) (record { code = GraphTooLarge; node = xs })) (sym empty) (record {
          stands = has;
          least = λ other stands. all.1 other (size_or_name other stands);
        })

    module _ (fits : ¬ StandsWithStored stored g GraphTooLarge []) (p : Option Fault) (least : IsLeastFault Named p) where
      named_only : (f : Fault) → StandsWithStored stored g f.code f.node → Named f
      named_only f stands = elim (size_or_name f stands) [
        | inl same ↦ absurd (fits (subst (λ (h : Fault). StandsWithStored stored g h.code h.node) same stands))
        | inr named ↦ named
      ]

      pub of_names_least : (f : Fault) → p ≡ Some f → IsLeast (StandsWithStored stored g) f
      of_names_least f found =
          let own : IsLeastFault Named (Some f) = subst (IsLeastFault Named) found least in
          record { stands = own.0.1; least = λ other stands. own.1 other (named_only other stands) }

      pub without_fault : p ≡ None → (code : Code) (node : List ℕ) → ¬ StandsWithStored stored g code node
      without_fault none_named code node stands =
          let own : IsLeastFault Named None = subst (IsLeastFault Named) none_named least in
          own (record { code = code; node = node }) (named_only (record { code = code; node = node }) stands)
