use Rattle.std.proofs.Common.{◌≡◌, ◌<◌, ◌≤◌, ℕ, List, length, map, get_or, Bor, Option, option_map, sym, ap, ◌∙◌, subst, arith}
use Rattle.std.proofs.lemmas.Result.{IfOk-weaker}
use Rattle.oe_graph.specs.Plain.{plain_nodes, plain_stored}
use Rattle.oe_graph.specs.Tree.{PlainStored}
use Rattle.oe_graph.specs.declared.stored.StoredProcess.{StoredProcess}
use Rattle.oe_graph.specs.declared.tree.Node.{Node}
use Rattle.oe_calls.specs.Calls.{callee}
use Rattle.oe_calls.specs.Rounds.{index_of, landed, landing, under_id}
use Rattle.oe_calls.proofs.RoundLemmas.{index_of-within, landed-none, landed-at}
use Rattle.oe_calls.proofs.rounds.landing_id.Goals as goal

pub returns-then-index-len : goal.returns-then-index-len
returns-then-index-len c =
    let ns : List Node = c.args.all.now.items in
    let id : List ℕ = c.args.id.now in
    let at : c.args.index ≡ index_of id (plain_nodes ns) = c.requires in
    let count = c.args.all.now.ok.0 in
    let past : length ns ≤ index_of id (plain_nodes ns) = omega arith in
    IfOk-weaker c.of.result _ _
    (λ text is. is ∙ sym (landed-none (map plain_stored c.args.stored.now) ns id past)) c.of.ensures

pub index-requires : goal.index-requires
index-requires c =
    let ns : List Node = c.args.all.now.items in
    let id : List ℕ = c.args.id.now in
    let at : c.args.index ≡ index_of id (plain_nodes ns) = c.requires in
    let count = c.args.all.now.ok.0 in
    let within = index_of-within id ns in
    omega arith

-- what a node at an index means
module _ (stored : List PlainStored) (ns : List Node) (id : List ℕ) (index : ℕ) (n : Node) (call : Option (Bor StoredProcess))
    (at : index ≡ index_of id (plain_nodes ns)) (below : index < length ns) (is : n ≡ get_or ns index n)
    (calls : option_map (λ (s : Bor StoredProcess). plain_stored s.now) call ≡ callee stored n.namespace n.process_id) where
  means : landed stored (plain_nodes ns) id ≡ landing id (option_map (λ (s : Bor StoredProcess). plain_stored s.now) call)
  means =
      landed-at stored ns id n (subst (λ i. i < length ns) at below) (subst (λ i. n ≡ get_or ns i n) at is)
      ∙ ap (landing id) (sym calls)

pub returns-in-Some : goal.returns-in-Some
returns-in-Some c =
    let ns : List Node = c.args.all.now.items in
    let id : List ℕ = c.args.id.now in
    let at : c.args.index ≡ index_of id (plain_nodes ns) = c.requires in
    let count = c.args.all.now.ok.0 in
    let within = index_of-within id ns in
    let below : c.args.index < length ns = omega arith in
    let is = means (map plain_stored c.args.stored.now) ns id c.args.index c.index.result.now c.callee.result
    at below c.index.ensures c.callee.ensures
    ∙ ap (λ (o : Option (Bor StoredProcess)). landing id (option_map (λ (s : Bor StoredProcess). plain_stored s.now) o)) c.in-Some.is in
    IfOk-weaker c.under_id.result _ _
    (λ text same. same ∙ (ap (under_id id) c.id_at.ensures ∙ sym is)) c.under_id.ensures

pub returns-in-None : goal.returns-in-None
returns-in-None c =
    let ns : List Node = c.args.all.now.items in
    let id : List ℕ = c.args.id.now in
    let at : c.args.index ≡ index_of id (plain_nodes ns) = c.requires in
    let count = c.args.all.now.ok.0 in
    let within = index_of-within id ns in
    let below : c.args.index < length ns = omega arith in
    let is = means (map plain_stored c.args.stored.now) ns id c.args.index c.index.result.now c.callee.result
    at below c.index.ensures c.callee.ensures
    ∙ ap (λ (o : Option (Bor StoredProcess)). landing id (option_map (λ (s : Bor StoredProcess). plain_stored s.now) o)) c.in-None.is in
    IfOk-weaker c.of-in-None.result _ _ (λ text same. same ∙ sym is) c.of-in-None.ensures
