use Rattle.std.proofs.Common.{◌≡◌, ◌≤◌, ◌<◌, ◌+◌, ◌&&◌, ℕ, Bool, true, false, List, drop, length, get_or, sym, ap, ◌∙◌, arith, rules}
use Rattle.std.proofs.lemmas.List.{at_drop_all, get_or_read}
use Rattle.oe_graph.specs.States.{is_sound, are_sound, state_at}
use Rattle.oe_graph.specs.declared.node_state.NodeState.{NodeState}
use Rattle.oe_graph.specs.declared.node_state.NodeState.TheVariants.{Unseen}
use Rattle.oe_graph.proofs.StateLemmas.{sound_next}
use Rattle.oe_graph.proofs.node_state.are_sound.Goals as goal

-- the rest of the list by the test of its first node
next : {Kept : Type 0} (states : List (NodeState Kept)) (indices : List ℕ) (i : ℕ) (s : NodeState Kept) (b : Bool)
    → i < length indices → s ≡ state_at states (get_or indices i 0) → b ≡ is_sound s
    → (b && are_sound states (drop (i + 1) indices)) ≡ are_sound states (drop i indices)
next states indices i s b within read tested =
    ap (λ t. t && are_sound states (drop (i + 1) indices)) (tested ∙ ap is_sound read) ∙ sym (sound_next states indices i within)

pub loop-index-preserved : goal.loop-index-preserved
loop-index-preserved g c =
    let indices = c.args.indices.now in
    let states = c.args.states.now in
    let i = c.loop-index.index-index in
    let k = get_or indices i 0 in
    let state = get_or_read states k c.index-states-index.result (c.requires i c.loop-index-test.true) c.index-states-index.is Unseen in
    let yes : c.is_sound.result ≡ true = search rules in
    ap (λ t. t && are_sound states (drop (i + 1) indices)) (sym yes)
    ∙ (next states indices i c.index-states-index.result c.is_sound.result c.loop-index-test.true state c.is_sound.ensures
    ∙ c.loop-index.invariant)

pub returns-then-not-is_sound : goal.returns-then-not-is_sound
returns-then-not-is_sound g c =
    let indices = c.args.indices.now in
    let states = c.args.states.now in
    let i = c.loop-index.index-index in
    let k = get_or indices i 0 in
    let state = get_or_read states k c.index-states-index.result (c.requires i c.loop-index-test.true) c.index-states-index.is Unseen in
    let not : c.is_sound.result ≡ false = search rules in
    ap (λ t. t && are_sound states (drop (i + 1) indices)) (sym not)
    ∙ (next states indices i c.index-states-index.result c.is_sound.result c.loop-index-test.true state c.is_sound.ensures
    ∙ c.loop-index.invariant)

pub returns : goal.returns
returns g c =
    let all : length c.args.indices.now ≤ c.loop-index.index-index = omega (arith, c.loop-index-test.false) in
    sym (at_drop_all (are_sound c.args.states.now) c.args.indices.now c.loop-index.index-index all) ∙ c.loop-index.invariant
