use Rattle.std.proofs.Common.{◌≡◌, ℕ, ◌<◌, ◌≤◌, ◌+◌, ◌||◌, Bool, true, false, eqb, List, ◌∷◌, [], ◌++◌, length, get_or, set, take, refl, sym, ap, ◌∙◌, subst, arith}
use Rattle.std.proofs.lemmas.Bool.{eqb-true}
use Rattle.std.proofs.lemmas.List.{take_more, take-append-le, length-take, length-set, length_push, get_or_read}
use Rattle.oe_order.specs.Order.{contains}
use Rattle.oe_order.specs.Marks.{IsMarked}
use Rattle.oe_order.proofs.Lists.{contains-at, contains-push, or_assoc, or_same, or_swap, count, items, IsMarked-set, IsMarked-count}
use Rattle.oe_order.proofs.run.mark_new.Invariants.{Finds}
use Rattle.oe_order.proofs.run.mark_new.Goals as goal
use Rattle.oe_order.proofs.run.mark_new.Goals.{then-not-index+in_ok-push, else-not-index}

contains-take_more : (xs : List ℕ) (k n : ℕ) → k < length xs → contains (take (k + 1) xs) n ≡ contains (take k xs) n || eqb (get_or xs k 0) n
contains-take_more xs k n h = ap (λ ys. contains ys n) (take_more xs k 0 h) ∙ contains-push (take k xs) (get_or xs k 0) n

Finds-mark : (named : List ℕ) (k x : ℕ) (old new new' : List ℕ) (before marks marks' : List Bool) → Finds named k old new before marks →
    k < length named → x ≡ get_or named k 0 → x < length marks → get_or marks x false ≡ false →
    new' ≡ new ++ x ∷ [] → marks' ≡ set marks x true → Finds named (k + 1) old new' before marks'
Finds-mark named k x old new new' before marks marks' f h is in' fresh e d =
    let absent : contains new x ≡ false = sym (f.marked.same x) ∙ fresh in
    let short : length old ≤ length new = omega (arith, ap length f.kept, length-take (length old) new) in
    record {
      len = ap length d ∙ length-set marks x true ∙ f.len;
      marked = record {
        same = λ n. ap (λ ms. get_or ms n false) d ∙ IsMarked-set marks new x n f.marked in' ∙ or_swap (eqb x n) (contains new n) ∙ sym (contains-push new x n) ∙ sym (ap (λ ys. contains ys n) e);
        once = ap (λ ms. count ms) d ∙ IsMarked-count marks new x f.marked in' absent ∙ sym (length_push new x) ∙ sym (ap length e);
      };
      found = λ n. ap (λ ys. contains ys n) e ∙ contains-push new x n ∙ ap (λ b. b || eqb x n) (f.found n)
          ∙ or_assoc (contains old n) (contains (take k named) n) (eqb x n)
          ∙ ap (λ y. contains old n || (contains (take k named) n || eqb y n)) is
          ∙ sym (ap (λ b. contains old n || b) (contains-take_more named k n h));
      kept = ap (take (length old)) e ∙ take-append-le (length old) new (x ∷ []) short ∙ f.kept;
    }

Finds-skip : (named : List ℕ) (k x : ℕ) (old new new' : List ℕ) (before marks marks' : List Bool) → Finds named k old new before marks →
    k < length named → x ≡ get_or named k 0 → get_or marks x false ≡ true →
    new' ≡ new → marks' ≡ marks → Finds named (k + 1) old new' before marks'
Finds-skip named k x old new new' before marks marks' f h is there e d =
    let had : contains new x ≡ true = sym (f.marked.same x) ∙ there in
    record {
      len = ap length d ∙ f.len;
      marked = subst (λ ms. IsMarked ms new') (sym d) (subst (λ ys. IsMarked marks ys) (sym e) f.marked);
      found = λ n. ap (λ ys. contains ys n) e ∙ or_same (contains new n) (eqb x n) (λ q. subst (λ m. contains new m ≡ true) (eqb-true x n q) had)
          ∙ ap (λ b. b || eqb x n) (f.found n)
          ∙ or_assoc (contains old n) (contains (take k named) n) (eqb x n)
          ∙ ap (λ y. contains old n || (contains (take k named) n || eqb y n)) is
          ∙ sym (ap (λ b. contains old n || b) (contains-take_more named k n h));
      kept = ap (take (length old)) e ∙ f.kept;
    }

pub index-requires : goal.index-requires
index-requires c =
    let h = c.requires.within _ (contains-at c.args.named.now c.loop-node.node-index 0 (omega arith)) in
    omega (arith, h, c.loop-node.invariant.len, c.loop-node.marks.ok.0)

pub index_mut-requires : goal.index_mut-requires
index_mut-requires c =
    let h = c.requires.within _ (contains-at c.args.named.now c.loop-node.node-index 0 (omega arith)) in
    omega (arith, h, c.loop-node.invariant.len, c.loop-node.marks.ok.0)

pub loop-node-preserved : goal.loop-node-preserved
loop-node-preserved c =
    let x = get_or c.args.named.now c.loop-node.node-index 0 in
    let h : x < length c.args.marks.now.items = c.requires.within x (contains-at c.args.named.now c.loop-node.node-index 0 (omega arith)) in
    let in' : x < length c.loop-node.marks.items = omega (arith, h, c.loop-node.invariant.len) in
    let mark : c.index.result.now ≡ get_or c.loop-node.marks.items x false = get_or_read c.loop-node.marks.items x c.index.result.now in' c.index.ensures false in
    elim c.if-not-index.branch [
      | then-not-index+in_ok-push w ↦ Finds-mark c.args.named.now c.loop-node.node-index x _ c.loop-node.found.items _ _ c.loop-node.marks.items _ c.loop-node.invariant (omega arith) refl in' (sym mark ∙ w.if-not-index.true) (ap items w.found-is ∙ w.in_ok-push.ensures.items) (ap items w.marks-is)
      | else-not-index w ↦ Finds-skip c.args.named.now c.loop-node.node-index x _ c.loop-node.found.items _ _ c.loop-node.marks.items _ c.loop-node.invariant (omega arith) refl (sym mark ∙ w.if-not-index.false) (ap items w.found-is) (ap items w.marks-is)
    ]
