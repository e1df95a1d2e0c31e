use Rattle.std.proofs.Common.{◌≡◌, ◌<◌, length, get_or, Some, None, refl, sym, ap, ◌∙◌, subst, arith}
use Rattle.std.specs.List.{slice_get}
use Rattle.std.proofs.lemmas.List.{get_or_read, get_or-set_other}
use Rattle.oe_order.specs.Graph.{arguments}
use Rattle.oe_order.proofs.Lists.{contains-at}
use Rattle.oe_order.proofs.Gets.{get_at, get_past}
use Rattle.oe_order.proofs.Kept.{IsKept-wait, IsKept-ready}
use Rattle.oe_order.proofs.listing.Queue.park.Goals as goal

pub index-requires-in-Some : goal.index-requires-in-Some
index-requires-in-Some c =
    let k = c.in-Some.ensures.lookup in
    let h : c.in-Some.argument.now < length c.args.self.now.first.items = subst (λ m. m < length c.args.self.now.first.items) (sym (k.3.1 0)) (c.requires.within _ (contains-at c.args.named.now c.index.result.now 0 k.3.0)) in
    omega (arith, c.args.self.now.first.ok.0)

pub index_mut-requires-in-Some : goal.index_mut-requires-in-Some
index_mut-requires-in-Some c =
    let k = c.in-Some.ensures.lookup in
    let h : c.in-Some.argument.now < length c.args.self.now.first.items = subst (λ m. m < length c.args.self.now.first.items) (sym (k.3.1 0)) (c.requires.within _ (contains-at c.args.named.now c.index.result.now 0 k.3.0)) in
    omega (arith, c.args.self.now.first.ok.0)

pub returns-in-Some-clause-kept : goal.returns-in-Some-clause-kept
returns-in-Some-clause-kept c = λ nodes kept is h out k.
    let u = c.args.node in
    let a = c.in-Some.argument.now in
    let l = c.in-Some.ensures.lookup in
    let first = c.args.self.now.first.items in
    let passed = c.args.self.now.passed.items in
    let in' : a < length first = subst (λ m. m < length first) (sym (l.3.1 0)) (c.requires.within _ (contains-at c.args.named.now c.index.result.now 0 l.3.0)) in
    let at : c.index.result.now ≡ get_or passed u 0 = get_or_read passed u c.index.result.now (omega (arith, c.requires.passes)) c.index.ensures 0 in
    let lacks' : slice_get (arguments nodes u) (get_or passed u 0) ≡ Some a =
    ap (λ ys. slice_get ys (get_or passed u 0)) is ∙ ap (slice_get c.args.named.now) (sym at) ∙ get_at c.args.named.now c.index.result.now l.3.0 ∙ ap Some (sym (l.3.1 0)) in
    let old : c.index-in-Some.result.now ≡ get_or first a None = get_or_read first a c.index-in-Some.result.now in' c.index-in-Some.ensures None in
    rw old (IsKept-wait nodes first c.args.self.now.next.items passed _ kept u a k out h (omega (arith, in', k.firsts)) lacks')

pub returns-in-Some-clause-others : goal.returns-in-Some-clause-others
returns-in-Some-clause-others c = λ b ne.
    let u = c.args.node in
    let a = c.in-Some.argument.now in
    let l = c.in-Some.ensures.lookup in
    let passed = c.args.self.now.passed.items in
    let at : c.index.result.now ≡ get_or passed u 0 = get_or_read passed u c.index.result.now (omega (arith, c.requires.passes)) c.index.ensures 0 in
    let lacks' : slice_get c.args.named.now (get_or passed u 0) ≡ Some a =
    ap (slice_get c.args.named.now) (sym at) ∙ get_at c.args.named.now c.index.result.now l.3.0 ∙ ap Some (sym (l.3.1 0)) in
    get_or-set_other c.args.self.now.first.items a b (Some u) None (λ e. ne (lacks' ∙ ap Some (sym e)))

pub returns-in_ok-push-in-None-clause-kept : goal.returns-in_ok-push-in-None-clause-kept
returns-in_ok-push-in-None-clause-kept c = λ nodes kept is h out k.
    let u = c.args.node in
    let l = c.in-None.ensures.lookup in
    let passed = c.args.self.now.passed.items in
    let at : c.index.result.now ≡ get_or passed u 0 = get_or_read passed u c.index.result.now (omega (arith, c.requires.passes)) c.index.ensures 0 in
    let lacks' : slice_get (arguments nodes u) (get_or passed u 0) ≡ None =
    ap (λ ys. slice_get ys (get_or passed u 0)) is ∙ ap (slice_get c.args.named.now) (sym at) ∙ get_past c.args.named.now c.index.result.now l.3 in
    let e = c.in_ok-push-in-None.ensures in
    IsKept-ready nodes c.args.self.now.first.items c.args.self.now.next.items passed _ kept u _ _ k out h lacks' refl e.permutation (e.heap_order k.least_first)
