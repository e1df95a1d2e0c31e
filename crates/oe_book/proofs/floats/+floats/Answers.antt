use Rattle.std.proofs.Common.{◌≡◌, ◌||◌, [], ◌∷◌, ◌++◌, sym, ap, ◌∙◌, append_assoc}
use Rattle.serde_json.specs.View.{members_view}
use Rattle.serde_json.specs.Written.{members_have_float}
use Rattle.serde_json.proofs.Views.{Entry}
use Rattle.oe_book.proofs.floats.+floats.Goals as goal

pub has_float_member-loop-member-preserved : goal.has_float_member-loop-member-preserved
has_float_member-loop-member-preserved t c =
    let l = c.loop-member in
    let done = l.invariant.0 in
    let e : Entry = (c.in-Some.field-0-0.now, c.in-Some.member.now) in
    let left = c.next.new.self in
    let all : c.args.members.now.entries ≡ done ++ e ∷ left = l.invariant.1 ∙ ap (λ es. done ++ es) c.in-Some.ensures.steps in (
      done ++ e ∷ [],
      all ∙ sym (append_assoc done (e ∷ []) left),
      l.invariant.2 ∙ (ap (λ es. members_have_float (members_view es)) c.in-Some.ensures.steps
          ∙ ap (λ b. b || members_have_float (members_view left)) (sym c.has_float.ensures ∙ c.if-has_float.false)),
    )
