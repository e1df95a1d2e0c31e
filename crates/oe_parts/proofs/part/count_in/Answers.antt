use Rattle.std.proofs.Common.{rules, ◌≡◌, ◌<◌, ◌+◌, ◌-◌, ℕ, List, length, get_or, drop, sym, ap, ◌∙◌, subst, arith}
use Rattle.std.proofs.lemmas.List.{get_or-drop, length-drop, take_all}
use Rattle.oe_parts.proofs.OpenLemmas.{start_made, too_long}
use Rattle.oe_parts.proofs.part.count_in.Goals as goal

pub returns-then-count-gt-MOST_HEADER : goal.returns-then-count-gt-MOST_HEADER
returns-then-count-gt-MOST_HEADER c =
    let start = c.args.start.now in
    let four = c.copy_from_slice.new.self in
    let back : four ≡ drop 8 start = c.copy_from_slice.ensures.after ∙ take_all (length start - 8) (drop 8 start) (omega (arith, length-drop 8 start)) in
    too_long start four c.from_be_bytes-count.result back c.from_be_bytes-count.ensures c.if-count-gt-MOST_HEADER.true

pub returns : goal.returns
returns c =
    let start = c.args.start.now in
    let four = c.copy_from_slice.new.self in
    let back : four ≡ drop 8 start = c.copy_from_slice.ensures.after ∙ take_all (length start - 8) (drop 8 start) (omega (arith, length-drop 8 start)) in
    let small : (k : ℕ) → get_or start k 0 < 256 = search rules in
    let long : length four ≡ 4 = ap length back ∙ length-drop 8 start ∙ omega (arith, c.requires) in (
      start_made start four c.from_be_bytes-count.result (c.is_version.ensures.0 c.if-not-is_version.false) back long
          (λ i. subst (λ (n : ℕ). n < 256) (sym (ap (λ (bs : List ℕ). get_or bs i 0) back ∙ get_or-drop 8 start i 0)) (small (8 + i)))
          c.from_be_bytes-count.ensures,
      omega (arith, c.if-count-gt-MOST_HEADER.false),
    )
