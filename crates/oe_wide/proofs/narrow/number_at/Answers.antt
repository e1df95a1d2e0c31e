use Rattle.std.proofs.Common.{◌≡◌, ◌<◌, ℕ, List, get_or, take, drop, w64, FitsSigned, to_z, of_z, IfSome, sym, ap, ◌∙◌, subst, rules}
use Rattle.std.proofs.lemmas.Int.{to_z-of_z}
use Rattle.oe_wide.specs.Wide.{IsRecordIn, nine_bytes}
use Rattle.oe_wide.specs.declared.width.Width.TheVariants.{Nine}
use Rattle.oe_wide.proofs.NineLemmas.{nine_bytes-read}
use Rattle.oe_wide.proofs.narrow.number_at.Goals as goal

whole : (c : goal.After-unpack_number) → nine_bytes (get_or c.args.bytes.now c.args.at 0) (to_z w64 (of_z w64 c.from_be_bytes.result)) ≡ take 9 (drop c.args.at c.args.bytes.now)
whole c =
    let small : (k : ℕ) → get_or c.args.bytes.now k 0 < 256 = search rules in
    let fits : FitsSigned w64 c.from_be_bytes.result = search rules in
    nine_bytes-read c.args.bytes.now c.eight.result c.args.at (to_z w64 (of_z w64 c.from_be_bytes.result)) c.requires small c.eight.ensures (to_z-of_z w64 c.from_be_bytes.result fits ∙ c.from_be_bytes.ensures)

pub returns-clause-found : goal.returns-clause-found
returns-clause-found c =
    subst (λ (bs : List ℕ). IfSome c.unpack_number.result (IsRecordIn Nine bs)) (whole c) c.unpack_number.ensures.found

pub returns-clause-complete : goal.returns-clause-complete
returns-clause-complete c cell h numeric =
    c.unpack_number.ensures.complete cell (subst (λ (bs : List ℕ). IsRecordIn Nine bs cell) (sym (whole c)) h) numeric
