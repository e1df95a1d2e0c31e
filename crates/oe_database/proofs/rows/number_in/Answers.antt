use Rattle.std.proofs.Common.{◌≡◌, ◌∙◌, ◌<◌, ℕ, ap, get_or, length, rules, sym, w64}
use Rattle.std.specs.Int.{to_be_bytes}
use Rattle.std.proofs.lemmas.Nat.{be_bytes_8}
use Rattle.sqlite_value.specs.declared.value.Value.TheVariants.{Blob}
use Rattle.oe_database.proofs.rows.number_in.Goals as goal

pub returns-in-Ok : goal.returns-in-Ok
returns-in-Ok c =
    let items = c.in_ok-bytes.bytes.items in
    let whole = c.in-Ok.ensures.1 in
    let same : c.in-Ok.bytes ≡ items = whole.same ∙ c.as_slice.ensures.value in
    let long : length items ≡ 8 = ap length (sym c.as_slice.ensures.value) ∙ whole.long in
    let small : (i : ℕ) → get_or items i 0 < 256 = search rules in
    let bytes : to_be_bytes w64 c.from_be_bytes.result ≡ items =
    be_bytes_8 items c.from_be_bytes.result long small (rw same at c.from_be_bytes.ensures) in
    c.in_ok-bytes.ensures.ok.1 ∙ ap Blob (sym bytes)
