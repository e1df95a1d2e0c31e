use Rattle.std.proofs.Common.{◌≡◌, ◌∙◌, ◌++◌, ℕ, List, slice_index_or, sym, ap}
use Rattle.std.proofs.lemmas.List.{append-nil, take_all}
use Rattle.oe_adapters.specs.Setup.{spelled_byte, spelled_name}
use Rattle.oe_adapters.proofs.Spelled.{spelled-more}
use Rattle.oe_adapters.proofs.fault.spell_name.Goals as goal

pub loop-byte-init : goal.loop-byte-init
loop-byte-init c = sym (append-nil c.args.line.now.items)

pub loop-byte-preserved : goal.loop-byte-preserved
loop-byte-preserved c =
    let byte = slice_index_or c.args.name.now c.loop-byte.byte-index 0 in
    c.in_ok-spell_byte.ensures
    ∙ ap (λ (start : List ℕ). start ++ spelled_byte byte) c.loop-byte.invariant
    ∙ spelled-more c.args.line.now.items c.args.name.now c.loop-byte.byte-index c.loop-byte-test.true

pub returns : goal.returns
returns c =
    c.loop-byte.invariant
    ∙ ap (λ (seen : List ℕ). c.args.line.now.items ++ spelled_name seen) (take_all c.loop-byte.byte-index c.args.name.now c.loop-byte-test.false)
