-- Names as lines spell them, byte by byte.
use Rattle.std.proofs.Common.{◌≡◌, ◌<◌, ◌∙◌, ◌++◌, ◌+◌, ℕ, List, length, take, get_or, sym, ap}
use Rattle.std.proofs.lemmas.List.{flat_map_more, take_more}
use Rattle.oe_adapters.specs.Setup.{spelled_byte, spelled_name}

-- one byte more
pub spelled-more : (start name : List ℕ) (index : ℕ) → index < length name → (start ++ spelled_name (take index name)) ++ spelled_byte (get_or name index 0) ≡ start ++ spelled_name (take (index + 1) name)
spelled-more start name index within =
    flat_map_more spelled_byte start (take index name) (get_or name index 0)
    ∙ ap (λ (xs : List ℕ). start ++ spelled_name xs) (sym (take_more name index 0 within))
