-- Pieces of bytes that are read.
use Rattle.std.proofs.Common.{◌≡◌, ℕ, ◌+◌, ◌≤◌, List, length, drop, sym, ◌∙◌, arith}
use Rattle.std.proofs.lemmas.List.{drop_all}

pub nothing_behind : (bytes : List ℕ) (n : ℕ) → length bytes ≤ n → drop (length bytes) bytes ≡ drop (n + 1) bytes
nothing_behind bytes n le = drop_all (length bytes) bytes (omega arith) ∙ sym (drop_all (n + 1) bytes (omega (arith, le)))
