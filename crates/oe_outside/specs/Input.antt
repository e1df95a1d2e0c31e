-- Reading a whole source, up to a limit.
use Rattle.std.specs.Prelude.{◌≡◌, ℕ, ◌+◌, ◌≤◌, List, [], ◌++◌, length, drop, Option, IfSome}
use Rattle.std.specs.Option.{option_map}
use Rattle.oe_outside.specs.Visible.{Gave, TakesFront}

-- at most so many bytes were taken from the front of what was left, where it is visible
abbrev pub TakesAtMost : Option (List ℕ) → ℕ → Option (List ℕ) → Type 0
TakesAtMost before limit after = (n : ℕ) × (n ≤ limit) × (after ≡ option_map (drop n) before)

-- These bytes stood in front, and they are all unless they pass the limit. They pass it by one byte at most.
pub record ReadsUpTo (limit : ℕ) (before : Option (List ℕ)) (bytes : List ℕ) (after : Option (List ℕ)) : Type 0 where
  pub front : TakesFront before (length bytes) bytes after
  pub most : length bytes ≤ limit + 1
  pub whole : length bytes ≤ limit → IfSome after (λ rest. rest ≡ [])

-- One read put these bytes behind those that were held, up to one over the limit, and none only where none was left.
pub record ReadsMore (limit : ℕ) (before : Option (List ℕ)) (count : ℕ) (held bytes : List ℕ)
    (after : Option (List ℕ)) : Type 0 where
  pub given : List ℕ
  pub follows : bytes ≡ held ++ given
  pub gave : Gave before given after
  pub counted : length given ≡ count
  pub most : length bytes ≤ limit + 1
  pub end : count ≡ 0 → IfSome after (λ rest. rest ≡ [])
