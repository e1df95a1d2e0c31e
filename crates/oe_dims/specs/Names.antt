-- Names of bands, collections and nodes: 1 to 64 bytes of letters, digits, `_`, `-` and `.`.
use Rattle.std.specs.Prelude.{◌≡◌, ◌<◌, ℕ, ◌&&◌, ◌||◌, ◌==◌, not, nat_le, Bool, true, false, List, [], ◌∷◌, length, map}
use Rattle.std.specs.List.{list_all, list_any, slice_index_or, All}
use Rattle.std.specs.Cmp.Lexicographic.{slice_cmp}
use Rattle.std.specs.Ordering.{nat_cmp, is_lt}

-- the same bytes
abbrev pub same_name : List ℕ → List ℕ → Bool
same_name [] [] = true
same_name (a ∷ name) (b ∷ other) = (a == b) && same_name name other
same_name _ _ = false

-- a byte from low to high
abbrev pub is_byte_in : ℕ → ℕ → ℕ → Bool
is_byte_in low high byte = nat_le low byte && nat_le byte high

-- a letter, a digit, `_`, `-` or `.`
abbrev pub is_name_byte : ℕ → Bool
is_name_byte byte =
    is_byte_in 65 90 byte || is_byte_in 97 122 byte || is_byte_in 48 57 byte
    || (byte == 95) || (byte == 45) || (byte == 46)

-- a valid name
abbrev pub is_name : List ℕ → Bool
is_name name = nat_le 1 (length name) && nat_le (length name) 64 && list_all is_name_byte name

-- in the order of bytes the first name stands before the other
abbrev pub is_name_before : List ℕ → List ℕ → Bool
is_name_before a b = is_lt (slice_cmp nat_cmp a b)

-- each name stands before the next in the order of bytes
abbrev pub names_rise : List (List ℕ) → Bool
names_rise [] = true
names_rise (a ∷ []) = true
names_rise (a ∷ b ∷ names) = is_name_before a b && names_rise (b ∷ names)

-- the names that stand at these indices
abbrev pub names_at : List (List ℕ) → List ℕ → List (List ℕ)
names_at names indices = map (λ index. slice_index_or names index []) indices

-- none of the others is one of the names
abbrev pub are_apart : List (List ℕ) → List (List ℕ) → Bool
are_apart names others = list_all (λ other. not (list_any (same_name other) names)) others

-- these indices put the names into byte order: each is that of a name, the names rise at them, and none is left out
pub record OrdersNames (names : List (List ℕ)) (order : List ℕ) : Type 0 where
  pub within : All (λ index. index < length names) order
  pub rise : names_rise (names_at names order) ≡ true
  pub whole : (name : List ℕ) → list_any (same_name name) (names_at names order) ≡ list_any (same_name name) names
