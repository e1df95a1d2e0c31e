-- The file of tokens: a line `USER TOKEN` with a line feed for each user.
use Rattle.std.specs.Prelude.{◌≡◌, ⊤, ℕ, ◌+◌, ◌==◌, ◌&&◌, ◌||◌, nat_le, nat_lt, not, if◌then◌else◌, Bool, bytes_eq, List, [], ◌∷◌, ◌++◌, length, Result, Ok, Err}
use Rattle.std.specs.List.{before_first, after_first, list_all, list_any}
use Rattle.oe_dims.specs.Names.{is_byte_in}
use Rattle.oe_dims.specs.Lists.{lines_of}
use Rattle.oe_routes.specs.declared.tokens.TokensFail.{TokensFail}
use Rattle.oe_routes.specs.declared.tokens.TokensFail.TheVariants.{Invalid, OutOfMemory}

-- a user and the user's token
abbrev pub Entry : Type 0
Entry = List ℕ × List ℕ

abbrev pub has_user : List ℕ → Entry → Bool
has_user user entry = bytes_eq entry.0 user

abbrev pub has_token : List ℕ → Entry → Bool
has_token token entry = bytes_eq entry.1 token

-- ---- a line

-- a letter, a digit or `_`
abbrev pub is_id_byte : ℕ → Bool
is_id_byte byte = is_byte_in 65 90 byte || is_byte_in 97 122 byte || is_byte_in 48 57 byte || (byte == 95)

-- the id of a user, as that of a stored process: 1 to 64 of these
abbrev pub is_id : List ℕ → Bool
is_id text = nat_le 1 (length text) && nat_le (length text) 64 && list_all is_id_byte text

-- a token: 1 to 128 bytes that are printed, and no blank
abbrev pub is_token : List ℕ → Bool
is_token token = nat_le 1 (length token) && nat_le (length token) 128 && list_all (is_byte_in 33 126) token

abbrev pub is_blank : ℕ → Bool
is_blank byte = byte == 32

-- what stands before the first blank of a line, and what stands behind it
abbrev pub entry_in : List ℕ → Entry
entry_in line = (before_first is_blank line, after_first is_blank line)

abbrev pub most_users : ℕ
most_users = 8

-- an entry may stand behind those before it
abbrev pub may_follow : List Entry → Entry → Bool
may_follow before entry =
    is_id entry.0 && is_token entry.1 && nat_lt (length before) most_users
    && not (list_any (has_user entry.0) before) && not (list_any (has_token entry.1) before)

-- ---- the file

-- the entries of these lines behind those before them, or the number of the first bad line, from 1
abbrev pub entries_from : List Entry → List (List ℕ) → Result (List Entry) ℕ
entries_from before [] = Ok before
entries_from before ([] ∷ []) = Ok before
entries_from before ((byte ∷ bytes) ∷ []) = Err (length before + 1)
entries_from before (line ∷ next ∷ lines) =
    if may_follow before (entry_in line)
    then entries_from (before ++ entry_in line ∷ []) (next ∷ lines)
    else Err (length before + 1)

abbrev pub entries_in : List ℕ → Result (List Entry) ℕ
entries_in bytes = entries_from [] (lines_of bytes)

-- what reading a file of tokens answers, seen by view: its entries, or the number of its first bad line
abbrev pub Reads : {X : Type 0} → (X → List Entry) → Result (List Entry) ℕ → Result X TokensFail → Type 0
Reads view step (Ok read) = step ≡ Ok (view read)
Reads view step (Err (Invalid line)) = step ≡ Err line
Reads view step (Err OutOfMemory) = ⊤

-- the entries with that of a line, where it may stand behind theirs, and whether it may
pub record Adds (line : List ℕ) (before : List Entry) (added : Bool) (after : List Entry) : Type 0 where
  pub answer : added ≡ may_follow before (entry_in line)
  pub entries : after ≡ (if added then before ++ entry_in line ∷ [] else before)
