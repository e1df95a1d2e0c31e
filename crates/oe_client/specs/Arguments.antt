-- What may stand behind a verb.
use Rattle.std.specs.Prelude.{◌≡◌, ℕ, ◌<◌, ◌≤◌, ◌^◌, ◌==◌, ◌&&◌, ◌||◌, not, nat_le, Bool, true, bytes_eq, List, codes, length, Option, Some, None, decimal, ⊤}
use Rattle.std.specs.List.{after_first, before_first, list_all}
use Rattle.oe_http.specs.Heads.{slash}
use Rattle.oe_dims.specs.Names.{is_name_byte}
use Rattle.oe_client.specs.declared.verbs.Argument.{Argument}
use Rattle.oe_client.specs.declared.verbs.Argument.TheVariants.{Missing, Id, JobAndAsset, JobAndOffset, ListName}

-- what stands before the first slash, and what follows it
abbrev pub id_part : List ℕ → List ℕ
id_part text = before_first (λ b. b == slash) text

abbrev pub rest_part : List ℕ → List ℕ
rest_part text = after_first (λ b. b == slash) text

-- a letter, a digit, `_`, `-`, `.` or a slash
abbrev pub is_argument_byte : ℕ → Bool
is_argument_byte b = is_name_byte b || (b == slash)

-- 1 to 200 such bytes
abbrev pub is_argument : List ℕ → Bool
is_argument text = nat_le 1 (length text) && nat_le (length text) 200 && list_all is_argument_byte text

-- some bytes, none of them a slash
abbrev pub is_segment : List ℕ → Bool
is_segment text = nat_le 1 (length text) && list_all (λ b. not (b == slash)) text

-- a number from 1 to 2^64 − 1, in decimal without leading zeros
pub record SpellsOffset (text : List ℕ) (number : ℕ) : Type 0 where
  pub above : 1 ≤ number
  pub below : number < 2 ^ 64
  pub spelled : text ≡ decimal number

abbrev pub IsOffset : List ℕ → Type 0
IsOffset text = (number : ℕ) × SpellsOffset text number

-- the name of a list that is asked for page by page: one that all see, or one of a user
abbrev pub is_open_list : List ℕ → Bool
is_open_list text = bytes_eq text (codes "collections") || bytes_eq text (codes "processes")

abbrev pub is_own_list : List ℕ → Bool
is_own_list text = bytes_eq text (codes "jobs") || bytes_eq text (codes "process_graphs")

abbrev pub is_list : List ℕ → Bool
is_list text = is_open_list text || is_own_list text

-- this may stand behind a verb, or nothing may
abbrev pub IsArgumentOf : Argument → Option (List ℕ) → Type 0
IsArgumentOf Missing None = ⊤
IsArgumentOf Missing (Some text) = ⊥
IsArgumentOf Id None = ⊥
IsArgumentOf Id (Some text) = is_argument text ≡ true
IsArgumentOf JobAndAsset None = ⊥
IsArgumentOf JobAndAsset (Some text) =
    (is_argument text ≡ true) × (is_segment (id_part text) ≡ true) × (is_segment (rest_part text) ≡ true)
IsArgumentOf JobAndOffset None = ⊥
IsArgumentOf JobAndOffset (Some text) =
    (is_argument text ≡ true) × (is_segment (id_part text) ≡ true) × IsOffset (rest_part text)
IsArgumentOf ListName None = ⊥
IsArgumentOf ListName (Some text) = (is_argument text ≡ true) × (is_list text ≡ true)
