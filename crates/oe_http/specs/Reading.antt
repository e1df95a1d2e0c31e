-- What reading from a link gives, where what it has left may be visible.
use Rattle.std.specs.Prelude.{◌≡◌, ℕ, ◌≤◌, ◌⊎◌, List, [], ◌++◌, length, Option, IfSome, MatchOption}
use Rattle.oe_outside.specs.Visible.{Gave}
use Rattle.oe_http.specs.Front.{HasNoHead, IsHeadEnd, most_head}

-- One read put these bytes behind those that were held, up to a limit, and none only where none was left.
pub record ReadsMore (limit : ℕ) (before : Option (List ℕ)) (count : ℕ) (held bytes : List ℕ)
    (after : Option (List ℕ)) : Type 0 where
  pub given : List ℕ
  pub follows : bytes ≡ held ++ given
  pub gave : Gave before given after
  pub counted : length given ≡ count
  pub most : length bytes ≤ limit
  pub end : count ≡ 0 → IfSome after (λ rest. rest ≡ [])

-- There is no more to read for a head: the front is full, or nothing is left.
abbrev pub IsAllOfFront : List ℕ → Option (List ℕ) → Type 0
IsAllOfFront bytes after = (length bytes ≡ most_head) ⊎ IfSome after (λ rest. rest ≡ [])

-- These bytes were read, at most as many as the front has, and this is where the head ends in them. Without a head they
-- are the whole front.
pub record ReadsFront (before : Option (List ℕ)) (bytes : List ℕ) (end : Option ℕ)
    (after : Option (List ℕ)) : Type 0 where
  pub gave : Gave before bytes after
  pub most : length bytes ≤ most_head
  pub head : MatchOption end (HasNoHead bytes × IsAllOfFront bytes after) (λ n. IsHeadEnd bytes n)

-- These bytes were read behind those that were held, up to a number of bytes in all, and fewer only where none was
-- left.
pub record ReadsBody (number : ℕ) (before : Option (List ℕ)) (held bytes : List ℕ)
    (after : Option (List ℕ)) : Type 0 where
  pub given : List ℕ
  pub follows : bytes ≡ held ++ given
  pub gave : Gave before given after
  pub most : length bytes ≤ number
  pub end : (length bytes ≡ number) ⊎ IfSome after (λ rest. rest ≡ [])
