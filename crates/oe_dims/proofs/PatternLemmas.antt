-- A text against a pattern, one byte at a time.
use Rattle.std.proofs.Common.{◌≡◌, ℕ, zero, suc, ◌+◌, ◌<◌, ◌≤◌, true, false, ◌&&◌, List, [], ◌∷◌, length, get_or, drop, refl, ap, arith}
use Rattle.std.proofs.lemmas.List.{drop_more, drop_all}
use Rattle.std.proofs.lemmas.Bool.{and_parts, and_right}
use Rattle.oe_dims.specs.Instant.{is_let_stand, follows_pattern}

pub follows_pattern_more : (pattern text : List ℕ) (i d : ℕ) → i < length pattern → i < length text → follows_pattern (drop i pattern) (drop i text) ≡ (is_let_stand (get_or pattern i d) (get_or text i d) && follows_pattern (drop (i + 1) pattern) (drop (i + 1) text))
follows_pattern_more pattern text i d h k = rw (drop_more pattern i d h, drop_more text i d k)

pub follows_pattern_all : (pattern text : List ℕ) (i : ℕ) → length pattern ≤ i → length text ≤ i → follows_pattern (drop i pattern) (drop i text) ≡ true
follows_pattern_all pattern text i h k = rw (drop_all i pattern h, drop_all i text k)

-- a text that follows a pattern is as long
pub follows_pattern_length : (pattern text : List ℕ) → follows_pattern pattern text ≡ true → length text ≡ length pattern
follows_pattern_length [] [] e = refl
follows_pattern_length [] (b ∷ text) e = cc
follows_pattern_length (p ∷ pattern) [] e = cc
follows_pattern_length (p ∷ pattern) (b ∷ text) e =
    ap suc (follows_pattern_length pattern text (and_parts (is_let_stand p b) (follows_pattern pattern text) e).1)

pub follows_pattern_short : (pattern text : List ℕ) → (length pattern ≡ length text → ⊥) → follows_pattern pattern text ≡ false
follows_pattern_short [] [] e = absurd (e refl)
follows_pattern_short [] (b ∷ text) e = refl
follows_pattern_short (p ∷ pattern) [] e = refl
follows_pattern_short (p ∷ pattern) (b ∷ text) e =
    and_right (is_let_stand p b) (follows_pattern pattern text) (follows_pattern_short pattern text (λ same. e (ap suc same)))

-- each byte of a text that follows a pattern is one that the pattern lets stand
pub follows_pattern_at : (pattern text : List ℕ) → follows_pattern pattern text ≡ true → (i : ℕ) → i < length pattern → is_let_stand (get_or pattern i 0) (get_or text i 0) ≡ true
follows_pattern_at [] text e i h = absurd (omega arith)
follows_pattern_at (p ∷ pattern) [] e i h = cc
follows_pattern_at (p ∷ pattern) (b ∷ text) e zero h = (and_parts (is_let_stand p b) (follows_pattern pattern text) e).0
follows_pattern_at (p ∷ pattern) (b ∷ text) e (suc i) h =
    follows_pattern_at pattern text (and_parts (is_let_stand p b) (follows_pattern pattern text) e).1 i (omega arith)
