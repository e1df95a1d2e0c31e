-- The order of names in byte order, and names that rise.
use Rattle.std.proofs.Common.{◌≡◌, ℕ, zero, suc, ◌+◌, true, false, List, [], ◌∷◌, slice_get, Some, refl, ap, subst, arith, Ordering}
use Rattle.std.specs.declared.cmp.Ordering.TheVariants.{Less, Equal, Greater}
use Rattle.std.specs.Cmp.Lexicographic.{slice_cmp}
use Rattle.std.specs.List.Sorted.{IsSortedBy}
use Rattle.std.specs.Ordering.{nat_cmp, is_lt, ordering_reverse}
use Rattle.std.proofs.lemmas.Bool.{and_parts, false≢true}
use Rattle.std.proofs.lemmas.Cmp.{nat_list_cmp_total, tied_itself}
use Rattle.oe_dims.specs.Names.{is_name_before, names_rise}

-- ---- orders

pub is_less : (o : Ordering) → is_lt o ≡ true → o ≡ Less
is_less Less h = refl
is_less Equal h = absurd (false≢true h)
is_less Greater h = absurd (false≢true h)

pub not_after : (o p : Ordering) → p ≡ ordering_reverse o → is_lt o ≡ true → is_lt p ≡ false
not_after Less p e h = ap is_lt e
not_after Equal p e h = absurd (false≢true h)
not_after Greater p e h = absurd (false≢true h)

-- ---- two names

pub before_trans : (a b c : List ℕ) → is_name_before a b ≡ true → is_name_before b c ≡ true → is_name_before a c ≡ true
before_trans a b c ab bc = ap is_lt (nat_list_cmp_total.trans a b c (is_less _ ab) (is_less _ bc))

pub not_before_itself : (a : List ℕ) → is_name_before a a ≡ false
not_before_itself a = ap is_lt (tied_itself nat_list_cmp_total a)

-- ---- names that rise

pub tail_rises : (a : List ℕ) (names : List (List ℕ)) → names_rise (a ∷ names) ≡ true → names_rise names ≡ true
tail_rises a [] rise = refl
tail_rises a (b ∷ names) rise = (and_parts _ _ rise).1

-- the first stands before each later one
pub head_before : (a : List ℕ) (names : List (List ℕ)) → names_rise (a ∷ names) ≡ true → (j : ℕ) (n : List ℕ)
    → slice_get names j ≡ Some n → is_name_before a n ≡ true
head_before a [] rise j n is = absurd cc
head_before a (b ∷ names) rise zero n is =
    let same : b ≡ n = cc in subst (λ m. is_name_before a m ≡ true) same ((and_parts _ _ rise).0)
head_before a (b ∷ names) rise (suc j) n is =
    let parts = and_parts _ _ rise in
    before_trans a b n parts.0 (head_before b names parts.1 j n is)

-- they are sorted by their order
pub names_sorted : (names : List (List ℕ)) → names_rise names ≡ true → IsSortedBy is_name_before names
names_sorted [] h k d low high = absurd (omega arith)
names_sorted (a ∷ []) h k d low high = absurd (omega arith)
names_sorted (a ∷ b ∷ names) h zero d low high =
    not_after (slice_cmp nat_cmp a b) (slice_cmp nat_cmp b a) (nat_list_cmp_total.antisymm b a) (and_parts _ _ h).0
names_sorted (a ∷ b ∷ names) h (suc k) d low high =
    let next : suc k + 1 ≡ suc (k + 1) = omega arith in
    rw next (names_sorted (b ∷ names) (and_parts _ _ h).1 k d (omega arith) (omega arith))
