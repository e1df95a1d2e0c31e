-- The words of the command.
use Rattle.std.proofs.Common.{◌≡◌, ℕ, List, [], ◌∷◌, length, get_or, arith}

-- seven words, by what stands at each index
pub seven_words : (words : List (List ℕ)) (a b c d e f g : List ℕ) → length words ≡ 7 → a ≡ get_or words 0 a
    → b ≡ get_or words 1 b → c ≡ get_or words 2 c → d ≡ get_or words 3 d → e ≡ get_or words 4 e → f ≡ get_or words 5 f
    → g ≡ get_or words 6 g → words ≡ a ∷ b ∷ c ∷ d ∷ e ∷ f ∷ g ∷ []
seven_words [] a b c d e f g many i j k l m n o = absurd (omega (arith, many))
seven_words (t ∷ []) a b c d e f g many i j k l m n o = absurd (omega (arith, many))
seven_words (t ∷ u ∷ []) a b c d e f g many i j k l m n o = absurd (omega (arith, many))
seven_words (t ∷ u ∷ v ∷ []) a b c d e f g many i j k l m n o = absurd (omega (arith, many))
seven_words (t ∷ u ∷ v ∷ w ∷ []) a b c d e f g many i j k l m n o = absurd (omega (arith, many))
seven_words (t ∷ u ∷ v ∷ w ∷ x ∷ []) a b c d e f g many i j k l m n o = absurd (omega (arith, many))
seven_words (t ∷ u ∷ v ∷ w ∷ x ∷ y ∷ []) a b c d e f g many i j k l m n o = absurd (omega (arith, many))
seven_words (t ∷ u ∷ v ∷ w ∷ x ∷ y ∷ z ∷ []) a b c d e f g many i j k l m n o =
    let at_a : a ≡ t = i in
    let at_b : b ≡ u = j in
    let at_c : c ≡ v = k in
    let at_d : d ≡ w = l in
    let at_e : e ≡ x = m in
    let at_f : f ≡ y = n in
    let at_g : g ≡ z = o in
    cc
seven_words (t ∷ u ∷ v ∷ w ∷ x ∷ y ∷ z ∷ more ∷ words) a b c d e f g many i j k l m n o = absurd (omega (arith, many))
