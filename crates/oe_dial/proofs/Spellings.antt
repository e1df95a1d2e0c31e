-- What the words of a call say of its parts.
use Rattle.std.proofs.Common.{◌≡◌, ◌≢◌, ℕ, ◌≤◌, length, true, List, [], ◌∷◌, Option, Some, None, codes, get_or, refl, sym, subst, ◌∙◌, arith}
use Rattle.std.proofs.lemmas.Bool.{and_parts, leb-true}
use Rattle.oe_client.specs.Arguments.{IsArgumentOf}
use Rattle.oe_client.specs.Commands.{is_token}
use Rattle.oe_client.specs.Verbs.{Verb, verb_named}
use Rattle.oe_dial.specs.Words.{IsPort, PlainCall, SpellsCall, argument_words, is_host_name}

same_argument : (a b : Option (List ℕ)) → argument_words a ≡ argument_words b → a ≡ b
same_argument None None e = refl
same_argument None (Some text) e = absurd cc
same_argument (Some text) None e = absurd cc
same_argument (Some text) (Some other) e = let same : text ≡ other = cc in rw same refl

-- five words and an argument
abbrev pub call_words : List ℕ → List ℕ → List ℕ → List ℕ → List ℕ → Option (List ℕ) → List (List ℕ)
call_words word host port token verb argument = word ∷ host ∷ port ∷ token ∷ verb ∷ argument_words argument

module _ (word host port token verb : List ℕ) (argument : Option (List ℕ)) (call : PlainCall) where
  pub record AreParts : Type 0 where
    pub word_is : word ≡ codes "client"
    pub host_valid : is_host_name host ≡ true
    pub port_valid : IsPort port call.port
    pub token_valid : is_token token ≡ true
    pub verb_is : verb_named verb ≡ Some call.verb
    pub argument_valid : IsArgumentOf call.verb.argument argument

  pub parts_of : SpellsCall (call_words word host port token verb argument) call → AreParts
  parts_of s =
      let e = s.words_are in
      let word_is : word ≡ codes "client" = cc in
      let host_is : host ≡ call.host = cc in
      let port_is : port ≡ s.port_word = cc in
      let token_is : token ≡ s.token_word = cc in
      let verb_is : verb ≡ s.verb_word = cc in
      let rest_is : argument_words argument ≡ argument_words call.argument = cc in
      let argument_is : argument ≡ call.argument = same_argument argument call.argument rest_is in
      record {
        word_is = word_is;
        host_valid = subst (λ t. is_host_name t ≡ true) (sym host_is) s.host_valid;
        port_valid = subst (λ t. IsPort t call.port) (sym port_is) s.port_valid;
        token_valid = subst (λ t. is_token t ≡ true) (sym token_is) s.token_valid;
        verb_is = subst (λ t. verb_named t ≡ Some call.verb) (sym verb_is) s.verb_is;
        argument_valid = subst (λ a. IsArgumentOf call.verb.argument a) (sym argument_is) s.argument_valid;
      }

-- words of which one is out of form spell no call
module _ (word host port token verb : List ℕ) (argument : Option (List ℕ)) (call : PlainCall) where
  pub no_word : (word ≡ codes "client" → ⊥) → SpellsCall (call_words word host port token verb argument) call → ⊥
  no_word other s = other (parts_of word host port token verb argument call s).word_is

  pub no_argument : (v : Verb) → verb_named verb ≡ Some v → (IsArgumentOf v.argument argument → ⊥)
      → SpellsCall (call_words word host port token verb argument) call → ⊥
  no_argument v named bad s =
      let parts = parts_of word host port token verb argument call s in
      let same : Some call.verb ≡ Some v = sym parts.verb_is ∙ named in
      let is : call.verb ≡ v = cc in
      bad (subst (λ u. IsArgumentOf u.argument argument) is parts.argument_valid)

-- the host of a call has 1 to 253 bytes
pub host_named : (call : PlainCall) → ((words : List (List ℕ)) × SpellsCall words call) → 1 ≤ length call.host
host_named call s = leb-true 1 (length call.host) (and_parts _ _ (and_parts _ _ s.1.host_valid).0).0

pub host_short : (call : PlainCall) → ((words : List (List ℕ)) × SpellsCall words call) → length call.host ≤ 253
host_short call s = leb-true (length call.host) 253 (and_parts _ _ (and_parts _ _ s.1.host_valid).0).1

-- words that are no five and no six spell no call
pub few_words : (words : List (List ℕ)) (call : PlainCall) → SpellsCall words call
    → ((a b c d e : List ℕ) → words ≢ a ∷ b ∷ c ∷ d ∷ e ∷ [])
    → ((a b c d e f : List ℕ) → words ≢ a ∷ b ∷ c ∷ d ∷ e ∷ f ∷ []) → ⊥
few_words words call s five six = by_argument call.argument s.words_are
  where
    by_argument : (argument : Option (List ℕ))
        → words ≡ call_words (codes "client") call.host s.port_word s.token_word s.verb_word argument → ⊥
    by_argument None e = five (codes "client") call.host s.port_word s.token_word s.verb_word e
    by_argument (Some text) e = six (codes "client") call.host s.port_word s.token_word s.verb_word text e

-- five words, by what stands at each index
pub five_words : (words : List (List ℕ)) (a b c d e : List ℕ) → length words ≡ 5
    → a ≡ get_or words 0 a → b ≡ get_or words 1 b → c ≡ get_or words 2 c
    → d ≡ get_or words 3 d → e ≡ get_or words 4 e
    → words ≡ a ∷ b ∷ c ∷ d ∷ e ∷ []
five_words [] a b c d e many p q r s t = absurd (omega (arith, many))
five_words (u ∷ []) a b c d e many p q r s t = absurd (omega (arith, many))
five_words (u ∷ v ∷ []) a b c d e many p q r s t = absurd (omega (arith, many))
five_words (u ∷ v ∷ w ∷ []) a b c d e many p q r s t = absurd (omega (arith, many))
five_words (u ∷ v ∷ w ∷ x ∷ []) a b c d e many p q r s t = absurd (omega (arith, many))
five_words (u ∷ v ∷ w ∷ x ∷ y ∷ []) a b c d e many p q r s t =
    let at_0 : a ≡ u = p in
    let at_1 : b ≡ v = q in
    let at_2 : c ≡ w = r in
    let at_3 : d ≡ x = s in
    let at_4 : e ≡ y = t in
    cc
five_words (u ∷ v ∷ w ∷ x ∷ y ∷ more ∷ words) a b c d e many p q r s t = absurd (omega (arith, many))

-- six words, by what stands at each index
pub six_words : (words : List (List ℕ)) (a b c d e f : List ℕ) → length words ≡ 6
    → a ≡ get_or words 0 a → b ≡ get_or words 1 b → c ≡ get_or words 2 c
    → d ≡ get_or words 3 d → e ≡ get_or words 4 e → f ≡ get_or words 5 f
    → words ≡ a ∷ b ∷ c ∷ d ∷ e ∷ f ∷ []
six_words [] a b c d e f many p q r s t o = absurd (omega (arith, many))
six_words (u ∷ []) a b c d e f many p q r s t o = absurd (omega (arith, many))
six_words (u ∷ v ∷ []) a b c d e f many p q r s t o = absurd (omega (arith, many))
six_words (u ∷ v ∷ w ∷ []) a b c d e f many p q r s t o = absurd (omega (arith, many))
six_words (u ∷ v ∷ w ∷ x ∷ []) a b c d e f many p q r s t o = absurd (omega (arith, many))
six_words (u ∷ v ∷ w ∷ x ∷ y ∷ []) a b c d e f many p q r s t o = absurd (omega (arith, many))
six_words (u ∷ v ∷ w ∷ x ∷ y ∷ z ∷ []) a b c d e f many p q r s t o =
    let at_0 : a ≡ u = p in
    let at_1 : b ≡ v = q in
    let at_2 : c ≡ w = r in
    let at_3 : d ≡ x = s in
    let at_4 : e ≡ y = t in
    let at_5 : f ≡ z = o in
    cc
six_words (u ∷ v ∷ w ∷ x ∷ y ∷ z ∷ more ∷ words) a b c d e f many p q r s t o = absurd (omega (arith, many))
