-- Live ranges, from one step back to the step before.
use Rattle.std.proofs.Common.{◌≡◌, ◌≢◌, ℕ, zero, suc, ◌+◌, ◌-◌, ◌<◌, ◌≤◌, Bool, true, false, eqb, ltb, leb, ◌||◌, ◌&&◌, List, [], ◌∷◌, length, get_or, set, drop, map, max, refl, sym, ap, ◌∙◌, subst, inl, inr, ◌⊎◌, arith}
use Rattle.std.specs.List.{count_by, list_any, range_with_len}
use Rattle.std.proofs.lemmas.Bool.{cases_eq, cases_lt, cases_order, false≢true, eq-eqb, ne_eqb, lt-ltb, le-ltb, le-leb, lt-leb, or_left, or_right, or_cases}
use Rattle.std.proofs.lemmas.List.{drop_more, drop_all, get_or-set_same, get_or-set_other, length-set}
use Rattle.std.proofs.lemmas.List.Sums.{sum_by-cons}
use Rattle.std.proofs.lemmas.List.FromFn.{get_or-map-range_with_len, length-map-range_with_len}
use Rattle.oe_order.specs.Graph.{Node, arguments}
use Rattle.oe_order.specs.Order.{contains}
use Rattle.oe_order.specs.Live.{taken_from, is_live, live_count, largest, width_of, IsSlotted}
use Rattle.oe_order.specs.Pool.{IsPool}
use Rattle.oe_order.proofs.Lists.{clash, count, one_if}
use Rattle.oe_order.proofs.Pools.{marked_within, count_grows, count_more, count_zero, count-set_false}

-- a count over numbers is a count of marks that say the same
pub count-range : (p : ℕ → Bool) (xs : List Bool) (a : ℕ) → ((i : ℕ) → i < length xs → get_or xs i false ≡ p (a + i)) →
    count_by p (range_with_len a (length xs)) ≡ count xs
count-range p [] a h = refl
count-range p (x ∷ xs) a h =
    let rest : count_by p (range_with_len (a + 1) (length xs)) ≡ count xs =
    count-range p xs (a + 1) (λ i lt. h (suc i) (omega arith) ∙ ap p (omega arith)) in
    let here : x ≡ p a = h 0 (omega arith) ∙ ap p (omega arith) in
    let left = sum_by-cons (λ i. one_if (p i)) a (range_with_len (a + 1) (length xs)) in
    let right = sum_by-cons one_if x xs in
    let same : one_if x ≡ one_if (p a) = ap one_if here in
    omega (arith, left, right, same, rest)

module _ (nodes : List Node) (steps : List ℕ) where
  pub taken_from-more : (s n : ℕ) → s < length steps → taken_from nodes steps s n ≡ contains (arguments nodes (get_or steps s 0)) n || taken_from nodes steps (s + 1) n
  unfolding taken_from
  taken_from-more s n h = ap (list_any (λ user. contains (arguments nodes user) n)) (drop_more steps s 0 h)

  pub taken_from-end : (s n : ℕ) → length steps ≤ s → taken_from nodes steps s n ≡ false
  unfolding taken_from
  taken_from-end s n h = ap (list_any (λ user. contains (arguments nodes user) n)) (drop_all s steps h)

  taken_from-back : (k s n : ℕ) → taken_from nodes steps (s + k) n ≡ true → taken_from nodes steps s n ≡ true
  taken_from-back zero s n e = ap (λ t. taken_from nodes steps t n) (let q : s ≡ s + 0 = omega arith in q) ∙ e
  taken_from-back (suc k) s n e =
      let next : taken_from nodes steps (s + 1) n ≡ true =
      taken_from-back k (s + 1) n (ap (λ t. taken_from nodes steps t n) (let q : (s + 1) + k ≡ s + suc k = omega arith in q) ∙ e) in
      elim (cases_lt s (length steps)) [
        | inl h ↦ taken_from-more s n h ∙ or_right (contains (arguments nodes (get_or steps s 0)) n) (taken_from nodes steps (s + 1) n) next
        | inr h ↦ clash (taken_from nodes steps (s + 1) n) next (taken_from-end (s + 1) n (omega arith))
      ]

  -- what is taken later is taken from here on
  pub taken_from-earlier : (s t n : ℕ) → s ≤ t → taken_from nodes steps t n ≡ true → taken_from nodes steps s n ≡ true
  taken_from-earlier s t n h e = taken_from-back (t - s) s n (ap (λ u. taken_from nodes steps u n) (let q : s + (t - s) ≡ t = omega arith in q) ∙ e)

module _ (nodes : List Node) (last : ℕ) (steps : List ℕ) where
  -- whether the node of step i is to be kept for a step or the result
  abbrev pub is_due : ℕ → ℕ → Bool
  is_due step i = eqb (get_or steps i 0) last || taken_from nodes steps step (get_or steps i 0)

  pub is_live-here : (s i : ℕ) → i ≡ s → is_live nodes last steps s i ≡ true
  unfolding is_live
  is_live-here s i e = both (leb i s) _ (le-leb i s (omega arith)) (or_left (eqb i s) _ (eq-eqb i s e))
    where
      both : (a b : Bool) → a ≡ true → b ≡ true → a && b ≡ true
      both true b p q = q
      both false b p q = p

  pub is_live-before : (s i : ℕ) → i < s → is_live nodes last steps s i ≡ is_due s i
  unfolding is_live
  is_live-before s i h = both (leb i s) (eqb i s) (is_due s i) (le-leb i s (omega arith)) (ne_eqb i s (λ e. omega (arith, e)))
    where
      both : (a b c : Bool) → a ≡ true → b ≡ false → a && (b || c) ≡ c
      both true true c p q = absurd (false≢true (sym q))
      both true false c p q = refl
      both false b c p q = absurd (false≢true p)

  pub is_live-after : (s i : ℕ) → s < i → is_live nodes last steps s i ≡ false
  unfolding is_live
  is_live-after s i h = both (leb i s) _ (lt-leb i s h)
    where
      both : (a b : Bool) → a ≡ false → a && b ≡ false
      both true b p = absurd (false≢true (sym p))
      both false b p = refl

  pub live_counts : List ℕ
  live_counts = map (live_count nodes last steps) (range_with_len 0 (length steps))

  pub length-live_counts : length live_counts ≡ length steps
  unfolding live_counts
  length-live_counts = length-map-range_with_len (live_count nodes last steps) 0 (length steps)

  pub largest-from : (s : ℕ) → s < length steps → largest (drop s live_counts) ≡ max (live_count nodes last steps s) (largest (drop (s + 1) live_counts))
  unfolding live_counts
  largest-from s h =
      let in' : s < length live_counts = omega (arith, length-live_counts) in
      ap largest (drop_more live_counts s 0 in')
      ∙ ap (λ v. max v (largest (drop (s + 1) live_counts))) (get_or-map-range_with_len (live_count nodes last steps) 0 (length steps) s s 0 h (omega arith))

  pub largest-end : largest (drop (length steps) live_counts) ≡ 0
  largest-end = ap largest (drop_all (length steps) live_counts (omega (arith, length-live_counts)))

  pub live_count-marks : (s : ℕ) (held : List Bool) → length held ≡ length steps → ((i : ℕ) → get_or held i false ≡ is_live nodes last steps s i) →
      live_count nodes last steps s ≡ count held
  unfolding live_count
  live_count-marks s held long same =
      ap (λ n. count_by (is_live nodes last steps s) (range_with_len 0 n)) (sym long)
      ∙ count-range (is_live nodes last steps s) held 0 (λ i h. same i ∙ ap (is_live nodes last steps s) (let q : i ≡ 0 + i = omega arith in q))

  -- what holds once the steps from `left` on are done
  pub record Assigned (left : ℕ) (held : List Bool) (slots free : List ℕ) (n : ℕ) : Type 0 where
    pub pool : IsPool held slots free n
    pub len : length held ≡ length steps
    pub due : (i : ℕ) → get_or held i false ≡ ltb i left && is_due left i
    pub below : (i : ℕ) → left ≤ i → i < length steps → get_or slots i 0 < n
    pub apart : (step i j : ℕ) → left ≤ step → step < length steps → is_live nodes last steps step i ≡ true →
        is_live nodes last steps step j ≡ true → i ≢ j → get_or slots i 0 ≢ get_or slots j 0
    pub most : n ≡ max (count held) (largest (drop left live_counts))

  -- a step whose node is live later than the steps that are left is one of those, and holds a slot, or is done
  live_due : (left step i : ℕ) (held : List Bool) → ((i : ℕ) → get_or held i false ≡ ltb i left && is_due left i) → left ≤ step →
      is_live nodes last steps step i ≡ true → (left ≤ i) ⊎ (get_or held i false ≡ true)
  live_due left step i held due h e = elim (cases_lt i left) [
    | inr ge ↦ inl ge
    | inl lt ↦ inr (due i ∙ both (ltb i left) (is_due left i) (lt-ltb i left lt)
        (elim (or_cases (eqb (get_or steps i 0) last) (taken_from nodes steps step (get_or steps i 0)) (sym (is_live-before step i (omega arith)) ∙ e)) [
          | inl q ↦ or_left (eqb (get_or steps i 0) last) (taken_from nodes steps left (get_or steps i 0)) q
          | inr q ↦ or_right (eqb (get_or steps i 0) last) (taken_from nodes steps left (get_or steps i 0)) (taken_from-earlier nodes steps left step (get_or steps i 0) h q)
        ]))
  ]
    where
      both : (a b : Bool) → a ≡ true → b ≡ true → a && b ≡ true
      both true b p q = q
      both false b p q = p

  -- the step before: its node and the arguments of its node hold slots, and then it gives up its own
  pub Assigned-more : (s : ℕ) (held held1 held2 held3 : List Bool) (slots slots1 slots2 slots3 free free2 free3 : List ℕ) (n n1 n2 n3 : ℕ)
      (now : ℕ → Bool) → s < length steps → Assigned (s + 1) held slots free n →
      held1 ≡ set held s true → ((i : ℕ) → get_or held i false ≡ true → get_or slots1 i 0 ≡ get_or slots i 0) →
      ((i : ℕ) → i ≢ s → get_or slots1 i 0 ≡ get_or slots i 0) → n1 ≡ max n (count held1) →
      IsPool held2 slots2 free2 n2 → ((i : ℕ) → get_or held2 i false ≡ get_or held1 i false || (ltb i s && now i)) →
      ((i : ℕ) → i < length steps → now i ≡ contains (arguments nodes (get_or steps s 0)) (get_or steps i 0)) →
      length held2 ≡ length held1 →
      ((i : ℕ) → get_or held1 i false ≡ true → get_or slots2 i 0 ≡ get_or slots1 i 0) →
      ((i : ℕ) → s ≤ i → get_or slots2 i 0 ≡ get_or slots1 i 0) → n2 ≡ max n1 (count held2) →
      IsPool held3 slots3 free3 n3 → held3 ≡ set held2 s false → slots3 ≡ slots2 → n3 ≡ n2 → Assigned s held3 slots3 free3 n3
  Assigned-more s held held1 held2 held3 slots slots1 slots2 slots3 free free2 free3 n n1 n2 n3 now h a is1 kept1 others1 most1 pool2 has2 named len2 kept2 later2 most2 pool3 is3 same3 most3 =
      let in' : s < length held = omega (arith, a.len) in
      let long1 : length held1 ≡ length held = ap length is1 ∙ length-set held s true in
      let live : (i : ℕ) → get_or held2 i false ≡ is_live nodes last steps s i =
      λ i. has2 i ∙ at_step s i held held1 (now i) in' a is1 (named i) in
      let counted : live_count nodes last steps s ≡ count held2 =
      live_count-marks s held2 (len2 ∙ long1 ∙ a.len) live in
      let up1 : count held ≤ count held1 = count_grows held s held1 is1 in' in
      let up2 : count held1 ≤ count held2 =
      count_more held1 held2 (sym len2) (λ i e. has2 i ∙ or_left (get_or held1 i false) (ltb i s && now i) e) in
      let here : get_or held2 s false ≡ true = live s ∙ is_live-here s s refl in
      let down : count held3 + 1 ≡ count held2 = ap (λ m. m + 1) (ap count is3) ∙ count-set_false held2 s (omega (arith, len2, long1)) here in
      let slots_at : (i : ℕ) → get_or slots3 i 0 ≡ get_or slots2 i 0 = λ i. ap (λ ys. get_or ys i 0) same3 in
      let done : (i : ℕ) → s + 1 ≤ i → get_or slots3 i 0 ≡ get_or slots i 0 =
      λ i g. slots_at i ∙ later2 i (omega arith) ∙ others1 i (λ e. omega (arith, e)) in
      let waits : (i : ℕ) → get_or held i false ≡ true → get_or slots3 i 0 ≡ get_or slots i 0 =
      λ i e. slots_at i ∙ kept2 i (ap (λ ys. get_or ys i false) is1 ∙ still held s i e) ∙ kept1 i e in
      let keeps : (step i : ℕ) → s + 1 ≤ step → is_live nodes last steps step i ≡ true → get_or slots3 i 0 ≡ get_or slots i 0 =
      λ step i g e. elim (live_due (s + 1) step i held a.due g e) [ inl l ↦ done i l | inr l ↦ waits i l ] in
      record {
        pool = pool3;
        len = ap length is3 ∙ length-set held2 s false ∙ len2 ∙ long1 ∙ a.len;
        due = λ i. ap (λ ys. get_or ys i false) is3 ∙ given s i held2 (omega (arith, len2, long1)) live;
        below = λ i g lt. elim (cases_lt s i) [
          | inl more ↦ omega (arith, done i (omega arith), a.below i (omega arith) lt, most1, most2, most3)
          | inr less ↦ let e : i ≡ s = omega arith in
              omega (arith, slots_at i, pool2.below i (ap (λ j. get_or held2 j false) e ∙ here), most3)
        ];
        apart = λ step i j g lt e d ne q. elim (cases_lt s step) [
          | inl more ↦ a.apart step i j (omega arith) lt e d ne (sym (keeps step i (omega arith) e) ∙ q ∙ keeps step j (omega arith) d)
          | inr less ↦ let z : step ≡ s = omega arith in
              pool2.apart i j (live i ∙ ap (λ t. is_live nodes last steps t i) (sym z) ∙ e) (live j ∙ ap (λ t. is_live nodes last steps t j) (sym z) ∙ d) ne
              (sym (slots_at i) ∙ q ∙ slots_at j)
        ];
        most = omega (arith, most3, most2, most1, a.most, largest-from s h, counted, up1, up2, down);
      }
    where
      still : (held : List Bool) (s i : ℕ) → get_or held i false ≡ true → get_or (set held s true) i false ≡ true
      still held s i e = elim (cases_eq i s) [
        | inl q ↦ ap (λ j. get_or (set held s true) j false) q ∙ get_or-set_same held s true false (subst (λ j. j < length held) q (marked_within held i e))
        | inr ne ↦ get_or-set_other held s i true false ne ∙ e
      ]

      at_step : (s i : ℕ) (held held1 : List Bool) (now : Bool) {slots free : List ℕ} {n : ℕ} → s < length held → Assigned (s + 1) held slots free n → held1 ≡ set held s true →
          (i < length steps → now ≡ contains (arguments nodes (get_or steps s 0)) (get_or steps i 0)) →
          get_or held1 i false || (ltb i s && now) ≡ is_live nodes last steps s i
      at_step s i held held1 now h a is1 named = elim (cases_order i s) [
        | inl e ↦ or_left (get_or held1 i false) (ltb i s && now) (ap (λ ys. get_or ys i false) is1 ∙ ap (λ j. get_or (set held s true) j false) e ∙ get_or-set_same held s true false h)
            ∙ sym (is_live-here s i e)
        | inr far ↦ elim far [
          | inl lt ↦ ap (λ b. b || (ltb i s && now)) (ap (λ ys. get_or ys i false) is1 ∙ get_or-set_other held s i true false (λ e. omega (arith, e)) ∙ a.due i ∙ ap (λ b. b && is_due (s + 1) i) (lt-ltb i (s + 1) (omega arith)))
              ∙ ap (λ b. is_due (s + 1) i || (b && now)) (lt-ltb i s lt)
              ∙ ap (λ b. is_due (s + 1) i || b) (named (omega (arith, a.len)))
              ∙ turn (eqb (get_or steps i 0) last) (taken_from nodes steps (s + 1) (get_or steps i 0)) (contains (arguments nodes (get_or steps s 0)) (get_or steps i 0))
              ∙ ap (λ b. eqb (get_or steps i 0) last || b) (sym (taken_from-more nodes steps s (get_or steps i 0) (omega (arith, a.len))))
              ∙ sym (is_live-before s i lt)
          | inr gt ↦ ap (λ b. b || (ltb i s && now)) (ap (λ ys. get_or ys i false) is1 ∙ get_or-set_other held s i true false (λ e. omega (arith, e)) ∙ a.due i ∙ ap (λ b. b && is_due (s + 1) i) (le-ltb i (s + 1) (omega arith)))
              ∙ ap (λ b. b && now) (le-ltb i s (omega arith))
              ∙ sym (is_live-after s i gt)
        ]
      ]
        where
          turn : (a b c : Bool) → (a || b) || c ≡ a || (c || b)
          turn true b c = refl
          turn false true true = refl
          turn false true false = refl
          turn false false true = refl
          turn false false false = refl

      given : (s i : ℕ) (held2 : List Bool) → s < length held2 → ((i : ℕ) → get_or held2 i false ≡ is_live nodes last steps s i) →
          get_or (set held2 s false) i false ≡ ltb i s && is_due s i
      given s i held2 h live = elim (cases_order i s) [
        | inl e ↦ ap (λ j. get_or (set held2 s false) j false) e ∙ get_or-set_same held2 s false false h ∙ sym (ap (λ b. b && is_due s i) (le-ltb i s (omega (arith, e))))
        | inr far ↦ get_or-set_other held2 s i false false (elim far [ inl lt ↦ λ e. omega (arith, e) | inr gt ↦ λ e. omega (arith, e) ]) ∙ live i ∙ elim far [
          | inl lt ↦ is_live-before s i lt ∙ sym (ap (λ b. b && is_due s i) (lt-ltb i s lt))
          | inr gt ↦ is_live-after s i gt ∙ sym (ap (λ b. b && is_due s i) (le-ltb i s (omega arith)))
        ]
      ]

  -- the result holds the one slot before the last step is looked at
  pub Assigned-begin : (p : ℕ) (held0 held : List Bool) (slots free : List ℕ) (n : ℕ) → length held0 ≡ length steps → ((i : ℕ) → get_or held0 i false ≡ false) →
      p < length steps → get_or steps p 0 ≡ last → ((i j : ℕ) → i < j → j < length steps → get_or steps i 0 ≢ get_or steps j 0) →
      IsPool held slots free n → held ≡ set held0 p true → n ≡ max 0 (count held) → Assigned (length steps) held slots free n
  Assigned-begin p held0 held slots free n long none h at once pool is most = record {
    pool = pool;
    len = ap length is ∙ length-set held0 p true ∙ long;
    due = λ i. ap (λ ys. get_or ys i false) is ∙ elim (cases_eq i p) [
      | inl e ↦ ap (λ j. get_or (set held0 p true) j false) e ∙ get_or-set_same held0 p true false (omega arith)
          ∙ sym (ap (λ b. b && is_due (length steps) i) (lt-ltb i (length steps) (omega (arith, e)))
          ∙ or_left (eqb (get_or steps i 0) last) _ (eq-eqb (get_or steps i 0) last (ap (λ j. get_or steps j 0) e ∙ at)))
      | inr ne ↦ get_or-set_other held0 p i true false ne ∙ none i ∙ sym (elim (cases_lt i (length steps)) [
        | inl lt ↦ ap (λ b. b && is_due (length steps) i) (lt-ltb i (length steps) lt)
            ∙ ap (λ b. b || taken_from nodes steps (length steps) (get_or steps i 0)) (ne_eqb (get_or steps i 0) last (λ q. other i lt ne (q ∙ sym at)))
            ∙ taken_from-end nodes steps (length steps) (get_or steps i 0) (omega arith)
        | inr ge ↦ ap (λ b. b && is_due (length steps) i) (le-ltb i (length steps) ge)
      ])
    ];
    below = λ i g lt. absurd (omega arith);
    apart = λ step i j g lt e d ne q. omega arith;
    most = omega (arith, most, largest-end);
  }
    where
      other : (i : ℕ) → i < length steps → (i ≡ p → ⊥) → get_or steps i 0 ≡ get_or steps p 0 → ⊥
      other i lt ne q = elim (cases_order i p) [
        | inl e ↦ ne e
        | inr far ↦ elim far [ inl a ↦ once i p a h q | inr b ↦ once p i b lt (sym q) ]
      ]

  -- once all steps are done
  pub Assigned-width : (held : List Bool) (slots free : List ℕ) (n : ℕ) → Assigned 0 held slots free n → n ≡ width_of nodes last steps
  unfolding width_of live_counts
  Assigned-width held slots free n a =
      let none : count held ≡ 0 = count_zero held (λ i. a.due i ∙ ap (λ b. b && is_due 0 i) (le-ltb i 0 (omega arith))) in
      omega (arith, a.most, none)

  pub Assigned-slots : (held : List Bool) (slots free : List ℕ) (n : ℕ) → Assigned 0 held slots free n →
      IsSlotted nodes last (record { steps = steps; slots = slots; width = n })
  Assigned-slots held slots free n a = record {
    each = a.pool.each ∙ a.len;
    below = λ i h. a.below i (omega arith) h;
    apart = λ step i j h e d ne. a.apart step i j (omega arith) h e d ne;
  }
