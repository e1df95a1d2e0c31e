-- What a door shows over several turns.
use Rattle.std.proofs.Common.{◌≡◌, ℕ, ℤ, suc, ◌+◌, ◌-◌, Bool, true, false, List, [], ◌∷◌, ◌++◌, map, length, Option, Some, None, refl, sym, ap, ◌∙◌, subst, append_assoc, append-nil, arith}
use Rattle.std.specs.Option.{option_map}
use Rattle.std.specs.Prelude.{◌==◌, IfSome, IsTrue}
use Rattle.std.proofs.lemmas.Bool.{eqb-true}
use Rattle.std.proofs.lemmas.List.{map-append}
use Rattle.std.proofs.lemmas.List.Elements.{All-append, All-cons, All-nil}
use Rattle.oe_outside.specs.Doors.{IsNobody, ShowsDone, ShowsNext, VisibleDoor, asked, taken_back}
use Rattle.oe_outside.specs.declared.door.Next.{Next}
use Rattle.oe_outside.specs.declared.door.Next.TheVariants as door
use Rattle.oe_serve.specs.Turns.{AllTicked, HasPassed, HaveMoment, IsAsked, Passes, Turn, came_in, counted_times, given_in, met_first, met_in}
use Rattle.oe_service.specs.Ticks.{is_event}
use Rattle.oe_service.specs.declared.answer.Ticked.{Ticked}

ltb_apart : (n : ℕ) → ((n + 1) == 0) ≡ false
ltb_apart n = by ((n + 1) == 0) refl
  where
    by : (b : Bool) → ((n + 1) == 0) ≡ b → ((n + 1) == 0) ≡ false
    by true e = let none : n + 1 ≡ 0 = eqb-true (n + 1) 0 e in absurd (omega (arith, none))
    by false e = e

times_more : (k n : ℕ) → counted_times (suc k) n ≡ counted_times 1 (counted_times k n)
times_more k n = refl

module _ {C : Type 0} where
  -- ---- the connections of turns

  first_more : (o : Option (C × C)) (xs ys : List (C × C)) → met_first o (xs ++ ys) ≡ met_first o xs ++ ys
  first_more None xs ys = refl
  first_more (Some met) xs ys = refl

  met_more : (turns more : List (Turn C)) → met_in (turns ++ more) ≡ met_in turns ++ met_in more
  met_more [] more = refl
  met_more (turn ∷ turns) more =
      ap (met_first turn.met) (met_more turns more) ∙ first_more turn.met (met_in turns) (met_in more)

  came_more : (turns more : List (Turn C)) → came_in (turns ++ more) ≡ came_in turns ++ came_in more
  came_more turns more =
      ap (map (λ (met : C × C). met.0)) (met_more turns more) ∙ map-append (λ (met : C × C). met.0) (met_in turns) (met_in more)

  given_more : (turns more : List (Turn C)) → given_in (turns ++ more) ≡ given_in turns ++ given_in more
  given_more turns more =
      ap (map (λ (met : C × C). met.1)) (met_more turns more) ∙ map-append (λ (met : C × C). met.1) (met_in turns) (met_in more)

  -- ---- which came and were given back

  pub passes_none : (d : Option (VisibleDoor C)) → Passes [] d d
  passes_none None = refl
  passes_none (Some v) = record {
    came = refl;
    given_back = sym (append-nil v.given_back);
    out = refl;
    to_dial = refl;
    dials = refl;
    last_dial = refl;
  }

  passed_more : (turns more : List (Turn C)) (u v w : VisibleDoor C) → HasPassed turns u v → HasPassed more v w
      → HasPassed (turns ++ more) u w
  passed_more turns more u v w p q = record {
    came = p.came ∙ ap (λ xs. came_in turns ++ xs) q.came ∙ sym (append_assoc (came_in turns) (came_in more) w.coming)
        ∙ sym (ap (λ xs. xs ++ w.coming) (came_more turns more));
    given_back = q.given_back ∙ ap (λ xs. xs ++ given_in more) p.given_back
        ∙ append_assoc u.given_back (given_in turns) (given_in more)
        ∙ sym (ap (λ xs. u.given_back ++ xs) (given_more turns more));
    out = q.out ∙ p.out;
    to_dial = q.to_dial ∙ p.to_dial;
    dials = q.dials ∙ p.dials;
    last_dial = q.last_dial ∙ p.last_dial;
  }

  -- turns, and then more of them
  pub passes_more : (turns more : List (Turn C)) (d0 d1 d2 : Option (VisibleDoor C)) → Passes turns d0 d1
      → Passes more d1 d2 → Passes (turns ++ more) d0 d2
  passes_more turns more None None d2 p q = q
  passes_more turns more None (Some v) d2 p q = let e : Some v ≡ None = p in absurd cc
  passes_more turns more (Some u) None d2 p q = absurd p
  passes_more turns more (Some u) (Some v) None p q = absurd q
  passes_more turns more (Some u) (Some v) (Some w) p q = passed_more turns more u v w p q

  -- a connection was taken and given back, as the only one that was out
  taken_one : (d : VisibleDoor C) (rest : List C) (given : C)
      → taken_back (record (asked d) { coming = rest; out = d.out + 1 }) given
      ≡ record (asked d) { coming = rest; out = d.out; given_back = d.given_back ++ given ∷ [] }
  taken_one d rest given =
      let some : ((d.out + 1) == 0) ≡ false = ltb_apart d.out in
      let back : d.out + 1 - 1 ≡ d.out = omega arith in
      rw (some, back) refl

  -- it was asked, and gave none
  passes_asked : (v : VisibleDoor C) → HasPassed [] v (asked v)
  passes_asked v = record {
    came = refl;
    given_back = sym (append-nil v.given_back);
    out = refl;
    to_dial = refl;
    dials = refl;
    last_dial = refl;
  }

  -- a `next` that gave no connection
  pub passes_no_one : (d0 d1 : Option (VisibleDoor C)) (busy : Bool) (r : Next C) → ShowsNext d0 busy r d1
      → ((conn : C) → ¬ (r ≡ door.Conn conn)) → Passes [] d0 d1
  passes_no_one None d1 busy r shows no_conn = shows
  passes_no_one (Some v) d1 busy (door.Conn conn) shows no_conn = absurd (no_conn conn refl)
  passes_no_one (Some v) d1 busy door.Nobody shows no_conn =
      subst (Passes [] (Some v)) (sym shows.2) (passes_asked v)
  passes_no_one (Some v) d1 busy door.Closed shows no_conn =
      subst (Passes [] (Some v)) (sym shows.2) (passes_asked v)
  passes_no_one (Some v) d1 busy door.Failed shows no_conn =
      subst (Passes [] (Some v)) (sym shows) (passes_asked v)

  -- the same of a turn to which nobody came
  pub passes_alone : (d0 d1 : Option (VisibleDoor C)) (now : ℤ) (answer : Ticked) → Passes [] d0 d1
      → Passes (record { met = None; now = now; answer = answer } ∷ []) d0 d1
  passes_alone None d1 now answer p = p
  passes_alone (Some v) None now answer p = p
  passes_alone (Some v) (Some w) now answer p = record {
    came = p.came;
    given_back = p.given_back;
    out = p.out;
    to_dial = p.to_dial;
    dials = p.dials;
    last_dial = p.last_dial;
  }

  -- what a door shows of a connection that came and was given back
  module _ (busy : Bool) (conn given : C) where
    last_of : (v : VisibleDoor C) (d1 d2 : Option (VisibleDoor C)) → ShowsNext (Some v) busy (door.Conn conn) d1
        → ShowsDone d1 given d2 → (rest : List C) × (v.coming ≡ conn ∷ rest)
        × (d2 ≡ Some (record (asked v) { coming = rest; out = v.out; given_back = v.given_back ++ given ∷ [] }))
    last_of v d1 d2 (rest, coming, is) done = (
      rest,
      coming,
      done ∙ ap (option_map (λ (d : VisibleDoor C). taken_back d given)) is ∙ ap Some (taken_one v rest given),
    )

    pub passes_one : (d0 d1 d2 : Option (VisibleDoor C)) (now : ℤ) (answer : Ticked)
        → ShowsNext d0 busy (door.Conn conn) d1 → ShowsDone d1 given d2
        → Passes (record { met = Some (conn, given); now = now; answer = answer } ∷ []) d0 d2
    passes_one None d1 d2 now answer shows done =
        done ∙ ap (option_map (λ (d : VisibleDoor C). taken_back d given)) shows
    passes_one (Some v) d1 d2 now answer shows done =
        let (rest, coming, last) = last_of v d1 d2 shows done in
        subst (Passes (record { met = Some (conn, given); now = now; answer = answer } ∷ []) (Some v)) (sym last) (record {
          came = coming;
          given_back = refl;
          out = refl;
          to_dial = refl;
          dials = refl;
          last_dial = refl;
        })

    pub asked_one : (d0 d1 d2 : Option (VisibleDoor C)) → ShowsNext d0 busy (door.Conn conn) d1 → ShowsDone d1 given d2
        → IsAsked 1 d0 d2
    asked_one None d1 d2 shows done = done ∙ ap (option_map (λ (d : VisibleDoor C). taken_back d given)) shows
    asked_one (Some v) d1 d2 shows done =
        let (rest, coming, last) = last_of v d1 d2 shows done in
        subst (IsAsked 1 (Some v)) (sym last) refl

  -- ---- how often it was asked

  pub asked_none : (d : Option (VisibleDoor C)) → IsAsked 0 d d
  asked_none None = refl
  asked_none (Some v) = refl

  pub asked_no_one : (d0 d1 : Option (VisibleDoor C)) (busy : Bool) (r : Next C) → ShowsNext d0 busy r d1
      → ((conn : C) → ¬ (r ≡ door.Conn conn)) → IsAsked 1 d0 d1
  asked_no_one None d1 busy r shows no_conn = shows
  asked_no_one (Some v) d1 busy (door.Conn conn) shows no_conn = absurd (no_conn conn refl)
  asked_no_one (Some v) d1 busy door.Nobody shows no_conn = subst (IsAsked 1 (Some v)) (sym shows.2) refl
  asked_no_one (Some v) d1 busy door.Closed shows no_conn = subst (IsAsked 1 (Some v)) (sym shows.2) refl
  asked_no_one (Some v) d1 busy door.Failed shows no_conn = subst (IsAsked 1 (Some v)) (sym shows) refl

  pub asked_more : (k : ℕ) (d0 d1 d2 : Option (VisibleDoor C)) → IsAsked k d0 d1 → IsAsked 1 d1 d2
      → IsAsked (suc k) d0 d2
  asked_more k None None d2 a b = b
  asked_more k None (Some v) d2 a b = let e : Some v ≡ None = a in absurd cc
  asked_more k (Some u) None d2 a b = absurd a
  asked_more k (Some u) (Some v) None a b = absurd b
  asked_more k (Some u) (Some v) (Some w) a b = b ∙ ap (counted_times 1) a ∙ sym (times_more k u.nexts)

  -- ---- at its end

  pub closed_end : (d0 d1 : Option (VisibleDoor C)) (busy : Bool) → ShowsNext d0 busy door.Closed d1
      → IfSome d1 (λ (d : VisibleDoor C). d.coming ≡ [])
  closed_end None d1 busy shows = subst (λ o. IfSome o (λ (d : VisibleDoor C). d.coming ≡ [])) (sym shows) tt
  closed_end (Some v) d1 busy shows =
      subst (λ o. IfSome o (λ (d : VisibleDoor C). d.coming ≡ [])) (sym shows.2) shows.1

  pub closed_free : (d0 d1 : Option (VisibleDoor C)) (busy is_busy : Bool) → busy ≡ is_busy
      → ShowsNext d0 busy door.Closed d1 → IfSome d0 (λ (_ : VisibleDoor C). is_busy ≡ false)
  closed_free None d1 busy is_busy same shows = tt
  closed_free (Some v) d1 busy is_busy same shows = sym same ∙ shows.0

  -- nobody comes only to one who is busy
  pub busy_of : (r : Next C) (busy is_busy : Bool) → r ≡ door.Nobody → (IsNobody r → IsTrue busy) → busy ≡ is_busy
      → is_busy ≡ true
  busy_of r busy is_busy is nobody same = sym same ∙ nobody (subst (λ (n : Next C). IsNobody n) (sym is) tt)

  -- ---- the turns themselves

  pub one_longer : (turns : List (Turn C)) (turn : Turn C) → length (turns ++ turn ∷ []) ≡ suc (length turns)
  one_longer [] turn = refl
  one_longer (t ∷ turns) turn = ap suc (one_longer turns turn)

  pub ticked_more : (turns : List (Turn C)) (turn : Turn C) → AllTicked turns → is_event turn.answer ≡ true
      → AllTicked (turns ++ turn ∷ [])
  ticked_more turns turn all one =
      All-append (λ (t : Turn C). is_event t.answer ≡ true) turns (turn ∷ []) all
      (All-cons (λ (t : Turn C). is_event t.answer ≡ true) turn [] one (All-nil (λ (t : Turn C). is_event t.answer ≡ true)))

  pub moments_more : (moment : Option ℤ) (turns : List (Turn C)) (turn : Turn C) → HaveMoment moment turns
      → IfSome moment (λ m. turn.now ≡ m) → HaveMoment moment (turns ++ turn ∷ [])
  moments_more None turns turn all one = tt
  moments_more (Some m) turns turn all one =
      All-append (λ (t : Turn C). t.now ≡ m) turns (turn ∷ []) all
      (All-cons (λ (t : Turn C). t.now ≡ m) turn [] one (All-nil (λ (t : Turn C). t.now ≡ m)))

pub moments_none : (C : Type 0) (moment : Option ℤ) → HaveMoment {C = C} moment []
moments_none C None = tt
moments_none C (Some m) = All-nil (λ (t : Turn C). t.now ≡ m)
