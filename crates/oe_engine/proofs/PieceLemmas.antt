-- A step that is loaded for benches in pieces, one piece after another.
use Rattle.std.proofs.Common.{◌≡◌, ℕ, zero, suc, ◌+◌, ◌-◌, ◌≤◌, List, [], ◌∷◌, ◌++◌, length, take, drop, Result, Ok, Err, refl, sym, ap, ◌∙◌, subst, arith, append_assoc, length-append}
use borrow.Rule.Slice.PartMut.{drop_put, mid_len, mid_of, Post-is, post_of, put_mid, put_same, same_len_mid}
use Rattle.std.proofs.lemmas.List.{take-append-drop, take_all}
use Rattle.std.proofs.lemmas.List.Elements.{All-append, All-cons, All-drop, All-nil, All-tail}
use Rattle.std.proofs.lemmas.Option.{slice_get_within}
use Rattle.std.proofs.lemmas.Slice.{take-put_mid}
use Rattle.std.specs.List.{All}
use Rattle.std.specs.Result.{IsErrAnd, result_and}
use Rattle.oe_dims.proofs.FlatMapLemmas.{slice_get-append_left, slice_get-append_right}
use Rattle.oe_plan.specs.Plans.{PlanOf}
use Rattle.oe_sources.specs.Catalogue.{Row}
use Rattle.oe_engine.specs.Benches.{BenchOf, IsBenchFor, node_at}
use Rattle.oe_engine.specs.Chunks.{EachBench}
use Rattle.oe_engine.specs.Hulls.{HasLoadedSteps, IsBegun, LoadsChunks, LoadsStep}
use Rattle.oe_engine.specs.Loads.{LoadsBench}
use Rattle.oe_engine.specs.declared.hulls.Note.{Note}
use Rattle.oe_sources.specs.declared.source.LookFail.{LookFail}
use Rattle.oe_engine.proofs.HullLemmas.{none_if_refused}
use Rattle.oe_steps.proofs.PlaneLemmas.{tells_handed}
use Rattle.oe_steps.proofs.StepLoadLemmas.{slice_more}
use Rattle.oe_steps.proofs.Outcomes.{on_ok}

-- ---- what holds of the benches of two pieces

module _ (Holds : ℕ → BenchOf → Type 0) where
  each_front : (first : ℕ) (one others : List BenchOf) → EachBench first Holds (one ++ others) → EachBench first Holds one
  each_front first one others each i b at =
      each i b (slice_get-append_left one others i (slice_get_within one i b at) ∙ at)

  each_behind : (first : ℕ) (one others : List BenchOf) → EachBench first Holds (one ++ others)
      → EachBench (first + length one) Holds others
  each_behind first one others each i b at =
      let same : first + (length one + i) ≡ first + length one + i = omega arith in
      subst (λ k. Holds k b) same (each (length one + i) b (slice_get-append_right one others i ∙ at))

  each_both : (first : ℕ) (one others : List BenchOf) → EachBench first Holds one → EachBench (first + length one) Holds others
      → EachBench first Holds (one ++ others)
  each_both first [] others own each i b at =
      let same : first + 0 + i ≡ first + i = omega arith in subst (λ k. Holds k b) same (each i b at)
  each_both first (x ∷ one) others own each zero b at = own zero b at
  each_both first (x ∷ one) others own each (suc i) b at =
      let here : first + 1 + i ≡ first + suc i = omega arith in
      subst (λ k. Holds k b) here
      (each_both (first + 1) one others
      (λ j c is. (let same : first + suc j ≡ first + 1 + j = omega arith in subst (λ k. Holds k c) same (own (suc j) c is)))
      (λ j c is. (let same : first + suc (length one) + j ≡ first + 1 + length one + j = omega arith in
      subst (λ k. Holds k c) same (each j c is)))
      i b at)

pub all_front : {X : Type 0} (P : X → Type 0) (one others : List X) → All P (one ++ others) → All P one
all_front P [] others all = All-nil P
all_front P (x ∷ one) others all = All-cons P x one (all 0 x (omega arith)) (all_front P one others (All-tail P x (one ++ others) all))

pub all_behind : {X : Type 0} (P : X → Type 0) (one others : List X) → All P (one ++ others) → All P others
all_behind P [] others all = all
all_behind P (x ∷ one) others all = all_behind P one others (All-tail P x (one ++ others) all)

-- ---- a step of two pieces

module _ (p : PlanOf) (step : ℕ) (rows : List Row) where
  pub loads_none : LoadsStep p step rows [] [] (Ok tt)
  loads_none = record {
    many = refl;
    begun = All-nil (IsBegun p);
    loaded = λ first each i b at. absurd cc;
    refused = tt;
  }

  pub loads_both : (one own others rest : List BenchOf) (result : Result (Unit {0}) LookFail)
      → LoadsStep p step rows one own (Ok tt) → LoadsStep p step rows others rest result
      → LoadsStep p step rows (one ++ others) (own ++ rest) result
  loads_both one own others rest result first second =
      let count = length-append one others in
      let some = first.many in
      let more = second.many in
      record {
        many = omega (arith, length-append own rest, count, some, more);
        begun = All-append (IsBegun p) own rest first.begun second.begun;
        loaded = λ k each.
            on_ok _ _ result
            (λ loaded. each_both (HasLoadedSteps p rows (step + 1)) k own rest
            (first.loaded k (each_front (HasLoadedSteps p rows step) k one others each))
            (subst (λ n. EachBench (k + n) (HasLoadedSteps p rows (step + 1)) rest) (sym some) loaded))
            (second.loaded (k + length one) (each_behind (HasLoadedSteps p rows step) k one others each));
        refused = second.refused;
      }

  -- those that it does not come to stay as they are
  pub loads_some : (one own rest : List BenchOf) (fail : LookFail) (result : Result (Unit {0}) LookFail)
      → IsErrAnd result (λ e. e ≡ fail) → All (IsBegun p) rest → LoadsStep p step rows one own (Err fail)
      → LoadsStep p step rows (one ++ rest) (own ++ rest) result
  loads_some one own rest fail result is begun first =
      let count = length-append one rest in
      let some = first.many in
      record {
        many = omega (arith, length-append own rest, count, some);
        begun = All-append (IsBegun p) own rest first.begun begun;
        loaded = λ k each. none_if_refused result fail is _;
        refused = tells_handed p.graph rows (node_at p step) fail result is first.refused;
      }

-- ---- the first so many of some benches

-- of these the step is loaded, and the others are as they were
pub record HasLoadedFirst (p : PlanOf) (step n : ℕ) (rows : List Row) (old new : List BenchOf) : Type 0 where
  pub many : length new ≡ length old
  pub within : n ≤ length new
  pub done : LoadsStep p step rows (take n old) (take n new) (Ok tt)
  pub left : drop n new ≡ drop n old

pub first_none : (p : PlanOf) (step : ℕ) (rows : List Row) (benches : List BenchOf) → HasLoadedFirst p step 0 rows benches benches
first_none p step rows benches = record { many = refl; within = omega arith; done = loads_none p step rows; left = refl }

module _ (p : PlanOf) (step n : ℕ) (rows : List Row) (old new : List BenchOf) (h : HasLoadedFirst p step n rows old new) where
  pub first_begun : All (IsBegun p) old → All (IsBegun p) new
  first_begun begun =
      subst (All (IsBegun p)) (take-append-drop n new)
      (All-append (IsBegun p) (take n new) (drop n new) h.done.begun
      (subst (All (IsBegun p)) (sym h.left) (All-drop (IsBegun p) n old begun)))

  pub first_all : length new ≤ n → LoadsStep p step rows old new (Ok tt)
  first_all most =
      let many = h.many in
      subst (λ xs. LoadsStep p step rows old xs (Ok tt)) (take_all n new most)
      (subst (λ xs. LoadsStep p step rows xs (take n new) (Ok tt)) (take_all n old (omega arith)) h.done)

  module _ (end : ℕ) (from : n ≤ end) (to : end ≤ length new) (piece : List BenchOf) where
    same_piece : mid_of n (end - n) new ≡ mid_of n (end - n) old
    same_piece = ap (take (end - n)) h.left

    same_rest : post_of n (end - n) new ≡ post_of n (end - n) old
    same_rest = ap (drop (end - n)) h.left

    -- both, where the piece is answered so
    with_piece : (result : Result (Unit {0}) LookFail) → LoadsStep p step rows (mid_of n (end - n) new) piece result
        → LoadsStep p step rows (take n old ++ mid_of n (end - n) old) (take n new ++ piece) result
    with_piece result l =
        loads_both p step rows (take n old) (take n new) (mid_of n (end - n) old) piece result h.done
        (subst (λ xs. LoadsStep p step rows xs piece result) same_piece l)

    pub first_more : LoadsStep p step rows (mid_of n (end - n) new) piece (Ok tt) → HasLoadedFirst p step end rows old (put_mid n (end - n) new piece)
    first_more l =
        let within = h.within in
        let long : length piece ≡ end - n = l.many ∙ mid_len n end new to in
        let same = same_len_mid n (end - n) new piece l.many in
        let taken : take n old ++ mid_of n (end - n) old ≡ take end old = slice_more old n (end - n) end (omega arith) in
        let written : take end (put_mid n (end - n) new piece) ≡ take n new ++ piece =
        take-put_mid n (end - n) new piece end (omega arith) within in
        record {
          many = same ∙ h.many;
          within = omega arith;
          done = subst (λ xs. LoadsStep p step rows (take end old) xs (Ok tt)) (sym written)
              (subst (λ xs. LoadsStep p step rows xs (take n new ++ piece) (Ok tt)) taken (with_piece (Ok tt) l));
          left = drop_put n end new piece from to long
              ∙ (sym (Post-is n end new from) ∙ (same_rest ∙ Post-is n end old from));
        }

    pub first_refused : (fail : LookFail) (result : Result (Unit {0}) LookFail) → IsErrAnd result (λ e. e ≡ fail)
        → All (IsBegun p) old → LoadsStep p step rows (mid_of n (end - n) new) piece (Err fail)
        → LoadsStep p step rows old (put_mid n (end - n) new piece) result
    first_refused fail result is begun l =
        let rest = post_of n (end - n) old in
        let all = loads_some p step rows (take n old ++ mid_of n (end - n) old) (take n new ++ piece) rest fail result is
        (All-drop (IsBegun p) (end - n) (drop n old) (All-drop (IsBegun p) n old begun)) (with_piece (Err fail) l) in
        let old_is : (take n old ++ mid_of n (end - n) old) ++ rest ≡ old =
        append_assoc (take n old) (mid_of n (end - n) old) rest ∙ put_same n (end - n) old in
        let new_is : (take n new ++ piece) ++ rest ≡ put_mid n (end - n) new piece =
        append_assoc (take n new) piece rest ∙ ap (λ xs. take n new ++ (piece ++ xs)) (sym same_rest) in
        subst (λ xs. LoadsStep p step rows old xs result) new_is
        (subst (λ xs. LoadsStep p step rows xs ((take n new ++ piece) ++ rest) result) old_is all)

-- ---- all steps, of two pieces

pub chunks_and : (p : PlanOf) (rows : List Row) (first second : ℕ) (all one own others rest : List BenchOf)
    (front back result : Result (Unit {0}) Note) → all ≡ one ++ others → second ≡ first + length one → result ≡ result_and front back
    → LoadsChunks p rows first one own front → LoadsChunks p rows second others rest back
    → LoadsChunks p rows first all (own ++ rest) result
chunks_and p rows first second all one own others rest front back result parts at is a b =
    subst (λ xs. LoadsChunks p rows first xs (own ++ rest) result) (sym parts)
    (subst (LoadsChunks p rows first (one ++ others) (own ++ rest)) (sym is) (both front a))
  where
    both : (answer : Result (Unit {0}) Note) → LoadsChunks p rows first one own answer
        → LoadsChunks p rows first (one ++ others) (own ++ rest) (result_and answer back)
    both (Ok done) a =
        let some = a.many in
        let more = b.many in
        record {
          many = omega (arith, length-append own rest, length-append one others, some, more);
          benches = All-append (IsBenchFor p) own rest a.benches b.benches;
          loaded = on_ok _ _ back
              (λ loaded. each_both (LoadsBench p rows) first own rest a.loaded
              (subst (λ n. EachBench n (LoadsBench p rows) rest) (at ∙ ap (λ n. first + n) (sym some)) loaded)) b.loaded;
          noted = b.noted;
        }
    both (Err note) a =
        let some = a.many in
        let more = b.many in
        record {
          many = omega (arith, length-append own rest, length-append one others, some, more);
          benches = All-append (IsBenchFor p) own rest a.benches b.benches;
          loaded = tt;
          noted = a.noted;
        }
