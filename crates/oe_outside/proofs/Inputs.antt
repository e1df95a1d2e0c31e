-- What reads that follow one another give.
use Rattle.std.proofs.Common.{◌≡◌, ℕ, ◌+◌, ◌-◌, ◌<◌, ◌≤◌, List, [], length, drop, ap, sym, ◌∙◌, Option, Some, None, Ok, Err, arith}
use Rattle.std.specs.Option.{option_map}
use Rattle.std.proofs.Math.Seq.{drop-append_seam, drop-append-add}
use Rattle.oe_outside.specs.Faults.{NeverFalls, HasCauseOf}
use Rattle.oe_outside.specs.Visible.{Gave}
use Rattle.oe_outside.proofs.Causes.{NeverFalls-trans, then-Rose}
use Rattle.oe_outside.proofs.Runs.{Gave-none, Gave-more, Gave-front}
use Rattle.oe_outside.specs.Input.{ReadsUpTo, ReadsMore, TakesAtMost}

-- no more was taken than was given
pub taken_at_most : (before after : Option (List ℕ)) (given : List ℕ) (limit : ℕ) → length given ≤ limit → Gave before given after → TakesAtMost before limit after
taken_at_most before None given limit few gave = (length given, few, sym (ap (option_map (drop (length given))) gave))
taken_at_most before (Some rest) given limit few gave =
    (length given, few, sym (ap (option_map (drop (length given))) gave ∙ ap Some (drop-append_seam given rest)))

-- some bytes were given, and then at most so many taken
pub taken_later : (before middle after : Option (List ℕ)) (given : List ℕ) (n limit : ℕ) → length given ≡ n → n ≤ limit → Gave before given middle → TakesAtMost middle (limit - n) after → TakesAtMost before limit after
taken_later before None after given n limit count few gave taken =
    (length given, omega arith, taken.2 ∙ sym (ap (option_map (drop (length given))) gave))
taken_later before (Some rest) after given n limit count few gave taken = (
  length given + taken.0,
  omega (arith, taken.1),
  taken.2 ∙ sym (ap (option_map (drop (length given + taken.0))) gave ∙ ap Some (drop-append-add given rest taken.0)),
)

-- nothing was given yet
pub none_given : (left : Option (List ℕ)) (bytes : List ℕ) → bytes ≡ [] → Gave left bytes left
none_given left bytes empty = rw empty (Gave-none left)

pub none_within : (limit n : ℕ) → n ≡ 0 → n ≤ limit + 1
none_within limit n none = omega arith

-- one more read
pub more_given : (limit : ℕ) (before middle after : Option (List ℕ)) (n : ℕ) (held bytes : List ℕ) → Gave before held middle → ReadsMore limit middle n held bytes after → Gave before bytes after
more_given limit before middle after n held bytes gave read =
    rw read.follows (Gave-more before middle after held read.given gave read.gave)

-- the read that gave nothing was the last
pub reads_to_end : (limit : ℕ) (before middle after : Option (List ℕ)) (n : ℕ) (held bytes : List ℕ) → Gave before held middle → ReadsMore limit middle n held bytes after → n ≡ 0 → ReadsUpTo limit before bytes after
reads_to_end limit before middle after n held bytes gave read none = record {
  front = Gave-front before after bytes (more_given limit before middle after n held bytes gave read);
  most = read.most;
  whole = λ _. read.end none;
}

-- the limit was passed
pub reads_past : (limit : ℕ) (before after : Option (List ℕ)) (bytes : List ℕ) → Gave before bytes after → length bytes ≤ limit + 1 → limit < length bytes → ReadsUpTo limit before bytes after
reads_past limit before after bytes gave most past = record {
  front = Gave-front before after bytes gave;
  most = most;
  whole = λ short. absurd (omega arith);
}

-- a call that answered this error, after some calls
pub later_cause : (T U : Type 0) {E : Type 0} (error e : E) (a b c : ℕ) → NeverFalls a b → HasCauseOf {T = T} error b c (Err e) → HasCauseOf {T = U} error a c (Err e)
later_cause T U error e a b c first last = record {
  count = NeverFalls-trans first last.count;
  failed = λ same. let is : e ≡ error = cc in then-Rose first (last.failed (ap Err is));
}

-- a call that answered, after some calls
pub answered : {T E : Type 0} (error : E) (x : T) (a b : ℕ) → NeverFalls a b → HasCauseOf error a b (Ok x)
answered error x a b falls = record { count = falls; failed = λ same. cc }

-- bounds of a number that has two names
pub same_within : (a b limit : ℕ) → a ≡ b → a ≤ limit → b ≤ limit
same_within a b limit same within = omega arith

pub same_past : (limit a b c : ℕ) → limit < a → a ≡ b → b ≡ c → limit < c
same_past limit a b c past one two = omega arith
