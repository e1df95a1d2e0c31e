-- What reads that follow one another give of a front and of a body.
use Rattle.std.proofs.Common.{◌≡◌, ℕ, ◌≤◌, List, [], ◌++◌, length, inl, inr, sym, ◌∙◌, ap, arith, Option, Some, None, append-nil, append_assoc}
use Rattle.std.proofs.lemmas.List.{nil_from_length}
use Rattle.oe_outside.specs.Visible.{Gave}
use Rattle.oe_outside.proofs.Runs.{Gave-none, Gave-more}
use Rattle.oe_http.specs.Front.{HasNoHead, IsHeadEnd, EndsNowhere, most_head}
use Rattle.oe_http.specs.Reading.{ReadsMore, ReadsFront, ReadsBody}
use Rattle.oe_http.proofs.Fronts.{ends_nowhere}

-- nothing was read yet
pub none_given : (left : Option (List ℕ)) (bytes : List ℕ) → bytes ≡ [] → Gave left bytes left
none_given left bytes empty = rw empty (Gave-none left)

-- one more read
pub more_given : {limit : ℕ} {before middle after : Option (List ℕ)} {n : ℕ} {held bytes : List ℕ} → Gave before held middle → ReadsMore limit middle n held bytes after → Gave before bytes after
more_given {limit} {before} {middle} {after} {n} {held} {bytes} gave read =
    rw read.follows (Gave-more before middle after held read.given gave read.gave)

-- it gave nothing
nothing_new : {limit : ℕ} {middle after : Option (List ℕ)} {n : ℕ} {held bytes : List ℕ} → ReadsMore limit middle n held bytes after → n ≡ 0 → bytes ≡ held
nothing_new {held = held} read none =
    read.follows ∙ ap (λ more. held ++ more) (nil_from_length read.given (read.counted ∙ none)) ∙ append-nil held

-- where the head may end after one more read
pub nowhere_before : {limit : ℕ} {middle after : Option (List ℕ)} {n : ℕ} {held bytes : List ℕ} → HasNoHead held → ReadsMore limit middle n held bytes after → EndsNowhere bytes (length held)
nowhere_before {held = held} none read = rw read.follows (ends_nowhere held read.given none)

-- a front whose link ended
pub front_ended : {before middle after : Option (List ℕ)} {n : ℕ} {held bytes : List ℕ} → Gave before held middle → HasNoHead held → ReadsMore most_head middle n held bytes after → n ≡ 0 → ReadsFront before bytes None after
front_ended gave none read ended = record {
  gave = more_given gave read;
  most = read.most;
  head = (rw (nothing_new read ended) none, inr (read.end ended));
}

-- a front with a head
pub front_found : {before middle after : Option (List ℕ)} {n : ℕ} {held bytes : List ℕ} (end : ℕ) → Gave before held middle → ReadsMore most_head middle n held bytes after → IsHeadEnd bytes end → ReadsFront before bytes (Some end) after
front_found end gave read found = record { gave = more_given gave read; most = read.most; head = found }

-- a front that is full
pub front_full : {before after : Option (List ℕ)} {bytes : List ℕ} → Gave before bytes after → HasNoHead bytes → length bytes ≤ most_head → most_head ≤ length bytes → ReadsFront before bytes None after
front_full {bytes = bytes} gave none most full =
    let is : length bytes ≡ most_head = omega arith in
    record { gave = gave; most = most; head = (none, inl is) }

-- the bytes of a body so far
pub record HasGiven (before : Option (List ℕ)) (first bytes : List ℕ) (after : Option (List ℕ)) : Type 0 where
  pub given : List ℕ
  pub follows : bytes ≡ first ++ given
  pub gave : Gave before given after

pub body_none : (left : Option (List ℕ)) (first : List ℕ) → HasGiven left first first left
body_none left first = record { given = []; follows = sym (append-nil first); gave = Gave-none left }

pub body_more : {limit : ℕ} {before middle after : Option (List ℕ)} {n : ℕ} {first held bytes : List ℕ} → HasGiven before first held middle → ReadsMore limit middle n held bytes after → HasGiven before first bytes after
body_more {before = before} {middle = middle} {after = after} {first = first} so_far read = record {
  given = so_far.given ++ read.given;
  follows = read.follows ∙ ap (λ bytes. bytes ++ read.given) so_far.follows ∙ append_assoc first so_far.given read.given;
  gave = Gave-more before middle after so_far.given read.given so_far.gave read.gave;
}

-- a body whose link ended
pub body_ended : {limit : ℕ} {before middle after : Option (List ℕ)} {n : ℕ} {first held bytes : List ℕ} → HasGiven before first held middle → ReadsMore limit middle n held bytes after → n ≡ 0 → ReadsBody limit before first bytes after
body_ended so_far read ended =
    let all = body_more so_far read in
    record { given = all.given; follows = all.follows; gave = all.gave; most = read.most; end = inr (read.end ended) }

-- a body that is whole
pub body_whole : {limit : ℕ} {before after : Option (List ℕ)} {first bytes : List ℕ} → HasGiven before first bytes after → length bytes ≤ limit → limit ≤ length bytes → ReadsBody limit before first bytes after
body_whole {limit} {bytes = bytes} so_far most full =
    let is : length bytes ≡ limit = omega arith in
    record { given = so_far.given; follows = so_far.follows; gave = so_far.gave; most = most; end = inl is }
