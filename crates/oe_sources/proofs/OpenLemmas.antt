-- The start of a cube file, its header, and that the bytes are the file of one head alone.
use Rattle.std.proofs.Common.{◌≡◌, ◌↔◌, ℕ, ◌+◌, ◌<◌, ◌≤◌, ◌^◌, Bool, true, false, List, [], ◌++◌, length, get_or, take, drop, Option, Some, None, IfSome, refl, sym, ap, ◌∙◌, subst, arith}
use Rattle.std.specs.Int.{w32, to_be_bytes, from_be_bytes}
use Rattle.std.proofs.lemmas.Nat.{be_bytes_4, from_be_bytes-to_be_bytes_4}
use Rattle.std.proofs.lemmas.List.{take-append-drop, take-take, drop-take, length-append}
use Rattle.oe_dims.specs.Dimensions.{extent}
use Rattle.oe_dims.proofs.ListsLemmas.{drop_front, take_front}
use Rattle.oe_outside.specs.Stored.{HoldsAt, StoreHolds}
use Rattle.oe_sources.specs.CubeFile.{IsCubeFile}
use Rattle.oe_sources.specs.Head.{Head, IsHead, front_bytes, header_text, magic, most_header, record_bytes_count}
use Rattle.oe_sources.specs.HeadRead.{HasWidthsOf, IsHeadOf}
use Rattle.oe_sources.specs.Opening.{BeginsAlone, IsNoFile, IsNoStart, IsStart, Starts, start_bytes, version_magic}
use Rattle.oe_sources.specs.declared.head.Version.{Version}
use Rattle.oe_sources.specs.declared.head.Version.TheVariants.{First, Second}
use Rattle.oe_wide.specs.declared.width.Width.{Width}

-- ---- versions and starts

-- the version of a file that names widths or does not
abbrev pub version_for : Option (List Width) → Version
version_for None = First
version_for (Some widths) = Second

magic_is : (ws : Option (List Width)) → magic ws ≡ version_magic (version_for ws)
magic_is None = refl
magic_is (Some ws) = refl

magic_front : (v : Version) (more : List ℕ) → take 8 (version_magic v ++ more) ≡ version_magic v
magic_front First more = refl
magic_front Second more = refl

magic_behind : (v : Version) (more : List ℕ) → drop 8 (version_magic v ++ more) ≡ more
magic_behind First more = refl
magic_behind Second more = refl

magics_differ : (v w : Version) → version_magic v ≡ version_magic w → v ≡ w
magics_differ First First e = refl
magics_differ Second Second e = refl
magics_differ First Second e = let last : 49 ≡ 50 = ap (λ (bs : List ℕ). get_or bs 7 0) e in absurd (omega (arith, last))
magics_differ Second First e = let last : 50 ≡ 49 = ap (λ (bs : List ℕ). get_or bs 7 0) e in absurd (omega (arith, last))

length-start : (v : Version) (n : ℕ) → length (start_bytes v n) ≡ 12
length-start First n = refl
length-start Second n = refl

pub start_magic : (bytes : List ℕ) (v : Version) (n : ℕ) → bytes ≡ start_bytes v n → take 8 bytes ≡ version_magic v
start_magic bytes v n e = ap (take 8) e ∙ magic_front v (to_be_bytes w32 n)

pub start_count : (bytes : List ℕ) (v : Version) (n : ℕ) → n < 2 ^ 32 → bytes ≡ start_bytes v n → from_be_bytes w32 (drop 8 bytes) ≡ n
start_count bytes v n small e =
    ap (λ (bs : List ℕ). from_be_bytes w32 (drop 8 bs)) e ∙ ap (from_be_bytes w32) (magic_behind v (to_be_bytes w32 n))
    ∙ from_be_bytes-to_be_bytes_4 n small

pub start_made : (bytes four : List ℕ) (v : Version) (n : ℕ) → take 8 bytes ≡ version_magic v → four ≡ drop 8 bytes → length four ≡ 4 → ((i : ℕ) → get_or four i 0 < 256) → n ≡ from_be_bytes w32 four → bytes ≡ start_bytes v n
start_made bytes four v n front back long small count =
    sym (take-append-drop 8 bytes) ∙ ap (λ (bs : List ℕ). bs ++ drop 8 bytes) front
    ∙ ap (λ (bs : List ℕ). version_magic v ++ bs) (sym back ∙ sym (be_bytes_4 four n long small count))

-- the bytes that two tests found to be those of a version
pub magic_from : (v : Version) (bytes : List ℕ) → ((Some v ≡ Some First) ↔ (bytes ≡ magic None)) → ((Some v ≡ Some Second) ↔ (bytes ≡ magic (Some []))) → bytes ≡ version_magic v
magic_from First bytes first second = first.0 refl
magic_from Second bytes first second = second.0 refl

-- two starts of the same bytes are one
pub same_version : (bytes : List ℕ) (v w : Version) (m n : ℕ) → bytes ≡ start_bytes v m → bytes ≡ start_bytes w n → v ≡ w
same_version bytes v w m n a b = magics_differ v w (sym (start_magic bytes v m a) ∙ start_magic bytes w n b)

pub same_count : (bytes : List ℕ) (v w : Version) (m n : ℕ) → m ≤ most_header → n ≤ most_header → bytes ≡ start_bytes v m → bytes ≡ start_bytes w n → m ≡ n
same_count bytes v w m n few less a b =
    sym (start_count bytes v m (omega (arith, few)) a) ∙ start_count bytes w n (omega (arith, less)) b

-- ---- how a file begins

front_is : (head : Head) → front_bytes head ≡ start_bytes (version_for head.widths) (length (header_text head)) ++ header_text head
front_is head =
    ap (λ (m : List ℕ). m ++ to_be_bytes w32 (length (header_text head)) ++ header_text head) (magic_is head.widths)
    ∙ turn (version_magic (version_for head.widths)) (to_be_bytes w32 (length (header_text head))) (header_text head)
  where
    turn : (a b c : List ℕ) → a ++ b ++ c ≡ (a ++ b) ++ c
    turn a b c = grind arith

pub length-front : (head : Head) → length (front_bytes head) ≡ 12 + length (header_text head)
length-front head =
    let v = version_for head.widths in
    let n = length (header_text head) in
    ap length (front_is head) ∙ length-append (start_bytes v n) (header_text head) ∙ ap (λ (m : ℕ). m + n) (length-start v n)

pub file_start : (all : List ℕ) (head : Head) → IsCubeFile all head → take 12 all ≡ start_bytes (version_for head.widths) (length (header_text head))
file_start all head file =
    let v = version_for head.widths in
    let n = length (header_text head) in
    let more : 12 ≤ length (front_bytes head) = omega (arith, length-front head) in
    sym (take-take 12 (length (front_bytes head)) all more) ∙ ap (take 12) (file.front ∙ front_is head)
    ∙ take_front (start_bytes v n) (header_text head) 12 (length-start v n)

pub file_header : (all : List ℕ) (head : Head) → IsCubeFile all head → take (length (header_text head)) (drop 12 all) ≡ header_text head
file_header all head file =
    let v = version_for head.widths in
    let n = length (header_text head) in
    sym (drop-take 12 n all) ∙ ap (λ (m : ℕ). drop 12 (take m all)) (sym (length-front head)) ∙ ap (drop 12) (file.front ∙ front_is head)
    ∙ drop_front (start_bytes v n) (header_text head) 12 (length-start v n)

pub file_long : (all : List ℕ) (head : Head) → IsCubeFile all head → 12 + length (header_text head) ≤ length all
file_long all head file = omega (arith, file.whole, length-front head)

-- ---- refusals

-- fewer bytes than a start
pub none_short : (store : Option (List ℕ)) (b : Bool) → b ≡ false → IfSome store (λ all. 0 + 12 ≤ length all → b ≡ true) → IfSome store IsNoFile
none_short None b cut enough = tt
none_short (Some all) b cut enough = λ head file.
    let yes : b ≡ true = enough (omega (arith, file_long all head file)) in cc

-- no start
pub none_started : (store : Option (List ℕ)) (start : List ℕ) → length start ≡ 12 → StoreHolds store 0 start → IsNoStart start → IfSome store IsNoFile
none_started None start long held none = tt
none_started (Some all) start long held none = λ head file.
    let here : start ≡ take 12 all = sym held ∙ ap (λ (n : ℕ). take n all) long in
    none (version_for head.widths, length (header_text head)) (here ∙ file_start all head file, file.valid.short)

-- no room for the header
pub none_cut : (store : Option (List ℕ)) (start : List ℕ) (p : Version × ℕ) (total : ℕ) → length start ≡ 12 → StoreHolds store 0 start → IsStart start p → IfSome store (λ all. total ≡ length all) → total < 12 + p.1 → IfSome store IsNoFile
none_cut None start p total long held is_start counted cut = tt
none_cut (Some all) start p total long held is_start counted cut = λ head file.
    let n = length (header_text head) in
    let here : start ≡ take 12 all = sym held ∙ ap (λ (m : ℕ). take m all) long in
    let same : p.1 ≡ n = same_count start p.0 (version_for head.widths) p.1 n is_start.1 file.valid.short is_start.0 (here ∙ file_start all head file) in
    omega (arith, same, file_long all head file, counted, cut)

-- the start that was read
pub started : (store : Option (List ℕ)) (start : List ℕ) (p : Version × ℕ) (total : ℕ) → length start ≡ 12 → StoreHolds store 0 start → IsStart start p → IfSome store (λ all. total ≡ length all) → 12 + p.1 ≤ total → IfSome store (λ all. Starts all p)
started None start p total long held is_start counted room = tt
started (Some all) start p total long held is_start counted room =
    let here : start ≡ take 12 all = sym held ∙ ap (λ (m : ℕ). take m all) long in
    record { is_start = subst (λ (bs : List ℕ). IsStart bs p) here is_start; room = omega (arith, counted, room) }

-- the header was not there in full, which a start that was read excludes
pub none_header : (store : Option (List ℕ)) (p : Version × ℕ) → IfSome store (λ all. Starts all p) → IfSome store (λ all. ¬ (12 + p.1 ≤ length all)) → IfSome store IsNoFile
none_header None p starts past = tt
none_header (Some all) p starts past = λ head file. past starts.room

-- ---- the head

-- the head of a file is one of its version
pub head_of_file : (head : Head) → IsHead head → IsHeadOf (version_for head.widths) head
head_of_file head valid = record { id = valid.id; shape = valid.shape; widths = by_widths head.widths (extent head.shape.t) valid.widths }
  where
    by_widths : (ws : Option (List Width)) (n : ℕ) → IfSome ws (λ w. length w ≡ n) → HasWidthsOf (version_for ws) n ws
    by_widths None n h = tt
    by_widths (Some w) n h = h

-- what was read of a file's header is that header, and of its version
header_read : (all header : List ℕ) (p : Version × ℕ) (head : Head) → Starts all p → HoldsAt all 12 header → length header ≡ p.1 → IsCubeFile all head → (header ≡ header_text head) × (version_for head.widths ≡ p.0)
header_read all header p head starts held long file =
    let n = length (header_text head) in
    let begun = file_start all head file in
    let is_start = starts.is_start in
    let same : p.1 ≡ n = same_count (take 12 all) p.0 (version_for head.widths) p.1 n is_start.1 file.valid.short is_start.0 begun in (
      sym held ∙ ap (λ (m : ℕ). take m (drop 12 all)) (long ∙ same) ∙ file_header all head file,
      same_version (take 12 all) (version_for head.widths) p.0 n p.1 begun is_start.0,
    )

-- no head has the header
pub none_headed : (store : Option (List ℕ)) (header : List ℕ) (p : Version × ℕ) → IfSome store (λ all. Starts all p) → StoreHolds store 12 header → length header ≡ p.1 → ((h : Head) → IsHeadOf p.0 h → ¬ (header ≡ header_text h)) → IfSome store IsNoFile
none_headed None header p starts held long none = tt
none_headed (Some all) header p starts held long none = λ head file.
    let read = header_read all header p head starts held long file in
    none head (subst (λ (v : Version). IsHeadOf v head) read.1 (head_of_file head file.valid)) read.0

version_is : (v : Version) (ws : Option (List Width)) (n : ℕ) → HasWidthsOf v n ws → (v ≡ version_for ws) × IfSome ws (λ w. length w ≡ n)
version_is First None n h = (refl, tt)
version_is First (Some w) n h = absurd h
version_is Second None n h = absurd h
version_is Second (Some w) n h = (refl, h)

pub head_read : (head : Head) (header : List ℕ) (p : Version × ℕ) → IsHeadOf p.0 head → header ≡ header_text head → length header ≡ p.1 → p.1 ≤ most_header → IsHead head
head_read head header p of_version is long few =
    record {
      id = of_version.id;
      shape = of_version.shape;
      widths = (version_is p.0 head.widths (extent head.shape.t) of_version.widths).1;
      short = omega (arith, ap length is, long, few);
    }

pub base_read : (head : Head) (header : List ℕ) (n : ℕ) → header ≡ header_text head → length header ≡ n → 12 + n ≡ length (front_bytes head)
base_read head header n is long = omega (arith, ap length is, long, length-front head)

pub begins_alone : (store : Option (List ℕ)) (header : List ℕ) (p : Version × ℕ) (head : Head) → IfSome store (λ all. Starts all p) → StoreHolds store 12 header → length header ≡ p.1 → IsHeadOf p.0 head → header ≡ header_text head → ((g : Head) → IsHeadOf p.0 g → header ≡ header_text g → head ≡ g) → IfSome store (λ all. BeginsAlone all head)
begins_alone None header p head starts held long of_version is only = tt
begins_alone (Some all) header p head starts held long of_version is only =
    let v = version_for head.widths in
    let n = length (header_text head) in
    let count : p.1 ≡ n = sym long ∙ ap length is in
    let version : p.0 ≡ v = (version_is p.0 head.widths (extent head.shape.t) of_version.widths).0 in
    let begun : take 12 all ≡ start_bytes v n = starts.is_start.0 ∙ ap (λ (w : Version). start_bytes w p.1) version ∙ ap (start_bytes v) count in
    let rest : take n (drop 12 all) ≡ header_text head = ap (λ (m : ℕ). take m (drop 12 all)) (sym (ap length is)) ∙ held ∙ is in
    record {
      front = ap (λ (m : ℕ). take m all) (length-front head) ∙ two_parts n all ∙ ap (λ (bs : List ℕ). bs ++ take n (drop 12 all)) begun
          ∙ ap (λ (bs : List ℕ). start_bytes v n ++ bs) rest ∙ sym (front_is head);
      alone = λ other file.
          let read = header_read all header p other starts held long file in
          sym (only other (subst (λ (w : Version). IsHeadOf w other) read.1 (head_of_file other file.valid)) read.0);
    }
  where
    two_parts : (n : ℕ) (bs : List ℕ) → take (12 + n) bs ≡ take 12 bs ++ take n (drop 12 bs)
    two_parts n bs = sym (take-append-drop 12 (take (12 + n) bs)) ∙ ap (λ (xs : List ℕ). xs ++ drop 12 (take (12 + n) bs)) (take-take 12 (12 + n) bs (omega arith)) ∙ ap (λ (xs : List ℕ). take 12 bs ++ xs) (drop-take 12 n bs)

-- ---- the whole file

pub whole_file : (store : Option (List ℕ)) (head : Head) (total base : ℕ) → IsHead head → base ≡ length (front_bytes head) → IfSome store (λ all. total ≡ length all) → IfSome store (λ all. BeginsAlone all head) → total ≡ base + record_bytes_count head → IfSome store (λ all. IsCubeFile all head × BeginsAlone all head)
whole_file None head total base valid base_is counted begins whole = tt
whole_file (Some all) head total base valid base_is counted begins whole =
    (record { valid = valid; front = begins.front; whole = sym counted ∙ whole ∙ ap (λ (n : ℕ). n + record_bytes_count head) base_is }, begins)

pub none_whole : (store : Option (List ℕ)) (head : Head) (total base : ℕ) → base ≡ length (front_bytes head) → IfSome store (λ all. total ≡ length all) → IfSome store (λ all. BeginsAlone all head) → ¬ (total ≡ base + record_bytes_count head) → IfSome store IsNoFile
none_whole None head total base base_is counted begins not_whole = tt
none_whole (Some all) head total base base_is counted begins not_whole = λ other file.
    let this : IsCubeFile all head = subst (IsCubeFile all) (begins.alone other file) file in
    not_whole (counted ∙ this.whole ∙ ap (λ (n : ℕ). n + record_bytes_count head) (sym base_is))
