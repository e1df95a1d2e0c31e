-- A value says one head at most.
use Rattle.std.proofs.Common.{◌≡◌, ℕ, ◌<◌, List, [], ◌∷◌, length, get_or, codes, Option, Some, None, Result, Ok, Err, IfOk, MatchOption, IsUtf8, sym, ap, ◌∙◌, subst, zero, suc, arith}
use Rattle.serde_json.specs.Data.{Data}
use Rattle.serde_json.specs.Read.{read}
use Rattle.serde_json.specs.View.{items_view, view}
use Rattle.serde_json.specs.declared.value.Value.{Value}
use Rattle.oe_render.specs.CubeText.{Each, list_in}
use Rattle.oe_render.specs.Members.{text_in}
use Rattle.oe_render.proofs.Ahead.{each_one}
use Rattle.oe_render.proofs.Shapes.{same_items}
use Rattle.oe_render.proofs.Values.{same_data}
use Rattle.oe_render.proofs.Spelled.{one_text}
use Rattle.oe_render.proofs.MemberLemmas.{each_length, one_kind, shape_once}
use Rattle.oe_parts.specs.Head.{IsPartHead, PartHead, header_text}
use Rattle.oe_parts.specs.HeadRead.{IsNumberOf, IsReadHead, SaysNumbers, SaysPartHead}
use Rattle.oe_parts.proofs.HeadText.{header_read, header_utf8}

one_number : (d : Data) (m n : ℕ) → IsNumberOf d m → IsNumberOf d n → m ≡ n
one_number d m n p q = let both : Some m ≡ Some n = sym p ∙ q in cc

numbers_once : (name : List ℕ) (d : Data) (ms ns : List ℕ) → SaysNumbers name d ms → SaysNumbers name d ns → ms ≡ ns
numbers_once name d ms ns p q =
    let same = same_items (list_in name d) p.0 q.0 p.1 q.1 in
    each_one IsNumberOf one_number q.0 ms ns (subst (λ ds. Each IsNumberOf ds ms) same p.2) q.2

first_of : (a b : ℕ) (xs ys : List ℕ) → a ∷ xs ≡ b ∷ ys → a ≡ b
first_of a b xs ys e = cc

rest_of : (a b : ℕ) (xs ys : List ℕ) → a ∷ xs ≡ b ∷ ys → xs ≡ ys
rest_of a b xs ys e = cc

one_head : (d : Data) (g h : PartHead) → SaysPartHead d g → SaysPartHead d h → g ≡ h
one_head d g h p q =
    let graph = one_text (text_in (codes "graph") d) g.graph h.graph p.graph q.graph in
    let sides = numbers_once (codes "chunk") d _ _ p.sides q.sides in
    let x = first_of _ _ _ _ sides in
    let y = first_of _ _ _ _ (rest_of _ _ _ _ sides) in
    let t = first_of _ _ _ _ (rest_of _ _ _ _ (rest_of _ _ _ _ sides)) in
    let range = numbers_once (codes "range") d _ _ p.range q.range in
    let first = first_of _ _ _ _ range in
    let end = first_of _ _ _ _ (rest_of _ _ _ _ range) in
    let kind = one_kind d g.kind h.kind p.kind q.kind in
    let shape = shape_once d g.shape h.shape p.shape q.shape in
    λ i. record { graph = graph i; sides = record { x = x i; y = y i; t = t i }; first = first i; end = end i; kind = kind i; shape = shape i }

-- bytes of a value that says no head are no header
no_header : (bytes : List ℕ) (d : Data) → read bytes ≡ Some d → ((h : PartHead) → IsPartHead h → ¬ SaysPartHead d h)
    → (h : PartHead) → IsPartHead h → ¬ (bytes ≡ header_text h)
no_header bytes d is none h valid e =
    let r = header_read h valid in
    let same = same_data (read bytes) r.0 d (ap read e ∙ r.1) is in
    none h valid (subst (λ v. SaysPartHead v h) same r.2)

-- a header of which a value was read is that of no other head than the value says
that_header : (bytes : List ℕ) (d : Data) (h : PartHead) → read bytes ≡ Some d → SaysPartHead d h
    → (g : PartHead) → IsPartHead g → bytes ≡ header_text g → h ≡ g
that_header bytes d h is says g valid e =
    let r = header_read g valid in
    let same = same_data (read bytes) r.0 d (ap read e ∙ r.1) is in
    one_head d h g says (subst (λ v. SaysPartHead v g) same r.2)

-- bytes that are no JSON text are no header
pub unread_header : (bytes : List ℕ) → (IsUtf8 bytes → read bytes ≡ None) → (h : PartHead) → IsPartHead h → ¬ (bytes ≡ header_text h)
unread_header bytes none h valid e =
    let r = header_read h valid in
    let unread : read bytes ≡ None = none (subst IsUtf8 (sym e) (header_utf8 h valid)) in
    let both : None ≡ Some r.0 = sym unread ∙ (ap read e ∙ r.1) in
    cc

-- what a value says is what the header says of which it was read
pub members_said : {E : Type 0} (bytes : List ℕ) (d : Data) (r : Result (Option PartHead) E) → read bytes ≡ Some d
    → IfOk r (λ found. MatchOption found ((h : PartHead) → IsPartHead h → ¬ SaysPartHead d h) (λ h. IsReadHead h × SaysPartHead d h))
    → IfOk r (λ found. MatchOption found ((h : PartHead) → IsPartHead h → ¬ (bytes ≡ header_text h)) (λ h. IsReadHead h × ((g : PartHead) → IsPartHead g → bytes ≡ header_text g → h ≡ g)))
members_said bytes d (Err e) is h = tt
members_said bytes d (Ok None) is h = no_header bytes d is h
members_said bytes d (Ok (Some found)) is h = (h.0, that_header bytes d found is h.1)

-- ---- lists of three and of two numbers

-- values that are listed spell numbers that are said
pub same_numbers : (name : List ℕ) (d : Data) (values : List Value) (ns : List ℕ) → Some (items_view values) ≡ list_in name d → SaysNumbers name d ns → Each IsNumberOf (items_view values) ns
same_numbers name d values ns is lists =
    let same = same_items (list_in name d) lists.0 (items_view values) lists.1 (sym is) in
    subst (λ ds. Each IsNumberOf ds ns) same lists.2

-- a list of another length
pub other_count : (name : List ℕ) (d : Data) (values : List Value) (count : ℕ) → Some (items_view values) ≡ list_in name d → (length values ≡ count → ⊥)
    → (ns : List ℕ) → length ns ≡ count → ¬ SaysNumbers name d ns
other_count name d values count is other ns long said =
    other (sym (each_length IsNumberOf values ns (same_numbers name d values ns is said)) ∙ long)

-- each value of a list spells the number at its index
pub each_at : (values : List Value) (ns : List ℕ) (k : ℕ) (v : Value) → Each IsNumberOf (items_view values) ns → k < length values → v ≡ get_or values k v → IsNumberOf (view v) (get_or ns k 0)
each_at [] ns k v h below is = absurd (omega arith)
each_at (w ∷ values) [] k v h below is = absurd h
each_at (w ∷ values) (n ∷ ns) zero v h below is = subst (λ u. IsNumberOf (view u) n) (sym is) h.0
each_at (w ∷ values) (n ∷ ns) (suc k) v h below is = each_at values ns k v h.1 (omega arith) is

-- and a list of such values spells the numbers
pub three_said : (values : List Value) (a b c : Value) (x y t : ℕ) → length values ≡ 3 → a ≡ get_or values 0 a → b ≡ get_or values 1 b → c ≡ get_or values 2 c
    → IsNumberOf (view a) x → IsNumberOf (view b) y → IsNumberOf (view c) t → Each IsNumberOf (items_view values) (x ∷ y ∷ t ∷ [])
three_said [] a b c x y t long ea eb ec ha hb hc = absurd (omega (arith, long))
three_said (u ∷ []) a b c x y t long ea eb ec ha hb hc = absurd (omega (arith, long))
three_said (u ∷ v ∷ []) a b c x y t long ea eb ec ha hb hc = absurd (omega (arith, long))
three_said (u ∷ v ∷ w ∷ []) a b c x y t long ea eb ec ha hb hc =
    (subst (λ z. IsNumberOf (view z) x) ea ha, (subst (λ z. IsNumberOf (view z) y) eb hb, (subst (λ z. IsNumberOf (view z) t) ec hc, tt)))
three_said (u ∷ v ∷ w ∷ z ∷ more) a b c x y t long ea eb ec ha hb hc = absurd (omega (arith, long))

pub two_said : (values : List Value) (a b : Value) (m n : ℕ) → length values ≡ 2 → a ≡ get_or values 0 a → b ≡ get_or values 1 b
    → IsNumberOf (view a) m → IsNumberOf (view b) n → Each IsNumberOf (items_view values) (m ∷ n ∷ [])
two_said [] a b m n long ea eb ha hb = absurd (omega (arith, long))
two_said (u ∷ []) a b m n long ea eb ha hb = absurd (omega (arith, long))
two_said (u ∷ v ∷ []) a b m n long ea eb ha hb = (subst (λ z. IsNumberOf (view z) m) ea ha, (subst (λ z. IsNumberOf (view z) n) eb hb, tt))
two_said (u ∷ v ∷ w ∷ more) a b m n long ea eb ha hb = absurd (omega (arith, long))
