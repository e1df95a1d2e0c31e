-- A value says one head at most.
use Rattle.std.proofs.Common.{◌≡◌, ℕ, List, [], length, codes, Option, Some, None, Result, Ok, Err, IfOk, MatchOption, IsUtf8, refl, sym, ap, ◌∙◌, subst, arith}
use Rattle.serde_json.specs.Data.{Data}
use Rattle.serde_json.specs.Read.{read}
use Rattle.serde_json.specs.View.{items_view}
use Rattle.serde_json.specs.declared.value.Value.{Value}
use Rattle.oe_dims.specs.Dimensions.{Dimensions, extent}
use Rattle.oe_render.specs.CubeText.{Each, list_in}
use Rattle.oe_render.specs.Members.{SaysShape, text_in}
use Rattle.oe_render.proofs.Ahead.{each_one}
use Rattle.oe_render.proofs.Shapes.{same_items}
use Rattle.oe_render.proofs.Values.{same_data}
use Rattle.oe_render.proofs.Spelled.{one_text}
use Rattle.oe_render.proofs.MemberLemmas.{each_length, one_kind, shape_once}
use Rattle.oe_sources.specs.Head.{Head, header_text}
use Rattle.oe_sources.specs.HeadRead.{HasWidthsOf, IsHeadOf, ListsWidths, SaysHead, SaysWidths, SpellsWidth}
use Rattle.oe_sources.specs.declared.head.Version.{Version}
use Rattle.oe_sources.specs.declared.head.Version.TheVariants.{First, Second}
use Rattle.oe_sources.proofs.HeadText.{header_read, header_utf8}
use Rattle.oe_wide.specs.Wide.{byte_count}
use Rattle.oe_wide.specs.declared.width.Width.{Width}
use Rattle.oe_wide.specs.declared.width.Width.TheVariants.{One, Nine, Seventeen}

one_count : (o : Option ℕ) (m n : ℕ) → o ≡ Some m → o ≡ Some n → m ≡ n
one_count o m n p q = let both : Some m ≡ Some n = sym p ∙ q in cc

width_by_count : (v w : Width) → byte_count v ≡ byte_count w → v ≡ w
width_by_count One One e = refl
width_by_count One Nine e = absurd (omega (arith, e))
width_by_count One Seventeen e = absurd (omega (arith, e))
width_by_count Nine One e = absurd (omega (arith, e))
width_by_count Nine Nine e = refl
width_by_count Nine Seventeen e = absurd (omega (arith, e))
width_by_count Seventeen One e = absurd (omega (arith, e))
width_by_count Seventeen Nine e = absurd (omega (arith, e))
width_by_count Seventeen Seventeen e = refl

pub one_width : (d : Data) (v w : Width) → SpellsWidth d v → SpellsWidth d w → v ≡ w
one_width d v w p q = width_by_count v w (one_count _ (byte_count v) (byte_count w) p q)

listed_once : (d : Data) (vs ws : List Width) → ListsWidths d vs → ListsWidths d ws → vs ≡ ws
listed_once d vs ws p q =
    let same = same_items (list_in (codes "widths") d) p.0 q.0 p.1 q.1 in
    each_one SpellsWidth one_width q.0 vs ws (subst (λ ds. Each SpellsWidth ds vs) same p.2) q.2

one_list : (version : Version) (m n : ℕ) (d : Data) (vs ws : Option (List Width)) → HasWidthsOf version m vs → HasWidthsOf version n ws → SaysWidths d vs → SaysWidths d ws → vs ≡ ws
one_list First m n d None None h k p q = refl
one_list First m n d None (Some ws) h k p q = absurd k
one_list First m n d (Some vs) ws h k p q = absurd h
one_list Second m n d None ws h k p q = absurd h
one_list Second m n d (Some vs) None h k p q = absurd k
one_list Second m n d (Some vs) (Some ws) h k p q = ap Some (listed_once d vs ws p q)

one_head : (version : Version) (d : Data) (g h : Head) → IsHeadOf version g → IsHeadOf version h → SaysHead d g → SaysHead d h → g ≡ h
one_head version d g h valid good p q =
    let id = one_text (text_in (codes "id") d) g.id h.id p.id q.id in
    let kind = one_kind d g.kind h.kind p.kind q.kind in
    let widths = one_list version _ _ d g.widths h.widths valid.widths good.widths p.widths q.widths in
    let shape = shape_once d g.shape h.shape p.shape q.shape in
    λ i. record { id = id i; kind = kind i; widths = widths i; shape = shape i }

-- bytes of a value that says no head are no header
pub no_header : (version : Version) (bytes : List ℕ) (d : Data) → read bytes ≡ Some d → ((h : Head) → IsHeadOf version h → ¬ SaysHead d h)
    → (h : Head) → IsHeadOf version h → ¬ (bytes ≡ header_text h)
no_header version bytes d is none h valid e =
    let r = header_read version h valid in
    let same = same_data (read bytes) r.0 d (ap read e ∙ r.1) is in
    none h valid (subst (λ v. SaysHead v h) same r.2)

-- a header of which a value was read is that of no other head than the value says
pub that_header : (version : Version) (bytes : List ℕ) (d : Data) (h : Head) → read bytes ≡ Some d → IsHeadOf version h → SaysHead d h
    → (g : Head) → IsHeadOf version g → bytes ≡ header_text g → h ≡ g
that_header version bytes d h is good says g valid e =
    let r = header_read version g valid in
    let same = same_data (read bytes) r.0 d (ap read e ∙ r.1) is in
    one_head version d h g good valid says (subst (λ v. SaysHead v g) same r.2)

-- bytes that are no JSON text are no header
pub unread_header : (version : Version) (bytes : List ℕ) → (IsUtf8 bytes → read bytes ≡ None) → (h : Head) → IsHeadOf version h → ¬ (bytes ≡ header_text h)
unread_header version bytes none h valid e =
    let r = header_read version h valid in
    let unread : read bytes ≡ None = none (subst IsUtf8 (sym e) (header_utf8 version h valid)) in
    let both : None ≡ Some r.0 = sym unread ∙ (ap read e ∙ r.1) in
    cc

-- what a value says is what the header says of which it was read
pub members_said : {E : Type 0} (version : Version) (bytes : List ℕ) (d : Data) (r : Result (Option Head) E) → read bytes ≡ Some d
    → IfOk r (λ found. MatchOption found ((h : Head) → IsHeadOf version h → ¬ SaysHead d h) (λ h. IsHeadOf version h × SaysHead d h))
    → IfOk r (λ found. MatchOption found ((h : Head) → IsHeadOf version h → ¬ (bytes ≡ header_text h)) (λ h. IsHeadOf version h × ((g : Head) → IsHeadOf version g → bytes ≡ header_text g → h ≡ g)))
members_said version bytes d (Err e) is h = tt
members_said version bytes d (Ok None) is h = no_header version bytes d is h
members_said version bytes d (Ok (Some found)) is h = (h.0, that_header version bytes d found is h.0 h.1)

-- a value whose shape has so many sections, but not so many widths, says no head
pub no_widths : (version : Version) (d : Data) (shape : Dimensions) (count : ℕ) → SaysShape d shape → count ≡ extent shape.t
    → ((ws : Option (List Width)) → HasWidthsOf version count ws → ¬ SaysWidths d ws) → (h : Head) → IsHeadOf version h → ¬ SaysHead d h
no_widths version d shape count said is none h valid says =
    let same : shape ≡ h.shape = shape_once d shape h.shape said says.shape in
    none h.widths (subst (λ n. HasWidthsOf version n h.widths) (sym (is ∙ ap (λ (s : Dimensions). extent s.t) same)) valid.widths) says.widths

-- ---- lists of widths

same_values : (d : Data) (values : List Value) (ws : List Width) → Some (items_view values) ≡ list_in (codes "widths") d → ListsWidths d ws → Each SpellsWidth (items_view values) ws
same_values d values ws is lists =
    let same = same_items (list_in (codes "widths") d) lists.0 (items_view values) lists.1 (sym is) in
    subst (λ ds. Each SpellsWidth ds ws) same lists.2

-- the widths of a list of the right length
pub counted_widths : {V E : Type 0} (items : V → List Width) (d : Data) (values : List Value) (count : ℕ) (r : Result (Option V) E)
    → Some (items_view values) ≡ list_in (codes "widths") d → length values ≡ count
    → IfOk r (λ read. MatchOption read ((ws : List Width) → ¬ Each SpellsWidth (items_view values) ws) (λ v. Each SpellsWidth (items_view values) (items v)))
    → IfOk r (λ read. MatchOption read ((ws : List Width) → length ws ≡ count → ¬ ListsWidths d ws) (λ v. (length (items v) ≡ count) × ListsWidths d (items v)))
counted_widths items d values count (Err e) is long h = tt
counted_widths items d values count (Ok None) is long h = λ ws _ lists. h ws (same_values d values ws is lists)
counted_widths items d values count (Ok (Some v)) is long h =
    (each_length SpellsWidth values (items v) h ∙ long, (items_view values, sym is, h))

-- a list of another length
pub other_count : (d : Data) (values : List Value) (count : ℕ) → Some (items_view values) ≡ list_in (codes "widths") d → (length values ≡ count → ⊥)
    → (ws : List Width) → length ws ≡ count → ¬ ListsWidths d ws
other_count d values count is other ws long lists =
    other (sym (each_length SpellsWidth values ws (same_values d values ws is lists)) ∙ long)
