-- The shape whose dimensions some values are.
use Rattle.std.proofs.Common.{◌≡◌, ℕ, ℤ, List, Option, Some, None, refl, sym, ap, ◌∙◌, subst}
use Rattle.serde_json.specs.Data.{Data, Items}
use Rattle.oe_dims.specs.Dimensions.{Dimensions}
use Rattle.oe_dims.specs.declared.kind.Kind.{Kind}
use Rattle.oe_dims.specs.declared.kind.Kind.TheVariants.{Time, Bands, Y, X}
use Rattle.oe_render.specs.CubeText.{Each, label_values, Along, AreDimensions, SpellsTime, SpellsName, SpellsCoordinate, common_system, dimension_in}
use Rattle.oe_render.specs.Seen.{HasValues}
use Rattle.oe_render.proofs.Ahead.{each_one}
use Rattle.oe_render.proofs.Spelled.{one_time, one_name, one_coordinate}

pub same_items : (o : Option Items) (ds es : Items) → o ≡ Some ds → o ≡ Some es → ds ≡ es
same_items o ds es p q = let both : Some ds ≡ Some es = sym p ∙ q in cc

same_code : (o : Option ℕ) (m n : ℕ) → o ≡ Some m → o ≡ Some n → m ≡ n
same_code o m n p q = let both : Some m ≡ Some n = sym p ∙ q in cc

along_one : {A : Type 0} (kind : Kind) (Spells : Data → A → Type 0) → ((d : Data) (a b : A) → Spells d a → Spells d b → a ≡ b) → (o : Option Data) (xs ys : Option (List A)) → Along kind Spells o xs → Along kind Spells o ys → xs ≡ ys
along_one kind Spells one None None None p q = refl
along_one kind Spells one None None (Some ys) p q = absurd q
along_one kind Spells one None (Some xs) ys p q = absurd p
along_one kind Spells one (Some d) None ys p q = absurd p
along_one kind Spells one (Some d) (Some xs) None p q = absurd q
along_one kind Spells one (Some d) (Some xs) (Some ys) p q =
    let same = same_items (label_values kind d) p.0 q.0 p.1 q.1 in
    ap Some (each_one Spells one q.0 xs ys (subst (λ ds. Each Spells ds xs) same p.2) q.2)

-- values are the dimensions of one shape at most
pub one_shape : (ds : Items) (a b : Dimensions) → AreDimensions ds a → AreDimensions ds b → a ≡ b
one_shape ds a b p q =
    let epsg = same_code (common_system (dimension_in Y ds) (dimension_in X ds)) a.epsg b.epsg p.system q.system in
    let t = along_one Time SpellsTime one_time (dimension_in Time ds) a.t b.t p.t q.t in
    let bands = along_one Bands SpellsName one_name (dimension_in Bands ds) a.bands b.bands p.bands q.bands in
    let y = along_one Y SpellsCoordinate one_coordinate (dimension_in Y ds) a.y b.y p.y q.y in
    let x = along_one X SpellsCoordinate one_coordinate (dimension_in X ds) a.x b.x p.x q.x in
    λ i. record { epsg = epsg i; t = t i; bands = bands i; y = y i; x = x i }

-- what was read of each value makes the shape
pub made_shape : {ds : Items} {a b c e : Option Data} {epsg : ℕ} {t : Option (List ℤ)} {bands : Option (List (List ℕ))} {y x : Option (List ℤ)} → HasValues ds a b c e
    → common_system c e ≡ Some epsg → Along Time SpellsTime a t → Along Bands SpellsName b bands → Along Y SpellsCoordinate c y → Along X SpellsCoordinate e x
    → AreDimensions ds (record { epsg = epsg; t = t; bands = bands; y = y; x = x })
made_shape {ds} {a} {b} {c} {e} {epsg} {t} {bands} {y} {x} h system p q r s = record {
  t = subst (λ o. Along Time SpellsTime o t) h.t_is p;
  bands = subst (λ o. Along Bands SpellsName o bands) h.bands_is q;
  y = subst (λ o. Along Y SpellsCoordinate o y) h.y_is r;
  x = subst (λ o. Along X SpellsCoordinate o x) h.x_is s;
  system = sym (ap (λ o. common_system o (dimension_in X ds)) h.y_is) ∙ sym (ap (λ o. common_system c o) h.x_is) ∙ system;
  last = h.last;
}
