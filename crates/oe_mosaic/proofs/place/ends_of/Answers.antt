use Rattle.std.proofs.Common.{◌-◌, length, rules, get_or, pos, FitsSigned, w64, subst}
use Rattle.std.proofs.lemmas.Int.{to_z-of_z}
use Rattle.oe_dims.specs.Rules.{IsInOrder}
use Rattle.oe_dims.specs.declared.kind.Kind.{Kind}
use Rattle.oe_mosaic.proofs.CountLemmas.{first_in, last_in}
use Rattle.oe_mosaic.proofs.PlaceLemmas.{ends_falling, ends_rising}
use Rattle.oe_mosaic.proofs.place.ends_of.Goals as goal

pub returns-in-Time-clause-inside : goal.returns-in-Time-clause-inside
returns-in-Time-clause-inside c =
    let labels = c.args.labels.now in
    let fits_first : FitsSigned w64 (get_or labels 0 (pos 0)) = search rules in
    let fits_last : FitsSigned w64 (get_or labels (length labels - 1) (pos 0)) = search rules in
    simp to_z-of_z (ends_rising labels (pos 0) (subst (λ (k : Kind). IsInOrder k labels) c.in-Time.is c.requires.order) c.requires.some)

pub returns-in-Time-clause-least : goal.returns-in-Time-clause-least
returns-in-Time-clause-least c =
    let labels = c.args.labels.now in
    let fits_first : FitsSigned w64 (get_or labels 0 (pos 0)) = search rules in
    let fits_last : FitsSigned w64 (get_or labels (length labels - 1) (pos 0)) = search rules in
    simp to_z-of_z (first_in labels (pos 0) c.requires.some)

pub returns-in-Time-clause-greatest : goal.returns-in-Time-clause-greatest
returns-in-Time-clause-greatest c =
    let labels = c.args.labels.now in
    let fits_first : FitsSigned w64 (get_or labels 0 (pos 0)) = search rules in
    let fits_last : FitsSigned w64 (get_or labels (length labels - 1) (pos 0)) = search rules in
    simp to_z-of_z (last_in labels (pos 0) c.requires.some)

pub returns-in-Bands-clause-inside : goal.returns-in-Bands-clause-inside
returns-in-Bands-clause-inside c =
    let labels = c.args.labels.now in
    let fits_first : FitsSigned w64 (get_or labels 0 (pos 0)) = search rules in
    let fits_last : FitsSigned w64 (get_or labels (length labels - 1) (pos 0)) = search rules in
    simp to_z-of_z (ends_rising labels (pos 0) (subst (λ (k : Kind). IsInOrder k labels) c.in-Bands.is c.requires.order) c.requires.some)

pub returns-in-Bands-clause-least : goal.returns-in-Bands-clause-least
returns-in-Bands-clause-least c =
    let labels = c.args.labels.now in
    let fits_first : FitsSigned w64 (get_or labels 0 (pos 0)) = search rules in
    let fits_last : FitsSigned w64 (get_or labels (length labels - 1) (pos 0)) = search rules in
    simp to_z-of_z (first_in labels (pos 0) c.requires.some)

pub returns-in-Bands-clause-greatest : goal.returns-in-Bands-clause-greatest
returns-in-Bands-clause-greatest c =
    let labels = c.args.labels.now in
    let fits_first : FitsSigned w64 (get_or labels 0 (pos 0)) = search rules in
    let fits_last : FitsSigned w64 (get_or labels (length labels - 1) (pos 0)) = search rules in
    simp to_z-of_z (last_in labels (pos 0) c.requires.some)

pub returns-in-Y-clause-inside : goal.returns-in-Y-clause-inside
returns-in-Y-clause-inside c =
    let labels = c.args.labels.now in
    let fits_first : FitsSigned w64 (get_or labels 0 (pos 0)) = search rules in
    let fits_last : FitsSigned w64 (get_or labels (length labels - 1) (pos 0)) = search rules in
    simp to_z-of_z (ends_falling labels (pos 0) (subst (λ (k : Kind). IsInOrder k labels) c.in-Y.is c.requires.order) c.requires.some)

pub returns-in-Y-clause-least : goal.returns-in-Y-clause-least
returns-in-Y-clause-least c =
    let labels = c.args.labels.now in
    let fits_first : FitsSigned w64 (get_or labels 0 (pos 0)) = search rules in
    let fits_last : FitsSigned w64 (get_or labels (length labels - 1) (pos 0)) = search rules in
    simp to_z-of_z (last_in labels (pos 0) c.requires.some)

pub returns-in-Y-clause-greatest : goal.returns-in-Y-clause-greatest
returns-in-Y-clause-greatest c =
    let labels = c.args.labels.now in
    let fits_first : FitsSigned w64 (get_or labels 0 (pos 0)) = search rules in
    let fits_last : FitsSigned w64 (get_or labels (length labels - 1) (pos 0)) = search rules in
    simp to_z-of_z (first_in labels (pos 0) c.requires.some)

pub returns-in-X-clause-inside : goal.returns-in-X-clause-inside
returns-in-X-clause-inside c =
    let labels = c.args.labels.now in
    let fits_first : FitsSigned w64 (get_or labels 0 (pos 0)) = search rules in
    let fits_last : FitsSigned w64 (get_or labels (length labels - 1) (pos 0)) = search rules in
    simp to_z-of_z (ends_rising labels (pos 0) (subst (λ (k : Kind). IsInOrder k labels) c.in-X.is c.requires.order) c.requires.some)

pub returns-in-X-clause-least : goal.returns-in-X-clause-least
returns-in-X-clause-least c =
    let labels = c.args.labels.now in
    let fits_first : FitsSigned w64 (get_or labels 0 (pos 0)) = search rules in
    let fits_last : FitsSigned w64 (get_or labels (length labels - 1) (pos 0)) = search rules in
    simp to_z-of_z (first_in labels (pos 0) c.requires.some)

pub returns-in-X-clause-greatest : goal.returns-in-X-clause-greatest
returns-in-X-clause-greatest c =
    let labels = c.args.labels.now in
    let fits_first : FitsSigned w64 (get_or labels 0 (pos 0)) = search rules in
    let fits_last : FitsSigned w64 (get_or labels (length labels - 1) (pos 0)) = search rules in
    simp to_z-of_z (last_in labels (pos 0) c.requires.some)
