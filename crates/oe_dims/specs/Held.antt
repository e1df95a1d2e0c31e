-- What contracts see of labels that shapes keep alone or share.
use Rattle.std.specs.Prelude.{List}
use Rattle.std.specs.Arc.{arc_value}
use Rattle.oe_dims.specs.declared.label_list.Held.{Held}
use Rattle.oe_dims.specs.declared.label_list.Held.TheVariants.{Alone, Shared}

-- the labels, whoever keeps them
abbrev pub held_labels : {A : Type 0} → Held A → List A
held_labels (Alone labels) = labels.items
held_labels (Shared labels) = (arc_value labels).items
