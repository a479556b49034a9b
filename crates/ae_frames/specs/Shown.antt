-- What is lent, as the code holds it.
use Rattle.std.specs.Prelude.{◌≡◌, ℕ, nat_eq, false, true, if◌then◌else◌, List, [], ◌∷◌, map, Option, None, Some}
use Rattle.std.specs.List.{cons_option}
use Rattle.ae_tree.specs.declared.form.Perm.TheVariants as perm
use Rattle.ae_semantics.specs.Places.{Group, Here, Away, As}
use Rattle.ae_rules.specs.Verdict.{given}
use Rattle.ae_values.specs.declared.env.Bound.{Bound}
use Rattle.ae_values.specs.declared.env.Bound.TheVariants as bound
use Rattle.ae_values.specs.Environments.{group_bound}
use Rattle.ae_values.specs.Shapes.{NameShape, OfGroup, name_shape}
use Rattle.ae_reads.specs.Answers.{one_name}
use Rattle.ae_reads.specs.Views.{address}
use Rattle.ae_frames.specs.Granting.{LentGroup, named_so}
use Rattle.ae_frames.specs.Kept.{ComesBack}
use Rattle.ae_frames.specs.declared.granted.Granted.{Granted}
use Rattle.ae_frames.specs.declared.granted.Lent.{Lent}
use Rattle.ae_frames.specs.declared.granted.Back.{Back}
use Rattle.ae_frames.specs.declared.lending.There.{There}
use Rattle.ae_frames.specs.declared.lending.There.TheVariants as there
use Rattle.ae_frames.specs.Bounds.{is_itself}

-- a group that is lent
abbrev pub lent_of : Lent → LentGroup
lent_of l = record { group = l.group; holder = l.holder }

abbrev pub lents_of : List Lent → List LentGroup
lents_of ls = map lent_of ls

-- a value that comes back
abbrev pub back_of : Back → ComesBack
back_of b = record { name = b.name; at = address b.base b.fields.items }

abbrev pub backs_of : List Back → List ComesBack
backs_of bs = map back_of bs

-- the groups that are got, under their names
abbrev pub got_of : List Granted → List (ℕ × Group)
got_of [] = []
got_of (x ∷ xs) = cons_option (named_so x.group (group_bound one_name x.bound)) (got_of xs)

-- what is bound where these groups are bound, and all else stays
abbrev pub bound_to : List Granted → (ℕ → Option Bound) → ℕ → Option Bound
bound_to [] rest y = rest y
bound_to (x ∷ xs) rest y = if nat_eq x.group y then Some x.bound else bound_to xs rest y

-- the names that these groups have
abbrev pub shapes_to : List Granted → List (ℕ × NameShape)
shapes_to xs = map (λ (x : Granted). (x.group, name_shape perm.Unique x.bound)) xs

-- the names of these groups
abbrev pub group_names_of : List Granted → List ℕ
group_names_of xs = map (λ (x : Granted). x.group) xs

-- what there is under a name that may have a group is told
abbrev pub IsThere : Option Bound → There → Type 0
IsThere b there.Nothing = given b None (group_bound one_name) ≡ None
IsThere b (there.Other g) = b ≡ Some (bound.Other g)
IsThere b there.Itself = given b false is_itself ≡ true

-- the other name of a group, where it stands under one
abbrev pub other_in : Group → Option ℕ
other_in (Here st) = None
other_in (Away cell) = None
other_in (As h) = Some h

-- the name of a group that is got, with its shape
abbrev pub got_shape : ℕ × Group → ℕ × NameShape
got_shape x = (x.0, OfGroup (other_in x.1))

-- what is seen of a group for which a placeholder stands
abbrev pub placed : Option Group
placed = Some (Away (one_name 0))
