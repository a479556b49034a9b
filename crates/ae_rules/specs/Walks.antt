-- Where a path leads: the form of the place, and what is held of it.
use Rattle.std.specs.Prelude.{Bool, List, [], ◌∷◌, ⊤}
use Rattle.ae_text.specs.declared.refusal.Spot.{Spot}
use Rattle.ae_text.specs.declared.refusal.Rule.TheVariants as rule
use Rattle.ae_tree.specs.declared.tree.NameAt.{NameAt}
use Rattle.ae_tree.specs.declared.tree.Path.{Path}
use Rattle.ae_tree.specs.declared.form.Perm.{Perm}
use Rattle.ae_tree.specs.declared.form.Perm.TheVariants as perm
use Rattle.ae_tree.specs.declared.form.Form.{Form}
use Rattle.ae_tree.specs.declared.form.Form.TheVariants as f
use Rattle.ae_tree.specs.Plain.{Code}
use Rattle.ae_rules.specs.declared.held.Held.{Held}
use Rattle.ae_rules.specs.declared.held.Held.TheVariants as held
use Rattle.ae_rules.specs.Verdict.{Verdict, Holds, ◌>>=◌, ◌>>◌, require, found, in_turn}
use Rattle.ae_rules.specs.Lookups.{is_empty, field_of}
use Rattle.ae_rules.specs.Context.{Local, Context, access, may_change}

-- a place: its form, and what is held of the object there
pub record Place : Type 0 where
  pub form : Form
  pub held : Held

-- what is held in a unique field, by what is held of the object that has it
abbrev pub held_inside : Held → Held
held_inside held.Unique = held.Unique
held_inside (held.Split n) = held.None
held_inside held.Immutable = held.Immutable
held_inside held.Lent = held.Lent
held_inside (held.Shared g) = held.Inner g
held_inside (held.Inner g) = held.Inner g
held_inside held.None = held.None

-- what is held in a field with this permission; no field is lent
abbrev pub held_in_perm : Held → Perm → Held
held_in_perm whole perm.Unique = held_inside whole
held_in_perm whole perm.Immutable = held.Immutable
held_in_perm whole perm.Lent = held.None
held_in_perm whole (perm.Shared g) = held.Shared g

-- what is held in a field of this form
abbrev pub held_in_field : Held → Form → Held
held_in_field whole f.Int = held.None
held_in_field whole f.Bool = held.None
held_in_field whole (f.Object q k) = held_in_perm whole q

-- A step from a place: the field is there, and the object is reached. What is held is tested at the path's root.
abbrev pub step : Code → Context → Spot → NameAt → Place → Verdict Place
step p c at x from =
    found (field_of p from.form x.name) rule.UnknownField x.at >>= λ form.
    access c at from.held >>
    Holds (record { form = form; held = held_in_field from.held form })

-- a walk along a path, from a visible local
abbrev pub walk : Code → Context → Path → Verdict Place
walk p c path =
    found (c.local path.root.name) rule.UnknownName path.root.at >>= λ (l : Local).
    in_turn (step p c path.root.at) path.steps (record { form = l.form; held = l.held })

abbrev pub without_last : {A : Type 0} → List A → List A
without_last [] = []
without_last (x ∷ []) = []
without_last (x ∷ y ∷ xs) = x ∷ without_last (y ∷ xs)

-- the path to the object that has the last field
abbrev pub owner : Path → Path
owner path = record path { steps = without_last path.steps }

-- the object at a path's end may be changed
abbrev pub write_access : Context → Spot → Held → Verdict ⊤
write_access c at h = access c at h >> require (may_change h) rule.NeedsUnique at

-- the object that has the path's last field may be changed
abbrev pub owner_write_access : Code → Context → Path → Verdict ⊤
owner_write_access p c path =
    walk p c (owner path) >>= λ from.
    write_access c path.root.at from.held

-- a name without steps
abbrev pub is_name : Path → Bool
is_name path = is_empty path.steps
