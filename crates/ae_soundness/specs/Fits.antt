-- When a state fits what is known at a statement: what stands in each local is what the judgement takes it for.
use Rattle.std.specs.Prelude.{◌≡◌, ◌≢◌, ℕ, nat_eq, Bool, true, false, ◌&&◌, ◌||◌, not, List, [], ◌∷◌, Option, None}
use Rattle.std.specs.Prelude.{Some, slice_get}
use Rattle.std.specs.List.{list_all}
use Rattle.ae_tree.specs.declared.tree.Field.{Field}
use Rattle.ae_tree.specs.declared.tree.Class.{Class}
use Rattle.ae_tree.specs.declared.form.Perm.{Perm}
use Rattle.ae_tree.specs.declared.form.Perm.TheVariants as perm
use Rattle.ae_tree.specs.declared.form.Form.{Form}
use Rattle.ae_tree.specs.declared.form.Form.TheVariants as f
use Rattle.ae_tree.specs.Form.{form}
use Rattle.ae_tree.specs.Names.{io}
use Rattle.ae_tree.specs.Plain.{Code}
use Rattle.ae_rules.specs.declared.held.GroupPerm.{GroupPerm}
use Rattle.ae_rules.specs.declared.held.GroupPerm.TheVariants as group
use Rattle.ae_rules.specs.declared.held.Held.{Held}
use Rattle.ae_rules.specs.declared.held.Held.TheVariants as held
use Rattle.ae_rules.specs.Verdict.{given}
use Rattle.ae_rules.specs.Forms.{is_object}
use Rattle.ae_rules.specs.Lookups.{class_at, class_called, groups_of}
use Rattle.ae_rules.specs.Groups.{known, same_group_perm}
use Rattle.ae_rules.specs.Context.{Local, Context, holds_nothing}
use Rattle.ae_rules.specs.Walks.{Place}
use Rattle.ae_semantics.specs.Values.{Val, OfInt, OfBool, Null, Owned, Member, Tree, Object, Array, Values, NoValue}
use Rattle.ae_semantics.specs.Values.{AndValue, Store, value_fits}
use Rattle.ae_semantics.specs.Places.{CellName, Group, Here, Away, As, Bound, State, members, group_of, name_of}

-- ---- values

-- the fields of the class with this name
abbrev pub fields_called : Code → ℕ → List Field
fields_called p c = given (class_called p c) [] (λ (d : Class). d.fields)

abbrev mutual
  -- of each object in the value, each field has a value of the form that the object's class gives it
  pub IsWhole : Code → Val → Type 0
  IsWhole p (OfInt n) = Unit {0}
  IsWhole p (OfBool b) = Unit {0}
  IsWhole p Null = Unit {0}
  IsWhole p (Owned t) = IsWholeTree p t
  IsWhole p (Member n) = Unit {0}

  pub IsWholeTree : Code → Tree → Type 0
  IsWholeTree p (Object c xs) = AreOfFields p (fields_called p c) xs
  IsWholeTree p (Array ns) = Unit {0}

  -- these fields have these values, and no field lacks one
  pub AreOfFields : Code → List Field → Values → Type 0
  AreOfFields p [] NoValue = Unit {0}
  AreOfFields p [] (AndValue v xs) = ⊥
  AreOfFields p (d ∷ ds) NoValue = ⊥
  AreOfFields p (d ∷ ds) (AndValue v xs) = (value_fits p (form d.ty) v ≡ true) × IsWhole p v × AreOfFields p ds xs

-- The value is of this form, and so is each value in it of its own; which groups a form names does not count.
abbrev pub IsOfForm : Code → Form → Val → Type 0
IsOfForm p t v = (value_fits p t v ≡ true) × IsWhole p v

-- ---- forms

-- the same form, but for the permission of an object
abbrev pub SameButPermission : Form → Form → Type 0
SameButPermission f.Int f.Int = Unit {0}
SameButPermission f.Int f.Bool = ⊥
SameButPermission f.Int (f.Object q k) = ⊥
SameButPermission f.Bool f.Int = ⊥
SameButPermission f.Bool f.Bool = Unit {0}
SameButPermission f.Bool (f.Object q k) = ⊥
SameButPermission (f.Object q k) f.Int = ⊥
SameButPermission (f.Object q k) f.Bool = ⊥
SameButPermission (f.Object q k) (f.Object r l) = k ≡ l

-- nothing shared is held
abbrev pub HoldsNoMember : Held → Type 0
HoldsNoMember h = (g : ℕ) → h ≢ held.Shared g

-- what is shared in a group is held of an object exactly where it is a member of that group now
abbrev pub FitsPermission : Perm → Held → Type 0
FitsPermission perm.Unique h = HoldsNoMember h
FitsPermission perm.Immutable h = HoldsNoMember h
FitsPermission perm.Lent h = HoldsNoMember h
FitsPermission (perm.Shared g) h = h ≡ held.Shared g

-- what is held fits the form that stands here now
abbrev pub FitsHeld : Form → Held → Type 0
FitsHeld f.Int h = HoldsNoMember h
FitsHeld f.Bool h = HoldsNoMember h
FitsHeld (f.Object q k) h = FitsPermission q h

-- the name is not `io`, which has a log and no members
abbrev pub has_members : ℕ → Bool
has_members g = not (nat_eq io g)

-- an object with this permission is no member of `io`
abbrev pub perm_has_members : Perm → Bool
perm_has_members perm.Unique = true
perm_has_members perm.Immutable = true
perm_has_members perm.Lent = true
perm_has_members (perm.Shared g) = has_members g

-- no group of the form is `io`
abbrev pub form_has_members : Form → Bool
form_has_members f.Int = true
form_has_members f.Bool = true
form_has_members (f.Object q k) = perm_has_members q && list_all has_members (groups_of k)

-- no field of the program is of a form with `io` for a group
abbrev pub FieldsHaveMembers : Code → Type 0
FieldsHaveMembers p = (n : ℕ) (c : Class) → class_at p n ≡ Some c → (i : ℕ) (d : Field) → slice_get c.fields i ≡ Some d
    → form_has_members (form d.ty) ≡ true

-- ---- places, locals and groups

-- a place of which this is known has this form now and this value
pub record FitsPlace (p : Code) (w : Place) (now : Form) (v : Val) : Type 0 where
  pub form : SameButPermission w.form now
  pub held : FitsHeld now w.held
  pub members : form_has_members now ≡ true
  pub value : IsOfForm p now v

-- a local as a place
abbrev pub place_held : Local → Place
place_held l = record { form = l.form; held = l.held }

-- the place has a value: only an object that was moved away has none
abbrev pub has_value : Place → Bool
has_value w = not (holds_nothing w.held && is_object w.form)

-- what there is of a local that has this form and of which this is held
pub record FitsLocal (p : Code) (s : State) (x : ℕ) (w : Place) : Type 0 where
  pub bound : Bound
  pub is : s.locals x ≡ Some bound
  pub fits : FitsPlace p w bound.form bound.value

-- each member of a group is whole
abbrev pub AreWhole : Code → Store → Type 0
AreWhole p st = (n : ℕ) (t : Tree) → slice_get st n ≡ Some t → IsWholeTree p t

-- the members of a group are here, and each is whole
pub record HasMembers (p : Code) (s : State) (g : ℕ) : Type 0 where
  pub store : Store
  pub is : members (group_of s g) ≡ Some store
  pub whole : AreWhole p store

-- a group with this permission may be in a cell
abbrev pub may_be_away : GroupPerm → Bool
may_be_away q = same_group_perm group.Shared q || same_group_perm group.HeldBack q

-- what there is of a group of which this may be done: its members, each whole, or the cell that has them
abbrev pub FitsShown : Code → GroupPerm → Option Group → Type 0
FitsShown p q None = ⊥
FitsShown p q (Some (Here st)) = AreWhole p st
FitsShown p q (Some (Away cell)) = may_be_away q ≡ true
FitsShown p q (Some (As h)) = ⊥

-- of a group that a method does not need there may be anything
abbrev pub FitsGroup : Code → GroupPerm → Option Group → Type 0
FitsGroup p q o = same_group_perm group.None q ≡ false → FitsShown p q o

-- No group of a visible local's form is `io`, and each visible local that was not moved away has a value of its form.
-- Of each known group but `io` there is what may be, under a known name; of `io`, which is known, and of what is not
-- known there is nothing.
pub record FitsContext (p : Code) (c : Context) (s : State) : Type 0 where
  pub form : (x : ℕ) (l : Local) → c.local x ≡ Some l → form_has_members l.form ≡ true
  pub local : (x : ℕ) (l : Local) → c.local x ≡ Some l → has_value (place_held l) ≡ true
      → FitsLocal p s x (place_held l)
  pub group : (g : ℕ) (q : GroupPerm) → has_members g ≡ true → c.group g ≡ Some q → FitsGroup p q (group_of s g)
  pub name : (g : ℕ) → has_members g ≡ true → known c.group g ≡ true → known c.group (name_of s g) ≡ true
  pub log : s.groups io ≡ None
  pub log_known : known c.group io ≡ true
  pub unknown : (g : ℕ) → known c.group g ≡ false → s.groups g ≡ None

-- no group is away in a cell
abbrev pub NoneAway : State → Type 0
NoneAway s = (g : ℕ) (cell : CellName) → s.groups g ≢ Some (Away cell)
