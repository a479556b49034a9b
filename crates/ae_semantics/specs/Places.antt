-- Where a path leads, and how what stands there is read and changed.
use Rattle.std.specs.Prelude.{ℕ, nat_eq, Bool, true, false, if◌then◌else◌, List, [], ◌∷◌, ◌++◌, Option, None, Some}
use Rattle.std.specs.Prelude.{option_map, slice_get}
use Rattle.std.specs.Prelude as prelude
use Rattle.ae_tree.specs.declared.tree.NameAt.{NameAt}
use Rattle.ae_tree.specs.declared.tree.Path.{Path}
use Rattle.ae_tree.specs.declared.tree.Class.{Class}
use Rattle.ae_tree.specs.declared.form.Perm.{Perm}
use Rattle.ae_tree.specs.declared.form.Perm.TheVariants as perm
use Rattle.ae_tree.specs.declared.form.Kind.{Kind}
use Rattle.ae_tree.specs.declared.form.Form.{Form}
use Rattle.ae_tree.specs.declared.form.Form.TheVariants as f
use Rattle.ae_tree.specs.Plain.{Code}
use Rattle.ae_rules.specs.Verdict.{given}
use Rattle.ae_rules.specs.Lookups.{class_of, field_number, field_of_kind}
use Rattle.ae_rules.specs.Walks.{owner}
use Rattle.ae_semantics.specs.Values.{Val, Owned, Member, Tree, Object, Array, Values, Store, is_low, is_of_kind}
use Rattle.ae_semantics.specs.Values.{value_fits, value_at, put_at}

-- ---- outcomes

-- there is an outcome, or a trap, or something that an accepted program always finds is not there
pub data Outcome (A : Type 0) : Type 0 where
  Fine : A → Outcome A
  Traps : ℕ → Outcome A
  Lacks : Outcome A

-- first the one, and with its outcome the next
infixr 10 ◌>>=◌
abbrev pub ◌>>=◌ : {A B : Type 0} → Outcome A → (A → Outcome B) → Outcome B
(Fine x) >>= next = next x
(Traps code) >>= next = Traps code
Lacks >>= next = Lacks

-- what has to be there
abbrev pub there : {A : Type 0} → Option A → Outcome A
there None = Lacks
there (Some x) = Fine x

-- what counts as null where it is not there
abbrev pub reached : {A : Type 0} → Option A → Outcome A
reached None = Traps 3
reached (Some x) = Fine x

-- ---- what statements find and leave

-- the cell of a group, by the path of the split block that took the group away and the group's name there
pub record CellName : Type 0 where
  pub path : List ℕ
  pub group : ℕ

-- a group's members are here, or its cell has them, or they stand under that other name of the same group
pub data Group : Type 0 where
  Here : Store → Group
  Away : CellName → Group
  As : ℕ → Group

-- a local that has a value, with the form of what it holds now: it is shared after `share`, and immutable after `freeze`
pub record Bound : Type 0 where
  pub form : Form
  pub value : Val

-- the locals and the groups by name, and what was returned; the log of `io` stands elsewhere
pub record State : Type 0 where
  pub locals : ℕ → Option Bound
  pub groups : ℕ → Option Group
  pub result : Option Val

-- another thing under this name
abbrev pub with : {A : Type 0} → ℕ → A → (ℕ → A) → ℕ → A
with x new old y = if nat_eq x y then new else old y

-- another thing in a local
abbrev pub with_bound : ℕ → Option Bound → State → State
with_bound x b s = record s { locals = with x b s.locals }

-- a group's own name, or the other one under which its members stand
abbrev pub other_name : ℕ → Option Group → ℕ
other_name g (Some (As h)) = h
other_name g _ = g

-- the name under which what there is of a group stands
abbrev pub name_of : State → ℕ → ℕ
name_of s g = other_name g (s.groups g)

-- what there is of a group, by whichever of its names
abbrev pub group_of : State → ℕ → Option Group
group_of s g = s.groups (name_of s g)

-- something else of a group, by whichever of its names
abbrev pub with_store : ℕ → Option Group → State → State
with_store g c s = record s { groups = with (name_of s g) c s.groups }

-- the members of a group that is here
abbrev pub members : Option Group → Option Store
members (Some (Here st)) = Some st
members _ = None

-- the members of a group, which has to be here
abbrev pub store_of : State → ℕ → Outcome Store
store_of s g = there (members (group_of s g))

-- ---- walks

-- a tree stands in a local, or is a member of a group
pub data Base : Type 0 where
  InLocal : ℕ → Base
  InGroup : ℕ → ℕ → Base

-- a place in a tree, by the fields that lead to it
pub record Address : Type 0 where
  pub base : Base
  pub fields : List ℕ

-- a place with its form and its value
pub record PlaceFound : Type 0 where
  pub at : Address
  pub form : Form
  pub value : Val

-- an object with the place where its tree stands
pub record OpenedObject : Type 0 where
  pub at : Address
  pub kind : Kind
  pub tree : Tree

-- the object, where the test holds, or else trap 3
abbrev pub opened_if : Bool → OpenedObject → Outcome OpenedObject
opened_if true o = Fine o
opened_if false o = Traps 3

-- the member of a group with this number, as an object of this kind
abbrev pub opened_member : Code → Kind → ℕ → ℕ → Store → Outcome OpenedObject
opened_member p k g n st = reached (slice_get st n) >>= λ t.
    opened_if (is_of_kind p k t) (record { at = record { base = InGroup g n; fields = [] }; kind = k; tree = t })

-- The object at a place: null is trap 3, and so are a reference without a member and a tree of another kind.
abbrev pub open_value : Code → State → Perm → Kind → Address → Val → Outcome OpenedObject
open_value p s (perm.Shared g) k at (Member n) = store_of s g >>= opened_member p k g n
open_value p s (perm.Shared g) k at _ = Traps 3
open_value p s q k at (Owned t) = opened_if (is_of_kind p k t) (record { at = at; kind = k; tree = t })
open_value p s q k at _ = Traps 3

-- the object of a value of this form
abbrev pub open_form : Code → State → Address → Form → Val → Outcome OpenedObject
open_form p s at f.Int v = Lacks
open_form p s at f.Bool v = Lacks
open_form p s at (f.Object q k) v = open_value p s q k at v

-- the object at a place
abbrev pub open_place : Code → State → PlaceFound → Outcome OpenedObject
open_place p s x = open_form p s x.at x.form x.value

-- a field by its number and its form in an object
pub record NumberedField : Type 0 where
  pub number : ℕ
  pub form : Form

-- a form with the number of its field
abbrev pub numbered_as : Option Form → ℕ → Option NumberedField
numbered_as form n = option_map (λ (x : Form). record { number = n; form = x }) form

-- the field with this name of an object of this kind
abbrev pub numbered_field : Code → Kind → ℕ → Option NumberedField
numbered_field p k x = given (class_of p k) None
    (λ (c : Class). given (field_number c x) None (numbered_as (field_of_kind p k x)))

-- the fields of an object
abbrev pub object_values : Tree → Option Values
object_values (Object c xs) = Some xs
object_values (Array ns) = None

-- the value of the field with this number
abbrev pub field_value : Tree → ℕ → Option Val
field_value t i = given (object_values t) None (λ xs. value_at xs i)

-- the place of a field of an object
abbrev pub field_place : OpenedObject → NumberedField → Val → PlaceFound
field_place o x v = record {
  at = record { base = o.at.base; fields = o.at.fields ++ (x.number ∷ []) };
  form =
      x.form;
  value = v;
}

-- a value that a step meets: one that is not of the field's form counts as null
abbrev pub met : Code → PlaceFound → Outcome PlaceFound
met p x = if value_fits p x.form x.value then Fine x else Traps 3

-- the field with this name of an object, which is met
abbrev pub into_field : Code → OpenedObject → ℕ → Outcome PlaceFound
into_field p o x = there (numbered_field p o.kind x) >>= λ d.
    there (field_value o.tree d.number) >>= λ v.
    met p (field_place o d v)

-- one step of a path, into the field with this name
abbrev pub step_to : Code → State → NameAt → PlaceFound → Outcome PlaceFound
step_to p s x from = open_place p s from >>= λ o. into_field p o x.name

-- the steps of a path, one after another
abbrev pub steps : Code → State → List NameAt → PlaceFound → Outcome PlaceFound
steps p s [] from = Fine from
steps p s (x ∷ xs) from = step_to p s x from >>= steps p s xs

-- the place of a local
abbrev pub local_place : ℕ → Bound → PlaceFound
local_place x b = record { at = record { base = InLocal x; fields = [] }; form = b.form; value = b.value }

-- a walk along a path, from a local
abbrev pub walk_to : Code → State → Path → Outcome PlaceFound
walk_to p s path = there (s.locals path.root.name) >>= λ b. steps p s path.steps (local_place path.root.name b)

-- the object to which a path leads
abbrev pub reach : Code → State → Path → Outcome OpenedObject
reach p s path = walk_to p s path >>= open_place p s

-- ---- writes

-- a local or a member that would become too high is trap 8
abbrev pub low : Val → Outcome Val
low v = if is_low v then Fine v else Traps 8

-- a value for a local; the form is that of what it holds now
abbrev pub bind : ℕ → Form → Val → State → Outcome State
bind x form v s = low v >>= λ w. Fine (with_bound x (Some (record { form = form; value = w })) s)

-- a group with this object in place of a member
abbrev pub with_member : State → ℕ → ℕ → Store → Val → Outcome State
with_member s g n st (Owned t) = Fine (with_store g (Some (Here (prelude.set st n t))) s)
with_member s g n st _ = Lacks

-- a member of a group with another value in it
abbrev pub rewrite_member : State → ℕ → ℕ → List ℕ → Val → Store → Outcome State
rewrite_member s g n fields new st = there (slice_get st n) >>= λ t.
    low (put_at fields new (Owned t)) >>= with_member s g n st

-- A value at an address. Only the tree that has the place is made again.
abbrev pub write_in : State → Base → List ℕ → Val → Outcome State
write_in s (InLocal x) fields new = there (s.locals x) >>= λ b. bind x b.form (put_at fields new b.value) s
write_in s (InGroup g n) fields new = store_of s g >>= rewrite_member s g n fields new

-- another value at an address
abbrev pub write : State → Address → Val → Outcome State
write s at new = write_in s at.base at.fields new

-- a field of an object gets a value; the old one is not met
abbrev pub write_field : State → OpenedObject → ℕ → Val → Outcome State
write_field s o i new = write s (record { base = o.at.base; fields = o.at.fields ++ (i ∷ []) }) new

-- an object's tree is another
abbrev pub write_tree : State → OpenedObject → Tree → Outcome State
write_tree s o t = write s o.at (Owned t)

-- ---- paths whose last step is written

-- the last of a list, where there is one
abbrev pub last_item : {A : Type 0} → List A → Option A
last_item [] = None
last_item (x ∷ []) = Some x
last_item (x ∷ y ∷ xs) = last_item (y ∷ xs)

-- an object and one of its fields
pub record ObjectField : Type 0 where
  pub object : OpenedObject
  pub part : NumberedField

-- the field with this name of an object, to be written
abbrev pub slot_in : Code → OpenedObject → NameAt → Outcome ObjectField
slot_in p o x = there (numbered_field p o.kind x.name) >>= λ d. Fine (record { object = o; part = d })

-- the object that has a path's last field, and that field
abbrev pub slot : Code → State → Path → Outcome ObjectField
slot p s path = there (last_item path.steps) >>= λ x. reach p s (owner path) >>= λ o. slot_in p o x
