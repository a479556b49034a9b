-- What the answers show of places and objects.
use Rattle.std.specs.Prelude.{◌≡◌, MatchOption, ℕ, List, [], ◌∷◌, ◌++◌, Option, None, Some}
use Rattle.ae_tree.specs.declared.form.Form.{Form}
use Rattle.ae_tree.specs.declared.form.Form.TheVariants as f
use Rattle.ae_tree.specs.declared.form.Kind.{Kind}
use Rattle.ae_tree.specs.declared.form.Kind.TheVariants as kind
use Rattle.ae_tree.specs.Plain.{Code}
use Rattle.ae_rules.specs.Lookups.{class_of, class_at}
use Rattle.ae_judge.specs.declared.lookups.ClassAt.{ClassAt}
use Rattle.ae_semantics.specs.Places.{Bound, Address, Base, InLocal, InGroup, PlaceFound}
use Rattle.ae_semantics.specs.Places.{OpenedObject}
use Rattle.ae_values.specs.Shown.{shown, shown_tree}
use Rattle.ae_reads.specs.declared.found.BoundLocal.{BoundLocal}
use Rattle.ae_reads.specs.declared.found.MemberOf.{MemberOf}
use Rattle.ae_reads.specs.declared.found.Opened.{Opened}
use Rattle.ae_reads.specs.declared.found.Place.{Place}
use Rattle.ae_reads.specs.declared.found.PlaceForm.{PlaceForm}
use Rattle.ae_reads.specs.declared.found.PlaceForm.TheVariants as shape
use Rattle.ae_reads.specs.declared.found.Stepped.{Stepped}
use Rattle.ae_reads.specs.declared.found.Base as code
use Rattle.ae_reads.specs.declared.found.Base.TheVariants as b
use Rattle.ae_reads.specs.declared.found.Found.{Found}
use Rattle.ae_reads.specs.declared.found.Reached.{Reached}

-- a form, wherever it stands
abbrev pub shown_form : PlaceForm → Form
shown_form (shape.Bound form) = form.now
shown_form (shape.Made form) = form

-- a local as the meaning has it
abbrev pub bound_local : BoundLocal → Bound
bound_local x = record { form = x.form.now; value = shown x.value.now }

-- where the tree of an object begins: at this address, or where a reference led to a member at that member
abbrev pub base_at : Address → Option MemberOf → Address
base_at at None = at
base_at at (Some m) = record { base = InGroup m.group m.number; fields = [] }

-- an object of this kind that was opened at this address
abbrev pub opened_at : Address → Kind → Opened → OpenedObject
opened_at at k o = record { at = base_at at o.member; kind = k; tree = shown_tree o.tree.object.now }

-- the kind of the objects of a form; no value of another form is opened
abbrev pub kind_of_form : Form → Kind
kind_of_form f.Int = kind.Ints
kind_of_form f.Bool = kind.Ints
kind_of_form (f.Object q k) = k

-- the same of an object of this form
abbrev pub opened_as_form : Address → Form → Opened → OpenedObject
opened_as_form at form o = opened_at at (kind_of_form form) o

-- a place at this address
abbrev pub place_at : Address → Place → PlaceFound
place_at at x = record { at = at; form = shown_form x.form; value = shown x.value.now }

-- the field with this number, of an object at this address
abbrev pub field_at : Address → ℕ → Address
field_at at i = record { base = at.base; fields = at.fields ++ (i ∷ []) }

-- the place to which a step from this address led
abbrev pub stepped_at : Address → Stepped → PlaceFound
stepped_at at x = place_at (field_at (base_at at x.member) x.number) x.place

-- what a local holds, at whose place a walk begins
abbrev pub root_bound : Place → Bound
root_bound x = record { form = shown_form x.form; value = shown x.value.now }

-- the base of an address
abbrev pub base_of : code.Base → Base
base_of (b.Local x) = InLocal x
base_of (b.Member m) = InGroup m.group m.number

-- the address to which these fields lead from a base
abbrev pub address : code.Base → List ℕ → Address
address b fields = record { base = base_of b; fields = fields }

-- a place in a tree, to which these fields lead
abbrev pub found_at : List ℕ → Found → PlaceFound
found_at fields x = place_at (address x.base fields) x.place

-- the object that was reached at this address
abbrev pub reached_at : Address → Reached → OpenedObject
reached_at at x = opened_as_form at (shown_form x.form) x.opened

-- this is the class of objects of this kind with its number, and none where it is not declared
abbrev pub IsClassOf : Code → Kind → Option ClassAt → Type 0
IsClassOf p k class = MatchOption class (class_of p k ≡ None)
    (λ c. (class_of p k ≡ Some c.class.now) × (class_at p c.number ≡ Some c.class.now))
