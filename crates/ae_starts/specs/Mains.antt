-- How `main` begins: the names that it begins with, and what they stand for.
use Rattle.std.specs.Prelude.{◌≡◌, ◌⊎◌, ℕ, ℤ, List, [], ◌∷◌, map, Option, None, Some}
use Rattle.ae_tree.specs.declared.tree.Param.{Param}
use Rattle.ae_tree.specs.declared.tree.Need.TheVariants as need_of
use Rattle.ae_tree.specs.declared.tree.GroupNeed.{GroupNeed}
use Rattle.ae_tree.specs.declared.form.Kind.TheVariants as kind
use Rattle.ae_tree.specs.declared.form.Form.{Form}
use Rattle.ae_tree.specs.Form.{form}
use Rattle.ae_tree.specs.Names.{io, main}
use Rattle.ae_tree.specs.Plain.{Definition, Code}
use Rattle.ae_tree.specs.WellShaped.{WellShaped}
use Rattle.ae_tree.specs.FreeThis.{ThisIsFree}
use Rattle.ae_rules.specs.Lookups.{method_at, top_number}
use Rattle.ae_rules.specs.Into.{unique_of}
use Rattle.ae_rules.specs.Calls.{ParamSlot}
use Rattle.ae_rules.specs.Judges.{Accepts, start}
use Rattle.ae_semantics.specs.Values.{Owned, Array}
use Rattle.ae_semantics.specs.Places.{Bound, with}
use Rattle.ae_semantics.specs.Calls.{Taker, takers}
use Rattle.ae_semantics.specs.Means.{main_state}
use Rattle.ae_values.specs.Shapes.{NameShape, OfLocal}
use Rattle.ae_names.specs.Known.{AreKnown}

-- a parameter as a name, with the form in which it is declared
abbrev pub taker_shape : Taker → ℕ × NameShape
taker_shape t = (t.0, OfLocal t.1.form)

-- the names with which the body of `main` begins
abbrev pub main_names : Code → Definition → List (ℕ × NameShape)
main_names p m = map taker_shape (takers p m)

-- the `main` of the program is the method with this number
pub record HasMain (p : Code) (n : ℕ) (m : Definition) : Type 0 where
  pub number : top_number p main ≡ Some n
  pub method : method_at p n ≡ Some m

-- an array of integers of one's own
abbrev pub integers : Form
integers = unique_of kind.Ints

-- what the locals of a body have where nothing is bound
abbrev pub no_locals : ℕ → Option Bound
no_locals x = None

-- `main` has no parameter, and begins without a local
pub record BeginsAlone (p : Code) (m : Definition) : Type 0 where
  pub params : m.params ≡ []
  pub takers : takers p m ≡ []
  pub names : main_names p m ≡ []
  pub locals : (ints : List ℤ) → (main_state p m ints).locals ≡ no_locals

-- `main` has one parameter, an array of integers of its own, and begins with the integers in it alone
pub record BeginsWithIntegers (p : Code) (m : Definition) : Type 0 where
  pub param : Param
  pub params : m.params ≡ param ∷ []
  pub form : form param.ty ≡ integers
  pub slot : ParamSlot
  pub takers : takers p m ≡ (param.name.name, slot) ∷ []
  pub slot_form : slot.form ≡ integers
  pub names : main_names p m ≡ (param.name.name, OfLocal integers) ∷ []
  pub locals : (ints : List ℤ) → (main_state p m ints).locals
      ≡ with param.name.name (Some (record { form = integers; value = Owned (Array ints) })) no_locals

-- the one or the other
abbrev pub BeginsSo : Code → Definition → Type 0
BeginsSo p m = BeginsAlone p m ⊎ BeginsWithIntegers p m

-- `main` needs no group, or `io` alone
abbrev pub NeedsAtMostIo : Definition → Type 0
NeedsAtMostIo m = (m.needs ≡ []) ⊎ ((n : GroupNeed) × (m.needs ≡ n ∷ []) × (n.need ≡ need_of.Exclusive)
    × (n.group.name ≡ io))

-- The program has a `main`, without a receiver. It needs no group but `io`, begins alone or with integers, and the
-- names with which it begins are those that are known there.
pub record HasBeginning (p : Code) : Type 0 where
  pub number : ℕ
  pub method : Definition
  pub has : HasMain p number method
  pub receiver : method.me ≡ None
  pub needs : NeedsAtMostIo method
  pub begins : BeginsSo p method
  pub known : AreKnown (start p method) (main_names p method)

-- each accepted program in which nothing is declared under the name `this` begins so
abbrev pub MainBegins : Type 0
MainBegins = (p : Code) → WellShaped p → ThisIsFree p → Accepts p → HasBeginning p
