-- What a program declares under a name or a number.
use Rattle.std.specs.Prelude.{ℕ, nat_eq, Bool, true, false, List, [], ◌∷◌, ◌++◌, map, Option, None, Some, slice_get}
use Rattle.std.specs.Prelude.{find, filter_map, position, option_map}
use Rattle.std.specs.List.{list_any}
use Rattle.ae_tree.specs.declared.tree.NameAt.{NameAt}
use Rattle.ae_tree.specs.declared.tree.Field.{Field}
use Rattle.ae_tree.specs.declared.tree.Class.{Class}
use Rattle.ae_tree.specs.declared.tree.Decl.{Decl}
use Rattle.ae_tree.specs.declared.tree.Decl.TheVariants as decl
use Rattle.ae_rules.specs.declared.table.Member.{Member}
use Rattle.ae_rules.specs.declared.table.Member.TheVariants as member
use Rattle.ae_tree.specs.declared.form.Kind.{Kind}
use Rattle.ae_tree.specs.declared.form.Kind.TheVariants as kind
use Rattle.ae_tree.specs.declared.form.Form.{Form}
use Rattle.ae_tree.specs.declared.form.Form.TheVariants as f
use Rattle.ae_tree.specs.Form.{form, bare_names}
use Rattle.ae_tree.specs.Plain.{Definition, Code}
use Rattle.ae_rules.specs.Verdict.{given}
use Rattle.ae_rules.specs.Forms.{in_place, form_with}

-- a set of names
abbrev pub Names : Type 0
Names = ℕ → Bool

abbrev pub is_empty : {A : Type 0} → List A → Bool
is_empty [] = true
is_empty (x ∷ xs) = false

-- the name is one of these
abbrev pub has_name : List ℕ → Names
has_name xs y = list_any (λ x. nat_eq x y) xs

abbrev pub class_at : Code → ℕ → Option Class
class_at p n = slice_get p.classes n

abbrev pub method_at : Code → ℕ → Option Definition
method_at p n = slice_get p.methods n

-- the number of the first class with this name, and the class
abbrev pub class_number : Code → ℕ → Option ℕ
class_number p x = position (λ (c : Class). nat_eq c.name.name x) p.classes

abbrev pub class_called : Code → ℕ → Option Class
class_called p x = given (class_number p x) None (class_at p)

abbrev pub top_in : Decl → Option ℕ
top_in (decl.Class n) = None
top_in (decl.Method n) = Some n

-- the methods that stand at the top, by number
abbrev pub tops : Code → List ℕ
tops p = filter_map top_in p.decls

-- the method with this number has this name
abbrev pub is_called : Code → ℕ → ℕ → Bool
is_called p x n = given (method_at p n) false (λ (m : Definition). nat_eq m.name.name x)

-- the number of the method with this name at the top, and the method
abbrev pub top_number : Code → ℕ → Option ℕ
top_number p x = find (is_called p x) (tops p)

abbrev pub top_called : Code → ℕ → Option Definition
top_called p x = given (top_number p x) None (method_at p)

-- the place of the first field with this name, and the field
abbrev pub field_number : Class → ℕ → Option ℕ
field_number c x = position (λ (d : Field). nat_eq d.name.name x) c.fields

abbrev pub field_called : Class → ℕ → Option Field
field_called c x = given (field_number c x) None (slice_get c.fields)

-- the number of a class's method with this name
abbrev pub method_number : Code → Class → ℕ → Option ℕ
method_number p c x = find (is_called p x) c.methods

-- what a class has under a name: a field by its place, or else a method by its number
abbrev pub member_called : Code → Class → ℕ → Option Member
member_called p c x = given (field_number c x) (option_map member.Method (method_number p c x))
    (λ n. Some (member.Field n))

-- the names of a class's members, fields first
abbrev pub member_names : Code → Class → List NameAt
member_names p c = map (λ (d : Field). d.name) c.fields
    ++ filter_map (λ n. option_map (λ (m : Definition). m.name) (method_at p n)) c.methods

-- the class of an object of this kind
abbrev pub class_of : Code → Kind → Option Class
class_of p kind.Ints = None
class_of p (kind.Class x gs) = class_called p x

-- the groups of an object of this kind
abbrev pub groups_of : Kind → List ℕ
groups_of kind.Ints = []
groups_of (kind.Class x gs) = gs

-- a field's form in an object with these groups in the place of the class's
abbrev pub field_form : Class → List ℕ → Field → Form
field_form c gs d = form_with (in_place (bare_names c.groups) gs) (form d.ty)

abbrev pub field_of_kind : Code → Kind → ℕ → Option Form
field_of_kind p k x = given (class_of p k) None
    (λ (c : Class). option_map (field_form c (groups_of k)) (field_called c x))

-- the form of a class's object's field with this name
abbrev pub field_of : Code → Form → ℕ → Option Form
field_of p f.Int x = None
field_of p f.Bool x = None
field_of p (f.Object q k) x = field_of_kind p k x

-- the kind of the objects of a class
abbrev pub kind_of_class : Class → Kind
kind_of_class c = kind.Class c.name.name (bare_names c.groups)

-- the kind of the receiver of a method that stands in the class with this number
abbrev pub own_kind : Code → Option ℕ → Kind
own_kind p n = given n kind.Ints (λ k. given (class_at p k) kind.Ints kind_of_class)
