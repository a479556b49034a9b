-- A field of a whole object has a value of its form, whichever groups stand in the place of the class's.
use Rattle.std.proofs.Common.{◌≡◌, refl, sym, ap, ◌∙◌, subst, ℕ, zero, suc, nat_eq, Bool, true, false}
use Rattle.std.proofs.Common.{if◌then◌else◌, List, [], ◌∷◌, map, Option, None, Some}
use Rattle.std.specs.Prelude.{slice_get, option_map}
use Rattle.std.specs.List.{list_all}
use Rattle.std.proofs.lemmas.Bool.{eqb-true, and_from}
use Rattle.std.proofs.lemmas.Option.{same_Some}
use Rattle.ae_tree.specs.declared.tree.Field.{Field}
use Rattle.ae_tree.specs.declared.tree.Class.{Class}
use Rattle.ae_tree.specs.declared.form.Perm.{Perm}
use Rattle.ae_tree.specs.declared.form.Perm.TheVariants as perm
use Rattle.ae_tree.specs.declared.form.Kind.{Kind}
use Rattle.ae_tree.specs.declared.form.Kind.TheVariants as kind
use Rattle.ae_tree.specs.declared.form.Form.{Form}
use Rattle.ae_tree.specs.declared.form.Form.TheVariants as f
use Rattle.ae_tree.specs.Form.{form, bare_names}
use Rattle.ae_tree.specs.Plain.{Code}
use Rattle.ae_rules.specs.declared.held.Held.{Held}
use Rattle.ae_rules.specs.declared.held.Held.TheVariants as held
use Rattle.ae_rules.specs.Verdict.{given}
use Rattle.ae_rules.specs.Forms.{in_place, perm_with, kind_with, form_with}
use Rattle.ae_rules.specs.Lookups.{class_at, class_number, class_called, field_number, field_called, groups_of}
use Rattle.ae_rules.specs.Lookups.{field_form, field_of_kind}
use Rattle.ae_rules.specs.Walks.{held_inside, held_in_field}
use Rattle.ae_semantics.specs.Values.{Val, OfInt, OfBool, Null, Owned, Member, Tree, Object, Array, Values, NoValue}
use Rattle.ae_semantics.specs.Values.{AndValue, is_of_kind, fits_object, value_fits, value_at, with_changed, put_at}
use Rattle.ae_semantics.specs.Places.{Fine, NumberedField, OpenedObject, numbered_as, numbered_field}
use Rattle.ae_semantics.specs.Places.{field_value, field_place, into_field}
use Rattle.ae_soundness.specs.Fits.{IsWhole, IsWholeTree, AreOfFields, IsOfForm, fields_called, SameButPermission}
use Rattle.ae_soundness.specs.Fits.{HoldsNoMember, FitsHeld, FitsPlace, has_members, form_has_members}
use Rattle.ae_soundness.specs.Fits.{perm_has_members}
use Rattle.ae_soundness.specs.Fits.{FieldsHaveMembers}
use Rattle.ae_soundness.specs.Laws.{IsReachedAs, FieldsAreThere}
use Rattle.ae_soundness.proofs.from_rules.PathLemmas.{mapped}
use Rattle.ae_soundness.proofs.from_text.Basics.{first_of_both, second_of_both}

-- ---- options

-- what comes of an optional thing comes of a thing
pub given_some : {A B : Type 0} (o : Option A) (f : A → Option B) (y : B) → given o None f ≡ Some y
    → (x : A) × (o ≡ Some x) × (f x ≡ Some y)
given_some None f y e = absurd (cc)
given_some (Some x) f y e = (x, refl, e)

-- ---- groups do not count for whether a value fits

same_kind_fit : (p : Code) (new : ℕ → ℕ) (k : Kind) (t : Tree) → is_of_kind p (kind_with new k) t ≡ is_of_kind p k t
same_kind_fit p new kind.Ints t = refl
same_kind_fit p new (kind.Class c gs) (Object x xs) = refl
same_kind_fit p new (kind.Class c gs) (Array ns) = refl

same_object_fit : (p : Code) (new : ℕ → ℕ) (q : Perm) (k : Kind) (v : Val)
    → fits_object p (perm_with new q) (kind_with new k) v ≡ fits_object p q k v
same_object_fit p new (perm.Shared g) k (OfInt n) = refl
same_object_fit p new (perm.Shared g) k (OfBool b) = refl
same_object_fit p new (perm.Shared g) k Null = refl
same_object_fit p new (perm.Shared g) k (Owned t) = refl
same_object_fit p new (perm.Shared g) k (Member n) = refl
same_object_fit p new perm.Unique k (OfInt n) = refl
same_object_fit p new perm.Unique k (OfBool b) = refl
same_object_fit p new perm.Unique k Null = refl
same_object_fit p new perm.Unique k (Owned t) = same_kind_fit p new k t
same_object_fit p new perm.Unique k (Member n) = refl
same_object_fit p new perm.Immutable k (OfInt n) = refl
same_object_fit p new perm.Immutable k (OfBool b) = refl
same_object_fit p new perm.Immutable k Null = refl
same_object_fit p new perm.Immutable k (Owned t) = same_kind_fit p new k t
same_object_fit p new perm.Immutable k (Member n) = refl
same_object_fit p new perm.Lent k (OfInt n) = refl
same_object_fit p new perm.Lent k (OfBool b) = refl
same_object_fit p new perm.Lent k Null = refl
same_object_fit p new perm.Lent k (Owned t) = same_kind_fit p new k t
same_object_fit p new perm.Lent k (Member n) = refl

-- A value fits a form with other groups as it fits the form.
pub same_value_fit : (p : Code) (new : ℕ → ℕ) (t : Form) (v : Val) → value_fits p (form_with new t) v ≡ value_fits p t v
same_value_fit p new f.Int v = refl
same_value_fit p new f.Bool v = refl
same_value_fit p new (f.Object q k) v = same_object_fit p new q k v

-- ---- no group is `io`

chosen_members : (b : Bool) (y z : ℕ) → has_members y ≡ true → has_members z ≡ true
    → has_members (if b then y else z) ≡ true
chosen_members true y z h e = h
chosen_members false y z h e = e

-- A group in the place of another is not `io`, where none of these is.
pub in_place_members : (xs ys : List ℕ) (g : ℕ) → list_all has_members ys ≡ true → has_members g ≡ true
    → has_members (in_place xs ys g) ≡ true
in_place_members [] ys g h e = e
in_place_members (x ∷ xs) [] g h e = e
in_place_members (x ∷ xs) (y ∷ ys) g h e = chosen_members (nat_eq x g) y (in_place xs ys g)
    (first_of_both (has_members y) (list_all has_members ys) h)
    (in_place_members xs ys g (second_of_both (has_members y) (list_all has_members ys) h) e)

-- other groups for groups, none of which is `io`
abbrev KeepsMembers : (ℕ → ℕ) → Type 0
KeepsMembers new = (g : ℕ) → has_members g ≡ true → has_members (new g) ≡ true

all_members : (new : ℕ → ℕ) → KeepsMembers new → (gs : List ℕ) → list_all has_members gs ≡ true
    → list_all has_members (map new gs) ≡ true
all_members new m [] h = refl
all_members new m (g ∷ gs) h = and_from (has_members (new g)) (list_all has_members (map new gs))
    (m g (first_of_both (has_members g) (list_all has_members gs) h))
    (all_members new m gs (second_of_both (has_members g) (list_all has_members gs) h))

perm_members : (new : ℕ → ℕ) → KeepsMembers new → (q : Perm) → perm_has_members q ≡ true
    → perm_has_members (perm_with new q) ≡ true
perm_members new m perm.Unique h = refl
perm_members new m perm.Immutable h = refl
perm_members new m perm.Lent h = refl
perm_members new m (perm.Shared g) h = m g h

kind_members : (new : ℕ → ℕ) → KeepsMembers new → (k : Kind) → list_all has_members (groups_of k) ≡ true
    → list_all has_members (groups_of (kind_with new k)) ≡ true
kind_members new m kind.Ints h = refl
kind_members new m (kind.Class c gs) h = all_members new m gs h

-- No group of a form with others for its groups is `io`.
pub form_members : (new : ℕ → ℕ) → KeepsMembers new → (t : Form) → form_has_members t ≡ true
    → form_has_members (form_with new t) ≡ true
form_members new m f.Int h = refl
form_members new m f.Bool h = refl
form_members new m (f.Object q k) h = and_from (perm_has_members (perm_with new q))
    (list_all has_members (groups_of (kind_with new k)))
    (perm_members new m q (first_of_both (perm_has_members q) (list_all has_members (groups_of k)) h))
    (kind_members new m k (second_of_both (perm_has_members q) (list_all has_members (groups_of k)) h))

-- ---- what is held in a field

inside_no_member : (h : Held) → HoldsNoMember (held_inside h)
inside_no_member held.Unique g e = absurd (cc)
inside_no_member (held.Split n) g e = absurd (cc)
inside_no_member held.Immutable g e = absurd (cc)
inside_no_member held.Lent g e = absurd (cc)
inside_no_member (held.Shared z) g e = absurd (cc)
inside_no_member (held.Inner z) g e = absurd (cc)
inside_no_member held.None g e = absurd (cc)

-- What is held in a field fits its form.
pub field_held : (h : Held) (t : Form) → FitsHeld t (held_in_field h t)
field_held h f.Int = λ g e. absurd (cc)
field_held h f.Bool = λ g e. absurd (cc)
field_held h (f.Object perm.Unique k) = inside_no_member h
field_held h (f.Object perm.Immutable k) = λ g e. absurd (cc)
field_held h (f.Object perm.Lent k) = λ g e. absurd (cc)
field_held h (f.Object (perm.Shared g) k) = refl

-- A form is itself, whatever its permission.
pub same_but_nothing : (t : Form) → SameButPermission t t
same_but_nothing f.Int = tt
same_but_nothing f.Bool = tt
same_but_nothing (f.Object q k) = refl

-- ---- a field's value

-- a value of this form is there
abbrev HasValue : Code → Form → Option Val → Type 0
HasValue p t o = (v : Val) × (o ≡ Some v) × IsOfForm p t v

value_of_field : (p : Code) (ds : List Field) (xs : Values) (n : ℕ) (d : Field) → AreOfFields p ds xs
    → slice_get ds n ≡ Some d → HasValue p (form d.ty) (value_at xs n)
value_of_field p [] xs n d a e = absurd (cc)
value_of_field p (b ∷ ds) NoValue n d a e = absurd a
value_of_field p (b ∷ ds) (AndValue v xs) zero d a e =
    let same : b ≡ d = cc e in (v, refl, (subst (λ (y : Field). value_fits p (form y.ty) v ≡ true) same a.0, a.1))
value_of_field p (b ∷ ds) (AndValue v xs) (suc n) d a e = value_of_field p ds xs n d a.2 e

-- a field that is found in a kind of object, with its class and its number
record FieldFound (p : Code) (k : Kind) (x : ℕ) (t : Form) : Type 0 where
  name : ℕ
  groups : List ℕ
  kind : k ≡ kind.Class name groups
  place : ℕ
  class : Class
  numbered : class_number p name ≡ Some place
  placed : class_at p place ≡ Some class
  is : class_called p name ≡ Some class
  number : ℕ
  at : field_number class x ≡ Some number
  field : Field
  there : slice_get class.fields number ≡ Some field
  form : field_form class groups field ≡ t

field_found : (p : Code) (k : Kind) (x : ℕ) (t : Form) → field_of_kind p k x ≡ Some t → FieldFound p k x t
field_found p kind.Ints x t e = absurd (cc)
field_found p (kind.Class c gs) x t e =
    let a = given_some (class_called p c) (λ (d : Class). option_map (field_form d gs) (field_called d x)) t e in
    let n = given_some (class_number p c) (class_at p) a.0 a.1 in
    let b = mapped (field_form a.0 gs) (field_called a.0 x) t a.2 in
    let d = given_some (field_number a.0 x) (slice_get a.0.fields) b.0 b.1 in
    record {
      name = c;
      groups = gs;
      kind = refl;
      place = n.0;
      class = a.0;
      numbered = n.1;
      placed = n.2;
      is = a.1;
      number = d.0;
      at = d.1;
      field = b.0;
      there = d.2;
      form = b.2;
    }

numbered_is : (p : Code) (c : ℕ) (gs : List ℕ) (x : ℕ) (t : Form) (o : Option Class) (d : Class) (n : ℕ)
    → o ≡ Some d → field_number d x ≡ Some n → (r : Option Form) → r ≡ Some t
    → given o None (λ (e : Class). given (field_number e x) None (numbered_as r))
    ≡ Some (record { number = n; form = t })
numbered_is p c gs x t o d n a b r e = rw (a, b, e) refl

into_is : (p : Code) (o : OpenedObject) (x : ℕ) (d : NumberedField) (v : Val) → numbered_field p o.kind x ≡ Some d
    → field_value o.tree d.number ≡ Some v → value_fits p d.form v ≡ true
    → into_field p o x ≡ Fine (field_place o d v)
into_is p o x d v a b e = rw (a, b, e) refl

class_of_tree : (p : Code) (c : ℕ) (gs : List ℕ) (t : Tree) → is_of_kind p (kind.Class c gs) t ≡ true
    → (xs : Values) × (t ≡ Object c xs)
class_of_tree p c gs (Array ns) e = absurd (cc)
class_of_tree p c gs (Object y xs) e =
    let same : c ≡ y = eqb-true c y (first_of_both (nat_eq c y) _ e) in
    (xs, ap (λ z. Object z xs) (sym same))

-- With one value changed to another of its form the fields have their values.
pub changed_fields : (p : Code) (ds : List Field) (xs : Values) (i : ℕ) (new : Val → Val) → AreOfFields p ds xs
    → ((d : Field) (v : Val) → slice_get ds i ≡ Some d → value_at xs i ≡ Some v → IsOfForm p (form d.ty) v
    → IsOfForm p (form d.ty) (new v))
    → AreOfFields p ds (with_changed xs i new)
changed_fields p [] NoValue i new a k = tt
changed_fields p [] (AndValue v xs) i new a k = absurd a
changed_fields p (d ∷ ds) NoValue i new a k = absurd a
changed_fields p (d ∷ ds) (AndValue v xs) zero new a k =
    let r : IsOfForm p (form d.ty) (new v) = k d v refl refl (a.0, a.1) in (r.0, r.1, a.2)
changed_fields p (d ∷ ds) (AndValue v xs) (suc i) new a k = (a.0, a.1, changed_fields p ds xs i new a.2 k)

-- A field of an object by its number, with its value.
pub record FieldThere (p : Code) (o : OpenedObject) (x : ℕ) (t : Form) : Type 0 where
  pub part : NumberedField
  pub numbered : numbered_field p o.kind x ≡ Some part
  pub form : part.form ≡ t
  pub value : Val
  pub there : field_value o.tree part.number ≡ Some value
  pub fits : IsOfForm p t value
  pub changed : (fields : List ℕ) (w : Val) → ((y : Val) → IsOfForm p t y → IsOfForm p t (put_at fields w y))
      → IsWhole p (put_at (part.number ∷ fields) w (Owned o.tree))

-- A declared field of a whole object has its number and a value of its form.
pub field_there : (p : Code) (k : Kind) (x : ℕ) (t : Form) → field_of_kind p k x ≡ Some t → (o : OpenedObject)
    → IsReachedAs p k (Fine o) → FieldThere p o x t
field_there p k x t e o r =
    let z : FieldFound p k x t = field_found p k x t e in
    let tree = class_of_tree p z.name z.groups o.tree (subst (λ (l : Kind). is_of_kind p l o.tree ≡ true) z.kind r.1) in
    let listed : fields_called p z.name ≡ z.class.fields = ap
    (λ (c : Option Class). given c [] (λ (d : Class). d.fields)) z.is in
    let whole : AreOfFields p z.class.fields tree.0 = subst (λ (ds : List Field). AreOfFields p ds tree.0) listed
    (subst (λ (y : Tree). IsWholeTree p y) tree.1 r.2) in
    let v = value_of_field p z.class.fields tree.0 z.number z.field whole z.there in
    let fits : value_fits p t v.0 ≡ true = subst (λ (y : Form). value_fits p y v.0 ≡ true) z.form
    (same_value_fit p (in_place (bare_names z.class.groups) z.groups) (form z.field.ty) v.0 ∙ v.2.0) in
    let d : NumberedField = record { number = z.number; form = t } in
    let found : numbered_field p o.kind x ≡ Some d = subst (λ (l : Kind). numbered_field p l x ≡ Some d)
    (sym (r.0 ∙ z.kind))
    (numbered_is p z.name z.groups x t (class_called p z.name) z.class z.number z.is z.at
    (field_of_kind p (kind.Class z.name z.groups) x)
    (subst (λ (l : Kind). field_of_kind p l x ≡ Some t) z.kind e)) in
    record {
      part = d;
      numbered = found;
      form = refl;
      value = v.0;
      there = ap (λ (y : Tree). field_value y z.number) tree.1 ∙ v.1;
      fits = (fits, v.2.1);
      changed = λ fields w keeps. subst (λ (y : Tree). IsWhole p (put_at (z.number ∷ fields) w (Owned y))) (sym tree.1)
          (changed_fields p (fields_called p z.name) tree.0 z.number (put_at fields w)
          (subst (λ (ds : List Field). AreOfFields p ds tree.0) (sym listed) whole)
          (λ b y e u l.
          let same : z.field ≡ b = same_Some z.field b (sym z.there
          ∙ ap (λ (ds : List Field). slice_get ds z.number) (sym listed) ∙ e) in
          let old : IsOfForm p (form z.field.ty) y
          = subst (λ (a : Field). IsOfForm p (form a.ty) y) (sym same) l in
          let here : value_fits p t y ≡ true = subst (λ (a : Form). value_fits p a y ≡ true) z.form
          (same_value_fit p (in_place (bare_names z.class.groups) z.groups) (form z.field.ty) y ∙ old.0) in
          let i : IsOfForm p t (put_at fields w y) = keeps y (here, old.1) in
          subst (λ (a : Field). IsOfForm p (form a.ty) (put_at fields w y)) same (
            sym (same_value_fit p (in_place (bare_names z.class.groups) z.groups) (form z.field.ty) (put_at fields w y))
                ∙ subst (λ (a : Form). value_fits p a (put_at fields w y) ≡ true) (sym z.form) i.0,
            i.1,
          )));
    }

-- a field's form has no `io` for a group, where its object's has none
field_members : (p : Code) → FieldsHaveMembers p → (k : Kind) (x : ℕ) (t : Form) → field_of_kind p k x ≡ Some t
    → list_all has_members (groups_of k) ≡ true → form_has_members t ≡ true
field_members p m k x t e g =
    let z : FieldFound p k x t = field_found p k x t e in
    subst (λ (y : Form). form_has_members y ≡ true) z.form
    (form_members (in_place (bare_names z.class.groups) z.groups)
    (λ a b. in_place_members (bare_names z.class.groups) z.groups a
    (subst (λ (l : Kind). list_all has_members (groups_of l) ≡ true) z.kind g) b)
    (form z.field.ty) (m z.place z.class z.placed z.number z.field z.there))

pub fields_are_there : FieldsAreThere
fields_are_there p m k x t e g o r h =
    let y : FieldThere p o x t = field_there p k x t e o r in
    let place : FitsPlace p (record { form = t; held = held_in_field h t }) y.part.form y.value = subst
    (λ (u : Form). FitsPlace p (record { form = t; held = held_in_field h t }) u y.value) (sym y.form)
    (record {
      form = same_but_nothing t;
      held = field_held h t;
      members = field_members p m k x t e g;
      value = y.fits;
    }) in
    let fits : value_fits p y.part.form y.value ≡ true = subst (λ (u : Form). value_fits p u y.value ≡ true)
    (sym y.form) y.fits.0 in
    (field_place o y.part y.value, into_is p o x y.part y.value y.numbered y.there fits, place)
