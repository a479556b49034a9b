-- What a walk along a path reads of a state: its root, and each group whose member is opened.
use Rattle.std.proofs.Common.{◌≡◌, refl, ap, sym, subst, ◌∙◌, ℕ, nat_eq, Bool, true, false, if◌then◌else◌, List, []}
use Rattle.std.proofs.Common.{◌∷◌, Option, None, Some}
use Rattle.std.proofs.lemmas.Bool.{eq-eqb}
use Rattle.std.specs.Prelude.{is_some, slice_get, ⊤, not, neg_ℤ, pos, length}
use Rattle.ae_tree.specs.Plain.{Expression, Number, Truth, Nothing, Read, Item, Length, Grouped, Negated, Minus, Binary}
use Rattle.ae_semantics.specs.Expressions.{number, truth, fitted, numbers, item, both, value}
use Rattle.ae_text.specs.declared.refusal.Rule.{Rule}
use Rattle.ae_text.specs.declared.refusal.Rule.TheVariants as rule
use Rattle.ae_text.specs.declared.refusal.Spot.{Spot}
use Rattle.ae_tree.specs.declared.tree.NameAt.{NameAt}
use Rattle.ae_tree.specs.declared.tree.Path.{Path}
use Rattle.ae_tree.specs.declared.tree.Class.{Class}
use Rattle.ae_rules.specs.declared.uses.Resource.TheVariants as resource
use Rattle.ae_rules.specs.declared.uses.Mode.{Mode}
use Rattle.ae_tree.specs.declared.form.Perm.TheVariants as perm
use Rattle.ae_tree.specs.declared.form.Kind.{Kind}
use Rattle.ae_tree.specs.declared.form.Form.{Form}
use Rattle.ae_tree.specs.declared.form.Form.TheVariants as f
use Rattle.ae_rules.specs.Edges.{Uses}
use Rattle.ae_tree.specs.Plain.{Code}
use Rattle.ae_rules.specs.Verdict as rules
use Rattle.ae_rules.specs.Walks as walks
use Rattle.ae_rules.specs.Lookups.{class_of, field_number, field_of_kind, field_of}
use Rattle.ae_rules.specs.Context.{Local, Context, access}
use Rattle.ae_rules.specs.Forms.{same_value}
use Rattle.ae_rules.specs.Expressions.{expression_spot, has_form}
use Rattle.ae_rules.specs.declared.held.Held.{Held}
use Rattle.ae_rules.specs.Walks.{held_in_field}
use Rattle.ae_rules.specs.Uses.{nothing, read_use, whole_group, reach_use, stronger, ◌∪◌, of_judged, steps_use}
use Rattle.ae_rules.specs.Uses.{walk_uses, path_uses, end_uses, value_uses}
use Rattle.ae_semantics.specs.Values.{Val, OfInt, OfBool, Null, Owned, Member, Tree, Store, value_fits, is_of_kind}
use Rattle.ae_semantics.specs.Places.{Outcome, Fine, Traps, Lacks, ◌>>=◌, there, reached, Bound, State, group_of}
use Rattle.ae_semantics.specs.Places.{members, Address, InGroup, PlaceFound, OpenedObject, opened_if, opened_member}
use Rattle.ae_semantics.specs.Places.{open_form, open_place, NumberedField, numbered_as, numbered_field, field_value}
use Rattle.ae_semantics.specs.Places.{field_place, met, into_field, local_place, step_to, steps, walk_to}
use Rattle.ae_semantics.proofs.Alongside.{fine_same}
use Rattle.std.proofs.lemmas.Option.{same_Some}

-- both states are the same where these uses are
pub record SameOn (u : Uses) (s t : State) : Type 0 where
  pub locals : (y : ℕ) → is_some (u (resource.Local y)) ≡ true → s.locals y ≡ t.locals y
  pub groups : (g : ℕ) → is_some (u (resource.Group g)) ≡ true → group_of s g ≡ group_of t g

some_left : (a b : Option Mode) → is_some a ≡ true → is_some (stronger a b) ≡ true
some_left None b e = absurd (cc e)
some_left (Some m) None e = refl
some_left (Some m) (Some n) e = refl

some_right : (a b : Option Mode) → is_some b ≡ true → is_some (stronger a b) ≡ true
some_right None b e = e
some_right (Some m) None e = refl
some_right (Some m) (Some n) e = refl

pub on_left : (u v : Uses) (s t : State) → SameOn (u ∪ v) s t → SameOn u s t
on_left u v s t h = record {
  locals = λ y e. h.locals y (some_left (u (resource.Local y)) (v (resource.Local y)) e);
  groups = λ g e. h.groups g (some_left (u (resource.Group g)) (v (resource.Group g)) e);
}

pub on_right : (u v : Uses) (s t : State) → SameOn (u ∪ v) s t → SameOn v s t
on_right u v s t h = record {
  locals = λ y e. h.locals y (some_right (u (resource.Local y)) (v (resource.Local y)) e);
  groups = λ g e. h.groups g (some_right (u (resource.Group g)) (v (resource.Group g)) e);
}

some_if : (b : Bool) (m : Mode) → b ≡ true → is_some (if b then Some m else None) ≡ true
some_if true m e = refl
some_if false m e = absurd (cc e)

pub on_whole : (g : ℕ) (s t : State) → SameOn (whole_group g) s t → group_of s g ≡ group_of t g
on_whole g s t h = h.groups g (some_if (nat_eq g g) _ (eq-eqb g g refl))

-- ---- objects

-- a group is looked up only where the form is shared in it
open_same : (p : Code) (s t : State) (at : Address) (k : Form) (v : Val)
    → ((g : ℕ) (c : Kind) → k ≡ f.Object (perm.Shared g) c → group_of s g ≡ group_of t g)
    → open_form p s at k v ≡ open_form p t at k v
open_same p s t at f.Int v h = refl
open_same p s t at f.Bool v h = refl
open_same p s t at (f.Object (perm.Shared g) k) (Member n) h = ap (λ y. there (members y) >>= opened_member p k g n)
    (h g k refl)
open_same p s t at (f.Object (perm.Shared g) k) (Owned x) h = refl
open_same p s t at (f.Object (perm.Shared g) k) Null h = refl
open_same p s t at (f.Object (perm.Shared g) k) (OfInt n) h = refl
open_same p s t at (f.Object (perm.Shared g) k) (OfBool b) h = refl
open_same p s t at (f.Object perm.Unique k) v h = refl
open_same p s t at (f.Object perm.Immutable k) v h = refl
open_same p s t at (f.Object perm.Lent k) v h = refl

opened_kind : (b : Bool) (x o : OpenedObject) → opened_if b x ≡ Fine o → x.kind ≡ o.kind
opened_kind true x o e = ap (λ (y : OpenedObject). y.kind) (fine_same x o e)
opened_kind false x o e = absurd (cc e)

member_kind : (k : Kind) (r : Option Tree) (o : OpenedObject) (b : Tree → Bool) (at : Address)
    → (reached r >>= λ t. opened_if (b t) (record { at = at; kind = k; tree = t })) ≡ Fine o → k ≡ o.kind
member_kind k None o b at e = absurd (cc e)
member_kind k (Some t) o b at e = opened_kind (b t) (record { at = at; kind = k; tree = t }) o e

store_kind : (p : Code) (k : Kind) (g n : ℕ) (m : Option Store) (o : OpenedObject)
    → (there m >>= opened_member p k g n) ≡ Fine o → k ≡ o.kind
store_kind p k g n None o e = absurd (cc e)
store_kind p k g n (Some st) o e = member_kind k (slice_get st n) o (is_of_kind p k)
    (record { base = InGroup g n; fields = [] }) e

-- an opened object has the fields of the form of its place
pub open_kind : (p : Code) (s : State) (at : Address) (k : Form) (v : Val) (o : OpenedObject)
    → open_form p s at k v ≡ Fine o → (n : ℕ) → field_of p k n ≡ field_of_kind p o.kind n
open_kind p s at f.Int v o e n = absurd (cc e)
open_kind p s at f.Bool v o e n = absurd (cc e)
open_kind p s at (f.Object (perm.Shared g) k) (Member i) o e n = ap (λ c. field_of_kind p c n)
    (store_kind p k g i (members (group_of s g)) o e)
open_kind p s at (f.Object perm.Unique k) (Owned t) o e n = ap (λ c. field_of_kind p c n) (opened_kind _ _ o e)
open_kind p s at (f.Object perm.Immutable k) (Owned t) o e n = ap (λ c. field_of_kind p c n) (opened_kind _ _ o e)
open_kind p s at (f.Object perm.Lent k) (Owned t) o e n = ap (λ c. field_of_kind p c n) (opened_kind _ _ o e)
open_kind p s at (f.Object q k) v o e n = absurd (cc e)

-- ---- steps

part_form : (o : Option Form) (n : ℕ) (d : NumberedField) → numbered_as o n ≡ Some d → o ≡ Some d.form
part_form None n d e = absurd (cc e)
part_form (Some k) n d e = ap (λ (y : NumberedField). Some y.form) (same_Some e)
  where
    same_Some : Some (record { number = n; form = k }) ≡ Some d → record { number = n; form = k } ≡ d
    same_Some e = cc

numbered_form : (o : Option Form) (n : Option ℕ) (d : NumberedField) → rules.given n None (numbered_as o) ≡ Some d
    → o ≡ Some d.form
numbered_form o None d e = absurd (cc e)
numbered_form o (Some n) d e = part_form o n d e

class_form : (o : Option Form) (c : Option Class) (x : ℕ) (d : NumberedField)
    → rules.given c None (λ (y : Class). rules.given (field_number y x) None (numbered_as o)) ≡ Some d
    → o ≡ Some d.form
class_form o None x d e = absurd (cc e)
class_form o (Some c) x d e = numbered_form o (field_number c x) d e

met_form : (b : Bool) (x z : PlaceFound) → (if b then Fine x else Traps 3) ≡ Fine z → x.form ≡ z.form
met_form true x z e = ap (λ (y : PlaceFound). y.form) (fine_same x z e)
met_form false x z e = absurd (cc e)

value_form : (p : Code) (o : OpenedObject) (d : NumberedField) (v : Option Val) (z : PlaceFound)
    → (there v >>= λ w. met p (field_place o d w)) ≡ Fine z → d.form ≡ z.form
value_form p o d None z e = absurd (cc e)
value_form p o d (Some v) z e = met_form (value_fits p d.form v) (field_place o d v) z e

-- the place of a field has the field's form
field_form_is : (p : Code) (o : OpenedObject) (x : ℕ) (y : Option NumberedField) (z : PlaceFound)
    → numbered_field p o.kind x ≡ y
    → (there y >>= λ d. there (field_value o.tree d.number) >>= λ v. met p (field_place o d v)) ≡ Fine z
    → field_of_kind p o.kind x ≡ Some z.form
field_form_is p o x None z d e = absurd (cc e)
field_form_is p o x (Some y) z d e = class_form (field_of_kind p o.kind x) (class_of p o.kind) x y d
    ∙ ap (λ k. Some k) (value_form p o y (field_value o.tree y.number) z e)

-- a place of the state and one of the rules: the fields are the same, and what is shared by the form is held so
pub record Fit (p : Code) (k : Form) (y : walks.Place) : Type 0 where
  pub field : (n : ℕ) → field_of p k n ≡ field_of p y.form n
  pub shared : (g : ℕ) (c : Kind) → k ≡ f.Object (perm.Shared g) c → reach_use y.held ≡ whole_group g

pub opens_same : (p : Code) (s t : State) (x : PlaceFound) (y : walks.Place) → Fit p x.form y
    → SameOn (reach_use y.held) s t → open_place p s x ≡ open_place p t x
opens_same p s t x y h u = open_same p s t x.at x.form x.value
    (λ g c e. on_whole g s t (subst (λ v. SameOn v s t) (h.shared g c e) u))

-- behind a step of both the forms are one
step_fit : (p : Code) (k z : Form) (whole_held : Held) → z ≡ k
    → Fit p z (record { form = k; held = held_in_field whole_held k })
step_fit p k z w e = record {
  field = λ n. ap (λ c. field_of p c n) e;
  shared = λ g c d. ap (λ (c : Form). reach_use (held_in_field w c)) (sym e ∙ d);
}

holds_same : {A : Type 0} (x y : A) → rules.Holds x ≡ rules.Holds y → x ≡ y
holds_same x y e = cc

-- a step that the rules accept
stepped : (o : Option Form) (a : rules.Verdict ⊤) (h : Held) (r : Rule) (at : Spot) (y : walks.Place)
    → (rules.◌>>=◌ (rules.found o r at)
    (λ k. rules.◌>>◌ a (rules.Holds (record { form = k; held = held_in_field h k })))) ≡ rules.Holds y
    → (k : Form) × (o ≡ Some k) × (record { form = k; held = held_in_field h k } ≡ y)
stepped None a h r at y e = absurd (cc e)
stepped (Some k) (rules.Holds v) h r at y e = (k, refl, holds_same (record { form = k; held = held_in_field h k }) y e)
stepped (Some k) (rules.Broken q expression_spot) h r at y e = absurd (cc e)

pub bind_same : {A B : Type 0} (r : Outcome A) (g h : A → Outcome B) → ((z : A) → r ≡ Fine z → g z ≡ h z)
    → (r >>= g) ≡ (r >>= h)
bind_same (Fine z) g h e = e z refl
bind_same (Traps code) g h e = refl
bind_same Lacks g h e = refl

pub bind_fine : {A B : Type 0} (P : Type 0) (r : Outcome A) (g : A → Outcome B) (z : B) → (r >>= g) ≡ Fine z
    → ((y : A) → r ≡ Fine y → g y ≡ Fine z → P) → P
bind_fine P (Fine y) g z e k = k y refl e
bind_fine P (Traps code) g z e k = absurd (cc e)
bind_fine P Lacks g z e k = absurd (cc e)

module _ (p : Code) (c : Context) (at : Spot) where
  pub fit_step : (s : State) (n : NameAt) (x : PlaceFound) (y y' : walks.Place) → Fit p x.form y
      → walks.step p c at n y ≡ rules.Holds y' → (z : PlaceFound) → step_to p s n x ≡ Fine z → Fit p z.form y'
  fit_step s n x y y' h e z d = bind_fine (Fit p z.form y') (open_place p s x) (λ o. into_field p o n.name) z d
      (λ o i j.
      let k : (k : Form) × (field_of p y.form n.name ≡ Some k)
      × (record { form = k; held = held_in_field y.held k } ≡ y') = stepped (field_of p y.form n.name)
      (access c at y.held) y.held _ n.at y' e in
      let same : Some z.form ≡ Some k.0 = sym (field_form_is p o n.name (numbered_field p o.kind n.name) z refl j)
      ∙ sym (open_kind p s x.at x.form x.value o i n.name) ∙ h.field n.name ∙ k.1 in
      subst (Fit p z.form) k.2 (step_fit p k.0 z.form y.held (same_Some z.form k.0 same)))

  abbrev StepsSame : State → State → List NameAt → Type 0
  StepsSame s t ns = (x : PlaceFound) (y w : walks.Place) → Fit p x.form y → SameOn (steps_use p c at ns y) s t
      → rules.in_turn (walks.step p c at) ns y ≡ rules.Holds w
      → (steps p s ns x ≡ steps p t ns x) × ((z : PlaceFound) → steps p s ns x ≡ Fine z → Fit p z.form w)

  step_same : (s t : State) (n : NameAt) (ns : List NameAt) → StepsSame s t ns → (x : PlaceFound) (y w : walks.Place)
      → Fit p x.form y
      → (v : rules.Verdict walks.Place) → walks.step p c at n y ≡ v
      → SameOn (reach_use y.held ∪ of_judged v (steps_use p c at ns)) s t
      → (rules.◌>>=◌ v (rules.in_turn (walks.step p c at) ns)) ≡ rules.Holds w
      → (steps p s (n ∷ ns) x ≡ steps p t (n ∷ ns) x)
      × ((z : PlaceFound) → steps p s (n ∷ ns) x ≡ Fine z → Fit p z.form w)
  step_same s t n ns ih x y w h (rules.Broken r expression_spot) e u j = absurd (cc j)
  step_same s t n ns ih x y w h (rules.Holds y') e u j =
      let later : SameOn (steps_use p c at ns y') s t = on_right (reach_use y.held) (steps_use p c at ns y') s t u in (
        ap (λ (o : Outcome OpenedObject). (o >>= λ o. into_field p o n.name) >>= steps p s ns)
            (opens_same p s t x y h (on_left (reach_use y.held) (steps_use p c at ns y') s t u))
            ∙ bind_same (step_to p t n x) (steps p s ns) (steps p t ns)
            (λ z d. (ih z y' w (fit_step t n x y y' h e z d) later j).0),
        λ z d. bind_fine (Fit p z.form w) (step_to p s n x) (steps p s ns) z d
            (λ q i k. (ih q y' w (fit_step s n x y y' h e q i) later j).1 z k),
      )

  pub steps_same : (s t : State) (ns : List NameAt) → StepsSame s t ns
  steps_same s t [] x y w h u j = (
    refl,
    λ z e. subst (λ (k : Form). Fit p k w) (ap (λ (q : PlaceFound). q.form) (fine_same x z e))
        (subst (Fit p x.form) (holds_same y w j) h),
  )
  steps_same s t (n ∷ ns) x y w h u j = step_same s t n ns (steps_same s t ns) x y w h (walks.step p c at n y) refl u j

-- each local that has a value has the form that the context holds of it
abbrev pub FitsShallow : Code → Context → State → Type 0
FitsShallow p c s = (y : ℕ) (l : Local) (b : Bound) → c.local y ≡ Some l → s.locals y ≡ Some b
    → Fit p b.form (record { form = l.form; held = l.held })

on_read : (x : ℕ) (s t : State) → SameOn (read_use x) s t → s.locals x ≡ t.locals x
on_read x s t h = h.locals x (some_if (nat_eq x x) _ (eq-eqb x x refl))

-- a walk that the rules accept reads what it uses
pub walk_same : (p : Code) (c : Context) (s t : State) → FitsShallow p c s → (path : Path) (w : walks.Place)
    → walks.walk p c path ≡ rules.Holds w → SameOn (path_uses p c path) s t
    → (walk_to p s path ≡ walk_to p t path) × ((z : PlaceFound) → walk_to p s path ≡ Fine z → Fit p z.form w)
walk_same p c s t fit path w e u = by_local (c.local path.root.name) refl e
    (on_right (read_use path.root.name) (walk_uses p c path) s t u)
  where
    same : s.locals path.root.name ≡ t.locals path.root.name
    same = on_read path.root.name s t (on_left (read_use path.root.name) (walk_uses p c path) s t u)

    by_bound : (l : Local) → c.local path.root.name ≡ Some l → rules.in_turn (walks.step p c path.root.at) path.steps
        (record { form = l.form; held = l.held }) ≡ rules.Holds w
        → SameOn (steps_use p c path.root.at path.steps (record { form = l.form; held = l.held })) s t
        → (o : Option Bound) → s.locals path.root.name ≡ o
        → ((there o >>= λ b. steps p s path.steps (local_place path.root.name b))
        ≡ (there o >>= λ b. steps p t path.steps (local_place path.root.name b)))
        × ((z : PlaceFound) → (there o >>= λ b. steps p s path.steps (local_place path.root.name b)) ≡ Fine z
        → Fit p z.form w)
    by_bound l d e u None i = (refl, λ z k. absurd (cc k))
    by_bound l d e u (Some b) i = steps_same p c path.root.at s t path.steps (local_place path.root.name b)
        (record { form = l.form; held = l.held }) w (fit path.root.name l b d i) u e

    by_local : (o : Option Local) → c.local path.root.name ≡ o
        → (rules.◌>>=◌ (rules.found o rule.UnknownName path.root.at)
        (λ (l : Local). rules.in_turn (walks.step p c path.root.at) path.steps
        (record { form = l.form; held = l.held }))) ≡ rules.Holds w
        → SameOn (rules.given o nothing
        (λ (l : Local). steps_use p c path.root.at path.steps (record { form = l.form; held = l.held }))) s t
        → (walk_to p s path ≡ walk_to p t path) × ((z : PlaceFound) → walk_to p s path ≡ Fine z → Fit p z.form w)
    by_local None d e u = absurd (cc e)
    by_local (Some l) d e u = let r = by_bound l d e u (s.locals path.root.name) refl in (
      r.0 ∙ ap (λ (o : Option Bound). there o >>= λ b. steps p t path.steps (local_place path.root.name b)) same,
      r.1,
    )

-- ---- expressions

by_either : (a b : Option Mode) (P : Type 0) → is_some (stronger a b) ≡ true → (is_some a ≡ true → P)
    → (is_some b ≡ true → P) → P
by_either None b P e g h = h e
by_either (Some m) b P e g h = g refl

pub on_both : (u v : Uses) (s t : State) → SameOn u s t → SameOn v s t → SameOn (u ∪ v) s t
on_both u v s t h i = record {
  locals = λ y e. by_either (u (resource.Local y)) (v (resource.Local y)) _ e (h.locals y) (i.locals y);
  groups = λ g e. by_either (u (resource.Group g)) (v (resource.Group g)) _ e (h.groups g) (i.groups g);
}

-- all paths in the expression are accepted
abbrev pub AllWalked : Code → Context → Expression → Type 0
AllWalked p c (Read path) = (w : walks.Place) × (walks.walk p c path ≡ rules.Holds w)
AllWalked p c (Item path e) = ((w : walks.Place) × (walks.walk p c path ≡ rules.Holds w)) × AllWalked p c e
AllWalked p c (Length path at) = (w : walks.Place) × (walks.walk p c path ≡ rules.Holds w)
AllWalked p c (Grouped e at) = AllWalked p c e
AllWalked p c (Negated e at) = AllWalked p c e
AllWalked p c (Minus e at) = AllWalked p c e
AllWalked p c (Binary o a b) = AllWalked p c a × AllWalked p c b
AllWalked p c _ = Unit {0}

-- the object at the end of an accepted path
end_same : (p : Code) (c : Context) (s t : State) → FitsShallow p c s → (path : Path) (w : walks.Place)
    → walks.walk p c path ≡ rules.Holds w
    → SameOn (read_use path.root.name) s t → SameOn (end_uses p c path) s t
    → (walk_to p s path ≡ walk_to p t path)
    × ((x : PlaceFound) → walk_to p s path ≡ Fine x → open_place p s x ≡ open_place p t x)
end_same p c s t fit path w e u v =
    let ends : Uses = of_judged (walks.walk p c path) (λ (y : walks.Place). reach_use y.held) in
    let r = walk_same p c s t fit path w e
    (on_both (read_use path.root.name) (walk_uses p c path) s t u (on_left (walk_uses p c path) ends s t v)) in (
      r.0,
      λ x d. opens_same p s t x w (r.1 x d)
          (subst (λ (y : rules.Verdict walks.Place). SameOn (of_judged y (λ (y : walks.Place). reach_use y.held)) s t)
          e (on_right (walk_uses p c path) ends s t v)),
    )

-- an expression whose paths are accepted reads what it uses
pub value_same : (p : Code) (c : Context) (s t : State) → FitsShallow p c s → (e : Expression) → AllWalked p c e
    → SameOn (value_uses p c e) s t → value p s e ≡ value p t e
value_same p c s t fit (Number n at) h u = refl
value_same p c s t fit (Truth b at) h u = refl
value_same p c s t fit (Nothing at) h u = refl
value_same p c s t fit (Read path) h u = ap (λ (r : Outcome PlaceFound). r >>= λ x. Fine x.value)
    (walk_same p c s t fit path h.0 h.1 u).0
value_same p c s t fit (Item path e) h u =
    let root : SameOn (read_use path.root.name) s t = on_left (read_use path.root.name)
    (end_uses p c path ∪ value_uses p c e) s t u in
    let rest : SameOn (end_uses p c path ∪ value_uses p c e) s t = on_right (read_use path.root.name)
    (end_uses p c path ∪ value_uses p c e) s t u in
    let r = end_same p c s t fit path h.0.0 h.0.1 root (on_left (end_uses p c path) (value_uses p c e) s t rest) in
    bind_same (walk_to p s path) (λ x. value p s e >>= λ v. number v >>= λ n. open_place p s x >>= λ o. item o n)
    (λ x. value p t e >>= λ v. number v >>= λ n. open_place p t x >>= λ o. item o n)
    (λ x d. ap (λ (o : Outcome OpenedObject). value p s e >>= λ v. number v >>= λ n. o >>= λ o. item o n) (r.1 x d)
    ∙ ap (λ (y : Outcome Val). y >>= λ v. number v >>= λ n. open_place p t x >>= λ o. item o n)
    (value_same p c s t fit e h.1 (on_right (end_uses p c path) (value_uses p c e) s t rest)))
    ∙ ap (λ (q : Outcome PlaceFound). q >>= λ x. value p t e >>= λ v. number v >>= λ n. open_place p t x
    >>= λ o. item o n) r.0
value_same p c s t fit (Length path at) h u =
    let r = end_same p c s t fit path h.0 h.1 (on_left (read_use path.root.name) (end_uses p c path) s t u)
    (on_right (read_use path.root.name) (end_uses p c path) s t u) in
    ap (λ (o : Outcome OpenedObject). o >>= λ o. numbers o.tree >>= λ ns. Fine (OfInt (pos (length ns))))
    (bind_same (walk_to p s path) (open_place p s) (open_place p t) r.1
    ∙ ap (λ (q : Outcome PlaceFound). q >>= open_place p t) r.0)
value_same p c s t fit (Grouped e at) h u = value_same p c s t fit e h u
value_same p c s t fit (Negated e at) h u =
    ap (λ (y : Outcome Val). y >>= λ v. truth v >>= λ b. Fine (OfBool (not b))) (value_same p c s t fit e h u)
value_same p c s t fit (Minus e at) h u = ap (λ (y : Outcome Val). y >>= λ v. number v >>= λ n. fitted (neg_ℤ n))
    (value_same p c s t fit e h u)
value_same p c s t fit (Binary o a b) h u =
    ap (λ (y : Outcome Val). y >>= λ v. both o v (λ _. value p s b))
    (value_same p c s t fit a h.0 (on_left (value_uses p c a) (value_uses p c b) s t u))
    ∙ ap (λ (y : Outcome Val). value p t a >>= λ v. both o v (λ _. y))
    (value_same p c s t fit b h.1 (on_right (value_uses p c a) (value_uses p c b) s t u))

-- ---- what the rules accept

pub bind_holds : {A B : Type 0} (P : Type 0) (v : rules.Verdict A) (g : A → rules.Verdict B) (y : B)
    → rules.◌>>=◌ v g ≡ rules.Holds y → ((x : A) → v ≡ rules.Holds x → g x ≡ rules.Holds y → P) → P
bind_holds P (rules.Holds x) g y e k = k x refl e
bind_holds P (rules.Broken r at) g y e k = absurd (cc e)

pub formed : (P : Type 0) (wanted : Form) (v : rules.Verdict Form) (at : Spot) (y : ⊤)
    → has_form wanted v at ≡ rules.Holds y → ((k : Form) → v ≡ rules.Holds k → P) → P
formed P wanted v at y e k = bind_holds P v (λ form. rules.require (same_value wanted form) rule.TypeMismatch at) y e
    (λ x d i. k x d)
