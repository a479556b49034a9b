-- That a call whose caller's names are known enters the method that it is judged to call.
use Rattle.std.proofs.Common.{◌≡◌, refl, sym, ap, ◌∙◌, subst, ℕ, nat_eq, Bool, true, false, if◌then◌else◌}
use Rattle.std.proofs.Common.{List, [], ◌∷◌, Option, None, Some}
use Rattle.std.specs.Prelude.{option_map, slice_get}
use Rattle.std.proofs.lemmas.Option.{same_Some}
use Rattle.ae_text.specs.declared.refusal.Spot.{Spot}
use Rattle.ae_text.specs.declared.refusal.Rule.TheVariants as rule
use Rattle.ae_tree.specs.declared.tree.NameAt.{NameAt}
use Rattle.ae_tree.specs.declared.tree.Path.{Path}
use Rattle.ae_tree.specs.declared.tree.Class.{Class}
use Rattle.ae_tree.specs.declared.form.Perm.{Perm}
use Rattle.ae_tree.specs.declared.form.Perm.TheVariants as perm
use Rattle.ae_tree.specs.declared.form.Kind.{Kind}
use Rattle.ae_tree.specs.declared.form.Form.{Form}
use Rattle.ae_tree.specs.declared.form.Form.TheVariants as f
use Rattle.ae_tree.specs.Form.{bare_names}
use Rattle.ae_tree.specs.Plain.{Code, Definition, Invocation}
use Rattle.ae_rules.specs.Verdict.{Holds, require, found, in_turn, given}
use Rattle.ae_rules.specs.Forms.{is_object}
use Rattle.ae_rules.specs.Lookups.{class_of, groups_of, method_at, method_number, top_number, field_number}
use Rattle.ae_rules.specs.Lookups.{field_of_kind, field_of}
use Rattle.ae_rules.specs.Context.{Local, Context, access}
use Rattle.ae_rules.specs.Walks.{Place, held_in_field, step, walk}
use Rattle.ae_rules.specs.Calls.{Callee, callee_at, callee_in, callee_of, top_callee, judge_callee}
use Rattle.ae_semantics.specs.Values.{Val, OfInt, OfBool, Null, Owned, Member, Tree, value_fits, is_of_kind}
use Rattle.ae_semantics.specs.Places as meant
use Rattle.ae_semantics.specs.Places.{Outcome, Fine, CellName, ◌>>=◌, there, reached, State, Address, PlaceFound}
use Rattle.ae_semantics.specs.Places.{OpenedObject, opened_if, opened_member, open_value, open_form, open_place}
use Rattle.ae_semantics.specs.Places.{store_of, NumberedField, numbered_as, numbered_field, field_value, field_place}
use Rattle.ae_semantics.specs.Places.{met, into_field, step_to, steps, local_place, walk_to}
use Rattle.ae_semantics.specs.Meaning.{with_perm}
use Rattle.ae_semantics.specs.Calls.{called_method}
use Rattle.ae_values.specs.declared.env.Bind.{Bind}
use Rattle.ae_values.specs.declared.env.Bound.{Bound}
use Rattle.ae_values.specs.declared.env.Bound.TheVariants as bound
use Rattle.ae_values.specs.Binding.{bound_in}
use Rattle.ae_values.specs.Environments.{local_bound, locals_in}
use Rattle.ae_values.specs.Shapes.{name_shape, shapes, shape_in}
use Rattle.ae_soundness.specs.Fits.{SameButPermission}
use Rattle.ae_names.specs.Known.{local_form, form_in, AreKnown, state_of}
use Rattle.ae_starts.proofs.from_rules.PathLemmas.{first_holds, mapped}
use Rattle.ae_starts.proofs.from_rules.SeenLemmas.{found_is}
use Rattle.ae_starts.proofs.from_soundness.FieldLemmas.{given_some, same_but_nothing}
use Rattle.ae_starts.proofs.from_soundness.StandLemmas.{fine_first, there_is, met_is, opened_is}

-- ---- locals

-- what is bound to a local is of the form of its name, but for the permission
abbrev HasForm : Option Form → Form → Type 0
HasForm o t = (u : Form) × (o ≡ Some u) × SameButPermission u t

aside : (q : Perm) (t : Form) → SameButPermission (with_perm q t) t
aside q f.Int = tt
aside q f.Bool = tt
aside q (f.Object r k) = refl

one_form : (q : Perm) (b : Bound) (x : meant.Bound) → local_bound b ≡ Some x
    → HasForm (local_form (name_shape q b)) x.form
one_form q (bound.Value form v) x e =
    let same : form ≡ x.form = ap (λ (y : meant.Bound). y.form) (same_Some _ x e) in
    (with_perm q form, refl, subst (λ (t : Form). SameButPermission (with_perm q form) t) same (aside q form))
one_form q (bound.Moved form) x e = absurd (cc e)
one_form q (bound.Whole image) x e = absurd (cc e)
one_form q (bound.Other g) x e = absurd (cc e)
one_form q (bound.Cell n) x e = absurd (cc e)
one_form q (bound.Pieces ps) x e = absurd (cc e)

bound_has_form : (bs : List Bind) (y : ℕ) (x : meant.Bound) → locals_in (bound_in bs) y ≡ Some x
    → HasForm (form_in (shapes bs) y) x.form
bound_has_form [] y x e = absurd (cc e)
bound_has_form (b ∷ bs) y x e = by_test (nat_eq b.name y) (bound_has_form bs y x) e
  where
    by_test : (t : Bool) → (locals_in (bound_in bs) y ≡ Some x → HasForm (form_in (shapes bs) y) x.form)
        → given (if t then Some b.bound else bound_in bs y) None local_bound ≡ Some x
        → HasForm (given (if t then Some (name_shape b.declared b.bound) else shape_in (shapes bs) y) None local_form)
        x.form
    by_test true later i = one_form b.declared b.bound x i
    by_test false later i = later i

-- a local that is known has something of its form, but for the permission
local_agrees : (c : Context) (bs : List Bind) (y : ℕ) (l : Local) (x : meant.Bound) → AreKnown c (shapes bs)
    → c.local y ≡ Some l → locals_in (bound_in bs) y ≡ Some x → SameButPermission l.form x.form
local_agrees c bs y l x known e i =
    let h = bound_has_form bs y x i in
    let same : h.0 ≡ l.form = same_Some h.0 l.form
    (sym h.1 ∙ known.local y ∙ ap (option_map (λ (z : Local). z.form)) e) in
    subst (λ (t : Form). SameButPermission t x.form) same h.2

-- ---- steps

opened_so : (p : Code) (k : Kind) (a : Address) (t : Tree) (o : OpenedObject)
    → opened_if (is_of_kind p k t) (record { at = a; kind = k; tree = t }) ≡ Fine o → o.kind ≡ k
opened_so p k a t o e = sym (ap (λ (z : OpenedObject). z.kind)
    (opened_is (is_of_kind p k t) (record { at = a; kind = k; tree = t }) o e))

-- what is opened is of the kind that is asked for
opened_kind : (p : Code) (s : State) (q : Perm) (k : Kind) (a : Address) (v : Val) (o : OpenedObject)
    → open_value p s q k a v ≡ Fine o → o.kind ≡ k
opened_kind p s (perm.Shared g) k a (OfInt n) o e = absurd (cc e)
opened_kind p s (perm.Shared g) k a (OfBool b) o e = absurd (cc e)
opened_kind p s (perm.Shared g) k a Null o e = absurd (cc e)
opened_kind p s (perm.Shared g) k a (Owned t) o e = absurd (cc e)
opened_kind p s (perm.Shared g) k a (Member n) o e =
    let st = fine_first (store_of s g) (opened_member p k g n) o e in
    let t = fine_first (reached (slice_get st.0 n)) _ o st.2 in
    opened_so p k (record { base = meant.InGroup g n; fields = [] }) t.0 o t.2
opened_kind p s perm.Unique k a (OfInt n) o e = absurd (cc e)
opened_kind p s perm.Unique k a (OfBool b) o e = absurd (cc e)
opened_kind p s perm.Unique k a Null o e = absurd (cc e)
opened_kind p s perm.Unique k a (Owned t) o e = opened_so p k a t o e
opened_kind p s perm.Unique k a (Member n) o e = absurd (cc e)
opened_kind p s perm.Immutable k a (OfInt n) o e = absurd (cc e)
opened_kind p s perm.Immutable k a (OfBool b) o e = absurd (cc e)
opened_kind p s perm.Immutable k a Null o e = absurd (cc e)
opened_kind p s perm.Immutable k a (Owned t) o e = opened_so p k a t o e
opened_kind p s perm.Immutable k a (Member n) o e = absurd (cc e)
opened_kind p s perm.Lent k a (OfInt n) o e = absurd (cc e)
opened_kind p s perm.Lent k a (OfBool b) o e = absurd (cc e)
opened_kind p s perm.Lent k a Null o e = absurd (cc e)
opened_kind p s perm.Lent k a (Owned t) o e = opened_so p k a t o e
opened_kind p s perm.Lent k a (Member n) o e = absurd (cc e)

-- a field of the form that is known is one of the object that is opened
field_agrees : (p : Code) (s : State) (a : Address) (t now : Form) (v : Val) (x : ℕ) (u : Form) (o : OpenedObject)
    → SameButPermission t now → field_of p t x ≡ Some u → open_form p s a now v ≡ Fine o
    → field_of_kind p o.kind x ≡ Some u
field_agrees p s a f.Int now v x u o h e i = absurd (cc e)
field_agrees p s a f.Bool now v x u o h e i = absurd (cc e)
field_agrees p s a (f.Object q k) f.Int v x u o h e i = absurd h
field_agrees p s a (f.Object q k) f.Bool v x u o h e i = absurd h
field_agrees p s a (f.Object q k) (f.Object r l) v x u o h e i =
    subst (λ (m : Kind). field_of_kind p m x ≡ Some u) (h ∙ sym (opened_kind p s r l a v o i)) e

numbered_form : (form : Option Form) (n : ℕ) (d : NumberedField) → numbered_as form n ≡ Some d → form ≡ Some d.form
numbered_form None n d e = absurd (cc e)
numbered_form (Some t) n d e =
    ap Some (ap (λ (z : NumberedField). z.form) (same_Some (record { number = n; form = t }) d e))

-- a field by its number is of its form
field_is : (p : Code) (k : Kind) (x : ℕ) (d : NumberedField) → numbered_field p k x ≡ Some d
    → field_of_kind p k x ≡ Some d.form
field_is p k x d e =
    let a = given_some (class_of p k)
    (λ (c : Class). given (field_number c x) none (numbered_as (field_of_kind p k x))) d e in
    let n = given_some (field_number a.0 x) (numbered_as (field_of_kind p k x)) d a.2 in
    numbered_form (field_of_kind p k x) n.0 d n.2
  where
    none : Option NumberedField
    none = None

-- a step leads to the form to which it is judged to lead
step_agrees : (p : Code) (c : Context) (s : State) (at : Spot) (x : NameAt) (w u : Place) (from y : PlaceFound)
    → SameButPermission w.form from.form → step p c at x w ≡ Holds u → step_to p s x from ≡ Fine y → y.form ≡ u.form
step_agrees p c s at x w u from y h e i =
    let d = first_holds (found (field_of p w.form x.name) rule.UnknownField x.at) _ u e in
    let t : Form = d.0 in
    let g = first_holds (access c at w.held) (λ _. Holds (record { form = t; held = held_in_field w.held t })) u d.2 in
    let judged : t ≡ u.form = ap (λ (z : Place). z.form) (same_place _ u g.2) in
    let o = fine_first (open_place p s from) (λ (o : OpenedObject). into_field p o x.name) y i in
    let n = fine_first (there (numbered_field p o.0.kind x.name))
    (λ (d : NumberedField). there (field_value o.0.tree d.number) >>= λ v. met p (field_place o.0 d v)) y o.2 in
    let v = fine_first (there (field_value o.0.tree n.0.number)) (λ v. met p (field_place o.0 n.0 v)) y n.2 in
    let z : PlaceFound = field_place o.0 n.0 v.0 in
    let met_there : z ≡ y = met_is p z y (value_fits p z.form z.value) v.2 in
    let own : field_of_kind p o.0.kind x.name ≡ Some t = field_agrees p s from.at w.form from.form from.value x.name t
    o.0 h
    (found_is (field_of p w.form x.name) rule.UnknownField x.at t d.1) o.1 in
    let same : n.0.form ≡ t = same_Some n.0.form t
    (sym (field_is p o.0.kind x.name n.0 (there_is (numbered_field p o.0.kind x.name) n.0 n.1)) ∙ own) in
    sym (ap (λ (k : PlaceFound). k.form) met_there) ∙ same ∙ judged
  where
    same_place : (a b : Place) → Holds a ≡ Holds b → a ≡ b
    same_place a b k = cc k

-- steps lead to the form to which they are judged to lead, but for the permission
steps_agree : (p : Code) (c : Context) (s : State) (at : Spot) (xs : List NameAt) (w u : Place) (from y : PlaceFound)
    → SameButPermission w.form from.form → in_turn (step p c at) xs w ≡ Holds u → steps p s xs from ≡ Fine y
    → SameButPermission u.form y.form
steps_agree p c s at [] w u from y h e i =
    let same : w ≡ u = cc e in
    let it : from ≡ y = cc i in
    subst (λ (z : PlaceFound). SameButPermission u.form z.form) it
    (subst (λ (z : Place). SameButPermission z.form from.form) same h)
steps_agree p c s at (x ∷ xs) w u from y h e i =
    let b = first_holds (step p c at x w) (in_turn (step p c at) xs) u e in
    let n = fine_first (step_to p s x from) (steps p s xs) y i in
    let same : n.0.form ≡ b.0.form = step_agrees p c s at x w b.0 from n.0 h b.1 n.1 in
    steps_agree p c s at xs b.0 u n.0 y
    (subst (λ (t : Form). SameButPermission b.0.form t) (sym same) (same_but_nothing b.0.form)) b.2 n.2

-- where the names are known, a walk leads to the form to which it is judged to lead, but for the permission
walk_agrees : (p : Code) (c : Context) (cells : ℕ → CellName) (r : Option Val) (bs : List Bind) (path : Path)
    (w : Place) (y : PlaceFound) → AreKnown c (shapes bs) → walk p c path ≡ Holds w
    → walk_to p (state_of cells r bs) path ≡ Fine y → SameButPermission w.form y.form
walk_agrees p c cells r bs path w y known e i =
    let s : State = state_of cells r bs in
    let a = first_holds (found (c.local path.root.name) rule.UnknownName path.root.at) _ w e in
    let l : Local = a.0 in
    let b = fine_first (there (s.locals path.root.name))
    (λ (b : meant.Bound). steps p s path.steps (local_place path.root.name b)) y i
    in steps_agree p c s path.root.at path.steps (record { form = l.form; held = l.held }) w
    (local_place path.root.name b.0) y
    (local_agrees c bs path.root.name l b.0 known
    (found_is (c.local path.root.name) rule.UnknownName path.root.at l a.1)
    (there_is (s.locals path.root.name) b.0 b.1)) a.2 b.2

-- ---- the method that is called

-- the method of an object is that of each object of its kind
callee_is : (p : Code) (x : ℕ) (t now : Form) (k : Callee) → SameButPermission t now → callee_of p t x ≡ Some k
    → callee_of p now x ≡ Some k
callee_is p x f.Int now k h e = absurd (cc e)
callee_is p x f.Bool now k h e = absurd (cc e)
callee_is p x (f.Object q l) f.Int k h e = absurd h
callee_is p x (f.Object q l) f.Bool k h e = absurd h
callee_is p x (f.Object q l) (f.Object r m) k h e =
    subst (λ (n : Kind). callee_of p (f.Object r n) x ≡ Some k) h e

-- the method that is called is the one of which the call is judged
pub called_is_judged : (p : Code) (c : Context) (cells : ℕ → CellName) (r : Option Val) (bs : List Bind)
    (i : Invocation) (k y : Callee) → AreKnown c (shapes bs) → judge_callee p c i.on i.method ≡ Holds k
    → called_method p (state_of cells r bs) i ≡ Fine y → k ≡ y
called_is_judged p c cells r bs i k y known h e = by_receiver i.on h e
  where
    by_receiver : (on : Option Path) → judge_callee p c on i.method ≡ Holds k
        → given on (there (top_callee p i.method.name)) (λ path. walk_to p (state_of cells r bs) path
        >>= λ x. there (callee_of p x.form i.method.name)) ≡ Fine y → k ≡ y
    by_receiver None j g = same_Some k y
        (sym (found_is (top_callee p i.method.name) rule.UnknownMethod i.method.at k j)
        ∙ there_is (top_callee p i.method.name) y g)
    by_receiver (Some path) j g =
        let a = first_holds (walk p c path) _ k j in
        let b = first_holds (require (is_object a.0.form) rule.TypeMismatch path.root.at) _ k a.2 in
        let x = fine_first (walk_to p (state_of cells r bs) path)
        (λ (x : PlaceFound). there (callee_of p x.form i.method.name)) y g in
        let own : callee_of p x.0.form i.method.name ≡ Some k = callee_is p i.method.name a.0.form x.0.form k
        (walk_agrees p c cells r bs path a.0 x.0 known a.1 x.1)
        (found_is (callee_of p a.0.form i.method.name) rule.UnknownMethod i.method.at k b.2) in
        same_Some k y (sym own ∙ there_is (callee_of p x.0.form i.method.name) y x.2)

-- ---- its number

numbered_so : (p : Code) (names groups : List ℕ) (o : Option ℕ) (k : Callee)
    → given o None (callee_at p names groups) ≡ Some k → method_at p k.number ≡ Some k.method
numbered_so p names groups o k e =
    let a = given_some o (callee_at p names groups) k e in
    let m = mapped (λ (d : Definition). record { number = a.0; method = d; names = names; groups = groups })
    (method_at p a.0) k a.2 in
    subst (λ (z : Callee). method_at p z.number ≡ Some z.method) m.2 m.1

of_form : (p : Code) (t : Form) (x : ℕ) (k : Callee) → callee_of p t x ≡ Some k
    → method_at p k.number ≡ Some k.method
of_form p f.Int x k e = absurd (cc e)
of_form p f.Bool x k e = absurd (cc e)
of_form p (f.Object q l) x k e =
    let a = given_some (class_of p l) (callee_in p l x) k e in
    numbered_so p (bare_names a.0.groups) (groups_of l) (method_number p a.0 x) k a.2

-- the method of which a call is judged has its number in the program
pub judged_has_number : (p : Code) (c : Context) (on : Option Path) (x : NameAt) (k : Callee)
    → judge_callee p c on x ≡ Holds k → method_at p k.number ≡ Some k.method
judged_has_number p c None x k h = numbered_so p [] [] (top_number p x.name) k
    (found_is (top_callee p x.name) rule.UnknownMethod x.at k h)
judged_has_number p c (Some path) x k h =
    let a = first_holds (walk p c path) _ k h in
    let b = first_holds (require (is_object a.0.form) rule.TypeMismatch path.root.at) _ k a.2 in
    of_form p a.0.form x.name k (found_is (callee_of p a.0.form x.name) rule.UnknownMethod x.at k b.2)
