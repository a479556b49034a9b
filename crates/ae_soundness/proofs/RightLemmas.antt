-- What stands right of a = comes to a value of the form that it goes into, and the state keeps fitting.
use Rattle.std.proofs.Common.{not, ◌≡◌, ◌≢◌, refl, sym, ap, ◌∙◌, subst, ℕ, suc, ℤ, pos, negsuc, nat_eq, Bool}
use Rattle.std.proofs.Common.{true, false, if◌then◌else◌, List, [], ◌∷◌, map, zip, length, Option, None, Some}
use Rattle.std.proofs.Common.{add-one, arith}
use Rattle.std.specs.Prelude.{filter_map, ⊤}
use Rattle.std.specs.List.{cons_option}
use Rattle.std.proofs.lemmas.Bool.{and_from, eqb-true}
use Rattle.ae_text.specs.declared.refusal.Spot.{Spot}
use Rattle.ae_text.specs.declared.refusal.Rule.TheVariants as rule
use Rattle.ae_tree.specs.declared.tree.NameAt.{NameAt}
use Rattle.ae_tree.specs.declared.tree.Path.{Path}
use Rattle.ae_tree.specs.declared.tree.Field.{Field}
use Rattle.ae_tree.specs.declared.tree.Class.{Class}
use Rattle.ae_tree.specs.declared.form.Perm.{Perm}
use Rattle.ae_tree.specs.declared.form.Perm.TheVariants as perm
use Rattle.ae_tree.specs.declared.form.Kind.{Kind}
use Rattle.ae_tree.specs.declared.form.Kind.TheVariants as kind
use Rattle.ae_tree.specs.declared.form.Form.{Form}
use Rattle.ae_tree.specs.declared.form.Form.TheVariants as f
use Rattle.ae_tree.specs.Form.{form, bare_names}
use Rattle.ae_tree.specs.Plain.{Code, Expression}
use Rattle.ae_tree.specs.Plain.{RightSide, Value, Taken, Zeros, Made, Returned}
use Rattle.ae_tree.specs.WellShaped.{TakesField}
use Rattle.ae_rules.specs.Verdict.{Holds, require, found, in_turn, given}
use Rattle.ae_rules.specs.Forms.{same_perm, same_kind, is_object, is_unique}
use Rattle.ae_rules.specs.Lookups.{is_empty, class_called, field_form}
use Rattle.ae_rules.specs.Types.{groups_fit}
use Rattle.ae_rules.specs.Groups.{known}
use Rattle.ae_rules.specs.Context.{Context, with_name_moved}
use Rattle.ae_rules.specs.Walks.{Place, walk, owner_write_access}
use Rattle.ae_rules.specs.Expressions.{expression_spot, judge_value, is_value}
use Rattle.ae_rules.specs.Into.{name_into, into, made_into, other_perm}
use Rattle.ae_rules.specs.Into.{unique_of}
use Rattle.ae_rules.specs.Calls.{no_roots, apart, Filled, fills, MadeValue, judge_new}
use Rattle.ae_rules.specs.Statements.{judge_take, judge_right}
use Rattle.ae_rules.specs.Laws.{WalksGoByOwners}
use Rattle.ae_semantics.specs.Values.{Val, Null, Owned, Object, Values, NoValue, AndValue, value_count}
use Rattle.ae_semantics.specs.Values.{fits_object, value_fits, values}
use Rattle.ae_semantics.specs.Places.{Outcome, Fine, Traps, Lacks, ◌>>=◌, there, State, met, field_place}
use Rattle.ae_semantics.specs.Places.{PlaceFound, write_field, ObjectField, slot}
use Rattle.ae_semantics.specs.Expressions.{value, number_of}
use Rattle.ae_semantics.specs.Calls.{without_moved}
use Rattle.ae_semantics.specs.Meaning.{each_value, zeros, take_from, made, name_moved, fields_moved, right_moved}
use Rattle.ae_soundness.specs.Fits.{AreOfFields, IsOfForm, FieldsHaveMembers}
use Rattle.ae_soundness.specs.Fits.{FitsContext}
use Rattle.ae_rules.specs.Paths.{is_call}
use Rattle.ae_soundness.specs.Laws.{IsSlotOf}
use Rattle.ae_soundness.proofs.FieldLemmas.{same_value_fit}
use Rattle.ae_soundness.proofs.IntoLemmas.{as_unique, as_shared, of_same_class, null_fits, what_goes_in_fits}
use Rattle.ae_soundness.proofs.ValueLemmas.{judged_so, values_are_found}
use Rattle.ae_soundness.proofs.SlotLemmas.{slots_are_found}
use Rattle.ae_soundness.proofs.LocalLemmas.{moved_name}
use Rattle.ae_soundness.proofs.OutcomeLemmas.{Comes, Anything, then_comes, value_comes, number_comes}
use Rattle.ae_soundness.proofs.StandLemmas.{ObjectStands, slot_stands}
use Rattle.ae_soundness.proofs.WriteLemmas.{field_written}
use Rattle.ae_soundness.proofs.from_rules.PathLemmas.{first_holds}
use Rattle.ae_soundness.proofs.from_rules.SeenLemmas.{found_is, required}
use Rattle.ae_soundness.proofs.from_text.Basics.{number_is_itself}
use Rattle.ae_soundness.proofs.MoveLemmas.{KeepsForms, keeps_itself, moving_keeps, kept_object, Moves, moves_in}
use Rattle.ae_soundness.proofs.MoveLemmas.{moved_in}

-- ---- made values

-- a value of one form is of the same form
made_object : (p : Code) (q r : Perm) (k l : Kind) (v : Val) → same_kind k l ≡ true → same_perm q r ≡ true
    → fits_object p q k v ≡ true → fits_object p r l v ≡ true
made_object p perm.Unique perm.Unique k l v e i h = of_same_class p k l v e ∙ h
made_object p perm.Immutable perm.Immutable k l v e i h = as_unique p perm.Immutable l v (λ g d. absurd (cc d))
    ∙ of_same_class p k l v e ∙ sym (as_unique p perm.Immutable k v (λ g d. absurd (cc d))) ∙ h
made_object p perm.Lent perm.Lent k l v e i h = as_unique p perm.Lent l v (λ g d. absurd (cc d))
    ∙ of_same_class p k l v e ∙ sym (as_unique p perm.Lent k v (λ g d. absurd (cc d))) ∙ h
made_object p (perm.Shared x) (perm.Shared y) k l v e i h = as_shared p x y k l v ∙ h
made_object p perm.Unique perm.Immutable k l v e i h = absurd (cc i)
made_object p perm.Unique perm.Lent k l v e i h = absurd (cc i)
made_object p perm.Unique (perm.Shared y) k l v e i h = absurd (cc i)
made_object p perm.Immutable perm.Unique k l v e i h = absurd (cc i)
made_object p perm.Immutable perm.Lent k l v e i h = absurd (cc i)
made_object p perm.Immutable (perm.Shared y) k l v e i h = absurd (cc i)
made_object p perm.Lent perm.Unique k l v e i h = absurd (cc i)
made_object p perm.Lent perm.Immutable k l v e i h = absurd (cc i)
made_object p perm.Lent (perm.Shared y) k l v e i h = absurd (cc i)
made_object p (perm.Shared x) perm.Unique k l v e i h = absurd (cc i)
made_object p (perm.Shared x) perm.Immutable k l v e i h = absurd (cc i)
made_object p (perm.Shared x) perm.Lent k l v e i h = absurd (cc i)

-- A made value that is judged to go into a form is of the form.
pub made_fits : (p : Code) (t r : Form) (at : Spot) (u : ⊤) (v : Val) → made_into t r at ≡ Holds u → IsOfForm p t v
    → IsOfForm p r v
made_fits p f.Int f.Int at u v e i = i
made_fits p f.Int f.Bool at u v e i = absurd (cc e)
made_fits p f.Int (f.Object q k) at u v e i = absurd (cc e)
made_fits p f.Bool f.Int at u v e i = absurd (cc e)
made_fits p f.Bool f.Bool at u v e i = i
made_fits p f.Bool (f.Object q k) at u v e i = absurd (cc e)
made_fits p (f.Object q k) f.Int at u v e i = absurd (cc e)
made_fits p (f.Object q k) f.Bool at u v e i = absurd (cc e)
made_fits p (f.Object q k) (f.Object r l) at u v e i =
    let a = first_holds (require (same_kind k l) rule.TypeMismatch at)
    (λ _. require (same_perm q r) (other_perm r) at) u e in
    let goes : fits_object p r l v ≡ true = made_object p q r k l v
    (required (same_kind k l) rule.TypeMismatch at a.0 a.1) (required (same_perm q r) (other_perm r) at u a.2) i.0 in
    (goes, i.1)

-- ---- right sides

-- a value of the form, and a state that fits once the names that move have no value
abbrev pub GoesRight : Code → Context → Form → List ℕ → Val × State → Type 0
GoesRight p d t xs r = IsOfForm p t r.0 × FitsContext p d (without_moved xs r.1)

-- what a judged right side does
pub record RightFits (p : Code) (c d : Context) (s : State) (t : Form) (e : RightSide) : Type 0 where
  pub keeps : KeepsForms c d
  pub comes : Comes (GoesRight p d t (right_moved p t e)) (made p e s)

value_right : (p : Code) (c d : Context) (s : State) (t : Form) (e : Expression) → FieldsHaveMembers p
    → FitsContext p c s → judge_right p c t (Value e) ≡ Holds d → RightFits p c d s t (Value e)
value_right p c d s t e m z h =
    let a = first_holds (into p c t e) (λ name. Holds (with_name_moved name c)) d h in
    let same : with_name_moved a.0 c ≡ d = cc (a.2) in
    subst (λ (y : Context). RightFits p c y s t (Value e)) same
    (record {
      keeps = moving_keeps c c a.0 (keeps_itself c);
      comes = then_comes (IsOfForm p t) (GoesRight p (with_name_moved a.0 c) t (name_moved t e)) (value p s e)
          (λ v. Fine (v, s)) (value_comes p t (value p s e) (what_goes_in_fits p c s t e a.0 m z a.1))
          (λ v i. (i, moved_in p c s t e a.0 a.1 z));
    })

zeros_come : (p : Code) (n : ℤ) → Comes (IsOfForm p (unique_of kind.Ints)) (zeros n)
zeros_come p (pos n) = (refl, tt)
zeros_come p (negsuc n) = tt

zeros_right : (p : Code) (c d : Context) (s : State) (t : Form) (e : Expression) (at : Spot) → FieldsHaveMembers p
    → FitsContext p c s → judge_right p c t (Zeros e at) ≡ Holds d → RightFits p c d s t (Zeros e at)
zeros_right p c d s t e at m z h =
    let a = first_holds (is_value p c f.Int e) _ d h in
    let b = first_holds (made_into (unique_of kind.Ints) t at) (λ _. Holds c) d a.2 in
    let same : c ≡ d = cc (b.2) in
    subst (λ (y : Context). RightFits p c y s t (Zeros e at)) same
    (record {
      keeps = keeps_itself c;
      comes = then_comes (Anything {A = ℤ}) (GoesRight p c t []) (number_of p s e)
          (λ n. zeros n >>= λ v. Fine (v, s))
          (number_comes p (value p s e)
          (values_are_found p c s e f.Int m z (judged_so f.Int (judge_value p c e) (expression_spot e) a.0 a.1).0))
          (λ n i. then_comes (IsOfForm p (unique_of kind.Ints)) (GoesRight p c t []) (zeros n) (λ v. Fine (v, s))
          (zeros_come p n)
          (λ v j. (made_fits p (unique_of kind.Ints) t at b.0 v b.1 j, z)));
    })

-- ---- `take`

-- a field with its object where it stands
abbrev pub SlotStands : Code → State → Form → ObjectField → Type 0
SlotStands p s t x = IsSlotOf p t (Fine x) × ObjectStands s x.object

slot_so : (p : Code) (s : State) (t : Form) (o : Outcome ObjectField)
    → ((x : ObjectField) → o ≡ Fine x → ObjectStands s x.object) → IsSlotOf p t o → Comes (SlotStands p s t) o
slot_so p s t (Fine x) k h = (h, k x refl)
slot_so p s t (Traps code) k h = tt
slot_so p s t Lacks k h = h

-- The field to which a judged walk leads comes, where it stands.
pub slot_comes : WalksGoByOwners → (p : Code) (c : Context) (s : State) (path : Path) (w : Place) → FieldsHaveMembers p
    → FitsContext p c s → walk p c path ≡ Holds w → path.steps ≢ [] → Comes (SlotStands p s w.form) (slot p s path)
slot_comes law p c s path w m z e n = slot_so p s w.form (slot p s path) (slot_stands p s path)
    (slots_are_found law p c s path w m z e (by_steps path.steps n))
  where
    by_steps : (xs : List NameAt) → xs ≢ [] → is_empty xs ≡ false
    by_steps [] k = absurd (k refl)
    by_steps (x ∷ xs) k = refl

met_then : {A : Type 0} (P : A → Type 0) (p : Code) (x : PlaceFound) (next : PlaceFound → Outcome A)
    → Comes P (next x) → Comes P (met p x >>= next)
met_then {A} P p x next h = by_test (value_fits p x.form x.value)
  where
    by_test : (b : Bool) → Comes P ((if b then Fine x else Traps 3) >>= next)
    by_test true = h
    by_test false = tt

null_of : (p : Code) (t : Form) → is_object t ≡ true → IsOfForm p t Null
null_of p f.Int e = absurd (cc e)
null_of p f.Bool e = absurd (cc e)
null_of p (f.Object q k) e = (null_fits p q k, tt)

taken_from : (p : Code) (c : Context) (s : State) (t r : Form) (at : Spot) (u : ⊤) (x : ObjectField)
    → FitsContext p c s → is_object t ≡ true → made_into t r at ≡ Holds u → SlotStands p s t x
    → Comes (GoesRight p c r []) (take_from p s x)
taken_from p c s t r at u x z o i h = subst
    (λ (y : Option Val). Comes (GoesRight p c r [])
    (there y >>= λ v. met p (field_place x.object x.part v) >>= λ place.
    write_field s x.object x.part.number Null >>= λ t. Fine (place.value, t))) (sym h.0.4)
    (met_then (GoesRight p c r []) p (field_place x.object x.part h.0.3)
    (λ place. write_field s x.object x.part.number Null >>= λ t. Fine (place.value, t))
    (then_comes (FitsContext p c) (GoesRight p c r []) (write_field s x.object x.part.number Null)
    (λ t. Fine (h.0.3, t))
    (field_written p c s x.object x.part.number Null z h.1 (h.0.2 Null (null_of p t o)))
    (λ y k. (made_fits p t r at u h.0.3 i h.0.5, k))))

take_right : WalksGoByOwners → (p : Code) (c d : Context) (s : State) (t : Form) (path : Path) (at : Spot)
    → FieldsHaveMembers p → path.steps ≢ [] → FitsContext p c s → judge_right p c t (Taken path at) ≡ Holds d
    → RightFits p c d s t (Taken path at)
take_right law p c d s t path at m n z h =
    let a = first_holds (judge_take p c path at) _ d h in
    let b = first_holds (made_into a.0 t at) (λ _. Holds c) d a.2 in
    let w = first_holds (walk p c path) _ a.0 a.1 in
    let o = first_holds (require (is_object w.0.form) rule.TypeMismatch at) _ a.0 w.2 in
    let q = first_holds (require (is_unique w.0.form) rule.NeedsUnique at) _ a.0 o.2 in
    let g = first_holds (owner_write_access p c path) (λ _. Holds w.0.form) a.0 q.2 in
    let form : w.0.form ≡ a.0 = cc (g.2) in
    let same : c ≡ d = cc (b.2) in
    let goes : made_into w.0.form t at ≡ Holds b.0 = ap (λ (y : Form). made_into y t at) form ∙ b.1 in
    subst (λ (y : Context). RightFits p c y s t (Taken path at)) same
    (record {
      keeps = keeps_itself c;
      comes = then_comes (SlotStands p s w.0.form) (GoesRight p c t []) (slot p s path) (take_from p s)
          (slot_comes law p c s path w.0 m z w.1 n)
          (λ x k. taken_from p c s w.0.form t at b.0 x z
          (required (is_object w.0.form) rule.TypeMismatch at o.0 o.1) goes k);
    })

-- ---- `new`

-- what goes into a field of a new object
abbrev Filling : Type 0
Filling = Form × Expression

abbrev moving : Filling → Option ℕ
moving x = name_into x.0 x.1

moved_first : (o : Option ℕ) (xs : List ℕ) (s : State)
    → without_moved (cons_option o xs) s ≡ without_moved xs (without_moved (given o [] (λ x. x ∷ [])) s)
moved_first None xs s = refl
moved_first (Some x) xs s = refl

pub record FilledWith (p : Code) (c : Context) (x : Filling) (before after : Filled) : Type 0 where
  pub name : Option ℕ
  pub goes : into p c x.0 x.1 ≡ Holds name
  pub leads : with_name_moved name before.after ≡ after.after

pub filled_one : (p : Code) (c : Context) (x : Filling) (before after : Filled) → fills p c x before ≡ Holds after
    → FilledWith p c x before after
filled_one p c x before after h =
    let a = first_holds (apart x.0 x.1 before.roots) _ after h in
    let b = first_holds (into p c x.0 x.1)
    (λ name. Holds (record { roots = a.0; after = with_name_moved name before.after })) after a.2 in
    let same : record { roots = a.0; after = with_name_moved b.0 before.after } ≡ after = same_filled b.2 in
    record { name = b.0; goes = b.1; leads = ap (λ (y : Filled). y.after) same }
  where
    same_filled : {u v : Filled} → Holds u ≡ Holds v → u ≡ v
    same_filled e = cc e

-- the context after what fills a new object, and the state without the names that moved
abbrev FilledFits : Code → Context → List Filling → State → Filled → Type 0
FilledFits p c xs s after = KeepsForms c after.after
    × FitsContext p after.after (without_moved (filter_map moving xs) s)

filled_fits : (p : Code) (c : Context) (xs : List Filling) (s : State) (before after : Filled)
    → KeepsForms c before.after → FitsContext p before.after s → in_turn (fills p c) xs before ≡ Holds after
    → FilledFits p c xs s after
filled_fits p c [] s before after k z h =
    let same : before ≡ after = cc h in
    subst (λ (y : Filled). FilledFits p c [] s y) same (k, z)
filled_fits p c (x ∷ xs) s before after k z h =
    let a = first_holds (fills p c x before) (in_turn (fills p c) xs) after h in
    let b : FilledWith p c x before a.0 = filled_one p c x before a.0 a.1 in
    let m : Moves c x.0 x.1 b.name = moves_in p c x.0 x.1 b.name b.goes in
    let t : State = without_moved (given (moving x) [] (λ x. x ∷ [])) s in
    let keeps : KeepsForms c a.0.after = subst (KeepsForms c) b.leads (moving_keeps c before.after b.name k) in
    let fits : FitsContext p a.0.after t = subst (λ (y : Context). FitsContext p y t) b.leads
    (subst (λ (o : Option ℕ). FitsContext p (with_name_moved o before.after) t) m.is
    (moved_name p before.after s (moving x) z (λ y i. kept_object c before.after y k (m.object y i)))) in
    let r = filled_fits p c xs t a.0 after keeps fits a.2 in (
      r.0,
      subst (λ (y : State). FitsContext p after.after y) (sym (moved_first (moving x) (filter_map moving xs) s)) r.1,
    )

-- the form of a field with these groups in the place of the class's
abbrev with_groups : Class → List NameAt → Field → Form
with_groups k gs d = field_form k (bare_names gs) d

fillings_come : (p : Code) (c : Context) (s : State) (k : Class) (gs : List NameAt) (ds : List Field)
    (es : List Expression) (before after : Filled) → FieldsHaveMembers p → FitsContext p c s
    → length es ≡ length ds
    → in_turn (fills p c) (zip (map (with_groups k gs) ds) es) before ≡ Holds after
    → Comes (λ (vs : List Val). AreOfFields p ds (values vs)) (each_value p s es)
fillings_come p c s k gs [] [] before after m z n h = tt
fillings_come p c s k gs [] (e ∷ es) before after m z n h = absurd (omega (arith, n))
fillings_come p c s k gs (d ∷ ds) [] before after m z n h = absurd (omega (arith, n))
fillings_come p c s k gs (d ∷ ds) (e ∷ es) before after m z n h =
    let t : Form = with_groups k gs d in
    let a = first_holds (fills p c (t, e) before) (in_turn (fills p c) (zip (map (with_groups k gs) ds) es)) after h in
    let b : FilledWith p c (t, e) before a.0 = filled_one p c (t, e) before a.0 a.1 in
    then_comes (IsOfForm p t) (λ (vs : List Val). AreOfFields p (d ∷ ds) (values vs)) (value p s e) _
    (value_comes p t (value p s e) (what_goes_in_fits p c s t e b.name m z b.goes))
    (λ v i. then_comes (λ (vs : List Val). AreOfFields p ds (values vs))
    (λ (vs : List Val). AreOfFields p (d ∷ ds) (values vs)) (each_value p s es) _
    (fillings_come p c s k gs ds es a.0 after m z (omega arith) a.2)
    (λ vs j. (sym (same_value_fit p _ (form d.ty) v) ∙ i.0, i.1, j)))

as_many_values : (p : Code) (ds : List Field) (xs : Values) → AreOfFields p ds xs → length ds ≡ value_count xs
as_many_values p [] NoValue a = refl
as_many_values p [] (AndValue v xs) a = absurd a
as_many_values p (d ∷ ds) NoValue a = absurd a
as_many_values p (d ∷ ds) (AndValue v xs) a = ap suc (as_many_values p ds xs a.2) ∙ sym (add-one (value_count xs))

-- an object of a class with a value for each field
new_object : (p : Code) (x : ℕ) (gs : List ℕ) (k : Class) (xs : Values) → class_called p x ≡ Some k
    → AreOfFields p k.fields xs → IsOfForm p (unique_of (kind.Class x gs)) (Owned (Object x xs))
new_object p x gs k xs e a = (
  and_from (nat_eq x x) (given (class_called p x) false (λ (d : Class). nat_eq (length d.fields) (value_count xs)))
      (number_is_itself x)
      (ap (λ (o : Option Class). given o false (λ (d : Class). nat_eq (length d.fields) (value_count xs))) e
      ∙ ap (nat_eq (length k.fields)) (sym (as_many_values p k.fields xs a)) ∙ number_is_itself (length k.fields)),
  subst (λ (ds : List Field). AreOfFields p ds xs)
      (sym (ap (λ (o : Option Class). given o [] (λ (d : Class). d.fields)) e)) a,
)

new_right : (p : Code) (c d : Context) (s : State) (t : Form) (x : NameAt) (gs : List NameAt) (es : List Expression)
    (at : Spot) → FieldsHaveMembers p → FitsContext p c s → judge_right p c t (Made x gs es at) ≡ Holds d
    → RightFits p c d s t (Made x gs es at)
new_right p c d s t x gs es at m z h =
    let a = first_holds (judge_new p c x gs es) _ d h in
    let b = first_holds (made_into a.0.value t at) (λ _. Holds a.0.after) d a.2 in
    let y = first_holds (found (class_called p x.name) rule.UnknownClass x.at) _ a.0 a.1 in
    let k : Class = y.0 in
    let g = first_holds (groups_fit (known c.group) (length k.groups) x.at gs) _ a.0 y.2 in
    let n = first_holds (require (nat_eq (length es) (length k.fields)) rule.ArgumentCount x.at) _ a.0 g.2 in
    let first : Filled = record { roots = no_roots; after = c } in
    let xs : List Filling = zip (map (with_groups k gs) k.fields) es in
    let l = first_holds (in_turn (fills p c) xs first) _ a.0 n.2 in
    let is : class_called p x.name ≡ Some k = found_is (class_called p x.name) rule.UnknownClass x.at k y.1 in
    let new : MadeValue = record { value = unique_of (kind.Class x.name (bare_names gs)); after = l.0.after } in
    let made_so : new ≡ a.0 = same_made l.2 in
    let same : l.0.after ≡ d = ap (λ (v : MadeValue). v.after) made_so ∙ same_after b.2 in
    let goes : made_into new.value t at ≡ Holds b.0
    = ap (λ (v : MadeValue). made_into v.value t at) made_so ∙ b.1 in
    let r = filled_fits p c xs s first l.0 (keeps_itself c) z l.1 in
    let moved : right_moved p t (Made x gs es at) ≡ filter_map moving xs
    = ap (λ (o : Option Class). given o [] (fields_moved gs es)) is in
    subst (λ (y : Context). RightFits p c y s t (Made x gs es at)) same
    (record {
      keeps = r.0;
      comes = then_comes (λ (vs : List Val). AreOfFields p k.fields (values vs))
          (GoesRight p l.0.after t (right_moved p t (Made x gs es at))) (each_value p s es)
          (λ vs. Fine (Owned (Object x.name (values vs)), s))
          (fillings_come p c s k gs k.fields es first l.0 m z
          (eqb-true (length es) (length k.fields)
          (required (nat_eq (length es) (length k.fields)) rule.ArgumentCount x.at n.0 n.1)) l.1)
          (λ vs i. (
            made_fits p new.value t at b.0 (Owned (Object x.name (values vs))) goes
                (new_object p x.name (bare_names gs) k (values vs) is i),
            subst (λ (ys : List ℕ). FitsContext p l.0.after (without_moved ys s)) (sym moved) r.1,
          ));
    })
  where
    same_made : {u v : MadeValue} → Holds u ≡ Holds v → u ≡ v
    same_made e = cc e

    same_after : {u v : Context} → Holds u ≡ Holds v → u ≡ v
    same_after e = cc e

-- A judged right side that is no call comes to a value of the form that it goes into, and the state keeps fitting.
pub right_fits : WalksGoByOwners → (p : Code) (c d : Context) (s : State) (t : Form) (e : RightSide)
    → FieldsHaveMembers p → not (is_call e) ≡ true → TakesField e → FitsContext p c s → judge_right p c t e ≡ Holds d
    → RightFits p c d s t e
right_fits law p c d s t (Value e) m o n z h = value_right p c d s t e m z h
right_fits law p c d s t (Taken path at) m o n z h = take_right law p c d s t path at m n z h
right_fits law p c d s t (Zeros e at) m o n z h = zeros_right p c d s t e at m z h
right_fits law p c d s t (Made x gs es at) m o n z h = new_right p c d s t x gs es at m z h
right_fits law p c d s t (Returned i) m o n z h = absurd (cc o)
