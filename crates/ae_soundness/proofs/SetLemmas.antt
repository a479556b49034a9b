-- A state keeps fitting where a local gets the value of a right side.
use Rattle.std.proofs.Common.{◌≡◌, refl, sym, ap, ◌∙◌, subst, ℕ, true, false, not}
use Rattle.std.proofs.Common.{Option, Some}
use Rattle.ae_text.specs.declared.refusal.Spot.{Spot}
use Rattle.ae_text.specs.declared.refusal.Rule.TheVariants as rule
use Rattle.ae_tree.specs.declared.tree.NameAt.{NameAt}
use Rattle.ae_tree.specs.declared.tree.Ty.{Ty}
use Rattle.ae_tree.specs.declared.form.Perm.{Perm}
use Rattle.ae_tree.specs.declared.form.Perm.TheVariants as perm
use Rattle.ae_tree.specs.declared.form.Form.{Form}
use Rattle.ae_tree.specs.declared.form.Form.TheVariants as f
use Rattle.ae_tree.specs.Form.{form}
use Rattle.ae_tree.specs.Plain.{Code}
use Rattle.ae_tree.specs.Plain.{RightSide, Value, Taken, Zeros, Made, Returned}
use Rattle.ae_tree.specs.WellShaped.{TakesField}
use Rattle.ae_rules.specs.Verdict.{Holds, require, found}
use Rattle.ae_rules.specs.Types.{forms_type}
use Rattle.ae_rules.specs.Groups.{known}
use Rattle.ae_rules.specs.Context.{Local, Context, held_by, held_of, is_visible, with_local, with_held}
use Rattle.ae_rules.specs.Statements.{judge_right, judge_let, judge_assign}
use Rattle.ae_rules.specs.Laws.{WalksGoByOwners}
use Rattle.ae_semantics.specs.Values.{Val}
use Rattle.ae_semantics.specs.Places.{Outcome, Fine, there, State, with_bound}
use Rattle.ae_semantics.specs.Places.{bind}
use Rattle.ae_semantics.specs.Observations.{Notes}
use Rattle.ae_semantics.specs.Runs.{Went, Where, Machine, Below, outcome_given}
use Rattle.ae_semantics.specs.Calls.{without_moved}
use Rattle.ae_semantics.specs.Meaning.{made, right_moved, assigned, sets}
use Rattle.ae_semantics.specs.Meaning.{does}
use Rattle.ae_soundness.specs.Fits.{IsOfForm, FitsHeld, FitsPermission, FitsPlace, FitsContext}
use Rattle.ae_soundness.specs.Fits.{form_has_members, FieldsHaveMembers, place_held}
use Rattle.ae_rules.specs.Paths.{is_call}
use Rattle.ae_soundness.specs.Laws.{KeepsFitting}
use Rattle.ae_soundness.proofs.FieldLemmas.{same_but_nothing}
use Rattle.ae_soundness.proofs.GroupLemmas.{type_has_members}
use Rattle.ae_soundness.proofs.LocalLemmas.{declared, held_changed, local_declared}
use Rattle.ae_soundness.proofs.OutcomeLemmas.{Comes, then_runs}
use Rattle.ae_soundness.proofs.WriteLemmas.{low_then}
use Rattle.ae_soundness.proofs.RightLemmas.{GoesRight, RightFits}
use Rattle.ae_soundness.proofs.MoveLemmas.{KeepsForms}
use Rattle.ae_soundness.proofs.RightLemmas.{right_fits}
use Rattle.ae_soundness.proofs.from_rules.PathLemmas.{first_holds}
use Rattle.ae_soundness.proofs.from_rules.SeenLemmas.{found_is}
use Rattle.ae_soundness.proofs.from_text.Basics.{option_holds_one}

-- ---- what changes the state alone

-- Where a state that fits comes, the run goes on with it.
pub does_fit : {W : Type 0} (p : Code) (d : Context) (at : Spot) (n : Notes W) (o : Outcome State)
    → Comes (FitsContext p d) o → KeepsFitting p d (does at n o)
does_fit p d at n o h = then_runs (FitsContext p d) p d o at n (λ s. Went s n) h (λ s z. z)

-- What is judged to be known is one context.
pub same_context : (c d : Context) → Holds c ≡ Holds d → c ≡ d
same_context c d e = cc e

-- ---- a local gets a value

perm_held : (q : Perm) → FitsPermission q (held_by q)
perm_held perm.Unique = λ g e. absurd (cc e)
perm_held perm.Immutable = λ g e. absurd (cc e)
perm_held perm.Lent = λ g e. absurd (cc e)
perm_held (perm.Shared g) = refl

form_held : (t : Form) → FitsHeld t (held_of t)
form_held f.Int = λ g e. absurd (cc e)
form_held f.Bool = λ g e. absurd (cc e)
form_held (f.Object q k) = perm_held q

-- A value of a form fits a local that holds the form's permission.
pub own_place : (p : Code) (t : Form) (v : Val) → form_has_members t ≡ true → IsOfForm p t v
    → FitsPlace p (place_held (declared t)) t v
own_place p t v m i = record { form = same_but_nothing t; held = form_held t; members = m; value = i }

-- a local gets the value
abbrev pub gets : ℕ → Form → Val → State → State
gets x t v s = with_bound x (Some (record { form = t; value = v })) s

-- A local that fits with the value gets it.
pub assigned_fits : {W : Type 0} (p : Code) (d : Context) (at : Spot) (x : ℕ) (t : Form) (v : Val) (s : State)
    (n : Notes W) → FitsContext p d (gets x t v s) → KeepsFitting p d (assigned at x t v s n)
assigned_fits p d at x t v s n z = does_fit p d at n (bind x t v s)
    (low_then (FitsContext p d) v (λ w. Fine (gets x t w s)) z)

-- where a right side fits, and the local with its value does then
abbrev pub SetsFit : Code → Context → Context → ℕ → Form → Type 0
SetsFit p d u x t = (v : Val) (s : State) → IsOfForm p t v → FitsContext p d s → FitsContext p u (gets x t v s)

made_set : {W : Type 0} (p : Code) (c d u : Context) (at : Spot) (x : ℕ) (t : Form) (e : RightSide) (s : State)
    (n : Notes W) → RightFits p c d s t e → SetsFit p d u x t
    → KeepsFitting p u (outcome_given (made p e s) at n
    (λ r. assigned at x t r.0 (without_moved (right_moved p t e) r.1) n))
made_set p c d u at x t e s n r k = then_runs (GoesRight p d t (right_moved p t e)) p u (made p e s) at n
    (λ r. assigned at x t r.0 (without_moved (right_moved p t e) r.1) n) r.comes
    (λ y i. assigned_fits p u at x t y.0 (without_moved (right_moved p t e) y.1) n (k y.0 _ i.0 i.1))

set_fits : {W : Type 0} (m : Machine W) (below : Option (Below W)) (here : Where) (c d u : Context) (at : Spot) (x : ℕ)
    (t : Form) (e : RightSide) (s : State) (n : Notes W) → not (is_call e) ≡ true → RightFits m.code c d s t e
    → SetsFit m.code d u x t → KeepsFitting m.code u (sets m below here at x t e s n)
set_fits m below here c d u at x t (Value e) s n o r k = made_set m.code c d u at x t (Value e) s n r k
set_fits m below here c d u at x t (Taken path y) s n o r k = made_set m.code c d u at x t (Taken path y) s n r k
set_fits m below here c d u at x t (Zeros e y) s n o r k = made_set m.code c d u at x t (Zeros e y) s n r k
set_fits m below here c d u at x t (Made y gs es z) s n o r k = made_set m.code c d u at x t (Made y gs es z) s n r k
set_fits m below here c d u at x t (Returned i) s n o r k = absurd (cc o)

-- A judged `let` keeps fitting.
pub declares_fit : {W : Type 0} (law : WalksGoByOwners) (m : Machine W) (below : Option (Below W)) (here : Where)
    (c d : Context) (at : Spot) (ty : Ty) (x : NameAt) (e : RightSide) (s : State) (n : Notes W)
    → FieldsHaveMembers m.code → not (is_call e) ≡ true → TakesField e → FitsContext m.code c s
    → judge_let m.code c ty x e ≡ Holds d → KeepsFitting m.code d (sets m below here at x.name (form ty) e s n)
declares_fit law m below here c d at ty x e s n w o k z h =
    let p : Code = m.code in
    let t : Form = form ty in
    let a = first_holds (forms_type p (known c.group) false ty) _ d h in
    let b = first_holds (require (not (is_visible c x.name)) rule.DuplicateLocal x.at) _ d a.2 in
    let r = first_holds (judge_right p c t e) (λ y. Holds (with_local x.name t y)) d b.2 in
    let has : form_has_members t ≡ true = type_has_members p (known c.group) false ty a.0 a.1 in
    subst (λ (y : Context). KeepsFitting p y (sets m below here at x.name t e s n))
    (same_context (with_local x.name t r.0) d r.2)
    (set_fits m below here c r.0 (with_local x.name t r.0) at x.name t e s n o
    (right_fits law p c r.0 s t e w o k z r.1)
    (λ v y i j. local_declared p r.0 y x.name t (record { form = t; value = v }) j (own_place p t v has i) has))

-- A local that is there gets a value of its form.
pub assigns_so : (p : Code) (c d : Context) (x : ℕ) (l : Local) → c.local x ≡ Some l → form_has_members l.form ≡ true
    → KeepsForms c d → SetsFit p d (with_held x (held_of l.form) d) x l.form
assigns_so p c d x l e m k v s i z = held_changed p d s x (held_of l.form)
    (Some (record { form = l.form; value = v })) z
    (λ y h w.
    let r = k x y h in
    let same : l ≡ r.0 = option_holds_one (c.local x) l r.0 e r.1 in
    let form : l.form ≡ y.form = ap (λ (a : Local). a.form) same ∙ r.2 in (
      _,
      refl,
      subst (λ (t : Form). FitsPlace p (record { form = t; held = held_of l.form }) l.form v) form
          (own_place p l.form v m i),
    ))

-- A judged assignment keeps fitting.
pub assigns_fit : {W : Type 0} (law : WalksGoByOwners) (m : Machine W) (below : Option (Below W)) (here : Where)
    (d : Context) (at : Spot) (x : NameAt) (e : RightSide) (s : State) (n : Notes W)
    → FieldsHaveMembers m.code → not (is_call e) ≡ true → TakesField e → FitsContext m.code here.context s
    → judge_assign m.code here.context x e ≡ Holds d
    → KeepsFitting m.code d (outcome_given (there (here.context.local x.name)) at n
    (λ (l : Local). sets m below here at x.name l.form e s n))
assigns_fit law m below here d at x e s n w o k z h =
    let p : Code = m.code in
    let c : Context = here.context in
    let a = first_holds (found (c.local x.name) rule.UnknownName x.at) _ d h in
    let l : Local = a.0 in
    let is : c.local x.name ≡ Some l = found_is (c.local x.name) rule.UnknownName x.at l a.1 in
    let b = first_holds (require (not l.stays) rule.ParameterMoved x.at) _ d a.2 in
    let r = first_holds (judge_right p c l.form e) (λ y. Holds (with_held x.name (held_of l.form) y)) d b.2 in
    let fits : RightFits p c r.0 s l.form e = right_fits law p c r.0 s l.form e w o k z r.1 in
    subst (λ (y : Context). KeepsFitting p y (outcome_given (there (c.local x.name)) at n
    (λ (l : Local). sets m below here at x.name l.form e s n)))
    (same_context (with_held x.name (held_of l.form) r.0) d r.2)
    (subst (λ (y : Option Local). KeepsFitting p (with_held x.name (held_of l.form) r.0)
    (outcome_given (there y) at n (λ (l : Local). sets m below here at x.name l.form e s n))) (sym is)
    (set_fits m below here c r.0 (with_held x.name (held_of l.form) r.0) at x.name l.form e s n o fits
    (assigns_so p c r.0 x.name l is (z.form x.name l is) fits.keeps)))
