-- A state keeps fitting where a local gets another value and what is known of it changes with it.
use Rattle.std.proofs.Common.{◌≡◌, refl, sym, subst, ℕ, nat_eq, Bool, true, false, if◌then◌else◌, [], ◌∷◌}
use Rattle.std.proofs.Common.{Option, None, Some}
use Rattle.std.specs.Prelude.{option_map}
use Rattle.std.proofs.lemmas.Bool.{eqb-true}
use Rattle.std.proofs.lemmas.Option.{same_Some}
use Rattle.ae_tree.specs.declared.form.Form.{Form}
use Rattle.ae_tree.specs.declared.form.Form.TheVariants as f
use Rattle.ae_tree.specs.Plain.{Code}
use Rattle.ae_rules.specs.declared.held.Held.{Held}
use Rattle.ae_rules.specs.declared.held.Held.TheVariants as held
use Rattle.ae_rules.specs.Verdict.{given}
use Rattle.ae_rules.specs.Forms.{is_object}
use Rattle.ae_rules.specs.Context.{Local, Context, held_of, with_local, with_held, with_name_moved}
use Rattle.ae_semantics.specs.Places.{Bound, State, with_bound}
use Rattle.ae_semantics.specs.Calls.{without_moved}
use Rattle.ae_soundness.specs.Fits.{FitsPlace, FitsLocal, FitsContext, form_has_members, place_held}
use Rattle.ae_soundness.specs.Fits.{has_value}
use Rattle.ae_soundness.proofs.from_rules.PathLemmas.{mapped}

-- what stands in a local fits what is known of it
abbrev pub HasBound : Code → Local → Option Bound → Type 0
HasBound p l o = (b : Bound) × (o ≡ Some b) × FitsPlace p (place_held l) b.form b.value

pub is_bound : (p : Code) (s : State) (y : ℕ) (l : Local) → HasBound p l (s.locals y) → FitsLocal p s y (place_held l)
is_bound p s y l r = record { bound = r.0; is = r.1; fits = r.2 }

bound_is : (p : Code) (s : State) (y : ℕ) (l : Local) → FitsLocal p s y (place_held l) → HasBound p l (s.locals y)
bound_is p s y l r = (r.bound, r.is, r.fits)

-- ---- another thing is held

-- the local, of which this is held
abbrev pub holding : Held → Local → Local
holding h l = record l { held = h }

-- the local that is changed has a value that fits what is known of it then, if it has one
abbrev pub FitsThen : Code → Context → ℕ → Held → Option Bound → Type 0
FitsThen p c x h o = (l : Local) → c.local x ≡ Some l → has_value (place_held (holding h l)) ≡ true
    → HasBound p (holding h l) o

held_bound : (p : Code) (c : Context) (s : State) (x y : ℕ) (h : Held) (o : Option Bound) → FitsContext p c s
    → FitsThen p c x h o → (b : Bool) → nat_eq x y ≡ b → (l : Local)
    → (if b then option_map (holding h) (c.local y) else c.local y) ≡ Some l → has_value (place_held l) ≡ true
    → HasBound p l (if b then o else s.locals y)
held_bound p c s x y h o z k true d l e v =
    let m = mapped (holding h) (c.local y) l e in
    let same : x ≡ y = eqb-true x y d in
    subst (λ (a : Local). HasBound p a o) m.2
    (k m.0 (subst (λ (a : ℕ). c.local a ≡ Some m.0) (sym same) m.1)
    (subst (λ (a : Local). has_value (place_held a) ≡ true) (sym m.2) v))
held_bound p c s x y h o z k false d l e v = bound_is p s y l (z.local y l e v)

held_form : (p : Code) (c : Context) (s : State) (y : ℕ) (h : Held) → FitsContext p c s → (b : Bool) (l : Local)
    → (if b then option_map (holding h) (c.local y) else c.local y) ≡ Some l → form_has_members l.form ≡ true
held_form p c s y h z true l e =
    let m = mapped (holding h) (c.local y) l e in
    subst (λ (a : Local). form_has_members a.form ≡ true) m.2 (z.form y m.0 m.1)
held_form p c s y h z false l e = z.form y l e

-- A local has another value, of which another thing is held.
pub held_changed : (p : Code) (c : Context) (s : State) (x : ℕ) (h : Held) (o : Option Bound) → FitsContext p c s
    → FitsThen p c x h o → FitsContext p (with_held x h c) (with_bound x o s)
held_changed p c s x h o z k = record {
  form = λ y l e. held_form p c s y h z (nat_eq x y) l e;
  local = λ y l e v. is_bound p (with_bound x o s) y l (held_bound p c s x y h o z k (nat_eq x y) refl l e v);
  group = z.group;
  name = z.name;
  log = z.log;
  log_known = z.log_known;
  unknown = z.unknown;
}

-- ---- another value is there

changed_bound : (p : Code) (c : Context) (s : State) (x y : ℕ) (o : Option Bound) → FitsContext p c s
    → ((l : Local) → c.local x ≡ Some l → has_value (place_held l) ≡ true → HasBound p l o) → (b : Bool)
    → nat_eq x y ≡ b → (l : Local) → c.local y ≡ Some l → has_value (place_held l) ≡ true
    → HasBound p l (if b then o else s.locals y)
changed_bound p c s x y o z k true d l e v =
    k l (subst (λ (a : ℕ). c.local a ≡ Some l) (sym (eqb-true x y d)) e) v
changed_bound p c s x y o z k false d l e v = bound_is p s y l (z.local y l e v)

-- A local has another value, and what is known of it stays.
pub bound_changed : (p : Code) (c : Context) (s : State) (x : ℕ) (o : Option Bound) → FitsContext p c s
    → ((l : Local) → c.local x ≡ Some l → has_value (place_held l) ≡ true → HasBound p l o)
    → FitsContext p c (with_bound x o s)
bound_changed p c s x o z k = record {
  form = z.form;
  local = λ y l e v. is_bound p (with_bound x o s) y l (changed_bound p c s x y o z k (nat_eq x y) refl l e v);
  group = z.group;
  name = z.name;
  log = z.log;
  log_known = z.log_known;
  unknown = z.unknown;
}

-- ---- a local is declared

-- the local that a declaration makes
abbrev pub declared : Form → Local
declared t = record { form = t; held = held_of t; stays = false }

declared_bound : (p : Code) (c : Context) (s : State) (y : ℕ) (t : Form) (b : Bound) → FitsContext p c s
    → FitsPlace p (place_held (declared t)) b.form b.value → (d : Bool) (l : Local)
    → (if d then Some (declared t) else c.local y) ≡ Some l → has_value (place_held l) ≡ true
    → HasBound p l (if d then Some b else s.locals y)
declared_bound p c s y t b z k true l e v =
    subst (λ (a : Local). HasBound p a (Some b)) (same_Some (declared t) l e) (b, refl, k)
declared_bound p c s y t b z k false l e v = bound_is p s y l (z.local y l e v)

declared_form : (p : Code) (c : Context) (s : State) (y : ℕ) (t : Form) → FitsContext p c s
    → form_has_members t ≡ true → (d : Bool) (l : Local) → (if d then Some (declared t) else c.local y) ≡ Some l
    → form_has_members l.form ≡ true
declared_form p c s y t z m true l e =
    subst (λ (a : Local). form_has_members a.form ≡ true) (same_Some (declared t) l e) m
declared_form p c s y t z m false l e = z.form y l e

-- A local is declared with a value that fits.
pub local_declared : (p : Code) (c : Context) (s : State) (x : ℕ) (t : Form) (b : Bound) → FitsContext p c s
    → FitsPlace p (place_held (declared t)) b.form b.value → form_has_members t ≡ true
    → FitsContext p (with_local x t c) (with_bound x (Some b) s)
local_declared p c s x t b z k m = record {
  form = λ y l e. declared_form p c s y t z m (nat_eq x y) l e;
  local = λ y l e v. is_bound p (with_bound x (Some b) s) y l (declared_bound p c s y t b z k (nat_eq x y) l e v);
  group = z.group;
  name = z.name;
  log = z.log;
  log_known = z.log_known;
  unknown = z.unknown;
}

-- ---- a name moves

-- a local with this name is an object
abbrev pub IsObjectThere : Context → ℕ → Type 0
IsObjectThere c x = (l : Local) → c.local x ≡ Some l → is_object l.form ≡ true

-- An object of which nothing is held has no value.
pub no_value : (t : Form) → is_object t ≡ true → has_value (record { form = t; held = held.None }) ≡ true → ⊥
no_value f.Int e v = absurd (cc e)
no_value f.Bool e v = absurd (cc e)
no_value (f.Object q k) e v = absurd (cc v)

-- A name that moves has no value then, and nothing is held of it.
pub moved_name : (p : Code) (c : Context) (s : State) (name : Option ℕ) → FitsContext p c s
    → ((x : ℕ) → name ≡ Some x → IsObjectThere c x)
    → FitsContext p (with_name_moved name c) (without_moved (given name [] (λ x. x ∷ [])) s)
moved_name p c s None z k = z
moved_name p c s (Some x) z k = held_changed p c s x held.None None z
    (λ l e v. absurd (no_value l.form (k x refl l e) v))
