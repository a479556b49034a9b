-- That the names of a method's parameters are those that are known where it begins.
use Rattle.std.proofs.Common.{◌≡◌, refl, sym, ap, ◌∙◌, ℕ, nat_eq, Bool, true, false, if◌then◌else◌}
use Rattle.std.proofs.Common.{List, [], ◌∷◌, ◌++◌, map, zip, Option, None, Some}
use Rattle.std.specs.Prelude.{option_map}
use Rattle.std.specs.List.{All}
use Rattle.std.proofs.lemmas.Bool.{eqb-true}
use Rattle.std.proofs.lemmas.List.{map-id}
use Rattle.std.proofs.lemmas.List.Elements.{All-head, All-tail}
use Rattle.ae_tree.specs.declared.tree.Me.{Me}
use Rattle.ae_tree.specs.declared.tree.Param.{Param}
use Rattle.ae_tree.specs.declared.form.Perm.{Perm}
use Rattle.ae_tree.specs.declared.form.Perm.TheVariants as perm
use Rattle.ae_tree.specs.declared.form.Kind.{Kind}
use Rattle.ae_tree.specs.declared.form.Kind.TheVariants as kind
use Rattle.ae_tree.specs.declared.form.Form.{Form}
use Rattle.ae_tree.specs.declared.form.Form.TheVariants as f
use Rattle.ae_tree.specs.Form.{form}
use Rattle.ae_tree.specs.Names.{this}
use Rattle.ae_tree.specs.Plain.{Definition, Code}
use Rattle.ae_tree.specs.FreeThis.{IsNotThis}
use Rattle.ae_rules.specs.Forms.{perm_with, kind_with, form_with}
use Rattle.ae_rules.specs.Context.{Local}
use Rattle.ae_rules.specs.Calls.{me_form, me_slot, param_slot, if_some}
use Rattle.ae_rules.specs.Judges.{me_local, param_local, param_called, start}
use Rattle.ae_rules.specs.Verdict.{given}
use Rattle.ae_semantics.specs.Calls.{Taker}
use Rattle.ae_values.specs.Shapes.{NameShape, OfLocal, shape_in}
use Rattle.ae_names.specs.Known.{local_form, is_of_group, form_in}
use Rattle.ae_starts.specs.Mains.{taker_shape, main_names}

-- ---- a form with each group in its own place

own_perm : (q : Perm) → perm_with (λ g. g) q ≡ q
own_perm perm.Unique = refl
own_perm perm.Immutable = refl
own_perm perm.Lent = refl
own_perm (perm.Shared g) = refl

own_kind_with : (k : Kind) → kind_with (λ g. g) k ≡ k
own_kind_with kind.Ints = refl
own_kind_with (kind.Class c gs) = ap (kind.Class c) (map-id gs)

-- a form with each group in its own place is the form
pub own_form_with : (t : Form) → form_with (λ g. g) t ≡ t
own_form_with f.Int = refl
own_form_with f.Bool = refl
own_form_with (f.Object q k) = ap (λ (r : Perm). f.Object r (kind_with (λ g. g) k)) (own_perm q)
    ∙ ap (f.Object q) (own_kind_with k)

-- ---- locals

-- the parameters as names
abbrev pub shaped : List Taker → List (ℕ × NameShape)
shaped ts = map taker_shape ts

-- the form of a local
abbrev form_of : Option Local → Option Form
form_of o = option_map (λ (l : Local). l.form) o

-- declared parameters with their slots
abbrev params_taken : List Param → List Taker
params_taken ps = zip (map (λ (x : Param). x.name.name) ps) (map (param_slot (λ g. g)) ps)

params_known : (ps : List Param) (rest : List (ℕ × NameShape)) (y : ℕ) → form_in rest y ≡ None
    → form_in (shaped (params_taken ps) ++ rest) y ≡ form_of (option_map param_local (param_called ps y))
params_known [] rest y e = e
params_known (x ∷ ps) rest y e = by_test (nat_eq x.name.name y) (params_known ps rest y e)
  where
    by_test : (t : Bool)
        → form_in (shaped (params_taken ps) ++ rest) y ≡ form_of (option_map param_local (param_called ps y))
        → given (if t then Some (OfLocal (form_with (λ g. g) (form x.ty))) else
        shape_in (shaped (params_taken ps) ++ rest) y) None local_form
        ≡ form_of (option_map param_local (if t then Some x else param_called ps y))
    by_test true later = ap Some (own_form_with (form x.ty))
    by_test false later = later

-- no parameter is called `this`
this_is_free : (ps : List Param) (y : ℕ) → All (λ (x : Param). IsNotThis x.name) ps → nat_eq this y ≡ true
    → param_called ps y ≡ None
this_is_free [] y a e = refl
this_is_free (x ∷ ps) y a e = by_test (nat_eq x.name.name y) refl
    (this_is_free ps y (All-tail (λ (z : Param). IsNotThis z.name) x ps a) e)
  where
    by_test : (t : Bool) → nat_eq x.name.name y ≡ t → param_called ps y ≡ None
        → (if t then Some x else param_called ps y) ≡ None
    by_test true q later = absurd (All-head (λ (z : Param). IsNotThis z.name) x ps a
        (eqb-true x.name.name y q ∙ sym (eqb-true this y e)))
    by_test false q later = later

-- the receiver, where there is one, and the parameters, each with its slot
abbrev all_taken : Code → Definition → Option Me → List Param → List Taker
all_taken p m o ps = zip (if_some (option_map (λ (x : Me). this) o) (map (λ (x : Param). x.name.name) ps))
    (if_some (option_map (me_slot p (λ g. g) m) o) (map (param_slot (λ g. g)) ps))

with_receiver : (p : Code) (m : Definition) (o : Option Me) (ps : List Param) (rest : List (ℕ × NameShape)) (y : ℕ)
    → All (λ (x : Param). IsNotThis x.name) ps → form_in rest y ≡ None
    → form_in (shaped (all_taken p m o ps) ++ rest) y
    ≡ form_of (if nat_eq this y then option_map (me_local p m) o else option_map param_local (param_called ps y))
with_receiver p m None ps rest y a e = by_test (nat_eq this y) refl (params_known ps rest y e)
  where
    by_test : (t : Bool) → nat_eq this y ≡ t
        → form_in (shaped (params_taken ps) ++ rest) y ≡ form_of (option_map param_local (param_called ps y))
        → form_in (shaped (params_taken ps) ++ rest) y
        ≡ form_of (if t then None else option_map param_local (param_called ps y))
    by_test true q known = known ∙ ap (λ (o : Option Param). form_of (option_map param_local o)) (this_is_free ps y a q)
    by_test false q known = known
with_receiver p m (Some me) ps rest y a e = by_test (nat_eq this y) (params_known ps rest y e)
  where
    by_test : (t : Bool)
        → form_in (shaped (params_taken ps) ++ rest) y ≡ form_of (option_map param_local (param_called ps y))
        → given (if t then Some (OfLocal (form_with (λ g. g) (me_form p m me))) else
        shape_in (shaped (params_taken ps) ++ rest) y) None local_form
        ≡ form_of (if t then Some (me_local p m me) else option_map param_local (param_called ps y))
    by_test true known = ap Some (own_form_with (me_form p m me))
    by_test false known = known

-- of the parameters and of names that are of no locals those of locals are the ones that are known at the start
pub taken_are_known : (p : Code) (m : Definition) (rest : List (ℕ × NameShape)) (y : ℕ)
    → All (λ (x : Param). IsNotThis x.name) m.params → form_in rest y ≡ None
    → form_in (main_names p m ++ rest) y ≡ option_map (λ (l : Local). l.form) ((start p m).local y)
taken_are_known p m rest y a e = with_receiver p m m.me m.params rest y a e

-- ---- groups

-- a group among parameters and other names is one of these
pub taken_are_locals : (ts : List Taker) (rest : List (ℕ × NameShape)) (y : ℕ)
    → is_of_group (shape_in (shaped ts ++ rest) y) ≡ true → is_of_group (shape_in rest y) ≡ true
taken_are_locals [] rest y e = e
taken_are_locals (t ∷ ts) rest y e = by_test (nat_eq t.0 y) (taken_are_locals ts rest y) e
  where
    by_test : (b : Bool) → (is_of_group (shape_in (shaped ts ++ rest) y) ≡ true → is_of_group (shape_in rest y) ≡ true)
        → is_of_group (if b then Some (OfLocal t.1.form) else shape_in (shaped ts ++ rest) y) ≡ true
        → is_of_group (shape_in rest y) ≡ true
    by_test true later i = absurd (cc i)
    by_test false later i = later i
