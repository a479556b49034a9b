-- The state fits where a method begins that has values of its parameters' forms and the groups of its needs.
use Rattle.std.proofs.Common.{◌≡◌, refl, sym, ap, subst, ℕ, nat_eq, Bool, true, false, if◌then◌else◌}
use Rattle.std.proofs.Common.{List, [], ◌∷◌, map, zip, Option, None, Some}
use Rattle.std.specs.Prelude.{option_map}
use Rattle.std.specs.List.{list_all}
use Rattle.std.proofs.lemmas.Option.{same_Some}
use Rattle.ae_text.specs.declared.refusal.Spot.{Spot}
use Rattle.ae_tree.specs.declared.tree.Me.{Me}
use Rattle.ae_tree.specs.declared.tree.Param.{Param}
use Rattle.ae_tree.specs.declared.form.Perm.TheVariants as perm
use Rattle.ae_tree.specs.declared.form.Kind.{Kind}
use Rattle.ae_tree.specs.declared.form.Kind.TheVariants as kind
use Rattle.ae_tree.specs.declared.form.Form.{Form}
use Rattle.ae_tree.specs.declared.form.Form.TheVariants as f
use Rattle.ae_tree.specs.Form.{form}
use Rattle.ae_tree.specs.Names.{this}
use Rattle.ae_tree.specs.Plain.{Code, Definition}
use Rattle.ae_rules.specs.Forms.{kind_with, form_with}
use Rattle.ae_rules.specs.Context.{Local, held_of}
use Rattle.ae_rules.specs.Calls.{param_slot, me_form, me_slot, if_some, slots}
use Rattle.ae_rules.specs.Judges.{local_at_start, me_local, param_local, param_called, groups_at_start, start}
use Rattle.ae_semantics.specs.Values.{Val}
use Rattle.ae_semantics.specs.Places.{Bound, State}
use Rattle.ae_semantics.specs.Calls.{Argument, takers, taken}
use Rattle.ae_soundness.specs.Fits.{IsOfForm, SameButPermission, FitsHeld}
use Rattle.ae_soundness.specs.Fits.{form_has_members, FitsContext}
use Rattle.ae_soundness.specs.Laws.{AreOfSlots, ParamsHaveMembers}
use Rattle.ae_soundness.proofs.FieldLemmas.{form_members}
use Rattle.ae_soundness.proofs.LikeLemmas.{FitsGroups}
use Rattle.ae_soundness.proofs.LocalLemmas.{HasBound, is_bound}
use Rattle.ae_soundness.proofs.from_text.Basics.{first_of_both, second_of_both}

-- ---- a parameter

same_groups : (gs : List ℕ) → gs ≡ map (λ g. g) gs
same_groups [] = refl
same_groups (g ∷ gs) = ap (λ xs. g ∷ xs) (same_groups gs)

same_kind_with : (k : Kind) → k ≡ kind_with (λ g. g) k
same_kind_with kind.Ints = refl
same_kind_with (kind.Class c gs) = ap (kind.Class c) (same_groups gs)

own_but_permission : (t : Form) → SameButPermission t (form_with (λ g. g) t)
own_but_permission f.Int = tt
own_but_permission f.Bool = tt
own_but_permission (f.Object q k) = same_kind_with k

own_held : (t : Form) → FitsHeld (form_with (λ g. g) t) (held_of t)
own_held f.Int = λ g e. absurd (cc e)
own_held f.Bool = λ g e. absurd (cc e)
own_held (f.Object perm.Unique k) = λ g e. absurd (cc e)
own_held (f.Object perm.Immutable k) = λ g e. absurd (cc e)
own_held (f.Object perm.Lent k) = λ g e. absurd (cc e)
own_held (f.Object (perm.Shared g) k) = refl

-- what stands in a local where a method begins, and that no group of its form is `io`
abbrev IsBegun : Code → Local → Option Bound → Type 0
IsBegun p l o = HasBound p l o × (form_has_members l.form ≡ true)

begun : (p : Code) (t : Form) (away : Option Spot) (v : Val) → form_has_members t ≡ true
    → IsOfForm p (form_with (λ g. g) t) v
    → IsBegun p (local_at_start t away) (Some (record { form = form_with (λ g. g) t; value = v }))
begun p t away v m i = (
  (
    _,
    refl,
    record {
      form = own_but_permission t;
      held = own_held t;
      members = form_members (λ g. g) (λ g h. h) t m;
      value = i;
    },
  ),
  m,
)

-- ---- all parameters

params_begun : (p : Code) (ps : List Param) (xs : List Argument) (y : ℕ) (l : Local)
    → list_all (λ (z : Param). form_has_members (form z.ty)) ps ≡ true
    → AreOfSlots p (map (param_slot (λ g. g)) ps) xs → option_map param_local (param_called ps y) ≡ Some l
    → IsBegun p l (taken (zip (map (λ (z : Param). z.name.name) ps) (map (param_slot (λ g. g)) ps)) xs y)
params_begun p [] xs y l m h e = absurd (cc e)
params_begun p (z ∷ ps) [] y l m h e = absurd h
params_begun p (z ∷ ps) (x ∷ xs) y l m h e = by_test (params_begun p ps xs y l (second_of_both _ _ m) h.1)
    (nat_eq z.name.name y) e
  where
    rest : Option Bound
    rest = taken (zip (map (λ (z : Param). z.name.name) ps) (map (param_slot (λ g. g)) ps)) xs y

    by_test : (option_map param_local (param_called ps y) ≡ Some l → IsBegun p l rest) → (b : Bool)
        → option_map param_local (if b then Some z else param_called ps y) ≡ Some l
        → IsBegun p l (if b then Some (record { form = form_with (λ g. g) (form z.ty); value = x.value }) else rest)
    by_test later true i =
        let same : param_local z ≡ l = same_Some (param_local z) l i in
        subst (λ (a : Local). IsBegun p a (Some (record { form = form_with (λ g. g) (form z.ty); value = x.value })))
        same (begun p (form z.ty) z.away x.value (first_of_both _ _ m) h.0)
    by_test later false i = later i

-- the local of a method with this receiver and these parameters where it begins
abbrev first_local : Code → Definition → Option Me → List Param → ℕ → Option Local
first_local p m o ps y = if nat_eq this y then option_map (me_local p m) o else option_map param_local
    (param_called ps y)

-- what it has
abbrev first_bound : Code → Definition → Option Me → List Param → List Argument → ℕ → Option Bound
first_bound p m o ps xs y = taken
    (zip (if_some (option_map (λ (z : Me). this) o) (map (λ (z : Param). z.name.name) ps))
    (if_some (option_map (me_slot p (λ g. g) m) o) (map (param_slot (λ g. g)) ps))) xs y

locals_begun : (p : Code) (m : Definition) (o : Option Me) (ps : List Param) (xs : List Argument) (y : ℕ) (l : Local)
    → ParamsHaveMembers p m o ps
    → AreOfSlots p (if_some (option_map (me_slot p (λ g. g) m) o) (map (param_slot (λ g. g)) ps)) xs
    → first_local p m o ps y ≡ Some l → IsBegun p l (first_bound p m o ps xs y)
locals_begun p m None ps xs y l k h e = by_test (nat_eq this y) e
  where
    by_test : (b : Bool) → (if b then None else option_map param_local (param_called ps y)) ≡ Some l
        → IsBegun p l (first_bound p m None ps xs y)
    by_test true i = absurd (cc i)
    by_test false i = params_begun p ps xs y l k.1 h i
locals_begun p m (Some me) ps [] y l k h e = absurd h
locals_begun p m (Some me) ps (x ∷ xs) y l k h e = by_test (nat_eq this y) e
  where
    mine : Bound
    mine = record { form = form_with (λ g. g) (me_form p m me); value = x.value }

    by_test : (b : Bool)
        → (if b then Some (me_local p m me) else option_map param_local (param_called ps y)) ≡ Some l
        → IsBegun p l (if b then Some mine else first_bound p m None ps xs y)
    by_test true i = subst (λ (a : Local). IsBegun p a (Some mine)) (same_Some (me_local p m me) l i)
        (begun p (me_form p m me) me.away x.value (k.0 me refl) h.0)
    by_test false i = params_begun p ps xs y l k.1 h.1 i

-- Where a method begins with such values and groups the state fits.
pub method_begins : (p : Code) (m : Definition) (xs : List Argument) (s : State) → ParamsHaveMembers p m m.me m.params
    → AreOfSlots p (slots p (λ g. g) m) xs → ((y : ℕ) → s.locals y ≡ taken (takers p m) xs y)
    → FitsGroups p (groups_at_start p m) s
    → FitsContext p (start p m) s
method_begins p m xs s k h same groups = record {
  form = λ y l e. (locals_begun p m m.me m.params xs y l k h e).1;
  local = λ y l e v. is_bound p s y l
      (subst (λ (o : Option Bound). HasBound p l o) (sym (same y)) (locals_begun p m m.me m.params xs y l k h e).0);
  group = groups.group;
  name = groups.name;
  log = groups.log;
  log_known = refl;
  unknown = groups.unknown;
}
