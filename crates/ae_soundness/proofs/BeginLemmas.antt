-- Where a program begins, the state fits.
use Rattle.std.proofs.Common.{◌≡◌, refl, sym, ap, ◌∙◌, subst, ℕ, ℤ, nat_eq, Bool, true, false, ◌&&◌}
use Rattle.std.proofs.Common.{if◌then◌else◌, List, [], ◌∷◌, map, Option, None, Some}
use Rattle.std.specs.Prelude.{is_some, is_none, option_map, zip}
use Rattle.std.proofs.lemmas.Bool.{and_parts, eqb-true}
use Rattle.std.proofs.lemmas.Option.{same_Some}
use Rattle.ae_text.specs.Tokens.{first_spot}
use Rattle.ae_text.specs.declared.refusal.Rule.TheVariants as rule
use Rattle.ae_tree.specs.declared.tree.Me.{Me}
use Rattle.ae_tree.specs.declared.tree.Param.{Param}
use Rattle.ae_tree.specs.declared.tree.GroupNeed.{GroupNeed}
use Rattle.ae_tree.specs.declared.form.Perm.TheVariants as perm
use Rattle.ae_tree.specs.declared.form.Kind.TheVariants as kind
use Rattle.ae_tree.specs.declared.form.Form.{Form}
use Rattle.ae_tree.specs.declared.form.Form.TheVariants as f
use Rattle.ae_tree.specs.Form.{form}
use Rattle.ae_tree.specs.Names.{io, main, this}
use Rattle.ae_tree.specs.Plain.{Definition, Code}
use Rattle.ae_rules.specs.declared.held.GroupPerm.{GroupPerm}
use Rattle.ae_rules.specs.declared.held.GroupPerm.TheVariants as group
use Rattle.ae_rules.specs.Verdict.{found, each, given}
use Rattle.ae_rules.specs.Forms.{is_unique, is_ints, form_with}
use Rattle.ae_rules.specs.Lookups.{is_empty, method_at, top_number, top_called}
use Rattle.ae_rules.specs.Groups.{same_group_perm}
use Rattle.ae_rules.specs.Context.{Local}
use Rattle.ae_rules.specs.Calls.{Callee, callee_at, top_callee, if_some, me_slot, param_slot}
use Rattle.ae_rules.specs.Judges.{me_local, param_local, param_called, permission_needed, need_for, knows, start}
use Rattle.ae_rules.specs.Table.{tops_differ, members_differ, decl_holds, has_main, is_main}
use Rattle.ae_rules.specs.Table.{is_exclusive, are_main_params, are_main_needs}
use Rattle.ae_semantics.specs.Values.{Owned, Array}
use Rattle.ae_semantics.specs.Places.{Bound}
use Rattle.ae_semantics.specs.Calls.{taken}
use Rattle.ae_semantics.specs.Means.{Start, main_state, start_at}
use Rattle.ae_soundness.specs.Fits.{FitsPlace, FitsContext, has_members, form_has_members, place_held}
use Rattle.ae_soundness.specs.Laws.{BeginningsFit}
use Rattle.ae_soundness.proofs.FieldLemmas.{given_some}
use Rattle.ae_soundness.proofs.LocalLemmas.{HasBound, is_bound}
use Rattle.ae_soundness.proofs.from_rules.PathLemmas.{first_holds}
use Rattle.ae_soundness.proofs.from_rules.SeenLemmas.{found_is, required}
use Rattle.ae_soundness.proofs.from_rules.ShapeLemmas.{callee_receiver}

-- ---- groups

-- what `main` knows of a group, by its needs
abbrev main_group : Bool → List GroupNeed → ℕ → Option GroupPerm
main_group b ns g = if b then Some
    (given (need_for ns g) group.None (λ (n : GroupNeed). permission_needed n.need)) else None

named_io : (a g : ℕ) → nat_eq io a ≡ true → nat_eq a g ≡ true → has_members g ≡ true → ⊥
named_io a g e d h =
    let same : a ≡ g = eqb-true a g d in
    let named : nat_eq io g ≡ true = ap (nat_eq io) (sym same) ∙ e in cc (named, h)

asked_named : (n : GroupNeed) (d : Bool) (q : GroupPerm)
    → given (if d then Some n else None) group.None (λ (k : GroupNeed). permission_needed k.need) ≡ q
    → same_group_perm group.None q ≡ false → d ≡ true
asked_named n true q e a = refl
asked_named n false q e a = absurd (cc (ap (same_group_perm group.None) e, a))

-- `main` needs no group but `io`
none_needed : (ns : List GroupNeed) → are_main_needs ns ≡ true → (g : ℕ) (q : GroupPerm) → has_members g ≡ true
    → (b : Bool) → main_group b ns g ≡ Some q → same_group_perm group.None q ≡ false → ⊥
none_needed ns a g q h false e m = cc e
none_needed [] a g q h true e m = cc (ap (same_group_perm group.None) (same_Some group.None q e), m)
none_needed (n ∷ []) a g q h true e m = named_io n.group.name g
    (and_parts (is_exclusive n.need) (nat_eq io n.group.name) a).1
    (asked_named n (nat_eq n.group.name g) q (same_Some _ q e) m) h
none_needed (n ∷ k ∷ ns) a g q h true e m = absurd (cc a)

-- ---- locals

-- the local of `main` with this name
abbrev main_local : Code → Definition → Option Me → List Param → ℕ → Option Local
main_local p m o xs y = if nat_eq this y then option_map (me_local p m) o else option_map param_local
    (param_called xs y)

-- what it has when `main` begins
abbrev main_bound : Code → Definition → List ℤ → Option Me → List Param → ℕ → Option Bound
main_bound p m ints o xs y = taken
    (zip (if_some (option_map (λ (z : Me). this) o) (map (λ (z : Param). z.name.name) xs))
    (if_some (option_map (me_slot p (λ g. g) m) o) (map (param_slot (λ g. g)) xs)))
    (record { value = Owned (Array ints); from = None } ∷ []) y

-- there is something that fits, and no group of the local is `io`
abbrev IsBoundFirst : Code → Local → Option Bound → Type 0
IsBoundFirst p l o = HasBound p l o × (form_has_members l.form ≡ true)

ints_form : (t : Form) → is_unique t ≡ true → is_ints t ≡ true → t ≡ f.Object perm.Unique kind.Ints
ints_form f.Int u i = absurd (cc)
ints_form f.Bool u i = absurd (cc)
ints_form (f.Object perm.Unique kind.Ints) u i = refl
ints_form (f.Object perm.Unique (kind.Class c gs)) u i = absurd (cc i)
ints_form (f.Object perm.Immutable k) u i = absurd (cc u)
ints_form (f.Object perm.Lent k) u i = absurd (cc u)
ints_form (f.Object (perm.Shared g) k) u i = absurd (cc u)

args_fit : (p : Code) (ints : List ℤ) (z : Param) → form z.ty ≡ f.Object perm.Unique kind.Ints
    → FitsPlace p (place_held (param_local z)) (form_with (λ g. g) (form z.ty)) (Owned (Array ints))
args_fit p ints z e = rw e (record { form = refl; held = λ g d. absurd (cc); members = refl; value = (refl, tt) })

args_have_members : (z : Param) → form z.ty ≡ f.Object perm.Unique kind.Ints
    → form_has_members (param_local z).form ≡ true
args_have_members z e = rw e refl

named_bound : (p : Code) (ints : List ℤ) (z : Param) → form z.ty ≡ f.Object perm.Unique kind.Ints
    → (d : Bool) (l : Local)
    → option_map param_local (if d then Some z else None) ≡ Some l
    → IsBoundFirst p l (if d then Some (record { form = form_with (λ g. g) (form z.ty); value = Owned (Array ints) })
    else None)
named_bound p ints z e true l h =
    let same : param_local z ≡ l = same_Some (param_local z) l h in (
      (
        _,
        refl,
        subst (λ (k : Local). FitsPlace p (place_held k) (form_with (λ g. g) (form z.ty)) (Owned (Array ints))) same
            (args_fit p ints z e),
      ),
      subst (λ (k : Local). form_has_members k.form ≡ true) same (args_have_members z e),
    )
named_bound p ints z e false l h = absurd (cc)

not_this : (b : Bool) (o : Option Local) (l : Local) → (if b then None else o) ≡ Some l → o ≡ Some l
not_this true o l e = absurd (cc)
not_this false o l e = e

main_fits : (p : Code) (m : Definition) (ints : List ℤ) (xs : List Param) → are_main_params xs ≡ true
    → (y : ℕ) (l : Local)
    → main_local p m None xs y ≡ Some l → IsBoundFirst p l (main_bound p m ints None xs y)
main_fits p m ints [] a y l e = absurd (cc (not_this (nat_eq this y) None l e))
main_fits p m ints (z ∷ []) a y l e =
    let i = and_parts (is_unique (form z.ty) && is_ints (form z.ty)) (is_none z.away) a in
    let k = and_parts (is_unique (form z.ty)) (is_ints (form z.ty)) i.0
    in named_bound p ints z (ints_form (form z.ty) k.0 k.1) (nat_eq z.name.name y) l
    (not_this (nat_eq this y) (option_map param_local (param_called (z ∷ []) y)) l e)
main_fits p m ints (z ∷ k ∷ xs) a y l e = absurd (cc a)

-- ---- the beginning

none_there : (o : Option Me) → is_some o ≡ false → o ≡ None
none_there None e = refl
none_there (Some x) e = absurd (cc)

main_begins : (p : Code) (m : Definition) (n : ℕ) (ints : List ℤ) → m.me ≡ None → are_main_params m.params ≡ true
    → are_main_needs m.needs ≡ true → FitsContext p (start p m) (main_state p m ints)
main_begins p m n ints i a b = record {
  form = λ y l e. (first_bound y l e).1;
  local = λ y l e h. is_bound p (main_state p m ints) y l (first_bound y l e).0;
  group = λ g q h e a. absurd (none_needed m.needs b g q h (knows p m g) e a);
  name = λ g h k. k;
  log = refl;
  log_known = refl;
  unknown = λ g k. refl;
}
  where
    first_bound : (y : ℕ) (l : Local) → main_local p m m.me m.params y ≡ Some l
        → IsBoundFirst p l (main_bound p m ints m.me m.params y)
    first_bound y l e = subst
        (λ (o : Option Me). main_local p m o m.params y ≡ Some l → IsBoundFirst p l (main_bound p m ints o m.params y))
        (sym i) (main_fits p m ints m.params a y l) e

pub beginnings_fit : BeginningsFit
beginnings_fit p w h ints x e =
    let a = given_some (top_number p main) (start_at p ints) x e in
    let b = given_some (method_at p a.0) _ x a.2 in
    let m : Definition = b.0 in
    let k : Callee = record { number = a.0; method = m; names = []; groups = [] } in
    let top : top_callee p main ≡ Some k = ap (λ (o : Option ℕ). given o None (callee_at p [] [])) a.1
    ∙ ap (option_map (λ (d : Definition). record { number = a.0; method = d; names = []; groups = [] })) b.1 in
    let me : m.me ≡ None = none_there m.me
    (callee_receiver p w (start p m) None (record { name = main; at = first_spot }) k
    (ap (λ (o : Option Callee). found o rule.UnknownMethod first_spot) top)) in
    let c = first_holds (tops_differ p) _ tt h in
    let d = first_holds (each (members_differ p) p.classes) _ tt c.2 in
    let g = first_holds (each (decl_holds p) p.decls) (λ _. has_main p) tt d.2 in
    let s = first_holds (found (top_called p main) rule.NoMain first_spot) _ tt g.2 in
    let same : s.0 ≡ m = same_Some s.0 m (sym (found_is (top_called p main) rule.NoMain first_spot s.0 s.1)
    ∙ ap (λ (o : Option ℕ). given o None (method_at p)) a.1 ∙ b.1) in
    let is : is_main m ≡ true = subst (λ (z : Definition). is_main z ≡ true) same
    (required (is_main s.0) rule.NoMain s.0.name.at tt s.2) in
    let i = and_parts (is_none m.result && is_empty m.groups && are_main_params m.params) (are_main_needs m.needs) is in
    let j = and_parts (is_none m.result && is_empty m.groups) (are_main_params m.params) i.0 in
    let begins = main_begins p m a.0 ints me j.1 i.1 in
    subst (λ (z : Start). FitsContext p z.here.context z.state) (same_Some _ x b.2) begins
