-- The forms of receivers and of parameters are of groups that have members.
use Rattle.std.proofs.Common.{◌≡◌, refl, ap, ◌∙◌, subst, ℕ}
use Rattle.std.proofs.Common.{true, List, [], ◌∷◌, Option, None, Some}
use Rattle.std.specs.Prelude.{⊤}
use Rattle.std.specs.List.{list_all}
use Rattle.std.proofs.lemmas.Bool.{and_from}
use Rattle.std.proofs.lemmas.Option.{same_Some}
use Rattle.ae_tree.specs.declared.tree.Me.{Me}
use Rattle.ae_tree.specs.declared.tree.Param.{Param}
use Rattle.ae_tree.specs.declared.tree.Class.{Class}
use Rattle.ae_tree.specs.declared.form.Kind.TheVariants as kind
use Rattle.ae_tree.specs.Form.{perm_of, form}
use Rattle.ae_tree.specs.Plain.{Code, Definition}
use Rattle.ae_tree.specs.WellShaped.{WellShaped}
use Rattle.ae_rules.specs.Verdict.{Holds, in_turn, if_there, given}
use Rattle.ae_rules.specs.Lookups.{Names, class_at, groups_of, kind_of_class, own_kind}
use Rattle.ae_rules.specs.Types.{forms_perm, forms_type}
use Rattle.ae_rules.specs.Table.{most_groups, declares_groups}
use Rattle.ae_rules.specs.Table.{result_holds, me_holds, param_holds, method_holds}
use Rattle.ae_rules.specs.Table.{TableHolds}
use Rattle.ae_rules.specs.Calls.{me_form}
use Rattle.ae_soundness.specs.Fits.{has_members, perm_has_members, form_has_members}
use Rattle.ae_soundness.specs.Laws.{ParamsHaveMembers, MethodsHaveMembers}
use Rattle.ae_soundness.proofs.GroupLemmas.{type_has_members, perm_written}
use Rattle.ae_soundness.proofs.NeedLemmas.{class_members, method_is_held}
use Rattle.ae_soundness.proofs.from_rules.PathLemmas.{first_holds}

-- ---- parameters

params_have_members : (p : Code) (known : Names) (ps : List Param) (before after : Names)
    → in_turn (param_holds p known) ps before ≡ Holds after
    → list_all (λ (z : Param). form_has_members (form z.ty)) ps ≡ true
params_have_members p known [] before after h = refl
params_have_members p known (z ∷ ps) before after h =
    let a = first_holds (param_holds p known z before) (in_turn (param_holds p known) ps) after h in
    let b = first_holds (forms_type p known true z.ty) _ a.0 a.1 in
    and_from (form_has_members (form z.ty)) (list_all (λ (z : Param). form_has_members (form z.ty)) ps)
    (type_has_members p known true z.ty b.0 b.1) (params_have_members p known ps a.0 after a.2)

-- no group of a method's own kind is `io`
abbrev OwnHasMembers : Code → Definition → Type 0
OwnHasMembers p m = list_all has_members (groups_of (own_kind p m.class)) ≡ true

me_members : (p : Code) (m : Definition) (known : Names) (o : Option Me) (u : ⊤) → OwnHasMembers p m
    → if_there o (me_holds known) ≡ Holds u → (me : Me) → o ≡ Some me → form_has_members (me_form p m me) ≡ true
me_members p m known None u k h me e = absurd (cc e)
me_members p m known (Some x) u k h me e =
    let a = first_holds (forms_perm known true x.perm) _ u h in
    let same : x ≡ me = same_Some x me e in
    subst (λ (y : Me). form_has_members (me_form p m y) ≡ true) same
    (and_from (perm_has_members (perm_of x.perm)) (list_all has_members (groups_of (own_kind p m.class)))
    (perm_written known true x.perm a.0 a.1) k)

method_members : (p : Code) (outer : Names) (m : Definition) (u : ⊤) → OwnHasMembers p m
    → method_holds p outer m ≡ Holds u → ParamsHaveMembers p m m.me m.params
method_members p outer m u k h =
    let a = first_holds (declares_groups most_groups m.groups outer) _ u h in
    let b = first_holds (result_holds p a.0 m.result) _ u a.2 in
    let d = first_holds (if_there m.me (me_holds a.0)) _ u b.2 in
    let e = first_holds (in_turn (param_holds p a.0) m.params a.0) _ u d.2 in
    (me_members p m a.0 m.me d.0 k d.1, params_have_members p a.0 m.params a.0 e.0 e.1)

-- ---- declarations

own_members : (p : Code) → WellShaped p → TableHolds p → (o : Option ℕ)
    → list_all has_members (groups_of (own_kind p o)) ≡ true
own_members p w h None = refl
own_members p w h (Some n) = by_class (class_at p n) refl
  where
    by_class : (o : Option Class) → class_at p n ≡ o → list_all has_members (groups_of (own_kind p (Some n))) ≡ true
    by_class None e = ap (λ (o : Option Class). list_all has_members (groups_of (given o kind.Ints kind_of_class))) e
    by_class (Some c) e =
        ap (λ (o : Option Class). list_all has_members (groups_of (given o kind.Ints kind_of_class))) e
        ∙ class_members p w h n c e

pub methods_have_members : MethodsHaveMembers
methods_have_members p w h n m e =
    let r = method_is_held p w h n m e in method_members p r.outer m r.unit (own_members p w h m.class) r.holds
