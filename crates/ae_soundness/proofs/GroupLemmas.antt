-- What is declared is of groups that have members.
use Rattle.std.proofs.Common.{◌≡◌, ◌<◌, ◌+◌, refl, sym, ap, ◌∙◌, arith, ℕ, zero, suc, Bool, true, false}
use Rattle.std.proofs.Common.{◌&&◌, List, [], ◌∷◌, length, Option, Some}
use Rattle.std.specs.Prelude.{slice_get, filter_map, ⊤}
use Rattle.std.specs.List.{list_all}
use Rattle.std.proofs.lemmas.Bool.{and_from}
use Rattle.std.proofs.lemmas.Option.{same_Some, slice_get_within}
use Rattle.ae_text.specs.declared.refusal.Rule.TheVariants as rule
use Rattle.ae_tree.specs.declared.tree.NameAt.{NameAt}
use Rattle.ae_tree.specs.declared.tree.PermAt.{PermAt}
use Rattle.ae_tree.specs.declared.tree.PermAt.TheVariants as perm_at
use Rattle.ae_tree.specs.declared.tree.KindAt.{KindAt}
use Rattle.ae_tree.specs.declared.tree.KindAt.TheVariants as kind_at
use Rattle.ae_tree.specs.declared.tree.Ty.{Ty}
use Rattle.ae_tree.specs.declared.tree.Ty.TheVariants as ty
use Rattle.ae_tree.specs.declared.tree.Class.{Class}
use Rattle.ae_tree.specs.declared.tree.Decl.{Decl}
use Rattle.ae_tree.specs.declared.tree.Decl.TheVariants as decl
use Rattle.ae_tree.specs.Form.{perm_of, kind_of, bare_names, form}
use Rattle.ae_tree.specs.Names.{io}
use Rattle.ae_tree.specs.Grammar.{numbers_from}
use Rattle.ae_tree.specs.Plain.{Code}
use Rattle.ae_tree.specs.WellShaped.{class_in}
use Rattle.ae_rules.specs.Verdict.{Holds, found, require, each, if_there}
use Rattle.ae_rules.specs.Lookups.{Names, class_called, groups_of}
use Rattle.ae_rules.specs.Types.{is_group, groups_fit, forms_perm, forms_kind, forms_type}
use Rattle.ae_rules.specs.Table.{tops_differ, members_differ, most_groups, and_also, no_names}
use Rattle.ae_rules.specs.Table.{declares_groups, field_holds, class_holds, decl_holds}
use Rattle.ae_soundness.specs.Fits.{has_members, perm_has_members, form_has_members}
use Rattle.ae_soundness.specs.Laws.{FieldsAreOfGroups}
use Rattle.ae_soundness.proofs.from_rules.PathLemmas.{first_holds, each_holds}
use Rattle.ae_soundness.proofs.from_rules.SeenLemmas.{required}
use Rattle.ae_soundness.proofs.from_text.Basics.{second_of_both}

-- ---- types that may be written

-- A group that is known as one is not `io`.
pub group_has_members : (known : Names) (g : NameAt) (u : ⊤) → is_group known g ≡ Holds u → has_members g.name ≡ true
group_has_members known g u e = second_of_both (known g.name) (has_members g.name)
    (required (known g.name && has_members g.name) rule.UnknownGroup g.at u e)

-- Groups that are known as such are not `io`.
pub groups_have_members : (known : Names) (gs : List NameAt) (u : ⊤) → each (is_group known) gs ≡ Holds u
    → list_all has_members (bare_names gs) ≡ true
groups_have_members known [] u e = refl
groups_have_members known (g ∷ gs) u e =
    let a = first_holds (is_group known g) (λ _. each (is_group known) gs) u e in
    and_from (has_members g.name) (list_all has_members (bare_names gs)) (group_has_members known g a.0 a.1)
    (groups_have_members known gs u a.2)

-- A permission that may be written is of no group `io`.
pub perm_written : (known : Names) (may : Bool) (q : PermAt) (u : ⊤) → forms_perm known may q ≡ Holds u
    → perm_has_members (perm_of q) ≡ true
perm_written known may (perm_at.Unique at) u e = refl
perm_written known may (perm_at.Immutable at) u e = refl
perm_written known may (perm_at.Lent at) u e = refl
perm_written known may (perm_at.Shared at g) u e = group_has_members known g u e

kind_written : (p : Code) (known : Names) (k : KindAt) (u : ⊤) → forms_kind p known k ≡ Holds u
    → list_all has_members (groups_of (kind_of k)) ≡ true
kind_written p known (kind_at.Ints at) u e = refl
kind_written p known (kind_at.Class c gs) u e =
    let a = first_holds (found (class_called p c.name) rule.UnknownClass c.at)
    (λ (d : Class). groups_fit known (length d.groups) c.at gs) u e in
    groups_have_members known gs u
    (first_holds (require _ rule.GroupCount c.at) (λ _. each (is_group known) gs) u a.2).2

-- A type that may be written is of a form none of whose groups is `io`.
pub type_has_members : (p : Code) (known : Names) (may : Bool) (t : Ty) (u : ⊤) → forms_type p known may t ≡ Holds u
    → form_has_members (form t) ≡ true
type_has_members p known may (ty.Int at) u e = refl
type_has_members p known may (ty.Bool at) u e = refl
type_has_members p known may (ty.Object q k) u e =
    let a = first_holds (forms_perm known may q) (λ _. forms_kind p known k) u e in
    and_from (perm_has_members (perm_of q)) (list_all has_members (groups_of (kind_of k)))
    (perm_written known may q a.0 a.1) (kind_written p known k u a.2)

-- ---- classes

-- The number at a place of a row of numbers.
pub numbered_at : (k n i : ℕ) → i < n → slice_get (numbers_from k n) i ≡ Some (k + i)
numbered_at k zero i h = absurd (omega arith)
numbered_at k (suc n) zero h = ap Some (omega arith)
numbered_at k (suc n) (suc i) h = numbered_at (k + 1) n i (omega arith) ∙ ap Some (omega arith)

-- A class that is declared has its declaration.
pub class_declared : (ds : List Decl) (i n : ℕ) → slice_get (filter_map class_in ds) i ≡ Some n
    → (j : ℕ) × (slice_get ds j ≡ Some (decl.Class n))
class_declared [] i n e = absurd (cc)
class_declared (decl.Class m ∷ ds) zero n e = (0, ap (λ x. Some (decl.Class x)) (same_Some m n e))
class_declared (decl.Class m ∷ ds) (suc i) n e =
    let r = class_declared ds i n e in (suc r.0, r.1)
class_declared (decl.Method m ∷ ds) i n e =
    let r = class_declared ds i n e in (suc r.0, r.1)

pub fields_are_of_groups : FieldsAreOfGroups
fields_are_of_groups p w h n c e i d f =
    let a = first_holds (tops_differ p) _ tt h in
    let b = first_holds (each (members_differ p) p.classes) _ tt a.2 in
    let g = first_holds (each (decl_holds p) p.decls) _ tt b.2 in
    let at = class_declared p.decls n n
    (ap (λ (xs : List ℕ). slice_get xs n) w.classes
    ∙ numbered_at 0 (length p.classes) n (slice_get_within p.classes n c e) ∙ ap Some (omega arith)) in
    let k = each_holds (decl_holds p) p.decls g.0 at.0 (decl.Class n) g.1 at.1 in
    let holds : class_holds p c ≡ Holds k.0 = ap (λ (o : Option Class). if_there o (class_holds p)) (sym e) ∙ k.1 in
    let t = first_holds (declares_groups most_groups c.groups (and_also io no_names)) _ k.0 holds in
    let s = first_holds (each (field_holds p t.0) c.fields) _ k.0 t.2 in
    let r = each_holds (field_holds p t.0) c.fields s.0 i d s.1 f
    in type_has_members p t.0 false d.ty r.0 r.1
