-- How `main` begins.
use Rattle.std.proofs.Common.{◌≡◌, ◌⊎◌, inl, inr, refl, sym, ap, ◌∙◌, ℕ, nat_eq, true, false, ◌&&◌}
use Rattle.std.proofs.Common.{if◌then◌else◌, List, [], ◌∷◌, map, zip, Option, None, Some}
use Rattle.std.specs.Prelude.{is_some, is_none, option_map}
use Rattle.std.proofs.lemmas.Bool.{and_parts, eqb-true}
use Rattle.std.proofs.lemmas.List.{append-nil}
use Rattle.ae_text.specs.Tokens.{first_spot}
use Rattle.ae_text.specs.declared.refusal.Rule.TheVariants as rule
use Rattle.ae_tree.specs.declared.tree.Me.{Me}
use Rattle.ae_tree.specs.declared.tree.Param.{Param}
use Rattle.ae_tree.specs.declared.tree.Need.{Need}
use Rattle.ae_tree.specs.declared.tree.Need.TheVariants as need_of
use Rattle.ae_tree.specs.declared.tree.GroupNeed.{GroupNeed}
use Rattle.ae_tree.specs.declared.form.Perm.TheVariants as perm
use Rattle.ae_tree.specs.declared.form.Kind.TheVariants as kind
use Rattle.ae_tree.specs.declared.form.Form.{Form}
use Rattle.ae_tree.specs.declared.form.Form.TheVariants as f
use Rattle.ae_tree.specs.Form.{form}
use Rattle.ae_tree.specs.Names.{io, main, this}
use Rattle.ae_tree.specs.Plain.{Definition, Code}
use Rattle.ae_tree.specs.WellShaped.{WellShaped}
use Rattle.ae_rules.specs.Verdict.{found, each, given}
use Rattle.ae_rules.specs.Forms.{is_unique, is_ints, form_with}
use Rattle.ae_rules.specs.Lookups.{is_empty, method_at, top_number, top_called}
use Rattle.ae_rules.specs.Calls.{Callee, callee_at, top_callee, if_some, me_slot, param_slot}
use Rattle.ae_rules.specs.Table.{tops_differ, members_differ, decl_holds, has_main, is_main, is_args, table_verdict}
use Rattle.ae_rules.specs.Table.{TableHolds, is_exclusive, are_main_params, are_main_needs}
use Rattle.ae_rules.specs.Judges.{start}
use Rattle.ae_semantics.specs.Values.{Owned, Array}
use Rattle.ae_semantics.specs.Places.{with}
use Rattle.ae_semantics.specs.Calls.{Taker, takers, taken}
use Rattle.ae_semantics.specs.Means.{main_state}
use Rattle.ae_values.specs.Shapes.{NameShape, OfLocal, shape_in}
use Rattle.ae_names.specs.Known.{AreKnown, form_in, is_of_group}
use Rattle.ae_starts.specs.Mains.{taker_shape, main_names, HasMain, integers, no_locals, BeginsAlone}
use Rattle.ae_starts.specs.Mains.{BeginsWithIntegers, BeginsSo, MainBegins}
use Rattle.ae_starts.proofs.ApartLemmas.{MethodFree}
use Rattle.ae_starts.proofs.TakenLemmas.{taken_are_known, taken_are_locals}
use Rattle.ae_starts.proofs.from_text.Basics.{functions_agree}
use Rattle.ae_starts.proofs.from_rules.PathLemmas.{first_holds}
use Rattle.ae_starts.proofs.from_rules.SeenLemmas.{found_is, required}
use Rattle.ae_starts.proofs.from_rules.BelowLemmas.{found_has}
use Rattle.ae_starts.proofs.from_rules.ShapeLemmas.{callee_receiver}
use Rattle.ae_starts.proofs.from_soundness.FieldLemmas.{given_some}

-- ---- the method

-- the number and the method of `main`, which is as it has to be
record FoundMain (p : Code) : Type 0 where
  number : ℕ
  method : Definition
  has : HasMain p number method
  is : is_main method ≡ true

main_found : (p : Code) → TableHolds p → FoundMain p
main_found p h =
    let c = first_holds (tops_differ p) _ tt h in
    let d = first_holds (each (members_differ p) p.classes) _ tt c.2 in
    let g = first_holds (each (decl_holds p) p.decls) (λ _. has_main p) tt d.2 in
    let s = first_holds (found (top_called p main) rule.NoMain first_spot) _ tt g.2 in
    let a = given_some (top_number p main) (method_at p) s.0
    (found_is (top_called p main) rule.NoMain first_spot s.0 s.1) in
    record {
      number = a.0;
      method = s.0;
      has = record { number = a.1; method = a.2 };
      is = required (is_main s.0) rule.NoMain s.0.name.at tt s.2;
    }

-- `main` has no receiver
no_receiver : (p : Code) → WellShaped p → (r : FoundMain p) → r.method.me ≡ None
no_receiver p w r =
    let k : Callee = record { number = r.number; method = r.method; names = []; groups = [] } in
    let top : top_callee p main ≡ Some k = ap (λ (o : Option ℕ). given o None (callee_at p [] [])) r.has.number
    ∙ ap (option_map (λ (d : Definition). record { number = r.number; method = d; names = []; groups = [] }))
    r.has.method in
    is_missing r.method.me (callee_receiver p w (start p r.method) None (record { name = main; at = first_spot }) k
    (ap (λ (o : Option Callee). found o rule.UnknownMethod first_spot) top))
  where
    is_missing : (o : Option Me) → is_some o ≡ false → o ≡ None
    is_missing None e = refl
    is_missing (Some x) e = absurd (cc)

-- ---- needs

exclusive_is : (n : Need) → is_exclusive n ≡ true → n ≡ need_of.Exclusive
exclusive_is need_of.Exclusive e = refl
exclusive_is need_of.Shared e = absurd (cc e)
exclusive_is need_of.Protected e = absurd (cc e)

at_most_io : (ns : List GroupNeed) → are_main_needs ns ≡ true
    → (ns ≡ []) ⊎ ((n : GroupNeed) × (ns ≡ n ∷ []) × (n.need ≡ need_of.Exclusive) × (n.group.name ≡ io))
at_most_io [] e = inl refl
at_most_io (n ∷ []) e =
    let a = and_parts (is_exclusive n.need) (nat_eq io n.group.name) e in
    inr (n, refl, exclusive_is n.need a.0, sym (eqb-true io n.group.name a.1))
at_most_io (n ∷ k ∷ ns) e = absurd (cc e)

-- ---- parameters

own_integers : (t : Form) → is_unique t && is_ints t ≡ true → t ≡ integers
own_integers f.Int e = absurd (cc e)
own_integers f.Bool e = absurd (cc e)
own_integers (f.Object perm.Unique kind.Ints) e = refl
own_integers (f.Object perm.Unique (kind.Class c gs)) e = absurd (cc e)
own_integers (f.Object perm.Immutable k) e = absurd (cc e)
own_integers (f.Object perm.Lent k) e = absurd (cc e)
own_integers (f.Object (perm.Shared g) k) e = absurd (cc e)

-- what `main` takes, where it has no receiver
taken_alone : (p : Code) (m : Definition) (ps : List Param) → m.me ≡ None → m.params ≡ ps
    → takers p m ≡ zip (map (λ (x : Param). x.name.name) ps) (map (param_slot (λ g. g)) ps)
taken_alone p m ps a b =
    ap (λ (o : Option Me). zip (if_some (option_map (λ (x : Me). this) o) (map (λ (x : Param). x.name.name) m.params))
    (if_some (option_map (me_slot p (λ g. g) m) o) (map (param_slot (λ g. g)) m.params))) a
    ∙ ap (λ (qs : List Param). zip (map (λ (x : Param). x.name.name) qs) (map (param_slot (λ g. g)) qs)) b

begins_alone : (p : Code) (m : Definition) → m.me ≡ None → m.params ≡ [] → BeginsAlone p m
begins_alone p m a b =
    let none : takers p m ≡ [] = taken_alone p m [] a b in
    record {
      params = b;
      takers = none;
      names = ap (map taker_shape) none;
      locals = λ ints. functions_agree (main_state p m ints).locals no_locals
          (λ y. ap (λ (ts : List Taker). taken ts (record { value = Owned (Array ints); from = None } ∷ []) y) none);
    }

begins_with : (p : Code) (m : Definition) (x : Param) → m.me ≡ None → m.params ≡ x ∷ [] → is_args x ≡ true
    → BeginsWithIntegers p m
begins_with p m x a b e =
    let own : form x.ty ≡ integers = own_integers (form x.ty)
    (and_parts (is_unique (form x.ty) && is_ints (form x.ty)) (is_none x.away) e).0 in
    let one : takers p m ≡ (x.name.name, param_slot (λ g. g) x) ∷ [] = taken_alone p m (x ∷ []) a b in
    let slotted : form_with (λ g. g) (form x.ty) ≡ integers = ap (form_with (λ g. g)) own in
    record {
      param = x;
      params = b;
      form = own;
      slot = param_slot (λ g. g) x;
      takers = one;
      slot_form = slotted;
      names = ap (map taker_shape) one ∙ ap (λ (t : Form). (x.name.name, OfLocal t) ∷ []) slotted;
      locals = λ ints. functions_agree (main_state p m ints).locals
          (with x.name.name (Some (record { form = integers; value = Owned (Array ints) })) no_locals)
          (λ y. ap (λ (ts : List Taker). taken ts (record { value = Owned (Array ints); from = None } ∷ []) y) one
          ∙ ap (λ (t : Form). if nat_eq x.name.name y then Some (record { form = t; value = Owned (Array ints) }) else
          None) slotted);
    }

begins_so : (p : Code) (m : Definition) (ps : List Param) → m.me ≡ None → m.params ≡ ps → are_main_params ps ≡ true
    → BeginsSo p m
begins_so p m [] a b e = inl (begins_alone p m a b)
begins_so p m (x ∷ []) a b e = inr (begins_with p m x a b e)
begins_so p m (x ∷ y ∷ ps) a b e = absurd (cc e)

-- ---- names

main_is_known : (p : Code) (m : Definition) → MethodFree m → AreKnown (start p m) (main_names p m)
main_is_known p m free = record {
  local = λ y. ap (λ (xs : List (ℕ × NameShape)). form_in xs y) (sym (append-nil (main_names p m)))
      ∙ taken_are_known p m [] y free.2 refl;
  group = λ y e. absurd (no_group y (taken_are_locals (takers p m) [] y
      (ap (λ (xs : List (ℕ × NameShape)). is_of_group (shape_in xs y)) (append-nil (main_names p m)) ∙ e)));
}
  where
    no_group : (y : ℕ) → is_of_group (shape_in [] y) ≡ true → ⊥
    no_group y e = cc e

-- each accepted program in which nothing is declared under the name `this` begins so
pub main_begins : MainBegins
main_begins p w free accepted =
    let table = first_holds (table_verdict p) _ tt accepted in
    let r : FoundMain p = main_found p table.1 in
    let m : Definition = r.method in
    let me : m.me ≡ None = no_receiver p w r in
    let i = and_parts (is_none m.result && is_empty m.groups && are_main_params m.params) (are_main_needs m.needs) r.is
    in
    let j = and_parts (is_none m.result && is_empty m.groups) (are_main_params m.params) i.0 in
    record {
      number = r.number;
      method = m;
      has = r.has;
      receiver = me;
      needs = at_most_io m.needs i.1;
      begins = begins_so p m m.params me refl j.1;
      known = main_is_known p m (found_has MethodFree p.methods r.number m free.methods r.has.method);
    }
