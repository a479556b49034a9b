-- At a method's start the groups of the types that are written are known.
use Rattle.std.proofs.Common.{◌≡◌, ◌<◌, ◌+◌, inl, inr, refl, sym, ap, ◌∙◌, arith, ℕ, zero, suc, nat_eq}
use Rattle.std.proofs.Common.{◌≤◌, eq-eqb, Bool, true, false, ◌||◌, not, if◌then◌else◌, List, [], ◌∷◌, length}
use Rattle.std.proofs.Common.{Option, None, Some}
use Rattle.std.specs.Prelude.{is_some, option_map, slice_get, ⊤}
use Rattle.std.specs.List.{flat_map}
use Rattle.std.proofs.lemmas.Bool.{cases_lt, eqb-true, or_cases, or_left, or_right}
use Rattle.std.proofs.lemmas.List.Folds.{list_any-append}
use Rattle.std.proofs.lemmas.Option.{slice_get_within, same_Some}
use Rattle.ae_text.specs.declared.refusal.Rule.TheVariants as rule
use Rattle.ae_tree.specs.declared.tree.NameAt.{NameAt}
use Rattle.ae_tree.specs.declared.tree.Me.{Me}
use Rattle.ae_tree.specs.declared.tree.Param.{Param}
use Rattle.ae_tree.specs.declared.tree.Class.{Class}
use Rattle.ae_tree.specs.declared.tree.Decl.{Decl}
use Rattle.ae_tree.specs.declared.tree.Decl.TheVariants as decl
use Rattle.ae_tree.specs.declared.tree.GroupNeed.{GroupNeed}
use Rattle.ae_tree.specs.declared.form.Kind.TheVariants as kind
use Rattle.ae_tree.specs.Form.{bare_names}
use Rattle.ae_tree.specs.Names.{io, this}
use Rattle.ae_tree.specs.Grammar.{numbers_from}
use Rattle.ae_tree.specs.Plain.{Definition, Code}
use Rattle.ae_tree.specs.WellShaped.{methods_at, own_methods, IsMethodOf, WellShaped}
use Rattle.ae_rules.specs.declared.held.GroupPerm.TheVariants as group
use Rattle.ae_rules.specs.Verdict.{Verdict, Holds, ◌>>=◌, ◌>>◌, fine, require, each, in_turn, given, if_there}
use Rattle.ae_rules.specs.Lookups.{Names, has_name, class_at, method_at, groups_of, own_kind, kind_of_class}
use Rattle.ae_rules.specs.Types.{forms_perm, forms_type}
use Rattle.ae_rules.specs.Table.{no_names, and_also, is_new, most_groups, declares_groups, field_holds, result_holds}
use Rattle.ae_rules.specs.Table.{me_holds, param_holds, need_holds, method_holds, class_holds, decl_holds, tops_differ}
use Rattle.ae_rules.specs.Table.{members_differ, TableHolds}
use Rattle.ae_rules.specs.Groups.{known}
use Rattle.ae_rules.specs.Context.{Local, held_of}
use Rattle.ae_rules.specs.Judges.{start, knows, need_for, permission_needed, me_local, param_local, param_called}
use Rattle.ae_rules.specs.Laws.{StatementsKeep}
use Rattle.ae_rules.specs.BlockLaws.{JudgingKeepsRight, LinesDeclare}
use Rattle.ae_check.specs.Ready.{FormsAreKnown, JudgingStaysReady}
use Rattle.ae_check.proofs.from_rules.PathLemmas.{first_holds, each_holds, mapped}
use Rattle.ae_check.proofs.from_rules.BelowLemmas.{found_has}
use Rattle.ae_check.proofs.ReadyLemmas.{perm_known, type_known, forms_stay_known, groups_were_new}
use Rattle.ae_check.proofs.ReadyLemmas.{forms_known_while_split, forms_known_while_locked}

-- ---- names that are known in a signature

regrouped : (a b d : Bool) → ((a || b) || d) ≡ true → (b || (a || d)) ≡ true
regrouped true true d e = refl
regrouped true false d e = refl
regrouped false true d e = refl
regrouped false false d e = e

no_more : (b : Bool) → b ≡ true → (b || false) ≡ true
no_more true e = refl
no_more false e = absurd (cc)

-- what is known once these groups are declared was known before, or is one of them
declared_or_before : (room : ℕ) (gs : List NameAt) (outer names : Names) (y : ℕ)
    → declares_groups room gs outer ≡ Holds names → names y ≡ true → (outer y || has_name (bare_names gs) y) ≡ true
declared_or_before room [] outer names y e h =
    let q : outer ≡ names = cc in no_more (outer y) (ap (λ (k : Names). k y) q ∙ h)
declared_or_before zero (g ∷ gs) outer names y e h = absurd (cc)
declared_or_before (suc room) (g ∷ gs) outer names y e h =
    let t = first_holds (is_new rule.GroupTwice g outer) (declares_groups room gs) names e in
    let r = first_holds (require (not (outer g.name)) rule.GroupTwice g.at) (λ _. Holds (and_also g.name outer)) t.0 t.1
    in
    let q : and_also g.name outer ≡ t.0 = cc in
    regrouped (nat_eq g.name y) (outer y) (has_name (bare_names gs) y)
    (ap (λ (k : Names). k y || has_name (bare_names gs) y) q ∙ declared_or_before room gs t.0 names y t.2 h)

-- ---- a method in its declaration

-- each number of a stretch is there
number_is_there : (k n y : ℕ) → k ≤ y → y < k + n → has_name (numbers_from k n) y ≡ true
number_is_there k zero y l u = absurd (omega arith)
number_is_there k (suc n) y l u = elim (cases_lt k y) [
  | inl d ↦ or_right (nat_eq k y) (has_name (numbers_from (k + 1) n) y)
      (number_is_there (k + 1) n y (omega arith) (omega arith))
  | inr d ↦ (let q : k ≡ y = omega arith in
      or_left (nat_eq k y) (has_name (numbers_from (k + 1) n) y) (eq-eqb k y q))
]

-- a name of a list has a place in it
place_of : (xs : List ℕ) (y : ℕ) → has_name xs y ≡ true → (i : ℕ) × (slice_get xs i ≡ Some y)
place_of [] y e = absurd (cc)
place_of (x ∷ xs) y e = elim (or_cases (nat_eq x y) (has_name xs y) e) [
  | inl q ↦ (0, ap Some (eqb-true x y q))
  | inr r ↦ (let k = place_of xs y r in (suc k.0, k.1))
]

-- what is in many lists is in one of them
list_of : (f : Decl → List ℕ) (ds : List Decl) (y : ℕ) → has_name (flat_map f ds) y ≡ true
    → (i : ℕ) × (d : Decl) × (slice_get ds i ≡ Some d) × (has_name (f d) y ≡ true)
list_of f [] y e = absurd (cc)
list_of f (d ∷ ds) y e = elim (or_cases (has_name (f d) y) (has_name (flat_map f ds) y)
    (sym (list_any-append (λ (x : ℕ). nat_eq x y) (f d) (flat_map f ds)) ∙ e)) [
      | inl q ↦ (0, d, refl, q)
      | inr r ↦ (let k = list_of f ds y r in (suc k.0, k.1, k.2, k.3))
    ]

-- where a method is declared: outside it `io` is known, and the groups of its class
record IsDeclared (p : Code) (m : Definition) : Type 0 where
  outer : Names
  outside : (y : ℕ) → outer y ≡ true → (nat_eq io y || has_name (groups_of (own_kind p m.class)) y) ≡ true
  holds : method_holds p outer m ≡ fine

no_other : (b : Bool) → (b || false) ≡ true → b ≡ true
no_other true e = refl
no_other false e = e

-- where something is there, its premises hold
there_holds : (premise : Definition → Verdict ⊤) (o : Option Definition) (m : Definition) (u : ⊤) → o ≡ Some m
    → if_there o premise ≡ Holds u → premise m ≡ Holds u
there_holds premise o m u e h = ap (λ (k : Option Definition). if_there k premise) (sym e) ∙ h

-- a method at the top
declared_at_top : (p : Code) (n k : ℕ) (m : Definition) (u : ⊤) → method_at p n ≡ Some m
    → has_name (k ∷ []) n ≡ true → decl_holds p (decl.Method k) ≡ Holds u → IsDeclared p m
declared_at_top p n k m u e g h =
    let q : k ≡ n = eqb-true k n (no_other (nat_eq k n) g) in
    record {
      outer = and_also io no_names;
      outside = λ y t. or_left (nat_eq io y) (has_name (groups_of (own_kind p m.class)) y) (no_other (nat_eq io y) t);
      holds = there_holds (method_holds p (and_also io no_names)) (method_at p k) m u (ap (method_at p) q ∙ e) h;
    }

-- a method of a class
declared_in_class : (p : Code) (n k : ℕ) (m : Definition) (c : Class) (u : ⊤) → WellShaped p
    → method_at p n ≡ Some m → class_at p k ≡ Some c → has_name c.methods n ≡ true → class_holds p c ≡ Holds u
    → IsDeclared p m
declared_in_class p n k m c u w e d g h =
    let i = place_of c.methods n g in
    let t = first_holds (declares_groups most_groups c.groups (and_also io no_names)) _ u h in
    let s = first_holds (each (field_holds p t.0) c.fields) _ u t.2 in
    let r = each_holds (λ (y : ℕ). if_there (method_at p y) (method_holds p t.0)) c.methods u i.0 n s.2 i.1 in
    let x = found_has (IsMethodOf p (Some k)) c.methods i.0 n (w.members k c d) i.1 in
    let same : x.method ≡ m = same_Some x.method m (sym x.found ∙ e) in
    let own : own_kind p m.class ≡ kind_of_class c =
    ap (λ (z : Definition). own_kind p z.class) (sym same) ∙ ap (own_kind p) x.is_of
    ∙ ap (λ (o : Option Class). given o kind.Ints kind_of_class) d in
    record {
      outer = t.0;
      outside = λ y v. ap (λ b. nat_eq io y || has_name (groups_of b) y) own
          ∙ less_false (nat_eq io y) (has_name (bare_names c.groups) y)
          (declared_or_before most_groups c.groups (and_also io no_names) t.0 y t.1 v);
      holds = there_holds (method_holds p t.0) (method_at p n) m r.0 e r.1;
    }
  where
    less_false : (a b : Bool) → ((a || false) || b) ≡ true → (a || b) ≡ true
    less_false true b q = refl
    less_false false b q = q

-- each method of a program whose declarations hold is declared
method_is_declared : (p : Code) (n : ℕ) (m : Definition) → WellShaped p → TableHolds p → method_at p n ≡ Some m
    → IsDeclared p m
method_is_declared p n m w h e = by_decl k.1 d.0 k.3 d.1
  where
    l : n < length p.methods
    l = slice_get_within p.methods n m e

    k : (i : ℕ) × (d : Decl) × (slice_get p.decls i ≡ Some d) × (has_name (methods_at p d) n ≡ true)
    k = list_of (methods_at p) p.decls n (ap (λ (xs : List ℕ). has_name xs n) w.methods
        ∙ number_is_there 0 (length p.methods) n (omega arith) (omega (arith, l)))

    d : (z : ⊤) × (decl_holds p k.1 ≡ Holds z)
    d =
        let a = first_holds (tops_differ p) _ tt h in
        let b = first_holds (each (members_differ p) p.classes) _ tt a.2 in
        let c = first_holds (each (decl_holds p) p.decls) _ tt b.2 in
        each_holds (decl_holds p) p.decls c.0 k.0 k.1 c.1 k.2

    by_decl : (x : Decl) (u : ⊤) → has_name (methods_at p x) n ≡ true → decl_holds p x ≡ Holds u → IsDeclared p m
    by_decl (decl.Method j) u g q = declared_at_top p n j m u e g q
    by_decl (decl.Class j) u g q = by_class (class_at p j) refl g q
      where
        by_class : (o : Option Class) → class_at p j ≡ o → has_name (own_methods o) n ≡ true
            → if_there o (class_holds p) ≡ Holds u → IsDeclared p m
        by_class None r v y = absurd (cc)
        by_class (Some c) r v y = declared_in_class p n j m c u w e r v y

-- ---- the start

-- a parameter that is found has a type that may be written
param_may_be_written : (p : Code) (names earlier last : Names) (xs : List Param) (y : ℕ) (x : Param)
    → in_turn (param_holds p names) xs earlier ≡ Holds last → param_called xs y ≡ Some x
    → (u : ⊤) × (forms_type p names true x.ty ≡ Holds u)
param_may_be_written p names earlier last [] y x h e = absurd (cc)
param_may_be_written p names earlier last (z ∷ zs) y x h e
    = by_name (nat_eq z.name.name y) e (param_may_be_written p names t.0 last zs y x t.2)
  where
    t : (s : Names) × (param_holds p names z earlier ≡ Holds s) × (in_turn (param_holds p names) zs s ≡ Holds last)
    t = first_holds (param_holds p names z earlier) (in_turn (param_holds p names) zs) last h

    by_name : (b : Bool) → (if b then Some z else param_called zs y) ≡ Some x
        → (param_called zs y ≡ Some x → (u : ⊤) × (forms_type p names true x.ty ≡ Holds u))
        → (u : ⊤) × (forms_type p names true x.ty ≡ Holds u)
    by_name true q ih =
        let r = first_holds (forms_type p names true z.ty) _ t.0 t.1 in
        let i : z ≡ x = same_Some z x q in
        (r.0, ap (λ (k : Param). forms_type p names true k.ty) (sym i) ∙ r.1)
    by_name false q ih = ih q

-- a name that is known in a method's signature is known at its start
known_at_start : (p : Code) (m : Definition) (outer names : Names) (room y : ℕ)
    → ((z : ℕ) → outer z ≡ true → (nat_eq io z || has_name (groups_of (own_kind p m.class)) z) ≡ true)
    → declares_groups room m.groups outer ≡ Holds names → names y ≡ true → known (start p m).group y ≡ true
known_at_start p m outer names room y o e h =
    there_so (knows p m y) (elim (or_cases (outer y) (has_name (bare_names m.groups) y)
    (declared_or_before room m.groups outer names y e h)) [
      | inl q ↦ or_left (nat_eq io y || has_name (groups_of (own_kind p m.class)) y)
          (has_name (bare_names m.groups) y) (o y q)
      | inr q ↦ or_right (nat_eq io y || has_name (groups_of (own_kind p m.class)) y)
          (has_name (bare_names m.groups) y) q
    ])
  where
    there_so : (b : Bool) → b ≡ true
        → is_some (if b then Some (given (need_for m.needs y) group.None (λ (n : GroupNeed). permission_needed n.need))
        else None) ≡ true
    there_so true q = refl
    there_so false q = absurd (cc)

-- at a method's start the groups of forms are known
pub forms_known_at_start : (p : Code) (n : ℕ) (m : Definition) → WellShaped p → TableHolds p
    → method_at p n ≡ Some m → FormsAreKnown (start p m)
forms_known_at_start p n m w h e x g l q f = by_name (nat_eq this x) q
  where
    i : IsDeclared p m
    i = method_is_declared p n m w h e

    t : (names : Names) × (declares_groups most_groups m.groups i.outer ≡ Holds names)
        × ((result_holds p names m.result >> if_there m.me (me_holds names)
        >> in_turn (param_holds p names) m.params names
        >>= λ _. (in_turn (need_holds names) m.needs no_names >> fine)) ≡ fine)
    t = first_holds (declares_groups most_groups m.groups i.outer) _ tt i.holds

    s : (u : ⊤) × (if_there m.me (me_holds t.0) ≡ Holds u)
        × ((in_turn (param_holds p t.0) m.params t.0
        >>= λ _. (in_turn (need_holds t.0) m.needs no_names >> fine)) ≡ fine)
    s =
        let r = first_holds (result_holds p t.0 m.result) _ tt t.2 in
        first_holds (if_there m.me (me_holds t.0)) _ tt r.2

    at_start : t.0 g ≡ true → known (start p m).group g ≡ true
    at_start = known_at_start p m i.outer t.0 most_groups g i.outside t.1

    by_name : (b : Bool) → (if b then option_map (me_local p m) m.me else option_map param_local
        (param_called m.params x)) ≡ Some l → known (start p m).group g ≡ true
    by_name true r =
        let k = mapped (me_local p m) m.me l r in
        let v : me_holds t.0 k.0 ≡ Holds s.0 =
        ap (λ (o : Option Me). if_there o (me_holds t.0)) (sym k.1) ∙ s.1 in
        let z = first_holds (forms_perm t.0 true k.0.perm) _ s.0 v in
        at_start (perm_known t.0 true k.0.perm z.0 g z.1 (ap (λ (y : Local). held_of y.form) k.2 ∙ f))
    by_name false r =
        let k = mapped param_local (param_called m.params x) l r in
        let v = first_holds (in_turn (param_holds p t.0) m.params t.0) _ tt s.2 in
        let z = param_may_be_written p t.0 t.0 v.0 m.params x k.0 v.1 k.1 in
        at_start (type_known p t.0 true k.0.ty z.0 g z.1 (ap (λ (y : Local). held_of y.form) k.2 ∙ f))

-- ---- all of a method

-- in each method the context stays ready
pub judging_stays_ready : JudgingKeepsRight → LinesDeclare → StatementsKeep → JudgingStaysReady
judging_stays_ready right lines keep p w t n m e =
    let r = right p w n m e in
    record {
      first = record { right = r.first; forms = forms_known_at_start p n m w t e };
      statement = λ at a c d q i j. record {
        right = r.statement at a c d q.0 q.1 i.right j;
        forms = forms_stay_known lines keep p m at a c d i.forms j;
      };
      split = λ gs c i h. record { right = r.split gs c i.right h; forms = forms_known_while_split gs c i.forms };
      lock = λ g c i h. record {
        right = r.lock g c i.right h;
        forms = forms_known_while_locked g.name c i.forms;
      };
      declared = λ b c d j. groups_were_new lines p m b c d j;
    }
