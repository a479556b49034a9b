-- What is held otherwise after a judged statement, or is new, is written by it.
use Rattle.std.proofs.Common.{◌≡◌, ◌⊎◌, inl, inr, refl, sym, ap, ◌∙◌, subst, ℕ, nat_eq, Bool, true, false, ◌||◌, not}
use Rattle.std.proofs.Common.{if◌then◌else◌, List, [], ◌∷◌, map, Option, None, Some}
use Rattle.std.specs.Prelude.{filter_map, option_map, is_some, zip}
use Rattle.std.specs.List.{cons_option}
use Rattle.std.proofs.lemmas.Bool.{eqb-true, eq-eqb}
use Rattle.ae_text.specs.declared.refusal.Spot.{Spot}
use Rattle.ae_text.specs.declared.refusal.Rule.TheVariants as rule
use Rattle.ae_tree.specs.declared.tree.NameAt.{NameAt}
use Rattle.ae_tree.specs.declared.tree.Path.{Path}
use Rattle.ae_tree.specs.declared.tree.Ty.{Ty}
use Rattle.ae_tree.specs.declared.tree.Class.{Class}
use Rattle.ae_rules.specs.declared.uses.Resource.{Resource}
use Rattle.ae_rules.specs.declared.uses.Resource.TheVariants as resource
use Rattle.ae_rules.specs.declared.uses.Mode.{Mode}
use Rattle.ae_rules.specs.declared.uses.Mode.TheVariants as mode
use Rattle.ae_tree.specs.declared.form.Perm.{Perm}
use Rattle.ae_tree.specs.declared.form.Perm.TheVariants as perm
use Rattle.ae_tree.specs.declared.form.Form.{Form}
use Rattle.ae_tree.specs.declared.form.Form.TheVariants as f
use Rattle.ae_tree.specs.Form.{form, bare_names}
use Rattle.ae_rules.specs.Edges.{Uses, is_strong}
use Rattle.ae_tree.specs.Plain.{Expression, Invocation, RightSide, Value, Taken, Zeros, Made, Returned, Lines, End}
use Rattle.ae_tree.specs.Plain.{Next, Definition, Code}
use Rattle.ae_tree.specs.Plain.{Action, Declares, Assigns, Stores, StoresAt, Calls, Chooses, ChoosesElse, Repeats}
use Rattle.ae_tree.specs.Plain.{Groups, Splits, Locks, Freezes, Shares, Prints, PrintsText, Asserts, Returns}
use Rattle.ae_rules.specs.declared.held.Held.{Held}
use Rattle.ae_rules.specs.declared.held.Held.TheVariants as held
use Rattle.ae_rules.specs.declared.held.GroupPerm.TheVariants as group
use Rattle.ae_rules.specs.Verdict.{Verdict, Holds, ◌>>=◌, require, found, in_turn, given}
use Rattle.ae_rules.specs.Lookups.{has_name, class_called, field_form}
use Rattle.ae_rules.specs.Types.{forms_type}
use Rattle.ae_rules.specs.Groups.{Groups as GroupsKnown}
use Rattle.ae_rules.specs.Groups.{known, declare, wanted_need, may_split_all, may_lock}
use Rattle.ae_rules.specs.Context.{Local, Context, is_visible, held_of, with_local, with_held, with_name_moved}
use Rattle.ae_rules.specs.Context.{closed, hold_alike}
use Rattle.ae_rules.specs.Walks.{Place, walk, owner}
use Rattle.ae_rules.specs.Expressions.{is_value, expression_spot}
use Rattle.ae_rules.specs.Into.{Source, Null, From, source, moves, source_moves, name_into}
use Rattle.ae_rules.specs.Calls.{Callee, Called, ParamSlot, group_in, slots, givens, judge_callee, judge_callee_with}
use Rattle.ae_rules.specs.Calls.{judge_call}
use Rattle.ae_rules.specs.Statements.{judge_right, judge_let, judge_assign, judge_store, groups_stay, end_block}
use Rattle.ae_rules.specs.Statements.{branches_meet, while_split, while_locked, judge_statement, judge_lines}
use Rattle.ae_rules.specs.Effects.{all_moved, gone_name, call_effect, right_effect, assign_effect, store_effect, effect}
use Rattle.ae_rules.specs.BlockLaws.{group_in_line}
use Rattle.ae_rules.specs.Uses.{use_alone, same_resource, write_use, whole_group, together, ◌∪◌, of_each, of_judged}
use Rattle.ae_rules.specs.Uses.{of_found, is_seen, outside, all_but, path_uses, walk_uses, write_uses, value_uses}
use Rattle.ae_rules.specs.Uses.{source_uses, into_uses, given_uses, argument_uses, need_uses, callee_uses, call_uses}
use Rattle.ae_rules.specs.Uses.{right_uses, assign_uses, store_uses, statement_uses, lines_use}
use Rattle.ae_rules.specs.EdgeLaws.{IsAtMost, is_of_local, ChangesAreUsed}
use Rattle.ae_rules.proofs.SeenLemmas.{found_is, same_is}
use Rattle.ae_rules.proofs.VisibleLemmas.{uses_are_allowed}
use Rattle.ae_rules.proofs.LessLemmas.{Less, less_itself, less_then, less_left, less_right, Fit, fit_within}
use Rattle.ae_rules.proofs.PathLemmas.{first_holds}
use Rattle.ae_rules.proofs.GroupLemmas.{declared_is}
use Rattle.ae_rules.proofs.EffectLemmas.{walk_form, callee_is, effects_are_exact}
use Rattle.ae_rules.proofs.DeclareLemmas.{declares}
use Rattle.ae_rules.proofs.TruthLemmas.{held_is_one, shown_behind_test}

-- ---- locals that are written

-- what is held otherwise, or is new, is written
abbrev pub Written : Context → Context → Uses → Type 0
Written c d u = (x : ℕ) → Less (write_use x) u ⊎ (d.local x ≡ c.local x)

written_then : (c d e : Context) (u : Uses) → Written c d u → Written d e u → Written c e u
written_then c d e u h k x = elim (h x) [ inl l ↦ inl l | inr s ↦ elim (k x) [ inl l ↦ inl l | inr t ↦ inr (t ∙ s) ] ]

written_left : (c d : Context) (u v : Uses) → Written c d u → Written c d (u ∪ v)
written_left c d u v h x = elim (h x) [ inl l ↦ inl (less_left (write_use x) u v l) | inr s ↦ inr s ]

written_right : (c d : Context) (u v : Uses) → Written c d v → Written c d (u ∪ v)
written_right c d u v h x = elim (h x) [ inl l ↦ inl (less_right (write_use x) u v l) | inr s ↦ inr s ]

none_written : (c : Context) (u : Uses) → Written c c u
none_written c u x = inr refl

at_name : (x y : ℕ) (b : Bool) (o q : Option Local) → nat_eq x y ≡ b → Less (write_use y) (write_use x)
    ⊎ ((if b then o else q) ≡ q)
at_name x y true o q e = inl (subst (λ (z : ℕ). Less (write_use z) (write_use x)) (eqb-true x y e)
    (less_itself (write_use x)))
at_name x y false o q e = inr refl

held_written : (x : ℕ) (h : Held) (c : Context) → Written c (with_held x h c) (write_use x)
held_written x h c y = at_name x y (nat_eq x y) (option_map (λ (l : Local). record l { held = h }) (c.local y))
    (c.local y) refl

local_written : (x : ℕ) (t : Form) (c : Context) → Written c (with_local x t c) (write_use x)
local_written x t c y = at_name x y (nat_eq x y) (Some (record { form = t; held = held_of t; stays = false }))
    (c.local y) refl

-- ---- names that move

found_name : (o : Option ℕ) (n : ℕ) → o ≡ Some n → Less (write_use n) (of_found o write_use)
found_name None n e = absurd (cc)
found_name (Some m) n e = subst (λ (z : ℕ). Less (write_use z) (write_use m)) (same_number e)
    (less_itself (write_use m))
  where
    same_number : Some m ≡ Some n → m ≡ n
    same_number h = cc

source_named : (p : Code) (c : Context) (q : Perm) (o : Option Source) (n : ℕ) → given o None (source_moves q)
    ≡ Some n → Less (write_use n) (of_found o (source_uses p c q))
source_named p c q None n e = absurd (cc)
source_named p c q (Some Null) n e = absurd (cc)
source_named p c q (Some (From path)) n e = less_right (write_use n) (path_uses p c path)
    (of_found (moves q path) write_use) (found_name (moves q path) n e)

into_named : (p : Code) (c : Context) (t : Form) (e : Expression) (n : ℕ) → name_into t e ≡ Some n
    → Less (write_use n) (into_uses p c t e)
into_named p c f.Int e n h = absurd (cc)
into_named p c f.Bool e n h = absurd (cc)
into_named p c (f.Object q k) e n h = source_named p c q (source e) n h

lent_named : (p : Code) (c : Context) (q : Perm) (path : Path) (n : ℕ) → moves q path ≡ Some n
    → Less (write_use n) (given_uses p c q (From path))
lent_named p c perm.Unique path n e = less_left (write_use n) (write_use path.root.name) (walk_uses p c path)
    (found_name (Some path.root.name) n e)
lent_named p c perm.Immutable path n e = absurd (cc)
lent_named p c perm.Lent path n e = absurd (cc)
lent_named p c (perm.Shared g) path n e = absurd (cc)

given_named : (p : Code) (c : Context) (q : Perm) (o : Option Source) (n : ℕ) → given o None (source_moves q) ≡ Some n
    → Less (write_use n) (of_found o (given_uses p c q))
given_named p c q None n e = absurd (cc)
given_named p c q (Some Null) n e = absurd (cc)
given_named p c q (Some (From path)) n e = lent_named p c q path n e

argument_named : (p : Code) (c : Context) (t : Form) (e : Expression) (n : ℕ) → name_into t e ≡ Some n
    → Less (write_use n) (argument_uses p c t e)
argument_named p c f.Int e n h = absurd (cc)
argument_named p c f.Bool e n h = absurd (cc)
argument_named p c (f.Object q k) e n h = given_named p c q (source e) n h

moved_written : (o : Option ℕ) (c : Context) (u : Uses) → ((n : ℕ) → o ≡ Some n → Less (write_use n) u)
    → Written c (with_name_moved o c) u
moved_written None c u h y = inr refl
moved_written (Some x) c u h y = elim (held_written x held.None c y)
    [ inl l ↦ inl (less_then (write_use y) (write_use x) u l (h x refl)) | inr s ↦ inr s ]

-- each name of a list that moves
named_in : {A : Type 0} (names : A → Option ℕ) (uses : A → Uses)
    → ((x : A) (n : ℕ) → names x ≡ Some n → Less (write_use n) (uses x)) → (xs : List A) (y : ℕ)
    → has_name (filter_map names xs) y ≡ true → Less (write_use y) (of_each uses xs)
named_in names uses h [] y e = absurd (cc)
named_in names uses h (x ∷ xs) y e = by_name (λ k. named_in names uses h xs y k) (names x) refl e
  where
    later : Less (write_use y) (of_each uses xs) → Less (write_use y) (uses x ∪ of_each uses xs)
    later l = less_right (write_use y) (uses x) (of_each uses xs) l

    by_name : (has_name (filter_map names xs) y ≡ true → Less (write_use y) (of_each uses xs)) → (o : Option ℕ)
        → names x ≡ o → has_name (cons_option o (filter_map names xs)) y ≡ true
        → Less (write_use y) (uses x ∪ of_each uses xs)
    by_name ih None q e = later (ih e)
    by_name ih (Some n) q e = by_test (nat_eq n y) refl e
      where
        by_test : (b : Bool) → nat_eq n y ≡ b → (b || has_name (filter_map names xs) y) ≡ true
            → Less (write_use y) (uses x ∪ of_each uses xs)
        by_test true k e = less_left (write_use y) (uses x) (of_each uses xs)
            (subst (λ (z : ℕ). Less (write_use z) (uses x)) (eqb-true n y k) (h x n q))
        by_test false k e = later (ih e)

all_written : {A : Type 0} (names : A → Option ℕ) (uses : A → Uses)
    → ((x : A) (n : ℕ) → names x ≡ Some n → Less (write_use n) (uses x)) → (xs : List A) (c : Context)
    → Written c (all_moved (filter_map names xs) c) (of_each uses xs)
all_written names uses h xs c y = by_test (has_name (filter_map names xs) y) refl
  where
    by_test : (b : Bool) → has_name (filter_map names xs) y ≡ b
        → Less (write_use y) (of_each uses xs)
        ⊎ ((if b then option_map (λ (l : Local). record l { held = held.None }) (c.local y) else c.local y)
        ≡ c.local y)
    by_test true e = inl (named_in names uses h xs y e)
    by_test false e = inr refl

-- ---- right sides

call_written : (p : Code) (c : Context) (i : Invocation) (d : Called) → judge_call p c i ≡ Holds d
    → Written c (call_effect p c i) (call_uses p c i)
call_written p c i d h =
    let r = first_holds (judge_callee p c i.on i.method) (judge_callee_with p c i) d h in
    subst (λ (o : Option Callee). Written c (given o c taken) (call_uses p c i))
    (sym ((callee_is p c i.on i.method).value r.0 r.1))
    (subst (λ (v : Verdict Callee). Written c (taken r.0) (of_judged v (callee_uses p c i))) (sym r.1) (by_callee r.0))
  where
    pairs : Callee → List (ParamSlot × Expression)
    pairs m = zip (slots p (group_in m i.groups) m.method) (givens i)

    taken : Callee → Context
    taken m = all_moved (filter_map gone_name (pairs m)) c

    args : Callee → Uses
    args m = of_each (λ (x : ParamSlot × Expression). argument_uses p c x.0.form x.1) (pairs m)

    by_callee : (m : Callee) → Written c (taken m) (callee_uses p c i m)
    by_callee m = written_left c (taken m) (args m)
        (of_each need_uses (map (wanted_need (group_in m i.groups)) m.method.needs))
        (all_written gone_name (λ (x : ParamSlot × Expression). argument_uses p c x.0.form x.1)
        (λ (x : ParamSlot × Expression) n e. argument_named p c x.0.form x.1 n
        (shown_behind_test x.0.away (name_into x.0.form x.1) n e)) (pairs m) c)

made_written : (p : Code) (c : Context) (gs : List NameAt) (args : List Expression) (o : Option Class)
    → Written c (given o c (λ (k : Class). all_moved
    (filter_map (λ (y : Form × Expression). name_into y.0 y.1)
    (zip (map (field_form k (bare_names gs)) k.fields) args)) c))
    (of_found o (λ (k : Class). of_each (λ (y : Form × Expression). into_uses p c y.0 y.1)
    (zip (map (field_form k (bare_names gs)) k.fields) args)))
made_written p c gs args None = none_written c _
made_written p c gs args (Some k) =
    all_written (λ (y : Form × Expression). name_into y.0 y.1) (λ (y : Form × Expression). into_uses p c y.0 y.1)
    (λ (y : Form × Expression) n e. into_named p c y.0 y.1 n e)
    (zip (map (field_form k (bare_names gs)) k.fields) args) c

right_written : (p : Code) (c : Context) (t : Form) (e : RightSide) (d : Context) → judge_right p c t e ≡ Holds d
    → Written c (right_effect p c t e) (right_uses p c t e)
right_written p c t (Value e) d h = moved_written (name_into t e) c (into_uses p c t e) (into_named p c t e)
right_written p c t (Taken path at) d h = none_written c _
right_written p c t (Zeros e at) d h = none_written c _
right_written p c t (Made x gs args at) d h = made_written p c gs args (class_called p x.name)
right_written p c t (Returned i) d h = let r = first_holds (judge_call p c i) _ d h in call_written p c i r.0 r.1

let_written : (p : Code) (c : Context) (t : Ty) (x : NameAt) (e : RightSide) (d : Context)
    → judge_let p c t x e ≡ Holds d
    → Written c (with_local x.name (form t) (right_effect p c (form t) e))
    (write_use x.name ∪ right_uses p c (form t) e)
let_written p c t x e d h =
    let a = first_holds (forms_type p (known c.group) false t) _ d h in
    let b = first_holds (require (not (is_visible c x.name)) rule.DuplicateLocal x.at) _ d a.2 in
    let r = first_holds (judge_right p c (form t) e) _ d b.2 in
    let u : Uses = right_uses p c (form t) e in
    let after : Context = right_effect p c (form t) e
    in written_then c after (with_local x.name (form t) after) (write_use x.name ∪ u)
    (written_right c after (write_use x.name) u (right_written p c (form t) e r.0 r.1))
    (written_left after (with_local x.name (form t) after) (write_use x.name) u (local_written x.name (form t) after))

assign_written : (p : Code) (c : Context) (x : NameAt) (e : RightSide) (d : Context) → judge_assign p c x e ≡ Holds d
    → Written c (assign_effect p c x e) (assign_uses p c x e)
assign_written p c x e d h =
    let a = first_holds (found (c.local x.name) rule.UnknownName x.at) _ d h in
    let b = first_holds (require (not a.0.stays) rule.ParameterMoved x.at) _ d a.2 in
    let r = first_holds (judge_right p c a.0.form e) _ d b.2 in
    let u : Uses = right_uses p c a.0.form e in
    let after : Context = right_effect p c a.0.form e in
    let all : Written c (with_held x.name (held_of a.0.form) after) (write_use x.name ∪ u) =
    written_then c after (with_held x.name (held_of a.0.form) after) (write_use x.name ∪ u)
    (written_right c after (write_use x.name) u (right_written p c a.0.form e r.0 r.1))
    (written_left after (with_held x.name (held_of a.0.form) after) (write_use x.name) u
    (held_written x.name (held_of a.0.form) after)) in
    subst (λ (o : Option Local). Written c
    (given o c (λ (l : Local). with_held x.name (held_of l.form) (right_effect p c l.form e)))
    (write_use x.name ∪ of_found o (λ (l : Local). right_uses p c l.form e)))
    (sym (found_is (c.local x.name) rule.UnknownName x.at a.0 a.1)) all

store_written : (p : Code) (c : Context) (path : Path) (e : Expression) (at : Spot) (d : Context)
    → judge_store p c path e at ≡ Holds d
    → Written c (store_effect p c path e) (store_uses p c path e)
store_written p c path e at d h =
    let w = first_holds (walk p c path) _ d h in
    let u : Uses = into_uses p c w.0.form e in
    subst (λ (o : Option Form). Written c (given o c (λ (t : Form). with_name_moved (name_into t e) c))
    (store_uses p c path e)) (sym ((walk_form p c path).value w.0 w.1))
    (subst (λ (v : Verdict Place). Written c (with_name_moved (name_into w.0.form e) c)
    (write_uses p c (owner path) ∪ of_judged v (λ (q : Place). into_uses p c q.form e))) (sym w.1)
    (written_right c (with_name_moved (name_into w.0.form e) c) (write_uses p c (owner path)) u
    (moved_written (name_into w.0.form e) c u (into_named p c w.0.form e))))

return_written : (p : Code) (c : Context) (e : Expression) (o : Option Ty)
    → Written c (given o c (λ (t : Ty). with_name_moved (name_into (form t) e) c))
    (of_found o (λ (t : Ty). into_uses p c (form t) e))
return_written p c e None = none_written c _
return_written p c e (Some t) = moved_written (name_into (form t) e) c (into_uses p c (form t) e)
    (into_named p c (form t) e)

-- ---- blocks

seen_at : (m : Mode) (b s : Bool) (o : Option Mode) → (b ≡ true → s ≡ true) → IsAtMost (if b then Some m else None) o
    → IsAtMost (if b then Some m else None) (if s then o else None)
seen_at m true true o h l = l
seen_at m true false o h l = absurd (no_truth (h refl))
  where
    no_truth : false ≡ true → ⊥
    no_truth e = cc
seen_at m false s o h l = tt

-- a use of what is visible outside counts there
pub used_seen : (m : Mode) (c : Context) (r : Resource) (u : Uses) → is_seen c r ≡ true → Less (use_alone m r) u
    → Less (use_alone m r) (outside c u)
used_seen m c r u s l = record {
  at = λ z. seen_at m (same_resource r z) (is_seen c z) (u z)
      (λ e. subst (λ (y : Resource). is_seen c y ≡ true) (same_is r z e) s) (l.at z);
}

apart_at : (m : Mode) (b s : Bool) (o : Option Mode) → (b ≡ true → s ≡ false)
    → IsAtMost (if b then Some m else None) o → IsAtMost (if b then Some m else None) (if s then None else o)
apart_at m true true o h l = absurd (no_lie (h refl))
  where
    no_lie : true ≡ false → ⊥
    no_lie e = cc
apart_at m true false o h l = l
apart_at m false s o h l = tt

-- a use of a local is none of a group
pub used_apart : (m : Mode) (x g : ℕ) (u : Uses) → Less (use_alone m (resource.Local x)) u
    → Less (use_alone m (resource.Local x)) (all_but (resource.Group g) u)
used_apart m x g u l = record {
  at = λ r. apart_at m (same_resource (resource.Local x) r) (same_resource (resource.Group g) r) (u r)
      (λ e. subst (λ (z : Resource). same_resource (resource.Group g) z ≡ false)
      (same_is (resource.Local x) r e) refl) (l.at r);
}

written_apart : (c d : Context) (g : ℕ) (u : Uses) → Written c d u → Written c d (all_but (resource.Group g) u)
written_apart c d g u h x = elim (h x) [ inl l ↦ inl (used_apart mode.Write x g u l) | inr s ↦ inr s ]

closed_written : (c start d : Context) (u : Uses) → ((x : ℕ) → start.local x ≡ c.local x) → Written start d u
    → Written c (closed c d) (outside c u)
closed_written c start d u s h x = by_local (c.local x) refl
  where
    by_local : (o : Option Local) → c.local x ≡ o → Less (write_use x) (outside c u)
        ⊎ ((closed c d).local x ≡ c.local x)
    by_local None e = inr (ap (λ (o : Option Local). if is_some o then d.local x else None) e ∙ sym e)
    by_local (Some l) e = elim (h x) [
      | inl w ↦ inl (used_seen mode.Write c (resource.Local x) u (ap is_some e) w)
      | inr k ↦ inr (ap (λ (o : Option Local). if is_some o then d.local x else None) e ∙ k ∙ s x)
    ]

block_written : (p : Code) (m : Definition) (b : Lines) (c start e : Context) → ((x : ℕ) → start.local x ≡ c.local x)
    → ((d : Context) → judge_lines p m b start ≡ Holds d → Written start d (lines_use p m b start))
    → (judge_lines p m b start >>= end_block p c b) ≡ Holds e
    → Written c e (outside c (lines_use p m b start))
block_written p m b c start e s h k =
    let r = first_holds (judge_lines p m b start) (end_block p c b) e k in
    let t = first_holds (groups_stay p c r.0 b) (λ _. Holds (closed c r.0)) e r.2 in
    subst (λ (z : Context). Written c z (outside c (lines_use p m b start))) (held_is_one (closed c r.0) e t.2)
    (closed_written c start r.0 (lines_use p m b start) s (h r.0 r.1))

-- what branches that meet leave is what the second leaves
met : (p : Code) (c : Context) (at : Spot) (d e x : Context) → branches_meet p c at d e ≡ Holds x → e ≡ x
met p c at d e x h = let r = first_holds (require (hold_alike p c d e) rule.BranchesDiffer at)
    (λ _. Holds e) x h in held_is_one e x r.2

by_effect : (p : Code) (m : Definition) (at : Spot) (a : Action) (c d : Context)
    → judge_statement p m at a c ≡ Holds d → Written c (effect p m a c) (statement_uses p m a c)
    → Written c d (statement_uses p m a c)
by_effect p m at a c d h w = subst (λ (z : Context). Written c z (statement_uses p m a c))
    (sym ((effects_are_exact p m).0 at a c d h)) w

mutual
  statement_written : (p : Code) (m : Definition) (at : Spot) (a : Action) (c d : Context)
      → judge_statement p m at a c ≡ Holds d → Written c d (statement_uses p m a c)
  statement_written p m at (Declares t x e) c d h = by_effect p m at (Declares t x e) c d h (let_written p c t x e d h)
  statement_written p m at (Assigns x e) c d h = by_effect p m at (Assigns x e) c d h (assign_written p c x e d h)
  statement_written p m at (Stores path e) c d h = by_effect p m at (Stores path e) c d h
      (store_written p c path e (expression_spot e) d h)
  statement_written p m at (StoresAt path i e) c d h = by_effect p m at (StoresAt path i e) c d h (none_written c _)
  statement_written p m at (Calls i) c d h = let r = first_holds (judge_call p c i) _ d h in by_effect p m at
      (Calls i) c d h (call_written p c i r.0 r.1)
  statement_written p m at (Chooses e n b) c d h = by_effect p m at (Chooses e n b) c d h (none_written c _)
  statement_written p m at (ChoosesElse e n b k b') c d h =
      let other : Context → Verdict Context = λ x. (judge_lines p m b' c >>= end_block p c b')
      >>= λ y. branches_meet p c at x y in
      let r = first_holds (is_value p c f.Bool e) (λ _. (judge_lines p m b c >>= end_block p c b) >>= other) d h in
      let t = first_holds (judge_lines p m b c >>= end_block p c b) other d r.2 in
      let s = first_holds (judge_lines p m b' c >>= end_block p c b') (λ y. branches_meet p c at t.0 y) d t.2 in
      let w : Written c s.0 (outside c (lines_use p m b' c)) = block_written p m b' c c s.0 (λ x. refl)
      (λ z l. lines_written p m b' c z l) s.1 in
      subst (λ (z : Context). Written c z (statement_uses p m (ChoosesElse e n b k b') c)) (met p c at t.0 s.0 d s.2)
      (written_right c s.0 (value_uses p c e) (outside c (lines_use p m b c) ∪ outside c (lines_use p m b' c))
      (written_right c s.0 (outside c (lines_use p m b c)) (outside c (lines_use p m b' c)) w))
  statement_written p m at (Repeats e n b) c d h = by_effect p m at (Repeats e n b) c d h (none_written c _)
  statement_written p m at (Groups g) c d h = by_effect p m at (Groups g) c d h (λ x. inr refl)
  statement_written p m at (Splits gs n b) c d h =
      let r = first_holds (may_split_all c.group gs) (λ _. judge_lines p m b (while_split gs c) >>= end_block p c b) d
      h in
      written_right c d (of_each (λ (g : NameAt). whole_group g.name) gs)
      (outside c (lines_use p m b (while_split gs c)))
      (block_written p m b c (while_split gs c) d (λ x. refl) (λ z l. lines_written p m b (while_split gs c) z l) r.2)
  statement_written p m at (Locks g n b) c d h =
      let r = first_holds (may_lock c.group g) (λ _. judge_lines p m b (while_locked g.name c) >>= end_block p c b) d
      h in
      written_right c d (together g.name)
      (all_but (resource.Group g.name) (outside c (lines_use p m b (while_locked g.name c))))
      (written_apart c d g.name (outside c (lines_use p m b (while_locked g.name c)))
      (block_written p m b c (while_locked g.name c) d (λ x. refl)
      (λ z l. lines_written p m b (while_locked g.name c) z l) r.2))
  statement_written p m at (Freezes x) c d h = by_effect p m at (Freezes x) c d h (held_written x.name held.Immutable c)
  statement_written p m at (Shares x g) c d h = by_effect p m at (Shares x g) c d h
      (written_left c (with_held x.name (held.Shared g.name) c) (write_use x.name) (whole_group g.name)
      (held_written x.name (held.Shared g.name) c))
  statement_written p m at (Prints e) c d h = by_effect p m at (Prints e) c d h (none_written c _)
  statement_written p m at (PrintsText s) c d h = by_effect p m at (PrintsText s) c d h (none_written c _)
  statement_written p m at (Asserts e) c d h = by_effect p m at (Asserts e) c d h (none_written c _)
  statement_written p m at (Returns e) c d h = by_effect p m at (Returns e) c d h (return_written p c e m.result)

  lines_written : (p : Code) (m : Definition) (b : Lines) (c d : Context) → judge_lines p m b c ≡ Holds d
      → Written c d (lines_use p m b c)
  lines_written p m End c d h = subst (λ (z : Context). Written c z (lines_use p m End c)) (held_is_one c d h)
      (none_written c _)
  lines_written p m (Next at a rest) c d h =
      let r = first_holds (judge_statement p m at a c) (judge_lines p m rest) d h in
      let later : Uses = of_judged (judge_statement p m at a c) (lines_use p m rest) in
      written_then c r.0 d (statement_uses p m a c ∪ later)
      (written_left c r.0 (statement_uses p m a c) later (statement_written p m at a c r.0 r.1))
      (written_right r.0 d (statement_uses p m a c) later
      (subst (λ (v : Verdict Context). Written r.0 d (of_judged v (lines_use p m rest))) (sym r.1)
      (lines_written p m rest r.0 d r.2)))

-- ---- groups that are declared

-- what is not declared is as before
pub declared_or_same : (xs : List NameAt) (gs hs : GroupsKnown) → in_turn declare xs gs ≡ Holds hs → (y : ℕ)
    → (has_name (bare_names xs) y ≡ true) ⊎ (hs y ≡ gs y)
declared_or_same [] gs hs e y = inr (ap (λ (z : GroupsKnown). z y) (same_groups e))
  where
    same_groups : Holds gs ≡ Holds hs → hs ≡ gs
    same_groups h = cc
declared_or_same (x ∷ xs) gs hs e y =
    let r = first_holds (declare x gs) (in_turn declare xs) hs e in
    let k = (declared_is x gs).value r.0 r.1 in
    elim (declared_or_same xs r.0 hs r.2 y) [
      | inl l ↦ inl (also (nat_eq x.name y) (has_name (bare_names xs) y) l)
      | inr s ↦ by_name (nat_eq x.name y) refl (s ∙ ap (λ (z : GroupsKnown). z y) (sym k.1))
    ]
  where
    also : (a b : Bool) → b ≡ true → (a || b) ≡ true
    also true b h = refl
    also false b h = h

    by_name : (b : Bool) → nat_eq x.name y ≡ b → hs y ≡ (if b then Some group.Exclusive else gs y)
        → ((b || has_name (bare_names xs) y) ≡ true) ⊎ (hs y ≡ gs y)
    by_name true q s = inl refl
    by_name false q s = inr s

group_whole : (a : Action) (p : Code) (m : Definition) (c : Context) (y : ℕ)
    → has_name (bare_names (group_in_line a)) y ≡ true → Less (whole_group y) (statement_uses p m a c)
group_whole (Groups g) p m c y e = subst (λ (z : ℕ). Less (whole_group z) (whole_group g.name))
    (eqb-true g.name y (only (nat_eq g.name y) e)) (less_itself (whole_group g.name))
  where
    only : (b : Bool) → (b || false) ≡ true → b ≡ true
    only true h = refl
    only false h = h
group_whole _ p m c y e = absurd (cc)

-- ---- modes

write_of : (o : Option Mode) → IsAtMost (Some mode.Write) o → ((n : Mode) → o ≡ Some n → is_of_local n ≡ true)
    → o ≡ Some mode.Write
write_of None l h = absurd l
write_of (Some mode.Write) l h = refl
write_of (Some mode.Read) l h = absurd (no_read (l refl))
  where
    no_read : is_strong mode.Read ≡ true → ⊥
    no_read e = cc
write_of (Some mode.GroupShared) l h = absurd (no_group (h mode.GroupShared refl))
  where
    no_group : is_of_local mode.GroupShared ≡ true → ⊥
    no_group e = cc
write_of (Some mode.GroupWhole) l h = absurd (no_group (h mode.GroupWhole refl))
  where
    no_group : is_of_local mode.GroupWhole ≡ true → ⊥
    no_group e = cc

whole_of : (o : Option Mode) → IsAtMost (Some mode.GroupWhole) o
    → ((n : Mode) → o ≡ Some n → not (is_of_local n) ≡ true) → o ≡ Some mode.GroupWhole
whole_of None l h = absurd l
whole_of (Some mode.GroupWhole) l h = refl
whole_of (Some mode.Read) l h = absurd (no_local (h mode.Read refl))
  where
    no_local : not (is_of_local mode.Read) ≡ true → ⊥
    no_local e = cc
whole_of (Some mode.Write) l h = absurd (no_local (h mode.Write refl))
  where
    no_local : not (is_of_local mode.Write) ≡ true → ⊥
    no_local e = cc
whole_of (Some mode.GroupShared) l h = absurd (no_shared (l refl))
  where
    no_shared : is_strong mode.GroupShared ≡ true → ⊥
    no_shared e = cc

pub at_itself : (m : Mode) (x : ℕ) (o : Option Mode) → IsAtMost (if nat_eq x x then Some m else None) o
    → IsAtMost (Some m) o
at_itself m x o l = subst (λ (b : Bool). IsAtMost (if b then Some m else None) o) (eq-eqb x x refl) l

pub changes_are_used : ChangesAreUsed
changes_are_used p m at a c d h =
    let u : Uses = statement_uses p m a c in
    let fit : Fit u = fit_within d u (λ r n e. uses_are_allowed p m at a c d r n h e) in (
      λ x. elim (statement_written p m at a c d h x) [
        | inl l ↦ inl (write_of (u (resource.Local x))
            (at_itself mode.Write x (u (resource.Local x)) (l.at (resource.Local x)))
            (λ n e. fit (resource.Local x) n e))
        | inr s ↦ inr s
      ],
      λ g. elim (declared_or_same (group_in_line a) c.group d.group (declares p m at a c d h).group g) [
        | inl e ↦ inl (whole_of (u (resource.Group g))
            (at_itself mode.GroupWhole g (u (resource.Group g)) ((group_whole a p m c g e).at (resource.Group g)))
            (λ n e. fit (resource.Group g) n e))
        | inr s ↦ inr s
      ],
    )
