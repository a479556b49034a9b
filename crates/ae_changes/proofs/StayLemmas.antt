-- What stays is not written: a local that holds something else than all of an object is not moved, lent as unique,
-- frozen, shared or written into.
use Rattle.std.proofs.Common.{◌≡◌, ◌≢◌, refl, sym, ap, ◌∙◌, subst, ℕ, nat_eq, Bool, true, ◌&&◌}
use Rattle.std.proofs.Common.{List, [], ◌∷◌, map, zip, length, Option, Some}
use Rattle.std.specs.Prelude.{⊤}
use Rattle.ae_text.specs.declared.refusal.Spot.{Spot}
use Rattle.ae_text.specs.declared.refusal.Rule.TheVariants as rule
use Rattle.ae_tree.specs.declared.tree.NameAt.{NameAt}
use Rattle.ae_tree.specs.declared.tree.Path.{Path}
use Rattle.ae_tree.specs.declared.tree.Class.{Class}
use Rattle.ae_tree.specs.declared.tree.Need.TheVariants as need_of
use Rattle.ae_tree.specs.declared.form.Perm.{Perm}
use Rattle.ae_tree.specs.declared.form.Perm.TheVariants as perm
use Rattle.ae_tree.specs.declared.form.Kind.{Kind}
use Rattle.ae_tree.specs.declared.form.Form.{Form}
use Rattle.ae_tree.specs.declared.form.Form.TheVariants as f
use Rattle.ae_tree.specs.Form.{bare_names}
use Rattle.ae_tree.specs.Plain.{Code, Expression, Invocation}
use Rattle.ae_tree.specs.Plain.{RightSide, Value, Taken, Zeros, Made, Returned}
use Rattle.ae_rules.specs.declared.held.Held.{Held}
use Rattle.ae_rules.specs.declared.held.Held.TheVariants as held
use Rattle.ae_rules.specs.Edges.{Uses}
use Rattle.ae_rules.specs.Verdict.{Verdict, Holds, require, found, in_turn}
use Rattle.ae_rules.specs.Forms.{is_object_of, is_unique}
use Rattle.ae_rules.specs.Lookups.{class_called, field_form, field_of}
use Rattle.ae_rules.specs.Types.{groups_fit}
use Rattle.ae_rules.specs.Groups.{Wanted, known, wanted_need}
use Rattle.ae_rules.specs.Context.{Local, Context, access, is_held_alone}
use Rattle.ae_rules.specs.Walks.{Place, held_inside, held_in_field, owner, step, walk, is_name}
use Rattle.ae_rules.specs.Expressions.{expression_spot}
use Rattle.ae_rules.specs.Into.{Source, Null, From, source, moves, may_leave, into_unique, path_fits}
use Rattle.ae_rules.specs.Into.{source_fits, fits, name_into, into}
use Rattle.ae_rules.specs.Calls.{Roots, no_roots, apart, Filled, fills, judge_new, Callee, group_in, ParamSlot, slots}
use Rattle.ae_rules.specs.Calls.{givens, to_unique, to_param, root_apart, path_to_param, source_to_param, to_form}
use Rattle.ae_rules.specs.Calls.{to_slot, Called, judge_callee, judge_callee_with, judge_call}
use Rattle.ae_rules.specs.Statements.{judge_right}
use Rattle.ae_rules.specs.Uses.{of_each, of_judged, of_found, write_use, root_written, write_uses}
use Rattle.ae_rules.specs.Uses.{end_uses, path_uses, walk_uses, source_uses, into_uses, root_lent, given_uses}
use Rattle.ae_rules.specs.Uses.{argument_uses, need_uses, callee_uses, call_uses, made_uses, right_uses}
use Rattle.ae_changes.proofs.from_rules.PathLemmas.{first_holds}
use Rattle.ae_changes.proofs.from_rules.SeenLemmas.{found_is, required}
use Rattle.ae_changes.proofs.from_text.Basics.{second_of_both}
use Rattle.ae_changes.proofs.ReadLemmas.{IsUnwritten, unwritten_both, unwritten_judged}
use Rattle.ae_changes.proofs.ReadLemmas.{unwritten_each, unwritten_turns, unwritten_write}
use Rattle.ae_changes.proofs.ReadLemmas.{unwritten_read, unwritten_walk, unwritten_path, unwritten_end, unwritten_value}

-- something else is held of the local than all of an object
abbrev pub HeldElse : Context → ℕ → Type 0
HeldElse c x = (l : Local) → c.local x ≡ Some l → l.held ≢ held.Unique

-- ---- walks

whole_inside : (h : Held) → held_inside h ≡ held.Unique → h ≡ held.Unique
whole_inside held.None e = absurd (cc e)
whole_inside held.Unique e = refl
whole_inside (held.Split n) e = absurd (cc e)
whole_inside held.Immutable e = absurd (cc e)
whole_inside held.Lent e = absurd (cc e)
whole_inside (held.Shared g) e = absurd (cc e)
whole_inside (held.Inner g) e = absurd (cc e)

-- of an object with a field of which all is held all is held
whole_object : (h : Held) (t : Form) → held_in_field h t ≡ held.Unique → h ≡ held.Unique
whole_object h f.Int e = absurd (cc e)
whole_object h f.Bool e = absurd (cc e)
whole_object h (f.Object perm.Unique k) e = whole_inside h e
whole_object h (f.Object perm.Immutable k) e = absurd (cc e)
whole_object h (f.Object perm.Lent k) e = absurd (cc e)
whole_object h (f.Object (perm.Shared g) k) e = absurd (cc e)

steps_alone : (p : Code) (c : Context) (at : Spot) (xs : List NameAt) (w u : Place)
    → in_turn (step p c at) xs w ≡ Holds u → u.held ≡ held.Unique → w.held ≡ held.Unique
steps_alone p c at [] w u e h = let same : w ≡ u = cc e in ap (λ (v : Place). v.held) same ∙ h
steps_alone p c at (x ∷ xs) w u e h =
    let a = first_holds (step p c at x w) (in_turn (step p c at) xs) u e in
    let b = first_holds (found (field_of p w.form x.name) rule.UnknownField x.at) _ a.0 a.1 in
    let d = first_holds (access c at w.held) (λ _. Holds (record { form = b.0; held = held_in_field w.held b.0 })) a.0
    b.2 in
    let same : record { form = b.0; held = held_in_field w.held b.0 } ≡ a.0 = same_place _ a.0 d.2 in
    whole_object w.held b.0 (ap (λ (v : Place). v.held) same ∙ steps_alone p c at xs a.0 u a.2 h)
  where
    same_place : (v w : Place) → Holds v ≡ Holds w → v ≡ w
    same_place v w k = cc k

-- where a walk leads to what is held Unique, its root is another local
other_root : (p : Code) (c : Context) (x : ℕ) (path : Path) (w : Place) → HeldElse c x → walk p c path ≡ Holds w
    → w.held ≡ held.Unique → path.root.name ≢ x
other_root p c x path w z e h n =
    let a = first_holds (found (c.local path.root.name) rule.UnknownName path.root.at) _ w e in
    let there : c.local path.root.name ≡ Some a.0
    = found_is (c.local path.root.name) rule.UnknownName path.root.at a.0 a.1 in
    z a.0 (subst (λ (y : ℕ). c.local y ≡ Some a.0) n there)
    (steps_alone p c path.root.at path.steps (record { form = a.0.form; held = a.0.held }) w a.2 h)

unwritten_root : (p : Code) (c : Context) (x : ℕ) (path : Path) (w : Place) → HeldElse c x → walk p c path ≡ Holds w
    → IsUnwritten x (root_written w.held path.root.name)
unwritten_root p c x path w z e = by_held w.held refl
  where
    by_held : (h : Held) → w.held ≡ h → IsUnwritten x (root_written h path.root.name)
    by_held held.Unique i = unwritten_write x path.root.name (other_root p c x path w z e i)
    by_held (held.Split n) i = unwritten_read x path.root.name
    by_held held.Immutable i = unwritten_read x path.root.name
    by_held held.Lent i = unwritten_read x path.root.name
    by_held (held.Shared g) i = unwritten_read x path.root.name
    by_held (held.Inner g) i = unwritten_read x path.root.name
    by_held held.None i = unwritten_read x path.root.name

-- A write to an object does not write the local.
pub write_elsewhere : (p : Code) (c : Context) (x : ℕ) (path : Path) → HeldElse c x
    → IsUnwritten x (write_uses p c path)
write_elsewhere p c x path z = unwritten_both x (end_uses p c path)
    (of_judged (walk p c path) (λ w. root_written w.held path.root.name)) (unwritten_end p c x path)
    (unwritten_judged x (walk p c path) (λ w. root_written w.held path.root.name)
    (λ w e. unwritten_root p c x path w z e))

-- ---- what goes into a form

-- What is held alone is held Unique.
pub alone_is : (h : Held) → is_held_alone h ≡ true → h ≡ held.Unique
alone_is held.Unique e = refl
alone_is (held.Split n) e = absurd (cc e)
alone_is held.Immutable e = absurd (cc e)
alone_is held.Lent e = absurd (cc e)
alone_is (held.Shared g) e = absurd (cc e)
alone_is (held.Inner g) e = absurd (cc e)
alone_is held.None e = absurd (cc e)

unwritten_moved : (p : Code) (c : Context) (x : ℕ) (q : Perm) (k : Kind) (path : Path) (at : Spot) (u : ⊤)
    → HeldElse c x
    → path_fits p c q k path at ≡ Holds u → IsUnwritten x (of_found (moves q path) write_use)
unwritten_moved p c x perm.Unique k path at u z h =
    let a = first_holds (walk p c path) _ u h in
    let w : Place = a.0 in
    let b = first_holds (require (is_object_of k w.form) rule.TypeMismatch at) _ u a.2 in
    let d = first_holds (may_leave w.held at) (λ _. into_unique (is_name path) w.held at) u b.2 in
    let alone : is_held_alone w.held ≡ true = second_of_both (is_name path) (is_held_alone w.held)
    (required (is_name path && is_held_alone w.held) rule.NeedsUnique at u d.2) in
    unwritten_write x path.root.name (other_root p c x path w z a.1 (alone_is w.held alone))
unwritten_moved p c x perm.Immutable k path at u z h = refl
unwritten_moved p c x perm.Lent k path at u z h = refl
unwritten_moved p c x (perm.Shared g) k path at u z h = refl

unwritten_source : (p : Code) (c : Context) (x : ℕ) (q : Perm) (k : Kind) (s : Source) (at : Spot) (u : ⊤)
    → HeldElse c x
    → source_fits p c q k s at ≡ Holds u → IsUnwritten x (source_uses p c q s)
unwritten_source p c x q k Null at u z h = refl
unwritten_source p c x q k (From path) at u z h = unwritten_both x (path_uses p c path) (of_found
    (moves q path) write_use)
    (unwritten_path p c x path) (unwritten_moved p c x q k path at u z h)

unwritten_fits : (p : Code) (c : Context) (x : ℕ) (t : Form) (e : Expression) (u : ⊤) → HeldElse c x
    → fits p c t e ≡ Holds u → IsUnwritten x (into_uses p c t e)
unwritten_fits p c x f.Int e u z h = unwritten_value p c x e
unwritten_fits p c x f.Bool e u z h = unwritten_value p c x e
unwritten_fits p c x (f.Object q k) e u z h =
    let a = first_holds (found (source e) rule.TypeMismatch (expression_spot e)) _ u h in
    subst (λ (o : Option Source). IsUnwritten x (of_found o (source_uses p c q)))
    (sym (found_is (source e) rule.TypeMismatch (expression_spot e) a.0 a.1))
    (unwritten_source p c x q k a.0 (expression_spot e) u z a.2)

-- What is judged to go into a form does not write the local.
pub unwritten_into : (p : Code) (c : Context) (x : ℕ) (t : Form) (e : Expression) (name : Option ℕ) → HeldElse c x
    → into p c t e ≡ Holds name → IsUnwritten x (into_uses p c t e)
unwritten_into p c x t e name z h =
    let a = first_holds (fits p c t e) (λ _. Holds (name_into t e)) name h in unwritten_fits p c x t e a.0 z a.1

-- ---- arguments

given_alone : (away named : Bool) (h : Held) (at : Spot) (u : ⊤) → to_unique away named h at ≡ Holds u
    → h ≡ held.Unique
given_alone away named held.None at u e = absurd (cc e)
given_alone away named held.Unique at u e = refl
given_alone away named (held.Split n) at u e = absurd (cc e)
given_alone away named held.Immutable at u e = absurd (cc e)
given_alone away named held.Lent at u e = absurd (cc e)
given_alone away named (held.Shared g) at u e = absurd (cc e)
given_alone away named (held.Inner g) at u e = absurd (cc e)

unwritten_lent : (p : Code) (c : Context) (x : ℕ) (q : Perm) (k : Kind) (away : Bool) (path : Path) (at : Spot)
    (before after : Roots) → HeldElse c x → path_to_param p c q k away path at before ≡ Holds after
    → IsUnwritten x (root_lent q path.root.name)
unwritten_lent p c x perm.Unique k away path at before after z h =
    let a = first_holds (walk p c path) _ after h in
    let w : Place = a.0 in
    let b = first_holds (require (is_object_of k w.form) rule.TypeMismatch at) _ after a.2 in
    let r = first_holds (root_apart (is_unique (f.Object perm.Unique k)) path at before) _ after b.2 in
    let d = first_holds (to_param perm.Unique away (is_name path) w.held at) (λ _. Holds r.0) after r.2 in
    unwritten_write x path.root.name (other_root p c x path w z a.1 (given_alone away (is_name path) w.held at d.0 d.1))
unwritten_lent p c x perm.Immutable k away path at before after z h = unwritten_read x path.root.name
unwritten_lent p c x perm.Lent k away path at before after z h = unwritten_read x path.root.name
unwritten_lent p c x (perm.Shared g) k away path at before after z h = unwritten_read x path.root.name

unwritten_given : (p : Code) (c : Context) (x : ℕ) (q : Perm) (k : Kind) (away : Bool) (s : Source) (at : Spot)
    (before after : Roots) → HeldElse c x → source_to_param p c q k away s at before ≡ Holds after
    → IsUnwritten x (given_uses p c q s)
unwritten_given p c x q k away Null at before after z h = refl
unwritten_given p c x q k away (From path) at before after z h = unwritten_both x (root_lent q path.root.name)
    (walk_uses p c path) (unwritten_lent p c x q k away path at before after z h) (unwritten_walk p c x path)

unwritten_argument : (p : Code) (c : Context) (x : ℕ) (t : Form) (away : Bool) (e : Expression) (before after : Roots)
    → HeldElse c x → to_form p c t away e before ≡ Holds after → IsUnwritten x (argument_uses p c t e)
unwritten_argument p c x f.Int away e before after z h = unwritten_value p c x e
unwritten_argument p c x f.Bool away e before after z h = unwritten_value p c x e
unwritten_argument p c x (f.Object q k) away e before after z h =
    let a = first_holds (found (source e) rule.TypeMismatch (expression_spot e)) _ after h in
    subst (λ (o : Option Source). IsUnwritten x (of_found o (given_uses p c q)))
    (sym (found_is (source e) rule.TypeMismatch (expression_spot e) a.0 a.1))
    (unwritten_given p c x q k away a.0 (expression_spot e) before after z a.2)

unwritten_need : (x : ℕ) (n : Wanted) → IsUnwritten x (need_uses n)
unwritten_need x (need_of.Exclusive, g) = refl
unwritten_need x (need_of.Shared, g) = refl
unwritten_need x (need_of.Protected, g) = refl

unwritten_callee : (p : Code) (c : Context) (x : ℕ) (i : Invocation) (m : Callee) (d : Called) → HeldElse c x
    → judge_callee_with p c i m ≡ Holds d → IsUnwritten x (callee_uses p c i m)
unwritten_callee p c x i m d z h =
    let new : ℕ → ℕ = group_in m i.groups in
    let pairs : List (ParamSlot × Expression) = zip (slots p new m.method) (givens i) in
    let args : ParamSlot × Expression → Uses = λ (y : ParamSlot × Expression). argument_uses p c y.0.form y.1 in
    let a = first_holds (groups_fit (known c.group) (length m.method.groups) i.method.at i.groups) _ d h in
    let b = first_holds (require (nat_eq (length i.args) (length m.method.params)) rule.ArgumentCount i.method.at) _ d
    a.2 in
    let r = first_holds (in_turn (to_slot p c) pairs no_roots) _ d b.2 in
    unwritten_both x (of_each args pairs) (of_each need_uses (map (wanted_need new) m.method.needs))
    (unwritten_turns x (to_slot p c) args
    (λ y s t e. unwritten_argument p c x y.0.form y.0.away y.1 s t z e) pairs no_roots r.0
    r.1)
    (unwritten_each x need_uses (map (wanted_need new) m.method.needs) (unwritten_need x))

-- A judged call does not write the local.
pub unwritten_call : (p : Code) (c : Context) (x : ℕ) (i : Invocation) (d : Called) → HeldElse c x
    → judge_call p c i ≡ Holds d → IsUnwritten x (call_uses p c i)
unwritten_call p c x i d z h =
    let a = first_holds (judge_callee p c i.on i.method) (judge_callee_with p c i) d h in
    subst (λ (v : Verdict Callee). IsUnwritten x (of_judged v (callee_uses p c i))) (sym a.1)
    (unwritten_callee p c x i a.0 d z a.2)

-- ---- right sides

unwritten_new : (p : Code) (c : Context) (x : ℕ) (y : NameAt) (gs : List NameAt) (es : List Expression) (d : _)
    → HeldElse c x → judge_new p c y gs es ≡ Holds d → IsUnwritten x (made_uses p c y gs es)
unwritten_new p c x y gs es d z h =
    let a = first_holds (found (class_called p y.name) rule.UnknownClass y.at) _ d h in
    let k : Class = a.0 in
    let g = first_holds (groups_fit (known c.group) (length k.groups) y.at gs) _ d a.2 in
    let n = first_holds (require (nat_eq (length es) (length k.fields)) rule.ArgumentCount y.at) _ d g.2 in
    let first : Filled = record { roots = no_roots; after = c } in
    let pairs : List (Form × Expression) = zip (map (field_form k (bare_names gs)) k.fields) es in
    let l = first_holds (in_turn (fills p c) pairs first) _ d n.2 in
    subst (λ (o : Option Class). IsUnwritten x (of_found o (λ (k : Class).
    of_each (λ (v : Form × Expression). into_uses p c v.0 v.1) (zip (map (field_form k (bare_names gs)) k.fields) es))))
    (sym (found_is (class_called p y.name) rule.UnknownClass y.at k a.1))
    (unwritten_turns x (fills p c) (λ (v : Form × Expression). into_uses p c v.0 v.1)
    (λ v s t e. unwritten_fill v s t e) pairs first l.0 l.1)
  where
    unwritten_fill : (v : Form × Expression) (s t : Filled) → fills p c v s ≡ Holds t
        → IsUnwritten x (into_uses p c v.0 v.1)
    unwritten_fill v s t e =
        let b = first_holds (apart v.0 v.1 s.roots) _ t e in
        let i = first_holds (into p c v.0 v.1) _ t b.2 in
        unwritten_into p c x v.0 v.1 i.0 z i.1

-- A judged right side does not write the local.
pub unwritten_right : (p : Code) (c d : Context) (x : ℕ) (t : Form) (e : RightSide) → HeldElse c x
    → judge_right p c t e ≡ Holds d → IsUnwritten x (right_uses p c t e)
unwritten_right p c d x t (Value e) z h =
    let a = first_holds (into p c t e) _ d h in unwritten_into p c x t e a.0 z a.1
unwritten_right p c d x t (Taken path at) z h = write_elsewhere p c x (owner path) z
unwritten_right p c d x t (Zeros e at) z h = unwritten_value p c x e
unwritten_right p c d x t (Made y gs es at) z h =
    let a = first_holds (judge_new p c y gs es) _ d h in unwritten_new p c x y gs es a.0 z a.1
unwritten_right p c d x t (Returned i) z h =
    let a = first_holds (judge_call p c i) _ d h in unwritten_call p c x i a.0 z a.1
