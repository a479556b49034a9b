-- Each local that a judged statement names is used by it.
use Rattle.std.proofs.Common.{arith, ◌≡◌, ◌⊎◌, inl, inr, refl, sym, ap, ◌∙◌, subst, ℕ, nat_eq, Bool, true, false}
use Rattle.std.proofs.Common.{◌||◌, not, List, [], ◌∷◌, ◌++◌, map, length, Option, None, Some}
use Rattle.std.specs.Prelude.{is_some, zip, ⊤}
use Rattle.std.proofs.lemmas.Bool.{eqb-true, or_cases}
use Rattle.std.proofs.lemmas.List.{length-map}
use Rattle.ae_text.specs.declared.refusal.Spot.{Spot}
use Rattle.ae_text.specs.declared.refusal.Rule.TheVariants as rule
use Rattle.ae_tree.specs.declared.tree.NameAt.{NameAt}
use Rattle.ae_tree.specs.declared.tree.Path.{Path}
use Rattle.ae_tree.specs.declared.tree.Ty.{Ty}
use Rattle.ae_tree.specs.declared.tree.Class.{Class}
use Rattle.ae_rules.specs.declared.uses.Resource.TheVariants as resource
use Rattle.ae_rules.specs.declared.uses.Mode.{Mode}
use Rattle.ae_rules.specs.declared.uses.Mode.TheVariants as mode
use Rattle.ae_tree.specs.declared.form.Perm.{Perm}
use Rattle.ae_tree.specs.declared.form.Perm.TheVariants as perm
use Rattle.ae_tree.specs.declared.form.Form.{Form}
use Rattle.ae_tree.specs.declared.form.Form.TheVariants as f
use Rattle.ae_tree.specs.Form.{form, bare_names}
use Rattle.ae_tree.specs.Names.{io}
use Rattle.ae_rules.specs.Edges.{Uses}
use Rattle.ae_tree.specs.WellShaped.{WellShaped}
use Rattle.ae_tree.specs.Plain.{Expression, Number, Truth, Nothing, Read, Item, Length, Grouped, Negated, Minus}
use Rattle.ae_tree.specs.Plain.{Binary, Invocation, RightSide, Value, Taken, Zeros, Made, Returned, Lines, End, Next}
use Rattle.ae_tree.specs.Plain.{Definition, Code}
use Rattle.ae_tree.specs.Plain.{Action, Declares, Assigns, Stores, StoresAt, Calls, Chooses, ChoosesElse, Repeats}
use Rattle.ae_tree.specs.Plain.{Groups, Splits, Locks, Freezes, Shares, Prints, PrintsText, Asserts, Returns}
use Rattle.ae_rules.specs.declared.held.Held.{Held}
use Rattle.ae_rules.specs.declared.held.Held.TheVariants as held
use Rattle.ae_rules.specs.Verdict.{Verdict, Holds, ◌>>=◌, require, found, in_turn}
use Rattle.ae_rules.specs.Forms.{is_object, is_unique}
use Rattle.ae_rules.specs.Lookups.{has_name, class_called, field_form}
use Rattle.ae_rules.specs.Types.{forms_type, groups_fit}
use Rattle.ae_rules.specs.Groups.{known, wanted_need, may_split_all, may_lock}
use Rattle.ae_rules.specs.Context.{Local, Context, is_visible}
use Rattle.ae_rules.specs.Walks.{Place, walk, owner, owner_write_access}
use Rattle.ae_rules.specs.Expressions.{is_value, expression_spot}
use Rattle.ae_rules.specs.Into.{fits, name_into, into, moves}
use Rattle.ae_rules.specs.Calls.{Roots, Filled, Called, MadeValue, Callee, ParamSlot, no_roots, apart, fills}
use Rattle.ae_rules.specs.Calls.{judge_new, judge_callee, judge_callee_with, judge_call, group_in, slots, givens}
use Rattle.ae_rules.specs.Calls.{to_form, to_slot}
use Rattle.ae_rules.specs.Statements.{judge_take, judge_right, judge_let, judge_assign, judge_store, judge_store_at}
use Rattle.ae_rules.specs.Statements.{judge_return, end_block, branches_meet, loop_keeps, while_split, while_locked}
use Rattle.ae_rules.specs.Statements.{judge_statement, judge_lines}
use Rattle.ae_rules.specs.Uses.{read_use, write_use, whole_group, together, ◌∪◌, of_each, of_judged, of_found}
use Rattle.ae_rules.specs.Uses.{outside, all_but, walk_uses, path_uses, end_uses, root_written, write_uses}
use Rattle.ae_rules.specs.Uses.{value_uses, into_uses, root_lent, argument_uses, need_uses, callee_uses, call_uses}
use Rattle.ae_rules.specs.Uses.{made_uses, right_uses, assign_uses, store_uses, return_uses, statement_uses}
use Rattle.ae_rules.specs.Uses.{lines_use}
use Rattle.ae_rules.specs.EdgeLaws.{IsAtMost}
use Rattle.ae_rules.specs.Roots.{value_roots, roots_of_all, right_roots, statement_roots, lines_roots, RootsAreUsed}
use Rattle.ae_rules.proofs.SeenLemmas.{found_is, required}
use Rattle.ae_rules.proofs.VisibleLemmas.{seen_later}
use Rattle.ae_rules.proofs.KeepLemmas.{statements_keep}
use Rattle.ae_rules.proofs.LessLemmas.{Less, less_itself, less_left, less_right, less_one}
use Rattle.ae_rules.proofs.PathLemmas.{first_holds}
use Rattle.ae_rules.proofs.ChangeLemmas.{used_seen, used_apart, at_itself}
use Rattle.ae_rules.proofs.ShapeLemmas.{every_slot_is_given}

-- ---- names and uses

-- each of these is used
abbrev Covers : List ℕ → Uses → Type 0
Covers xs u = (x : ℕ) → has_name xs x ≡ true → Less (read_use x) u

none_covered : (u : Uses) → Covers [] u
none_covered u x e = absurd (cc)

in_either : (xs ys : List ℕ) (x : ℕ) → has_name (xs ++ ys) x ≡ true → (has_name xs x ≡ true) ⊎ (has_name ys x ≡ true)
in_either [] ys x e = inr e
in_either (z ∷ zs) ys x e = elim (or_cases (nat_eq z x) (has_name (zs ++ ys) x) e) [
  | inl h ↦ inl (ap (λ (b : Bool). b || has_name zs x) h)
  | inr h ↦ elim (in_either zs ys x h) [ inl k ↦ inl (also (nat_eq z x) (has_name zs x) k) | inr k ↦ inr k ]
]
  where
    also : (a b : Bool) → b ≡ true → (a || b) ≡ true
    also true b k = refl
    also false b k = k

covers_left : (xs : List ℕ) (u v : Uses) → Covers xs u → Covers xs (u ∪ v)
covers_left xs u v h x e = less_left (read_use x) u v (h x e)

covers_right : (xs : List ℕ) (u v : Uses) → Covers xs v → Covers xs (u ∪ v)
covers_right xs u v h x e = less_right (read_use x) u v (h x e)

covers_both : (xs ys : List ℕ) (u v : Uses) → Covers xs u → Covers ys v → Covers (xs ++ ys) (u ∪ v)
covers_both xs ys u v h k x e = elim (in_either xs ys x e)
    [ inl l ↦ covers_left xs u v h x l | inr l ↦ covers_right ys u v k x l ]

covers_one : (x : ℕ) (u : Uses) → Less (read_use x) u → Covers (x ∷ []) u
covers_one x u l y e = subst (λ (z : ℕ). Less (read_use z) u) (eqb-true x y (only (nat_eq x y) e)) l
  where
    only : (b : Bool) → (b || false) ≡ true → b ≡ true
    only true h = refl
    only false h = h

written_is_read : (x : ℕ) → Less (read_use x) (write_use x)
written_is_read x = less_one mode.Read mode.Write (resource.Local x) (λ _. refl)

-- ---- expressions

covers_path : (p : Code) (c : Context) (path : Path) → Covers (path.root.name ∷ []) (path_uses p c path)
covers_path p c path = covers_one path.root.name (path_uses p c path)
    (less_left (read_use path.root.name) (read_use path.root.name) (walk_uses p c path)
    (less_itself (read_use path.root.name)))

covers_value : (p : Code) (c : Context) (e : Expression) → Covers (value_roots e) (value_uses p c e)
covers_value p c (Number n at) = none_covered _
covers_value p c (Truth b at) = none_covered _
covers_value p c (Nothing at) = none_covered _
covers_value p c (Read path) = covers_path p c path
covers_value p c (Item path e) =
    covers_both (path.root.name ∷ []) (value_roots e) (read_use path.root.name) (end_uses p c path ∪ value_uses p c e)
    (covers_one path.root.name (read_use path.root.name) (less_itself (read_use path.root.name)))
    (covers_right (value_roots e) (end_uses p c path) (value_uses p c e) (covers_value p c e))
covers_value p c (Length path at) =
    covers_left (path.root.name ∷ []) (read_use path.root.name) (end_uses p c path)
    (covers_one path.root.name (read_use path.root.name) (less_itself (read_use path.root.name)))
covers_value p c (Grouped e at) = covers_value p c e
covers_value p c (Negated e at) = covers_value p c e
covers_value p c (Minus e at) = covers_value p c e
covers_value p c (Binary o a b) = covers_both (value_roots a) (value_roots b) (value_uses p c a) (value_uses p c b)
    (covers_value p c a) (covers_value p c b)

covers_fit : (p : Code) (c : Context) (t : Form) (e : Expression) (u : ⊤) → fits p c t e ≡ Holds u
    → Covers (value_roots e) (into_uses p c t e)
covers_fit p c f.Int e u h = covers_value p c e
covers_fit p c f.Bool e u h = covers_value p c e
covers_fit p c (f.Object q k) (Nothing at) u h = none_covered _
covers_fit p c (f.Object q k) (Read path) u h = covers_left (path.root.name ∷ []) (path_uses p c path)
    (of_found (moves q path) write_use) (covers_path p c path)
covers_fit p c (f.Object q k) _ u h = absurd (cc)

covers_into : (p : Code) (c : Context) (t : Form) (e : Expression) (name : Option ℕ) → into p c t e ≡ Holds name
    → Covers (value_roots e) (into_uses p c t e)
covers_into p c t e name h = let r = first_holds (fits p c t e) (λ _. Holds (name_into t e)) name h in covers_fit p c
    t e r.0 r.1

lent_read : (q : Perm) (x : ℕ) → Less (read_use x) (root_lent q x)
lent_read perm.Unique x = written_is_read x
lent_read perm.Immutable x = less_itself (read_use x)
lent_read perm.Lent x = less_itself (read_use x)
lent_read (perm.Shared g) x = less_itself (read_use x)

covers_argument : (p : Code) (c : Context) (t : Form) (away : Bool) (e : Expression) (s r : Roots)
    → to_form p c t away e s ≡ Holds r → Covers (value_roots e) (argument_uses p c t e)
covers_argument p c f.Int away e s r h = covers_value p c e
covers_argument p c f.Bool away e s r h = covers_value p c e
covers_argument p c (f.Object q k) away (Nothing at) s r h = none_covered _
covers_argument p c (f.Object q k) away (Read path) s r h =
    covers_left (path.root.name ∷ []) (root_lent q path.root.name) (walk_uses p c path)
    (covers_one path.root.name (root_lent q path.root.name) (lent_read q path.root.name))
covers_argument p c (f.Object q k) away _ s r h = absurd (cc)

-- ---- calls and new objects

covers_arguments : (p : Code) (c : Context) (xs : List ParamSlot) (es : List Expression) (s r : Roots)
    → length xs ≡ length es → in_turn (to_slot p c) (zip xs es) s ≡ Holds r
    → Covers (roots_of_all es) (of_each (λ (x : ParamSlot × Expression). argument_uses p c x.0.form x.1) (zip xs es))
covers_arguments p c [] [] s r l h = none_covered _
covers_arguments p c [] (e ∷ es) s r l h = absurd (cc)
covers_arguments p c (x ∷ xs) [] s r l h = absurd (cc)
covers_arguments p c (x ∷ xs) (e ∷ es) s r l h =
    let t = first_holds (to_slot p c (x, e) s) (in_turn (to_slot p c) (zip xs es)) r h in
    covers_both (value_roots e) (roots_of_all es) (argument_uses p c x.form e)
    (of_each (λ (y : ParamSlot × Expression). argument_uses p c y.0.form y.1) (zip xs es))
    (covers_argument p c x.form x.away e s t.0 t.1) (covers_arguments p c xs es t.0 r (omega (arith, l)) t.2)

covers_fills : (p : Code) (c : Context) (xs : List Form) (es : List Expression) (s r : Filled) → length xs ≡ length es
    → in_turn (fills p c) (zip xs es) s ≡ Holds r
    → Covers (roots_of_all es) (of_each (λ (x : Form × Expression). into_uses p c x.0 x.1) (zip xs es))
covers_fills p c [] [] s r l h = none_covered _
covers_fills p c [] (e ∷ es) s r l h = absurd (cc)
covers_fills p c (x ∷ xs) [] s r l h = absurd (cc)
covers_fills p c (x ∷ xs) (e ∷ es) s r l h =
    let t = first_holds (fills p c (x, e) s) (in_turn (fills p c) (zip xs es)) r h in
    let a = first_holds (apart x e s.roots) _ t.0 t.1 in
    let i = first_holds (into p c x e) _ t.0 a.2 in
    covers_both (value_roots e) (roots_of_all es) (into_uses p c x e)
    (of_each (λ (y : Form × Expression). into_uses p c y.0 y.1) (zip xs es))
    (covers_into p c x e i.0 i.1) (covers_fills p c xs es t.0 r (omega (arith, l)) t.2)

covers_call : (p : Code) → WellShaped p → (c : Context) (i : Invocation) (d : Called) → judge_call p c i ≡ Holds d
    → Covers (roots_of_all (givens i)) (call_uses p c i)
covers_call p w c i d h =
    let k = first_holds (judge_callee p c i.on i.method) (judge_callee_with p c i) d h in
    let m : Callee = k.0 in
    let new : ℕ → ℕ = group_in m i.groups in
    let g = first_holds (groups_fit (known c.group) (length m.method.groups) i.method.at i.groups) _ d k.2 in
    let n = first_holds (require (nat_eq (length i.args) (length m.method.params)) rule.ArgumentCount i.method.at) _ d
    g.2 in
    let r = first_holds (in_turn (to_slot p c) (zip (slots p new m.method) (givens i)) no_roots) _ d n.2 in
    subst (λ (v : Verdict Callee). Covers (roots_of_all (givens i)) (of_judged v (callee_uses p c i))) (sym k.1)
    (covers_left (roots_of_all (givens i))
    (of_each (λ (x : ParamSlot × Expression). argument_uses p c x.0.form x.1)
    (zip (slots p new m.method) (givens i))) (of_each need_uses (map (wanted_need new) m.method.needs))
    (covers_arguments p c (slots p new m.method) (givens i) no_roots r.0 (every_slot_is_given p w c i m d k.1 k.2 new)
    r.1))

covers_new : (p : Code) (c : Context) (x : NameAt) (gs : List NameAt) (args : List Expression) (d : MadeValue)
    → judge_new p c x gs args ≡ Holds d → Covers (roots_of_all args) (made_uses p c x gs args)
covers_new p c x gs args d h =
    let k = first_holds (found (class_called p x.name) rule.UnknownClass x.at) _ d h in
    let g = first_holds (groups_fit (known c.group) (length k.0.groups) x.at gs) _ d k.2 in
    let n = first_holds (require (nat_eq (length args) (length k.0.fields)) rule.ArgumentCount x.at) _ d g.2 in
    let forms : List Form = map (field_form k.0 (bare_names gs)) k.0.fields in
    let empty : Filled = record { roots = no_roots; after = c } in
    let r = first_holds (in_turn (fills p c) (zip forms args) empty) _ d n.2 in
    let l : length forms ≡ length args = length-map k.0.fields (field_form k.0 (bare_names gs))
    ∙ sym (eqb-true (length args) (length k.0.fields)
    (required (nat_eq (length args) (length k.0.fields)) rule.ArgumentCount x.at n.0 n.1)) in
    subst (λ (o : Option Class). Covers (roots_of_all args)
    (of_found o (λ (z : Class). of_each (λ (y : Form × Expression). into_uses p c y.0 y.1)
    (zip (map (field_form z (bare_names gs)) z.fields) args))))
    (sym (found_is (class_called p x.name) rule.UnknownClass x.at k.0 k.1))
    (covers_fills p c forms args empty r.0 l r.1)

-- ---- right sides and statements without blocks

root_read : (h : Held) (x : ℕ) → Less (read_use x) (root_written h x)
root_read held.Unique x = written_is_read x
root_read (held.Split n) x = less_itself (read_use x)
root_read held.Immutable x = less_itself (read_use x)
root_read held.Lent x = less_itself (read_use x)
root_read (held.Shared g) x = less_itself (read_use x)
root_read (held.Inner g) x = less_itself (read_use x)
root_read held.None x = less_itself (read_use x)

covers_write : (p : Code) (c : Context) (path : Path) (w : Place) → walk p c path ≡ Holds w
    → Covers (path.root.name ∷ []) (write_uses p c path)
covers_write p c path w h = covers_one path.root.name (write_uses p c path)
    (less_right (read_use path.root.name) (end_uses p c path) _
    (subst (λ (v : Verdict Place). Less (read_use path.root.name)
    (of_judged v (λ (z : Place). root_written z.held path.root.name))) (sym h) (root_read w.held path.root.name)))

covers_owner : (p : Code) (c : Context) (path : Path) (u : ⊤) → owner_write_access p c path ≡ Holds u
    → Covers (path.root.name ∷ []) (write_uses p c (owner path))
covers_owner p c path u h = let w = first_holds (walk p c (owner path)) _ u h in covers_write p c (owner path) w.0 w.1

covers_side : (p : Code) → WellShaped p → (c : Context) (t : Form) (e : RightSide) (d : Context)
    → judge_right p c t e ≡ Holds d → Covers (right_roots e) (right_uses p c t e)
covers_side p w c t (Value e) d h = let r = first_holds (into p c t e) _ d h in covers_into p c t e r.0 r.1
covers_side p w c t (Taken path at) d h =
    let k = first_holds (judge_take p c path at) _ d h in
    let v = first_holds (walk p c path) _ k.0 k.1 in
    let a = first_holds (require (is_object v.0.form) rule.TypeMismatch at) _ k.0 v.2 in
    let b = first_holds (require (is_unique v.0.form) rule.NeedsUnique at) _ k.0 a.2 in
    let o = first_holds (owner_write_access p c path) _ k.0 b.2 in
    covers_owner p c path o.0 o.1
covers_side p w c t (Zeros e at) d h = covers_value p c e
covers_side p w c t (Made x gs args at) d h = let r = first_holds (judge_new p c x gs args) _ d h in covers_new p c x
    gs args r.0 r.1
covers_side p w c t (Returned i) d h = let r = first_holds (judge_call p c i) _ d h in covers_call p w c i r.0 r.1

covers_let : (p : Code) → WellShaped p → (c : Context) (t : Ty) (x : NameAt) (e : RightSide) (d : Context)
    → judge_let p c t x e ≡ Holds d → Covers (right_roots e) (write_use x.name ∪ right_uses p c (form t) e)
covers_let p w c t x e d h =
    let a = first_holds (forms_type p (known c.group) false t) _ d h in
    let b = first_holds (require (not (is_visible c x.name)) rule.DuplicateLocal x.at) _ d a.2 in
    let r = first_holds (judge_right p c (form t) e) _ d b.2 in
    covers_right (right_roots e) (write_use x.name) (right_uses p c (form t) e) (covers_side p w c (form t) e r.0 r.1)

covers_assign : (p : Code) → WellShaped p → (c : Context) (x : NameAt) (e : RightSide) (d : Context)
    → judge_assign p c x e ≡ Holds d → Covers (x.name ∷ right_roots e) (assign_uses p c x e)
covers_assign p w c x e d h =
    let a = first_holds (found (c.local x.name) rule.UnknownName x.at) _ d h in
    let b = first_holds (require (not a.0.stays) rule.ParameterMoved x.at) _ d a.2 in
    let r = first_holds (judge_right p c a.0.form e) _ d b.2 in
    covers_both (x.name ∷ []) (right_roots e) (write_use x.name) _
    (covers_one x.name (write_use x.name) (written_is_read x.name))
    (subst (λ (o : Option Local). Covers (right_roots e) (of_found o (λ (l : Local). right_uses p c l.form e)))
    (sym (found_is (c.local x.name) rule.UnknownName x.at a.0 a.1)) (covers_side p w c a.0.form e r.0 r.1))

covers_store : (p : Code) (c : Context) (path : Path) (e : Expression) (at : Spot) (d : Context)
    → judge_store p c path e at ≡ Holds d → Covers (path.root.name ∷ value_roots e) (store_uses p c path e)
covers_store p c path e at d h =
    let v = first_holds (walk p c path) _ d h in
    let o = first_holds (owner_write_access p c path) _ d v.2 in
    let i = first_holds (into p c v.0.form e) _ d o.2 in
    covers_both (path.root.name ∷ []) (value_roots e) (write_uses p c (owner path)) _ (covers_owner p c path o.0 o.1)
    (subst (λ (z : Verdict Place). Covers (value_roots e) (of_judged z (λ (y : Place). into_uses p c y.form e)))
    (sym v.1) (covers_into p c v.0.form e i.0 i.1))

covers_store_at : (p : Code) (c : Context) (path : Path) (i e : Expression) (d : Context)
    → judge_store_at p c path i e ≡ Holds d
    → Covers (path.root.name ∷ value_roots i ++ value_roots e)
    (write_uses p c path ∪ value_uses p c i ∪ value_uses p c e)
covers_store_at p c path i e d h =
    let v = first_holds (walk p c path) _ d h in
    covers_both (path.root.name ∷ []) (value_roots i ++ value_roots e) (write_uses p c path)
    (value_uses p c i ∪ value_uses p c e) (covers_write p c path v.0 v.1)
    (covers_both (value_roots i) (value_roots e) (value_uses p c i) (value_uses p c e) (covers_value p c i)
    (covers_value p c e))

covers_return : (p : Code) (m : Definition) (c : Context) (e : Expression) (at : Spot) (d : Context)
    → judge_return p m c e at ≡ Holds d → Covers (value_roots e) (return_uses p m c e)
covers_return p m c e at d h =
    let t = first_holds (found m.result rule.TypeMismatch at) _ d h in
    let i = first_holds (into p c (form t.0) e) _ d t.2 in
    subst (λ (o : Option Ty). Covers (value_roots e) (of_found o (λ (z : Ty). into_uses p c (form z) e)))
    (sym (found_is m.result rule.TypeMismatch at t.0 t.1)) (covers_into p c (form t.0) e i.0 i.1)

-- ---- blocks

-- each of these that is visible is used
abbrev CoversSeen : Context → List ℕ → Uses → Type 0
CoversSeen c xs u = (x : ℕ) → is_some (c.local x) ≡ true → has_name xs x ≡ true → Less (read_use x) u

seen_both : (c : Context) (xs ys : List ℕ) (u v : Uses) → CoversSeen c xs u → CoversSeen c ys v
    → CoversSeen c (xs ++ ys) (u ∪ v)
seen_both c xs ys u v h k x s e = elim (in_either xs ys x e)
    [ inl l ↦ less_left (read_use x) u v (h x s l) | inr l ↦ less_right (read_use x) u v (k x s l) ]

seen_outside : (c start : Context) (xs : List ℕ) (u : Uses) → ((x : ℕ) → start.local x ≡ c.local x)
    → CoversSeen start xs u → CoversSeen c xs (outside c u)
seen_outside c start xs u same h x s e = used_seen mode.Read c (resource.Local x) u s (h x (ap is_some (same x) ∙ s) e)

mutual
  statement_covers : (p : Code) → WellShaped p → (m : Definition) (at : Spot) (a : Action) (c d : Context)
      → judge_statement p m at a c ≡ Holds d → CoversSeen c (statement_roots a) (statement_uses p m a c)
  statement_covers p w m at (Declares t x e) c d h y s n = covers_let p w c t x e d h y n
  statement_covers p w m at (Assigns x e) c d h y s n = covers_assign p w c x e d h y n
  statement_covers p w m at (Stores path e) c d h y s n = covers_store p c path e (expression_spot e) d h y n
  statement_covers p w m at (StoresAt path i e) c d h y s n = covers_store_at p c path i e d h y n
  statement_covers p w m at (Calls i) c d h y s n = let r = first_holds (judge_call p c i) _ d h in covers_call p w c
      i r.0 r.1 y n
  statement_covers p w m at (Chooses e k b) c d h y s n =
      let r = first_holds (is_value p c f.Bool e)
      (λ _. (judge_lines p m b c >>= end_block p c b) >>= λ x. branches_meet p c at x c) d h in
      let t = first_holds (judge_lines p m b c >>= end_block p c b) (λ x. branches_meet p c at x c) d r.2 in
      let l = first_holds (judge_lines p m b c) (end_block p c b) t.0 t.1 in
      seen_both c (value_roots e) (lines_roots b) (value_uses p c e) (outside c (lines_use p m b c))
      (λ y s n. covers_value p c e y n)
      (seen_outside c c (lines_roots b) (lines_use p m b c) (λ x. refl) (lines_cover p w m b c l.0 l.1)) y s n
  statement_covers p w m at (ChoosesElse e k b j b') c d h y s n =
      let other : Context → Verdict Context = λ x. (judge_lines p m b' c >>= end_block p c b')
      >>= λ y. branches_meet p c at x y in
      let r = first_holds (is_value p c f.Bool e) (λ _. (judge_lines p m b c >>= end_block p c b) >>= other) d h in
      let t = first_holds (judge_lines p m b c >>= end_block p c b) other d r.2 in
      let z = first_holds (judge_lines p m b' c >>= end_block p c b') (λ y. branches_meet p c at t.0 y) d t.2 in
      let l = first_holds (judge_lines p m b c) (end_block p c b) t.0 t.1 in
      let l' = first_holds (judge_lines p m b' c) (end_block p c b') z.0 z.1 in
      seen_both c (value_roots e) (lines_roots b ++ lines_roots b') (value_uses p c e)
      (outside c (lines_use p m b c) ∪ outside c (lines_use p m b' c)) (λ y s n. covers_value p c e y n)
      (seen_both c (lines_roots b) (lines_roots b') (outside c (lines_use p m b c)) (outside c (lines_use p m b' c))
      (seen_outside c c (lines_roots b) (lines_use p m b c) (λ x. refl) (lines_cover p w m b c l.0 l.1))
      (seen_outside c c (lines_roots b') (lines_use p m b' c) (λ x. refl) (lines_cover p w m b' c l'.0 l'.1))) y s n
  statement_covers p w m at (Repeats e k b) c d h y s n =
      let r = first_holds (is_value p c f.Bool e)
      (λ _. (judge_lines p m b c >>= end_block p c b) >>= λ x. loop_keeps p c at x) d h in
      let t = first_holds (judge_lines p m b c >>= end_block p c b) (λ x. loop_keeps p c at x) d r.2 in
      let l = first_holds (judge_lines p m b c) (end_block p c b) t.0 t.1 in
      seen_both c (value_roots e) (lines_roots b) (value_uses p c e) (outside c (lines_use p m b c))
      (λ y s n. covers_value p c e y n)
      (seen_outside c c (lines_roots b) (lines_use p m b c) (λ x. refl) (lines_cover p w m b c l.0 l.1)) y s n
  statement_covers p w m at (Groups g) c d h y s n = none_covered _ y n
  statement_covers p w m at (Splits gs k b) c d h y s n =
      let r = first_holds (may_split_all c.group gs) (λ _. judge_lines p m b (while_split gs c) >>= end_block p c b) d
      h in
      let l = first_holds (judge_lines p m b (while_split gs c)) (end_block p c b) d r.2 in
      less_right (read_use y) (of_each (λ (g : NameAt). whole_group g.name) gs)
      (outside c (lines_use p m b (while_split gs c)))
      (seen_outside c (while_split gs c) (lines_roots b) (lines_use p m b (while_split gs c)) (λ x. refl)
      (lines_cover p w m b (while_split gs c) l.0 l.1) y s n)
  statement_covers p w m at (Locks g k b) c d h y s n =
      let r = first_holds (may_lock c.group g) (λ _. judge_lines p m b (while_locked g.name c) >>= end_block p c b) d
      h in
      let l = first_holds (judge_lines p m b (while_locked g.name c)) (end_block p c b) d r.2 in
      less_right (read_use y) (together g.name)
      (all_but (resource.Group g.name) (outside c (lines_use p m b (while_locked g.name c))))
      (used_apart mode.Read y g.name (outside c (lines_use p m b (while_locked g.name c)))
      (seen_outside c (while_locked g.name c) (lines_roots b) (lines_use p m b (while_locked g.name c)) (λ x. refl)
      (lines_cover p w m b (while_locked g.name c) l.0 l.1) y s n))
  statement_covers p w m at (Freezes x) c d h y s n = covers_one x.name (write_use x.name) (written_is_read x.name) y n
  statement_covers p w m at (Shares x g) c d h y s n = covers_left (x.name ∷ []) (write_use x.name)
      (whole_group g.name) (covers_one x.name (write_use x.name) (written_is_read x.name)) y n
  statement_covers p w m at (Prints e) c d h y s n = covers_left (value_roots e) (value_uses p c e) (whole_group io)
      (covers_value p c e) y n
  statement_covers p w m at (PrintsText x) c d h y s n = none_covered _ y n
  statement_covers p w m at (Asserts e) c d h y s n = covers_value p c e y n
  statement_covers p w m at (Returns e) c d h y s n = covers_return p m c e at d h y n

  lines_cover : (p : Code) → WellShaped p → (m : Definition) (b : Lines) (c d : Context)
      → judge_lines p m b c ≡ Holds d → CoversSeen c (lines_roots b) (lines_use p m b c)
  lines_cover p w m End c d h y s n = none_covered _ y n
  lines_cover p w m (Next at a rest) c d h y s n =
      let r = first_holds (judge_statement p m at a c) (judge_lines p m rest) d h in
      let later : Uses = of_judged (judge_statement p m at a c) (lines_use p m rest) in
      seen_both c (statement_roots a) (lines_roots rest) (statement_uses p m a c) later
      (statement_covers p w m at a c r.0 r.1)
      (λ y s n. subst (λ (v : Verdict Context). Less (read_use y) (of_judged v (lines_use p m rest))) (sym r.1)
      (lines_cover p w m rest r.0 d r.2 y (seen_later c r.0 (statements_keep p m at a c r.0 r.1) (resource.Local y) s)
      n)) y s n

used_is_there : (o : Option Mode) → IsAtMost (Some mode.Read) o → is_some o ≡ true
used_is_there None l = absurd l
used_is_there (Some m) l = refl

pub roots_are_used : RootsAreUsed
roots_are_used p w m at a c d h x s n
    = used_is_there (statement_uses p m a c (resource.Local x))
    (at_itself mode.Read x (statement_uses p m a c (resource.Local x))
    ((statement_covers p w m at a c d h x s n).at (resource.Local x)))
