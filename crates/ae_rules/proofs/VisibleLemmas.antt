-- What a judged statement uses is visible and allowed: calls, right sides and statements.
use Rattle.ae_rules.specs.Edges.{Uses}
use Rattle.std.proofs.Common.{◌≡◌, inl, inr, refl, sym, ap, ◌∙◌, subst, ℕ, nat_eq, Bool, true, false, ◌&&◌, not}
use Rattle.std.proofs.Common.{if◌then◌else◌, List, map, Option, None, Some}
use Rattle.std.specs.Prelude.{is_some, length, zip, ⊤}
use Rattle.ae_text.specs.declared.refusal.Spot.{Spot}
use Rattle.ae_text.specs.declared.refusal.Rule.TheVariants as rule
use Rattle.ae_tree.specs.declared.tree.NameAt.{NameAt}
use Rattle.ae_tree.specs.declared.tree.Path.{Path}
use Rattle.ae_tree.specs.declared.tree.Ty.{Ty}
use Rattle.ae_tree.specs.declared.tree.Class.{Class}
use Rattle.ae_tree.specs.declared.tree.Need.TheVariants as need_of
use Rattle.ae_rules.specs.declared.uses.Resource.{Resource}
use Rattle.ae_rules.specs.declared.uses.Resource.TheVariants as resource
use Rattle.ae_rules.specs.declared.uses.Mode.{Mode}
use Rattle.ae_rules.specs.declared.uses.Mode.TheVariants as mode
use Rattle.ae_tree.specs.declared.form.Perm.{Perm}
use Rattle.ae_tree.specs.declared.form.Perm.TheVariants as perm
use Rattle.ae_tree.specs.declared.form.Kind.{Kind}
use Rattle.ae_tree.specs.declared.form.Form.{Form}
use Rattle.ae_tree.specs.declared.form.Form.TheVariants as f
use Rattle.ae_tree.specs.Form.{form, bare_names}
use Rattle.ae_tree.specs.Names.{io}
use Rattle.ae_tree.specs.Plain.{Expression, Invocation, RightSide, Value, Taken, Zeros, Made, Returned, Lines, End}
use Rattle.ae_tree.specs.Plain.{Next, Definition, Code}
use Rattle.ae_tree.specs.Plain.{Action, Declares, Assigns, Stores, StoresAt, Calls, Chooses, ChoosesElse, Repeats}
use Rattle.ae_tree.specs.Plain.{Groups, Splits, Locks, Freezes, Shares, Prints, PrintsText, Asserts, Returns}
use Rattle.ae_rules.specs.declared.held.GroupPerm.{GroupPerm}
use Rattle.ae_rules.specs.declared.held.GroupPerm.TheVariants as group
use Rattle.ae_rules.specs.Verdict.{Verdict, Holds, ◌>>=◌, found, in_turn, given}
use Rattle.ae_rules.specs.Forms.{is_object, is_ints, is_unique}
use Rattle.ae_rules.specs.Lookups.{Names, has_name, class_called, field_form}
use Rattle.ae_rules.specs.Table.{no_names}
use Rattle.ae_rules.specs.Types.{forms_type, groups_fit, is_group}
use Rattle.ae_rules.specs.Groups.{Groups as GroupsKnown}
use Rattle.ae_rules.specs.Groups.{group_is, same_group_perm, opens, known, declare, Wanted, wanted_need, any_clash}
use Rattle.ae_rules.specs.Groups.{need_met, needs_met, may_split, may_split_all, may_lock, held_back}
use Rattle.ae_rules.specs.Context.{Local, Context, is_visible}
use Rattle.ae_rules.specs.Walks.{Place, walk, owner, write_access, owner_write_access}
use Rattle.ae_rules.specs.Expressions.{expression_spot, judge_value, is_value}
use Rattle.ae_rules.specs.Into.{Source, Null, From, source, source_fits, fits, moves, into}
use Rattle.ae_rules.specs.Calls.{Roots, Filled, no_roots, apart, fills, judge_new, Callee, judge_callee}
use Rattle.ae_rules.specs.Calls.{judge_callee_with, judge_call, ParamSlot, slots, givens, group_in, source_to_param}
use Rattle.ae_rules.specs.Calls.{to_form, to_slot}
use Rattle.ae_rules.specs.Statements.{judge_take, judge_right, judge_let, judge_assign, judge_store, judge_store_at}
use Rattle.ae_rules.specs.Statements.{holds_alone, judge_share, prints, judge_return, while_split, while_locked}
use Rattle.ae_rules.specs.Statements.{end_block, judge_statement, judge_lines}
use Rattle.ae_rules.specs.Uses.{same_resource, write_use, whole_group, together, ◌∪◌, of_each, of_judged, of_found}
use Rattle.ae_rules.specs.Uses.{is_seen, outside, all_but, walk_uses, path_uses, write_uses, value_uses, source_uses}
use Rattle.ae_rules.specs.Uses.{into_uses, root_lent, given_uses, argument_uses, need_uses, callee_uses, call_uses}
use Rattle.ae_rules.specs.Uses.{made_uses, right_uses, assign_uses, store_uses, return_uses, statement_uses}
use Rattle.ae_rules.specs.Uses.{lines_use}
use Rattle.ae_rules.specs.Laws.{Keeps}
use Rattle.ae_rules.specs.EdgeLaws.{is_of_local, group_allows, is_allowed, UsesAreAllowed}
use Rattle.ae_rules.proofs.GroupLemmas.{AreExclusive, declared_is, list_exclusive}
use Rattle.ae_rules.proofs.VerdictLemmas.{Yields, gives, next, asks, always}
use Rattle.ae_rules.proofs.KeepLemmas.{statements_keep}
use Rattle.ae_rules.proofs.SeenLemmas.{weaker, found_is, required, Within, in_nothing, in_read, in_changed}
use Rattle.ae_rules.proofs.SeenLemmas.{in_exclusive, in_shared, in_open, Inside, of_two, in_both, in_judged}
use Rattle.ae_rules.proofs.SeenLemmas.{in_found, in_outside, in_turns, in_each, root_seen, in_walk, in_path}
use Rattle.ae_rules.proofs.SeenLemmas.{in_write, in_owner, in_value, in_is_value}
use Rattle.ae_rules.proofs.TruthLemmas.{left_by_test, thing_is_there}
use Rattle.ae_rules.proofs.from_text.Basics.{option_holds_one}
use Rattle.std.proofs.lemmas.Bool.{false≢true}
use Rattle.ae_rules.proofs.from_text.Basics.{number_is_itself}

-- what is found is the thing of which it holds
here : {A : Type 0} (c : Context) (o : Option A) (u : A → Uses) (x : A) → o ≡ Some x → Within c (u x)
    → Within c (of_found o u)
here c o u x e h = in_found c o u (λ y k. subst (λ z. Within c (u z)) (option_holds_one o x y e k) h)

-- ---- sources

in_moved : (c : Context) (q : Perm) (path : Path) → is_seen c (resource.Local path.root.name) ≡ true
    → Within c (of_found (moves q path) write_use)
in_moved c perm.Unique path s = in_changed c path.root.name s
in_moved c perm.Immutable path s = in_nothing c
in_moved c perm.Lent path s = in_nothing c
in_moved c (perm.Shared g) path s = in_nothing c

in_source : (p : Code) (c : Context) (q : Perm) (k : Kind) (s : Source) (at : Spot)
    → Yields (λ _. Within c (source_uses p c q s)) (source_fits p c q k s at)
in_source p c q k Null at = always (in_nothing c)
in_source p c q k (From path) at =
    next (walk p c path) λ w h.
    always (in_both c (path_uses p c path) (of_found (moves q path) write_use) ((in_path p c path).value w h)
    (in_moved c q path ((root_seen p c path).value w h)))

in_fits : (p : Code) (c : Context) (target : Form) (e : Expression) → Yields (λ _. Within c (into_uses p c target e))
    (fits p c target e)
in_fits p c f.Int e = in_is_value p c f.Int e
in_fits p c f.Bool e = in_is_value p c f.Bool e
in_fits p c (f.Object q k) e =
    next (found (source e) rule.TypeMismatch (expression_spot e)) λ s h.
    weaker (λ _ z. here c (source e) (source_uses p c q) s
    (found_is (source e) rule.TypeMismatch (expression_spot e) s h) z) (in_source p c q k s (expression_spot e))

pub in_into : (p : Code) (c : Context) (target : Form) (e : Expression)
    → Yields (λ _. Within c (into_uses p c target e)) (into p c target e)
in_into p c target e = next (fits p c target e) λ u h. always ((in_fits p c target e).value u h)

-- ---- calls

in_lent : (c : Context) (q : Perm) (x : ℕ) → is_seen c (resource.Local x) ≡ true → Within c (root_lent q x)
in_lent c perm.Unique x s = in_changed c x s
in_lent c perm.Immutable x s = in_read c x s
in_lent c perm.Lent x s = in_read c x s
in_lent c (perm.Shared g) x s = in_read c x s

in_given : (p : Code) (c : Context) (q : Perm) (k : Kind) (away : Bool) (s : Source) (at : Spot) (before : Roots)
    → Yields (λ _. Within c (given_uses p c q s)) (source_to_param p c q k away s at before)
in_given p c q k away Null at before = always (in_nothing c)
in_given p c q k away (From path) at before =
    next (walk p c path) λ w e.
    always (in_both c (root_lent q path.root.name) (walk_uses p c path)
    (in_lent c q path.root.name ((root_seen p c path).value w e)) ((in_walk p c path).value w e))

in_argument : (p : Code) (c : Context) (target : Form) (away : Bool) (e : Expression) (before : Roots)
    → Yields (λ _. Within c (argument_uses p c target e)) (to_form p c target away e before)
in_argument p c f.Int away e before = next (is_value p c f.Int e) λ u h. always ((in_is_value p c f.Int e).value u h)
in_argument p c f.Bool away e before = next (is_value p c f.Bool e) λ u h. always ((in_is_value p c f.Bool e).value u h)
in_argument p c (f.Object q k) away e before =
    next (found (source e) rule.TypeMismatch (expression_spot e)) λ s h.
    weaker (λ _ z. here c (source e) (given_uses p c q) s
    (found_is (source e) rule.TypeMismatch (expression_spot e) s h) z)
    (in_given p c q k away s (expression_spot e) before)

in_need : (c : Context) (at : Spot) (n : Wanted) → Yields (λ _. Within c (need_uses n)) (need_met c.group at n)
in_need c at (need_of.Exclusive, g) =
    record { value = λ u e. in_exclusive c g (required (group_is group.Exclusive c.group g) _ at u e) }
in_need c at (need_of.Shared, g) =
    asks (not (group_is group.HeldBack c.group g)) _ _ λ _.
    record { value = λ u e. in_shared c g (required (group_is group.Shared c.group g) _ at u e) }
in_need c at (need_of.Protected, g) = record { value = λ u e. in_open c g (required (opens c.group g) _ at u e) }

in_needs : (c : Context) (at : Spot) (ns : List Wanted)
    → Yields (λ _. Within c (of_each need_uses ns)) (needs_met c.group at ns)
in_needs c at ns = asks (not (any_clash ns)) _ _ λ _. in_each c (need_met c.group at) need_uses (in_need c at) ns

abbrev argument : Code → Context → ParamSlot × Expression → Uses
argument p c x = argument_uses p c x.0.form x.1

in_callee : (p : Code) (c : Context) (i : Invocation) (m : Callee)
    → Yields (λ _. Within c (callee_uses p c i m)) (judge_callee_with p c i m)
in_callee p c i m =
    next (groups_fit (known c.group) (length m.method.groups) i.method.at i.groups) λ _ _.
    asks (nat_eq (length i.args) (length m.method.params)) _ _ λ _.
    let new : ℕ → ℕ = group_in m i.groups in
    let pairs : List (ParamSlot × Expression) = zip (slots p new m.method) (givens i) in
    let ns : List Wanted = map (wanted_need new) m.method.needs in
    next (in_turn (to_slot p c) pairs no_roots) λ roots e.
    next (needs_met c.group i.method.at ns) λ u h.
    always (in_both c (of_each (argument p c) pairs) (of_each need_uses ns)
    ((in_turns c (to_slot p c) (argument p c) (λ x s. in_argument p c x.0.form x.0.away x.1 s) pairs no_roots).value
    roots e)
    ((in_needs c i.method.at ns).value u h))

pub in_call : (p : Code) (c : Context) (i : Invocation) → Yields (λ _. Within c (call_uses p c i)) (judge_call p c i)
in_call p c i =
    next (judge_callee p c i.on i.method) λ m e.
    weaker (λ _ z. in_judged c (judge_callee p c i.on i.method) (callee_uses p c i) m e z) (in_callee p c i m)

-- ---- right sides

in_fill : (p : Code) (c : Context) (x : Form × Expression) (s : Filled)
    → Yields (λ _. Within c (into_uses p c x.0 x.1)) (fills p c x s)
in_fill p c x s =
    next (apart x.0 x.1 s.roots) λ _ _.
    next (into p c x.0 x.1) λ name e.
    always ((in_into p c x.0 x.1).value name e)

abbrev filled : Code → Context → Form × Expression → Uses
filled p c x = into_uses p c x.0 x.1

in_new : (p : Code) (c : Context) (x : NameAt) (gs : List NameAt) (args : List Expression)
    → Yields (λ _. Within c (made_uses p c x gs args)) (judge_new p c x gs args)
in_new p c x gs args =
    next (found (class_called p x.name) rule.UnknownClass x.at) λ (k : Class) e.
    next (groups_fit (known c.group) (length k.groups) x.at gs) λ _ _.
    asks (nat_eq (length args) (length k.fields)) _ _ λ _.
    let pairs : List (Form × Expression) = zip (map (field_form k (bare_names gs)) k.fields) args in
    let empty : Filled = record { roots = no_roots; after = c } in
    next (in_turn (fills p c) pairs empty) λ d h.
    always (here c (class_called p x.name) _ k (found_is (class_called p x.name) rule.UnknownClass x.at k e)
    ((in_turns c (fills p c) (filled p c) (in_fill p c) pairs empty).value d h))

in_take : (p : Code) (c : Context) (path : Path) (at : Spot) → Yields (λ _. Within c (write_uses p c (owner path)))
    (judge_take p c path at)
in_take p c path at =
    next (walk p c path) λ (w : Place) _.
    asks (is_object w.form) _ _ λ _.
    asks (is_unique w.form) _ _ λ _.
    next (owner_write_access p c path) λ u e.
    always ((in_owner p c path).value u e)

pub in_right : (p : Code) (c : Context) (target : Form) (e : RightSide)
    → Yields (λ _. Within c (right_uses p c target e)) (judge_right p c target e)
in_right p c target (Value e) = next (into p c target e) λ name h. always ((in_into p c target e).value name h)
in_right p c target (Taken path at) = next (judge_take p c path at) λ form h. always
    ((in_take p c path at).value form h)
in_right p c target (Zeros e at) = next (is_value p c f.Int e) λ u h. always ((in_is_value p c f.Int e).value u h)
in_right p c target (Made x gs args at) = next (judge_new p c x gs args) λ new h. always
    ((in_new p c x gs args).value new h)
in_right p c target (Returned i) = next (judge_call p c i) λ called h. always ((in_call p c i).value called h)

-- ---- statements

-- what is visible before a judged statement is visible after it
pub seen_later : (c d : Context) → Keeps c d → (r : Resource) → is_seen c r ≡ true → is_seen d r ≡ true
seen_later c d k (resource.Local x) s = local_later (c.local x) refl s
  where
    local_later : (o : Option Local) → c.local x ≡ o → is_some o ≡ true → is_some (d.local x) ≡ true
    local_later None e h = absurd (cc)
    local_later (Some l) e h = thing_is_there (d.local x) _ (k.local x l e).1
seen_later c d k (resource.Group g) s = group_later (c.group g) refl s
  where
    group_later : (o : Option _) → c.group g ≡ o → is_some o ≡ true → is_some (d.group g) ≡ true
    group_later None e h = absurd (cc)
    group_later (Some q) e h = thing_is_there (d.group g) q (k.group g q e)

allowed_later : (c d : Context) → Keeps c d → (r : Resource) (n : Mode) → is_allowed c r n ≡ true
    → is_allowed d r n ≡ true
allowed_later c d k (resource.Local x) n e = two (is_some (c.local x)) (is_some (d.local x)) (is_of_local n)
    (seen_later c d k (resource.Local x)) e
  where
    two : (a b m : Bool) → (a ≡ true → b ≡ true) → (a && m) ≡ true → (b && m) ≡ true
    two true true m h e = e
    two true false m h e = absurd (false≢true (h refl))
    two false b m h e = absurd (cc)
allowed_later c d k (resource.Group g) n e = same (c.group g) refl e
  where
    same : (o : Option GroupPerm) → c.group g ≡ o → given o false (λ q. group_allows q n) ≡ true
        → given (d.group g) false (λ q. group_allows q n) ≡ true
    same None h e = absurd (cc)
    same (Some q) h e = ap (λ z. given z false (λ q. group_allows q n)) (k.group g q h) ∙ e

within_later : (c d : Context) (u : Uses) → Keeps c d → Within c u → Within d u
within_later c d u k h r n e = allowed_later c d k r n (h r n e)

abbrev Visible : Code → Definition → Action → Context → Context → Type 0
Visible p m a c d = Within d (statement_uses p m a c)

-- a statement that declares nothing
kept : (p : Code) (m : Definition) (at : Spot) (a : Action) (c : Context)
    → Yields (λ _. Within c (statement_uses p m a c)) (judge_statement p m at a c)
    → Yields (Visible p m a c) (judge_statement p m at a c)
kept p m at a c y = record {
  value = λ d e. within_later c d (statement_uses p m a c) (statements_keep p m at a c d e)
      (y.value d e);
}

in_first : {A : Type 0} (b : Bool) (x : A) (o : Option A) → b ≡ true → is_some (if b then Some x else o) ≡ true
in_first true x o e = refl
in_first false x o e = absurd (cc)

in_let : (p : Code) (c : Context) (t : Ty) (x : NameAt) (e : RightSide)
    → Yields (λ _. Within c (right_uses p c (form t) e)) (judge_let p c t x e)
in_let p c t x e =
    next (forms_type p (known c.group) false t) λ _ _.
    asks (not (is_visible c x.name)) _ _ λ _.
    next (judge_right p c (form t) e) λ d h.
    always ((in_right p c (form t) e).value d h)

new_seen : (p : Code) (c : Context) (t : Ty) (x : NameAt) (e : RightSide)
    → Yields (λ (d : Context). is_seen d (resource.Local x.name) ≡ true) (judge_let p c t x e)
new_seen p c t x e =
    next (forms_type p (known c.group) false t) λ _ _.
    asks (not (is_visible c x.name)) _ _ λ _.
    next (judge_right p c (form t) e) λ d h.
    gives (in_first (nat_eq x.name x.name) _ _ (number_is_itself x.name))

in_assign : (p : Code) (c : Context) (x : NameAt) (e : RightSide)
    → Yields (λ _. Within c (assign_uses p c x e)) (judge_assign p c x e)
in_assign p c x e =
    next (found (c.local x.name) rule.UnknownName x.at) λ (l : Local) h.
    asks (not l.stays) _ _ λ _.
    next (judge_right p c l.form e) λ d z.
    let is : c.local x.name ≡ Some l = found_is (c.local x.name) rule.UnknownName x.at l h in
    always (in_both c (write_use x.name) _ (in_changed c x.name (thing_is_there (c.local x.name) l is))
    (here c (c.local x.name) _ l is ((in_right p c l.form e).value d z)))

in_store : (p : Code) (c : Context) (path : Path) (e : Expression) (at : Spot)
    → Yields (λ _. Within c (store_uses p c path e)) (judge_store p c path e at)
in_store p c path e at =
    next (walk p c path) λ (w : Place) h.
    next (owner_write_access p c path) λ u k.
    next (into p c w.form e) λ name z.
    always (in_both c (write_uses p c (owner path)) _ ((in_owner p c path).value u k)
    (in_judged c (walk p c path) _ w h ((in_into p c w.form e).value name z)))

in_store_at : (p : Code) (c : Context) (path : Path) (i e : Expression)
    → Yields (λ _. Within c (write_uses p c path ∪ value_uses p c i ∪ value_uses p c e)) (judge_store_at p c path i e)
in_store_at p c path i e =
    next (walk p c path) λ (w : Place) h.
    asks (is_ints w.form) _ _ λ _.
    next (write_access c path.root.at w.held) λ u k.
    next (is_value p c f.Int i) λ v y.
    next (is_value p c f.Int e) λ t z.
    always (in_both c (write_uses p c path) (value_uses p c i ∪ value_uses p c e)
    ((in_write p c path path.root.at w h).value u k)
    (in_both c (value_uses p c i) (value_uses p c e) ((in_is_value p c f.Int i).value v y)
    ((in_is_value p c f.Int e).value t z)))

in_alone : (c : Context) (x : NameAt) → Yields (λ _. Within c (write_use x.name)) (holds_alone c x)
in_alone c x =
    next (found (c.local x.name) rule.UnknownName x.at) λ (l : Local) h.
    always (in_changed c x.name (thing_is_there (c.local x.name) l
    (found_is (c.local x.name) rule.UnknownName x.at l h)))

in_share : (c : Context) (x g : NameAt) → Yields (λ _. Within c (write_use x.name ∪ whole_group g.name))
    (judge_share c x g)
in_share c x g =
    next (holds_alone c x) λ u e.
    next (is_group (known c.group) g) λ _ _.
    asks (opens c.group g.name) _ _ λ h.
    always (in_both c (write_use x.name) (whole_group g.name) ((in_alone c x).value u e) (in_open c g.name h))

in_prints : (c : Context) (at : Spot) → Yields (λ _. Within c (whole_group io)) (prints c at)
in_prints c at = asks (opens c.group io) _ _ λ h. always (in_open c io h)

in_return : (p : Code) (m : Definition) (c : Context) (e : Expression) (at : Spot)
    → Yields (λ _. Within c (return_uses p m c e)) (judge_return p m c e at)
in_return p m c e at =
    next (found m.result rule.TypeMismatch at) λ t h.
    next (into p c (form t) e) λ name z.
    always (here c m.result _ t (found_is m.result rule.TypeMismatch at t h) ((in_into p c (form t) e).value name z))

in_split : (c : Context) (g : NameAt) (earlier : Names)
    → Yields (λ _. Within c (whole_group g.name)) (may_split c.group g earlier)
in_split c g earlier =
    asks (known c.group g.name) _ _ λ _.
    asks (not (earlier g.name)) _ _ λ _.
    asks (group_is group.Exclusive c.group g.name) _ _ λ h.
    always (in_exclusive c g.name h)

in_lock : (c : Context) (g : NameAt) → Yields (λ _. Within c (together g.name)) (may_lock c.group g)
in_lock c g =
    asks (known c.group g.name) _ _ λ _.
    asks (not (group_is group.HeldBack c.group g.name)) _ _ λ _.
    record { value = λ u e. in_shared c g.name (required (group_is group.Shared c.group g.name) _ g.at u e) }

-- ---- blocks

-- what is visible outside a block and may be so used in it, may be so used outside
abbrev Opens : Context → Context → Resource → Type 0
Opens c start r = (n : Mode) → is_seen c r ≡ true → (is_seen start r ≡ true)
    × (is_allowed start r n ≡ true → is_allowed c r n ≡ true)

allowed_before : (c d : Context) → Keeps c d → (r : Resource) (n : Mode) → is_seen c r ≡ true
    → is_allowed d r n ≡ true → is_allowed c r n ≡ true
allowed_before c d k (resource.Local x) n s e = two (is_some (c.local x)) (is_some (d.local x)) (is_of_local n) s e
  where
    two : (a b m : Bool) → a ≡ true → (b && m) ≡ true → (a && m) ≡ true
    two true true m h e = e
    two true false m h e = absurd (cc)
    two false b m h e = absurd (cc)
allowed_before c d k (resource.Group g) n s e = same (c.group g) refl s
  where
    same : (o : Option GroupPerm) → c.group g ≡ o → is_some o ≡ true → given (c.group g) false (λ q. group_allows q n)
        ≡ true
    same None h s = absurd (cc)
    same (Some q) h s = ap (λ z. given z false (λ q. group_allows q n)) (h ∙ sym (k.group g q h)) ∙ e

opened_if : (b : Bool) (o : Option GroupPerm) (n : Mode)
    → (b ≡ true → given o false (same_group_perm group.Exclusive) ≡ true)
    → given (if b then Some group.Shared else o) false (λ q. group_allows q n) ≡ true
    → given o false (λ q. group_allows q n) ≡ true
opened_if false o n h e = e
opened_if true None n h e = absurd (false≢true (h refl))
opened_if true (Some group.Exclusive) mode.GroupShared h e = refl
opened_if true (Some group.Exclusive) mode.GroupWhole h e = refl
opened_if true (Some group.Exclusive) mode.Read h e = absurd (cc)
opened_if true (Some group.Exclusive) mode.Write h e = absurd (cc)
opened_if true (Some group.Shared) n h e = absurd (false≢true (h refl))
opened_if true (Some group.Protected) n h e = absurd (false≢true (h refl))
opened_if true (Some group.HeldBack) n h e = absurd (false≢true (h refl))
opened_if true (Some group.None) n h e = absurd (false≢true (h refl))

split_list : (c : Context) (gs : List NameAt)
    → Yields (λ _. Within c (of_each (λ (g : NameAt). whole_group g.name) gs)
    × AreExclusive c.group (has_name (bare_names gs))) (may_split_all c.group gs)
split_list c gs =
    next (in_turn (may_split c.group) gs no_names) λ names e.
    always (
      (in_turns c (may_split c.group) (λ (g : NameAt). whole_group g.name) (in_split c) gs no_names).value names
          e,
      (list_exclusive c.group gs no_names).value names e,
    )

pub shared_known : (b : Bool) (o : Option GroupPerm) → is_some o ≡ true → is_some (if b then Some group.Shared else o)
    ≡ true
shared_known true o e = refl
shared_known false o e = e

split_opens : (c : Context) (gs : List NameAt) → AreExclusive c.group (has_name (bare_names gs)) → (r : Resource)
    → Opens c (while_split gs c) r
split_opens c gs h (resource.Local x) n s = (s, λ e. e)
split_opens c gs h (resource.Group g) n s = (
  shared_known (has_name (bare_names gs) g) (c.group g) s,
  λ e. opened_if (has_name (bare_names gs) g)
      (c.group g) n (h g) e,
)

pub back_known : (o : Option GroupPerm) → is_some o ≡ true → is_some (held_back o) ≡ true
back_known None e = absurd (cc)
back_known (Some group.Exclusive) e = refl
back_known (Some group.Shared) e = refl
back_known (Some group.Protected) e = refl
back_known (Some group.HeldBack) e = refl
back_known (Some group.None) e = refl

back_allows : (o : Option GroupPerm) (n : Mode) → given (held_back o) false (λ q. group_allows q n) ≡ true
    → given o false (λ q. group_allows q n) ≡ true
back_allows None n e = e
back_allows (Some group.Exclusive) n e = e
back_allows (Some group.Shared) n e = absurd (cc)
back_allows (Some group.Protected) n e = e
back_allows (Some group.HeldBack) n e = e
back_allows (Some group.None) n e = e

pub locked_known : (b : Bool) (o : Option GroupPerm) → is_some o ≡ true
    → is_some (if b then Some group.Protected else held_back o) ≡ true
locked_known true o e = refl
locked_known false o e = back_known o e

locked_allows : (b : Bool) (o : Option GroupPerm) (n : Mode) → b ≡ false
    → given (if b then Some group.Protected else held_back o) false (λ q. group_allows q n) ≡ true
    → given o false (λ q. group_allows q n) ≡ true
locked_allows true o n h e = absurd (cc)
locked_allows false o n h e = back_allows o n e

lock_opens : (c : Context) (g : ℕ) (r : Resource) → same_resource (resource.Group g) r ≡ false
    → Opens c (while_locked g c) r
lock_opens c g (resource.Local x) other n s = (s, λ e. e)
lock_opens c g (resource.Group h) other n s =
    (locked_known (nat_eq g h) (c.group h) s, λ e. locked_allows (nat_eq g h) (c.group h) n other e)

in_block : (c start : Context) (u : Uses) → ((r : Resource) → Opens c start r) → Inside start u → Within c (outside c u)
in_block c start u o h = in_outside c u (λ r n e s. let k = o r n s in k.1 (h r n e k.0))

but_other : (b : Bool) (o : Option Mode) (n : Mode) → (if b then None else o) ≡ Some n → b ≡ false
but_other true o n e = absurd (cc)
but_other false o n e = refl

seen_if : (b : Bool) (o : Option Mode) (n : Mode) → (if b then o else None) ≡ Some n → (b ≡ true) × (o ≡ Some n)
seen_if true o n e = (refl, e)
seen_if false o n e = absurd (cc)

in_locked : (c : Context) (g : ℕ) (u : Uses) → Inside (while_locked g c) u
    → Within c (all_but (resource.Group g) (outside c u))
in_locked c g u h r n e =
    let inner : outside c u r ≡ Some n = left_by_test (same_resource (resource.Group g) r) (outside c u r) n e in
    let q = seen_if (is_seen c r) (u r) n inner in
    let k = lock_opens c g r (but_other (same_resource (resource.Group g) r) (outside c u r) n e) n q.0 in
    k.1 (h r n q.1 k.0)

in_condition : (p : Code) (c : Context) (e : Expression) (u : Uses) (w : ⊤) → is_value p c f.Bool e ≡ Holds w
    → Inside c u → Within c (value_uses p c e ∪ outside c u)
in_condition p c e u w h k = in_both c (value_uses p c e) (outside c u) ((in_is_value p c f.Bool e).value w h)
    (in_outside c u k)

in_choice : (p : Code) (c : Context) (e : Expression) (u v : Uses) (w : ⊤) → is_value p c f.Bool e ≡ Holds w
    → Inside c u → Inside c v → Within c (value_uses p c e ∪ outside c u ∪ outside c v)
in_choice p c e u v w h k l =
    in_both c (value_uses p c e) (outside c u ∪ outside c v) ((in_is_value p c f.Bool e).value w h)
    (in_both c (outside c u) (outside c v) (in_outside c u k) (in_outside c v l))

-- what is said of lines that are judged and then end a block
ended : (p : Code) (c : Context) (b : Lines) (P : Type 0) (v : Verdict Context) → Yields (λ _. P) v
    → Yields (λ _. P) (v >>= end_block p c b)
ended p c b P v y = next v λ d e. always (y.value d e)

in_next : (p : Code) (m : Definition) (c d : Context) (a : Action) (at : Spot) (rest : Lines)
    → judge_statement p m at a c ≡ Holds d → Keeps c d → Visible p m a c d → Inside d (lines_use p m rest d)
    → Inside c (statement_uses p m a c ∪ of_judged (judge_statement p m at a c) (lines_use p m rest))
in_next p m c d a at rest e k v h r n u s =
    elim (of_two (statement_uses p m a c r) (of_judged (judge_statement p m at a c) (lines_use p m rest) r) n u) [
      | inl x ↦ allowed_before c d k r n s (v r n x)
      | inr x ↦ allowed_before c d k r n s
          (h r n (judged_use (judge_statement p m at a c) (lines_use p m rest) d r n e x) (seen_later c d k r s))
    ]
  where
    judged_use : (w : Verdict Context) (uses : Context → Uses) (d : Context) (r : Resource) (n : Mode) → w ≡ Holds d
        → of_judged w uses r ≡ Some n → uses d r ≡ Some n
    judged_use w uses d r n e x = sym (ap (λ z. of_judged z uses r) e) ∙ x

nothing_used : (n : Mode) → None ≡ Some n → ⊥
nothing_used n e = cc

new_exclusive : (b : Bool) (o : Option GroupPerm) → b ≡ true → given (if b then Some group.Exclusive else o) false
    (same_group_perm group.Exclusive) ≡ true
new_exclusive true o e = refl
new_exclusive false o e = absurd (cc)

mutual
  visible : (p : Code) (m : Definition) (at : Spot) (a : Action) (c : Context)
      → Yields (Visible p m a c) (judge_statement p m at a c)
  visible p m at (Declares t x e) c = record {
    value = λ d h.
        in_both d (write_use x.name) (right_uses p c (form t) e) (in_changed d x.name ((new_seen p c t x e).value d h))
        (within_later c d (right_uses p c (form t) e) (statements_keep p m at (Declares t x e) c d h)
        ((in_let p c t x e).value d h));
  }
  visible p m at (Groups g) c =
      asks (not (is_some (c.local g.name))) _ _ λ _.
      next (declare g c.group) λ gs h.
      gives (in_exclusive (record c { group = gs }) g.name
      (subst (λ (hs : GroupsKnown). group_is group.Exclusive hs g.name ≡ true)
      ((declared_is g c.group).value gs h).1
      (new_exclusive (nat_eq g.name g.name) (c.group g.name) (number_is_itself g.name))))
  visible p m at (Assigns x e) c = kept p m at (Assigns x e) c (in_assign p c x e)
  visible p m at (Stores path e) c = kept p m at (Stores path e) c (in_store p c path e (expression_spot e))
  visible p m at (StoresAt path i e) c = kept p m at (StoresAt path i e) c (in_store_at p c path i e)
  visible p m at (Calls i) c = kept p m at (Calls i) c
      (next (judge_call p c i) λ d h. always ((in_call p c i).value d h))
  visible p m at (Chooses e n b) c = kept p m at (Chooses e n b) c (
      next (is_value p c f.Bool e) λ u h.
      next (judge_lines p m b c >>= end_block p c b) λ d k.
      always (in_condition p c e (lines_use p m b c) u h
      ((ended p c b (Inside c (lines_use p m b c)) (judge_lines p m b c) (inside p m b c)).value d k)))
  visible p m at (ChoosesElse e n b k b') c = kept p m at (ChoosesElse e n b k b') c (
      next (is_value p c f.Bool e) λ u h.
      next (judge_lines p m b c >>= end_block p c b) λ d i.
      next (judge_lines p m b' c >>= end_block p c b') λ d' j.
      always (in_choice p c e (lines_use p m b c) (lines_use p m b' c) u h
      ((ended p c b (Inside c (lines_use p m b c)) (judge_lines p m b c) (inside p m b c)).value d i)
      ((ended p c b' (Inside c (lines_use p m b' c)) (judge_lines p m b' c) (inside p m b' c)).value d' j)))
  visible p m at (Repeats e n b) c = kept p m at (Repeats e n b) c (
      next (is_value p c f.Bool e) λ u h.
      next (judge_lines p m b c >>= end_block p c b) λ d k.
      always (in_condition p c e (lines_use p m b c) u h
      ((ended p c b (Inside c (lines_use p m b c)) (judge_lines p m b c) (inside p m b c)).value d k)))
  visible p m at (Splits gs n b) c = kept p m at (Splits gs n b) c (
      next (may_split_all c.group gs) λ u e.
      let all = (split_list c gs).value u e in
      weaker (λ _ k. in_both c (of_each (λ (g : NameAt). whole_group g.name) gs)
      (outside c (lines_use p m b (while_split gs c)))
      all.0 (in_block c (while_split gs c) (lines_use p m b (while_split gs c)) (split_opens c gs all.1) k))
      (ended p c b (Inside (while_split gs c) (lines_use p m b (while_split gs c)))
      (judge_lines p m b (while_split gs c)) (inside p m b (while_split gs c))))
  visible p m at (Locks g n b) c = kept p m at (Locks g n b) c (
      next (may_lock c.group g) λ u e.
      weaker (λ _ k. in_both c (together g.name) _ ((in_lock c g).value u e)
      (in_locked c g.name (lines_use p m b (while_locked g.name c)) k))
      (ended p c b (Inside (while_locked g.name c) (lines_use p m b (while_locked g.name c)))
      (judge_lines p m b (while_locked g.name c)) (inside p m b (while_locked g.name c))))
  visible p m at (Freezes x) c = kept p m at (Freezes x) c
      (next (holds_alone c x) λ u e. always ((in_alone c x).value u e))
  visible p m at (Shares x g) c = kept p m at (Shares x g) c (in_share c x g)
  visible p m at (Prints e) c = kept p m at (Prints e) c (
      next (judge_value p c e) λ w h.
      weaker (λ _ z. in_both c (value_uses p c e) (whole_group io) ((in_value p c e).value w h) z) (in_prints c at))
  visible p m at (PrintsText s) c = kept p m at (PrintsText s) c (in_prints c at)
  visible p m at (Asserts e) c = kept p m at (Asserts e) c
      (next (is_value p c f.Bool e) λ u h. always ((in_is_value p c f.Bool e).value u h))
  visible p m at (Returns e) c = kept p m at (Returns e) c (in_return p m c e at)

  pub inside : (p : Code) (m : Definition) (b : Lines) (c : Context)
      → Yields (λ _. Inside c (lines_use p m b c)) (judge_lines p m b c)
  inside p m End c = always (λ r n e s. absurd (nothing_used n e))
  inside p m (Next at a rest) c =
      next (judge_statement p m at a c) λ d e.
      weaker (λ _ h. in_next p m c d a at rest e (statements_keep p m at a c d e) ((visible p m at a c).value d e) h)
      (inside p m rest d)

pub uses_are_allowed : UsesAreAllowed
uses_are_allowed p m at a c d r n h e = (visible p m at a c).value d h r n e
