-- What a judged statement leaves as it was.
use Rattle.std.proofs.Common.{◌≡◌, refl, ap, ◌∙◌, subst, ℕ, nat_eq, Bool, true, false, ◌||◌, not, if◌then◌else◌}
use Rattle.std.proofs.Common.{List, [], ◌∷◌, map, Option, None, Some}
use Rattle.std.specs.Prelude.{is_some, option_map, length, zip}
use Rattle.std.proofs.lemmas.Bool.{eqb-true}
use Rattle.ae_text.specs.declared.refusal.Spot.{Spot}
use Rattle.ae_text.specs.declared.refusal.Rule.TheVariants as rule
use Rattle.ae_tree.specs.declared.form.Kind.TheVariants as kind
use Rattle.ae_tree.specs.declared.form.Form.{Form}
use Rattle.ae_tree.specs.declared.form.Form.TheVariants as f
use Rattle.ae_tree.specs.declared.tree.NameAt.{NameAt}
use Rattle.ae_tree.specs.declared.tree.Ty.{Ty}
use Rattle.ae_tree.specs.declared.tree.Path.{Path}
use Rattle.ae_tree.specs.declared.tree.Class.{Class}
use Rattle.ae_tree.specs.Form.{form, bare_names}
use Rattle.ae_tree.specs.Names.{io}
use Rattle.ae_tree.specs.Plain.{Expression, Invocation, RightSide, Value, Taken, Zeros, Made, Returned, Lines, End}
use Rattle.ae_tree.specs.Plain.{Next, Definition, Code}
use Rattle.ae_tree.specs.Plain.{Action, Declares, Assigns, Stores, StoresAt, Calls, Chooses, ChoosesElse, Repeats}
use Rattle.ae_tree.specs.Plain.{Groups, Splits, Locks, Freezes, Shares, Prints, PrintsText, Asserts, Returns}
use Rattle.ae_rules.specs.declared.held.Held.{Held}
use Rattle.ae_rules.specs.declared.held.Held.TheVariants as held
use Rattle.ae_rules.specs.declared.held.GroupPerm.{GroupPerm}
use Rattle.ae_rules.specs.declared.held.GroupPerm.TheVariants as group
use Rattle.ae_rules.specs.Verdict.{Verdict, ◌>>=◌, found, in_turn, given}
use Rattle.ae_rules.specs.Shares.{Share, splits, joins}
use Rattle.ae_rules.specs.Forms.{is_ints}
use Rattle.ae_rules.specs.Lookups.{class_called, field_form}
use Rattle.ae_rules.specs.Types.{forms_type, groups_fit, is_group}
use Rattle.ae_rules.specs.Context.{Local, Context, is_visible, held_in, held_of, with_held, with_local}
use Rattle.ae_rules.specs.Context.{with_name_moved, closed, hold_alike}
use Rattle.ae_rules.specs.Walks.{walk, write_access, owner_write_access}
use Rattle.ae_rules.specs.Expressions.{expression_spot, judge_value, is_value}
use Rattle.ae_rules.specs.Into.{into, made_into, unique_of}
use Rattle.ae_rules.specs.Groups.{Groups as GroupsKnown}
use Rattle.ae_rules.specs.Groups.{opens, known, declare, with_group, wanted_need, needs_met, may_split_all, may_lock}
use Rattle.ae_rules.specs.Calls.{Filled, MadeValue, no_roots, apart, fills, judge_new, judge_callee, judge_call}
use Rattle.ae_rules.specs.Calls.{Called, ParamSlot, slots, givens, group_in, to_slot, LentPart, argument_parts}
use Rattle.ae_rules.specs.Calls.{given_back, after_call}
use Rattle.ae_rules.specs.Statements.{judge_take, result_into, judge_right, judge_let, judge_assign, is_moved}
use Rattle.ae_rules.specs.Statements.{judge_store, judge_store_at, holds_alone, judge_share, prints, judge_return}
use Rattle.ae_rules.specs.Statements.{groups_stay, end_block, while_split, while_locked, judge_statement}
use Rattle.ae_rules.specs.Statements.{judge_lines}
use Rattle.ae_rules.proofs.GroupLemmas.{declared_is}
use Rattle.ae_rules.proofs.VerdictLemmas.{Yields, gives, next, asks, turns}
use Rattle.ae_rules.specs.Laws.{Keeps, StatementsKeep}
use Rattle.ae_rules.proofs.TruthLemmas.{thing_is_there}

-- ---- contexts

keeps_all : (c : Context) → Keeps c c
keeps_all c = record { local = λ x l e. (l.held, e); group = λ g q e. e }

keeps_both : {c d e : Context} → Keeps c d → Keeps d e → Keeps c e
keeps_both {c} {d} {e} k n = record {
  local = λ x l h. later x l (k.local x l h);
  group =
      λ g q h. n.group g q (k.group g q h);
}
  where
    later : (x : ℕ) (l : Local) → (h : Held) × (d.local x ≡ Some (record l { held = h }))
        → (h : Held) × (e.local x ≡ Some (record l { held = h }))
    later x l h = n.local x (record l { held = h.0 }) h.1

abbrev holding : Held → Local → Local
holding h l = record l { held = h }

held_if : (b : Bool) (h : Held) (o : Option Local) (l : Local) → o ≡ Some l
    → (k : Held) × ((if b then option_map (holding h) o else o) ≡ Some (record l { held = k }))
held_if true h o l e = (h, ap (option_map (holding h)) e)
held_if false h o l e = (l.held, e)

keeps_held : (x : ℕ) (h : Held) (c : Context) → Keeps c (with_held x h c)
keeps_held x h c = record { local = λ y l e. held_if (nat_eq x y) h (c.local y) l e; group = λ g q e. e }

keeps_moved : (name : Option ℕ) (c : Context) → Keeps c (with_name_moved name c)
keeps_moved None c = keeps_all c
keeps_moved (Some x) c = keeps_held x held.None c

-- a name that is not visible is no local and no group
no_local : (a b : Bool) → not (a || b) ≡ true → a ≡ true → ⊥
no_local true b e h = cc
no_local false b e h = cc

no_group : (b : Bool) → not b ≡ true → b ≡ true → ⊥
no_group true e h = cc
no_group false e h = cc

-- The new local stands behind the right side, and its name was free before it.
new_if : (c d : Context) (x y : ℕ) (new l : Local) (b : Bool) → nat_eq x y ≡ b → not (is_visible c x) ≡ true
    → Keeps c d → c.local y ≡ Some l
    → (k : Held) × ((if b then Some new else d.local y) ≡ Some (record l { held = k }))
new_if c d x y new l false n v k e = k.local y l e
new_if c d x y new l true n v k e =
    absurd (no_local _ _ v (thing_is_there (c.local x) l (ap c.local (eqb-true x y n) ∙ e)))

keeps_local : (x : ℕ) (t : Form) (c d : Context) → not (is_visible c x) ≡ true → Keeps c d → Keeps c (with_local x t d)
keeps_local x t c d v k = record { local = λ y l e. new_if c d x y _ l (nat_eq x y) refl v k e; group = k.group }

group_if : (c : Context) (x y : ℕ) (new q : GroupPerm) (b : Bool) → nat_eq x y ≡ b → not (known c.group x) ≡ true
    → c.group y ≡ Some q → (if b then Some new else c.group y) ≡ Some q
group_if c x y new q false n v e = e
group_if c x y new q true n v e = absurd (no_group _ v (thing_is_there (c.group x) q (ap c.group (eqb-true x y n) ∙ e)))

keeps_group : (g : ℕ) (q : GroupPerm) (c : Context) → not (known c.group g) ≡ true
    → Keeps c (record c { group = with_group g q c.group })
keeps_group g q c v = record { local = λ x l e. (l.held, e); group = λ h r e. group_if c g h q r (nat_eq g h) refl v e }

inside_if : (b : Bool) (o : Option Local) (l : Local) → b ≡ true → (h : Held) × (o ≡ Some (record l { held = h }))
    → (h : Held) × ((if b then o else None) ≡ Some (record l { held = h }))
inside_if true o l e k = k
inside_if false o l e k = absurd (cc)

abbrev LocalsKeep : Context → Context → Type 0
LocalsKeep c d = (x : ℕ) (l : Local) → c.local x ≡ Some l → (h : Held) × (d.local x ≡ Some (record l { held = h }))

keeps_closed : (c d : Context) → LocalsKeep c d → Keeps c (closed c d)
keeps_closed c d k = record {
  local = λ x l e. inside_if (is_some (c.local x)) (d.local x) l
      (thing_is_there (c.local x) l e) (k x l e);
  group = λ g q e. e;
}

-- ---- calls

keeps_joined : (o : Option Held) (r : ℕ) (d : Context) → Keeps d (given o d (λ w. with_held r w d))
keeps_joined None r d = keeps_all d
keeps_joined (Some w) r d = keeps_held r w d

keeps_away : (b : Bool) (o : Option Held) (r : ℕ) (d : Context)
    → Keeps d (if b then d else given o d (λ w. with_held r w d))
keeps_away true o r d = keeps_all d
keeps_away false o r d = keeps_joined o r d

keeps_given_back : (x : LentPart) (share : Share) (d : Context) → Keeps d (given_back x share d)
keeps_given_back x share d = keeps_away x.away (joins (held_in d x.root) share.0) x.root d

keeps_part : (x : LentPart) (xs : List LentPart) → ((c : Context) → Keeps c (after_call xs c))
    → (c : Context) (o : Option Share)
    → Keeps c (given o (after_call xs c) (λ share. given_back x share (after_call xs (with_held x.root share.1 c))))
keeps_part x xs ih c None = ih c
keeps_part x xs ih c (Some share) =
    let d : Context = with_held x.root share.1 c in
    keeps_both (keeps_held x.root share.1 c) (keeps_both (ih d) (keeps_given_back x share (after_call xs d)))

pub keeps_after_call : (xs : List LentPart) (c : Context) → Keeps c (after_call xs c)
keeps_after_call [] c = keeps_all c
keeps_after_call (x ∷ xs) c = keeps_part x xs (keeps_after_call xs) c (splits (held_in c x.root) x.need)

call_keeps : (p : Code) (c : Context) (i : Invocation) → Yields (λ (d : Called). Keeps c d.after) (judge_call p c i)
call_keeps p c i =
    next (judge_callee p c i.on i.method) λ m _.
    next (groups_fit (known c.group) (length m.method.groups) i.method.at i.groups) λ _ _.
    asks (nat_eq (length i.args) (length m.method.params)) _ _ λ _.
    let pairs : List (ParamSlot × Expression) = zip (slots p (group_in m i.groups) m.method) (givens i) in
    next (in_turn (to_slot p c) pairs no_roots) λ _ _.
    next (needs_met c.group i.method.at (map (wanted_need (group_in m i.groups)) m.method.needs)) λ _ _.
    gives (keeps_after_call (argument_parts c pairs) c)

-- ---- new objects and right sides

fill_keeps : (p : Code) (c : Context) (x : Form × Expression) (s : Filled) → Keeps c s.after
    → Yields (λ (d : Filled). Keeps c d.after) (fills p c x s)
fill_keeps p c x s k =
    next (apart x.0 x.1 s.roots) λ _ _.
    next (into p c x.0 x.1) λ name _.
    gives (keeps_both k (keeps_moved name s.after))

new_keeps : (p : Code) (c : Context) (x : NameAt) (gs : List NameAt) (args : List Expression)
    → Yields (λ (d : MadeValue). Keeps c d.after) (judge_new p c x gs args)
new_keeps p c x gs args =
    next (found (class_called p x.name) rule.UnknownClass x.at) λ (k : Class) _.
    next (groups_fit (known c.group) (length k.groups) x.at gs) λ _ _.
    asks (nat_eq (length args) (length k.fields)) _ _ λ _.
    let pairs : List (Form × Expression) = zip (map (field_form k (bare_names gs)) k.fields) args in
    let empty : Filled = record { roots = no_roots; after = c } in
    next (in_turn (fills p c) pairs empty) λ d e.
    gives ((turns (fills p c) (fill_keeps p c) pairs empty (keeps_all c)).value d e)

pub right_keeps : (p : Code) (c : Context) (target : Form) (e : RightSide) → Yields (Keeps c) (judge_right p c target e)
right_keeps p c target (Value e) = next (into p c target e) λ name _. gives (keeps_moved name c)
right_keeps p c target (Taken path at) =
    next (judge_take p c path at) λ value _.
    next (made_into value target at) λ _ _.
    gives (keeps_all c)
right_keeps p c target (Zeros e at) =
    next (is_value p c f.Int e) λ _ _.
    next (made_into (unique_of kind.Ints) target at) λ _ _.
    gives (keeps_all c)
right_keeps p c target (Made x gs args at) =
    next (judge_new p c x gs args) λ new e.
    next (made_into new.value target at) λ _ _.
    gives ((new_keeps p c x gs args).value new e)
right_keeps p c target (Returned i) =
    next (judge_call p c i) λ called e.
    next (result_into called.result target i.method.at) λ _ _.
    gives ((call_keeps p c i).value called e)

-- ---- statements without blocks

let_keeps : (p : Code) (c : Context) (t : Ty) (x : NameAt) (e : RightSide) → Yields (Keeps c) (judge_let p c t x e)
let_keeps p c t x e =
    next (forms_type p (known c.group) false t) λ _ _.
    asks (not (is_visible c x.name)) _ _ λ v.
    next (judge_right p c (form t) e) λ d h.
    gives (keeps_local x.name (form t) c d v ((right_keeps p c (form t) e).value d h))

assign_keeps : (p : Code) (c : Context) (x : NameAt) (e : RightSide) → Yields (Keeps c) (judge_assign p c x e)
assign_keeps p c x e =
    next (found (c.local x.name) rule.UnknownName x.at) λ (l : Local) _.
    asks (not l.stays) _ _ λ _.
    next (judge_right p c l.form e) λ d h.
    gives (keeps_both ((right_keeps p c l.form e).value d h) (keeps_held x.name (held_of l.form) d))

store_keeps : (p : Code) (c : Context) (path : Path) (e : Expression) (at : Spot)
    → Yields (Keeps c) (judge_store p c path e at)
store_keeps p c path e at =
    next (walk p c path) λ w _.
    next (owner_write_access p c path) λ _ _.
    next (into p c w.form e) λ name _.
    asks (not (is_moved name path.root.name)) _ _ λ _.
    gives (keeps_moved name c)

store_at_keeps : (p : Code) (c : Context) (path : Path) (i e : Expression)
    → Yields (Keeps c) (judge_store_at p c path i e)
store_at_keeps p c path i e =
    next (walk p c path) λ w _.
    asks (is_ints w.form) _ _ λ _.
    next (write_access c path.root.at w.held) λ _ _.
    next (is_value p c f.Int i) λ _ _.
    next (is_value p c f.Int e) λ _ _.
    gives (keeps_all c)

share_keeps : (c : Context) (x g : NameAt) → Yields (Keeps c) (judge_share c x g)
share_keeps c x g =
    next (holds_alone c x) λ _ _.
    next (is_group (known c.group) g) λ _ _.
    asks (opens c.group g.name) _ _ λ _.
    gives (keeps_held x.name (held.Shared g.name) c)

print_keeps : (c : Context) (at : Spot) → Yields (Keeps c) (prints c at)
print_keeps c at = asks (opens c.group io) _ _ λ _. gives (keeps_all c)

return_keeps : (p : Code) (m : Definition) (c : Context) (e : Expression) (at : Spot)
    → Yields (Keeps c) (judge_return p m c e at)
return_keeps p m c e at =
    next (found m.result rule.TypeMismatch at) λ t _.
    next (into p c (form t) e) λ name _.
    gives (keeps_moved name c)

-- ---- blocks

-- a block that begins with the locals from outside
block_keeps : (p : Code) (m : Definition) (b : Lines) (c start : Context) → LocalsKeep c start
    → Yields (Keeps start) (judge_lines p m b start)
    → Yields (Keeps c) (judge_lines p m b start >>= end_block p c b)
block_keeps p m b c start same inside =
    next (judge_lines p m b start) λ d e.
    next (groups_stay p c d b) λ _ _.
    gives (keeps_closed c d (λ x l h.
    let s : (k : Held) × (start.local x ≡ Some (record l { held = k })) = same x l h in
    (inside.value d e).local x (record l { held = s.0 }) s.1))

same_locals : (c : Context) → LocalsKeep c c
same_locals c x l e = (l.held, e)

weaker : (c d : Context) (v : Verdict Context) → Keeps c d → Yields (Keeps d) v → Yields (Keeps c) v
weaker c d v k y = record { value = λ e h. keeps_both k (y.value e h) }

mutual
  statement_keeps : (p : Code) (m : Definition) (at : Spot) (a : Action) (c : Context)
      → Yields (Keeps c) (judge_statement p m at a c)
  statement_keeps p m at (Declares t x e) c = let_keeps p c t x e
  statement_keeps p m at (Assigns x e) c = assign_keeps p c x e
  statement_keeps p m at (Stores path e) c = store_keeps p c path e (expression_spot e)
  statement_keeps p m at (StoresAt path i e) c = store_at_keeps p c path i e
  statement_keeps p m at (Calls i) c = next (judge_call p c i) λ d e. gives ((call_keeps p c i).value d e)
  statement_keeps p m at (Chooses e n b) c =
      next (is_value p c f.Bool e) λ _ _.
      next (judge_lines p m b c >>= end_block p c b) λ d _.
      asks (hold_alike p c d c) _ _ λ _.
      gives (keeps_all c)
  statement_keeps p m at (ChoosesElse e n b k b') c =
      next (is_value p c f.Bool e) λ _ _.
      next (judge_lines p m b c >>= end_block p c b) λ d _.
      next (judge_lines p m b' c >>= end_block p c b') λ d' h.
      asks (hold_alike p c d d') _ _ λ _.
      gives ((block_keeps p m b' c c (same_locals c) (lines_keep p m b' c)).value d' h)
  statement_keeps p m at (Repeats e n b) c =
      next (is_value p c f.Bool e) λ _ _.
      next (judge_lines p m b c >>= end_block p c b) λ d _.
      asks (hold_alike p c d c) _ _ λ _.
      gives (keeps_all c)
  statement_keeps p m at (Groups g) c =
      asks (not (is_some (c.local g.name))) _ _ λ _.
      next (declare g c.group) λ gs h.
      gives (subst (λ (hs : GroupsKnown). Keeps c (record c { group = hs })) ((declared_is g c.group).value gs h).1
      (keeps_group g.name group.Exclusive c ((declared_is g c.group).value gs h).0))
  statement_keeps p m at (Splits gs n b) c =
      next (may_split_all c.group gs) λ _ _.
      block_keeps p m b c (while_split gs c) (same_locals c) (lines_keep p m b (while_split gs c))
  statement_keeps p m at (Locks g n b) c =
      next (may_lock c.group g) λ _ _.
      block_keeps p m b c (while_locked g.name c) (same_locals c) (lines_keep p m b (while_locked g.name c))
  statement_keeps p m at (Freezes x) c = next (holds_alone c x) λ _ _. gives (keeps_held x.name held.Immutable c)
  statement_keeps p m at (Shares x g) c = share_keeps c x g
  statement_keeps p m at (Prints e) c = next (judge_value p c e) λ _ _. print_keeps c at
  statement_keeps p m at (PrintsText s) c = print_keeps c at
  statement_keeps p m at (Asserts e) c = next (is_value p c f.Bool e) λ _ _. gives (keeps_all c)
  statement_keeps p m at (Returns e) c = return_keeps p m c e at

  lines_keep : (p : Code) (m : Definition) (b : Lines) (c : Context) → Yields (Keeps c) (judge_lines p m b c)
  lines_keep p m End c = gives (keeps_all c)
  lines_keep p m (Next at a rest) c =
      next (judge_statement p m at a c) λ d e.
      weaker c d (judge_lines p m rest d) ((statement_keeps p m at a c).value d e) (lines_keep p m rest d)

pub statements_keep : StatementsKeep
statements_keep p m at a c d h = (statement_keeps p m at a c).value d h
