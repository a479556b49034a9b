-- In judged code of each local is held what a local of its form may hold.
use Rattle.std.proofs.Common.{◌≡◌, ◌≢◌, inl, inr, refl, sym, ap, ◌∙◌, subst, ℕ, nat_eq, Bool, true, false, ◌&&◌}
use Rattle.std.proofs.Common.{◌||◌, not, if◌then◌else◌, List, [], ◌∷◌, map, length, Option, None, Some}
use Rattle.std.specs.Prelude.{is_some, option_map, filter_map, zip, ⊤}
use Rattle.std.specs.List.{cons_option}
use Rattle.std.proofs.lemmas.Bool.{and_parts, eqb-true, or_cases}
use Rattle.std.proofs.lemmas.List.Elements.{All-weaker}
use Rattle.ae_text.specs.declared.refusal.Spot.{Spot}
use Rattle.ae_text.specs.declared.refusal.Rule.TheVariants as rule
use Rattle.ae_tree.specs.declared.tree.NameAt.{NameAt}
use Rattle.ae_tree.specs.declared.tree.Path.{Path}
use Rattle.ae_tree.specs.declared.tree.Ty.{Ty}
use Rattle.ae_tree.specs.declared.tree.Class.{Class}
use Rattle.ae_tree.specs.declared.form.Perm.{Perm}
use Rattle.ae_tree.specs.declared.form.Perm.TheVariants as perm
use Rattle.ae_tree.specs.declared.form.Kind.{Kind}
use Rattle.ae_tree.specs.declared.form.Form.{Form}
use Rattle.ae_tree.specs.declared.form.Form.TheVariants as f
use Rattle.ae_tree.specs.Form.{form, bare_names}
use Rattle.ae_tree.specs.Names.{this}
use Rattle.ae_tree.specs.WellShaped.{ActionNamed, MethodNamed, WellShaped}
use Rattle.ae_tree.specs.Plain.{Expression, Invocation, RightSide, Value, Taken, Zeros, Made, Returned, Lines, End}
use Rattle.ae_tree.specs.Plain.{Next, Definition, Code}
use Rattle.ae_tree.specs.Plain.{Action, Declares, Assigns, Stores, StoresAt, Calls, Chooses, ChoosesElse, Repeats}
use Rattle.ae_tree.specs.Plain.{Groups, Splits, Locks, Freezes, Shares, Prints, PrintsText, Asserts, Returns}
use Rattle.ae_rules.specs.declared.held.Held.{Held}
use Rattle.ae_rules.specs.declared.held.Held.TheVariants as held
use Rattle.ae_rules.specs.declared.held.GroupPerm.{GroupPerm}
use Rattle.ae_rules.specs.declared.held.GroupPerm.TheVariants as group
use Rattle.ae_rules.specs.Verdict.{Holds, ◌>>=◌, ◌>>◌, require, found, in_turn, given}
use Rattle.ae_rules.specs.Forms.{is_object_of, is_object, is_unique}
use Rattle.ae_rules.specs.Lookups.{has_name, class_called, field_form, method_at, field_of}
use Rattle.ae_rules.specs.Types.{forms_type, groups_fit, is_group}
use Rattle.ae_rules.specs.Groups.{Groups as GroupsKnown}
use Rattle.ae_rules.specs.Groups.{known, same_group_perm, opens, with_group, group_access, shared_in}
use Rattle.ae_rules.specs.Groups.{while_others_held_back}
use Rattle.ae_rules.specs.Context.{Local, Context, is_visible, same_held, held_of, held_in, with_local, with_held}
use Rattle.ae_rules.specs.Context.{with_name_moved, closed, access}
use Rattle.ae_rules.specs.Walks.{Place, walk, is_name, owner_write_access, step, held_inside, held_in_field}
use Rattle.ae_rules.specs.Expressions.{expression_spot}
use Rattle.ae_rules.specs.Into.{Source, Null, From, source, path_fits, source_fits, may_leave, fits, source_moves}
use Rattle.ae_rules.specs.Into.{into, name_into}
use Rattle.ae_rules.specs.Calls.{Filled, Called, MadeValue, Callee, ParamSlot, no_roots, apart, fills, judge_new}
use Rattle.ae_rules.specs.Calls.{judge_callee, judge_callee_with, judge_call, group_in, slots, givens, to_slot}
use Rattle.ae_rules.specs.Statements.{judge_right, judge_let, judge_assign, judge_store, holds_alone, judge_share}
use Rattle.ae_rules.specs.Statements.{judge_return, groups_stay, none_shared, judge_statement, judge_lines}
use Rattle.ae_rules.specs.Effects.{all_moved, gone_name, call_effect, made_effect, right_effect, assign_effect}
use Rattle.ae_rules.specs.Effects.{store_effect, return_effect, effect}
use Rattle.ae_rules.specs.Judges.{start, me_local, param_local, param_called}
use Rattle.ae_rules.specs.Blocks.{Opened, all_scenes}
use Rattle.ae_rules.specs.BlockLaws.{groups_in_lines, VisibleBelow, may_become, may_hold, HoldsRight}
use Rattle.ae_rules.specs.BlockLaws.{WalksFindNoSplit, IsRight, JudgingKeepsRight, IsHeldRight, HeldIsRight}
use Rattle.ae_rules.proofs.VerdictLemmas.{Yields, next, asks, always, turns, gives}
use Rattle.ae_rules.proofs.SeenLemmas.{found_is, required}
use Rattle.ae_rules.proofs.VisibleLemmas.{shared_known, locked_known}
use Rattle.ae_rules.proofs.KeepLemmas.{right_keeps}
use Rattle.ae_rules.proofs.PathLemmas.{first_holds, mapped, method_judged}
use Rattle.ae_rules.proofs.GoneLemmas.{name_held, gone_is_unique}
use Rattle.ae_rules.proofs.EffectLemmas.{walk_form, callee_is, right_is, effects_are_exact}
use Rattle.ae_rules.proofs.DeclareLemmas.{lines_declare}
use Rattle.ae_rules.proofs.ChangeLemmas.{declared_or_same}
use Rattle.ae_rules.proofs.EverywhereLemmas.{Kept, Has, is_flat, statement_kept, kept_everywhere}
use Rattle.ae_rules.proofs.BelowLemmas.{found_has, below_kept, start_below}
use Rattle.ae_rules.proofs.ShapeLemmas.{same_held_is, is_same_held, comparisons_are_exact}
use Rattle.ae_rules.proofs.from_text.Basics.{option_holds_one}

-- ---- what may be held

-- a local that is new, or newly assigned
form_holds : (gs : GroupsKnown) (t : Form) → may_hold gs t (held_of t) ≡ true
form_holds gs f.Int = refl
form_holds gs f.Bool = refl
form_holds gs (f.Object perm.Unique k) = refl
form_holds gs (f.Object perm.Immutable k) = refl
form_holds gs (f.Object perm.Lent k) = refl
form_holds gs (f.Object (perm.Shared g) k) = is_same_held (held.Shared g) (held.Shared g) refl

-- what is held Unique may become what a unique object may
unique_holds : (gs : GroupsKnown) (t : Form) (h : Held) → may_hold gs t held.Unique ≡ true → may_become gs h ≡ true
    → may_hold gs t h ≡ true
unique_holds gs f.Int h e k = absurd (cc)
unique_holds gs f.Bool h e k = absurd (cc)
unique_holds gs (f.Object perm.Unique l) h e k = k
unique_holds gs (f.Object perm.Immutable l) h e k = absurd (cc)
unique_holds gs (f.Object perm.Lent l) h e k = absurd (cc)
unique_holds gs (f.Object (perm.Shared g) l) h e k = absurd (cc)

-- where what is shared is still known, what may be held still may
becomes_still : (gs hs : GroupsKnown) (h : Held)
    → ((g : ℕ) → h ≡ held.Shared g → known gs g ≡ true → known hs g ≡ true) → may_become gs h ≡ true
    → may_become hs h ≡ true
becomes_still gs hs held.Unique k e = refl
becomes_still gs hs held.Immutable k e = refl
becomes_still gs hs (held.Shared g) k e = k g refl e
becomes_still gs hs held.None k e = refl
becomes_still gs hs held.Lent k e = e
becomes_still gs hs (held.Split n) k e = e
becomes_still gs hs (held.Inner g) k e = e

holds_still : (gs hs : GroupsKnown) (t : Form) (h : Held)
    → ((g : ℕ) → h ≡ held.Shared g → known gs g ≡ true → known hs g ≡ true) → may_hold gs t h ≡ true
    → may_hold hs t h ≡ true
holds_still gs hs t h k e = by_form (is_unique t) e
  where
    by_form : (b : Bool) → (if b then may_become gs h else same_held (held_of t) h) ≡ true
        → (if b then may_become hs h else same_held (held_of t) h) ≡ true
    by_form true e = becomes_still gs hs h k e
    by_form false e = e

-- ---- contexts

held_of_local : (c : Context) (x : ℕ) (l : Local) → c.local x ≡ Some l → held_in c x ≡ l.held
held_of_local c x l e = ap (λ (o : Option Local). given o held.None (λ (z : Local). z.held)) e

-- a change of what is held where it was Unique
may_then : (c : Context) (x : ℕ) (h : Held) → HoldsRight c → held_in c x ≡ held.Unique → may_become c.group h ≡ true
    → (l : Local) → c.local x ≡ Some l → may_hold c.group l.form h ≡ true
may_then c x h right u k l e
    = unique_holds c.group l.form h (subst (λ (z : Held). may_hold c.group l.form z ≡ true)
    (sym (held_of_local c x l e) ∙ u) (right x l e)) k

held_if : (c : Context) (y : ℕ) (h : Held) (b : Bool) (l : Local) → HoldsRight c
    → (b ≡ true → (z : Local) → c.local y ≡ Some z → may_hold c.group z.form h ≡ true)
    → (if b then option_map (λ (z : Local). record z { held = h }) (c.local y) else c.local y) ≡ Some l
    → may_hold c.group l.form l.held ≡ true
held_if c y h true l right k e =
    let r = mapped (λ (z : Local). record z { held = h }) (c.local y) l e in
    subst (λ (z : Local). may_hold c.group z.form z.held ≡ true) r.2 (k refl r.0 r.1)
held_if c y h false l right k e = right y l e

held_right : (x : ℕ) (h : Held) (c : Context) → HoldsRight c
    → ((l : Local) → c.local x ≡ Some l → may_hold c.group l.form h ≡ true) → HoldsRight (with_held x h c)
held_right x h c right k y l e =
    held_if c y h (nat_eq x y) l right
    (λ q. subst (λ (v : ℕ). (z : Local) → c.local v ≡ Some z → may_hold c.group z.form h ≡ true)
    (eqb-true x y q) k) e

moved_right : (o : Option ℕ) (c : Context) → HoldsRight c → ((n : ℕ) → o ≡ Some n → held_in c n ≡ held.Unique)
    → HoldsRight (with_name_moved o c)
moved_right None c right u = right
moved_right (Some x) c right u = held_right x held.None c right (may_then c x held.None right (u x refl) refl)

all_right : (xs : List ℕ) (c : Context) → HoldsRight c → ((y : ℕ) → has_name xs y ≡ true → held_in c y ≡ held.Unique)
    → HoldsRight (all_moved xs c)
all_right xs c right u y l e = held_if c y held.None (has_name xs y) l right
    (λ h. may_then c y held.None right (u y h) refl) e

local_right : (x : ℕ) (t : Form) (c : Context) → HoldsRight c → HoldsRight (with_local x t c)
local_right x t c right y l e = by_name (nat_eq x y) e
  where
    by_name : (b : Bool) → (if b then Some (record { form = t; held = held_of t; stays = false }) else c.local y)
        ≡ Some l → may_hold c.group l.form l.held ≡ true
    by_name true q = subst (λ (z : Local). may_hold c.group z.form z.held ≡ true) (same_local q) (form_holds c.group t)
      where
        same_local : {z : Local} → Some z ≡ Some l → z ≡ l
        same_local q = cc
    by_name false q = right y l q

-- more groups, and the same locals
more_right : (c : Context) (gs : GroupsKnown) → ((g : ℕ) → known c.group g ≡ true → known gs g ≡ true) → HoldsRight c
    → HoldsRight (record c { group = gs })
more_right c gs k right x l e = holds_still c.group gs l.form l.held (λ g _ h. k g h) (right x l e)

-- ---- names that move

path_unique : (p : Code) (c : Context) (k : Kind) (path : Path) (at : Spot)
    → Yields (λ _. held_in c path.root.name ≡ held.Unique) (path_fits p c perm.Unique k path at)
path_unique p c k path at =
    next (walk p c path) λ (w : Place) e.
    asks (is_object_of k w.form) _ _ λ _.
    next (may_leave w.held at) λ _ _.
    record {
      value = λ t h.
          let q : (is_name path && same_held held.Unique w.held)
          ≡ true = required (is_name path && same_held held.Unique w.held) rule.NeedsUnique at t h in
          let b = and_parts (is_name path) (same_held held.Unique w.held) q in
          (name_held p c path b.0).value w e ∙ sym (same_held_is held.Unique w.held b.1);
    }

-- a name that moves was held Unique
abbrev MovesUnique : Context → Option ℕ → Type 0
MovesUnique c name = (n : ℕ) → name ≡ Some n → held_in c n ≡ held.Unique

no_move : (c : Context) → MovesUnique c None
no_move c n e = absurd (cc)

source_unique : (p : Code) (c : Context) (q : Perm) (k : Kind) (s : Source) (at : Spot)
    → Yields (λ _. MovesUnique c (source_moves q s)) (source_fits p c q k s at)
source_unique p c q k Null at = always (no_move c)
source_unique p c perm.Unique k (From path) at =
    record {
      value = λ u e n h. subst (λ (z : ℕ). held_in c z ≡ held.Unique) (same_number path.root.name n h)
          ((path_unique p c k path at).value u e);
    }
  where
    same_number : (x n : ℕ) → Some x ≡ Some n → x ≡ n
    same_number x n h = cc
source_unique p c perm.Immutable k (From path) at = always (no_move c)
source_unique p c perm.Lent k (From path) at = always (no_move c)
source_unique p c (perm.Shared g) k (From path) at = always (no_move c)

object_unique : (p : Code) (c : Context) (q : Perm) (k : Kind) (o : Option Source) (at : Spot)
    → Yields (λ _. MovesUnique c (given o None (source_moves q)))
    (found o rule.TypeMismatch at >>= λ s. source_fits p c q k s at)
object_unique p c q k None at = always (no_move c)
object_unique p c q k (Some s) at = source_unique p c q k s at

fits_unique : (p : Code) (c : Context) (t : Form) (e : Expression)
    → Yields (λ _. MovesUnique c (name_into t e)) (fits p c t e)
fits_unique p c f.Int e = always (no_move c)
fits_unique p c f.Bool e = always (no_move c)
fits_unique p c (f.Object q k) e = object_unique p c q k (source e) (expression_spot e)

-- the name that moves with what goes into a form was held Unique
named_unique : (p : Code) (c : Context) (t : Form) (e : Expression) (name : Option ℕ) → into p c t e ≡ Holds name
    → MovesUnique c (name_into t e)
named_unique p c t e name h = let r = first_holds (fits p c t e) (λ _. Holds (name_into t e)) name
    h in (fits_unique p c t e).value r.0 r.1

fills_unique : (p : Code) (c : Context) (xs : List (Form × Expression)) (s d : Filled) → in_turn (fills p c) xs s
    ≡ Holds d → (y : ℕ)
    → has_name (filter_map (λ (x : Form × Expression). name_into x.0 x.1) xs) y ≡ true → held_in c y ≡ held.Unique
fills_unique p c [] s d e y h = absurd (cc)
fills_unique p c (x ∷ xs) s d e y h =
    let r = first_holds (fills p c x s) (in_turn (fills p c) xs) d e in
    by_name (fills_unique p c xs r.0 d r.2 y) (name_into x.0 x.1) ((fill_unique p c x s).value r.0 r.1) h
  where
    names : List ℕ
    names = filter_map (λ (z : Form × Expression). name_into z.0 z.1) xs

    fill_unique : (p : Code) (c : Context) (x : Form × Expression) (s : Filled)
        → Yields (λ _. MovesUnique c (name_into x.0 x.1)) (fills p c x s)
    fill_unique p c x s =
        next (apart x.0 x.1 s.roots) λ _ _.
        next (into p c x.0 x.1) λ name e.
        always (named_unique p c x.0 x.1 name e)

    by_name : (has_name names y ≡ true → held_in c y ≡ held.Unique) → (o : Option ℕ) → MovesUnique c o
        → has_name (cons_option o names) y ≡ true → held_in c y ≡ held.Unique
    by_name ih None u h = ih h
    by_name ih (Some n) u h = elim (or_cases (nat_eq n y) (has_name names y) h) [
      | inl q ↦ subst (λ (z : ℕ). held_in c z ≡ held.Unique) (eqb-true n y q) (u n refl)
      | inr k ↦ ih k
    ]

-- ---- right sides

call_right : (p : Code) (c : Context) (i : Invocation) (d : Called) → HoldsRight c → judge_call p c i ≡ Holds d
    → HoldsRight (call_effect p c i)
call_right p c i d right h =
    let k = first_holds (judge_callee p c i.on i.method) (judge_callee_with p c i) d h in
    let m : Callee = k.0 in
    let g = first_holds (groups_fit (known c.group) (length m.method.groups) i.method.at i.groups) _ d k.2 in
    let n = first_holds (require (nat_eq (length i.args) (length m.method.params)) rule.ArgumentCount i.method.at) _ d
    g.2 in
    let pairs : List (ParamSlot × Expression) = zip (slots p (group_in m i.groups) m.method) (givens i) in
    let r = first_holds (in_turn (to_slot p c) pairs no_roots) _ d n.2 in
    subst (λ (o : Option Callee). HoldsRight
    (given o c (λ (z : Callee). all_moved
    (filter_map gone_name (zip (slots p (group_in z i.groups) z.method) (givens i))) c)))
    (sym ((callee_is p c i.on i.method).value m k.1))
    (all_right (filter_map gone_name pairs) c right (λ y e. gone_is_unique p c pairs r.0 y r.1 e))

new_right : (p : Code) (c : Context) (x : NameAt) (gs : List NameAt) (args : List Expression) (d : MadeValue)
    → HoldsRight c → judge_new p c x gs args ≡ Holds d → HoldsRight (made_effect p c x gs args)
new_right p c x gs args d right h =
    let k = first_holds (found (class_called p x.name) rule.UnknownClass x.at) _ d h in
    let g = first_holds (groups_fit (known c.group) (length k.0.groups) x.at gs) _ d k.2 in
    let n = first_holds (require (nat_eq (length args) (length k.0.fields)) rule.ArgumentCount x.at) _ d g.2 in
    let pairs : List (Form × Expression) = zip (map (field_form k.0 (bare_names gs)) k.0.fields) args in
    let empty : Filled = record { roots = no_roots; after = c } in
    let r = first_holds (in_turn (fills p c) pairs empty) _ d n.2 in
    subst (λ (o : Option Class). HoldsRight
    (given o c (λ (z : Class). all_moved
    (filter_map (λ (y : Form × Expression). name_into y.0 y.1)
    (zip (map (field_form z (bare_names gs)) z.fields) args)) c)))
    (sym (found_is (class_called p x.name) rule.UnknownClass x.at k.0 k.1))
    (all_right (filter_map (λ (y : Form × Expression). name_into y.0 y.1) pairs) c right
    (fills_unique p c pairs empty r.0 r.1))

right_right : (p : Code) (c : Context) (t : Form) (e : RightSide) (d : Context) → HoldsRight c
    → judge_right p c t e ≡ Holds d → HoldsRight (right_effect p c t e)
right_right p c t (Value e) d right h = let r = first_holds (into p c t e) _ d h in moved_right
    (name_into t e) c right (named_unique p c t e r.0 r.1)
right_right p c t (Taken path at) d right h = right
right_right p c t (Zeros e at) d right h = right
right_right p c t (Made x gs args at) d right h = let r = first_holds (judge_new p c x gs args) _ d h in new_right p c
    x gs args r.0 right r.1
right_right p c t (Returned i) d right h = let r = first_holds (judge_call p c i) _ d h in call_right p c i r.0 right
    r.1

-- ---- walks

-- no part of this is lent
abbrev NoSplit : Held → Type 0
NoSplit h = (n : ℕ) → h ≢ held.Split n

form_no_split : (t : Form) → NoSplit (held_of t)
form_no_split f.Int n e = cc
form_no_split f.Bool n e = cc
form_no_split (f.Object perm.Unique k) n e = cc
form_no_split (f.Object perm.Immutable k) n e = cc
form_no_split (f.Object perm.Lent k) n e = cc
form_no_split (f.Object (perm.Shared g) k) n e = cc

local_no_split : (gs : GroupsKnown) (t : Form) (h : Held) → may_hold gs t h ≡ true → NoSplit h
local_no_split gs t h e n q = by_form (is_unique t) e
  where
    no_truth : false ≡ true → ⊥
    no_truth x = cc

    by_form : (b : Bool) → (if b then may_become gs h else same_held (held_of t) h) ≡ true → ⊥
    by_form true x = no_truth (subst (λ (z : Held). may_become gs z ≡ true) q x)
    by_form false x = form_no_split t n (same_held_is (held_of t) h x ∙ q)

inside_no_split : (h : Held) → NoSplit (held_inside h)
inside_no_split held.Unique n e = cc
inside_no_split (held.Split k) n e = cc
inside_no_split held.Immutable n e = cc
inside_no_split held.Lent n e = cc
inside_no_split (held.Shared g) n e = cc
inside_no_split (held.Inner g) n e = cc
inside_no_split held.None n e = cc

field_no_split : (h : Held) (t : Form) → NoSplit (held_in_field h t)
field_no_split h f.Int n e = cc
field_no_split h f.Bool n e = cc
field_no_split h (f.Object perm.Unique k) n e = inside_no_split h n e
field_no_split h (f.Object perm.Immutable k) n e = cc
field_no_split h (f.Object perm.Lent k) n e = cc
field_no_split h (f.Object (perm.Shared g) k) n e = cc

step_no_split : (p : Code) (c : Context) (at : Spot) (x : NameAt) (from : Place)
    → Yields (λ (w : Place). NoSplit w.held) (step p c at x from)
step_no_split p c at x from =
    next (found (field_of p from.form x.name) rule.UnknownField x.at) λ t _.
    next (access c at from.held) λ _ _.
    gives (field_no_split from.held t)

walk_no_split : (p : Code) (c : Context) (path : Path) → HoldsRight c
    → Yields (λ (w : Place). NoSplit w.held) (walk p c path)
walk_no_split p c path right =
    next (found (c.local path.root.name) rule.UnknownName path.root.at) λ (l : Local) e.
    let first : Place = record { form = l.form; held = l.held } in
    turns {P = λ (w : Place). NoSplit w.held} (step p c path.root.at) (λ x s _. step_no_split p c path.root.at x s)
    path.steps first
    (local_no_split c.group l.form l.held
    (right path.root.name l (found_is (c.local path.root.name) rule.UnknownName path.root.at l e)))

pub walks_find_no_split : WalksFindNoSplit
walks_find_no_split p c path w right e = (walk_no_split p c path right).value w e

-- ---- statements

let_right : (p : Code) (c : Context) (t : Ty) (x : NameAt) (e : RightSide) (d : Context) → HoldsRight c
    → judge_let p c t x e ≡ Holds d
    → HoldsRight (with_local x.name (form t) (right_effect p c (form t) e))
let_right p c t x e d right h =
    let a = first_holds (forms_type p (known c.group) false t) _ d h in
    let b = first_holds (require (not (is_visible c x.name)) rule.DuplicateLocal x.at) _ d a.2 in
    let r = first_holds (judge_right p c (form t) e) _ d b.2
    in local_right x.name (form t) (right_effect p c (form t) e) (right_right p c (form t) e r.0 right r.1)

same_form : (c : Context) (x : ℕ) (y z : Local) → c.local x ≡ Some y → c.local x ≡ Some z → y.form ≡ z.form
same_form c x y z e h = ap (λ (v : Local). v.form) (option_holds_one (c.local x) y z e h)

assign_right : (p : Code) (c : Context) (x : NameAt) (e : RightSide) (d : Context) → HoldsRight c
    → judge_assign p c x e ≡ Holds d → HoldsRight (assign_effect p c x e)
assign_right p c x e d right h =
    let a = first_holds (found (c.local x.name) rule.UnknownName x.at) _ d h in
    let l : Local = a.0 in
    let q : c.local x.name ≡ Some l = found_is (c.local x.name) rule.UnknownName x.at l a.1 in
    let b = first_holds (require (not l.stays) rule.ParameterMoved x.at) _ d a.2 in
    let r = first_holds (judge_right p c l.form e) _ d b.2 in
    let after : Context = right_effect p c l.form e in
    let keeps = subst (λ (z : Context). (h : Held) × (z.local x.name ≡ Some (record l { held = h })))
    ((right_is p c l.form e).value r.0 r.1) (((right_keeps p c l.form e).value r.0 r.1).local x.name l q) in
    subst (λ (o : Option Local). HoldsRight
    (given o c (λ (z : Local). with_held x.name (held_of z.form) (right_effect p c z.form e)))) (sym q)
    (held_right x.name (held_of l.form) after (right_right p c l.form e r.0 right r.1)
    (λ z w. subst (λ (t : Form). may_hold after.group t (held_of l.form) ≡ true)
    (same_form after x.name (record l { held = keeps.0 }) z keeps.1 w) (form_holds after.group l.form)))

store_right : (p : Code) (c : Context) (path : Path) (e : Expression) (at : Spot) (d : Context) → HoldsRight c
    → judge_store p c path e at ≡ Holds d → HoldsRight (store_effect p c path e)
store_right p c path e at d right h =
    let w = first_holds (walk p c path) _ d h in
    let o = first_holds (owner_write_access p c path) _ d w.2 in
    let r = first_holds (into p c w.0.form e) _ d o.2 in
    subst (λ (z : Option Form). HoldsRight (given z c (λ (t : Form). with_name_moved (name_into t e) c)))
    (sym ((walk_form p c path).value w.0 w.1))
    (moved_right (name_into w.0.form e) c right (named_unique p c w.0.form e r.0 r.1))

return_right : (p : Code) (m : Definition) (c : Context) (e : Expression) (at : Spot) (d : Context) → HoldsRight c
    → judge_return p m c e at ≡ Holds d → HoldsRight (return_effect m c e)
return_right p m c e at d right h =
    let t = first_holds (found m.result rule.TypeMismatch at) _ d h in
    let r = first_holds (into p c (form t.0) e) _ d t.2 in
    subst (λ (o : Option Ty). HoldsRight (given o c (λ (z : Ty). with_name_moved (name_into (form z) e) c)))
    (sym (found_is m.result rule.TypeMismatch at t.0 t.1))
    (moved_right (name_into (form t.0) e) c right (named_unique p c (form t.0) e r.0 r.1))

-- what is held alone is held Unique
alone_unique : (c : Context) (x : NameAt) → Yields (λ _. held_in c x.name ≡ held.Unique) (holds_alone c x)
alone_unique c x =
    next (found (c.local x.name) rule.UnknownName x.at) λ (l : Local) e.
    asks (is_object l.form) _ _ λ _.
    asks (not (same_held held.None l.held)) _ _ λ _.
    record {
      value = λ t h. held_of_local c x.name l (found_is (c.local x.name) rule.UnknownName x.at l e)
          ∙ sym (same_held_is held.Unique l.held (required (same_held held.Unique l.held) rule.NeedsUnique x.at t h));
    }

freeze_right : (c : Context) (x : NameAt) (d : Context) → HoldsRight c
    → (holds_alone c x >> Holds (with_held x.name held.Immutable c)) ≡ Holds d
    → HoldsRight (with_held x.name held.Immutable c)
freeze_right c x d right h =
    let r = first_holds (holds_alone c x) _ d h in
    held_right x.name held.Immutable c right
    (may_then c x.name held.Immutable right ((alone_unique c x).value r.0 r.1) refl)

open_known : (o : Option GroupPerm)
    → (given o false (same_group_perm group.Exclusive) || given o false (same_group_perm group.Protected)) ≡ true
    → is_some o ≡ true
open_known None e = absurd (cc)
open_known (Some q) e = refl

share_right : (c : Context) (x g : NameAt) (d : Context) → HoldsRight c → judge_share c x g ≡ Holds d
    → HoldsRight (with_held x.name (held.Shared g.name) c)
share_right c x g d right h =
    let r = first_holds (holds_alone c x) _ d h in
    let s = first_holds (is_group (known c.group) g) _ d r.2 in
    let a = first_holds (group_access c.group g.name g.at) _ d s.2 in
    let k : known c.group g.name ≡ true = open_known (c.group g.name)
    (required (opens c.group g.name) rule.NeedsGroup g.at a.0 a.1) in
    held_right x.name (held.Shared g.name) c right
    (may_then c x.name (held.Shared g.name) right ((alone_unique c x).value r.0 r.1) k)

group_known : (b : Bool) (o : Option GroupPerm) → is_some o ≡ true → is_some (if b then Some group.Exclusive else o)
    ≡ true
group_known true o e = refl
group_known false o e = e

flat_right : (p : Code) (m : Definition) (at : Spot) (a : Action) (c d : Context) → is_flat a ≡ true → HoldsRight c
    → judge_statement p m at a c ≡ Holds d → HoldsRight (effect p m a c)
flat_right p m at (Declares t x e) c d b right h = let_right p c t x e d right h
flat_right p m at (Assigns x e) c d b right h = assign_right p c x e d right h
flat_right p m at (Stores path e) c d b right h = store_right p c path e (expression_spot e) d right h
flat_right p m at (StoresAt path i e) c d b right h = right
flat_right p m at (Calls i) c d b right h = let r = first_holds (judge_call p c i) _ d h in call_right p c i r.0 right
    r.1
flat_right p m at (Groups g) c d b right h = more_right c (with_group g.name group.Exclusive c.group)
    (λ y e. group_known (nat_eq g.name y) (c.group y) e) right
flat_right p m at (Freezes x) c d b right h = freeze_right c x d right h
flat_right p m at (Shares x g) c d b right h = share_right c x g d right h
flat_right p m at (Prints e) c d b right h = right
flat_right p m at (PrintsText s) c d b right h = right
flat_right p m at (Asserts e) c d b right h = right
flat_right p m at (Returns e) c d b right h = return_right p m c e at d right h
flat_right p m at (Chooses e n l) c d b right h = absurd (cc)
flat_right p m at (ChoosesElse e n l k l') c d b right h = absurd (cc)
flat_right p m at (Repeats e n l) c d b right h = absurd (cc)
flat_right p m at (Splits gs n l) c d b right h = absurd (cc)
flat_right p m at (Locks g n l) c d b right h = absurd (cc)

-- ---- blocks

-- a group that the block declares is left in no local from outside
stays_none : (p : Code) (c d : Context) (b : Lines) (u : ⊤) (g : ℕ) → groups_stay p c d b ≡ Holds u
    → has_name (bare_names (groups_in_lines b)) g ≡ true → none_shared p c d g ≡ true
stays_none p c d End u g e h = absurd (cc)
stays_none p c d (Next at (Groups x) rest) u g e h =
    let r = first_holds (require (none_shared p c d x.name) rule.GroupEscapes x.at) _ u e in
    elim (or_cases (nat_eq x.name g) (has_name (bare_names (groups_in_lines rest)) g) h) [
      | inl q ↦ subst (λ (z : ℕ). none_shared p c d z ≡ true) (eqb-true x.name g q)
          (required (none_shared p c d x.name) rule.GroupEscapes x.at r.0 r.1)
      | inr k ↦ stays_none p c d rest u g r.2 k
    ]
stays_none p c d (Next at _ rest) u g e h = stays_none p c d rest u g e h

close_if : (b : Bool) (o : Option Local) (l : Local) → (if b then o else None) ≡ Some l → (b ≡ true) × (o ≡ Some l)
close_if true o l e = (refl, e)
close_if false o l e = absurd (cc)

close_right : (p : Code) (m : Definition) (b : Lines) (c first d : Context) (u : ⊤)
    → ((g : ℕ) → known first.group g ≡ true → known c.group g ≡ true)
    → VisibleBelow (length p.names) c → HoldsRight d → judge_lines p m b first ≡ Holds d
    → groups_stay p c d b ≡ Holds u → HoldsRight (closed c d)
close_right p m b c first d u s below right h e x l q =
    let k = close_if (is_some (c.local x)) (d.local x) l q in
    holds_still d.group c.group l.form l.held
    (λ g w n. elim (declared_or_same (groups_in_lines b) first.group d.group (lines_declare p m b first d h).1 g) [
      | inl y ↦ absurd (((comparisons_are_exact p c below).1 d g).0 (stays_none p c d b u g e y) x k.0
          (held_of_local d x l k.1 ∙ w))
      | inr y ↦ s g (ap is_some (sym y) ∙ n)
    ]) (right x l k.1)

-- ---- a method's start

start_if : (p : Code) (m : Definition) (b : Bool) (y : ℕ) (gs : GroupsKnown) (l : Local)
    → (if b then option_map (me_local p m) m.me else option_map param_local (param_called m.params y)) ≡ Some l
    → may_hold gs l.form l.held ≡ true
start_if p m true y gs l e =
    let r = mapped (me_local p m) m.me l e in
    subst (λ (z : Local). may_hold gs z.form z.held ≡ true) r.2 (form_holds gs (me_local p m r.0).form)
start_if p m false y gs l e =
    let r = mapped param_local (param_called m.params y) l e in
    subst (λ (z : Local). may_hold gs z.form z.held ≡ true) r.2 (form_holds gs (param_local r.0).form)

start_right : (p : Code) (m : Definition) → HoldsRight (start p m)
start_right p m y l e = start_if p m (nat_eq this y) y (start p m).group l e

-- ---- everywhere

right_kept : (p : Code) (m : Definition) → Kept p m (IsRight p) (ActionNamed (length p.names))
right_kept p m =
    let k = below_kept p m (length p.names) in
    record {
      flat = λ at a c d b q i h. record {
        visible = k.flat at a c d b q i.visible h;
        holds = subst HoldsRight
            (sym ((effects_are_exact p m).0 at a c d h)) (flat_right p m at a c d b i.holds h);
      };
      split = λ gs c u e i. record {
        visible = k.split gs c u e i.visible;
        holds = more_right c (shared_in gs c.group)
            (λ g h. shared_known (has_name (bare_names gs) g) (c.group g) h) i.holds;
      };
      lock = λ g c u e i. record {
        visible = k.lock g c u e i.visible;
        holds = more_right c
            (while_others_held_back g.name c.group) (λ y h. locked_known (nat_eq g.name y) (c.group y) h) i.holds;
      };
      close = λ b c first d u s i j h e. record {
        visible = k.close b c first d u s i.visible j.visible h e;
        holds
            = close_right p m b c first d u s i.visible j.holds h e;
      };
    }

pub named_method : (p : Code) (n : ℕ) (m : Definition) → WellShaped p → method_at p n ≡ Some m
    → MethodNamed (length p.names) m
named_method p n m w e = found_has (MethodNamed (length p.names)) p.methods n m w.method_names e

right_first : (p : Code) (n : ℕ) (m : Definition) → WellShaped p → method_at p n ≡ Some m → IsRight p (start p m)
right_first p n m w e = record { visible = start_below p m w (named_method p n m w e); holds = start_right p m }

pub judging_keeps_right : JudgingKeepsRight
judging_keeps_right p w n m e = record {
  first = right_first p n m w e;
  statement = λ at a c d q b i h. statement_kept p m (IsRight p) (ActionNamed (length p.names))
      (right_kept p m) at a c d q b i h;
  split = λ gs c i h. (right_kept p m).split gs c tt h i;
  lock = λ g c i h. (right_kept p m).lock g c tt h i;
}

block_right : (p : Code) (x : Opened) → Has p (IsRight p) x → IsHeldRight p x
block_right p x has = record { before = has.each; after = has.after }

pub held_is_right : HeldIsRight
held_is_right p w acc n m e =
    let j = method_judged p m acc (n, e) in
    let k = kept_everywhere p m (IsRight p) (ActionNamed (length p.names)) (right_kept p m) j.0
    (named_method p n m w e).body (right_first p n m w e) j.1 in
    All-weaker (Has p (IsRight p)) (IsHeldRight p) (block_right p) (all_scenes p m) k.0
