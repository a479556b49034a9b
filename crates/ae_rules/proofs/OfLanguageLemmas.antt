-- What a program breaks is a rule of the language: each premise names one, and premises are put together so.
use Rattle.std.proofs.Common.{◌≡◌, refl, subst, ℕ, zero, suc, nat_eq, Bool, true, false, ◌&&◌, ◌||◌, not, List, []}
use Rattle.std.proofs.Common.{◌∷◌, length, map, Option, None, Some}
use Rattle.std.specs.Prelude.{⊤, zip, is_none, is_some}
use Rattle.ae_text.specs.declared.refusal.Spot.{Spot}
use Rattle.ae_text.specs.declared.refusal.Rule.{Rule}
use Rattle.ae_text.specs.declared.refusal.Rule.TheVariants as rule
use Rattle.ae_text.specs.Tokens.{first_spot}
use Rattle.ae_tree.specs.declared.tree.NameAt.{NameAt}
use Rattle.ae_tree.specs.declared.tree.Need.TheVariants as need_of
use Rattle.ae_tree.specs.declared.tree.PermAt.{PermAt}
use Rattle.ae_tree.specs.declared.tree.PermAt.TheVariants as perm_at
use Rattle.ae_tree.specs.declared.tree.KindAt.{KindAt}
use Rattle.ae_tree.specs.declared.tree.KindAt.TheVariants as kind_at
use Rattle.ae_tree.specs.declared.tree.Ty.{Ty}
use Rattle.ae_tree.specs.declared.tree.Ty.TheVariants as ty
use Rattle.ae_tree.specs.declared.tree.Path.{Path}
use Rattle.ae_tree.specs.declared.tree.Me.{Me}
use Rattle.ae_tree.specs.declared.tree.Param.{Param}
use Rattle.ae_tree.specs.declared.tree.Class.{Class}
use Rattle.ae_tree.specs.declared.tree.GroupNeed.{GroupNeed}
use Rattle.ae_tree.specs.declared.tree.Decl.{Decl}
use Rattle.ae_tree.specs.declared.tree.Decl.TheVariants as decl
use Rattle.ae_tree.specs.declared.form.Perm.{Perm}
use Rattle.ae_tree.specs.declared.form.Perm.TheVariants as perm
use Rattle.ae_tree.specs.declared.form.Kind.{Kind}
use Rattle.ae_tree.specs.declared.form.Kind.TheVariants as kind
use Rattle.ae_tree.specs.declared.form.Form.{Form}
use Rattle.ae_tree.specs.declared.form.Form.TheVariants as f
use Rattle.ae_tree.specs.Form.{form, perm_of, bare_names}
use Rattle.ae_tree.specs.Names.{io, main, this}
use Rattle.ae_tree.specs.Plain.{Expression, Number, Truth, Nothing, Read, Item, Length, Grouped, Negated, Minus}
use Rattle.ae_tree.specs.Plain.{Binary, Invocation, RightSide, Value, Taken, Zeros, Made, Returned, Lines, End, Next}
use Rattle.ae_tree.specs.Plain.{Definition, Code}
use Rattle.ae_tree.specs.Plain.{Action, Declares, Assigns, Stores, StoresAt, Calls, Chooses, ChoosesElse, Repeats}
use Rattle.ae_tree.specs.Plain.{Groups, Splits, Locks, Freezes, Shares, Prints, PrintsText, Asserts, Returns}
use Rattle.ae_rules.specs.declared.held.Held.{Held}
use Rattle.ae_rules.specs.declared.held.Held.TheVariants as held
use Rattle.ae_rules.specs.declared.held.GroupPerm.TheVariants as group
use Rattle.ae_rules.specs.Verdict.{Verdict, Holds, Broken, ◌>>=◌, ◌>>◌, require, found, each, in_turn, given, if_there}
use Rattle.ae_rules.specs.Forms.{is_object, is_ints, is_unique, is_object_of, same_value, same_kind, same_perm}
use Rattle.ae_rules.specs.Lookups.{Names, class_at, method_at, class_called, top_called, member_names, field_of}
use Rattle.ae_rules.specs.Lookups.{field_form}
use Rattle.ae_rules.specs.Types.{is_group, groups_fit, forms_perm, forms_kind, forms_type}
use Rattle.ae_rules.specs.Table.{Declared, nothing_declared, no_names, and_also, is_new, class_is_new, top_is_new}
use Rattle.ae_rules.specs.Table.{declares_new, tops_differ, members_differ, most_groups, declares_groups, field_holds}
use Rattle.ae_rules.specs.Table.{result_holds, perm_goes, form_goes, me_holds, param_holds, need_holds, method_holds}
use Rattle.ae_rules.specs.Table.{class_holds, decl_holds, is_main, has_main, table_verdict}
use Rattle.ae_rules.specs.Groups as groups
use Rattle.ae_rules.specs.Context.{Local, Context, access, may_change, same_held, held_in, is_held_alone, holds_nothing}
use Rattle.ae_rules.specs.Context.{is_visible, hold_alike}
use Rattle.ae_rules.specs.Walks.{Place, step, walk, write_access, owner_write_access, owner, is_name}
use Rattle.ae_rules.specs.Expressions.{Operands, Numbers, Truths, Equals, Compared, operands, beside_null}
use Rattle.ae_rules.specs.Expressions.{has_form, equal_operands, judge_operands, judge_value, is_value, expression_spot}
use Rattle.ae_rules.specs.Into.{Source, Null, From, source, into_perm, into_shared, into_immutable, may_leave}
use Rattle.ae_rules.specs.Into.{path_fits, source_fits, fits, into, made_into, other_perm, unique_of}
use Rattle.ae_rules.specs.Calls.{Roots, no_roots, meets, root_apart, source_apart, apart, Filled, fills, judge_new}
use Rattle.ae_rules.specs.Calls.{Callee, callee_of, top_callee, judge_callee, group_in, ParamSlot, slots, givens}
use Rattle.ae_rules.specs.Calls.{me_form, to_unique, may_be_lent, to_param, path_to_param, source_to_param, to_form}
use Rattle.ae_rules.specs.Calls.{to_slot, judge_callee_with, judge_call}
use Rattle.ae_rules.specs.Statements.{judge_take, result_into, judge_right, is_moved, holds_alone, prints, none_shared}
use Rattle.ae_rules.specs.Statements.{groups_stay, end_block, while_split, while_locked, judge_statement, judge_lines}
use Rattle.ae_rules.specs.Judges.{must_come_back, me_comes_back, param_comes_back, returns, end_method, judge_method}
use Rattle.ae_rules.specs.Judges.{start}
use Rattle.ae_rules.specs.OfLanguage.{IsOfLanguage, BrokenIsOfLanguage}

-- a rule that is broken is one of the language
pub record BreaksOne {A : Type 0} (v : Verdict A) : Type 0 where
  pub broken : (rule : Rule) (at : Spot) → v ≡ Broken rule at → IsOfLanguage rule

-- ---- put together

holds_one : {A : Type 0} {x : A} → BreaksOne (Holds x)
holds_one = record { broken = λ rule at e. absurd (cc) }

breaks_one : {A : Type 0} {rule : Rule} {at : Spot} → IsOfLanguage rule → BreaksOne {A = A} (Broken rule at)
breaks_one h = record { broken = λ r spot e. subst IsOfLanguage (cc) h }

-- first the one, then the next
then_one : {A B : Type 0} (v : Verdict A) {g : A → Verdict B} → BreaksOne v → ((x : A) → BreaksOne (g x))
    → BreaksOne (v >>= g)
then_one (Holds x) h k = k x
then_one (Broken rule at) h k = record { broken = λ r spot e. subst IsOfLanguage (cc) (h.broken rule at refl) }

and_one : {A B : Type 0} (v : Verdict A) {w : Verdict B} → BreaksOne v → BreaksOne w → BreaksOne (v >> w)
and_one v h k = then_one v h (λ _. k)

-- a test
test_one : (b : Bool) (rule : Rule) (at : Spot) → IsOfLanguage rule → BreaksOne (require b rule at)
test_one true rule at h = holds_one
test_one false rule at h = breaks_one h

-- a test, and then the next
asked_one : {B : Type 0} (b : Bool) (rule : Rule) (at : Spot) {w : Verdict B} → IsOfLanguage rule → BreaksOne w
    → BreaksOne (require b rule at >> w)
asked_one b rule at h k = and_one (require b rule at) (test_one b rule at h) k

found_one : {A : Type 0} (o : Option A) (rule : Rule) (at : Spot) → IsOfLanguage rule → BreaksOne (found o rule at)
found_one None rule at h = breaks_one h
found_one (Some x) rule at h = holds_one

-- something is found, and then the next
had_one : {A B : Type 0} (o : Option A) (rule : Rule) (at : Spot) {g : A → Verdict B} → IsOfLanguage rule
    → ((x : A) → BreaksOne (g x)) → BreaksOne (found o rule at >>= g)
had_one o rule at h k = then_one (found o rule at) (found_one o rule at h) k

each_one : {A : Type 0} (g : A → Verdict ⊤) (xs : List A) → ((x : A) → BreaksOne (g x)) → BreaksOne (each g xs)
each_one g [] h = holds_one
each_one g (x ∷ xs) h = and_one (g x) (h x) (each_one g xs h)

turns_one : {A S : Type 0} (g : A → S → Verdict S) (xs : List A) (s : S) → ((x : A) (t : S) → BreaksOne (g x t))
    → BreaksOne (in_turn g xs s)
turns_one g [] s h = holds_one
turns_one g (x ∷ xs) s h = then_one (g x s) (h x s) (λ t. turns_one g xs t h)

given_one : {A B : Type 0} (o : Option A) (other : Verdict B) (g : A → Verdict B) → BreaksOne other
    → ((x : A) → BreaksOne (g x)) → BreaksOne (given o other g)
given_one None other g h k = h
given_one (Some x) other g h k = k x

there_one : {A : Type 0} (o : Option A) (g : A → Verdict ⊤) → ((x : A) → BreaksOne (g x)) → BreaksOne (if_there o g)
there_one None g h = holds_one
there_one (Some x) g h = h x

-- ---- types

group_one : (known : Names) (g : NameAt) → BreaksOne (is_group known g)
group_one known g = test_one (known g.name && not (nat_eq io g.name)) rule.UnknownGroup g.at refl

groups_one : (known : Names) (n : ℕ) (at : Spot) (gs : List NameAt) → BreaksOne (groups_fit known n at gs)
groups_one known n at gs = asked_one (nat_eq (length gs) n) rule.GroupCount at refl
    (each_one (is_group known) gs (group_one known))

perm_one : (known : Names) (b : Bool) (q : PermAt) → BreaksOne (forms_perm known b q)
perm_one known b (perm_at.Unique at) = holds_one
perm_one known b (perm_at.Immutable at) = holds_one
perm_one known b (perm_at.Lent at) = test_one b rule.LentEscapes at refl
perm_one known b (perm_at.Shared at g) = group_one known g

kind_one : (p : Code) (known : Names) (k : KindAt) → BreaksOne (forms_kind p known k)
kind_one p known (kind_at.Ints at) = holds_one
kind_one p known (kind_at.Class c gs) = had_one (class_called p c.name) rule.UnknownClass c.at refl
    (λ (d : Class). groups_one known (length d.groups) c.at gs)

type_one : (p : Code) (known : Names) (b : Bool) (t : Ty) → BreaksOne (forms_type p known b t)
type_one p known b (ty.Int at) = holds_one
type_one p known b (ty.Bool at) = holds_one
type_one p known b (ty.Object q k) = and_one (forms_perm known b q) (perm_one known b q) (kind_one p known k)

-- ---- the class table

new_one : (r : Rule) (x : NameAt) (earlier : Names) → IsOfLanguage r → BreaksOne (is_new r x earlier)
new_one r x earlier h = asked_one (not (earlier x.name)) r x.at h holds_one

class_new_one : (s : Declared) (c : Class) → BreaksOne (class_is_new s c)
class_new_one s c = then_one (is_new rule.DuplicateClass c.name s.classes)
    (new_one rule.DuplicateClass c.name s.classes refl) (λ _. holds_one)

top_new_one : (s : Declared) (m : Definition) → BreaksOne (top_is_new s m)
top_new_one s m = then_one (is_new rule.DuplicateMember m.name s.tops)
    (new_one rule.DuplicateMember m.name s.tops refl) (λ _. holds_one)

declares_one : (p : Code) (d : Decl) (s : Declared) → BreaksOne (declares_new p d s)
declares_one p (decl.Class n) s = given_one (class_at p n) (Holds s) (class_is_new s) holds_one (class_new_one s)
declares_one p (decl.Method n) s = given_one (method_at p n) (Holds s) (top_is_new s) holds_one (top_new_one s)

tops_one : (p : Code) → BreaksOne (tops_differ p)
tops_one p = and_one (in_turn (declares_new p) p.decls nothing_declared)
    (turns_one (declares_new p) p.decls nothing_declared (declares_one p)) holds_one

members_one : (p : Code) (c : Class) → BreaksOne (members_differ p c)
members_one p c = and_one (in_turn (is_new rule.DuplicateMember) (member_names p c) no_names)
    (turns_one (is_new rule.DuplicateMember) (member_names p c) no_names
    (λ x s. new_one rule.DuplicateMember x s refl)) holds_one

listed_one : (room : ℕ) (gs : List NameAt) (known : Names) → BreaksOne (declares_groups room gs known)
listed_one room [] known = holds_one
listed_one zero (g ∷ gs) known = breaks_one refl
listed_one (suc room) (g ∷ gs) known = then_one (is_new rule.GroupTwice g known) (new_one rule.GroupTwice g known refl)
    (λ names. listed_one room gs names)

goes_one : (q : Perm) (at : Spot) → BreaksOne (perm_goes q at)
goes_one perm.Unique at = holds_one
goes_one perm.Immutable at = holds_one
goes_one perm.Lent at = breaks_one refl
goes_one (perm.Shared g) at = holds_one

form_goes_one : (t : Form) (at : Spot) → BreaksOne (form_goes t at)
form_goes_one f.Int at = breaks_one refl
form_goes_one f.Bool at = breaks_one refl
form_goes_one (f.Object q k) at = goes_one q at

me_one : (known : Names) (m : Me) → BreaksOne (me_holds known m)
me_one known m = and_one (forms_perm known true m.perm) (perm_one known true m.perm)
    (there_one m.away (perm_goes (perm_of m.perm)) (goes_one (perm_of m.perm)))

param_one : (p : Code) (known : Names) (x : Param) (earlier : Names) → BreaksOne (param_holds p known x earlier)
param_one p known x earlier = and_one (forms_type p known true x.ty) (type_one p known true x.ty)
    (and_one (if_there x.away (form_goes (form x.ty))) (there_one x.away (form_goes (form x.ty))
    (form_goes_one (form x.ty))) (new_one rule.DuplicateLocal x.name earlier refl))

need_one : (known : Names) (n : GroupNeed) (earlier : Names) → BreaksOne (need_holds known n earlier)
need_one known n earlier = asked_one (known n.group.name) rule.UnknownGroup n.group.at refl
    (new_one rule.GroupTwice n.group earlier refl)

method_one : (p : Code) (outer : Names) (m : Definition) → BreaksOne (method_holds p outer m)
method_one p outer m = then_one (declares_groups most_groups m.groups outer) (listed_one most_groups m.groups outer)
    (λ known. and_one (result_holds p known m.result) (there_one m.result (forms_type p known false)
    (type_one p known false))
    (and_one (if_there m.me (me_holds known)) (there_one m.me (me_holds known) (me_one known))
    (and_one (in_turn (param_holds p known) m.params known)
    (turns_one (param_holds p known) m.params known (param_one p known))
    (and_one (in_turn (need_holds known) m.needs no_names)
    (turns_one (need_holds known) m.needs no_names (need_one known)) holds_one))))

class_one : (p : Code) (c : Class) → BreaksOne (class_holds p c)
class_one p c = then_one (declares_groups most_groups c.groups (and_also io no_names))
    (listed_one most_groups c.groups (and_also io no_names)) (λ known.
    and_one (each (field_holds p known) c.fields)
    (each_one (field_holds p known) c.fields (λ d. type_one p known false d.ty))
    (each_one (λ n. if_there (method_at p n) (method_holds p known)) c.methods
    (λ n. there_one (method_at p n) (method_holds p known) (method_one p known))))

decl_one : (p : Code) (d : Decl) → BreaksOne (decl_holds p d)
decl_one p (decl.Class n) = there_one (class_at p n) (class_holds p) (class_one p)
decl_one p (decl.Method n) = there_one (method_at p n) (method_holds p (and_also io no_names))
    (method_one p (and_also io no_names))

main_one : (p : Code) → BreaksOne (has_main p)
main_one p = had_one (top_called p main) rule.NoMain first_spot refl
    (λ (m : Definition). test_one (is_main m) rule.NoMain m.name.at refl)

table_one : (p : Code) → BreaksOne (table_verdict p)
table_one p = and_one (tops_differ p) (tops_one p)
    (and_one (each (members_differ p) p.classes) (each_one (members_differ p) p.classes (members_one p))
    (and_one (each (decl_holds p) p.decls) (each_one (decl_holds p) p.decls (decl_one p)) (main_one p)))

-- ---- walks and expressions

reach_one : (gs : groups.Groups) (g : ℕ) (at : Spot) → BreaksOne (groups.group_access gs g at)
reach_one gs g at = test_one (groups.opens gs g) rule.NeedsGroup at refl

access_one : (c : Context) (at : Spot) (h : Held) → BreaksOne (access c at h)
access_one c at held.Unique = holds_one
access_one c at (held.Split n) = holds_one
access_one c at held.Immutable = holds_one
access_one c at held.Lent = holds_one
access_one c at (held.Shared g) = reach_one c.group g at
access_one c at (held.Inner g) = reach_one c.group g at
access_one c at held.None = breaks_one refl

step_one : (p : Code) (c : Context) (at : Spot) (x : NameAt) (w : Place) → BreaksOne (step p c at x w)
step_one p c at x w = had_one (field_of p w.form x.name) rule.UnknownField x.at refl
    (λ t. and_one (access c at w.held) (access_one c at w.held) holds_one)

walk_one : (p : Code) (c : Context) (path : Path) → BreaksOne (walk p c path)
walk_one p c path = had_one (c.local path.root.name) rule.UnknownName path.root.at refl
    (λ (l : Local). turns_one (step p c path.root.at) path.steps (record { form = l.form; held = l.held })
    (step_one p c path.root.at))

write_one : (c : Context) (at : Spot) (h : Held) → BreaksOne (write_access c at h)
write_one c at h = and_one (access c at h) (access_one c at h) (test_one (may_change h) rule.NeedsUnique at refl)

owner_one : (p : Code) (c : Context) (path : Path) → BreaksOne (owner_write_access p c path)
owner_one p c path = then_one (walk p c (owner path)) (walk_one p c (owner path))
    (λ w. write_one c path.root.at w.held)

form_one : (wanted : Form) (v : Verdict Form) (at : Spot) → BreaksOne v → BreaksOne (has_form wanted v at)
form_one wanted v at h = then_one v h (λ t. test_one (same_value wanted t) rule.TypeMismatch at refl)

pair_one : (p : Code) (c : Context) (o : Option Compared) (v w : Verdict Form) (at : Spot) → BreaksOne v → BreaksOne w
    → BreaksOne (equal_operands p c o v w at)
pair_one p c None v w at h k = then_one v h (λ t. form_one t w at k)
pair_one p c (Some pair) v w at h k = then_one (walk p c pair.path) (walk_one p c pair.path) (λ x.
    asked_one (is_object x.form) rule.TypeMismatch pair.null_at refl
    (test_one (not (holds_nothing (held_in c pair.path.root.name))) rule.NoPermission pair.path.root.at refl))

operands_one : (p : Code) (c : Context) (o : Operands) (a b : Expression) (v w : Verdict Form) → BreaksOne v
    → BreaksOne w → BreaksOne (judge_operands p c o a b v w)
operands_one p c Numbers a b v w h k = and_one (has_form f.Int v (expression_spot a))
    (form_one f.Int v (expression_spot a) h) (form_one f.Int w (expression_spot b) k)
operands_one p c Truths a b v w h k = and_one (has_form f.Bool v (expression_spot a))
    (form_one f.Bool v (expression_spot a) h) (form_one f.Bool w (expression_spot b) k)
operands_one p c Equals a b v w h k = pair_one p c (beside_null a b) v w (expression_spot b) h k

value_one : (p : Code) (c : Context) (e : Expression) → BreaksOne (judge_value p c e)
value_one p c (Number n at) = holds_one
value_one p c (Truth b at) = holds_one
value_one p c (Nothing at) = breaks_one refl
value_one p c (Read path) = then_one (walk p c path) (walk_one p c path)
    (λ w. asked_one (not (is_object w.form)) rule.TypeMismatch path.root.at refl holds_one)
value_one p c (Item path e) = then_one (walk p c path) (walk_one p c path) (λ w.
    asked_one (is_ints w.form) rule.TypeMismatch path.root.at refl
    (and_one (access c path.root.at w.held) (access_one c path.root.at w.held)
    (and_one (has_form f.Int (judge_value p c e) (expression_spot e))
    (form_one f.Int (judge_value p c e) (expression_spot e) (value_one p c e)) holds_one)))
value_one p c (Length path at) = then_one (walk p c path) (walk_one p c path) (λ w.
    asked_one (is_ints w.form) rule.TypeMismatch path.root.at refl
    (and_one (access c path.root.at w.held) (access_one c path.root.at w.held) holds_one))
value_one p c (Grouped e at) = value_one p c e
value_one p c (Negated e at) = and_one (has_form f.Bool (judge_value p c e) (expression_spot e))
    (form_one f.Bool (judge_value p c e) (expression_spot e) (value_one p c e)) holds_one
value_one p c (Minus e at) = and_one (has_form f.Int (judge_value p c e) (expression_spot e))
    (form_one f.Int (judge_value p c e) (expression_spot e) (value_one p c e)) holds_one
value_one p c (Binary o a b) = and_one
    (judge_operands p c (operands o) a b (judge_value p c a) (judge_value p c b))
    (operands_one p c (operands o) a b (judge_value p c a) (judge_value p c b) (value_one p c a) (value_one p c b))
    holds_one

is_one : (p : Code) (c : Context) (t : Form) (e : Expression) → BreaksOne (is_value p c t e)
is_one p c t e = form_one t (judge_value p c e) (expression_spot e) (value_one p c e)

-- ---- into forms

shared_one : (g : ℕ) (h : Held) (at : Spot) → BreaksOne (into_shared g h at)
shared_one g held.Unique at = breaks_one refl
shared_one g (held.Split n) at = breaks_one refl
shared_one g held.Immutable at = breaks_one refl
shared_one g held.Lent at = breaks_one refl
shared_one g (held.Shared k) at = test_one (nat_eq g k) rule.TypeMismatch at refl
shared_one g (held.Inner k) at = breaks_one refl
shared_one g held.None at = breaks_one refl

leave_one : (h : Held) (at : Spot) → BreaksOne (may_leave h at)
leave_one held.Unique at = holds_one
leave_one (held.Split n) at = holds_one
leave_one held.Immutable at = holds_one
leave_one held.Lent at = breaks_one refl
leave_one (held.Shared g) at = holds_one
leave_one (held.Inner g) at = holds_one
leave_one held.None at = breaks_one refl

immutable_one : (h : Held) (at : Spot) → BreaksOne (into_immutable h at)
immutable_one h at = test_one (same_held held.Immutable h) rule.NoPermission at refl

into_perm_one : (q : Perm) (b : Bool) (h : Held) (at : Spot) → BreaksOne (into_perm q b h at)
into_perm_one perm.Unique b h at = test_one (b && is_held_alone h) rule.NeedsUnique at refl
into_perm_one perm.Immutable b h at = immutable_one h at
into_perm_one perm.Lent b h at = breaks_one refl
into_perm_one (perm.Shared g) b h at = shared_one g h at

path_one : (p : Code) (c : Context) (q : Perm) (k : Kind) (path : Path) (at : Spot) → BreaksOne (path_fits p c q k path at)
path_one p c q k path at = then_one (walk p c path) (walk_one p c path) (λ w.
    asked_one (is_object_of k w.form) rule.TypeMismatch at refl
    (and_one (may_leave w.held at) (leave_one w.held at) (into_perm_one q (is_name path) w.held at)))

source_one : (p : Code) (c : Context) (q : Perm) (k : Kind) (s : Source) (at : Spot)
    → BreaksOne (source_fits p c q k s at)
source_one p c q k Null at = holds_one
source_one p c q k (From path) at = path_one p c q k path at

fits_one : (p : Code) (c : Context) (t : Form) (e : Expression) → BreaksOne (fits p c t e)
fits_one p c f.Int e = is_one p c f.Int e
fits_one p c f.Bool e = is_one p c f.Bool e
fits_one p c (f.Object q k) e = had_one (source e) rule.TypeMismatch (expression_spot e) refl
    (λ s. source_one p c q k s (expression_spot e))

into_one : (p : Code) (c : Context) (t : Form) (e : Expression) → BreaksOne (into p c t e)
into_one p c t e = and_one (fits p c t e) (fits_one p c t e) holds_one

other_one : (q : Perm) → IsOfLanguage (other_perm q)
other_one perm.Unique = refl
other_one perm.Immutable = refl
other_one perm.Lent = refl
other_one (perm.Shared g) = refl

made_one : (v t : Form) (at : Spot) → BreaksOne (made_into v t at)
made_one (f.Object q k) (f.Object r l) at = asked_one (same_kind k l) rule.TypeMismatch at refl
    (test_one (same_perm q r) (other_perm r) at (other_one r))
made_one (f.Object q k) f.Int at = test_one (same_value (f.Object q k) f.Int) rule.TypeMismatch at refl
made_one (f.Object q k) f.Bool at = test_one (same_value (f.Object q k) f.Bool) rule.TypeMismatch at refl
made_one f.Int t at = test_one (same_value f.Int t) rule.TypeMismatch at refl
made_one f.Bool t at = test_one (same_value f.Bool t) rule.TypeMismatch at refl

-- ---- new objects and calls

root_one : (u : Bool) (path : Path) (at : Spot) (r : Roots) → BreaksOne (root_apart u path at r)
root_one u path at r = asked_one (not (meets u path.root.name r)) rule.UsedTwice at refl holds_one

source_apart_one : (u : Bool) (s : Option Source) (at : Spot) (r : Roots) → BreaksOne (source_apart u s at r)
source_apart_one u None at r = holds_one
source_apart_one u (Some Null) at r = holds_one
source_apart_one u (Some (From path)) at r = root_one u path at r

apart_one : (t : Form) (e : Expression) (r : Roots) → BreaksOne (apart t e r)
apart_one f.Int e r = holds_one
apart_one f.Bool e r = holds_one
apart_one (f.Object q k) e r = source_apart_one (is_unique (f.Object q k)) (source e) (expression_spot e) r

fills_one : (p : Code) (c : Context) (x : Form × Expression) (s : Filled) → BreaksOne (fills p c x s)
fills_one p c x s = then_one (apart x.0 x.1 s.roots) (apart_one x.0 x.1 s.roots)
    (λ r. then_one (into p c x.0 x.1) (into_one p c x.0 x.1) (λ n. holds_one))

new_object_one : (p : Code) (c : Context) (x : NameAt) (gs : List NameAt) (args : List Expression)
    → BreaksOne (judge_new p c x gs args)
new_object_one p c x gs args = had_one (class_called p x.name) rule.UnknownClass x.at refl (λ (k : Class).
    and_one (groups_fit (groups.known c.group) (length k.groups) x.at gs)
    (groups_one (groups.known c.group) (length k.groups) x.at gs)
    (asked_one (nat_eq (length args) (length k.fields)) rule.ArgumentCount x.at refl
    (then_one (in_turn (fills p c) (zip (map (field_form k (bare_names gs)) k.fields) args)
    (record { roots = no_roots; after = c }))
    (turns_one (fills p c) (zip (map (field_form k (bare_names gs)) k.fields) args)
    (record { roots = no_roots; after = c }) (fills_one p c)) (λ d. holds_one))))

callee_one : (p : Code) (c : Context) (on : Option Path) (x : NameAt) → BreaksOne (judge_callee p c on x)
callee_one p c None x = found_one (top_callee p x.name) rule.UnknownMethod x.at refl
callee_one p c (Some path) x = then_one (walk p c path) (walk_one p c path) (λ w.
    asked_one (is_object w.form) rule.TypeMismatch path.root.at refl
    (found_one (callee_of p w.form x.name) rule.UnknownMethod x.at refl))

unique_one : (away named : Bool) (h : Held) (at : Spot) → BreaksOne (to_unique away named h at)
unique_one away named held.Unique at = test_one (not away || named) rule.NeedsUnique at refl
unique_one away named (held.Split n) at = breaks_one refl
unique_one away named held.Immutable at = breaks_one refl
unique_one away named held.Lent at = breaks_one refl
unique_one away named (held.Shared g) at = breaks_one refl
unique_one away named (held.Inner g) at = breaks_one refl
unique_one away named held.None at = breaks_one refl

to_param_one : (q : Perm) (away named : Bool) (h : Held) (at : Spot) → BreaksOne (to_param q away named h at)
to_param_one perm.Unique away named h at = unique_one away named h at
to_param_one perm.Lent away named h at = test_one (may_be_lent h) rule.NoPermission at refl
to_param_one perm.Immutable away named h at = and_one (may_leave h at) (leave_one h at) (immutable_one h at)
to_param_one (perm.Shared g) away named h at = and_one (may_leave h at) (leave_one h at) (shared_one g h at)

path_to_one : (p : Code) (c : Context) (q : Perm) (k : Kind) (away : Bool) (path : Path) (at : Spot) (r : Roots)
    → BreaksOne (path_to_param p c q k away path at r)
path_to_one p c q k away path at r = then_one (walk p c path) (walk_one p c path) (λ w.
    asked_one (is_object_of k w.form) rule.TypeMismatch at refl
    (then_one (root_apart (is_unique (f.Object q k)) path at r) (root_one (is_unique (f.Object q k)) path at r)
    (λ roots. and_one (to_param q away (is_name path) w.held at) (to_param_one q away (is_name path) w.held at)
    holds_one)))

source_to_one : (p : Code) (c : Context) (q : Perm) (k : Kind) (away : Bool) (s : Source) (at : Spot) (r : Roots)
    → BreaksOne (source_to_param p c q k away s at r)
source_to_one p c q k away Null at r = holds_one
source_to_one p c q k away (From path) at r = path_to_one p c q k away path at r

to_form_one : (p : Code) (c : Context) (t : Form) (away : Bool) (e : Expression) (r : Roots)
    → BreaksOne (to_form p c t away e r)
to_form_one p c f.Int away e r = and_one (is_value p c f.Int e) (is_one p c f.Int e) holds_one
to_form_one p c f.Bool away e r = and_one (is_value p c f.Bool e) (is_one p c f.Bool e) holds_one
to_form_one p c (f.Object q k) away e r = had_one (source e) rule.TypeMismatch (expression_spot e) refl
    (λ s. source_to_one p c q k away s (expression_spot e) r)

need_met_one : (gs : groups.Groups) (at : Spot) (n : groups.Wanted) → BreaksOne (groups.need_met gs at n)
need_met_one gs at (need_of.Exclusive, g) = test_one (groups.group_is group.Exclusive gs g) rule.NotExclusive at refl
need_met_one gs at (need_of.Shared, g) =
    asked_one (not (groups.group_is group.HeldBack gs g)) rule.NestedAtomic at refl
    (test_one (groups.group_is group.Shared gs g) rule.NotShared at refl)
need_met_one gs at (need_of.Protected, g) = reach_one gs g at

needs_one : (gs : groups.Groups) (at : Spot) (ns : List groups.Wanted) → BreaksOne (groups.needs_met gs at ns)
needs_one gs at ns = asked_one (not (groups.any_clash ns)) rule.GroupTwice at refl
    (each_one (groups.need_met gs at) ns (need_met_one gs at))

called_one : (p : Code) (c : Context) (i : Invocation) (m : Callee) → BreaksOne (judge_callee_with p c i m)
called_one p c i m =
    let new : ℕ → ℕ = group_in m i.groups in
    let pairs : List (ParamSlot × Expression) = zip (slots p (group_in m i.groups) m.method) (givens i) in
    and_one (groups_fit (groups.known c.group) (length m.method.groups) i.method.at i.groups)
    (groups_one (groups.known c.group) (length m.method.groups) i.method.at i.groups)
    (asked_one (nat_eq (length i.args) (length m.method.params)) rule.ArgumentCount i.method.at refl
    (then_one (in_turn (to_slot p c) (zip (slots p (group_in m i.groups) m.method) (givens i)) no_roots)
    (turns_one (to_slot p c) (zip (slots p (group_in m i.groups) m.method) (givens i)) no_roots
    (λ x r. to_form_one p c x.0.form x.0.away x.1 r))
    (λ roots. and_one (groups.needs_met c.group i.method.at
    (map (groups.wanted_need (group_in m i.groups)) m.method.needs))
    (needs_one c.group i.method.at (map (groups.wanted_need (group_in m i.groups)) m.method.needs)) holds_one)))

call_one : (p : Code) (c : Context) (i : Invocation) → BreaksOne (judge_call p c i)
call_one p c i = then_one (judge_callee p c i.on i.method) (callee_one p c i.on i.method) (called_one p c i)

-- ---- statements

take_one : (p : Code) (c : Context) (path : Path) (at : Spot) → BreaksOne (judge_take p c path at)
take_one p c path at = then_one (walk p c path) (walk_one p c path) (λ w.
    asked_one (is_object w.form) rule.TypeMismatch at refl (asked_one (is_unique w.form) rule.NeedsUnique at refl
    (and_one (owner_write_access p c path) (owner_one p c path) holds_one)))

result_one : (r : Option Form) (t : Form) (at : Spot) → BreaksOne (result_into r t at)
result_one None t at = breaks_one refl
result_one (Some v) t at = made_one v t at

right_one : (p : Code) (c : Context) (t : Form) (e : RightSide) → BreaksOne (judge_right p c t e)
right_one p c t (Value e) = then_one (into p c t e) (into_one p c t e) (λ n. holds_one)
right_one p c t (Taken path at) = then_one (judge_take p c path at) (take_one p c path at)
    (λ v. and_one (made_into v t at) (made_one v t at) holds_one)
right_one p c t (Zeros e at) = and_one (is_value p c f.Int e) (is_one p c f.Int e)
    (and_one (made_into (unique_of kind.Ints) t at) (made_one (unique_of kind.Ints) t at) holds_one)
right_one p c t (Made x gs args at) = then_one (judge_new p c x gs args) (new_object_one p c x gs args)
    (λ d. and_one (made_into d.value t at) (made_one d.value t at) holds_one)
right_one p c t (Returned i) = then_one (judge_call p c i) (call_one p c i)
    (λ d. and_one (result_into d.result t i.method.at) (result_one d.result t i.method.at) holds_one)

alone_one : (c : Context) (x : NameAt) → BreaksOne (holds_alone c x)
alone_one c x = had_one (c.local x.name) rule.UnknownName x.at refl (λ (l : Local).
    asked_one (is_object l.form) rule.TypeMismatch x.at refl
    (asked_one (not (holds_nothing l.held)) rule.NoPermission x.at refl
    (test_one (is_held_alone l.held) rule.NeedsUnique x.at refl)))

prints_one : (c : Context) (at : Spot) → BreaksOne (prints c at)
prints_one c at = and_one (groups.group_access c.group io at) (reach_one c.group io at) holds_one

stay_one : (p : Code) (c d : Context) (b : Lines) → BreaksOne (groups_stay p c d b)
stay_one p c d End = holds_one
stay_one p c d (Next at (Groups g) rest) = asked_one (none_shared p c d g.name) rule.GroupEscapes g.at refl
    (stay_one p c d rest)
stay_one p c d (Next at (Declares t x e) rest) = stay_one p c d rest
stay_one p c d (Next at (Assigns x e) rest) = stay_one p c d rest
stay_one p c d (Next at (Stores q e) rest) = stay_one p c d rest
stay_one p c d (Next at (StoresAt q i e) rest) = stay_one p c d rest
stay_one p c d (Next at (Calls i) rest) = stay_one p c d rest
stay_one p c d (Next at (Chooses e n b) rest) = stay_one p c d rest
stay_one p c d (Next at (ChoosesElse e n b k b') rest) = stay_one p c d rest
stay_one p c d (Next at (Repeats e n b) rest) = stay_one p c d rest
stay_one p c d (Next at (Splits gs n b) rest) = stay_one p c d rest
stay_one p c d (Next at (Locks g n b) rest) = stay_one p c d rest
stay_one p c d (Next at (Freezes x) rest) = stay_one p c d rest
stay_one p c d (Next at (Shares x g) rest) = stay_one p c d rest
stay_one p c d (Next at (Prints e) rest) = stay_one p c d rest
stay_one p c d (Next at (PrintsText s) rest) = stay_one p c d rest
stay_one p c d (Next at (Asserts e) rest) = stay_one p c d rest
stay_one p c d (Next at (Returns e) rest) = stay_one p c d rest

end_one : (p : Code) (c : Context) (b : Lines) (d : Context) → BreaksOne (end_block p c b d)
end_one p c b d = and_one (groups_stay p c d b) (stay_one p c d b) holds_one

block_one : (p : Code) (c : Context) (b : Lines) (v : Verdict Context) → BreaksOne v
    → BreaksOne (v >>= end_block p c b)
block_one p c b v h = then_one v h (end_one p c b)

split_one : (gs : groups.Groups) (g : NameAt) (earlier : Names) → BreaksOne (groups.may_split gs g earlier)
split_one gs g earlier = asked_one (groups.known gs g.name) rule.UnknownGroup g.at refl
    (asked_one (not (earlier g.name)) rule.GroupTwice g.at refl
    (asked_one (groups.group_is group.Exclusive gs g.name) rule.NotExclusive g.at refl holds_one))

splits_one : (gs : groups.Groups) (xs : List NameAt) → BreaksOne (groups.may_split_all gs xs)
splits_one gs xs = and_one (in_turn (groups.may_split gs) xs no_names)
    (turns_one (groups.may_split gs) xs no_names (split_one gs)) holds_one

lock_one : (gs : groups.Groups) (g : NameAt) → BreaksOne (groups.may_lock gs g)
lock_one gs g = asked_one (groups.known gs g.name) rule.UnknownGroup g.at refl
    (asked_one (not (groups.group_is group.HeldBack gs g.name)) rule.NestedAtomic g.at refl
    (test_one (groups.group_is group.Shared gs g.name) rule.NotShared g.at refl))

declared_one : (g : NameAt) (gs : groups.Groups) → BreaksOne (groups.declare g gs)
declared_one g gs = asked_one (not (groups.known gs g.name)) rule.DuplicateLocal g.at refl holds_one

mutual
  statement_one : (p : Code) (m : Definition) (at : Spot) (a : Action) (c : Context)
      → BreaksOne (judge_statement p m at a c)
  statement_one p m at (Declares t x e) c =
      and_one (forms_type p (groups.known c.group) false t) (type_one p (groups.known c.group) false t)
      (asked_one (not (is_visible c x.name)) rule.DuplicateLocal x.at refl
      (then_one (judge_right p c (form t) e) (right_one p c (form t) e) (λ d. holds_one)))
  statement_one p m at (Assigns x e) c = had_one (c.local x.name) rule.UnknownName x.at refl (λ (l : Local).
      asked_one (not l.stays) rule.ParameterMoved x.at refl
      (then_one (judge_right p c l.form e) (right_one p c l.form e) (λ d. holds_one)))
  statement_one p m at (Stores path e) c = then_one (walk p c path) (walk_one p c path) (λ w.
      and_one (owner_write_access p c path) (owner_one p c path)
      (then_one (into p c w.form e) (into_one p c w.form e) (λ n.
      asked_one (not (is_moved n path.root.name)) rule.UsedTwice (expression_spot e) refl holds_one)))
  statement_one p m at (StoresAt path i e) c = then_one (walk p c path) (walk_one p c path) (λ w.
      asked_one (is_ints w.form) rule.TypeMismatch path.root.at refl
      (and_one (write_access c path.root.at w.held) (write_one c path.root.at w.held)
      (and_one (is_value p c f.Int i) (is_one p c f.Int i)
      (and_one (is_value p c f.Int e) (is_one p c f.Int e) holds_one))))
  statement_one p m at (Calls i) c = then_one (judge_call p c i) (call_one p c i) (λ d. holds_one)
  statement_one p m at (Chooses e n b) c = and_one (is_value p c f.Bool e) (is_one p c f.Bool e)
      (then_one (judge_lines p m b c >>= end_block p c b) (block_one p c b (judge_lines p m b c) (lines_one p m b c))
      (λ d. asked_one (hold_alike p c d c) rule.BranchesDiffer at refl holds_one))
  statement_one p m at (ChoosesElse e n b k b') c = and_one (is_value p c f.Bool e) (is_one p c f.Bool e)
      (then_one (judge_lines p m b c >>= end_block p c b) (block_one p c b (judge_lines p m b c) (lines_one p m b c))
      (λ d. then_one (judge_lines p m b' c >>= end_block p c b')
      (block_one p c b' (judge_lines p m b' c) (lines_one p m b' c))
      (λ d'. asked_one (hold_alike p c d d') rule.BranchesDiffer at refl holds_one)))
  statement_one p m at (Repeats e n b) c = and_one (is_value p c f.Bool e) (is_one p c f.Bool e)
      (then_one (judge_lines p m b c >>= end_block p c b) (block_one p c b (judge_lines p m b c) (lines_one p m b c))
      (λ d. asked_one (hold_alike p c d c) rule.LoopChanges at refl holds_one))
  statement_one p m at (Groups g) c = asked_one (not (is_some (c.local g.name))) rule.DuplicateLocal g.at refl
      (then_one (groups.declare g c.group) (declared_one g c.group) (λ gs. holds_one))
  statement_one p m at (Splits gs n b) c = and_one (groups.may_split_all c.group gs) (splits_one c.group gs)
      (block_one p c b (judge_lines p m b (while_split gs c)) (lines_one p m b (while_split gs c)))
  statement_one p m at (Locks g n b) c = and_one (groups.may_lock c.group g) (lock_one c.group g)
      (block_one p c b (judge_lines p m b (while_locked g.name c)) (lines_one p m b (while_locked g.name c)))
  statement_one p m at (Freezes x) c = and_one (holds_alone c x) (alone_one c x) holds_one
  statement_one p m at (Shares x g) c = and_one (holds_alone c x) (alone_one c x)
      (and_one (is_group (groups.known c.group) g) (group_one (groups.known c.group) g)
      (and_one (groups.group_access c.group g.name g.at) (reach_one c.group g.name g.at) holds_one))
  statement_one p m at (Prints e) c = and_one (judge_value p c e) (value_one p c e) (prints_one c at)
  statement_one p m at (PrintsText s) c = prints_one c at
  statement_one p m at (Asserts e) c = and_one (is_value p c f.Bool e) (is_one p c f.Bool e) holds_one
  statement_one p m at (Returns e) c = had_one m.result rule.TypeMismatch at refl (λ t.
      then_one (into p c (form t) e) (into_one p c (form t) e) (λ n. holds_one))

  lines_one : (p : Code) (m : Definition) (b : Lines) (c : Context) → BreaksOne (judge_lines p m b c)
  lines_one p m End c = holds_one
  lines_one p m (Next at a rest) c = then_one (judge_statement p m at a c) (statement_one p m at a c)
      (λ d. lines_one p m rest d)

-- ---- programs

comes_back_one : (c : Context) (x : NameAt) (t : Form) (away : Option Spot) → BreaksOne (must_come_back c x t away)
comes_back_one c x t away =
    test_one (not (is_unique t && is_none away) || is_held_alone (held_in c x.name)) rule.NotReturned x.at refl

end_method_one : (p : Code) (m : Definition) (c : Context) → BreaksOne (end_method p m c)
end_method_one p m c = asked_one (is_none m.result || returns m.body) rule.ReturnMissing m.name.at refl
    (and_one (if_there m.me (me_comes_back p m c)) (there_one m.me (me_comes_back p m c)
    (λ me. comes_back_one c (record { name = this; at = me.at }) (me_form p m me) me.away))
    (each_one (param_comes_back c) m.params (λ x. comes_back_one c x.name (form x.ty) x.away)))

judged_one : (p : Code) (m : Definition) → BreaksOne (judge_method p m)
judged_one p m = then_one (judge_lines p m m.body (start p m)) (lines_one p m m.body (start p m)) (λ c.
    then_one (end_block p (start p m) m.body c) (end_one p (start p m) m.body c) (λ d. end_method_one p m d))

-- what a program breaks first is a rule of the language
pub broken_is_of_language : BrokenIsOfLanguage
broken_is_of_language p r at e = (and_one (table_verdict p) (table_one p)
    (each_one (judge_method p) p.methods (judged_one p))).broken r at e
