-- An accepted program of the forms that run has an ending: each visible local has a value.
use Rattle.std.specs.Prelude.{IsSome, is_some, option_map, ◌+ℤ◌, ◌-ℤ◌, ◌*ℤ◌, neg_ℤ, int_div, int_rem}
use Rattle.std.proofs.Common.{◌≡◌, ◌≤◌, ◌^◌, ℕ, ℤ, pos, negsuc, Bool, true, false, if◌then◌else◌, nat_eq}
use Rattle.std.proofs.Common.{nat_lt, [], ◌∷◌, Option, None, Some, Result, Ok, Err, IfOk, refl, ap, sym, ◌∙◌}
use Rattle.std.proofs.Common.{subst, arith}
use Rattle.ae_text.specs.declared.refusal.Spot.{Spot}
use Rattle.ae_text.specs.declared.refusal.Rule.TheVariants as rule
use Rattle.ae_text.specs.declared.whole.Memory.{Memory}
use Rattle.ae_tree.specs.declared.form.Form.TheVariants as form_of
use Rattle.ae_tree.specs.declared.tree.Op.{Op}
use Rattle.ae_tree.specs.declared.tree.Op.TheVariants as op
use Rattle.ae_tree.specs.declared.tree.Ty.TheVariants as ty
use Rattle.ae_tree.specs.Plain.{Expression, Number, Truth, Nothing, Read, Item, Length, Grouped, Negated, Minus}
use Rattle.ae_tree.specs.Plain.{Binary, Value, Taken, Zeros, Made, Returned, Lines, End, Next, Definition, Code}
use Rattle.ae_tree.specs.Plain.{Action, Declares, Assigns, Stores, StoresAt, Calls, Chooses, ChoosesElse, Repeats}
use Rattle.ae_tree.specs.Plain.{Groups, Splits, Locks, Freezes, Shares, Prints, PrintsText, Asserts, Returns}
use Rattle.ae_tree.specs.Names.{main}
use Rattle.ae_tree.specs.Grammar.{level}
use Rattle.ae_tree.specs.Built.{IsBuiltExpression, IsBuiltAction}
use Rattle.ae_rules.specs.declared.held.Held.{Held}
use Rattle.ae_rules.specs.Verdict.{Holds, found}
use Rattle.ae_rules.specs.Context.{Local, Context, held_of, with_local, with_held}
use Rattle.ae_rules.specs.Walks.{walk}
use Rattle.ae_rules.specs.Expressions.{expression_spot, Operands, Numbers, operands, result_form, has_form}
use Rattle.ae_rules.specs.Expressions.{judge_operands, judge_value}
use Rattle.ae_rules.specs.Statements.{judge_statement}
use Rattle.ae_rules.specs.Judges.{start}
use Rattle.ae_meaning.specs.declared.report.Ending.{Ending}
use Rattle.ae_meaning.specs.declared.report.Meant.{Meant}
use Rattle.ae_meaning.specs.Values.{Env, today_with, TodayOutcome, Fine, Traps, Lacks, then_value, today_found}
use Rattle.ae_meaning.specs.Values.{today_fitted, today_unless_zero, today_applied, today_value}
use Rattle.ae_meaning.specs.Meaning.{TodayState, Run, Went, today_and_then, today_given, bound, today_printed}
use Rattle.ae_meaning.specs.Meaning.{today_one, today_many, meaning_of_run, main_body, begin, today_seq}
use Rattle.ae_meaning.specs.Judged.{Integers, IsJudged, AreJudged}
use Rattle.ae_meaning.specs.Endings.{AcceptedEnd}
use Rattle.ae_meaning.proofs.Judged.{HasForm, form_judged, let_is, Assigned, assign_is, print_is, first_judged}
use Rattle.ae_meaning.proofs.Judged.{rest_judged, no_locals, body_judged}
use Rattle.ae_meaning.proofs.from_rules.PathLemmas.{first_holds}
use Rattle.ae_meaning.proofs.from_rules.SeenLemmas.{found_is}

-- each visible local has a value
abbrev pub Fits : Context → Env → Type 0
Fits c env = (x : ℕ) → IsSome (c.local x) → IsSome (env x)

-- a value or a trap
abbrev pub IsKnown : TodayOutcome → Type 0
IsKnown (Fine v) = Unit {0}
IsKnown (Traps code) = Unit {0}
IsKnown Lacks = ⊥

found_known : (o : Option ℤ) → IsSome o → IsKnown (today_found o)
found_known None h = absurd (cc)
found_known (Some v) h = tt

then_known : (o : TodayOutcome) (go : ℤ → TodayOutcome) → IsKnown o → ((v : ℤ) → IsKnown (go v))
    → IsKnown (then_value o go)
then_known (Fine v) go k h = h v
then_known (Traps code) go k h = tt
then_known Lacks go k h = absurd k

chosen_known : (b : Bool) (v : ℤ) → IsKnown (if b then Fine v else Traps 1)
chosen_known true v = tt
chosen_known false v = tt

fitted_known : (z : ℤ) → IsKnown (today_fitted z)
fitted_known (pos n) = chosen_known (nat_lt n (2 ^ 63)) (pos n)
fitted_known (negsuc n) = chosen_known (nat_lt n (2 ^ 63)) (negsuc n)

choice_known : (b : Bool) (o : TodayOutcome) → IsKnown o → IsKnown (if b then Traps 2 else o)
choice_known true o k = tt
choice_known false o k = k

unless_known : (z : ℤ) (o : TodayOutcome) → IsKnown o → IsKnown (today_unless_zero z o)
unless_known (pos n) o k = choice_known (nat_eq n 0) o k
unless_known (negsuc n) o k = k

applied_known : (o : Op) → 3 ≤ level o → (x y : ℤ) → IsKnown (today_applied o x y)
applied_known op.Or h x y = absurd (omega arith)
applied_known op.And h x y = absurd (omega arith)
applied_known op.Eq h x y = absurd (omega arith)
applied_known op.Ne h x y = absurd (omega arith)
applied_known op.Lt h x y = absurd (omega arith)
applied_known op.Le h x y = absurd (omega arith)
applied_known op.Gt h x y = absurd (omega arith)
applied_known op.Ge h x y = absurd (omega arith)
applied_known op.Add h x y = fitted_known (x +ℤ y)
applied_known op.Sub h x y = fitted_known (x -ℤ y)
applied_known op.Mul h x y = fitted_known (x *ℤ y)
applied_known op.Div h x y = unless_known y (today_fitted (int_div x y)) (fitted_known (int_div x y))
applied_known op.Rem h x y = unless_known y (Fine (int_rem x y)) tt

-- ---- expressions

numbers : (o : Op) → 3 ≤ level o → operands o ≡ Numbers
numbers op.Or h = absurd (omega arith)
numbers op.And h = absurd (omega arith)
numbers op.Eq h = absurd (omega arith)
numbers op.Ne h = absurd (omega arith)
numbers op.Lt h = absurd (omega arith)
numbers op.Le h = absurd (omega arith)
numbers op.Gt h = absurd (omega arith)
numbers op.Ge h = absurd (omega arith)
numbers op.Add h = refl
numbers op.Sub h = refl
numbers op.Mul h = refl
numbers op.Div h = refl
numbers op.Rem h = refl

-- both operands of a judged operator are judged
operands_judged : (p : Code) (c : Context) (o : Op) (a b : Expression) → 3 ≤ level o → HasForm p c (Binary o a b)
    → HasForm p c a × HasForm p c b
operands_judged p c o a b h j =
    let r = first_holds (judge_operands p c (operands o) a b (judge_value p c a) (judge_value p c b))
    (λ _. Holds (result_form o)) j.0 j.1 in
    let both = subst
    (λ (k : Operands). judge_operands p c k a b (judge_value p c a) (judge_value p c b) ≡ Holds r.0) (numbers o h)
    r.1 in
    let s = first_holds (has_form form_of.Int (judge_value p c a) (expression_spot a))
    (λ _. has_form form_of.Int (judge_value p c b) (expression_spot b)) r.0 both in (
      form_judged p c a form_of.Int (expression_spot a) s.0 s.1,
      form_judged p c b form_of.Int (expression_spot b) r.0 s.2,
    )

-- A judged expression has a value or traps, where each visible local has a value.
pub knows : (p : Code) (c : Context) (env : Env) → Fits c env → (e : Expression) → IsBuiltExpression e
    → HasForm p c e → IsKnown (today_value e env)
knows p c env f (Number n at) b j = tt
knows p c env f (Truth t at) b j = absurd b
knows p c env f (Nothing at) b j = absurd b
knows p c env f (Read path) b j =
    let w = first_holds (walk p c path) _ j.0 j.1 in
    let l = first_holds (found (c.local path.root.name) rule.UnknownName path.root.at) _ w.0 w.1 in
    let there : c.local path.root.name ≡ Some l.0 = found_is (c.local path.root.name) rule.UnknownName path.root.at l.0
    l.1 in
    rw b.0 (found_known (env path.root.name) (f path.root.name (ap is_some there)))
knows p c env f (Item path e) b j = absurd b
knows p c env f (Length path at) b j = absurd b
knows p c env f (Grouped e at) b j = knows p c env f e b j
knows p c env f (Negated e at) b j = absurd b
knows p c env f (Minus e at) b j =
    let r = first_holds (has_form form_of.Int (judge_value p c e) (expression_spot e)) (λ _. Holds form_of.Int) j.0
    j.1 in
    then_known (today_value e env) _ (knows p c env f e b (form_judged p c e form_of.Int (expression_spot e) r.0 r.1))
    (λ v. fitted_known (neg_ℤ v))
knows p c env f (Binary o x y) b j =
    let both = operands_judged p c o x y b.0 j in
    then_known (today_value x env) _ (knows p c env f x b.1 both.0)
    (λ v. then_known (today_value y env) _ (knows p c env f y b.2 both.1) (λ w. applied_known o b.0 v w))

-- ---- statements

-- a run that went through or ended has an ending, as the whole run
abbrev pub HasEnding : Run → Type 0
HasEnding r = IsSome (meaning_of_run r).ending

given_ends : (o : TodayOutcome) → IsKnown o → (at : Spot) (s : TodayState) (go : ℤ → Run) (rest : TodayState → Run)
    → ((v : ℤ) → HasEnding (today_and_then (go v) rest))
    → HasEnding (today_and_then (today_given o at s go) rest)
given_ends (Fine v) k at s go rest h = h v
given_ends (Traps code) k at s go rest h = refl
given_ends Lacks k at s go rest h = absurd k

declared_choice : (b : Bool) (o : Option Local) (q : Option ℤ) (l : Local) (v : ℤ) → (IsSome o → IsSome q)
    → IsSome (if b then Some l else o) → IsSome (if b then Some v else q)
declared_choice true o q l v h e = refl
declared_choice false o q l v h e = h e

-- a local that gets a value becomes visible
fits-declared : (c : Context) (env : Env) → Fits c env → (x : ℕ) (v : ℤ)
    → Fits (with_local x form_of.Int c) (today_with x v env)
fits-declared c env f x v = λ y t. declared_choice (nat_eq x y) (c.local y) (env y) _ v (f y) t

held_choice : (b : Bool) (h : Held) (o : Option Local) (q : Option ℤ) (v : ℤ) → (IsSome o → IsSome q)
    → IsSome (if b then option_map (λ (k : Local). record k { held = h }) o else o)
    → IsSome (if b then Some v else q)
held_choice true h o q v f e = refl
held_choice false h o q v f e = f e

fits-assigned : (c : Context) (env : Env) → Fits c env → (x : ℕ) (h : Held) (v : ℤ)
    → Fits (with_held x h c) (today_with x v env)
fits-assigned c env f x h v = λ y t. held_choice (nat_eq x y) h (c.local y) (env y) v (f y) t

-- A judged statement, before a rest that has an ending from each fitting state.
pub action_ends : (p : Code) (m : Definition) (at : Spot) (a : Action) (c d : Context) → IsBuiltAction a → Integers c
    → judge_statement p m at a c ≡ Holds d
    → (s : TodayState) → Fits c s.env → (rest : TodayState → Run)
    → ((t : TodayState) → Fits d t.env → HasEnding (rest t))
    → HasEnding (today_and_then (today_one at a s) rest)
action_ends p m at (Declares (ty.Int place) x (Value e)) c d b i h s f rest r =
    let j = let_is p c d place x e h in given_ends
    (today_value e s.env) (knows p c s.env f e b.1 j.1) at s (λ v. Went (bound x.name v s)) rest
    (λ v. r (bound x.name v s)
    (subst (λ (k : Context). Fits k (today_with x.name v s.env)) (sym j.0) (fits-declared c s.env f x.name v)))
action_ends p m at (Declares (ty.Bool place) x e) c d b i h s f rest r = absurd b.0
action_ends p m at (Declares (ty.Object q z) x e) c d b i h s f rest r = absurd b.0
action_ends p m at (Declares (ty.Int z) x (Taken path place)) c d b i h s f rest r = absurd b.1
action_ends p m at (Declares (ty.Int z) x (Zeros e place)) c d b i h s f rest r = absurd b.1
action_ends p m at (Declares (ty.Int z) x (Made q gs args place)) c d b i h s f rest r = absurd b.1
action_ends p m at (Declares (ty.Int z) x (Returned q)) c d b i h s f rest r = absurd b.1
action_ends p m at (Assigns x (Value e)) c d b i h s f rest r =
    let j : Assigned p c x.name e d = assign_is p c d i x e h in given_ends
    (today_value e s.env) (knows p c s.env f e b j.value) at s (λ v. Went (bound x.name v s)) rest
    (λ v. r (bound x.name v s)
    (subst (λ (k : Context). Fits k (today_with x.name v s.env)) (sym j.after)
    (fits-assigned c s.env f x.name (held_of j.local.form) v)))
action_ends p m at (Assigns x (Taken path place)) c d b i h s f rest r = absurd b
action_ends p m at (Assigns x (Zeros e place)) c d b i h s f rest r = absurd b
action_ends p m at (Assigns x (Made q gs args place)) c d b i h s f rest r = absurd b
action_ends p m at (Assigns x (Returned q)) c d b i h s f rest r = absurd b
action_ends p m at (Prints e) c d b i h s f rest r =
    let j = print_is p c d at e h in given_ends
    (today_value e s.env) (knows p c s.env f e b j.1) at s (λ v. Went (today_printed v s)) rest
    (λ v. r (today_printed v s) (subst (λ (k : Context). Fits k s.env) (sym j.0) f))
action_ends p m at (Stores path e) c d b i h s f rest r = absurd b
action_ends p m at (StoresAt path z e) c d b i h s f rest r = absurd b
action_ends p m at (Calls q) c d b i h s f rest r = absurd b
action_ends p m at (Chooses e z x) c d b i h s f rest r = absurd b
action_ends p m at (ChoosesElse e z x w y) c d b i h s f rest r = absurd b
action_ends p m at (Repeats e z x) c d b i h s f rest r = absurd b
action_ends p m at (Groups g) c d b i h s f rest r = absurd b
action_ends p m at (Splits gs z x) c d b i h s f rest r = absurd b
action_ends p m at (Locks g z x) c d b i h s f rest r = absurd b
action_ends p m at (Freezes x) c d b i h s f rest r = absurd b
action_ends p m at (Shares x g) c d b i h s f rest r = absurd b
action_ends p m at (PrintsText text) c d b i h s f rest r = absurd b
action_ends p m at (Asserts e) c d b i h s f rest r = absurd b
action_ends p m at (Returns e) c d b i h s f rest r = absurd b

-- Judged lines have an ending from each fitting state.
pub lines_end : (p : Code) (m : Definition) (b : Lines) (c : Context) → AreJudged p m b c → (s : TodayState)
    → Fits c s.env → HasEnding (today_many b s)
lines_end p m End c j s f = refl
lines_end p m (Next at a rest) c j s f =
    let first : IsJudged p m (record { at = at; action = a; context = c }) =
    first_judged p m at a rest c j in action_ends
    p m at a c first.later first.built first.integers first.holds s f (today_many rest)
    (λ t g. lines_end p m rest first.later (rest_judged p m at a rest c first.later j first.holds) t g)

-- ---- programs

-- The body of the one method is that which is run.
pub main_is : (m : Definition) → m.class ≡ None → m.name.name ≡ main → main_body (m ∷ []) ≡ m.body
main_is m c n = rw (c, n) refl

is_there : (o : Option Local) → IsSome o → (l : Local) × (o ≡ Some l)
is_there None h = absurd (cc)
is_there (Some l) h = (l, refl)

-- An accepted program of the forms that run has an ending.
pub program_ends : AcceptedEnd
unfolding today_seq
program_ends p a k ints fuel =
    let m = k.method in
    let none : Fits (start p m) begin.env = λ x t.
    let l = is_there ((start p m).local x) t in absurd (no_locals p m k.is_main.me k.is_main.params x l.0 l.1) in
    let e : HasEnding (today_many m.body begin) = lines_end p m m.body (start p m) (body_judged p a k) begin none in
    subst (λ (b : Lines). HasEnding (today_many b begin))
    (sym (ap main_body k.methods ∙ main_is m k.is_main.class k.is_main.is_named)) e

-- An ending that is that of a meaning with an ending is there.
pub ending_some : (r : Result Meant Memory) (o : Option Ending) → IfOk r (λ m. m.ending ≡ o) → IsSome o
    → IfOk r (λ m. IsSome m.ending)
ending_some (Ok m) o h s = subst (λ (x : Option Ending). IsSome x) (sym h) s
ending_some (Err e) o h s = tt
