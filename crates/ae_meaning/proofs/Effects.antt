-- What a statement does, told by what it uses alone.
use Rattle.std.proofs.Common.{◌≡◌, ℕ, ℤ, Bool, true, if◌then◌else◌, List, [], ◌∷◌, ◌++◌, Option, None, Some}
use Rattle.std.proofs.Common.{is_some, IsSome, refl, ap, ◌∙◌}
use Rattle.std.specs.Prelude.{neg_ℤ}
use Rattle.std.specs.Fmt.{signed_decimal}
use Rattle.ae_text.specs.declared.refusal.Spot.{Spot}
use Rattle.ae_tree.specs.declared.tree.NameAt.{NameAt}
use Rattle.ae_tree.specs.declared.tree.Ty.TheVariants as ty
use Rattle.ae_rules.specs.declared.uses.Resource.TheVariants as resource
use Rattle.ae_rules.specs.declared.uses.Mode.{Mode}
use Rattle.ae_rules.specs.declared.uses.Mode.TheVariants as mode
use Rattle.ae_tree.specs.Plain.{Expression, Number, Truth, Nothing, Read, Item, Length, Grouped, Negated, Minus}
use Rattle.ae_tree.specs.Plain.{Binary, Value, Taken, Zeros, Made, Returned, Definition, Code}
use Rattle.ae_tree.specs.Plain.{Action, Declares, Assigns, Stores, StoresAt, Calls, Chooses, ChoosesElse, Repeats}
use Rattle.ae_tree.specs.Plain.{Groups, Splits, Locks, Freezes, Shares, Prints, PrintsText, Asserts, Returns}
use Rattle.ae_tree.specs.Form.{form}
use Rattle.ae_tree.specs.Names.{io}
use Rattle.ae_tree.specs.Built.{IsBuiltExpression, IsBuiltAction}
use Rattle.ae_rules.specs.Edges.{Uses}
use Rattle.ae_rules.specs.Context.{Local, Context}
use Rattle.ae_rules.specs.Statements.{judge_statement}
use Rattle.ae_rules.specs.Verdict.{Holds}
use Rattle.ae_rules.specs.Uses.{of_found, steps_use, walk_uses, value_uses, right_uses, write_use, read_use}
use Rattle.ae_rules.specs.Uses.{stronger, statement_uses}
use Rattle.ae_meaning.specs.declared.report.Ending.TheVariants.{Trap}
use Rattle.ae_meaning.specs.Values.{Env, TodayOutcome, Fine, Traps, Lacks, then_value, today_found, today_fitted}
use Rattle.ae_meaning.specs.Values.{stepped, today_value}
use Rattle.ae_meaning.specs.Meaning.{TodayState, Run, Went, Ends, Stops, today_given, bound, today_printed, today_one}
use Rattle.ae_meaning.specs.Running.{sought}
use Rattle.ae_meaning.specs.Judged.{Statement, uses_at, Integers, IsJudged}
use Rattle.ae_meaning.specs.Frame.{expression_uses}
use Rattle.ae_meaning.proofs.Rules.{right-given}
use Rattle.ae_meaning.proofs.Judged.{Assigned, assign_is}
use Rattle.ae_meaning.proofs.from_text.Basics.{number_is_itself}

-- ---- what expressions use

-- What is used first is used.
used_left : (o q : Option Mode) → IsSome o → IsSome (stronger o q)
used_left None q h = absurd (cc)
used_left (Some m) None h = refl
used_left (Some m) (Some n) h = refl

-- What is used then is used.
used_right : (o q : Option Mode) → IsSome q → IsSome (stronger o q)
used_right None q h = h
used_right (Some m) None h = refl
used_right (Some m) (Some n) h = refl

-- two environments are the same where a test holds
abbrev pub SameOn : (ℕ → Bool) → Env → Env → Type 0
SameOn u e f = (y : ℕ) → u y ≡ true → e y ≡ f y

-- an expression uses this local
abbrev pub uses_local : Code → Context → Expression → ℕ → Bool
uses_local p c a y = is_some (value_uses p c a (resource.Local y))

root_used : (x : ℕ) (o : Option Mode) → IsSome (stronger (read_use x (resource.Local x)) o)
root_used x o = used_left (read_use x (resource.Local x)) o
    (ap (λ (b : Bool). is_some (if b then Some mode.Read else None)) (number_is_itself x))

-- An expression's value is told by what it uses.
pub value_same : (p : Code) (c : Context) (a : Expression) (e f : Env) → SameOn (uses_local p c a) e f
    → today_value a e ≡ today_value a f
value_same p c (Number n at) e f h = refl
value_same p c (Truth b at) e f h = refl
value_same p c (Nothing at) e f h = refl
value_same p c (Read path) e f h = ap (λ o. stepped path.steps (today_found o))
    (h path.root.name (root_used path.root.name (walk_uses p c path (resource.Local path.root.name))))
value_same p c (Item path a) e f h = refl
value_same p c (Length path at) e f h = refl
value_same p c (Grouped a at) e f h = value_same p c a e f h
value_same p c (Negated a at) e f h = refl
value_same p c (Minus a at) e f h = ap (λ o. then_value o (λ x. today_fitted (neg_ℤ x))) (value_same p c a e f h)
value_same p c (Binary op a b) e f h =
    let q : today_value a e ≡ today_value a f = value_same p c a e f
    (λ y r. h y (used_left (value_uses p c a (resource.Local y)) (value_uses p c b (resource.Local y)) r)) in
    let r : today_value b e ≡ today_value b f = value_same p c b e f
    (λ y r. h y (used_right (value_uses p c a (resource.Local y)) (value_uses p c b (resource.Local y)) r)) in
    rw (q, r) refl

nothing_found : (o : Option Local) (g : ℕ) → of_found o (λ (l : Local) r. None) (resource.Group g) ≡ None
nothing_found None g = refl
nothing_found (Some l) g = refl

no_steps : (p : Code) (c : Context) (root : NameAt) (steps : List NameAt) (g : ℕ) → steps ≡ []
    → of_found (c.local root.name)
    (λ (l : Local). steps_use p c root.at steps (record { form = l.form; held = l.held })) (resource.Group g) ≡ None
no_steps p c root [] g e = nothing_found (c.local root.name) g
no_steps p c root (x ∷ xs) g e = absurd (cc)

-- An expression of the forms that run uses no group.
no_group : (p : Code) (c : Context) (g : ℕ) (a : Expression) → IsBuiltExpression a
    → value_uses p c a (resource.Group g) ≡ None
no_group p c g (Number n at) b = refl
no_group p c g (Truth t at) b = absurd b
no_group p c g (Nothing at) b = absurd b
no_group p c g (Read path) b = no_steps p c path.root path.steps g b.0
no_group p c g (Item path a) b = absurd b
no_group p c g (Length path at) b = absurd b
no_group p c g (Grouped a at) b = no_group p c g a b
no_group p c g (Negated a at) b = absurd b
no_group p c g (Minus a at) b = no_group p c g a b
no_group p c g (Binary op x y) b = rw (no_group p c g x b.1, no_group p c g y b.2) refl

-- ---- what statements do

-- a local gets a value, bytes are added, or the run traps or stops
pub data Effect : Type 0 where
  Binds : ℕ → ℤ → Effect
  Adds : List ℕ → Effect
  Fails : ℕ → Effect
  Halts : Effect

abbrev pub added : List ℕ → TodayState → TodayState
added bytes s = record { env = s.env; log = s.log ++ bytes }

abbrev pub perform : Spot → Effect → TodayState → Run
perform at (Binds x v) s = Went (bound x v s)
perform at (Adds bytes) s = Went (added bytes s)
perform at (Fails code) s = Ends (Trap code at) s.log
perform at Halts s = Stops s.log

abbrev pub doing : TodayOutcome → (ℤ → Effect) → Effect
doing (Fine v) go = go v
doing (Traps code) go = Fails code
doing Lacks go = Halts

abbrev pub effect : Action → Env → Effect
effect (Declares ty x e) env = doing (sought e env) (Binds x.name)
effect (Assigns x e) env = doing (sought e env) (Binds x.name)
effect (Prints e) env = doing (today_value e env) (λ v. Adds (signed_decimal v ++ 10 ∷ []))
effect _ env = Halts

given_performs : (o : TodayOutcome) (at : Spot) (s : TodayState) (go : ℤ → Run) (does : ℤ → Effect)
    → ((v : ℤ) → go v ≡ perform at (does v) s) → today_given o at s go ≡ perform at (doing o does) s
given_performs (Fine v) at s go does h = h v
given_performs (Traps code) at s go does h = refl
given_performs Lacks at s go does h = refl

-- a statement's run is its effect
pub performs : (at : Spot) (a : Action) (s : TodayState) → today_one at a s ≡ perform at (effect a s.env) s
performs at (Declares ty x e) s = right-given e at s (λ v. Went (bound x.name v s))
    ∙ given_performs (sought e s.env) at s (λ v. Went (bound x.name v s)) (Binds x.name) (λ v. refl)
performs at (Assigns x e) s = right-given e at s (λ v. Went (bound x.name v s)) ∙ given_performs (sought e s.env) at s
    (λ v. Went (bound x.name v s)) (Binds x.name) (λ v. refl)
performs at (Stores p e) s = refl
performs at (StoresAt p i e) s = refl
performs at (Calls c) s = refl
performs at (Chooses e n b) s = refl
performs at (ChoosesElse e n b m c) s = refl
performs at (Repeats e n b) s = refl
performs at (Groups g) s = refl
performs at (Splits gs n b) s = refl
performs at (Locks g n b) s = refl
performs at (Freezes x) s = refl
performs at (Shares x g) s = refl
performs at (Prints e) s = given_performs (today_value e s.env) at s (λ v. Went (today_printed v s))
    (λ v. Adds (signed_decimal v ++ 10 ∷ [])) (λ v. refl)
performs at (PrintsText text) s = refl
performs at (Asserts e) s = refl
performs at (Returns e) s = refl

-- what a judged assignment reads is what its expression uses
assign_reads : (p : Code) (c d : Context) (x : NameAt) (e : Expression) → Assigned p c x.name e d
    → of_found (c.local x.name) (λ (l : Local). right_uses p c l.form (Value e)) ≡ value_uses p c e
assign_reads p c d x e j = ap (λ o. of_found o (λ (l : Local). right_uses p c l.form (Value e))) j.found
    ∙ ap (λ t. right_uses p c t (Value e)) j.form

-- the effect of a statement is told by the locals that it reads
action_read : (p : Code) (m : Definition) (at : Spot) (a : Action) (c d : Context) → IsBuiltAction a → Integers c
    → judge_statement p m at a c ≡ Holds d
    → (e f : Env) → SameOn (λ y. is_some (expression_uses p c a (resource.Local y))) e f → effect a e ≡ effect a f
action_read p m at (Declares (ty.Int place) x (Value r)) c d b i j e f h = ap (λ o. doing o (Binds x.name))
    (value_same p c r e f h)
action_read p m at (Declares (ty.Bool place) x r) c d b i j e f h = absurd b.0
action_read p m at (Declares (ty.Object q z) x r) c d b i j e f h = absurd b.0
action_read p m at (Declares (ty.Int z) x (Taken path place)) c d b i j e f h = absurd b.1
action_read p m at (Declares (ty.Int z) x (Zeros r place)) c d b i j e f h = absurd b.1
action_read p m at (Declares (ty.Int z) x (Made q gs args place)) c d b i j e f h = absurd b.1
action_read p m at (Declares (ty.Int z) x (Returned q)) c d b i j e f h = absurd b.1
action_read p m at (Assigns x (Value r)) c d b i j e f h =
    let u = assign_reads p c d x r (assign_is p c d i x r j) in
    ap (λ o. doing o (Binds x.name))
    (value_same p c r e f (λ y t. h y (ap (λ (v : Uses). is_some (v (resource.Local y))) u ∙ t)))
action_read p m at (Assigns x (Taken path place)) c d b i j e f h = absurd b
action_read p m at (Assigns x (Zeros r place)) c d b i j e f h = absurd b
action_read p m at (Assigns x (Made q gs args place)) c d b i j e f h = absurd b
action_read p m at (Assigns x (Returned q)) c d b i j e f h = absurd b
action_read p m at (Prints a) c d b i j e f h = ap (λ o. doing o (λ v. Adds (signed_decimal v ++ 10 ∷ [])))
    (value_same p c a e f h)
action_read p m at (Stores path a) c d b i j e f h = absurd b
action_read p m at (StoresAt path z a) c d b i j e f h = absurd b
action_read p m at (Calls q) c d b i j e f h = absurd b
action_read p m at (Chooses a n l) c d b i j e f h = absurd b
action_read p m at (ChoosesElse a n l k q) c d b i j e f h = absurd b
action_read p m at (Repeats a n l) c d b i j e f h = absurd b
action_read p m at (Groups g) c d b i j e f h = absurd b
action_read p m at (Splits gs n l) c d b i j e f h = absurd b
action_read p m at (Locks g n l) c d b i j e f h = absurd b
action_read p m at (Freezes x) c d b i j e f h = absurd b
action_read p m at (Shares x g) c d b i j e f h = absurd b
action_read p m at (PrintsText text) c d b i j e f h = absurd b
action_read p m at (Asserts a) c d b i j e f h = absurd b
action_read p m at (Returns a) c d b i j e f h = absurd b

-- The effect of a judged statement is told by the locals that it reads.
pub effect_read : (p : Code) (m : Definition) (x : Statement) → IsJudged p m x → (e f : Env)
    → SameOn (λ y. is_some (expression_uses p x.context x.action (resource.Local y))) e f
    → effect x.action e ≡ effect x.action f
effect_read p m x j e f h = action_read p m x.at x.action x.context j.later j.built j.integers j.holds e f h

-- what a statement reads it uses
read_is_used : (p : Code) (m : Definition) (a : Action) (c : Context) (at : Spot) (y : ℕ)
    → IsSome (expression_uses p c a (resource.Local y))
    → IsSome (uses_at p m (record { at = at; action = a; context = c }) (resource.Local y))
read_is_used p m (Declares ty x r) c at y t = used_right (write_use x.name (resource.Local y)) _ t
read_is_used p m (Assigns x r) c at y t = used_right (write_use x.name (resource.Local y)) _ t
read_is_used p m (Prints a) c at y t = used_left (value_uses p c a (resource.Local y)) None t
read_is_used p m (Stores path a) c at y t = absurd (cc)
read_is_used p m (StoresAt path i a) c at y t = absurd (cc)
read_is_used p m (Calls q) c at y t = absurd (cc)
read_is_used p m (Chooses a n b) c at y t = absurd (cc)
read_is_used p m (ChoosesElse a n b k d) c at y t = absurd (cc)
read_is_used p m (Repeats a n b) c at y t = absurd (cc)
read_is_used p m (Groups g) c at y t = absurd (cc)
read_is_used p m (Splits gs n b) c at y t = absurd (cc)
read_is_used p m (Locks g n b) c at y t = absurd (cc)
read_is_used p m (Freezes x) c at y t = absurd (cc)
read_is_used p m (Shares x g) c at y t = absurd (cc)
read_is_used p m (PrintsText text) c at y t = absurd (cc)
read_is_used p m (Asserts a) c at y t = absurd (cc)
read_is_used p m (Returns a) c at y t = absurd (cc)

-- The effect of a judged statement is told by the locals that it uses.
pub effect_same : (p : Code) (m : Definition) (x : Statement) → IsJudged p m x → (e f : Env)
    → SameOn (λ y. is_some (uses_at p m x (resource.Local y))) e f → effect x.action e ≡ effect x.action f
effect_same p m x j e f h = effect_read p m x j e f
    (λ y r. h y (read_is_used p m x.action x.context x.at y r))

-- an effect that uses allow
abbrev pub Allowed : Uses → Effect → Type 0
Allowed u (Binds x v) = u (resource.Local x) ≡ Some mode.Write
Allowed u (Adds bytes) = u (resource.Group io) ≡ Some mode.GroupWhole
Allowed u (Fails code) = Unit {0}
Allowed u Halts = Unit {0}

doing_allowed : (u : Uses) (o : TodayOutcome) (does : ℤ → Effect) → ((v : ℤ) → Allowed u (does v))
    → Allowed u (doing o does)
doing_allowed u (Fine v) does h = h v
doing_allowed u (Traps code) does h = tt
doing_allowed u Lacks does h = tt

write_first : (o : Option Mode) → stronger (Some mode.Write) o ≡ Some mode.Write
write_first None = refl
write_first (Some m) = refl

written : (x : ℕ) (o : Option Mode) → stronger (write_use x (resource.Local x)) o ≡ Some mode.Write
written x o = ap (λ (b : Bool). stronger (if b then Some mode.Write else None) o) (number_is_itself x) ∙ write_first o

action_allowed : (p : Code) (m : Definition) (at : Spot) (a : Action) (c : Context) → IsBuiltAction a → (env : Env)
    → Allowed (uses_at p m (record { at = at; action = a; context = c })) (effect a env)
action_allowed p m at (Declares ty x e) c b env = doing_allowed (statement_uses p m (Declares ty x e) c)
    (sought e env) (Binds x.name)
    (λ v. written x.name (right_uses p c (form ty) e (resource.Local x.name)))
action_allowed p m at (Assigns x e) c b env = doing_allowed (statement_uses p m (Assigns x e) c) (sought e env)
    (Binds x.name)
    (λ v. written x.name (expression_uses p c (Assigns x e) (resource.Local x.name)))
action_allowed p m at (Prints e) c b env = doing_allowed (statement_uses p m (Prints e) c) (today_value e env)
    (λ v. Adds (signed_decimal v ++ 10 ∷ []))
    (λ v. ap (λ o. stronger o (Some mode.GroupWhole)) (no_group p c io e b))
action_allowed p m at (Stores path e) c b env = absurd b
action_allowed p m at (StoresAt path i e) c b env = absurd b
action_allowed p m at (Calls q) c b env = absurd b
action_allowed p m at (Chooses e n l) c b env = absurd b
action_allowed p m at (ChoosesElse e n l k d) c b env = absurd b
action_allowed p m at (Repeats e n l) c b env = absurd b
action_allowed p m at (Groups g) c b env = absurd b
action_allowed p m at (Splits gs n l) c b env = absurd b
action_allowed p m at (Locks g n l) c b env = absurd b
action_allowed p m at (Freezes x) c b env = absurd b
action_allowed p m at (Shares x g) c b env = absurd b
action_allowed p m at (PrintsText text) c b env = absurd b
action_allowed p m at (Asserts e) c b env = absurd b
action_allowed p m at (Returns e) c b env = absurd b

-- The uses of a judged statement allow its effect.
pub allowed : (p : Code) (m : Definition) (x : Statement) → IsJudged p m x → (env : Env)
    → Allowed (uses_at p m x) (effect x.action env)
allowed p m x j env = action_allowed p m x.at x.action x.context j.built env
