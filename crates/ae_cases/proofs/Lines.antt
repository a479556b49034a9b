-- Statements that run today come to the same by both meanings.
use Rattle.std.proofs.Common.{◌≡◌, ℕ, suc, ℤ, Bool, true, false, if◌then◌else◌, nat_eq, List, [], ◌∷◌, ◌++◌, Option}
use Rattle.std.proofs.Common.{None, Some, refl, ap, sym, ◌∙◌, subst, append-nil, append_assoc}
use Rattle.std.specs.Prelude.{option_map}
use Rattle.std.specs.Fmt.{signed_decimal}
use Rattle.ae_text.specs.declared.refusal.Spot.{Spot}
use Rattle.ae_tree.specs.declared.tree.Ty.TheVariants as ty
use Rattle.ae_tree.specs.declared.form.Form.TheVariants as form_of
use Rattle.ae_tree.specs.Plain.{Code, Expression, Value, Taken, Zeros, Made, Returned, Lines, End, Next}
use Rattle.ae_tree.specs.Plain.{Action, Declares, Assigns, Stores, StoresAt, Calls, Chooses, ChoosesElse, Repeats}
use Rattle.ae_tree.specs.Plain.{Groups, Splits, Locks, Freezes, Shares, Prints, PrintsText, Asserts, Returns}
use Rattle.ae_tree.specs.Built.{IsBuiltExpression, IsBuiltAction, AreBuilt}
use Rattle.ae_rules.specs.Verdict.{Holds}
use Rattle.ae_rules.specs.Context.{Local, Context, held_of, with_local as declared}
use Rattle.ae_rules.specs.Statements.{judge_statement, judge_lines}
use Rattle.ae_rules.specs.Blocks.{Scene}
use Rattle.ae_meaning.specs.Values as today_values
use Rattle.ae_meaning.specs.Meaning as today
use Rattle.ae_meaning.specs.Judged.{Integers}
use Rattle.ae_semantics.specs.Values.{Val, OfInt}
use Rattle.ae_semantics.specs.Places.{Outcome, Fine, ◌>>=◌, Bound, State, with_bound}
use Rattle.ae_semantics.specs.Expressions.{value}
use Rattle.ae_semantics.specs.Contexts.{or_before}
use Rattle.ae_semantics.specs.declared.report.Piece.{Piece}
use Rattle.ae_semantics.specs.Observations.{Seen, Ran, Notes}
use Rattle.ae_semantics.specs.Runs.{Run, Went, Ends, Stops, Act, and_then, outcome_given, marked, logged, Where}
use Rattle.ae_semantics.specs.Runs.{deeper, knowing, Below}
use Rattle.ae_semantics.specs.Calls.{without_moved}
use Rattle.ae_semantics.specs.Meaning.{assigned, sets, assigns, printed_value, prints_piece, left, right_moved, one}
use Rattle.ae_semantics.specs.Meaning.{many}
use Rattle.ae_semantics.specs.Equations.{one-Declares, one-Assigns, one-Prints, many-End, many-Next}
use Rattle.ae_semantics.specs.Means.{source_machine, pieces_bytes}
use Rattle.ae_cases.specs.Laws.{as_whole}
use Rattle.ae_cases.proofs.from_meaning.Judged.{integers-declared, integers-held, let_is, Assigned, assign_is, print_is}
use Rattle.ae_cases.proofs.Values.{held, outcome, SameLocals, same_value}
use Rattle.ae_cases.proofs.from_rules.PathLemmas.{first_holds}

-- ---- runs that are alike

-- the bytes are those of today, and `io` is not split
pub record Told {W : Type 0} (bytes : List ℕ) (n : Notes W) : Type 0 where
  pub log : pieces_bytes n.log ≡ bytes
  pub unsplit : n.cell ≡ None

-- both runs went through, or ended alike, or both stopped
abbrev pub AlikeRuns : {W : Type 0} → today.Run → Run W → Type 0
AlikeRuns (today.Went t) (Went s n) = Told t.log n
AlikeRuns (today.Went t) (Ends e n) = ⊥
AlikeRuns (today.Went t) (Stops n) = ⊥
AlikeRuns (today.Ends e log) (Went s n) = ⊥
AlikeRuns (today.Ends e log) (Ends f n) = (f ≡ as_whole e) × Told log n
AlikeRuns (today.Ends e log) (Stops n) = ⊥
AlikeRuns (today.Stops log) (Went s n) = ⊥
AlikeRuns (today.Stops log) (Ends f n) = ⊥
AlikeRuns (today.Stops log) (Stops n) = Told log n

alike_given : {A W : Type 0} (o : today_values.TodayOutcome) (q : Outcome Val) → q ≡ outcome o
    → (f : Val → Outcome A) (at : Spot) (t : today.TodayState) (n : Notes W) → Told t.log n
    → (go : ℤ → today.Run) (ho : A → Run W) (rest : today.TodayState → today.Run) (more : Act W)
    → ((v : ℤ) → AlikeRuns (today.today_and_then (go v) rest) (and_then (outcome_given (f (OfInt v)) at n ho) more))
    → AlikeRuns (today.today_and_then (today.today_given o at t go) rest)
    (and_then (outcome_given (q >>= f) at n ho) more)
alike_given (today_values.Fine v) q e f at t n k go ho rest more a = rw e (a v)
alike_given (today_values.Traps code) q e f at t n k go ho rest more a = rw e (refl, k)
alike_given today_values.Lacks q e f at t n k go ho rest more a = rw e k

pub alike_left : {W : Type 0} (b : Context) (r : today.Run) (q : Run W) → AlikeRuns r q → AlikeRuns r (left b q)
alike_left b (today.Went t) (Went s n) a = a
alike_left b (today.Went t) (Ends e n) a = a
alike_left b (today.Went t) (Stops n) a = a
alike_left b (today.Ends e log) (Went s n) a = a
alike_left b (today.Ends e log) (Ends f n) a = a
alike_left b (today.Ends e log) (Stops n) a = a
alike_left b (today.Stops log) (Went s n) a = a
alike_left b (today.Stops log) (Ends f n) a = a
alike_left b (today.Stops log) (Stops n) a = a

-- ---- states that are alike

bytes-push : (xs : List Piece) (x : Piece) → pieces_bytes (xs ++ (x ∷ [])) ≡ pieces_bytes xs ++ x.bytes
bytes-push [] x = append-nil x.bytes
bytes-push (y ∷ ys) x = ap (λ (l : List ℕ). y.bytes ++ l) (bytes-push ys x)
    ∙ sym (append_assoc y.bytes (pieces_bytes ys) x.bytes)

told_more : {W : Type 0} (log : List ℕ) (n : Notes W) (x : Piece) → Told log n
    → Told (log ++ x.bytes) (logged (x ∷ []) n)
told_more log n x k = record { log = bytes-push n.log x ∙ ap (λ (l : List ℕ). l ++ x.bytes) k.log; unsplit = k.unsplit }

bound_choice : (b : Bool) (v : ℤ) (o : Option Bound) (q : Option ℤ) → o ≡ option_map held q
    → (if b then Some (held v) else o) ≡ option_map held (if b then Some v else q)
bound_choice true v o q e = refl
bound_choice false v o q e = e

-- a local gets an integer in both
same-bound : (x : ℕ) (v : ℤ) (t : today.TodayState) (s : State) → SameLocals t.env s
    → SameLocals (today.bound x v t).env (with_bound x (Some (held v)) s)
same-bound x v t s l = λ y. bound_choice (nat_eq x y) v (s.locals y) (t.env y) (l y)

-- ---- statements

-- what follows from states that are alike
abbrev AlikeRests : {W : Type 0} → (today.TodayState → today.Run) → Act W → Type 0
AlikeRests rest more = (t : today.TodayState) (s : State) (n : Notes _) → SameLocals t.env s → Told t.log n
    → AlikeRuns (rest t) (more s n)

-- an integer goes to a local
set_alike : (p : Code) (b : Option (Below (List Seen))) (here : Where) (at : Spot) (x : ℕ) (e : Expression)
    → IsBuiltExpression e
    → (t : today.TodayState) (s : State) (n : Notes (List Seen)) → SameLocals t.env s → Told t.log n
    → (rest : today.TodayState → today.Run) (more : Act (List Seen))
    → ((v : ℤ) → AlikeRuns (rest (today.bound x v t)) (more (with_bound x (Some (held v)) s) n))
    → AlikeRuns (today.today_and_then
    (today.today_given (today_values.today_value e t.env) at t (λ v. today.Went (today.bound x v t))) rest)
    (and_then (sets (source_machine p) b here at x form_of.Int (Value e) s n) more)
set_alike p b here at x e d t s n l k rest more a = alike_given (today_values.today_value e t.env) (value p s e)
    (same_value p t.env s l e d)
    (λ v. Fine (v, s)) at t n k (λ v. today.Went (today.bound x v t))
    (λ r. assigned at x form_of.Int r.0 (without_moved (right_moved p form_of.Int (Value e)) r.1) n) rest more a

assign_alike : (p : Code) (b : Option (Below (List Seen))) (here : Where) (at : Spot) (x : ℕ) (e : Expression)
    → IsBuiltExpression e → (l : Local) → here.context.local x ≡ Some l → l.form ≡ form_of.Int
    → (t : today.TodayState) (s : State) (n : Notes (List Seen)) → SameLocals t.env s → Told t.log n
    → (rest : today.TodayState → today.Run) (more : Act (List Seen))
    → ((v : ℤ) → AlikeRuns (rest (today.bound x v t)) (more (with_bound x (Some (held v)) s) n))
    → AlikeRuns (today.today_and_then
    (today.today_given (today_values.today_value e t.env) at t (λ v. today.Went (today.bound x v t))) rest)
    (and_then (assigns (source_machine p) b here at x (Value e) s n) more)
assign_alike p b here at x e d c i j t s n l k rest more a = rw (i, j)
    (set_alike p b here at x e d t s n l k rest more a)

print_alike : (p : Code) (here : Where) (at : Spot) (e : Expression) → IsBuiltExpression e
    → (t : today.TodayState) (s : State) (n : Notes (List Seen)) → SameLocals t.env s → Told t.log n
    → (rest : today.TodayState → today.Run) (more : Act (List Seen))
    → ((v : ℤ) (m : Notes (List Seen)) → Told (today.today_printed v t).log m
    → AlikeRuns (rest (today.today_printed v t)) (more s m))
    → AlikeRuns (today.today_and_then
    (today.today_given (today_values.today_value e t.env) at t (λ v. today.Went (today.today_printed v t))) rest)
    (and_then (outcome_given (value p s e >>= printed_value) at n (λ bytes. prints_piece here bytes s n)) more)
print_alike p here at e d t s n l k rest more a = alike_given (today_values.today_value e t.env) (value p s e)
    (same_value p t.env s l e d)
    printed_value at t n k (λ v. today.Went (today.today_printed v t)) (λ bytes. prints_piece here bytes s n) rest more
    (λ v. a v _ (told_more t.log n (record { path = here.path; bytes = signed_decimal v ++ (10 ∷ []) }) k))

-- a statement that runs today and is judged, before what follows
action_alike : (p : Code) (b : Option (Below (List Seen))) (here : Where) (at : Spot) (x : Action) → IsBuiltAction x
    → Integers here.context
    → (later : Context) → judge_statement p here.method at x here.context ≡ Holds later
    → (t : today.TodayState) (s : State) (n : Notes (List Seen)) → SameLocals t.env s → Told t.log n
    → (rest : today.TodayState → today.Run) (more : Act (List Seen)) → (Integers later → AlikeRests rest more)
    → AlikeRuns (today.today_and_then (today.today_one at x t) rest)
    (and_then (one (source_machine p) b here at x s n) more)
action_alike p b here at (Declares (ty.Int place) x (Value e)) d i c h t s n l k rest more a =
    let after_it : c ≡ declared x.name form_of.Int here.context = (let_is p here.context c place x e h).0 in
    let known : Integers c = subst Integers (sym after_it) (integers-declared here.context x.name i) in
    rw (one-Declares (source_machine p) b here at (ty.Int place) x (Value e) s n)
    (set_alike p b here at x.name e d.1 t s n l k rest more (λ v. a known
    (today.bound x.name v t) (with_bound x.name (Some (held v)) s) n (same-bound x.name v t s l) k))
action_alike p b here at (Declares (ty.Bool place) x e) d i c h t s n l k rest more a = absurd d.0
action_alike p b here at (Declares (ty.Object q z) x e) d i c h t s n l k rest more a = absurd d.0
action_alike p b here at (Declares (ty.Int z) x (Taken path place)) d i c h t s n l k rest more a = absurd d.1
action_alike p b here at (Declares (ty.Int z) x (Zeros e place)) d i c h t s n l k rest more a = absurd d.1
action_alike p b here at (Declares (ty.Int z) x (Made q gs args place)) d i c h t s n l k rest more a = absurd d.1
action_alike p b here at (Declares (ty.Int z) x (Returned q)) d i c h t s n l k rest more a = absurd d.1
action_alike p b here at (Assigns x (Value e)) d i c h t s n l k rest more a =
    let j : Assigned p here.context x.name e c = assign_is p here.context c i x e h in
    let known : Integers c = subst Integers (sym j.after)
    (integers-held here.context x.name (held_of j.local.form) i) in
    rw (one-Assigns (source_machine p) b here at x (Value e) s n)
    (assign_alike p b here at x.name e d j.local j.found j.form t s n l k rest more (λ v. a known
    (today.bound x.name v t) (with_bound x.name (Some (held v)) s) n (same-bound x.name v t s l) k))
action_alike p b here at (Assigns x (Taken path place)) d i c h t s n l k rest more a = absurd d
action_alike p b here at (Assigns x (Zeros e place)) d i c h t s n l k rest more a = absurd d
action_alike p b here at (Assigns x (Made q gs args place)) d i c h t s n l k rest more a = absurd d
action_alike p b here at (Assigns x (Returned q)) d i c h t s n l k rest more a = absurd d
action_alike p b here at (Prints e) d i c h t s n l k rest more a =
    rw (one-Prints (source_machine p) b here at e s n)
    (print_alike p here at e d t s n l k rest more
    (λ v m w. a (subst Integers (sym (print_is p here.context c at e h).0) i) (today.today_printed v t) s m l w))
action_alike p b here at (Stores path e) d i c h t s n l k rest more a = absurd d
action_alike p b here at (StoresAt path z e) d i c h t s n l k rest more a = absurd d
action_alike p b here at (Calls q) d i c h t s n l k rest more a = absurd d
action_alike p b here at (Chooses e z x) d i c h t s n l k rest more a = absurd d
action_alike p b here at (ChoosesElse e z x w y) d i c h t s n l k rest more a = absurd d
action_alike p b here at (Repeats e z x) d i c h t s n l k rest more a = absurd d
action_alike p b here at (Groups g) d i c h t s n l k rest more a = absurd d
action_alike p b here at (Splits gs z x) d i c h t s n l k rest more a = absurd d
action_alike p b here at (Locks g z x) d i c h t s n l k rest more a = absurd d
action_alike p b here at (Freezes x) d i c h t s n l k rest more a = absurd d
action_alike p b here at (Shares x g) d i c h t s n l k rest more a = absurd d
action_alike p b here at (PrintsText text) d i c h t s n l k rest more a = absurd d
action_alike p b here at (Asserts e) d i c h t s n l k rest more a = absurd d
action_alike p b here at (Returns e) d i c h t s n l k rest more a = absurd d

-- statements that run today and are judged
pub lines_alike : (p : Code) (b : Option (Below (List Seen))) (here : Where) (all : Scene) (j : ℕ) (x : Lines)
    → AreBuilt x → Integers here.context
    → (last : Context) → judge_lines p here.method x here.context ≡ Holds last
    → (t : today.TodayState) (s : State) (n : Notes (List Seen)) → SameLocals t.env s → Told t.log n
    → AlikeRuns (today.today_many x t) (many (source_machine p) b here all j x [] s n)
lines_alike p b here all j End d i c h t s n l k = rw (many-End (source_machine p) b here all j [] s n) k
lines_alike p b here all j (Next at x rest) d i c h t s n l k =
    let first = first_holds (judge_statement p here.method at x here.context) (judge_lines p here.method rest) c h in
    rw (many-Next (source_machine p) b here all j at x rest [] s n)
    (rw (ap (λ v. or_before v here.context) first.1)
    (action_alike p b (deeper j here) at x d.0 i first.0 first.1 t s (marked (Ran (deeper j here).path at) n) l
    (record { log = k.log; unsplit = k.unsplit })
    (today.today_many rest) (many (source_machine p) b (knowing first.0 here) all (suc j) rest [])
    (λ known u v m same told. lines_alike p b (knowing first.0 here) all (suc j) rest d.1 known c first.2 u v m same
    told)))
