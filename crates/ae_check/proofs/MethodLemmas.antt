-- What a method knows at its start, and how it ends.
use Rattle.std.proofs.Common.{◌≡◌, ◌<◌, ◌+◌, ◌-◌, ℕ, nat_eq, Bool, true, false, ◌||◌, if◌then◌else◌, List, [], ◌∷◌}
use Rattle.std.proofs.Common.{subst, Result, Ok, Err}
use Rattle.std.proofs.Common.{drop, get_or, length, Option, None, Some, refl, sym, ap, ◌∙◌, arith}
use mathlib.Core.Path.{fun_ext}
use Rattle.std.specs.Option.{is_some, option_map}
use Rattle.std.specs.List.{slice_get}
use Rattle.std.proofs.lemmas.List.{drop_more}
use Rattle.std.proofs.lemmas.Bool.Decides.{nat_tests}
use Rattle.std.specs.Prelude.{⊤}
use Rattle.std.specs.Result.{IsErrAnd}
use Rattle.ae_text.specs.declared.refusal.Deny.{Deny}
use Rattle.ae_tree.specs.declared.tree.NameAt.{NameAt}
use Rattle.ae_tree.specs.declared.tree.Me.{Me}
use Rattle.ae_tree.specs.declared.tree.Stmt.{Stmt}
use Rattle.ae_tree.specs.Shown.{action, lines_from}
use Rattle.ae_tree.specs.declared.tree.Param.{Param}
use Rattle.ae_tree.specs.declared.tree.GroupNeed.{GroupNeed}
use Rattle.ae_tree.specs.declared.form.Form.{Form}
use Rattle.ae_tree.specs.Form.{form, bare_names}
use Rattle.ae_tree.specs.Names.{io, this}
use Rattle.ae_tree.specs.Plain.{Definition, Code}
use Rattle.ae_rules.specs.declared.held.GroupPerm.{GroupPerm}
use Rattle.ae_rules.specs.Answers.{Answers, done}
use Rattle.ae_rules.specs.Verdict.{Verdict, Holds, Broken, ◌>>=◌, ◌>>◌, fine, given}
use Rattle.ae_rules.specs.Statements.{judge_lines, end_block}
use Rattle.ae_rules.specs.Lookups.{has_name, groups_of, own_kind}
use Rattle.ae_rules.specs.Context.{Local, Context, held_of}
use Rattle.ae_rules.specs.Judges.{start, me_local, param_local, param_called, does_stay, is_return, returns}
use Rattle.ae_rules.specs.Judges.{end_method, judge_method}
use Rattle.ae_scope.specs.Scope.{nothing_known, with_parameter, with_known}
use Rattle.ae_groups.specs.Contexts.{needed, no_groups}
use Rattle.ae_check.specs.Methods.{with_groups_needed, with_params, with_me, whole_verdict}
use Rattle.ae_check.proofs.from_text.Basics.{first_of_neither}
use Rattle.ae_check.proofs.from_groups.PermLemmas.{known_at_start}
use Rattle.ae_check.proofs.from_scope.ContextLemmas.{same_context}

-- ---- groups

-- one group, and then the others
first_known : (ns : List GroupNeed) (x : ℕ) (xs : List ℕ) (c : Context)
    → with_groups_needed ns (x ∷ xs) c ≡ with_groups_needed ns xs (with_known x (needed ns x) c)
first_known ns x xs c = same_context (with_groups_needed ns (x ∷ xs) c)
    (with_groups_needed ns xs (with_known x (needed ns x) c)) refl
    (fun_ext (λ g. by_name g (nat_eq x g) refl (has_name xs g)))
  where
    by_name : (g : ℕ) (b : Bool) → nat_eq x g ≡ b → (d : Bool)
        → (if b || d then Some (needed ns g) else c.group g)
        ≡ (if d then Some (needed ns g) else if b then Some (needed ns x) else c.group g)
    by_name g true e true = refl
    by_name g true e false = let i : x ≡ g = grind (arith, nat_tests, e) in ap (λ (z : ℕ). Some (needed ns z)) (sym i)
    by_name g false e true = refl
    by_name g false e false = refl

-- one group more is known
pub next_known : (ns : List GroupNeed) (xs : List NameAt) (i : ℕ) (x : NameAt) (q : GroupPerm) (c0 c d : Context)
    → i < length xs → with_groups_needed ns (bare_names xs) c0 ≡ with_groups_needed ns (bare_names (drop i xs)) c
    → q ≡ needed ns (get_or xs i x).name → d ≡ with_known (get_or xs i x).name q c
    → with_groups_needed ns (bare_names xs) c0 ≡ with_groups_needed ns (bare_names (drop (i + 1) xs)) d
next_known ns xs i x q c0 c d l r e s =
    let y = get_or xs i x in
    r ∙ ap (λ (ys : List NameAt). with_groups_needed ns (bare_names ys) c) (drop_more xs i x l)
    ∙ first_known ns y.name (bare_names (drop (i + 1) xs)) c
    ∙ ap (with_groups_needed ns (bare_names (drop (i + 1) xs)))
    (sym (s ∙ ap (λ (k : GroupPerm). with_known y.name k c) e))

-- ---- parameters

abbrev no_local : Option Local
no_local = None

-- one parameter, and then the others
first_added : (x : Param) (xs : List Param) (c : Context)
    → with_params (x ∷ xs) c ≡ with_params xs (with_params (x ∷ []) c)
first_added x xs c = same_context (with_params (x ∷ xs) c) (with_params xs (with_params (x ∷ []) c))
    (fun_ext (λ y. by_local y (c.local y) (nat_eq this y) (nat_eq x.name.name y))) refl
  where
    by_local : (y : ℕ) (o : Option Local) (b d : Bool)
        → given o (if b then None else option_map param_local (if d then Some x else param_called xs y))
        (λ (l : Local). Some l)
        ≡ given (given o (if b then None else option_map param_local (if d then Some x else None))
        (λ (l : Local). Some l)) (if b then None else option_map param_local (param_called xs y))
        (λ (l : Local). Some l)
    by_local y (Some l) b d = refl
    by_local y None true d = refl
    by_local y None false true = refl
    by_local y None false false = refl

-- one parameter more is visible
pub next_added : (xs : List Param) (i : ℕ) (x : Param) (c0 c d : Context) → i < length xs → x ≡ get_or xs i x
    → with_params xs c0 ≡ with_params (drop i xs) c → with_params (x ∷ []) c ≡ d
    → with_params xs c0 ≡ with_params (drop (i + 1) xs) d
next_added xs i x c0 c d l e r s =
    r ∙ ap (λ (ys : List Param). with_params ys c) (drop_more xs i x l
    ∙ ap (λ (y : Param). y ∷ drop (i + 1) xs) (sym e))
    ∙ first_added x (drop (i + 1) xs) c
    ∙ ap (with_params (drop (i + 1) xs)) s

as_it_was : (o : Option Local) → given o None (λ (l : Local). Some l) ≡ o
as_it_was None = refl
as_it_was (Some l) = refl

-- no parameter more
pub none_added : (c : Context) → with_params [] c ≡ c
none_added c = same_context (with_params [] c) c (fun_ext (λ y. by_name y (nat_eq this y))) refl
  where
    by_name : (y : ℕ) (b : Bool) → given (c.local y) (if b then None else None) (λ (l : Local). Some l) ≡ c.local y
    by_name y true = as_it_was (c.local y)
    by_name y false = as_it_was (c.local y)

-- a parameter whose name is that of the receiver, or of a local, adds nothing
pub nothing_is_added : (x : Param) (c : Context) → (nat_eq x.name.name this || is_some (c.local x.name.name)) ≡ true
    → with_params (x ∷ []) c ≡ c
nothing_is_added x c h = same_context (with_params (x ∷ []) c) c
    (fun_ext (λ y. by_name y (nat_eq this y) refl (nat_eq x.name.name y) refl (c.local y) refl)) refl
  where
    by_name : (y : ℕ) (b : Bool) → nat_eq this y ≡ b → (d : Bool) → nat_eq x.name.name y ≡ d → (o : Option Local)
        → c.local y ≡ o → given o (if b then None else option_map param_local (if d then Some x else None))
        (λ (l : Local). Some l) ≡ o
    by_name y b e d f (Some l) g = refl
    by_name y true e d f None g = refl
    by_name y false e false f None g = refl
    by_name y false e true f None g =
        let i : x.name.name ≡ y = grind (arith, nat_tests, f) in
        let j : nat_eq x.name.name this ≡ false = ap (λ (z : ℕ). nat_eq z this) i ∙ grind (arith, nat_tests, e) in
        let k : is_some (c.local x.name.name) ≡ false = ap (λ (z : ℕ). is_some (c.local z)) i ∙ ap is_some g in
        absurd (let m : true ≡ false = sym h ∙ ap (λ (q : Bool). q || is_some (c.local x.name.name)) j ∙ k in cc)

abbrev one_local : Form → Bool → Local
one_local f stays = record { form = f; held = held_of f; stays = stays }

-- what is not taken is no local
pub is_new_so : (b : Bool) (o : Option Local) → (b || is_some o) ≡ false → o ≡ None
is_new_so true o e = absurd (cc)
is_new_so false None e = refl
is_new_so false (Some l) e = absurd (cc)

-- a parameter whose name is new is added
pub one_is_added : (x : Param) (f : Form) (stays : Bool) (c : Context)
    → (nat_eq x.name.name this || is_some (c.local x.name.name)) ≡ false → f ≡ form x.ty
    → stays ≡ does_stay f x.away → with_params (x ∷ []) c ≡ with_parameter x.name.name f stays c
one_is_added x f stays c w i s = same_context (with_params (x ∷ []) c) (with_parameter x.name.name f stays c)
    (fun_ext (λ y. by_name y (nat_eq this y) refl (nat_eq x.name.name y) refl (c.local y) refl)) refl
  where
    h : nat_eq x.name.name this ≡ false
    h = first_of_neither (nat_eq x.name.name this) (is_some (c.local x.name.name)) w

    n : c.local x.name.name ≡ None
    n = is_new_so (nat_eq x.name.name this) (c.local x.name.name) w

    this_one : param_local x ≡ one_local f stays
    this_one = sym (ap (one_local f) s ∙ ap (λ (g : Form). one_local g (does_stay g x.away)) i)

    by_name : (y : ℕ) (b : Bool) → nat_eq this y ≡ b → (d : Bool) → nat_eq x.name.name y ≡ d → (o : Option Local)
        → c.local y ≡ o → given o (if b then None else option_map param_local (if d then Some x else None))
        (λ (l : Local). Some l) ≡ (if d then Some (one_local f stays) else o)
    by_name y b e false k (Some l) g = refl
    by_name y b e true k (Some l) g =
        let j : x.name.name ≡ y = grind (arith, nat_tests, k) in
        absurd (let m : None ≡ Some l = sym n ∙ ap c.local j ∙ g in cc)
    by_name y true e false k None g = refl
    by_name y true e true k None g =
        let j : x.name.name ≡ y = grind (arith, nat_tests, k) in
        absurd (let m : true ≡ false = sym (ap (λ (z : ℕ). nat_eq z this) j ∙ grind (arith, nat_tests, e)) ∙ h in cc)
    by_name y false e false k None g = refl
    by_name y false e true k None g = ap Some this_one

-- ---- the start

started : (p : Code) (m : Definition)
    → with_params m.params (with_me p m (with_groups_needed m.needs (bare_names m.groups)
    (with_groups_needed m.needs (groups_of (own_kind p m.class)) (with_known io (needed m.needs io) nothing_known))))
    ≡ start p m
started p m = same_context
    (with_params m.params (with_me p m (with_groups_needed m.needs (bare_names m.groups)
    (with_groups_needed m.needs (groups_of (own_kind p m.class)) (with_known io (needed m.needs io) nothing_known)))))
    (start p m) (fun_ext (λ y. by_local (nat_eq this y) m.me (option_map param_local (param_called m.params y))))
    (known_at_start p m no_groups _ _ _ refl refl refl refl)
  where
    by_local : (b : Bool) (o : Option Me) (k : Option Local)
        → given (if b then option_map (me_local p m) o else None) (if b then None else k) (λ (l : Local). Some l)
        ≡ (if b then option_map (me_local p m) o else k)
    by_local true None k = refl
    by_local true (Some me) k = refl
    by_local false o k = refl

-- what is known, step by step, is what is known at the start
pub starts_so : (p : Code) (m : Definition) (c0 c1 c2 c3 c4 c5 : Context) → c0 ≡ nothing_known
    → c1 ≡ with_known io (needed m.needs io) c0 → c2 ≡ with_groups_needed m.needs (groups_of (own_kind p m.class)) c1
    → c3 ≡ with_groups_needed m.needs (bare_names m.groups) c2 → c4 ≡ with_me p m c3 → with_params m.params c4 ≡ c5
    → start p m ≡ c5
starts_so p m c0 c1 c2 c3 c4 c5 e0 e1 e2 e3 e4 e5 =
    sym (started p m)
    ∙ ap (with_params m.params) (sym (e4 ∙ ap (with_me p m) (e3 ∙ ap (with_groups_needed m.needs (bare_names m.groups))
    (e2 ∙ ap (with_groups_needed m.needs (groups_of (own_kind p m.class)))
    (e1 ∙ ap (with_known io (needed m.needs io)) e0)))))
    ∙ e5

-- ---- the end

-- the last of the lines decides whether they return
by_last : (x : Stmt) (ys : List Stmt) (o : Option Stmt) → slice_get (x ∷ ys) (length ys) ≡ o
    → returns (lines_from (x ∷ ys)) ≡ given o false (λ (s : Stmt). is_return (action s.kind))
by_last x [] o e = ap (λ (k : Option Stmt). given k false (λ (s : Stmt). is_return (action s.kind))) e
by_last x (y ∷ ys) o e = by_last y ys o e

pub last_line_returns : (xs : List Stmt) (o : Option Stmt) → slice_get xs (length xs - 1) ≡ o
    → returns (lines_from xs) ≡ given o false (λ (s : Stmt). is_return (action s.kind))
last_line_returns [] o e = ap (λ (k : Option Stmt). given k false (λ (s : Stmt). is_return (action s.kind))) e
last_line_returns (x ∷ ys) o e =
    let k : length ys ≡ length (x ∷ ys) - 1 = omega arith in
    by_last x ys o (ap (slice_get (x ∷ ys)) k ∙ e)

-- ---- what is found

-- at a method's start no receiver is visible before it is added
pub no_receiver_yet : (ns : List GroupNeed) (xs ys : List ℕ) (c0 c1 c2 c3 : Context) → c0 ≡ nothing_known
    → c1 ≡ with_known io (needed ns io) c0 → c2 ≡ with_groups_needed ns xs c1 → c3 ≡ with_groups_needed ns ys c2
    → c3.local this ≡ None
no_receiver_yet ns xs ys c0 c1 c2 c3 e0 e1 e2 e3 =
    ap (λ (c : Context). c.local this) (e3 ∙ ap (with_groups_needed ns ys) (e2 ∙ ap (with_groups_needed ns xs)
    (e1 ∙ ap (with_known io (needed ns io)) e0)))

pub ruleset parameters = (nothing_is_added, one_is_added, is_new_so)

-- ---- the whole

regrouped : {A B C : Type 0} (v : Verdict A) (f : A → Verdict B) (g : B → Verdict C)
    → ((v >>= f) >>= g) ≡ (v >>= λ x. (f x >>= g))
regrouped (Holds x) f g = refl
regrouped (Broken r at) f g = refl

-- a method is judged from its start
pub method_is_whole : (p : Code) (m : Definition) (c : Context) → start p m ≡ c
    → judge_method p m ≡ whole_verdict p m c
method_is_whole p m c e =
    sym (regrouped (judge_lines p m m.body (start p m)) (end_block p (start p m) m.body) (end_method p m))
    ∙ ap (whole_verdict p m) e

-- what comes after two that hold
pub after_two_that_hold : (a b v : Verdict ⊤) → a ≡ fine → b ≡ fine → (a >> (b >> v)) ≡ v
after_two_that_hold a b v e f =
    ap (λ (k : Verdict ⊤). k >> (b >> v)) e ∙ ap (λ (k : Verdict ⊤). k >> v) f

-- an error that is handed on
pub answer_is_handed_on : (v : Verdict ⊤) (r : Result (Unit {0}) Deny) (e : Deny) → IsErrAnd r (λ (d : Deny). d ≡ e)
    → Answers v done (Err e) → Answers v done r
answer_is_handed_on v (Ok y) e h l = absurd h
answer_is_handed_on v (Err d) e h l = subst (λ (k : Deny). Answers v done (Err k)) (sym h) l
