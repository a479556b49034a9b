-- What the judgement says of the judged_statements of the forms that run.
use Rattle.std.proofs.Common.{◌≡◌, ℕ, Bool, true, false, not, if◌then◌else◌, nat_eq, List, [], Option, None}
use Rattle.std.proofs.Common.{Some, refl, ap, sym, ◌∙◌, subst}
use Rattle.std.specs.Prelude.{option_map, slice_get}
use Rattle.ae_text.specs.declared.refusal.Spot.{Spot}
use Rattle.ae_text.specs.declared.refusal.Rule.TheVariants as rule
use Rattle.ae_tree.specs.declared.tree.NameAt.{NameAt}
use Rattle.ae_tree.specs.declared.tree.Param.{Param}
use Rattle.ae_tree.specs.declared.tree.Ty.TheVariants as ty
use Rattle.ae_tree.specs.declared.form.Form.{Form}
use Rattle.ae_tree.specs.declared.form.Form.TheVariants as form_of
use Rattle.ae_tree.specs.Names.{io, this}
use Rattle.ae_tree.specs.Plain.{Code, Definition, Expression, Value, Taken, Zeros, Made, Returned, Lines, End, Next}
use Rattle.ae_tree.specs.Plain.{Action, Declares, Assigns, Stores, StoresAt, Calls, Chooses, ChoosesElse, Repeats}
use Rattle.ae_tree.specs.Plain.{Groups, Splits, Locks, Freezes, Shares, Prints, PrintsText, Asserts, Returns}
use Rattle.ae_tree.specs.Built.{IsBuiltAction, Built}
use Rattle.ae_rules.specs.declared.held.Held.{Held}
use Rattle.ae_rules.specs.Verdict.{Verdict, Holds, ◌>>=◌, ◌>>◌, require, found, judged}
use Rattle.ae_rules.specs.Groups.{group_access}
use Rattle.ae_rules.specs.Context.{Local, Context, held_of, is_visible, with_held, with_local, with_name_moved}
use Rattle.ae_rules.specs.Expressions.{expression_spot, judge_value, is_value, has_form}
use Rattle.ae_rules.specs.Into.{into}
use Rattle.ae_rules.specs.Statements.{judge_right, judge_let, judge_assign, prints, judge_statement, judge_lines}
use Rattle.ae_rules.specs.Judges.{me_local, param_local, param_called, start, Accepts}
use Rattle.ae_meaning.specs.Judged.{judged_statements, Integers, IsJudged, AreAllJudged, AreJudged}
use Rattle.ae_meaning.proofs.from_rules.PathLemmas.{first_holds, method_judged}
use Rattle.ae_meaning.proofs.from_rules.SeenLemmas.{found_is}

-- ---- contexts

with_choice : (b : Bool) (o : Option Local) (l : Local) → (o ≡ Some l → l.form ≡ form_of.Int)
    → (if b then Some (record { form = form_of.Int; held = held_of form_of.Int; stays = false }) else o) ≡ Some l
    → l.form ≡ form_of.Int
with_choice true o l h e = cc e
with_choice false o l h e = h e

-- An integer that is declared is one more.
pub integers-declared : (c : Context) (x : ℕ) → Integers c → Integers (with_local x form_of.Int c)
integers-declared c x i = λ y l e. with_choice (nat_eq x y) (c.local y) l (i y l) e

held_choice : (b : Bool) (h : Held) (o : Option Local) (l : Local) → ((k : Local) → o ≡ Some k → k.form ≡ form_of.Int)
    → (if b then option_map (λ (k : Local). record k { held = h }) o else o) ≡ Some l → l.form ≡ form_of.Int
held_choice true h None l f e = absurd (cc e)
held_choice true h (Some k) l f e = cc (e, f k refl)
held_choice false h o l f e = f l e

-- What is held of a local is no matter of its form.
pub integers-held : (c : Context) (x : ℕ) (h : Held) → Integers c → Integers (with_held x h c)
integers-held c x h i = λ y l e. held_choice (nat_eq x y) h (c.local y) l (i y) e

-- ---- single judged_statements

-- an expression that is judged has a form
abbrev pub HasForm : Code → Context → Expression → Type 0
HasForm p c e = (t : Form) × (judge_value p c e ≡ Holds t)

-- What is tested for a form was judged.
pub form_judged : (p : Code) (c : Context) (e : Expression) (wanted : Form) (at : Spot) (u : Unit {0})
    → has_form wanted (judge_value p c e) at ≡ Holds u → HasForm p c e
form_judged p c e wanted at u h = let r = first_holds (judge_value p c e) _ u h in (r.0, r.1)

-- What is given to an integer is judged, and moves no name.
right_is : (p : Code) (c d : Context) (e : Expression) → judge_right p c form_of.Int (Value e) ≡ Holds d
    → (d ≡ c) × HasForm p c e
right_is p c d e h =
    let n = first_holds (into p c form_of.Int e) (λ name. Holds (with_name_moved name c)) d h in
    let v = first_holds (is_value p c form_of.Int e) (λ _. Holds None) n.0 n.1 in
    let same : d ≡ c = cc (n.2, ap (λ (name : Option ℕ). with_name_moved name c) (held_same None n.0 v.2)) in
    (same, form_judged p c e form_of.Int (expression_spot e) v.0 v.1)
  where
    held_same : {A : Type 0} (x y : A) → Holds x ≡ Holds y → x ≡ y
    held_same x y e = cc e

-- A `let` of an integer that is judged makes the local visible, and its expression is judged.
pub let_is : (p : Code) (c d : Context) (at : Spot) (x : NameAt) (e : Expression)
    → judge_let p c (ty.Int at) x (Value e) ≡ Holds d → (d ≡ with_local x.name form_of.Int c) × HasForm p c e
let_is p c d at x e h =
    let n = first_holds (require (not (is_visible c x.name)) rule.DuplicateLocal x.at) _ d h in
    let r = first_holds (judge_right p c form_of.Int (Value e)) (λ k. Holds (with_local x.name form_of.Int k)) d n.2 in
    let s = right_is p c r.0 e r.1 in
    let same : d ≡ with_local x.name form_of.Int c = cc (r.2, ap (with_local x.name form_of.Int) s.0) in
    (same, s.1)

-- an assigned local that is an integer, its expression, and the context after
pub record Assigned (p : Code) (c : Context) (x : ℕ) (e : Expression) (d : Context) : Type 0 where
  pub local : Local
  pub found : c.local x ≡ Some local
  pub form : local.form ≡ form_of.Int
  pub after : d ≡ with_held x (held_of local.form) c
  pub value : HasForm p c e

-- An assignment that is judged is one to a visible local.
pub assign_is : (p : Code) (c d : Context) → Integers c → (x : NameAt) (e : Expression) → judge_assign p c x (Value e)
    ≡ Holds d → Assigned p c x.name e d
assign_is p c d i x e h =
    let l = first_holds (found (c.local x.name) rule.UnknownName x.at) _ d h in
    let f : c.local x.name ≡ Some l.0 = found_is (c.local x.name) rule.UnknownName x.at l.0 l.1 in
    let q = first_holds (require (not l.0.stays) rule.ParameterMoved x.at) _ d l.2 in
    let r = first_holds (judge_right p c l.0.form (Value e)) (λ k. Holds (with_held x.name (held_of l.0.form) k)) d
    q.2 in
    let int : l.0.form ≡ form_of.Int = i x.name l.0 f in
    let s = right_is p c r.0 e (subst (λ (t : Form). judge_right p c t (Value e) ≡ Holds r.0) int r.1) in
    record {
      local = l.0;
      found = f;
      form = int;
      after = cc (r.2, ap (with_held x.name (held_of l.0.form)) s.0);
      value = s.1;
    }

-- A print that is judged changes nothing, and its expression is judged.
pub print_is : (p : Code) (c d : Context) (at : Spot) (e : Expression) → (judge_value p c e >> prints c at) ≡ Holds d
    → (d ≡ c) × HasForm p c e
print_is p c d at e h =
    let v = first_holds (judge_value p c e) (λ _. prints c at) d h in
    let r = first_holds (group_access c.group io at) (λ _. Holds c) d v.2 in
    let same : d ≡ c = cc r.2 in
    (same, (v.0, v.1))

-- After a judged statement each visible local is an integer again.
pub integers_later : (p : Code) (m : Definition) (at : Spot) (a : Action) (c d : Context) → IsBuiltAction a → Integers c
    → judge_statement p m at a c ≡ Holds d → Integers d
integers_later p m at (Declares (ty.Int place) x (Value e)) c d b i h = subst Integers
    (sym (let_is p c d place x e h).0) (integers-declared c x.name i)
integers_later p m at (Declares (ty.Bool place) x e) c d b i h = absurd b.0
integers_later p m at (Declares (ty.Object q z) x e) c d b i h = absurd b.0
integers_later p m at (Declares (ty.Int z) x (Taken path place)) c d b i h = absurd b.1
integers_later p m at (Declares (ty.Int z) x (Zeros e place)) c d b i h = absurd b.1
integers_later p m at (Declares (ty.Int z) x (Made q gs args place)) c d b i h = absurd b.1
integers_later p m at (Declares (ty.Int z) x (Returned q)) c d b i h = absurd b.1
integers_later p m at (Assigns x (Value e)) c d b i h =
    let j : Assigned p c x.name e d = assign_is p c d i x e h in
    subst Integers (sym j.after) (integers-held c x.name (held_of j.local.form) i)
integers_later p m at (Assigns x (Taken path place)) c d b i h = absurd b
integers_later p m at (Assigns x (Zeros e place)) c d b i h = absurd b
integers_later p m at (Assigns x (Made q gs args place)) c d b i h = absurd b
integers_later p m at (Assigns x (Returned q)) c d b i h = absurd b
integers_later p m at (Prints e) c d b i h = subst Integers (sym (print_is p c d at e h).0) i
integers_later p m at (Stores path e) c d b i h = absurd b
integers_later p m at (StoresAt path z e) c d b i h = absurd b
integers_later p m at (Calls q) c d b i h = absurd b
integers_later p m at (Chooses e z x) c d b i h = absurd b
integers_later p m at (ChoosesElse e z x w y) c d b i h = absurd b
integers_later p m at (Repeats e z x) c d b i h = absurd b
integers_later p m at (Groups g) c d b i h = absurd b
integers_later p m at (Splits gs z x) c d b i h = absurd b
integers_later p m at (Locks g z x) c d b i h = absurd b
integers_later p m at (Freezes x) c d b i h = absurd b
integers_later p m at (Shares x g) c d b i h = absurd b
integers_later p m at (PrintsText text) c d b i h = absurd b
integers_later p m at (Asserts e) c d b i h = absurd b
integers_later p m at (Returns e) c d b i h = absurd b

-- ---- judged_statements in order

-- The first of judged lines is judged.
pub first_judged : (p : Code) (m : Definition) (at : Spot) (a : Action) (rest : Lines) (c : Context)
    → AreJudged p m (Next at a rest) c → IsJudged p m (record { at = at; action = a; context = c })
first_judged p m at a rest c j =
    let f = first_holds (judge_statement p m at a c) (judge_lines p m rest) j.later j.holds in
    record { built = j.built.0; integers = j.integers; later = f.0; holds = f.1 }

-- The rest of judged lines is judged from the context after the first of them.
pub rest_judged : (p : Code) (m : Definition) (at : Spot) (a : Action) (rest : Lines) (c d : Context)
    → AreJudged p m (Next at a rest) c → judge_statement p m at a c ≡ Holds d → AreJudged p m rest d
rest_judged p m at a rest c d j e = record {
  built = j.built.1;
  integers = integers_later p m at a c d j.built.0 j.integers e;
  later = j.later;
  holds = ap (λ (v : Verdict Context). v >>= judge_lines p m rest) (sym e) ∙ j.holds;
}

-- Each statement of judged lines is judged.
pub all_judged : (p : Code) (m : Definition) (b : Lines) (c : Context) → AreJudged p m b c
    → AreAllJudged p m (judged_statements p m b c)
all_judged p m End c j = tt
all_judged p m (Next at a rest) c j =
    let first : IsJudged p m (record { at = at; action = a; context = c }) = first_judged p m at a rest c j in
    let others : AreAllJudged p m (judged_statements p m rest first.later) = all_judged p m rest first.later
    (rest_judged p m at a rest c first.later j first.holds) in (
      first,
      subst (λ (v : Verdict Context). AreAllJudged p m (judged v [] (judged_statements p m rest))) (sym first.holds)
          others,
    )

-- ---- the one method

no_local : (b : Bool) (o q : Option Local) (l : Local) → o ≡ None → q ≡ None → (if b then o else q) ≡ Some l → ⊥
no_local true o q l e d h = cc (e, h)
no_local false o q l e d h = cc (d, h)

-- No local is visible where the body of a method without parameters begins.
pub no_locals : (p : Code) (m : Definition) → m.me ≡ None → m.params ≡ [] → (x : ℕ) (l : Local)
    → (start p m).local x ≡ Some l → ⊥
no_locals p m e d x l h =
    no_local (nat_eq this x) (option_map (me_local p m) m.me) (option_map param_local (param_called m.params x)) l
    (ap (option_map (me_local p m)) e) (ap (λ (xs : List Param). option_map param_local (param_called xs x)) d) h

-- The body of an accepted program of the forms that run is judged.
pub body_judged : (p : Code) → Accepts p → (b : Built p) → AreJudged p b.method b.method.body (start p b.method)
body_judged p a b =
    let r = method_judged p b.method a (0, ap (λ (ms : List Definition). slice_get ms 0) b.methods) in
    record {
      built = b.body;
      integers = λ x l e. absurd (no_locals p b.method b.is_main.me b.is_main.params x l e);
      later = r.0;
      holds = r.1;
    }
