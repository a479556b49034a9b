-- Along a path: what is used inside a statement is at most what the statement uses.
use Rattle.std.proofs.Common.{◌≡◌, ◌<◌, inr, refl, sym, ap, ◌∙◌, subst, ℕ, zero, suc, nat_eq, Bool, true, false}
use Rattle.std.proofs.Common.{if◌then◌else◌, List, [], ◌∷◌, Option, None, Some}
use Rattle.std.specs.Prelude.{slice_get, option_map, ⊤}
use Rattle.ae_text.specs.declared.refusal.Spot.{Spot}
use Rattle.ae_text.specs.declared.refusal.Rule.TheVariants as rule
use Rattle.ae_tree.specs.declared.tree.NameAt.{NameAt}
use Rattle.ae_tree.specs.declared.tree.Path.{Path}
use Rattle.ae_tree.specs.declared.tree.Class.{Class}
use Rattle.ae_tree.specs.declared.form.Kind.{Kind}
use Rattle.ae_tree.specs.declared.form.Form.{Form}
use Rattle.ae_tree.specs.declared.form.Form.TheVariants as f
use Rattle.ae_rules.specs.declared.uses.Resource.{Resource}
use Rattle.ae_rules.specs.declared.uses.Resource.TheVariants as resource
use Rattle.ae_rules.specs.Edges.{IsConflict, Uses, Before}
use Rattle.ae_tree.specs.Names.{main}
use Rattle.ae_tree.specs.Plain.{Invocation, RightSide, Value, Taken, Zeros, Made, Returned, Lines, End, Next}
use Rattle.ae_tree.specs.Plain.{Definition, Code}
use Rattle.ae_tree.specs.Plain.{Action, Declares, Assigns, Stores, StoresAt, Calls, Chooses, ChoosesElse, Repeats}
use Rattle.ae_tree.specs.Plain.{Groups, Splits, Locks, Freezes, Shares, Prints, PrintsText, Asserts, Returns}
use Rattle.ae_rules.specs.Verdict.{Verdict, Holds, Broken, ◌>>=◌, found, each, given, judged, require}
use Rattle.ae_rules.specs.Forms.{is_object}
use Rattle.ae_rules.specs.Lookups.{is_empty, method_at, top_number, top_called, class_of, groups_of, method_number}
use Rattle.ae_tree.specs.Form.{bare_names}
use Rattle.ae_rules.specs.Table.{table_verdict}
use Rattle.ae_rules.specs.Context.{Local, Context}
use Rattle.ae_rules.specs.Walks.{walk}
use Rattle.ae_rules.specs.Expressions.{is_value}
use Rattle.ae_rules.specs.Calls.{Callee, callee_at, callee_in, callee_of, top_callee, judge_callee}
use Rattle.ae_rules.specs.Groups.{may_split_all, may_lock}
use Rattle.ae_rules.specs.Statements.{while_split, while_locked, end_block, branches_meet, loop_keeps}
use Rattle.ae_rules.specs.Statements.{judge_statement, judge_lines}
use Rattle.ae_rules.specs.Judges.{start, judge_method, Accepts}
use Rattle.ae_rules.specs.Uses.{statement_at, nothing, write_use, together, ◌∪◌, of_judged, of_found, outside, all_but}
use Rattle.ae_rules.specs.Uses.{value_uses, block_uses}
use Rattle.ae_rules.specs.Uses.{call_uses, right_uses, callee_uses, statement_uses, lines_use, contexts, context_at}
use Rattle.ae_rules.specs.Blocks.{Scene, body_scene, scene_uses}
use Rattle.ae_rules.specs.Instances.{Point, InBlock, AtChoice, AtLoop, Nowhere, in_statement, inside, first_point}
use Rattle.ae_rules.specs.Instances.{Parting, parting_from, IsFirstAt, body_outside, statement_outside, outside_of}
use Rattle.ae_rules.specs.Instances.{uses_from}
use Rattle.ae_rules.proofs.SeenLemmas.{found_is}
use Rattle.ae_rules.proofs.VisibleLemmas.{uses_are_allowed}
use Rattle.ae_rules.proofs.VisibleLemmas as judged_lines
use Rattle.ae_rules.proofs.LessLemmas.{Less, less_itself, less_then, less_nothing, less_left, less_right, less_both}
use Rattle.ae_rules.proofs.LessLemmas.{less_outside, outside_less, less_all_but, less_found, Fit, fit_within}
use Rattle.ae_rules.proofs.LessLemmas.{fit_nothing, conflict_more}
use Rattle.ae_rules.proofs.InstanceLemmas.{block_less, body_uses, callee_less, fit_outside, fit_lock, fit_body}
use Rattle.ae_rules.proofs.EdgeLemmas.{conflicts_are_ordered}
use Rattle.ae_rules.specs.EdgeLaws.{ConflictsAreFirst, point_from, UsesInsideAreAtMost}
use Rattle.std.proofs.lemmas.Option.{same_Some}

-- ---- verdicts

-- the first of two verdicts holds, and so does the next
pub first_holds : {A B : Type 0} (v : Verdict A) (next : A → Verdict B) (y : B) → (v >>= next) ≡ Holds y
    → (x : A) × (v ≡ Holds x) × (next x ≡ Holds y)
first_holds (Holds x) next y e = (x, refl, e)
first_holds (Broken rule at) next y e = absurd (cc)

pub each_holds : {A : Type 0} (premise : A → Verdict ⊤) (xs : List A) (y : ⊤) (n : ℕ) (x : A) → each premise xs ≡ Holds y
    → slice_get xs n ≡ Some x → (z : ⊤) × (premise x ≡ Holds z)
each_holds premise [] y n x e h = absurd (cc)
each_holds premise (w ∷ xs) y zero x e h =
    let r = first_holds (premise w) (λ _. each premise xs) y e in
    (r.0, ap premise (some_same x w h) ∙ r.1)
  where
    some_same : (x w : _) → slice_get (w ∷ xs) zero ≡ Some x → x ≡ w
    some_same x w h = cc
each_holds premise (w ∷ xs) y (suc n) x e h = each_holds premise xs y n x
    (first_holds (premise w) (λ _. each premise xs) y e).2 h

-- ---- the method of a call

abbrev IsMethod : Code → Definition → Type 0
IsMethod p m = (n : ℕ) × (method_at p n ≡ Some m)

numbered : (p : Code) (o : Option ℕ) (m : Definition) → given o None (method_at p) ≡ Some m → IsMethod p m
numbered p None m e = absurd (cc)
numbered p (Some n) m e = (n, e)

-- what a mapped option has comes from what the option has
pub mapped : {A B : Type 0} (g : A → B) (o : Option A) (y : B) → option_map g o ≡ Some y
    → (x : A) × (o ≡ Some x) × (g x ≡ y)
mapped g None y e = absurd (cc)
mapped g (Some x) y e = (x, refl, cc)

-- the method that is called has a number
pub called_by_number : (p : Code) (names groups : List ℕ) (o : Option ℕ) (k : Callee)
    → given o None (callee_at p names groups) ≡ Some k → (n : ℕ) × (o ≡ Some n) × (method_at p n ≡ Some k.method)
called_by_number p names groups None k e = absurd (cc)
called_by_number p names groups (Some n) k e =
    let r = mapped _ (method_at p n) k e in
    (n, refl, r.1 ∙ ap Some (ap (λ (z : Callee). z.method) r.2))

member_method : (p : Code) (o : Option Class) (l : Kind) (x : ℕ) (k : Callee) → given o None (callee_in p l x)
    ≡ Some k → IsMethod p k.method
member_method p None l x k e = absurd (cc)
member_method p (Some c) l x k e = let r = called_by_number p (bare_names c.groups) (groups_of l)
    (method_number p c x) k e in (r.0, r.2)

form_method : (p : Code) (t : Form) (x : ℕ) (k : Callee) → callee_of p t x ≡ Some k → IsMethod p k.method
form_method p f.Int x k e = absurd (cc)
form_method p f.Bool x k e = absurd (cc)
form_method p (f.Object q l) x k e = member_method p (class_of p l) l x k e

callee_method : (p : Code) (c : Context) (on : Option Path) (x : NameAt) (k : Callee)
    → judge_callee p c on x ≡ Holds k → IsMethod p k.method
callee_method p c None x k e = let r = called_by_number p [] [] (top_number p x.name) k
    (found_is (top_callee p x.name) rule.UnknownMethod x.at k e) in (r.0, r.2)
callee_method p c (Some path) x k e =
    let w = first_holds (walk p c path) _ k e in
    let t = first_holds (require (is_object w.0.form) rule.TypeMismatch path.root.at) _ k w.2
    in form_method p w.0.form x.name k (found_is (callee_of p w.0.form x.name) rule.UnknownMethod x.at k t.2)

abbrev pub JudgedLines : Code → Definition → Lines → Context → Type 0
JudgedLines p m b c = (d : Context) × (judge_lines p m b c ≡ Holds d)

pub method_judged : (p : Code) (m : Definition) → Accepts p → IsMethod p m → JudgedLines p m m.body (start p m)
method_judged p m a n =
    let t = first_holds (table_verdict p) _ tt a in
    let h = each_holds (judge_method p) p.methods tt n.0 m t.2 n.1 in
    let r = first_holds (judge_lines p m m.body (start p m)) _ h.0 h.1 in
    (r.0, r.1)

-- what a statement behind a judged one uses is what it uses in the rest
pub used_behind_first : (p : Code) (m : Definition) (at : Spot) (a : Action) (rest : Lines) (c d : Context) (j : ℕ)
    → judge_statement p m at a c ≡ Holds d
    → block_uses p m (Next at a rest) c (suc j) ≡ block_uses p m rest d j
used_behind_first p m at a rest c d j e = ap (λ (v : Verdict Context). of_found (statement_at rest j)
    (λ x. of_found (slice_get (judged v [] (contexts p m rest)) j) (statement_uses p m x))) e

-- ---- points

abbrev IsGood : Code → Scene → Type 0
IsGood p s = JudgedLines p s.method s.lines s.start

abbrev all_uses : Code → Scene → Uses
all_uses p s = lines_use p s.method s.lines s.start

-- the blocks at a point are judged, and what they use is at most this
abbrev Good : Code → Point → Uses → Type 0
Good p (InBlock locked s) bound = IsGood p s × Less (all_uses p s) bound
Good p (AtChoice locked s None) bound = IsGood p s × Less (outside s.start (all_uses p s)) bound
Good p (AtChoice locked s (Some t)) bound = IsGood p s × Less (outside s.start (all_uses p s)) bound × IsGood p t
    × Less (outside s.start (all_uses p t)) bound
Good p (AtLoop locked uses s) bound = IsGood p s × Less (outside s.start (all_uses p s)) bound × Less uses bound
    × Fit uses
Good p Nowhere bound = Unit {0}

-- what is used is at most this, each resource in a mode of its kind
record Held (u bound : Uses) : Type 0 where
  less : Less u bound
  fit : Fit u

held_nothing : (bound : Uses) → Held nothing bound
held_nothing bound = record { less = less_nothing bound; fit = fit_nothing }

-- inside a statement that is judged, and back at its place
record Step (p : Code) (locked : Bool) (m : Definition) (a : Action) (c : Context) : Type 0 where
  bound : Uses
  good : Good p (in_statement p locked m a c) bound
  out : (u : Uses) → Held u bound → Held (statement_outside p a c u) (statement_uses p m a c)

out_of_block : (c : Context) (u bound more : Uses) → Held u (outside c bound)
    → Held (outside c u) (more ∪ outside c bound)
out_of_block c u bound more h = record {
  less = less_right (outside c u) more (outside c bound)
      (less_then (outside c u) u (outside c bound) (outside_less c u) h.less);
  fit = fit_outside c u h.fit;
}

-- ---- calls

abbrev called_uses : Code → Verdict Callee → Uses
called_uses p v = of_judged v (λ (k : Callee). body_uses p k.method)

call_good : (p : Code) (locked : Bool) (v : Verdict Callee)
    → ((k : Callee) → v ≡ Holds k → JudgedLines p k.method k.method.body (start p k.method))
    → Good p (judged v Nowhere (λ (k : Callee). InBlock locked (body_scene p k.method))) (called_uses p v)
call_good p locked (Holds k) h = (h k refl, less_itself (body_uses p k.method))
call_good p locked (Broken rule at) h = tt

call_held : (p : Code) (c : Context) (i : Invocation) (u : Uses) (v : Verdict Callee)
    → ((k : Callee) → v ≡ Holds k → JudgedLines p k.method k.method.body (start p k.method))
    → Held u (called_uses p v) → Held (of_judged v (body_outside p i u)) (of_judged v (callee_uses p c i))
call_held p c i u (Holds k) h w =
    let j = h k refl in
    record {
      less = callee_less p c i u k w.less
          ((judged_lines.inside p k.method k.method.body (start p k.method)).value j.0 j.1);
      fit =
          fit_body p i u k w.fit;
    }
call_held p c i u (Broken rule at) h w = held_nothing nothing

bodies : (p : Code) → Accepts p → (c : Context) (i : Invocation) (k : Callee) → judge_callee p c i.on i.method
    ≡ Holds k → JudgedLines p k.method k.method.body (start p k.method)
bodies p a c i k e = method_judged p k.method a (callee_method p c i.on i.method k e)

held_right : (u v w : Uses) → Held u w → Held u (v ∪ w)
held_right u v w h = record { less = less_right u v w h.less; fit = h.fit }

-- ---- statements

nowhere_out : (p : Code) (m : Definition) (a : Action) (c : Context) → Held nothing (statement_uses p m a c)
nowhere_out p m a c = held_nothing (statement_uses p m a c)

let_step : (p : Code) → Accepts p → (locked : Bool) (m : Definition) (t : _) (x : NameAt) (e : RightSide)
    (c : Context) → Step p locked m (Declares t x e) c
let_step p a locked m t x (Returned i) c = record {
  bound = called_uses p (judge_callee p c i.on i.method);
  good = call_good p locked (judge_callee p c i.on i.method) (bodies p a c i);
  out = λ u h. held_right _ (write_use x.name) (call_uses p c i)
      (call_held p c i u (judge_callee p c i.on i.method) (bodies p a c i) h);
}
let_step p a locked m t x (Value e) c =
    record { bound = nothing; good = tt; out = λ u h. nowhere_out p m (Declares t x (Value e)) c }
let_step p a locked m t x (Taken path at) c =
    record { bound = nothing; good = tt; out = λ u h. nowhere_out p m (Declares t x (Taken path at)) c }
let_step p a locked m t x (Zeros e at) c =
    record { bound = nothing; good = tt; out = λ u h. nowhere_out p m (Declares t x (Zeros e at)) c }
let_step p a locked m t x (Made k gs args at) c =
    record { bound = nothing; good = tt; out = λ u h. nowhere_out p m (Declares t x (Made k gs args at)) c }

in_target : (p : Code) (c : Context) (i : Invocation) (u : Uses) (o : Option Local) (l : Local) → o ≡ Some l
    → Held u (call_uses p c i) → Held u (of_found o (λ (y : Local). right_uses p c y.form (Returned i)))
in_target p c i u None l e h = absurd (cc)
in_target p c i u (Some y) l e h = h

assign_step : (p : Code) → Accepts p → (locked : Bool) (m : Definition) (x : NameAt) (e : RightSide) (c : Context)
    (l : Local) → c.local x.name ≡ Some l → Step p locked m (Assigns x e) c
assign_step p a locked m x (Returned i) c l q = record {
  bound = called_uses p (judge_callee p c i.on i.method);
  good = call_good p locked (judge_callee p c i.on i.method) (bodies p a c i);
  out = λ u h. held_right _ (write_use x.name) _
      (in_target p c i _ (c.local x.name) l q
      (call_held p c i u (judge_callee p c i.on i.method) (bodies p a c i) h));
}
assign_step p a locked m x (Value e) c l q =
    record { bound = nothing; good = tt; out = λ u h. nowhere_out p m (Assigns x (Value e)) c }
assign_step p a locked m x (Taken path at) c l q =
    record { bound = nothing; good = tt; out = λ u h. nowhere_out p m (Assigns x (Taken path at)) c }
assign_step p a locked m x (Zeros e at) c l q =
    record { bound = nothing; good = tt; out = λ u h. nowhere_out p m (Assigns x (Zeros e at)) c }
assign_step p a locked m x (Made k gs args at) c l q =
    record { bound = nothing; good = tt; out = λ u h. nowhere_out p m (Assigns x (Made k gs args at)) c }

lock_step : (p : Code) (locked : Bool) (m : Definition) (g : NameAt) (n : ℕ) (b : Lines) (c : Context)
    → JudgedLines p m b (while_locked g.name c) → Step p locked m (Locks g n b) c
lock_step p locked m g n b c j = record {
  bound = lines_use p m b (while_locked g.name c);
  good = (j, less_itself (lines_use p m b (while_locked g.name c)));
  out = λ u h. record {
    less = less_both _ (all_but (resource.Group g.name) (outside c u)) _
        (less_left _ (together g.name) _
        (less_found (outside c u (resource.Group g.name)) _ (together g.name)
        (λ _ _. less_itself (together g.name))))
        (less_right _ (together g.name) _
        (less_all_but (resource.Group g.name) (outside c u) (outside c (lines_use p m b (while_locked g.name c)))
        (less_outside c u (lines_use p m b (while_locked g.name c)) h.less)));
    fit = fit_lock g.name (outside c u) (fit_outside c u h.fit);
  };
}

pub lines_then_end : (p : Code) (m : Definition) (b : Lines) (c : Context) (x : Context)
    (next : Context → Verdict Context) (d : Context) → ((judge_lines p m b x >>= end_block p c b) >>= next) ≡ Holds d
    → JudgedLines p m b x
lines_then_end p m b c x next d h =
    let r = first_holds (judge_lines p m b x >>= end_block p c b) next d h in
    let l = first_holds (judge_lines p m b x) (end_block p c b) r.0 r.1 in
    (l.0, l.1)

step : (p : Code) → Accepts p → (locked : Bool) (m : Definition) (at : Spot) (a : Action) (c d : Context)
    → judge_statement p m at a c ≡ Holds d → Step p locked m a c
step p acc locked m at (Declares t x e) c d h = let_step p acc locked m t x e c
step p acc locked m at (Assigns x e) c d h =
    let r = first_holds (found (c.local x.name) rule.UnknownName x.at) _ d h
    in assign_step p acc locked m x e c r.0 (found_is (c.local x.name) rule.UnknownName x.at r.0 r.1)
step p acc locked m at (Calls i) c d h = record {
  bound = called_uses p (judge_callee p c i.on i.method);
  good = call_good p locked (judge_callee p c i.on i.method) (bodies p acc c i);
  out = λ u w. call_held p c i u (judge_callee p c i.on i.method) (bodies p acc c i) w;
}
step p acc locked m at (Chooses e n b) c d h =
    let r = first_holds (is_value p c f.Bool e)
    (λ _. (judge_lines p m b c >>= end_block p c b) >>= λ x. branches_meet p c at x c) d h in
    record {
      bound = outside c (lines_use p m b c);
      good = (
        lines_then_end p m b c c (λ x. branches_meet p c at x c) d r.2,
        less_itself
            (outside c (lines_use p m b c)),
      );
      out = λ u w. out_of_block c u (lines_use p m b c) (value_uses p c e) w;
    }
step p acc locked m at (ChoosesElse e n b k b') c d h =
    let other : Context → Verdict Context = λ x. (judge_lines p m b' c >>= end_block p c b')
    >>= λ y. branches_meet p c at x y in
    let r = first_holds (is_value p c f.Bool e) (λ _. (judge_lines p m b c >>= end_block p c b) >>= other) d h in
    let t = first_holds (judge_lines p m b c >>= end_block p c b) other d r.2 in
    let one : Uses = outside c (lines_use p m b c) in
    let two : Uses = outside c (lines_use p m b' c) in
    record {
      bound = one ∪ two;
      good = (
        lines_then_end p m b c c other d r.2,
        less_left one one two (less_itself one),
        lines_then_end p m b' c c
            (λ y. branches_meet p c at t.0 y) d t.2,
        less_right two one two (less_itself two),
      );
      out = λ u w. record {
        less = less_right (outside c u) (value_uses p c e) (one ∪ two)
            (less_then (outside c u) u (one ∪ two) (outside_less c u) w.less);
        fit = fit_outside c u w.fit;
      };
    }
step p acc locked m at (Repeats e n b) c d h =
    let r = first_holds (is_value p c f.Bool e)
    (λ _. (judge_lines p m b c >>= end_block p c b) >>= λ x. loop_keeps p c at x) d h in
    let all : Uses = statement_uses p m (Repeats e n b) c in
    record {
      bound = all;
      good = (
        lines_then_end p m b c c (λ x. loop_keeps p c at x) d r.2,
        less_right (outside c (lines_use p m b c)) (value_uses p c e) (outside c (lines_use p m b c))
            (less_itself (outside c (lines_use p m b c))),
        less_itself all,
        fit_within d all (λ x l k. uses_are_allowed p m at (Repeats e n b) c d x l h k),
      );
      out = λ u w. record {
        less = less_then (outside c u) u all (outside_less c u) w.less;
        fit =
            fit_outside c u w.fit;
      };
    }
step p acc locked m at (Splits gs n b) c d h =
    let bound : Uses = lines_use p m b (while_split gs c) in
    let r = first_holds (may_split_all c.group gs) (λ _. judge_lines p m b (while_split gs c) >>= end_block p c b) d
    h in
    let l = first_holds (judge_lines p m b (while_split gs c)) (end_block p c b) d r.2 in
    record {
      bound = bound;
      good = ((l.0, l.1), less_itself bound);
      out = λ u w. record {
        less = less_right (outside c u) _ (outside c bound) (less_outside c u bound w.less);
        fit =
            fit_outside c u w.fit;
      };
    }
step p acc locked m at (Locks g n b) c d h =
    let r = first_holds (may_lock c.group g) (λ _. judge_lines p m b (while_locked g.name c) >>= end_block p c b) d h in
    let l = first_holds (judge_lines p m b (while_locked g.name c)) (end_block p c b) d r.2
    in lock_step p locked m g n b c (l.0, l.1)
step p acc locked m at (Stores path e) c d h =
    record { bound = nothing; good = tt; out = λ u w. nowhere_out p m (Stores path e) c }
step p acc locked m at (StoresAt path i e) c d h =
    record { bound = nothing; good = tt; out = λ u w. nowhere_out p m (StoresAt path i e) c }
step p acc locked m at (Groups g) c d h =
    record { bound = nothing; good = tt; out = λ u w. nowhere_out p m (Groups g) c }
step p acc locked m at (Freezes x) c d h =
    record { bound = nothing; good = tt; out = λ u w. nowhere_out p m (Freezes x) c }
step p acc locked m at (Shares x g) c d h =
    record { bound = nothing; good = tt; out = λ u w. nowhere_out p m (Shares x g) c }
step p acc locked m at (Prints e) c d h =
    record { bound = nothing; good = tt; out = λ u w. nowhere_out p m (Prints e) c }
step p acc locked m at (PrintsText s) c d h =
    record { bound = nothing; good = tt; out = λ u w. nowhere_out p m (PrintsText s) c }
step p acc locked m at (Asserts e) c d h =
    record { bound = nothing; good = tt; out = λ u w. nowhere_out p m (Asserts e) c }
step p acc locked m at (Returns e) c d h =
    record { bound = nothing; good = tt; out = λ u w. nowhere_out p m (Returns e) c }

-- ---- a statement of a block

-- the context before a statement of a judged block, in which it is judged
pub record Located (p : Code) (m : Definition) (a : Action) (v : Option Context) : Type 0 where
  pub before : Context
  pub after : Context
  pub at : Spot
  pub is : v ≡ Some before
  pub judged : judge_statement p m at a before ≡ Holds after

located : (p : Code) (m : Definition) (b : Lines) (c d : Context) (i : ℕ) (a : Action) → judge_lines p m b c ≡ Holds d
    → statement_at b i ≡ Some a → Located p m a (context_at p m b c i)
located p m End c d i a h e = absurd (cc)
located p m (Next at s rest) c d zero a h e =
    let r = first_holds (judge_statement p m at s c) (judge_lines p m rest) d h in
    record {
      before = c;
      after = r.0;
      at = at;
      is = refl;
      judged = ap (λ x. judge_statement p m at x c)
          (sym (same_Some s a e)) ∙ r.1;
    }
located p m (Next at s rest) c d (suc i) a h e =
    let r = first_holds (judge_statement p m at s c) (judge_lines p m rest) d h in
    let l : Located p m a (context_at p m rest r.0 i) = located p m rest r.0 d i a r.2 e in
    record {
      before = l.before;
      after = l.after;
      at = l.at;
      is =
          ap (λ v. slice_get (judged v [] (contexts p m rest)) i) r.1 ∙ l.is;
      judged = l.judged;
    }

-- what holds of the statement and its context holds of what is looked up
picked : (o : Option Action) (v : Option Context) (a : Action) (c : Context) (g h : Action → Context → Uses)
    → o ≡ Some a → v ≡ Some c → Held (g a c) (h a c)
    → Held (of_found o (λ s. of_found v (g s))) (of_found o (λ s. of_found v (h s)))
picked o v a c g h e k w = rw e (rw k w)

held_bound : (u v w : Uses) → Held u v → Less v w → Held u w
held_bound u v w h k = record { less = less_then u v w h.less k; fit = h.fit }

-- what is used further along the path
abbrev Along : Code → List ℕ → Type 0
Along p q = (at : Point) (bound : Uses) → Good p at bound → Held (uses_from p at q) bound

inside_is : (p : Code) (locked : Bool) (s : Scene) (i : ℕ) (a : Action) (c : Context)
    → statement_at s.lines i ≡ Some a → context_at p s.method s.lines s.start i ≡ Some c
    → inside p (InBlock locked s) i ≡ in_statement p locked s.method a c
inside_is p locked s i a c e k =
    ap (λ o. given o Nowhere (λ x. given (context_at p s.method s.lines s.start i) Nowhere
    (in_statement p locked s.method x))) e ∙ ap (λ v. given v Nowhere (in_statement p locked s.method a)) k

fit_statement : (p : Code) (m : Definition) (at : Spot) (a : Action) (c d : Context)
    → judge_statement p m at a c ≡ Holds d → Held (statement_uses p m a c) (statement_uses p m a c)
fit_statement p m at a c d h =
    record {
      less = less_itself (statement_uses p m a c);
      fit = fit_within d (statement_uses p m a c)
          (λ r n e. uses_are_allowed p m at a c d r n h e);
    }

-- one number of a path through a block
in_scene : (p : Code) → Accepts p → (locked : Bool) (s : Scene) → IsGood p s → (i : ℕ) (q : List ℕ) → Along p q
    → (o : Option Action) → statement_at s.lines i ≡ o
    → Held (uses_from p (InBlock locked s) (i ∷ q)) (scene_uses p s i)
in_scene p acc locked s j i q ih None e = by_end (is_empty q)
  where
    looked : (g : Action → Uses) → of_found (statement_at s.lines i) g ≡ nothing
    looked g = ap (λ o. of_found o g) e

    by_end : (b : Bool) → Held (if b then scene_uses p s i else outside_of p (InBlock locked s) i
        (uses_from p (inside p (InBlock locked s) i) q)) (scene_uses p s i)
    by_end true = subst (λ (u : Uses). Held u (scene_uses p s i)) (sym (looked _)) (held_nothing (scene_uses p s i))
    by_end false = subst (λ (u : Uses). Held u (scene_uses p s i)) (sym (looked _)) (held_nothing (scene_uses p s i))
in_scene p acc locked s j i q ih (Some a) e = by_end (is_empty q)
  where
    l : Located p s.method a (context_at p s.method s.lines s.start i)
    l = located p s.method s.lines s.start j.0 i a j.1 e

    st : Step p locked s.method a l.before
    st = step p acc locked s.method l.at a l.before l.after l.judged

    u : Uses
    u = uses_from p (inside p (InBlock locked s) i) q

    inner : Held u st.bound
    inner = subst (λ (z : Point). Held (uses_from p z q) st.bound) (sym (inside_is p locked s i a l.before e l.is))
        (ih (in_statement p locked s.method a l.before) st.bound st.good)

    by_end : (b : Bool) → Held (if b then scene_uses p s i else outside_of p (InBlock locked s) i u) (scene_uses p s i)
    by_end true = picked (statement_at s.lines i) (context_at p s.method s.lines s.start i) a l.before
        (statement_uses p s.method) (statement_uses p s.method) e l.is
        (fit_statement p s.method l.at a l.before l.after l.judged)
    by_end false = picked (statement_at s.lines i) (context_at p s.method s.lines s.start i) a l.before
        (λ x c. statement_outside p x c u) (statement_uses p s.method) e l.is (st.out u inner)

-- what is used in a block, seen from outside it
from_block : (p : Code) (c : Context) (s : Scene) (bound u : Uses) → Less (outside c (all_uses p s)) bound
    → Held u (all_uses p s) → Held (outside c u) bound
from_block p c s bound u k h =
    record {
      less = less_then (outside c u) (outside c (all_uses p s)) bound (less_outside c u (all_uses p s) h.less)
          k;
      fit = fit_outside c u h.fit;
    }

if_held : (b : Bool) (u v bound : Uses) → Held u bound → Held v bound → Held (if b then u else v) bound
if_held true u v bound h k = h
if_held false u v bound h k = k

-- what is used where nothing runs, seen from outside it
nowhere_held : (c : Context) (bound u : Uses) → Held u nothing → Held (outside c u) bound
nowhere_held c bound u h = record {
  less = less_then _ (outside c nothing) bound (less_outside c u nothing h.less)
      (less_then _ nothing bound (outside_less c nothing) (less_nothing bound));
  fit = fit_outside c u h.fit;
}

next_number : (p : Code) → Accepts p → (i : ℕ) (q : List ℕ) → Along p q → Along p (i ∷ q)
next_number p acc i q ih (InBlock locked s) bound g
    = held_bound _ (scene_uses p s i) bound (in_scene p acc locked s g.0 i q ih (statement_at s.lines i) refl)
    (less_then (scene_uses p s i) (all_uses p s) bound (block_less p s.method s.lines s.start i) g.1)
next_number p acc zero q ih (AtChoice locked s None) bound g =
    if_held (is_empty q) _ _ bound (held_nothing bound)
    (from_block p s.start s bound _ g.1 (ih (InBlock locked s) (all_uses p s) (g.0, less_itself (all_uses p s))))
next_number p acc (suc zero) q ih (AtChoice locked s None) bound g =
    if_held (is_empty q) _ _ bound (held_nothing bound) (nowhere_held s.start bound _ (ih Nowhere nothing tt))
next_number p acc (suc (suc i)) q ih (AtChoice locked s None) bound g =
    if_held (is_empty q) _ _ bound (held_nothing bound) (nowhere_held s.start bound _ (ih Nowhere nothing tt))
next_number p acc zero q ih (AtChoice locked s (Some t)) bound g =
    if_held (is_empty q) _ _ bound (held_nothing bound)
    (from_block p s.start s bound _ g.1 (ih (InBlock locked s) (all_uses p s) (g.0, less_itself (all_uses p s))))
next_number p acc (suc zero) q ih (AtChoice locked s (Some t)) bound g =
    if_held (is_empty q) _ _ bound (held_nothing bound)
    (from_block p s.start t bound _ g.3 (ih (InBlock locked t) (all_uses p t) (g.2, less_itself (all_uses p t))))
next_number p acc (suc (suc i)) q ih (AtChoice locked s (Some t)) bound g =
    if_held (is_empty q) _ _ bound (held_nothing bound) (nowhere_held s.start bound _ (ih Nowhere nothing tt))
next_number p acc i q ih (AtLoop locked uses s) bound g =
    if_held (is_empty q) _ _ bound (record { less = g.2; fit = g.3 })
    (from_block p s.start s bound _ g.1 (ih (InBlock locked s) (all_uses p s) (g.0, less_itself (all_uses p s))))
next_number p acc i q ih Nowhere bound g = if_held (is_empty q) _ _ bound (held_nothing bound) (held_nothing bound)

along : (p : Code) → Accepts p → (q : List ℕ) → Along p q
along p acc [] at bound g = held_nothing bound
along p acc (i ∷ q) at bound g = next_number p acc i q (along p acc q) at bound g

-- ---- where two part

abbrev IsGoodAt : Code → Point → Type 0
IsGoodAt p at = (bound : Uses) × Good p at bound

good_inside : (p : Code) → Accepts p → (locked : Bool) (s : Scene) → IsGood p s → (i : ℕ) (o : Option Action)
    → statement_at s.lines i ≡ o → IsGoodAt p (inside p (InBlock locked s) i)
good_inside p acc locked s j i None e =
    subst (IsGoodAt p) (sym (ap (λ (o : Option Action). given o Nowhere
    (λ x. given (context_at p s.method s.lines s.start i) Nowhere (in_statement p locked s.method x))) e))
    (nothing, tt)
good_inside p acc locked s j i (Some a) e =
    let l : Located p s.method a (context_at p s.method s.lines s.start i) =
    located p s.method s.lines s.start j.0 i a j.1 e in
    let st : Step p locked s.method a l.before = step p acc locked s.method l.at a l.before l.after l.judged in
    subst (IsGoodAt p) (sym (inside_is p locked s i a l.before e l.is)) (st.bound, st.good)

good_next : (p : Code) → Accepts p → (at : Point) → IsGoodAt p at → (i : ℕ) → IsGoodAt p (inside p at i)
good_next p acc (InBlock locked s) g i = good_inside p acc locked s g.1.0 i (statement_at s.lines i) refl
good_next p acc (AtChoice locked s None) g zero = (all_uses p s, (g.1.0, less_itself (all_uses p s)))
good_next p acc (AtChoice locked s None) g (suc zero) = (nothing, tt)
good_next p acc (AtChoice locked s None) g (suc (suc i)) = (nothing, tt)
good_next p acc (AtChoice locked s (Some t)) g zero = (all_uses p s, (g.1.0, less_itself (all_uses p s)))
good_next p acc (AtChoice locked s (Some t)) g (suc (suc i)) = (nothing, tt)
good_next p acc (AtChoice locked s (Some t)) g (suc zero) = (all_uses p t, (g.1.2, less_itself (all_uses p t)))
good_next p acc (AtLoop locked uses s) g i = (all_uses p s, (g.1.0, less_itself (all_uses p s)))
good_next p acc Nowhere g i = (nothing, tt)

good_parting : (p : Code) → Accepts p → (at : Point) (q r : List ℕ) (k : Parting) → IsGoodAt p at
    → parting_from p at q r ≡ Some k → IsGoodAt p k.at
good_parting p acc at [] r k g e = absurd (cc)
good_parting p acc at (i ∷ q) [] k g e = absurd (cc)
good_parting p acc at (i ∷ q) (j ∷ r) k g e = by_number
    (λ h. good_parting p acc (inside p at i) q r k (good_next p acc at g i) h) (nat_eq i j) e
  where
    here : Parting
    here = record { at = at; left = i; left_rest = q; right = j; right_rest = r }

    by_number : (parting_from p (inside p at i) q r ≡ Some k → IsGoodAt p k.at) → (b : Bool)
        → (if b then parting_from p (inside p at i) q r else Some here) ≡ Some k → IsGoodAt p k.at
    by_number later true h = later h
    by_number later false h = subst (λ (x : Parting). IsGoodAt p x.at) (same_Some here k h) g

good_first : (p : Code) → Accepts p → (o : Option Definition) → top_called p main ≡ o → IsGoodAt p (first_point p)
good_first p acc None e = subst (IsGoodAt p)
    (sym (ap (λ (o : Option Definition). given o Nowhere (λ m. InBlock false (body_scene p m))) e)) (nothing, tt)
good_first p acc (Some m) e =
    subst (IsGoodAt p) (sym (ap (λ (o : Option Definition). given o Nowhere (λ x. InBlock false (body_scene p x))) e))
    (body_uses p m, (method_judged p m acc (numbered p (top_number p main) m e), less_itself (body_uses p m)))

before_at : (p : Code) → Accepts p → (k : Parting) (locked : Bool) (s : Scene) (r : Resource)
    → IsGoodAt p (InBlock locked s) → k.left < k.right
    → IsConflict (uses_from p (InBlock locked s) (k.left ∷ k.left_rest) r)
    (uses_from p (InBlock locked s) (k.right ∷ k.right_rest) r) → Before (scene_uses p s) k.left k.right
before_at p acc k locked s r g l e =
    let x = in_scene p acc locked s g.1.0 k.left k.left_rest (along p acc k.left_rest)
    (statement_at s.lines k.left) refl in
    let y = in_scene p acc locked s g.1.0 k.right k.right_rest (along p acc k.right_rest)
    (statement_at s.lines k.right) refl in
    conflicts_are_ordered (scene_uses p s) k.left k.right r l
    (conflict_more r _ _ (scene_uses p s k.left) (scene_uses p s k.right) x.fit y.fit x.less y.less e)

pub conflicts_are_first : ConflictsAreFirst
conflicts_are_first p acc q r k locked s e l =
    let g : IsGoodAt p k.fork.at = good_parting p acc (first_point p) q r k.fork
    (good_first p acc (top_called p main) refl) k.parts in
    let c : IsConflict (uses_from p (InBlock locked s) (k.fork.left ∷ k.fork.left_rest) k.on)
    (uses_from p (InBlock locked s) (k.fork.right ∷ k.fork.right_rest) k.on) =
    subst (λ (z : Point). IsConflict (uses_from p z (k.fork.left ∷ k.fork.left_rest) k.on)
    (uses_from p z (k.fork.right ∷ k.fork.right_rest) k.on)) e k.conflict in
    let b : Before (scene_uses p s) k.fork.left k.fork.right = before_at p acc k.fork locked s k.on
    (subst (IsGoodAt p) e g) l c in
    record {
      fork = k.fork;
      parts = k.parts;
      order = subst (λ (z : Point). IsFirstAt p z k.fork.left k.fork.right)
          (sym e) (inr b);
    }

-- ---- what is used inside a statement

good_along : (p : Code) → Accepts p → (at : Point) → IsGoodAt p at → (q : List ℕ) → IsGoodAt p (point_from p at q)
good_along p acc at g [] = g
good_along p acc at g (i ∷ q) = good_along p acc (inside p at i) (good_next p acc at g i) q

pub uses_inside_are_at_most : UsesInsideAreAtMost
uses_inside_are_at_most p acc q locked s e i r on =
    let g : IsGoodAt p (InBlock locked s) = subst (IsGoodAt p) e
    (good_along p acc (first_point p) (good_first p acc (top_called p main) refl) q) in
    let h = in_scene p acc locked s g.1.0 i r (along p acc r) (statement_at s.lines i) refl in
    h.less.at on
