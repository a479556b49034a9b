-- Two branches from one scope, compared, and what the statements with blocks come to.
use Rattle.std.proofs.Common.{◌≡◌, ℕ, Bool, true, false, ◌&&◌, List, [], ◌∷◌, take, drop, length, arith, Result, Ok}
use Rattle.std.proofs.Common.{Err, Option, None, Some, refl, sym, ap, subst, ◌∙◌}
use Rattle.std.specs.Prelude.{⊤, OnOk}
use Rattle.std.specs.Result.{IsErrAnd}
use Rattle.ae_text.specs.declared.refusal.Spot.{Spot}
use Rattle.ae_text.specs.declared.refusal.Rule.TheVariants as rule
use Rattle.ae_text.specs.declared.refusal.Deny.{Deny}
use Rattle.ae_text.specs.declared.refusal.Deny.TheVariants as deny
use Rattle.ae_tree.specs.declared.tree.Expr.{Expr}
use Rattle.ae_tree.specs.declared.tree.Block.{Block}
use Rattle.ae_tree.specs.declared.tree.StmtKind.{StmtKind}
use Rattle.ae_tree.specs.declared.tree.StmtKind.TheVariants as stmt
use Rattle.ae_tree.specs.declared.form.Form.TheVariants as formed
use Rattle.ae_tree.specs.Plain.{Action, Lines, Definition, Code}
use Rattle.ae_tree.specs.Shown.{expression, action, action-If, action-If_else, action-While, braced}
use Rattle.ae_rules.specs.Answers.{Leaves}
use Rattle.ae_rules.specs.Verdict.{Verdict, Holds, ◌>>=◌, ◌>>◌, fine, require}
use Rattle.ae_rules.specs.Context.{Context, hold_alike}
use Rattle.ae_rules.specs.Expressions.{is_value}
use Rattle.ae_rules.specs.Statements.{judge_statement, branches_meet}
use Rattle.ae_scope.specs.declared.scope.Scope.{Scope}
use Rattle.ae_scope.specs.declared.slot.Slot.{Slot}
use Rattle.ae_scope.specs.declared.slot.Change.{Change}
use Rattle.ae_scope.specs.Slots.{Tied, names, local_in, all_same, now_held, rewound, replayed}
use Rattle.ae_scope.specs.Scope.{context_of}
use Rattle.ae_scope.specs.declared.slot.Mark.{Mark}
use Rattle.ae_scope.specs.Grows.{Marks}
use Rattle.ae_check.specs.Blocks.{Branched, Ended, block_verdict, choice_verdict, tested_verdict}
use Rattle.std.proofs.lemmas.List.{length-map, take_all}
use Rattle.ae_rules.specs.declared.held.Held.{Held}
use Rattle.ae_scope.specs.Slots.{hold_at}
use Rattle.ae_check.proofs.from_scope.ChangeLemmas.{names_rewound, names_hold}
use Rattle.ae_check.proofs.from_text.Basics.{first_of_both, second_of_both}
use Rattle.ae_check.proofs.from_scope.ReplayLemmas.{grows_then}
use Rattle.ae_check.proofs.from_scope.ContextLemmas.{same_context, groups_in}
use Rattle.ae_check.proofs.from_scope.StackLemmas.{stack, stack_is, groups_are}
use Rattle.ae_check.proofs.from_scope.JoinLemmas.{Alike, same_scope, grows_alike, joined, join_compared, replayed_is}

-- where a test is a comparison that makes two contexts one, either of them stays
either_stays : (b : Bool) (at : Spot) (c d : Context) → (b ≡ true → c ≡ d)
    → (require b rule.BranchesDiffer at >> Holds c) ≡ (require b rule.BranchesDiffer at >> Holds d)
either_stays true at c d h = ap Holds (h refl)
either_stays false at c d h = refl

-- what is known after the second branch was taken back and the first done again
pub record Rejoined (s u : Scope) (mark : Mark) (first second : List Change) (w q v : Scope) (x y : Bool) : Type 0 where
  pub branched : Branched s u mark first w
  pub same : x ≡ all_same first w.locals.items
  pub noted : second ≡ now_held (drop mark.changes w.trail.items) w.locals.items
  pub back : Alike s q
  pub again : v.locals.items ≡ replayed first q.locals.items
  pub groups : v.groups.perms.items ≡ s.groups.perms.items
  pub same_too : y ≡ all_same second v.locals.items

-- the two comparisons decide whether the branches meet, and then the first context is the second
pub branches_meet_so : (p : Code) (at : Spot) (s u w q v : Scope) (mark : Mark) (first second : List Change) (x y :
    Bool)
    → length s.at.items ≡ length p.names → Rejoined s u mark first second w q v x y
    → branches_meet p (context_of s) at (context_of u) (context_of w)
    ≡ (require (x && y) rule.BranchesDiffer at >> Holds (context_of v))
branches_meet_so p at s u w q v mark first second x y bound j =
    let b = j.branched in
    let n = mark.changes in
    let cs = drop n u.trail.items in
    let ds = drop n w.trail.items in
    let xs = u.locals.items in
    let ys = w.locals.items in
    let gs = groups_in s.groups.perms.items in
    let f : rewound cs xs ≡ s.locals.items =
    ap (λ (k : ℕ). rewound (drop k u.trail.items) xs) b.marks.changes ∙ stack_is s u b.first_ended.grows
    b.first_ended.locals in
    let g : rewound ds ys ≡ s.locals.items =
    ap (λ (k : ℕ). rewound (drop k w.trail.items) ys) b.marks.changes ∙ stack_is s w b.second_ended.grows
    b.second_ended.locals in
    let h : v.locals.items ≡ xs =
    j.again ∙ ap (λ (k : List Change). replayed k q.locals.items) b.noted
    ∙ ap (replayed (now_held cs xs)) (j.back.locals ∙ sym f) ∙ replayed_is cs xs in
    let cu : context_of u ≡ stack xs gs =
    same_context (context_of u) (stack xs gs) refl (ap groups_in (groups_are s u b.first_ended.grows
    b.first_ended.group_trail)) in
    let cw : context_of w ≡ stack ys gs =
    same_context (context_of w) (stack ys gs) refl (ap groups_in (groups_are s w b.second_ended.grows
    b.second_ended.group_trail)) in
    let co : context_of s ≡ stack (rewound cs xs) gs =
    same_context (context_of s) (stack (rewound cs xs) gs) (ap local_in (sym f)) refl in
    let t : Tied s.at.items (names (rewound cs xs)) =
    subst (λ (zs : List Slot). Tied s.at.items (names zs)) (sym f) s.tied in
    let x_is : x ≡ all_same (now_held cs xs) ys = j.same ∙ ap (λ (k : List Change). all_same k ys) b.noted in
    let y_is : y ≡ all_same (now_held ds ys) xs =
    j.same_too ∙ ap (λ (k : List Change). all_same k v.locals.items) j.noted
    ∙ ap (all_same (now_held ds ys)) h in
    let alike : hold_alike p (context_of s) (context_of u) (context_of w) ≡ (x && y) =
    ap (λ (c : Context). hold_alike p c (context_of u) (context_of w)) co
    ∙ ap (λ (c : Context). hold_alike p (stack (rewound cs xs) gs) c (context_of w)) cu
    ∙ ap (λ (c : Context). hold_alike p (stack (rewound cs xs) gs) (stack xs gs) c) cw
    ∙ join_compared p s.at.items cs ds xs ys gs t (f ∙ sym g) (omega (arith, bound))
    ∙ ap (λ (k : Bool). k && all_same (now_held ds ys) xs) (sym x_is)
    ∙ ap (λ (k : Bool). x && k) (sym y_is) in
    let one : (x && y) ≡ true → context_of w ≡ context_of v = λ e.
    same_context (context_of w) (context_of v) (ap local_in (joined cs ds xs ys (f ∙ sym g)
    (sym x_is ∙ first_of_both x y e) (sym y_is ∙ second_of_both x y e) ∙ sym h))
    (ap groups_in (groups_are s w b.second_ended.grows b.second_ended.group_trail ∙ sym j.groups)) in
    ap (λ (k : Bool). require k rule.BranchesDiffer at >> Holds (context_of w)) alike
    ∙ either_stays (x && y) at (context_of w) (context_of v) one

-- a test, and what stays where it holds
pub then_this_stays : {A : Type 0} (z : Bool) (at : Spot) (x : A) (v : Verdict A) (r : Result (Unit {0}) Deny)
    → v ≡ (require z rule.BranchesDiffer at >> Holds x) → Leaves (require z rule.BranchesDiffer at) tt r → Leaves v x r
then_this_stays z at x v (Ok _) e h = e ∙ ap (λ (w : Verdict (Unit {0})). w >> Holds x) h
then_this_stays z at x v (Err deny.Memory) e h = tt
then_this_stays z at x v (Err (deny.Refused f)) e h = e ∙ ap (λ (w : Verdict (Unit {0})). w >> Holds x) h

-- the condition of a choice holds, and then its blocks decide
pub blocks_decide : (p : Code) (m : Definition) (at : Spot) (c : Context) (kind : StmtKind) (e : Expr)
    (then other : Block) (o : Option Block) → kind ≡ stmt.If e then o → o ≡ Some other
    → is_value p c formed.Bool (expression e) ≡ fine
    → judge_statement p m at (action kind) c ≡ choice_verdict p m (braced then).lines (braced other).lines at c
blocks_decide p m at c kind e then other o k l v =
    ap (λ (x : StmtKind). judge_statement p m at (action x) c) (k ∙ ap (λ (x : Option Block). stmt.If e then x) l)
    ∙ ap (λ (x : Action). judge_statement p m at x c) (action-If_else e then other)
    ∙ ap (λ (x : Verdict ⊤). x >> choice_verdict p m (braced then).lines (braced other).lines at c) v

-- a choice with one branch is its block under its condition
pub lone_block_decides : (p : Code) (m : Definition) (at : Spot) (c : Context) (kind : StmtKind) (e : Expr)
    (then : Block) (o : Option Block) → kind ≡ stmt.If e then o → o ≡ None → judge_statement p m at (action kind) c
    ≡ tested_verdict p m (expression e) (braced then).lines rule.BranchesDiffer at c
lone_block_decides p m at c kind e then o k l =
    ap (λ (x : StmtKind). judge_statement p m at (action x) c) (k ∙ ap (λ (x : Option Block). stmt.If e then x) l)
    ∙ ap (λ (x : Action). judge_statement p m at x c) (action-If e then)

-- a loop is its block under its condition
pub loop_block_decides : (p : Code) (m : Definition) (at : Spot) (c : Context) (kind : StmtKind) (e : Expr) (b : Block)
    → kind ≡ stmt.While e b → judge_statement p m at (action kind) c
    ≡ tested_verdict p m (expression e) (braced b).lines rule.LoopChanges at c
loop_block_decides p m at c kind e b k =
    ap (λ (x : StmtKind). judge_statement p m at (action x) c) k
    ∙ ap (λ (x : Action). judge_statement p m at x c) (action-While e b)

-- an answer to what is the same
pub answers_the_same : {A : Type 0} (v w : Verdict A) (x : A) (r : Result (Unit {0}) Deny) → v ≡ w → Leaves w x r
    → Leaves v x r
answers_the_same v w x r e h = subst (λ k. Leaves k x r) (sym e) h

-- an error that is handed on
pub failure_is_handed_on : {A : Type 0} (v : Verdict A) (x : A) (r : Result (Unit {0}) Deny) (e : Deny)
    → IsErrAnd r (λ (d : Deny). d ≡ e) → Leaves v x (Err e) → Leaves v x r
failure_is_handed_on v x (Ok y) e h l = absurd h
failure_is_handed_on v x (Err d) e h l = subst (λ (k : Deny). Leaves v x (Err k)) (sym h) l

-- what is true is true of a call that went through
pub true_where_it_went_through : (r : Result (Unit {0}) Deny) (P : Type 0) → P → OnOk r P
true_where_it_went_through (Ok x) P h = h
true_where_it_went_through (Err e) P h = tt

-- the first block holds, and then the second decides
after_the_first : (p : Code) (m : Definition) (b b' : Lines) (at : Spot) (s u r : Scope)
    → block_verdict p m b (context_of s) ≡ Holds (context_of u) → Alike s r
    → choice_verdict p m b b' at (context_of s)
    ≡ (block_verdict p m b' (context_of r) >>= λ d'. branches_meet p (context_of s) at (context_of u) d')
after_the_first p m b b' at s u r e a =
    ap (λ (k : Verdict Context). k >>= λ d. block_verdict p m b' (context_of s) >>= λ d'.
    branches_meet p (context_of s) at d d') e
    ∙ ap (λ (c : Context). block_verdict p m b' c >>= λ d'. branches_meet p (context_of s) at (context_of u) d')
    (sym (same_scope s r a))

-- the second block fails
pub second_block_fails : (p : Code) (m : Definition) (b b' : Lines) (at : Spot) (s u r : Scope) (z : Context) (e : Deny)
    → block_verdict p m b (context_of s) ≡ Holds (context_of u) → Alike s r
    → Leaves (block_verdict p m b' (context_of r)) z (Err e)
    → Leaves (choice_verdict p m b b' at (context_of s)) z (Err e)
second_block_fails p m b b' at s u r z deny.Memory e a h = tt
second_block_fails p m b b' at s u r z (deny.Refused k) e a h
    = after_the_first p m b b' at s u r e a
    ∙ ap (λ (v : Verdict Context). v >>= λ d'. branches_meet p (context_of s) at (context_of u) d') h

-- both hold, and then what they come to is compared
pub both_blocks_hold : (p : Code) (m : Definition) (b b' : Lines) (at : Spot) (s u r w : Scope)
    → block_verdict p m b (context_of s) ≡ Holds (context_of u) → Alike s r
    → block_verdict p m b' (context_of r) ≡ Holds (context_of w)
    → choice_verdict p m b b' at (context_of s) ≡ branches_meet p (context_of s) at (context_of u) (context_of w)
both_blocks_hold p m b b' at s u r w e a h =
    after_the_first p m b b' at s u r e a
    ∙ ap (λ (v : Verdict Context). v >>= λ d'. branches_meet p (context_of s) at (context_of u) d') h

-- what is known once both were judged
pub branched_so : (s u r w : Scope) (mark : Mark) (first : List Change) → Marks s mark → Ended s u
    → first ≡ now_held (drop mark.changes u.trail.items) u.locals.items → Alike s r → Ended r w
    → Branched s u mark first w
branched_so s u r w mark first k e n a f = record {
  marks = k;
  first_ended = e;
  noted = n;
  second_ended = record {
    grows = grows_then s r w (grows_alike s r a) f.grows;
    locals = f.locals ∙ ap length a.locals;
    group_trail = f.group_trail ∙ a.group_trail;
  };
}

-- the mark of a scope is that of one that is alike
pub marks_alike : (s r : Scope) (mark : Mark) → Marks s mark → Alike s r → Marks r mark
marks_alike s r mark k a = record {
  locals = k.locals ∙ ap length (sym a.locals);
  changes = k.changes ∙ ap length (sym a.trail);
  groups = k.groups ∙ ap length (sym a.group_trail);
}

-- ---- as many locals as before

pub as_many_taken_back : (cs : List Change) (xs : List Slot) → length (rewound cs xs) ≡ length xs
as_many_taken_back cs xs =
    sym (length-map (rewound cs xs) (λ (r : Slot). r.name)) ∙ ap length (names_rewound cs xs)
    ∙ length-map xs (λ (r : Slot). r.name)

as_many_held : (xs : List Slot) (i : ℕ) (h : Held) → length (hold_at xs i h) ≡ length xs
as_many_held xs i h =
    sym (length-map (hold_at xs i h) (λ (r : Slot). r.name)) ∙ ap length (names_hold xs i h)
    ∙ length-map xs (λ (r : Slot). r.name)

as_many_replayed : (cs : List Change) (xs : List Slot) → length (replayed cs xs) ≡ length xs
as_many_replayed [] xs = refl
as_many_replayed (c ∷ cs) xs = as_many_replayed cs (hold_at xs c.slot c.held) ∙ as_many_held xs c.slot c.held

-- what is done again adds no local
pub as_many_done_again : (cs : List Change) (xs : List Slot) → take (length xs) (replayed cs xs) ≡ replayed cs xs
as_many_done_again cs xs = take_all (length xs) (replayed cs xs) (omega (arith, as_many_replayed cs xs))
