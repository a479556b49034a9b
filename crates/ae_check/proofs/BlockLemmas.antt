-- A block's statements, its end, and what is compared after it.
use Rattle.std.proofs.Common.{◌≡◌, ◌<◌, ◌≤◌, ◌+◌, ℕ, List, ◌∷◌, drop, get_or, arith, Bool, true, false}
use Rattle.std.proofs.Common.{length, Result, Ok, Err, refl, sym, ap, subst, ◌∙◌}
use Rattle.std.specs.Prelude.{⊤, OnOk}
use Rattle.std.proofs.lemmas.List.{drop_more, length-take}
use Rattle.std.proofs.lemmas.List.Elements.{All-weaker}
use Rattle.ae_text.specs.declared.refusal.Spot.{Spot}
use Rattle.ae_text.specs.declared.refusal.Rule.{Rule}
use Rattle.ae_text.specs.declared.refusal.Deny.{Deny}
use Rattle.ae_text.specs.declared.refusal.Deny.TheVariants as deny
use Rattle.ae_tree.specs.declared.tree.NameAt.{NameAt}
use Rattle.ae_tree.specs.declared.tree.Stmt.{Stmt}
use Rattle.ae_tree.specs.Plain.{Lines, Code, Definition}
use Rattle.ae_tree.specs.Shown.{action, lines_from}
use Rattle.ae_rules.specs.Answers.{Answers, Leaves, done}
use Rattle.ae_rules.specs.Verdict.{Verdict, Holds, Broken, ◌>>=◌, ◌>>◌, fine, require, each}
use Rattle.ae_rules.specs.Groups.{known, may_split_all, may_lock}
use Rattle.ae_rules.specs.Context.{Context, closed, hold_alike}
use Rattle.ae_rules.specs.Statements.{judge_statement, judge_lines, groups_stay, end_block, while_split, while_locked}
use Rattle.ae_rules.specs.BlockLaws.{groups_in_lines}
use Rattle.ae_scope.specs.declared.scope.Scope.{Scope}
use Rattle.ae_scope.specs.declared.slot.Mark.{Mark}
use Rattle.ae_scope.specs.Slots.{local_in, all_same, now_held, rewound}
use Rattle.ae_scope.specs.Scope.{context_of}
use Rattle.ae_scope.specs.Grows.{Grows, Ends, Marks, before}
use Rattle.ae_check.specs.Ready.{IsReady, StaysReady}
use Rattle.ae_check.specs.Blocks.{Began, Ended, inside_verdict, block_verdict, body_verdict, keeps_held}
use Rattle.ae_check.specs.Blocks.{is_not_left, left_outside}
use Rattle.ae_check.proofs.from_text.Basics.{no_test_is_both}
use Rattle.ae_check.proofs.from_scope.ContextLemmas.{same_context, groups_in}
use Rattle.ae_check.proofs.from_scope.ReplayLemmas.{grows_then}
use Rattle.ae_check.proofs.from_scope.StackLemmas.{ended, length_ended, group_trail_ended, grows_cut, grown_longer}
use Rattle.ae_check.proofs.from_scope.StackLemmas.{before_is, compared}
use Rattle.ae_check.proofs.EscapeLemmas.{groups_stay_where_unlisted}
use Rattle.ae_check.proofs.ReadyLemmas.{known_while_split, known_while_locked}

-- ---- a block from its beginning

not_before : (a b : Bool) → (a ≡ true → b ≡ true) → b ≡ false → a ≡ false
not_before true b h e = absurd (no_test_is_both b (h refl) e)
not_before false b h e = refl

-- the groups that a block declares are told by what changed
groups_are_told : (p : Code) (m : Definition) (b : Lines) (s t d : Scope) (mark : Mark) → StaysReady p m
    → Began p s mark t → judge_lines p m b (context_of t) ≡ Holds (context_of d) → Grows t d
    → groups_stay p (context_of s) (context_of d) b ≡ each (is_not_left (left_outside mark d)) (groups_in_lines b)
groups_are_told p m b s t d mark stays began j g =
    groups_stay_where_unlisted p s d mark b began.marks.locals began.marks.changes
    (grows_then s t d began.grows g) began.ready
    (All-weaker (λ (x : NameAt). known (context_of t).group x.name ≡ false)
    (λ (x : NameAt). known (context_of s).group x.name ≡ false)
    (λ x u. not_before (known (context_of s).group x.name) (known (context_of t).group x.name)
    (began.knows x.name) u) (groups_in_lines b) (stays.declared b (context_of t) (context_of d) j))

-- a group that a block declares is left
pub group_is_left : (p : Code) (m : Definition) (b : Lines) (s t d : Scope) (mark : Mark) (z : Context) (e : Deny)
    → StaysReady p m → Began p s mark t → judge_lines p m b (context_of t) ≡ Holds (context_of d) → Grows t d
    → Answers (each (is_not_left (left_outside mark d)) (groups_in_lines b)) done (Err e)
    → Leaves (inside_verdict p m b (context_of s) (context_of t)) z (Err e)
group_is_left p m b s t d mark z deny.Memory stays began j g h = tt
group_is_left p m b s t d mark z (deny.Refused r) stays began j g h =
    ap (λ (v : Verdict Context). v >>= end_block p (context_of s) b) j
    ∙ ap (λ (v : Verdict ⊤). v >> Holds (closed (context_of s) (context_of d)))
    (groups_are_told p m b s t d mark stays began j g ∙ h)

-- a block ends
pub inside_ends : (p : Code) (m : Definition) (b : Lines) (s t d u : Scope) (mark : Mark) → StaysReady p m
    → Began p s mark t → judge_lines p m b (context_of t) ≡ Holds (context_of d) → Grows t d
    → each (is_not_left (left_outside mark d)) (groups_in_lines b) ≡ fine → Ends mark d u
    → inside_verdict p m b (context_of s) (context_of t) ≡ Holds (context_of u)
inside_ends p m b s t d u mark stays began j g h e =
    ap (λ (v : Verdict Context). v >>= end_block p (context_of s) b) j
    ∙ ap (λ (v : Verdict ⊤). v >> Holds (closed (context_of s) (context_of d)))
    (groups_are_told p m b s t d mark stays began j g ∙ h)
    ∙ ap Holds (sym (ended s d u mark began.marks (grows_then s t d began.grows g) e))

pub ended_so : (p : Code) (s t d u : Scope) (mark : Mark) → Began p s mark t → Grows t d → Ends mark d u → Ended s u
ended_so p s t d u mark began g e =
    let h : Grows s d = grows_then s t d began.grows g in
    record {
      grows = grows_cut s d u mark began.marks h e;
      locals = length_ended s d u mark began.marks h e;
      group_trail = group_trail_ended s d u mark began.marks h e;
    }

-- a scope in which a block ended grew
pub ended_grows : (s u : Scope) (r : Result (Unit {0}) Deny) → OnOk r (Ended s u) → OnOk r (Grows s u)
ended_grows s u (Ok x) h = h.grows
ended_grows s u (Err e) h = tt

-- what was entered holds, and this is the context then
entered : (v : Verdict ⊤) (c d : Context) → (v >> Holds c) ≡ Holds d → (v ≡ fine) × (d ≡ c)
entered (Holds u) c d e = (refl, let i : c ≡ d = cc in sym i)
entered (Broken rule at) c d e = absurd (cc)

-- what a mark counts is still there in a scope that grew
marked_locals : (s t : Scope) (mark : Mark) → Marks s mark → Grows s t → mark.locals ≤ length t.locals.items
marked_locals s t mark k g = omega (arith, k.locals, grown_longer s t g)

marked_changes : (s t : Scope) (mark : Mark) → Marks s mark → Grows s t → mark.changes ≤ length t.trail.items
marked_changes s t mark k g =
    omega (arith, k.changes, ap length g.trail, length-take (length s.trail.items) t.trail.items)

marked_groups : (s t : Scope) (mark : Mark) → Marks s mark → Grows s t
    → mark.groups ≤ length t.group_trail.items
marked_groups s t mark k g =
    omega (arith, k.groups, ap length g.group_trail, length-take (length s.group_trail.items) t.group_trail.items)

-- a block inside which a context is known was entered, where these premises held: its first statement has that context
pub record Opened (p : Code) (v : Verdict ⊤) (inside : Context) (s t : Scope) (mark : Mark) : Type 0 where
  pub holds : v ≡ fine
  pub context : context_of t ≡ inside
  pub began : Began p s mark t
  pub ready : IsReady p (context_of t)
  pub locals : mark.locals ≤ length t.locals.items
  pub changes : mark.changes ≤ length t.trail.items
  pub groups : mark.groups ≤ length t.group_trail.items

-- it was entered where the context inside is ready and knows what is known outside
block_opens : (p : Code) (v : Verdict ⊤) (inside : Context) (s t : Scope) (mark : Mark) → IsReady p (context_of s)
    → Marks s mark → Grows s t → (v >> Holds inside) ≡ Holds (context_of t) → (v ≡ fine → IsReady p inside)
    → ((x : ℕ) → known (context_of s).group x ≡ true → known inside.group x ≡ true) → Opened p v inside s t mark
block_opens p v inside s t mark r k g a i n =
    let e = entered v inside (context_of t) a in
    record {
      holds = e.0;
      context = e.1;
      began = record {
        marks = k;
        grows = g;
        ready = r;
        knows = λ x h. ap (λ (c : Context). known c.group x) e.1 ∙ n x h;
      };
      ready = subst (IsReady p) (sym e.1) (i e.0);
      locals = marked_locals s t mark k g;
      changes = marked_changes s t mark k g;
      groups = marked_groups s t mark k g;
    }

-- a split block is entered
pub split_opens : (p : Code) (m : Definition) (gs : List NameAt) (s t : Scope) (mark : Mark) → StaysReady p m
    → IsReady p (context_of s) → Marks s mark → Grows s t
    → (may_split_all (context_of s).group gs >> Holds (while_split gs (context_of s))) ≡ Holds (context_of t)
    → Opened p (may_split_all (context_of s).group gs) (while_split gs (context_of s)) s t mark
split_opens p m gs s t mark stays r k g a = block_opens p (may_split_all (context_of s).group gs)
    (while_split gs (context_of s)) s t mark r k g a (stays.split gs (context_of s) r)
    (known_while_split gs (context_of s))

-- an atomic block is entered
pub atomic_opens : (p : Code) (m : Definition) (x : NameAt) (s t : Scope) (mark : Mark) → StaysReady p m
    → IsReady p (context_of s) → Marks s mark → Grows s t
    → (may_lock (context_of s).group x >> Holds (while_locked x.name (context_of s))) ≡ Holds (context_of t)
    → Opened p (may_lock (context_of s).group x) (while_locked x.name (context_of s)) s t mark
atomic_opens p m x s t mark stays r k g a = block_opens p (may_lock (context_of s).group x)
    (while_locked x.name (context_of s)) s t mark r k g a (stays.lock x (context_of s) r)
    (known_while_locked x.name (context_of s))

-- what was entered is judged from the context inside
pub opened_decides : (p : Code) (m : Definition) (b : Lines) (v : Verdict ⊤) (inside : Context) (s t : Scope)
    (mark : Mark) → Opened p v inside s t mark → (v >> inside_verdict p m b (context_of s) inside)
    ≡ inside_verdict p m b (context_of s) (context_of t)
opened_decides p m b v inside s t mark o =
    ap (λ (w : Verdict ⊤). w >> inside_verdict p m b (context_of s) inside) o.holds
    ∙ ap (inside_verdict p m b (context_of s)) (sym o.context)

-- what was marked before a scope grew is there, and stays there
pub still_marked : (s t : Scope) (n m k : ℕ) → Grows s t → n ≤ length s.locals.items → m ≤ length s.trail.items
    → k ≤ length s.group_trail.items
    → (n ≤ length t.locals.items) × (m ≤ length t.trail.items) × (k ≤ length t.group_trail.items)
still_marked s t n m k g a b d = (
  omega (arith, a, grown_longer s t g),
  omega (arith, b, ap length g.trail, length-take (length s.trail.items) t.trail.items),
  omega (arith, d, ap length g.group_trail, length-take (length s.group_trail.items) t.group_trail.items),
)

-- a block, and what is compared after it
pub body_is_compared : (p : Code) (m : Definition) (b : Lines) (rule : Rule) (at : Spot) (s u : Scope)
    → block_verdict p m b (context_of s) ≡ Holds (context_of u) → Ended s u
    → body_verdict p m b rule at (context_of s) ≡ keeps_held p (length s.trail.items) u rule at
body_is_compared p m b rule at s u e g =
    ap (λ (v : Verdict Context). v >>= λ d.
    require (hold_alike p (context_of s) d (context_of s)) rule at >> Holds (context_of s)) e
    ∙ ap (λ (c : Context). require (hold_alike p c (context_of u) c) rule at >> Holds c)
    (sym (before_is s u g.grows g.locals g.group_trail))

-- what changed is compared, and undone
pub changes_are_compared : (p : Code) (s t : Scope) (n : ℕ) (rule : Rule) (at : Spot) (b : Bool)
    → length s.at.items ≡ length p.names
    → b ≡ all_same (now_held (drop n s.trail.items) s.locals.items) t.locals.items
    → t.locals.items ≡ rewound (drop n s.trail.items) s.locals.items → t.groups.perms.items ≡ s.groups.perms.items
    → keeps_held p n s rule at ≡ (require b rule at >> Holds (context_of t))
changes_are_compared p s t n rule at b w v l g =
    ap (λ (k : Bool). require k rule at >> Holds (before n s)) (compared p s n (omega (arith, w))
    ∙ sym (v ∙ ap (all_same (now_held (drop n s.trail.items) s.locals.items)) l))
    ∙ ap (λ (c : Context). require b rule at >> Holds c)
    (same_context (before n s) (context_of t) (ap local_in (sym l)) (ap groups_in (sym g)))

-- one statement more of a block
pub next_line : (p : Code) (m : Definition) (xs : List Stmt) (i : ℕ) (x : Stmt) (b : Lines) (c0 c d : Context)
    → i < length xs → x ≡ get_or xs i x → judge_lines p m b c0 ≡ judge_lines p m (lines_from (drop i xs)) c
    → judge_statement p m x.at (action x.kind) c ≡ Holds d
    → judge_lines p m b c0 ≡ judge_lines p m (lines_from (drop (i + 1) xs)) d
next_line p m xs i x b c0 c d l e r s =
    r ∙ ap (λ (ys : List Stmt). judge_lines p m (lines_from ys) c) (drop_more xs i x l
    ∙ ap (λ (y : Stmt). y ∷ drop (i + 1) xs) (sym e))
    ∙ ap (λ (v : Verdict Context). v >>= judge_lines p m (lines_from (drop (i + 1) xs))) s
