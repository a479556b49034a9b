-- A block and its end, and the forms that have blocks.
use Rattle.std.proofs.Common.{◌≡◌, ◌≤◌, ℕ, Bool, false, if◌then◌else◌, List, ◌∷◌, drop, length, Option, None, Some}
use Rattle.std.proofs.Common.{Result, arith, sym, ap, subst, ◌∙◌}
use Rattle.std.specs.Prelude.{is_some, ⊤}
use Rattle.ae_text.specs.declared.refusal.Spot.{Spot}
use Rattle.ae_text.specs.declared.refusal.Rule.TheVariants as rule
use Rattle.ae_text.specs.declared.refusal.Deny.{Deny}
use Rattle.ae_tree.specs.declared.tree.NameAt.{NameAt}
use Rattle.ae_tree.specs.declared.form.Form.TheVariants as formed
use Rattle.ae_tree.specs.Plain.{Action, Expression, Lines, Definition, Code, Chooses, ChoosesElse, Repeats, Splits, Locks}
use Rattle.ae_rules.specs.declared.uses.Resource.{Resource}
use Rattle.ae_rules.specs.declared.uses.Resource.TheVariants as resource
use Rattle.ae_rules.specs.declared.uses.Mode.{Mode}
use Rattle.ae_rules.specs.declared.held.GroupPerm.{GroupPerm}
use Rattle.ae_rules.specs.Edges.{Uses}
use Rattle.ae_rules.specs.Verdict.{Verdict, Holds, ◌>>=◌, ◌>>◌, require}
use Rattle.ae_rules.specs.Groups.{may_split_all, may_lock}
use Rattle.ae_rules.specs.Context.{Context, closed, hold_alike}
use Rattle.ae_rules.specs.Expressions.{is_value}
use Rattle.ae_rules.specs.Statements.{judge_statement, judge_lines, end_block, groups_stay, branches_meet, loop_keeps}
use Rattle.ae_rules.specs.Statements.{while_split, while_locked}
use Rattle.ae_rules.specs.Uses.{◌∪◌, stronger, of_each, whole_group, together, outside, all_but, is_seen, value_uses}
use Rattle.ae_rules.specs.Uses.{lines_use}
use Rattle.ae_rules.specs.Blocks.{block_at, scenes_among}
use Rattle.ae_scope.specs.declared.scope.Scope.{Scope}
use Rattle.ae_scope.specs.declared.slot.Mark.{Mark}
use Rattle.ae_scope.specs.Scope.{context_of, enters_split, enters_atomic}
use Rattle.ae_scope.specs.Slots.{names}
use Rattle.ae_scope.specs.Grows.{Grows, Ends, Marks}
use Rattle.ae_uses.specs.declared.opened.OpenedBlock.{OpenedBlock}
use Rattle.ae_uses.specs.declared.used.Used.{Used}
use Rattle.ae_uses.specs.Outside.{without_group}
use Rattle.ae_uses.specs.Used.{Adds, used_as}
use Rattle.ae_bodies.specs.Passed.{IsHeld, IsPassed, Passes, PassesBlock, PassesInside, PassesBranch}
use Rattle.ae_bodies.proofs.from_rules.PathLemmas.{first_holds}
use Rattle.ae_bodies.proofs.from_scope.ChangeLemmas.{names_rewound}
use Rattle.ae_bodies.proofs.from_scope.ContextLemmas.{groups_in}
use Rattle.ae_bodies.proofs.from_scope.StackLemmas.{there, stack_is, ended, groups_ended, length_ended, grows_cut}
use Rattle.ae_bodies.proofs.from_check.BlockLemmas.{still_marked}
use Rattle.ae_bodies.proofs.from_uses.UsedLemmas.{adds_one_then_other, stronger_in_turn}
use Rattle.ae_bodies.proofs.PassedLemmas.{opens_none, opens_both, passes_as}

-- ---- what is seen at a block's end

-- the names are those from outside
names_ended : (s t u : Scope) (mark : Mark) → Marks s mark → Grows s t → Ends mark t u
    → names u.locals.items ≡ names s.locals.items
names_ended s t u mark m g e =
    sym (names_rewound (drop (length s.trail.items) u.trail.items) u.locals.items)
    ∙ ap names (stack_is s u (grows_cut s t u mark m g e) (length_ended s t u mark m g e))

-- as much is seen as outside
seen_ended : (s t u : Scope) (mark : Mark) → Marks s mark → Grows s t → Ends mark t u → (r : Resource)
    → is_seen (context_of u) r ≡ is_seen (context_of s) r
seen_ended s t u mark m g e (resource.Local x) = there u.locals.items s.locals.items x (names_ended s t u mark m g e)
seen_ended s t u mark m g e (resource.Group x) =
    ap (λ (gs : List (Option GroupPerm)). is_some (groups_in gs x)) (groups_ended s t u mark m g e)

if_seen : (b d : Bool) (x y : Option Mode) → b ≡ d → x ≡ y → (if b then x else None) ≡ (if d then y else None)
if_seen b d x y e f =
    ap (λ (z : Bool). if z then x else None) e ∙ ap (λ (z : Option Mode). if d then z else None) f

left_out_alike : (but : Option ℕ) (a b : Uses) → ((r : Resource) → a r ≡ b r) → (r : Resource)
    → without_group but a r ≡ without_group but b r
left_out_alike None a b e r = e r
left_out_alike (Some g) a b e r = ap (λ (o : Option Mode). all_but (resource.Group g) (λ (s : Resource). o) r) (e r)

-- a block ends, and its uses are handed on
pub inside_passes : (p : Code) (m : Definition) (n : ℕ) (b : Lines) (but : Option ℕ) (s t d u : Scope) (mark : Mark)
    (os qs : List OpenedBlock) (inside v w : Used) → Marks s mark → Grows s t → Grows s d → Ends mark d u
    → PassesBlock p m n b (context_of t) (context_of d) os qs inside
    → Adds v (without_group but (outside (context_of u) (used_as inside))) w
    → PassesInside p m n b but (context_of s) (context_of t) (context_of u) os qs v w
inside_passes p m n b but s t d u mark os qs inside v w k f g e h a = record {
  last = context_of d;
  judged = h.judged;
  closes = ended s d u mark k g e;
  opens = h.opens;
  uses = record {
    at = λ r. a.at r ∙ ap (stronger (used_as v r)) (left_out_alike but (outside (context_of u) (used_as inside))
        (outside (context_of s) (lines_use p m b (context_of t)))
        (λ y. if_seen (is_seen (context_of u) y) (is_seen (context_of s) y) (used_as inside y)
        (lines_use p m b (context_of t) y) (seen_ended s d u mark k g e y) (h.uses y)) r);
  };
}

-- a condition and a block, and then all is as before
pub branch_passes : (p : Code) (m : Definition) (n : ℕ) (b : Lines) (e : Expression) (c d k : Context)
    (os qs : List OpenedBlock) (u v w : Used) → k ≡ c → Adds u (value_uses p c e) v
    → PassesInside p m n b None c c d os qs v w → PassesBranch p m n b e c k os qs u w
branch_passes p m n b e c d k os qs u v w q h i = record {
  back = q;
  opens = i.opens;
  uses = adds_one_then_other u v w (value_uses p c e) (outside c (lines_use p m b c)) h i.uses;
}

-- what a mark counts is still there
pub still_there : (s t : Scope) (mark : Mark) → Marks s mark → Grows s t
    → (mark.locals ≤ length t.locals.items) × (mark.groups ≤ length t.group_trail.items)
still_there s t mark k g =
    let h = still_marked s t mark.locals mark.changes mark.groups g (omega (arith, k.locals)) (omega (arith, k.changes))
    (omega (arith, k.groups)) in (h.0, h.2)

-- ---- what a judged statement says of its blocks

-- the statements of a block that ends are judged
ends_after : (p : Code) (m : Definition) (b : Lines) (outer c d : Context)
    → (judge_lines p m b c >>= end_block p outer b) ≡ Holds d
    → (x : Context) × (judge_lines p m b c ≡ Holds x) × (d ≡ closed outer x)
ends_after p m b outer c d h =
    let l = first_holds (judge_lines p m b c) (end_block p outer b) d h in
    let g = first_holds (groups_stay p outer l.0 b) (λ _. Holds (closed outer l.0)) d l.2 in
    (l.0, l.1, let q : closed outer l.0 ≡ d = cc in sym q)

-- where a block ends, that context is after it
ends_so : (p : Code) (m : Definition) (b : Lines) (outer c d x : Context)
    → (judge_lines p m b c >>= end_block p outer b) ≡ Holds d → judge_lines p m b c ≡ Holds x → d ≡ closed outer x
ends_so p m b outer c d x h j =
    let r = ends_after p m b outer c d h in
    let q : r.0 ≡ x = cc (r.1, j) in r.2 ∙ ap (closed outer) q

-- a choice with one branch
pub choice_is_held : (p : Code) (m : Definition) (at : Spot) (e : Expression) (n : ℕ) (b : Lines) (c : Context)
    → IsHeld (judge_statement p m at (Chooses e n b) c)
    → IsHeld (judge_lines p m b c) × (judge_statement p m at (Chooses e n b) c ≡ Holds c)
choice_is_held p m at e n b c (d, h) =
    let r = first_holds (is_value p c formed.Bool e)
    (λ _. (judge_lines p m b c >>= end_block p c b) >>= λ x. branches_meet p c at x c) d h in
    let t = first_holds (judge_lines p m b c >>= end_block p c b) (λ x. branches_meet p c at x c) d r.2 in
    let l = ends_after p m b c c t.0 t.1 in
    let q = first_holds (require (hold_alike p c t.0 c) rule.BranchesDiffer at) (λ _. Holds c) d t.2 in
    let i : c ≡ d = cc in ((l.0, l.1), h ∙ ap Holds (sym i))

-- a loop
pub loop_is_held : (p : Code) (m : Definition) (at : Spot) (e : Expression) (n : ℕ) (b : Lines) (c : Context)
    → IsHeld (judge_statement p m at (Repeats e n b) c)
    → IsHeld (judge_lines p m b c) × (judge_statement p m at (Repeats e n b) c ≡ Holds c)
loop_is_held p m at e n b c (d, h) =
    let r = first_holds (is_value p c formed.Bool e)
    (λ _. (judge_lines p m b c >>= end_block p c b) >>= λ x. loop_keeps p c at x) d h in
    let t = first_holds (judge_lines p m b c >>= end_block p c b) (λ x. loop_keeps p c at x) d r.2 in
    let l = ends_after p m b c c t.0 t.1 in
    let q = first_holds (require (hold_alike p c t.0 c) rule.LoopChanges at) (λ _. Holds c) d t.2 in
    let i : c ≡ d = cc in ((l.0, l.1), h ∙ ap Holds (sym i))

-- a choice with two branches: what is known after the second is known after it
pub record BothAreHeld (p : Code) (m : Definition) (at : Spot) (e : Expression) (n : ℕ) (b : Lines) (k : ℕ) (b' : Lines)
    (c : Context) : Type 0 where
  pub first : IsHeld (judge_lines p m b c)
  pub second : IsHeld (judge_lines p m b' c)
  pub after : (x : Context) → judge_lines p m b' c ≡ Holds x
      → judge_statement p m at (ChoosesElse e n b k b') c ≡ Holds (closed c x)

pub both_are_held : (p : Code) (m : Definition) (at : Spot) (e : Expression) (n : ℕ) (b : Lines) (k : ℕ) (b' : Lines)
    (c : Context) → IsHeld (judge_statement p m at (ChoosesElse e n b k b') c) → BothAreHeld p m at e n b k b' c
both_are_held p m at e n b k b' c (d, h) =
    let other : Context → Verdict Context = λ x. (judge_lines p m b' c >>= end_block p c b') >>= λ y.
    branches_meet p c at x y in
    let r = first_holds (is_value p c formed.Bool e) (λ _. (judge_lines p m b c >>= end_block p c b) >>= other) d h in
    let t = first_holds (judge_lines p m b c >>= end_block p c b) other d r.2 in
    let i = ends_after p m b c c t.0 t.1 in
    let s = first_holds (judge_lines p m b' c >>= end_block p c b') (λ y. branches_meet p c at t.0 y) d t.2 in
    let j = ends_after p m b' c c s.0 s.1 in
    let q = first_holds (require (hold_alike p c t.0 s.0) rule.BranchesDiffer at) (λ _. Holds s.0) d s.2 in
    let z : s.0 ≡ d = cc in
    record {
      first = (i.0, i.1);
      second = (j.0, j.1);
      after = λ x l. h ∙ ap Holds (sym z ∙ ends_so p m b' c c s.0 x s.1 l);
    }

-- a split block may be entered, and its statements are judged
pub split_is_held : (p : Code) (m : Definition) (at : Spot) (gs : List NameAt) (n : ℕ) (b : Lines) (c : Context)
    → IsHeld (judge_statement p m at (Splits gs n b) c)
    → (enters_split gs c ≡ Holds (while_split gs c)) × IsHeld (judge_lines p m b (while_split gs c))
split_is_held p m at gs n b c (d, h) =
    let r = first_holds (may_split_all c.group gs) (λ _. judge_lines p m b (while_split gs c) >>= end_block p c b) d h in
    let l = ends_after p m b c (while_split gs c) d r.2 in
    (ap (λ (v : Verdict ⊤). v >> Holds (while_split gs c)) r.1, (l.0, l.1))

split_after : (p : Code) (m : Definition) (at : Spot) (gs : List NameAt) (n : ℕ) (b : Lines) (c x : Context)
    → IsHeld (judge_statement p m at (Splits gs n b) c) → judge_lines p m b (while_split gs c) ≡ Holds x
    → judge_statement p m at (Splits gs n b) c ≡ Holds (closed c x)
split_after p m at gs n b c x (d, h) j =
    let r = first_holds (may_split_all c.group gs) (λ _. judge_lines p m b (while_split gs c) >>= end_block p c b) d h in
    h ∙ ap Holds (ends_so p m b c (while_split gs c) d x r.2 j)

-- an atomic block may be entered, and its statements are judged
pub lock_is_held : (p : Code) (m : Definition) (at : Spot) (g : NameAt) (n : ℕ) (b : Lines) (c : Context)
    → IsHeld (judge_statement p m at (Locks g n b) c)
    → (enters_atomic g c ≡ Holds (while_locked g.name c)) × IsHeld (judge_lines p m b (while_locked g.name c))
lock_is_held p m at g n b c (d, h) =
    let r = first_holds (may_lock c.group g) (λ _. judge_lines p m b (while_locked g.name c) >>= end_block p c b) d h in
    let l = ends_after p m b c (while_locked g.name c) d r.2 in
    (ap (λ (v : Verdict ⊤). v >> Holds (while_locked g.name c)) r.1, (l.0, l.1))

lock_after : (p : Code) (m : Definition) (at : Spot) (g : NameAt) (n : ℕ) (b : Lines) (c x : Context)
    → IsHeld (judge_statement p m at (Locks g n b) c) → judge_lines p m b (while_locked g.name c) ≡ Holds x
    → judge_statement p m at (Locks g n b) c ≡ Holds (closed c x)
lock_after p m at g n b c x (d, h) j =
    let r = first_holds (may_lock c.group g) (λ _. judge_lines p m b (while_locked g.name c) >>= end_block p c b) d h in
    h ∙ ap Holds (ends_so p m b c (while_locked g.name c) d x r.2 j)

-- what was entered is this context
pub entered_so : (v : Verdict ⊤) (c d : Context) → (v >> Holds c) ≡ Holds d → d ≡ c
entered_so v c d h = let q = first_holds v (λ _. Holds c) d h in let i : c ≡ d = cc in sym i

-- ---- the forms that have blocks

pub choice_passes : (p : Code) (m : Definition) (at : Spot) (e : Expression) (n : ℕ) (b : Lines) (c d : Context)
    (os qs : List OpenedBlock) (u w : Used) → IsHeld (judge_statement p m at (Chooses e n b) c)
    → PassesBranch p m n b e c d os qs u w → Passes p m at (Chooses e n b) c d os qs u w
choice_passes p m at e n b c d os qs u w h k = record {
  judged = (choice_is_held p m at e n b c h).1 ∙ ap Holds (sym k.back);
  opens = k.opens;
  uses = k.uses;
}

pub loop_passes : (p : Code) (m : Definition) (at : Spot) (e : Expression) (n : ℕ) (b : Lines) (c d : Context)
    (os qs : List OpenedBlock) (u w : Used) → IsHeld (judge_statement p m at (Repeats e n b) c)
    → PassesBranch p m n b e c d os qs u w → Passes p m at (Repeats e n b) c d os qs u w
loop_passes p m at e n b c d os qs u w h k = record {
  judged = (loop_is_held p m at e n b c h).1 ∙ ap Holds (sym k.back);
  opens = k.opens;
  uses = k.uses;
}

pub both_pass : (p : Code) (m : Definition) (at : Spot) (e : Expression) (n : ℕ) (b : Lines) (k : ℕ) (b' : Lines)
    (c d z : Context) (os qs rs : List OpenedBlock) (u v w : Used)
    → IsHeld (judge_statement p m at (ChoosesElse e n b k b') c) → PassesBranch p m n b e c d os qs u v
    → PassesInside p m k b' None d d z qs rs v w → Passes p m at (ChoosesElse e n b k b') c z os rs u w
both_pass p m at e n b k b' c d z os qs rs u v w h f i =
    let g : PassesInside p m k b' None c c z qs rs v w =
    subst (λ (x : Context). PassesInside p m k b' None x x z qs rs v w) f.back i in
    record {
      judged = (both_are_held p m at e n b k b' c h).after g.last g.judged ∙ ap Holds (sym g.closes);
      opens = opens_both p ((n, block_at m b c) ∷ scenes_among p m false b c)
          ((k, block_at m b' c) ∷ scenes_among p m false b' c) os qs rs f.opens g.opens;
      uses = record {
        at = λ r. (adds_one_then_other u v w (value_uses p c e ∪ outside c (lines_use p m b c))
            (outside c (lines_use p m b' c)) f.uses g.uses).at r
            ∙ ap (stronger (used_as u r)) (stronger_in_turn (value_uses p c e r) (outside c (lines_use p m b c) r)
            (outside c (lines_use p m b' c) r));
      };
    }

pub split_passes : (p : Code) (m : Definition) (at : Spot) (gs : List NameAt) (n : ℕ) (b : Lines) (c i z : Context)
    (os qs : List OpenedBlock) (u v w : Used) → IsHeld (judge_statement p m at (Splits gs n b) c)
    → i ≡ while_split gs c → Adds u (of_each (λ (g : NameAt). whole_group g.name) gs) v
    → PassesInside p m n b None c i z os qs v w → Passes p m at (Splits gs n b) c z os qs u w
split_passes p m at gs n b c i z os qs u v w h q a k =
    let g : PassesInside p m n b None c (while_split gs c) z os qs v w =
    subst (λ (x : Context). PassesInside p m n b None c x z os qs v w) q k in
    record {
      judged = split_after p m at gs n b c g.last h g.judged ∙ ap Holds (sym g.closes);
      opens = g.opens;
      uses = adds_one_then_other u v w (of_each (λ (x : NameAt). whole_group x.name) gs)
          (outside c (lines_use p m b (while_split gs c))) a g.uses;
    }

-- the blocks in an atomic block are opened apart
pub lock_passes : (p : Code) (m : Definition) (at : Spot) (y : NameAt) (n : ℕ) (b : Lines) (c i z : Context)
    (os ks qs : List OpenedBlock) (u v w : Used) → IsHeld (judge_statement p m at (Locks y n b) c)
    → i ≡ while_locked y.name c → Adds u (together y.name) v
    → PassesInside p m n b (Some y.name) c i z ks qs v w → Passes p m at (Locks y n b) c z os os u w
lock_passes p m at y n b c i z os ks qs u v w h q a k =
    let g : PassesInside p m n b (Some y.name) c (while_locked y.name c) z ks qs v w =
    subst (λ (x : Context). PassesInside p m n b (Some y.name) c x z ks qs v w) q k in
    record {
      judged = lock_after p m at y n b c g.last h g.judged ∙ ap Holds (sym g.closes);
      opens = opens_none p os;
      uses = adds_one_then_other u v w (together y.name)
          (all_but (resource.Group y.name) (outside c (lines_use p m b (while_locked y.name c)))) a g.uses;
    }

-- ---- what a call came to

-- where the statement is judged, it was gone through so
abbrev pub Goes : Code → Definition → Spot → Action → Context → Context → List OpenedBlock → List OpenedBlock → Used → Used
    → Result (Unit {0}) Deny → Type 0
Goes p m at a c d os qs u w r = IsHeld (judge_statement p m at a c)
    → IsPassed (λ (x : Unit {0}). Passes p m at a c d os qs u w) r

pub goes_alike : (p : Code) (m : Definition) (at : Spot) (a b : Action) (c d : Context) (os qs : List OpenedBlock)
    (u w : Used) (r : Result (Unit {0}) Deny) → a ≡ b → Goes p m at b c d os qs u w r → Goes p m at a c d os qs u w r
goes_alike p m at a b c d os qs u w r e h = subst (λ (x : Action). Goes p m at x c d os qs u w r) (sym e) h

pub choice_goes : (p : Code) (m : Definition) (at : Spot) (e : Expression) (n : ℕ) (b : Lines) (c d : Context)
    (os qs : List OpenedBlock) (u w : Used) (r : Result (Unit {0}) Deny) → (IsHeld (judge_lines p m b c)
    → IsPassed (λ (x : Unit {0}). PassesBranch p m n b e c d os qs u w) r) → Goes p m at (Chooses e n b) c d os qs u w r
choice_goes p m at e n b c d os qs u w r k h = passes_as (λ (x : Unit {0}). PassesBranch p m n b e c d os qs u w)
    (λ (x : Unit {0}). Passes p m at (Chooses e n b) c d os qs u w) r
    (λ x y. choice_passes p m at e n b c d os qs u w h y) (k (choice_is_held p m at e n b c h).0)

pub loop_goes : (p : Code) (m : Definition) (at : Spot) (e : Expression) (n : ℕ) (b : Lines) (c d : Context)
    (os qs : List OpenedBlock) (u w : Used) (r : Result (Unit {0}) Deny) → (IsHeld (judge_lines p m b c)
    → IsPassed (λ (x : Unit {0}). PassesBranch p m n b e c d os qs u w) r) → Goes p m at (Repeats e n b) c d os qs u w r
loop_goes p m at e n b c d os qs u w r k h = passes_as (λ (x : Unit {0}). PassesBranch p m n b e c d os qs u w)
    (λ (x : Unit {0}). Passes p m at (Repeats e n b) c d os qs u w) r
    (λ x y. loop_passes p m at e n b c d os qs u w h y) (k (loop_is_held p m at e n b c h).0)

pub both_go : (p : Code) (m : Definition) (at : Spot) (e : Expression) (n : ℕ) (b : Lines) (k : ℕ) (b' : Lines)
    (c d z : Context) (os qs rs : List OpenedBlock) (u v w : Used) (r : Result (Unit {0}) Deny)
    → (IsHeld (judge_lines p m b c) → PassesBranch p m n b e c d os qs u v)
    → (IsHeld (judge_lines p m b' d) → IsPassed (λ (x : Unit {0}). PassesInside p m k b' None d d z qs rs v w) r)
    → Goes p m at (ChoosesElse e n b k b') c z os rs u w r
both_go p m at e n b k b' c d z os qs rs u v w r f i h =
    let held = both_are_held p m at e n b k b' c h in
    let g = f held.first in
    passes_as (λ (x : Unit {0}). PassesInside p m k b' None d d z qs rs v w)
    (λ (x : Unit {0}). Passes p m at (ChoosesElse e n b k b') c z os rs u w) r
    (λ x y. both_pass p m at e n b k b' c d z os qs rs u v w h g y)
    (i (subst (λ (x : Context). IsHeld (judge_lines p m b' x)) (sym g.back) held.second))

pub split_goes : (p : Code) (m : Definition) (at : Spot) (gs : List NameAt) (n : ℕ) (b : Lines) (c i z : Context)
    (os qs : List OpenedBlock) (u v w : Used) (r : Result (Unit {0}) Deny) → enters_split gs c ≡ Holds i
    → Adds u (of_each (λ (g : NameAt). whole_group g.name) gs) v
    → (IsHeld (judge_lines p m b i) → IsPassed (λ (x : Unit {0}). PassesInside p m n b None c i z os qs v w) r)
    → Goes p m at (Splits gs n b) c z os qs u w r
split_goes p m at gs n b c i z os qs u v w r e a k h =
    let q = entered_so (may_split_all c.group gs) (while_split gs c) i e in
    passes_as (λ (x : Unit {0}). PassesInside p m n b None c i z os qs v w)
    (λ (x : Unit {0}). Passes p m at (Splits gs n b) c z os qs u w) r
    (λ x y. split_passes p m at gs n b c i z os qs u v w h q a y)
    (k (subst (λ (x : Context). IsHeld (judge_lines p m b x)) (sym q) (split_is_held p m at gs n b c h).1))

pub lock_goes : (p : Code) (m : Definition) (at : Spot) (y : NameAt) (n : ℕ) (b : Lines) (c i z : Context)
    (os ks qs : List OpenedBlock) (u v w : Used) (r : Result (Unit {0}) Deny) → enters_atomic y c ≡ Holds i
    → Adds u (together y.name) v → (IsHeld (judge_lines p m b i)
    → IsPassed (λ (x : Unit {0}). PassesInside p m n b (Some y.name) c i z ks qs v w) r)
    → Goes p m at (Locks y n b) c z os os u w r
lock_goes p m at y n b c i z os ks qs u v w r e a k h =
    let q = entered_so (may_lock c.group y) (while_locked y.name c) i e in
    passes_as (λ (x : Unit {0}). PassesInside p m n b (Some y.name) c i z ks qs v w)
    (λ (x : Unit {0}). Passes p m at (Locks y n b) c z os os u w) r
    (λ x j. lock_passes p m at y n b c i z os ks qs u v w h q a j)
    (k (subst (λ (x : Context). IsHeld (judge_lines p m b x)) (sym q) (lock_is_held p m at y n b c h).1))
