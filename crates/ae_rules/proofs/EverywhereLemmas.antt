-- What judged statements keep is so of every context of a method.
use Rattle.std.proofs.Common.{◌≡◌, refl, sym, ap, ◌∙◌, subst, ℕ, zero, suc, nat_eq, Bool, true, false, if◌then◌else◌}
use Rattle.std.proofs.Common.{List, [], ◌∷◌, Option, None, Some}
use Rattle.std.specs.Prelude.{is_some, slice_get, ⊤}
use Rattle.std.specs.List.{All}
use Rattle.std.proofs.lemmas.Bool.{eqb-true}
use Rattle.std.proofs.lemmas.List.Elements.{All-append, All-nil, All-cons}
use Rattle.ae_text.specs.declared.refusal.Spot.{Spot}
use Rattle.ae_text.specs.declared.refusal.Rule.TheVariants as rule
use Rattle.ae_tree.specs.declared.tree.NameAt.{NameAt}
use Rattle.ae_tree.specs.declared.form.Form.TheVariants as f
use Rattle.ae_tree.specs.Form.{bare_names}
use Rattle.ae_tree.specs.WellShaped.{InBlocks, EachStatement}
use Rattle.ae_tree.specs.Plain.{Lines, End, Next, Definition, Code}
use Rattle.ae_tree.specs.Plain.{Action, Declares, Assigns, Stores, StoresAt, Calls, Chooses, ChoosesElse, Repeats}
use Rattle.ae_tree.specs.Plain.{Groups, Splits, Locks, Freezes, Shares, Prints, PrintsText, Asserts, Returns}
use Rattle.ae_rules.specs.declared.held.GroupPerm.{GroupPerm}
use Rattle.ae_rules.specs.declared.held.GroupPerm.TheVariants as group
use Rattle.ae_rules.specs.Verdict.{Verdict, Holds, ◌>>=◌, require, in_turn, given, judged}
use Rattle.ae_rules.specs.Lookups.{has_name}
use Rattle.ae_rules.specs.Table.{no_names}
use Rattle.ae_rules.specs.Groups.{Groups as GroupsKnown}
use Rattle.ae_rules.specs.Groups.{known, same_group_perm, may_split, may_split_all, may_lock, shared_in}
use Rattle.ae_rules.specs.Groups.{while_others_held_back, held_back}
use Rattle.ae_rules.specs.Context.{Context, closed, hold_alike}
use Rattle.ae_rules.specs.Expressions.{is_value}
use Rattle.ae_rules.specs.Statements.{groups_stay, end_block, while_split, while_locked, branches_meet, loop_keeps}
use Rattle.ae_rules.specs.Statements.{judge_statement, judge_lines}
use Rattle.ae_rules.specs.Judges.{start}
use Rattle.ae_rules.specs.Uses.{statement_at, contexts, context_at}
use Rattle.ae_rules.specs.Blocks.{block_at, Opened, scenes_in, scenes_among, scenes, all_scenes}
use Rattle.ae_rules.proofs.SeenLemmas.{required}
use Rattle.ae_rules.proofs.PathLemmas.{first_holds, Located}
use Rattle.ae_rules.proofs.GroupLemmas.{list_exclusive}
use Rattle.ae_rules.proofs.TruthLemmas.{held_is_one}
use Rattle.std.proofs.lemmas.Option.{same_Some}

-- ---- groups that are known

exclusive_known : (o : Option GroupPerm) → given o false (same_group_perm group.Exclusive) ≡ true → is_some o ≡ true
exclusive_known None e = absurd (cc)
exclusive_known (Some q) e = refl

shared_if : (b : Bool) (o : Option GroupPerm) → (b ≡ true → given o false (same_group_perm group.Exclusive) ≡ true)
    → is_some (if b then Some group.Shared else o) ≡ true → is_some o ≡ true
shared_if true o h e = exclusive_known o (h refl)
shared_if false o h e = e

-- what is known in a split block is known outside
pub split_known : (gs : List NameAt) (groups : GroupsKnown) (u : ⊤) → may_split_all groups gs ≡ Holds u → (g : ℕ)
    → known (shared_in gs groups) g ≡ true → known groups g ≡ true
split_known gs groups u e g k =
    let r = first_holds (in_turn (may_split groups) gs no_names) _ u e
    in shared_if (has_name (bare_names gs) g) (groups g) ((list_exclusive groups gs no_names).value r.0 r.1 g) k

back_if : (o : Option GroupPerm) → is_some (held_back o) ≡ true → is_some o ≡ true
back_if None e = absurd (cc)
back_if (Some q) e = refl

locked_if : (x g : ℕ) (groups : GroupsKnown) (b : Bool) → nat_eq x g ≡ b → known groups x ≡ true
    → is_some (if b then Some group.Protected else held_back (groups g)) ≡ true → known groups g ≡ true
locked_if x g groups true e k h = subst (λ (z : ℕ). known groups z ≡ true) (eqb-true x g e) k
locked_if x g groups false e k h = back_if (groups g) h

-- what is known in an atomic block is known outside
pub lock_known : (x : NameAt) (groups : GroupsKnown) (u : ⊤) → may_lock groups x ≡ Holds u → (g : ℕ)
    → known (while_others_held_back x.name groups) g ≡ true → known groups g ≡ true
lock_known x groups u e g k =
    let r = first_holds (require (known groups x.name) rule.UnknownGroup x.at) _ u e
    in locked_if x.name g groups (nat_eq x.name g) refl (required (known groups x.name) rule.UnknownGroup x.at r.0 r.1) k

-- ---- what is kept

-- a statement without blocks
abbrev pub is_flat : Action → Bool
is_flat (Chooses e n b) = false
is_flat (ChoosesElse e n b k b') = false
is_flat (Repeats e n b) = false
is_flat (Splits gs n b) = false
is_flat (Locks g n b) = false
is_flat _ = true

-- this holds of contexts, and is kept by judged statements of which that holds
pub record Kept (p : Code) (m : Definition) (I : Context → Type 0) (Q : Action → Type 0) : Type 0 where
  pub flat : (at : Spot) (a : Action) (c d : Context) → is_flat a ≡ true → Q a → I c → judge_statement p m at a c
      ≡ Holds d → I d
  pub split : (gs : List NameAt) (c : Context) (u : ⊤) → may_split_all c.group gs ≡ Holds u → I c → I (while_split gs c)
  pub lock : (g : NameAt) (c : Context) (u : ⊤) → may_lock c.group g ≡ Holds u → I c → I (while_locked g.name c)
  pub close : (b : Lines) (c first d : Context) (u : ⊤)
      → ((g : ℕ) → known first.group g ≡ true → known c.group g ≡ true) → I c → I d
      → judge_lines p m b first ≡ Holds d → groups_stay p c d b ≡ Holds u → I (closed c d)

-- a statement of a judged block, where the contexts before and after it have this
pub record Passed (p : Code) (m : Definition) (I : Context → Type 0) (a : Action) (v : Option Context) : Type 0 where
  pub place : Located p m a v
  pub before : I place.before
  pub after : I place.after

-- each context in a block has this, and so has the one after it
pub record Has (p : Code) (I : Context → Type 0) (x : Opened) : Type 0 where
  pub each : All I (contexts p x.1.method x.1.lines x.1.start)
  pub passed : (i : ℕ) (a : Action) → statement_at x.1.lines i ≡ Some a
      → Passed p x.1.method I a (context_at p x.1.method x.1.lines x.1.start i)
  pub after : (d : Context) → judge_lines p x.1.method x.1.lines x.1.start ≡ Holds d → I d

module _ (p : Code) (m : Definition) (I : Context → Type 0) (Q : Action → Type 0) (k : Kept p m I Q) where
  block_kept : (b : Lines) (c first e : Context) → ((g : ℕ) → known first.group g ≡ true → known c.group g ≡ true) → I c
      → ((d : Context) → judge_lines p m b first ≡ Holds d → I d) → (judge_lines p m b first >>= end_block p c b)
      ≡ Holds e → I e
  block_kept b c first e s i h l =
      let r = first_holds (judge_lines p m b first) (end_block p c b) e l in
      let t = first_holds (groups_stay p c r.0 b) (λ _. Holds (closed c r.0)) e r.2 in
      subst I (held_is_one (closed c r.0) e t.2) (k.close b c first r.0 t.0 s i (h r.0 r.1) r.1 t.1)

  branch_kept : (at : Spot) (c d e x : Context) → I e → branches_meet p c at d e ≡ Holds x → I x
  branch_kept at c d e x i h = let r = first_holds (require (hold_alike p c d e) rule.BranchesDiffer at)
      (λ _. Holds e) x h in subst I (held_is_one e x r.2) i

  mutual
    -- what is kept is so after each judged statement
    pub statement_kept : (at : Spot) (a : Action) (c d : Context) → Q a → InBlocks Q a → I c
        → judge_statement p m at a c ≡ Holds d → I d
    statement_kept at (Chooses e n b) c d q w i h =
        let r = first_holds (is_value p c f.Bool e)
        (λ _. (judge_lines p m b c >>= end_block p c b) >>= λ x. branches_meet p c at x c) d h in
        let t = first_holds (judge_lines p m b c >>= end_block p c b) (λ x. branches_meet p c at x c) d r.2 in
        branch_kept at c t.0 c d i t.2
    statement_kept at (ChoosesElse e n b l b') c d q w i h =
        let other : Context → Verdict Context = λ x. (judge_lines p m b' c >>= end_block p c b')
        >>= λ y. branches_meet p c at x y in
        let r = first_holds (is_value p c f.Bool e) (λ _. (judge_lines p m b c >>= end_block p c b) >>= other) d h in
        let t = first_holds (judge_lines p m b c >>= end_block p c b) other d r.2 in
        let s = first_holds (judge_lines p m b' c >>= end_block p c b') (λ y. branches_meet p c at t.0 y) d t.2 in
        branch_kept at c t.0 s.0 d (block_kept b' c c s.0 (λ g z. z) i (λ x z. lines_kept b' c x w.1 i z) s.1) s.2
    statement_kept at (Repeats e n b) c d q w i h =
        let r = first_holds (is_value p c f.Bool e)
        (λ _. (judge_lines p m b c >>= end_block p c b) >>= λ x. loop_keeps p c at x) d h in
        let t = first_holds (judge_lines p m b c >>= end_block p c b) (λ x. loop_keeps p c at x) d r.2 in
        let s = first_holds (require (hold_alike p c t.0 c) rule.LoopChanges at) (λ _. Holds c) d t.2 in
        subst I (held_is_one c d s.2) i
    statement_kept at (Splits gs n b) c d q w i h =
        let r = first_holds (may_split_all c.group gs) (λ _. judge_lines p m b (while_split gs c) >>= end_block p c b)
        d h in
        block_kept b c (while_split gs c) d (split_known gs c.group r.0 r.1) i
        (λ x z. lines_kept b (while_split gs c) x w (k.split gs c r.0 r.1 i) z) r.2
    statement_kept at (Locks g n b) c d q w i h =
        let r = first_holds (may_lock c.group g) (λ _. judge_lines p m b (while_locked g.name c) >>= end_block p c b)
        d h in
        block_kept b c (while_locked g.name c) d (lock_known g c.group r.0 r.1) i
        (λ x z. lines_kept b (while_locked g.name c) x w (k.lock g c r.0 r.1 i) z) r.2
    statement_kept at (Declares t x e) c d q w i h = k.flat at (Declares t x e) c d refl q i h
    statement_kept at (Assigns x e) c d q w i h = k.flat at (Assigns x e) c d refl q i h
    statement_kept at (Stores path e) c d q w i h = k.flat at (Stores path e) c d refl q i h
    statement_kept at (StoresAt path j e) c d q w i h = k.flat at (StoresAt path j e) c d refl q i h
    statement_kept at (Calls j) c d q w i h = k.flat at (Calls j) c d refl q i h
    statement_kept at (Groups g) c d q w i h = k.flat at (Groups g) c d refl q i h
    statement_kept at (Freezes x) c d q w i h = k.flat at (Freezes x) c d refl q i h
    statement_kept at (Shares x g) c d q w i h = k.flat at (Shares x g) c d refl q i h
    statement_kept at (Prints e) c d q w i h = k.flat at (Prints e) c d refl q i h
    statement_kept at (PrintsText s) c d q w i h = k.flat at (PrintsText s) c d refl q i h
    statement_kept at (Asserts e) c d q w i h = k.flat at (Asserts e) c d refl q i h
    statement_kept at (Returns e) c d q w i h = k.flat at (Returns e) c d refl q i h

    lines_kept : (b : Lines) (c d : Context) → EachStatement Q b → I c → judge_lines p m b c ≡ Holds d → I d
    lines_kept End c d w i h = subst I (held_is_one c d h) i
    lines_kept (Next at a rest) c d w i h =
        let r = first_holds (judge_statement p m at a c) (judge_lines p m rest) d h in
        lines_kept rest r.0 d w.2 (statement_kept at a c r.0 w.0 w.1 i r.1) r.2

  contexts_kept : (b : Lines) (c d : Context) → EachStatement Q b → I c → judge_lines p m b c ≡ Holds d
      → All I (contexts p m b c)
  contexts_kept End c d w i h = All-nil I
  contexts_kept (Next at a rest) c d w i h =
      let r = first_holds (judge_statement p m at a c) (judge_lines p m rest) d h in
      All-cons I c _ i (subst (λ (v : Verdict Context). All I (judged v [] (contexts p m rest))) (sym r.1)
      (contexts_kept rest r.0 d w.2 (statement_kept at a c r.0 w.0 w.1 i r.1) r.2))

  statement_passed : (b : Lines) (c d : Context) → EachStatement Q b → I c → judge_lines p m b c ≡ Holds d
      → (i : ℕ) (a : Action) → statement_at b i ≡ Some a
      → Passed p m I a (context_at p m b c i)
  statement_passed End c d w i h n a e = absurd (cc)
  statement_passed (Next at s rest) c d w i h zero a e =
      let r = first_holds (judge_statement p m at s c) (judge_lines p m rest) d h in
      record {
        place = record {
          before = c;
          after = r.0;
          at = at;
          is = refl;
          judged = ap (λ x. judge_statement p m at x c)
              (sym (same_Some s a e)) ∙ r.1;
        };
        before = i;
        after = statement_kept at s c r.0 w.0 w.1 i r.1;
      }
  statement_passed (Next at s rest) c d w i h (suc n) a e =
      let r = first_holds (judge_statement p m at s c) (judge_lines p m rest) d h in
      let l : Passed p m I a (context_at p m rest r.0 n) = statement_passed rest r.0 d w.2
      (statement_kept at s c r.0 w.0 w.1 i r.1) r.2 n a e in
      record {
        place = record {
          before = l.place.before;
          after = l.place.after;
          at = l.place.at;
          is = ap (λ v. slice_get (judged v [] (contexts p m rest)) n) r.1 ∙ l.place.is;
          judged = l.place.judged;
        };
        before = l.before;
        after = l.after;
      }

  -- a block, and those inside it
  with_block : (n : ℕ) (b : Lines) (c d : Context) (xs : List Opened) → EachStatement Q b → I c
      → judge_lines p m b c ≡ Holds d → All (Has p I) xs
      → All (Has p I) ((n, block_at m b c) ∷ xs)
  with_block n b c d xs w i h rest =
      All-cons (Has p I) (n, block_at m b c) xs
      (record {
        each = contexts_kept b c d w i h;
        passed = statement_passed b c d w i h;
        after =
            λ x l. lines_kept b c x w i l;
      }) rest

  with_atomic : (atomic : Bool) (xs : List Opened) → All (Has p I) xs → All (Has p I) (if atomic then xs else [])
  with_atomic true xs h = h
  with_atomic false xs h = All-nil (Has p I)

  mutual
    scenes_kept : (atomic : Bool) (at : Spot) (a : Action) (c d : Context) → Q a → InBlocks Q a → I c
        → judge_statement p m at a c ≡ Holds d → All (Has p I) (scenes_in p m atomic a c)
    scenes_kept atomic at (Chooses e n b) c d q w i h =
        let r = first_holds (is_value p c f.Bool e)
        (λ _. (judge_lines p m b c >>= end_block p c b) >>= λ x. branches_meet p c at x c) d h in
        let t = first_holds (judge_lines p m b c >>= end_block p c b) (λ x. branches_meet p c at x c) d r.2 in
        let l = first_holds (judge_lines p m b c) (end_block p c b) t.0 t.1 in
        with_block n b c l.0 _ w i l.1 (among_kept atomic b c l.0 w i l.1)
    scenes_kept atomic at (ChoosesElse e n b j b') c d q w i h =
        let other : Context → Verdict Context = λ x. (judge_lines p m b' c >>= end_block p c b')
        >>= λ y. branches_meet p c at x y in
        let r = first_holds (is_value p c f.Bool e) (λ _. (judge_lines p m b c >>= end_block p c b) >>= other) d h in
        let t = first_holds (judge_lines p m b c >>= end_block p c b) other d r.2 in
        let s = first_holds (judge_lines p m b' c >>= end_block p c b') (λ y. branches_meet p c at t.0 y) d t.2 in
        let l = first_holds (judge_lines p m b c) (end_block p c b) t.0 t.1 in
        let l' = first_holds (judge_lines p m b' c) (end_block p c b') s.0 s.1 in
        All-append (Has p I) ((n, block_at m b c) ∷ scenes_among p m atomic b c)
        ((j, block_at m b' c) ∷ scenes_among p m atomic b' c)
        (with_block n b c l.0 _ w.0 i l.1 (among_kept atomic b c l.0 w.0 i l.1))
        (with_block j b' c l'.0 _ w.1 i l'.1 (among_kept atomic b' c l'.0 w.1 i l'.1))
    scenes_kept atomic at (Repeats e n b) c d q w i h =
        let r = first_holds (is_value p c f.Bool e)
        (λ _. (judge_lines p m b c >>= end_block p c b) >>= λ x. loop_keeps p c at x) d h in
        let t = first_holds (judge_lines p m b c >>= end_block p c b) (λ x. loop_keeps p c at x) d r.2 in
        let l = first_holds (judge_lines p m b c) (end_block p c b) t.0 t.1 in
        with_block n b c l.0 _ w i l.1 (among_kept atomic b c l.0 w i l.1)
    scenes_kept atomic at (Splits gs n b) c d q w i h =
        let r = first_holds (may_split_all c.group gs) (λ _. judge_lines p m b (while_split gs c) >>= end_block p c b)
        d h in
        let l = first_holds (judge_lines p m b (while_split gs c)) (end_block p c b) d r.2 in
        let s = k.split gs c r.0 r.1 i in
        with_block n b (while_split gs c) l.0 _ w s l.1 (among_kept atomic b (while_split gs c) l.0 w s l.1)
    scenes_kept atomic at (Locks g n b) c d q w i h =
        let r = first_holds (may_lock c.group g) (λ _. judge_lines p m b (while_locked g.name c) >>= end_block p c b)
        d h in
        let l = first_holds (judge_lines p m b (while_locked g.name c)) (end_block p c b) d r.2 in
        let s = k.lock g c r.0 r.1 i in
        with_atomic atomic _ (with_block n b (while_locked g.name c) l.0 _ w s l.1
        (among_kept atomic b (while_locked g.name c) l.0 w s l.1))
    scenes_kept atomic at _ c d q w i h = All-nil (Has p I)

    among_kept : (atomic : Bool) (b : Lines) (c d : Context) → EachStatement Q b → I c → judge_lines p m b c ≡ Holds d
        → All (Has p I) (scenes_among p m atomic b c)
    among_kept atomic End c d w i h = All-nil (Has p I)
    among_kept atomic (Next at a rest) c d w i h =
        let r = first_holds (judge_statement p m at a c) (judge_lines p m rest) d h in
        All-append (Has p I) (scenes_in p m atomic a c)
        (judged (judge_statement p m at a c) [] (scenes_among p m atomic rest))
        (scenes_kept atomic at a c r.0 w.0 w.1 i r.1)
        (subst (λ (v : Verdict Context). All (Has p I) (judged v [] (scenes_among p m atomic rest))) (sym r.1)
        (among_kept atomic rest r.0 d w.2 (statement_kept at a c r.0 w.0 w.1 i r.1) r.2))

  -- what is so at a method's start is so in each of its contexts
  pub kept_everywhere : (d : Context) → EachStatement Q m.body → I (start p m) → judge_lines p m m.body (start p m)
      ≡ Holds d
      → All (Has p I) (all_scenes p m) × All (Has p I) (scenes p m)
  kept_everywhere d w i h = (
    with_block m.no m.body (start p m) d _ w i h (among_kept true m.body (start p m) d w i h),
    with_block m.no m.body (start p m) d _ w i h (among_kept false m.body (start p m) d w i h),
  )
