-- Every block of an accepted program has its context, and so has each statement in it.
use Rattle.std.proofs.Common.{arith, ◌≡◌, refl, sym, ap, ap₂, ◌∙◌, subst, ℕ, Bool, true, false, if◌then◌else◌, List}
use Rattle.std.proofs.Common.{[], ◌∷◌, ◌++◌, map}
use Rattle.std.specs.Prelude.{length}
use Rattle.std.specs.List.{All}
use Rattle.std.proofs.lemmas.List.{map-append}
use Rattle.std.proofs.lemmas.List.Elements.{All-append, All-nil, All-cons}
use Rattle.ae_text.specs.declared.refusal.Spot.{Spot}
use Rattle.ae_tree.specs.Limits.{statement_count}
use Rattle.ae_tree.specs.Plain.{Lines, End, Next, Definition, Code}
use Rattle.ae_tree.specs.Plain.{Action, Declares, Assigns, Stores, StoresAt, Calls, Chooses, ChoosesElse, Repeats}
use Rattle.ae_tree.specs.Plain.{Groups, Splits, Locks, Freezes, Shares, Prints, PrintsText, Asserts, Returns}
use Rattle.ae_tree.specs.declared.form.Form.TheVariants as f
use Rattle.ae_rules.specs.Verdict.{Verdict, Holds, ◌>>=◌, judged}
use Rattle.ae_rules.specs.Groups.{may_split_all, may_lock}
use Rattle.ae_rules.specs.Context.{Context}
use Rattle.ae_rules.specs.Expressions.{is_value}
use Rattle.ae_rules.specs.Statements.{while_split, while_locked, end_block, branches_meet, loop_keeps}
use Rattle.ae_rules.specs.Statements.{judge_statement, judge_lines}
use Rattle.ae_rules.specs.Judges.{start}
use Rattle.ae_rules.specs.Uses.{contexts}
use Rattle.ae_rules.specs.Blocks.{block_at, Numbered, blocks_in, blocks_among, blocks_of, Opened, scenes_in}
use Rattle.ae_rules.specs.Blocks.{scenes_among, scenes, all_scenes}
use Rattle.ae_rules.specs.BlockLaws.{as_text, IsReached, BlocksAreReached}
use Rattle.ae_rules.proofs.PathLemmas.{first_holds, JudgedLines, lines_then_end, method_judged}

-- each statement of judged lines has a context before it
all_contexts : (p : Code) (m : Definition) (b : Lines) (c d : Context) → judge_lines p m b c ≡ Holds d
    → length (contexts p m b c) ≡ statement_count b
all_contexts p m End c d h = refl
all_contexts p m (Next at a rest) c d h =
    let r = first_holds (judge_statement p m at a c) (judge_lines p m rest) d h in
    let later : length (judged (judge_statement p m at a c) [] (contexts p m rest)) ≡ statement_count rest =
    ap (λ v. length (judged v [] (contexts p m rest))) r.1 ∙ all_contexts p m rest r.0 d r.2 in
    omega (arith, later)

-- these blocks are those of the text, and are reached
record Whole (p : Code) (m : Definition) (xs : List Opened) (bs : List Numbered) : Type 0 where
  listed : map as_text xs ≡ bs
  reached : All (IsReached p m) xs

whole_none : (p : Code) (m : Definition) → Whole p m [] []
whole_none p m = record { listed = refl; reached = All-nil (IsReached p m) }

whole_both : (p : Code) (m : Definition) (xs ys : List Opened) (bs ds : List Numbered) → Whole p m xs bs
    → Whole p m ys ds → Whole p m (xs ++ ys) (bs ++ ds)
whole_both p m xs ys bs ds h k = record {
  listed = map-append as_text xs ys ∙ ap₂ (λ (a b : List Numbered). a ++ b) h.listed k.listed;
  reached = All-append (IsReached p m) xs ys h.reached k.reached;
}

-- a block, and those inside it
whole_block : (p : Code) (m : Definition) (n : ℕ) (b : Lines) (c : Context) (xs : List Opened) (bs : List Numbered)
    → JudgedLines p m b c → Whole p m xs bs
    → Whole p m ((n, block_at m b c) ∷ xs) ((n, b) ∷ bs)
whole_block p m n b c xs bs j h = record {
  listed = ap (λ (ys : List Numbered). (n, b) ∷ ys) h.listed;
  reached = All-cons (IsReached p m) (n, block_at m b c) xs
      (record { method = refl; statements = all_contexts p m b c j.0 j.1 }) h.reached;
}

abbrev if_atomic : {A : Type 0} → Bool → List A → List A
if_atomic b xs = if b then xs else []

whole_if : (p : Code) (m : Definition) (atomic : Bool) (xs : List Opened) (bs : List Numbered) → Whole p m xs bs
    → Whole p m (if_atomic atomic xs) (if_atomic atomic bs)
whole_if p m true xs bs h = h
whole_if p m false xs bs h = whole_none p m

mutual
  whole_in : (p : Code) (m : Definition) (atomic : Bool) (at : Spot) (a : Action) (c d : Context)
      → judge_statement p m at a c ≡ Holds d
      → Whole p m (scenes_in p m atomic a c) (blocks_in atomic a)
  whole_in p m atomic at (Chooses e n b) c d h =
      let r = first_holds (is_value p c f.Bool e)
      (λ _. (judge_lines p m b c >>= end_block p c b) >>= λ x. branches_meet p c at x c) d h in
      let j = lines_then_end p m b c c (λ x. branches_meet p c at x c) d r.2 in
      whole_block p m n b c _ _ j (whole_among p m atomic b c j.0 j.1)
  whole_in p m atomic at (ChoosesElse e n b k b') c d h =
      let other : Context → Verdict Context = λ x. (judge_lines p m b' c >>= end_block p c b')
      >>= λ y. branches_meet p c at x y in
      let r = first_holds (is_value p c f.Bool e) (λ _. (judge_lines p m b c >>= end_block p c b) >>= other) d h in
      let t = first_holds (judge_lines p m b c >>= end_block p c b) other d r.2 in
      let i = lines_then_end p m b c c other d r.2 in
      let j = lines_then_end p m b' c c (λ y. branches_meet p c at t.0 y) d t.2
      in whole_both p m _ _ _ _ (whole_block p m n b c _ _ i (whole_among p m atomic b c i.0 i.1))
      (whole_block p m k b' c _ _ j (whole_among p m atomic b' c j.0 j.1))
  whole_in p m atomic at (Repeats e n b) c d h =
      let r = first_holds (is_value p c f.Bool e)
      (λ _. (judge_lines p m b c >>= end_block p c b) >>= λ x. loop_keeps p c at x) d h in
      let j = lines_then_end p m b c c (λ x. loop_keeps p c at x) d r.2 in
      whole_block p m n b c _ _ j (whole_among p m atomic b c j.0 j.1)
  whole_in p m atomic at (Splits gs n b) c d h =
      let r = first_holds (may_split_all c.group gs) (λ _. judge_lines p m b (while_split gs c) >>= end_block p c b) d
      h in
      let l = first_holds (judge_lines p m b (while_split gs c)) (end_block p c b) d r.2 in
      whole_block p m n b (while_split gs c) _ _ (l.0, l.1) (whole_among p m atomic b (while_split gs c) l.0 l.1)
  whole_in p m atomic at (Locks g n b) c d h =
      let r = first_holds (may_lock c.group g) (λ _. judge_lines p m b (while_locked g.name c) >>= end_block p c b) d
      h in
      let l = first_holds (judge_lines p m b (while_locked g.name c)) (end_block p c b) d r.2 in whole_if p m atomic _ _ (whole_block p m n b (while_locked g.name c) _ _ (l.0, l.1)
      (whole_among p m atomic b (while_locked g.name c) l.0 l.1))
  whole_in p m atomic at (Declares t x e) c d h = whole_none p m
  whole_in p m atomic at (Assigns x e) c d h = whole_none p m
  whole_in p m atomic at (Stores path e) c d h = whole_none p m
  whole_in p m atomic at (StoresAt path i e) c d h = whole_none p m
  whole_in p m atomic at (Calls i) c d h = whole_none p m
  whole_in p m atomic at (Groups g) c d h = whole_none p m
  whole_in p m atomic at (Freezes x) c d h = whole_none p m
  whole_in p m atomic at (Shares x g) c d h = whole_none p m
  whole_in p m atomic at (Prints e) c d h = whole_none p m
  whole_in p m atomic at (PrintsText s) c d h = whole_none p m
  whole_in p m atomic at (Asserts e) c d h = whole_none p m
  whole_in p m atomic at (Returns e) c d h = whole_none p m

  whole_among : (p : Code) (m : Definition) (atomic : Bool) (b : Lines) (c d : Context) → judge_lines p m b c ≡ Holds d
      → Whole p m (scenes_among p m atomic b c) (blocks_among atomic b)
  whole_among p m atomic End c d h = whole_none p m
  whole_among p m atomic (Next at a rest) c d h =
      let r = first_holds (judge_statement p m at a c) (judge_lines p m rest) d h in
      whole_both p m (scenes_in p m atomic a c)
      (judged (judge_statement p m at a c) [] (scenes_among p m atomic rest)) (blocks_in atomic a)
      (blocks_among atomic rest)
      (whole_in p m atomic at a c r.0 r.1)
      (subst (λ v. Whole p m (judged v [] (scenes_among p m atomic rest)) (blocks_among atomic rest)) (sym r.1)
      (whole_among p m atomic rest r.0 d r.2))

pub blocks_are_reached : BlocksAreReached
blocks_are_reached p acc n m e =
    let j = method_judged p m acc (n, e) in
    let outer : Whole p m (scenes p m) (blocks_of false m) = whole_block p m m.no m.body (start p m) _ _ j
    (whole_among p m false m.body (start p m) j.0 j.1) in
    let all : Whole p m (all_scenes p m) (blocks_of true m) = whole_block p m m.no m.body (start p m) _ _ j
    (whole_among p m true m.body (start p m) j.0 j.1) in
    (outer.listed, outer.reached, all.listed, all.reached)
