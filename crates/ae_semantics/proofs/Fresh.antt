-- The tree before anything ran stands for the meaning past what stopped.
use Rattle.std.proofs.Common.{◌≡◌, ◌≢◌, ℕ, zero, suc, nat_eq, ℤ, Bool, true, false, ◌&&◌, List, [], ◌∷◌, ◌++◌, map}
use Rattle.std.proofs.Common.{Option, None, Some, Contains, inl, inr, refl, ap, sym, subst, ◌∙◌, arith}
use Rattle.std.proofs.lemmas.Bool.{eq-eqb}
use Rattle.std.proofs.lemmas.List.Elements.{Contains-append_left}
use Rattle.ae_tree.specs.Names.{main}
use Rattle.ae_tree.specs.Limits.{statement_count}
use Rattle.ae_tree.specs.Plain.{Lines, End, Next, Definition, Code}
use Rattle.ae_rules.specs.Verdict.{given}
use Rattle.ae_rules.specs.Lookups.{method_at, top_number, top_called}
use Rattle.ae_rules.specs.Instances.{Instance}
use Rattle.ae_semantics.specs.Observations.{Seen, Query, Mark, Ran, Turned, Entered, Asked, Used, Stopped}
use Rattle.ae_semantics.specs.Runs.{Run, Stops}
use Rattle.ae_semantics.specs.Meaning.{block, below}
use Rattle.ae_semantics.specs.Means.{Start, run_start, start_at, main_here, main_state, no_notes, notes_of, At}
use Rattle.ae_semantics.specs.Means.{ran_in, Meant}
use Rattle.ae_semantics.specs.Atom.{part}
use Rattle.ae_rules.specs.Paths.{is_prefix_of}
use Rattle.ae_semantics.specs.Regions.{Only, Region, Within}
use Rattle.ae_semantics.specs.Unfolding.{LiesIn, under_way, halt_place, StandsFor}
use Rattle.ae_semantics.specs.BlockTrees.{stage_lines, lines_at, how_many, BlockTree, FrameStage, Begun, Waiting}
use Rattle.ae_semantics.specs.BlockTrees.{all_wait}
use Rattle.ae_semantics.specs.BlockTrees.{nodes_from, from_nodes, unfinished_at, unfinished, halted, unfolded}
use Rattle.ae_semantics.specs.BlockTrees.{observed, results, results_at, turns, turns_at, betweens, betweens_at}
use Rattle.ae_semantics.specs.BlockTrees.{unfolded_at, running_at, running, main_entry, Happened, halted_at}
use Rattle.ae_semantics.specs.BlockTrees.{left_out, left_out_at, events, events_at, cells, cells_at}
use Rattle.ae_semantics.specs.Trails.{Trail, watching_machine, no_trail, watched_run, trail}
use Rattle.ae_semantics.specs.Report.{CellReport, AllPairs}
use Rattle.ae_semantics.specs.Stamps.{AreStamped, IsStamped, FreshIsStamped}
use Rattle.ae_semantics.specs.Laws.{FreshStandsFor}
use Rattle.ae_semantics.proofs.Watched.{watching_changes_nothing}
use Rattle.ae_semantics.proofs.Kept.{MayMark, Kept, kept_block}
use Rattle.ae_semantics.proofs.Alongside.{MayRun}

-- ---- a tree in which all statements wait

-- nothing is in the tree that no waiting statement gives
none_given : {A : Type 0} (give : Instance → FrameStage → List A) → ((q : Instance) → give q Waiting ≡ [])
    → (q : Instance) (j : ℕ) (x : Lines) → from_nodes give (nodes_from q j (all_wait x)) ≡ []
none_given give w q j End = refl
none_given give w q j (Next at a rest) = ap (λ xs. xs ++ from_nodes give (nodes_from q (suc j) (all_wait rest)))
    (w (q ++ (j ∷ []))) ∙ none_given give w q (suc j) rest

-- what holds of each thing of an empty list
of_none : {A : Type 0} (P : A → Type 0) (xs : List A) → xs ≡ [] → (x : A) → Contains xs x → P x
of_none P xs e x c = absurd (omega (arith, (subst (λ ys. Contains ys x) e c).1))

-- the tree has a stage for each statement
counted : (x : Lines) → statement_count x ≡ how_many (all_wait x)
counted End = refl
counted (Next at a rest) = let e : statement_count rest ≡ how_many (all_wait rest) = counted rest in omega arith

-- ---- paths

pub begins_with_itself : (q : Instance) → is_prefix_of q q ≡ true
begins_with_itself [] = refl
begins_with_itself (i ∷ q) = ap (λ b. b && is_prefix_of q q) (eq-eqb i i refl) ∙ begins_with_itself q

-- a test that still holds behind another one
and_still : (b c d : Bool) → (c ≡ true → d ≡ true) → b && c ≡ true → b && d ≡ true
and_still true c d k e = k e
and_still false c d k e = e

-- what lies in an instance has its beginning
begins_inside : (x q : Instance) (i : ℕ) → is_prefix_of x q ≡ true → is_prefix_of x (q ++ (i ∷ [])) ≡ true
begins_inside [] q i e = refl
begins_inside (a ∷ x) [] i e = absurd (cc e)
begins_inside (a ∷ x) (b ∷ q) i e = and_still (nat_eq a b) (is_prefix_of x q) (is_prefix_of x (q ++ (i ∷ [])))
    (begins_inside x q i) e

-- the path lies in an instance that is one of these places
record IsWithin (places : List Region) (q : Instance) : Type 0 where
  of : Instance
  there : Contains places (Within of)
  starts : is_prefix_of of q ≡ true

-- what lies in an unfinished task is under way
is_under_way : (tree : BlockTree) (q : Instance) → IsWithin (unfinished tree) q → LiesIn (under_way tree) q
is_under_way tree q w = (
  Within w.of,
  Contains-append_left (unfinished tree ++ map halt_place (halted tree)) (map Only (unfolded tree)) (Within w.of)
      (Contains-append_left (unfinished tree) (map halt_place (halted tree)) (Within w.of) w.there),
  w.starts,
)

-- each statement of a block that waits lies in one of the unfinished tasks
waiting : (places : List Region) (q : Instance) (j : ℕ) (x : Lines)
    → ((y : Region) → Contains (from_nodes unfinished_at (nodes_from q j (all_wait x))) y → Contains places y)
    → MayRun (IsWithin places) q j x
waiting places q j End sub = tt
waiting places q j (Next at a rest) sub = (
  record {
    of = q ++ (j ∷ []);
    there = sub (Within (q ++ (j ∷ []))) (0, omega arith, refl);
    starts =
        begins_with_itself (q ++ (j ∷ []));
  },
  waiting places q (suc j) rest (λ y c. sub y (suc c.0, omega (arith, c.1), c.2)),
)

-- ---- what is marked as run

-- each statement that was marked as run has an allowed path
abbrev AllMay : (Instance → Type 0) → List Mark → Type 0
AllMay ok [] = Unit {0}
AllMay ok (m ∷ ms) = MayMark ok m × AllMay ok ms

all_may_push : (ok : Instance → Type 0) (ms : List Mark) (m : Mark) → MayMark ok m → AllMay ok ms
    → AllMay ok (ms ++ (m ∷ []))
all_may_push ok [] m d h = (d, tt)
all_may_push ok (x ∷ ms) m d h = (h.0, all_may_push ok ms m d h.1)

all_may_ran : (ok : Instance → Type 0) (ms : List Mark) → AllMay ok ms → (x : At) → Contains (ran_in ms) x → ok x.path
all_may_ran ok [] h x c = absurd (omega (arith, c.1))
all_may_ran ok (Ran path at ∷ ms) h x (zero, l, e) = subst (λ (y : At). ok y.path) e h.0
all_may_ran ok (Ran path at ∷ ms) h x (suc k, l, e) = all_may_ran ok ms h.1 x (k, omega (arith, l), e)
all_may_ran ok (Turned path t ∷ ms) h x c = all_may_ran ok ms h.1 x c
all_may_ran ok (Entered name image ∷ ms) h x c = all_may_ran ok ms h.1 x c
all_may_ran ok (Asked name ask ∷ ms) h x c = all_may_ran ok ms h.1 x c
all_may_ran ok (Used path ∷ ms) h x c = all_may_ran ok ms h.1 x c
all_may_ran ok (Stopped path ending ∷ ms) h x c = all_may_ran ok ms h.1 x c

-- that all that ran lies in these places is kept by a run in them
ran_kept : (places : List Region) → Kept (λ ms w. AllMay (IsWithin places) ms) (IsWithin places)
ran_kept places = record {
  inner = λ q i h. record { of = h.of; there = h.there; starts = begins_inside h.of q i h.starts };
  mark = λ m ms w d h. all_may_push (IsWithin places) ms m d h;
  found = λ x ms w h. h;
  left = λ x ms w h. h;
}

-- ---- what was found

-- at every path a mark may be made
pub all_free : (q : Instance) (j : ℕ) (x : Lines) → MayRun (λ q. Unit {0}) q j x
all_free q j End = tt
all_free q j (Next at a rest) = (tt, all_free q (suc j) rest)

-- ---- main

-- the tree of a main
abbrev tree_of : Code → Definition → List ℤ → BlockTree
tree_of p m ints = Begun (record { state = main_state p m ints; log = []; cell = None }) (all_wait m.body)

-- main with this number, where a run begins
abbrev started_at : Code → List ℤ → ℕ → Definition → Option Start
started_at p ints n m = Some (record { here = main_here p n m; method = m; state = main_state p m ints })

-- its body, run
abbrev main_run : Code → List ℤ → ℕ → (Query → Option Seen) → ℕ → Definition → Lines → Run Trail
main_run p ints fuel table n m x = block (watching_machine p table) (below (watching_machine p table) fuel)
    (main_here p n m) x (main_state p m ints) (no_notes no_trail)

-- the method that is called has a number
numbered : (p : Code) (m : Definition) (o : Option ℕ) → given o None (method_at p) ≡ Some m
    → (n : ℕ) × (o ≡ Some n) × (method_at p n ≡ Some m)
numbered p m None e = absurd (cc e)
numbered p m (Some n) e = (n, refl, e)

-- a run begins with the body of main
started : (p : Code) (m : Definition) (ints : List ℤ) (n : ℕ) → top_number p main ≡ Some n → method_at p n ≡ Some m
    → run_start p ints ≡ started_at p ints n m
started p m ints n e d = ap (λ o. given o None (start_at p ints)) e
    ∙ ap (λ o. given o None (λ (m : Definition). started_at p ints n m)) d

-- a run begins where there is a main
pub start_there : (p : Code) (m : Definition) (ints : List ℤ) → top_called p main ≡ Some m
    → (x : Start) × (run_start p ints ≡ Some x)
start_there p m ints e =
    let n : (n : ℕ) × (top_number p main ≡ Some n) × (method_at p n ≡ Some m) = numbered p m (top_number p main) e in
    (record { here = main_here p n.0 m; method = m; state = main_state p m ints }, started p m ints n.0 n.1 n.2)

-- the run that is watched is that of main's body
run_is : (p : Code) (m : Definition) (ints : List ℤ) (fuel : ℕ) (table : Query → Option Seen) (n : ℕ)
    → run_start p ints ≡ started_at p ints n m
    → watched_run p ints fuel table ≡ main_run p ints fuel table n m m.body
run_is p m ints fuel table n e = ap (λ (o : Option Start). given o (Stops (no_notes no_trail))
    (λ (x : Start). block (watching_machine p table) (below (watching_machine p table) fuel) x.here x.method.body
    x.state (no_notes no_trail))) e

-- all statements that main runs lie in those that wait
all_inside : (p : Code) (m : Definition) (ints : List ℤ) (fuel : ℕ) (table : Query → Option Seen) (n : ℕ) (x : At)
    → Contains (ran_in (notes_of (main_run p ints fuel table n m m.body)).marks) x
    → IsWithin (unfinished (tree_of p m ints)) x.path
all_inside p m ints fuel table n x c =
    let places : List Region = unfinished (tree_of p m ints) in
    let ok : Instance → Type 0 = IsWithin places in
    all_may_ran ok (notes_of (main_run p ints fuel table n m m.body)).marks
    (kept_block (λ ms w. AllMay ok ms) ok (ran_kept places) p table fuel
    (main_here p n m) m.body (waiting places [] 0 m.body (λ y d. d)) (main_state p m ints) (no_notes no_trail) tt)
    x c

-- what the meaning past what stopped runs is what main's body runs
ran_by_main : (p : Code) (m : Definition) (ints : List ℤ) (fuel : ℕ) (table : Query → Option Seen) (n : ℕ)
    → run_start p ints ≡ started_at p ints n m
    → (x : At) → Contains (part p ints fuel table).ran x
    → Contains (ran_in (notes_of (main_run p ints fuel table n m m.body)).marks) x
ran_by_main p m ints fuel table n e x c = subst (λ (r : Run Trail). Contains (ran_in (notes_of r).marks) x)
    (run_is p m ints fuel table n e)
    (subst (λ (y : Meant). Contains y.ran x) (sym (watching_changes_nothing p ints fuel table)) c)

stands : (p : Code) (m : Definition) (ints : List ℤ) (fuel : ℕ) (n : ℕ) → run_start p ints ≡ started_at p ints n m
    → StandsFor p ints fuel (tree_of p m ints)
unfolding trail
stands p m ints fuel n e =
    let tree : BlockTree = tree_of p m ints in
    let table : Query → Option Seen = observed tree in
    record {
      each_left = of_none _ (results tree) (none_given results_at (λ q. refl) [] 0 m.body);
      each_turn = of_none _ (turns tree) (none_given turns_at (λ q. refl) [] 0 m.body);
      each_between = of_none _ (betweens tree) (none_given betweens_at (λ q. refl) [] 0 m.body);
      each_unfolded = of_none _ (unfolded tree) (none_given unfolded_at (λ q. refl) [] 0 m.body);
      first = (
        record { here = main_here p n m; method = m; state = main_state p m ints },
        e,
        (
          record { locals = λ x. refl; groups = λ g. refl; result = refl; log = refl; cell = refl },
          sym (counted m.body),
        ),
      );
      each_entered = of_none _ (running tree) (none_given running_at (λ q. refl) [] 0 m.body);
      each_halt = of_none _ (halted tree) (none_given halted_at (λ q. refl) [] 0 m.body);
      each_left_out = of_none _ (left_out tree) (none_given left_out_at (λ q. refl) [] 0 m.body);
      events_differ = subst (λ (xs : List Happened). AllPairs (λ d e. d.asking.ask.path ≢ e.asking.ask.path) xs)
          (sym (none_given events_at (λ q. refl) [] 0 m.body)) tt;
      cells_differ = subst (λ (xs : List CellReport). AllPairs (λ c d. c.name ≢ d.name) xs)
          (sym (none_given cells_at (λ q. refl) [] 0 m.body)) tt;
      each_event = of_none _ (events tree) (none_given events_at (λ q. refl) [] 0 m.body);
      each_cell = of_none _ (cells tree) (none_given cells_at (λ q. refl) [] 0 m.body);
      all_others = λ x c. inr (inl (is_under_way tree x.path
          (all_inside p m ints fuel table n x (ran_by_main p m ints fuel table n e x c))));
    }

pub fresh_stands_for : FreshStandsFor
fresh_stands_for p m ints fuel e =
    let x : (n : ℕ) × (top_number p main ≡ Some n) × (method_at p n ≡ Some m) = numbered p m (top_number p main) e in
    let s : run_start p ints ≡ started_at p ints x.0 m = started p m ints x.0 x.1 x.2 in (
      tree_of p m ints,
      ap (λ (o : Option Start). given o None
          (λ (y : Start). Some (Begun (main_entry y).values (all_wait y.method.body)))) s,
      stands p m ints fuel x.0 s,
    )

-- ---- its stamps

-- where nothing ran all is stamped
pub nothing_stamped : (p : Code) (clock : ℕ) → AreStamped p clock [] [] []
nothing_stamped p clock = record {
  differ = tt;
  below = of_none _ [] refl;
  ordered = λ d e c. absurd (of_none (λ x. ⊥) [] refl d c);
  spans = of_none _ [] refl;
  keeps = λ l k c. absurd (of_none (λ x. ⊥) [] refl l c);
  histories = of_none _ [] refl;
}

-- so it is in a tree in which nothing ran
stamped : (p : Code) (m : Definition) (ints : List ℤ) (clock : ℕ) → IsStamped p clock (tree_of p m ints)
stamped p m ints clock =
    subst (λ es. AreStamped p clock es (cells (tree_of p m ints)) (stage_lines (tree_of p m ints)))
    (sym (none_given events_at (λ q. refl) [] 0 m.body))
    (subst (λ cs. AreStamped p clock [] cs (stage_lines (tree_of p m ints)))
    (sym (none_given cells_at (λ q. refl) [] 0 m.body))
    (subst (AreStamped p clock [] []) (sym (none_given lines_at (λ q. refl) [] 0 m.body))
    (nothing_stamped p clock)))

pub fresh_is_stamped : FreshIsStamped
fresh_is_stamped p m ints clock e =
    let x : (n : ℕ) × (top_number p main ≡ Some n) × (method_at p n ≡ Some m) = numbered p m (top_number p main) e in (
      tree_of p m ints,
      ap (λ (o : Option Start). given o None
          (λ (y : Start). Some (Begun (main_entry y).values (all_wait y.method.body)))) (started p m ints x.0 x.1 x.2),
      (stamped) p m ints clock,
    )
