-- Where a run ends: at the turn of a loop that spends the fuel.
use Rattle.std.proofs.Common.{append-nil, ◌≡◌, ◌<◌, inl, inr, refl, sym, ap, subst, arith, ℕ, zero, suc, true, List, []}
use Rattle.std.proofs.Common.{◌∷◌, ◌++◌, map, Some, Contains, ◌⊎◌, nat_eq, nat_lt}
use Rattle.std.proofs.Math.Dec.{eqb-zero-suc}
use Rattle.std.proofs.lemmas.Bool.{eqb-true}
use Rattle.std.specs.Prelude.{pos}
use Rattle.ae_rules.specs.Instances.{Instance, Ordered}
use Rattle.ae_rules.specs.Paths.{comes_before, is_simple_at, is_prefix_of}
use Rattle.ae_semantics.specs.Places.{CellName}
use Rattle.ae_semantics.specs.declared.report.Ending.TheVariants.{Fuel}
use Rattle.ae_semantics.specs.declared.report.Piece.{Piece}
use Rattle.ae_semantics.specs.Observations.{OfLog, Ask, Gave}
use Rattle.ae_semantics.specs.Meaning.{one, many, below}
use Rattle.ae_semantics.specs.Means.{At, Turn, Asking, mean}
use Rattle.ae_semantics.specs.Atom.{atom, part}
use Rattle.ae_semantics.specs.declared.report.TraceLine.{TraceLine}
use Rattle.ae_semantics.specs.Report.{Event, CellReport, Report, LeadsTo, Legal, Explained, mean_of, part_of_report}
use Rattle.ae_semantics.specs.Report.{asking_of, ended_at, turn_path, IsLater, Covers, IsLineOf}
use Rattle.ae_semantics.specs.Regions.{FromTurn, lies_in}
use Rattle.std.proofs.lemmas.Bool.Decides.{nat_tests}
use Rattle.ae_semantics.specs.Report.{KeepInTime}
use Rattle.ae_semantics.specs.Report.{traced_part, Traced}
use Rattle.ae_worked.proofs.ReportWords.{by_test, of_two, pair_of_two, two_differ, carried_same}
use Rattle.ae_worked.proofs.ReportWords.{asking_same, two_same, not_both, unparted, fork_of, part_so}
use Rattle.ae_worked.proofs.ReportWords.{one_cell, nothing_given, all_differ-so, and_false}
use Rattle.ae_worked.proofs.UnfoldingExamples.{every}
use Rattle.ae_worked.proofs.ProgramWords.{at}
use Rattle.ae_worked.proofs.MeaningWords.{line, nothing_out}
use Rattle.ae_worked.proofs.SplitRunExamples.{prints_forever}
use Rattle.ae_worked.proofs.from_text.Basics.{second_of_both, first_of_both, empty_has_nothing}
use Rattle.std.proofs.lemmas.Option.{same_Some}

-- ---- a loop that spends the fuel

-- the atomic block in a turn
abbrev block_in : ℕ → Instance
block_in t = 0 ∷ 0 ∷ t ∷ 0 ∷ []

abbrev ask_in : ℕ → ℕ → Ask
ask_in t fuel = record { path = block_in t; method = 0; block = 3; fuel = fuel; depth = 1; ins = nothing_out }

abbrev event_in : ℕ → ℕ → ℕ → Event
event_in t fuel stamp = record {
  cell = 0;
  path = block_in t;
  ask = ask_in t fuel;
  out = Gave nothing_out;
  stamp = stamp;
}

abbrev piece_in : ℕ → Piece
piece_in t = record { path = 0 ∷ 0 ∷ t ∷ 0 ∷ 0 ∷ []; bytes = line (pos 1) }

abbrev io_cell : CellName
io_cell = record { path = 0 ∷ []; group = 0 }

abbrev printed_twice : CellReport
printed_twice = record { name = io_cell; first = OfLog []; last = OfLog (piece_in 0 ∷ piece_in 1 ∷ []) }

-- a block's span
abbrev line_in : ℕ → ℕ → ℕ → TraceLine
line_in t began ended = record { path = block_in t; at = at 4 1; began = began; ended = ended }

-- the loop from its third turn on
abbrev last_turn : TraceLine
last_turn = record { path = 0 ∷ 0 ∷ 2 ∷ []; at = at 3 1; began = 7; ended = 8 }

-- With fuel for two turns the run ends in the third. The blocks of both turns are used, and none is past.
abbrev spent : Report
spent = record {
  ending = Fuel (at 3 1);
  out = line (pos 1) ++ line (pos 1);
  events = event_in 0 1 1 ∷ event_in 1 0 2 ∷ [];
  past = 0;
  order = 0 ∷ 1 ∷ [];
  cells = printed_twice ∷ [];
  trace = line_in 0 3 4 ∷ line_in 1 5 6 ∷ last_turn ∷ [];
}

-- it ended at the third turn
spent-ended_at : ended_at (mean_of prints_forever [] 2 spent) ≡ 0 ∷ 0 ∷ 2 ∷ []
unfolding mean one many below
spent-ended_at = refl

-- ---- its report

-- a block leads from any log to one with its piece
leads_one : (t fuel stamp : ℕ) (pieces : List Piece)
    → LeadsTo prints_forever (event_in t fuel stamp) (OfLog pieces) (OfLog (pieces ++ (piece_in t ∷ [])))
unfolding mean one many below atom
leads_one t fuel stamp pieces = record {
  image = refl;
  out = nothing_given _ (λ x. by_test 2 x (λ e. rw e refl) (λ e. rw e refl))
      (elim [ zero ↦ refl | suc g ↦ rw (eqb-zero-suc g) refl ]) refl;
}

abbrev StampsRise : Event → Event → Type 0
StampsRise d e = Ordered prints_forever d.path e.path → d.stamp < e.stamp

-- the earlier turn is first
turns_rise : (d e : Event) → Contains spent.events d → Contains spent.events e → StampsRise d e
turns_rise d e a b = of_two (λ (x : Event). (y : Event) → Contains spent.events y → StampsRise x y) (event_in 0 1 1)
    (event_in 1 0 2)
    (of_two (StampsRise (event_in 0 1 1)) (event_in 0 1 1) (event_in 1 0 2)
    (λ o. absurd (unparted prints_forever (block_in 0) (block_in 0) refl o)) (λ o. omega arith))
    (of_two (StampsRise (event_in 1 0 2)) (event_in 0 1 1) (event_in 1 0 2)
    (λ o. absurd (part_so prints_forever (block_in 1) (block_in 0)
    (fork_of prints_forever (block_in 1) (block_in 0)) refl (λ (l : 1 < 0). omega (arith, l)) o))
    (λ o. absurd (unparted prints_forever (block_in 1) (block_in 1) refl o)))
    d a e b

spent-legal : Legal prints_forever spent
spent-legal = record {
  differ = two_differ 1 2 (λ (e : 1 ≡ 2). omega (arith, e));
  places = elim [
    | zero ↦ (λ l. (0, omega arith, refl), λ c. omega arith)
    | suc zero ↦ (λ l. (1, omega arith, refl), λ c. omega arith)
    | suc (suc i) ↦ (
      λ l. absurd (omega (arith, l)),
      λ c. of_two (λ z. z < 2) 0 1 (omega arith) (omega arith)
          (suc (suc i)) c,
    )
  ];
  once = two_differ 0 1 (λ (e : 0 ≡ 1). omega (arith, e));
  rises = (omega arith, tt);
  leads = one_cell prints_forever spent.events printed_twice (
    OfLog (piece_in 0 ∷ []),
    leads_one 0 1 1 [],
    (OfLog (piece_in 0 ∷ piece_in 1 ∷ []), leads_one 1 0 2 (piece_in 0 ∷ []), refl),
  );
  ordered = turns_rise;
}

abbrev asking : ℕ → ℕ → Asking
asking t fuel = record { cell = io_cell; ask = ask_in t fuel }

abbrev both_asks : List Asking
both_asks = asking 0 1 ∷ asking 1 0 ∷ []

spent-asks : (mean_of prints_forever [] 2 spent).asked ≡ both_asks
unfolding mean one many below
spent-asks = two_same _ _ _ _
    (asking_same _ _ refl refl refl refl refl refl
    (carried_same _ nothing_out (λ x. by_test 2 x (λ e. rw e refl) (λ e. rw e refl))
    (elim [ zero ↦ refl | suc g ↦ rw (eqb-zero-suc g) refl ]) refl))
    (asking_same _ _ refl refl refl refl refl refl
    (carried_same _ nothing_out (λ x. by_test 2 x (λ e. rw e refl) (λ e. rw e refl))
    (elim [ zero ↦ refl | suc g ↦ rw (eqb-zero-suc g) refl ]) refl))

spent-asks_past : (part_of_report prints_forever [] 2 spent).asked ≡ both_asks
unfolding part one many below
spent-asks_past = two_same _ _ _ _
    (asking_same _ _ refl refl refl refl refl refl
    (carried_same _ nothing_out (λ x. by_test 2 x (λ e. rw e refl) (λ e. rw e refl))
    (elim [ zero ↦ refl | suc g ↦ rw (eqb-zero-suc g) refl ]) refl))
    (asking_same _ _ refl refl refl refl refl refl
    (carried_same _ nothing_out (λ x. by_test 2 x (λ e. rw e refl) (λ e. rw e refl))
    (elim [ zero ↦ refl | suc g ↦ rw (eqb-zero-suc g) refl ]) refl))

is_asked : (e : Event) (x : Asking) → Contains spent.events e → asking_of spent e ≡ Some x → Contains both_asks x
is_asked e x c = of_two (λ (d : Event). asking_of spent d ≡ Some x → Contains both_asks x) (event_in 0 1 1)
    (event_in 1 0 2)
    (λ q. (0, omega arith, same_Some (asking 0 1) x q)) (λ q. (1, omega arith, same_Some (asking 1 0) x q)) e c

spent-explained : Explained prints_forever [] 2 spent
unfolding mean part one many below atom
spent-explained = record {
  ending = refl;
  events = record {
    in_order = pair_of_two (λ (d e : Event). comes_before d.path e.path ≡ true) (event_in 0 1 1)
        (event_in 1 0 2) refl;
    own_path = of_two (λ (e : Event). e.ask.path ≡ e.path) (event_in 0 1 1) (event_in 1 0 2) refl refl;
    of_a_cell = of_two (λ (e : Event). e.cell < 1) (event_in 0 1 1) (event_in 1 0 2) (omega arith) (omega arith);
  };
  used = record { from = refl; asks = ap (map Some) spent-asks };
  past = record { within = omega arith; later = λ e c. absurd (empty_has_nothing e c); none = λ d. refl };
  asked = λ e x c q. subst (λ (l : List Asking). Contains l x) (sym spent-asks_past) (is_asked e x c q);
  cells = inl (inl (0, omega arith, refl), ([], refl, refl));
  legal = spent-legal;
  out = ap (λ (zs : List ℕ). line (pos 1) ++ zs) (sym (append-nil (line (pos 1))));
}

-- a block of an earlier turn does not count as past
abbrev one_past : Report
one_past = record spent { past = 1 }

one_past-refused : Explained prints_forever [] 2 one_past → ⊥
unfolding mean one many below
one_past-refused r = not_both _ refl (r.past.later (event_in 1 0 2) (0, omega arith, refl))

-- ---- its lines

abbrev IsAfterEnd : Instance → Type 0
IsAfterEnd q = IsLater (mean_of prints_forever [] 2 spent) spent.ending q

-- a statement and a turn before the ending, and the turn at which the run ended, are not after it
earlier_block-not_after : IsAfterEnd (block_in 1) → ⊥
unfolding mean one many below
earlier_block-not_after h = not_both _ refl h

earlier_turn-not_after : IsAfterEnd (0 ∷ 0 ∷ 1 ∷ []) → ⊥
unfolding mean one many below
earlier_turn-not_after h = not_both _ refl h

last_turn-not_after : IsAfterEnd last_turn.path → ⊥
unfolding mean one many below
last_turn-not_after h = not_both _ refl h

-- what would follow the loop is after it
next_statement-after : IsAfterEnd (0 ∷ 1 ∷ [])
unfolding mean one many below
next_statement-after = refl

abbrev AreApart : TraceLine → TraceLine → Type 0
AreApart l m = (q : Instance) → Covers (traced_part prints_forever [] 2 spent) l q
    → Covers (traced_part prints_forever [] 2 spent) m q → ⊥

-- the third number of a path: the turn, where the path leads into the loop
abbrev third : Instance → ℕ
third [] = 0
third (i ∷ []) = 0
third (i ∷ j ∷ []) = 0
third (i ∷ j ∷ t ∷ q) = t

third_is : (t : ℕ) (rest q : Instance) → is_prefix_of (0 ∷ 0 ∷ t ∷ rest) q ≡ true → third q ≡ t
third_is t rest [] h = absurd (not_both _ refl h)
third_is t rest (i ∷ []) h = absurd (not_both _ (and_false (nat_eq 0 i)) h)
third_is t rest (i ∷ j ∷ []) h = absurd (not_both _ (and_false (nat_eq 0 j)) (second_of_both (nat_eq 0 i) _ h))
third_is t rest (i ∷ j ∷ u ∷ q) h = sym
    (eqb-true t u (first_of_both (nat_eq t u) _ (second_of_both (nat_eq 0 j) _ (second_of_both (nat_eq 0 i) _ h))))

-- a block is no turn of a loop
block_is_no_turn : (t u : ℕ) → block_in t ≡ 0 ∷ 0 ∷ u ∷ [] → ⊥
block_is_no_turn t u e = cc

no_turn : (t : ℕ) (x : Turn) → Contains (traced_part prints_forever [] 2 spent).turns x → block_in t ≡ turn_path x → ⊥
unfolding part one many below
no_turn t = every (λ (x : Turn). block_in t ≡ turn_path x → ⊥) (traced_part prints_forever [] 2 spent).turns
    (block_is_no_turn t 0, (block_is_no_turn t 1, (block_is_no_turn t 2, tt)))

-- what lies in the third turn of the loop or in a later one
late_third : (q : Instance) → lies_in (FromTurn (0 ∷ 0 ∷ []) 2) q ≡ true → 1 < third q
late_third [] h = absurd (not_both _ refl h)
late_third (i ∷ []) h = absurd (not_both _ (and_false (nat_eq 0 i)) h)
late_third (i ∷ j ∷ []) h = absurd (not_both _ (and_false (nat_eq 0 j)) (second_of_both (nat_eq 0 i) _ h))
late_third (i ∷ j ∷ u ∷ q) h =
    let l : nat_lt 2 (suc u) ≡ true = second_of_both (nat_eq 0 j) _ (second_of_both (nat_eq 0 i) _ h) in
    grind (arith, nat_tests, l)

-- what a line from the third turn on covers behind that turn
late_turn : (q : Instance) (x : Turn) → Contains (traced_part prints_forever [] 2 spent).turns x → last_turn.path
    ≡ turn_path x → lies_in (FromTurn x.path x.turn) q ≡ true → 1 < third q
unfolding part one many below
late_turn q = every
    (λ (x : Turn). last_turn.path ≡ turn_path x → lies_in (FromTurn x.path x.turn) q ≡ true → 1 < third q)
    (traced_part prints_forever [] 2 spent).turns (
      (λ e y. let d : 2 ≡ 0 = ap third e in absurd (omega (arith, d))),
      (
        (λ e y. let d : 2 ≡ 1 = ap third e in absurd (omega (arith, d))),
        ((λ e y. late_third q y), tt),
      ),
    )

-- blocks of two turns
blocks_apart : AreApart (line_in 0 3 4) (line_in 1 5 6)
blocks_apart q (inl x) (inl y) = let d : third q ≡ 0 = third_is 0 (0 ∷ []) q x in let e : third q
    ≡ 1 = third_is 1 (0 ∷ []) q y in omega (arith, d, e)
blocks_apart q (inl x) (inr y) = no_turn 1 y.0 y.1 y.2
blocks_apart q (inr x) y = no_turn 0 x.0 x.1 x.2

-- a block of an earlier turn, and the loop from its third turn on
block_and_turn-apart : (t : ℕ) → t < 2 → (began ended : ℕ) → AreApart (line_in t began ended) last_turn
block_and_turn-apart t l began ended q (inl x) (inl y) = let d : third q ≡ t = third_is t (0 ∷ []) q x
    in let e : third q ≡ 2 = third_is 2 [] q y in omega (arith, l, d, e)
block_and_turn-apart t l began ended q (inl x) (inr y) = let d : third q ≡ t = third_is t (0 ∷ []) q x
    in let e : 1 < third q = late_turn q y.0 y.1 y.2 y.3 in omega (arith, l, d, e)
block_and_turn-apart t l began ended q (inr x) y = no_turn t x.0 x.1 x.2

abbrev HasLine : At → Type 0
HasLine x = is_simple_at prints_forever x.path ≡ true
    → (l : TraceLine) × Contains spent.trace l × Covers (traced_part prints_forever [] 2 spent) l x.path

spent-traced : Traced prints_forever [] 2 spent
unfolding mean part one many below
spent-traced = record {
  differ = all_differ-so (3 ∷ 4 ∷ 5 ∷ 6 ∷ 7 ∷ 8 ∷ 1 ∷ 2 ∷ []) refl;
  spans = every (λ (l : TraceLine). l.began < l.ended) spent.trace (omega arith, (omega arith, (omega arith, tt)));
  once = (
    of_two (AreApart (line_in 0 3 4)) (line_in 1 5 6) last_turn blocks_apart
        (block_and_turn-apart 0 (omega arith) 3 4),
    pair_of_two AreApart (line_in 1 5 6) last_turn (block_and_turn-apart 1 (omega arith) 5 6),
  );
  keeps = (
    of_two (KeepInTime prints_forever (line_in 0 3 4)) (line_in 1 5 6) last_turn (λ o. omega arith) (λ o. omega arith),
    pair_of_two (KeepInTime prints_forever) (line_in 1 5 6) last_turn (λ o. omega arith),
  );
  all_run = every HasLine (mean_of prints_forever [] 2 spent).ran (
    (λ e. absurd (not_both _ refl e)),
    (
      (λ e. absurd (not_both _ refl e)),
      (
        (λ e. (line_in 0 3 4, (0, omega arith, refl), inl refl)),
        ((λ e. (line_in 1 5 6, (1, omega arith, refl), inl refl)), tt),
      ),
    ),
  );
  run_only = every (IsLineOf (traced_part prints_forever [] 2 spent)) spent.trace (
    inl (2, omega arith, refl),
    (
      inl (3, omega arith, refl),
      (
        inr
            (record { path = 0 ∷ 0 ∷ []; turn = 2 }, (2, omega arith, refl), refl, (1, omega arith, refl)),
        tt,
      ),
    ),
  );
  meant = every (λ (l : TraceLine). IsAfterEnd l.path ⊎ IsLineOf (mean_of prints_forever [] 2 spent) l) spent.trace (
    inr (inl (2, omega arith, refl)),
    (
      inr (inl (3, omega arith, refl)),
      (inr (inr (record { path = 0 ∷ 0 ∷ []; turn = 2 }, (2, omega arith, refl), refl, (1, omega arith, refl))), tt),
    ),
  );
  rising = (
    of_two (λ (m : TraceLine). comes_before (block_in 0) m.path ≡ true) (line_in 1 5 6) last_turn refl refl,
    pair_of_two (λ (l m : TraceLine). comes_before l.path m.path ≡ true) (line_in 1 5 6) last_turn refl,
  );
}
