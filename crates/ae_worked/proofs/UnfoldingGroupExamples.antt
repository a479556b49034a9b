-- A tree with a split block that is being run: one call is done, one has its body begun, and two wait.
use Rattle.std.proofs.Common.{◌≡◌, inl, inr, refl, ap, arith, ℕ, pos, List, [], ◌∷◌, Option, None, Some, Contains}
use Rattle.std.specs.Prelude.{slice_get, if◌then◌else◌}
use Rattle.ae_rules.specs.Verdict.{given}
use Rattle.ae_semantics.specs.Values.{OfInt, Object, values}
use Rattle.ae_semantics.specs.Observations.{Image, OfStore, Answer, Gave, Seen, OfBlock, OfCell, Query, AtBlock, AtEnd}
use Rattle.ae_semantics.specs.Meaning.{one, many, below}
use Rattle.ae_semantics.specs.Means.{Asking}
use Rattle.ae_semantics.specs.Atom.{part}
use Rattle.ae_semantics.specs.Report.{CellReport}
use Rattle.ae_semantics.specs.Regions.{same_instance}
use Rattle.ae_semantics.specs.Places.{Outcome, Fine, Lacks}
use Rattle.ae_semantics.specs.Moments.{Moment}
use Rattle.ae_semantics.specs.Entries.{Inner, OfCall, OfSplit, Entry}
use Rattle.ae_semantics.specs.BlockTrees.{BlockTree, Begun, NoMore, Then, Waiting, Task, Finished, InCall, InSplit}
use Rattle.ae_semantics.specs.BlockTrees.{Happened, Gained, results, unfolded, running, events, cells}
use Rattle.ae_semantics.specs.Unfolding.{IsLeft, IsFrameEntered, StandsFor, part_of_tree, trail_of, entry_at}
use Rattle.ae_semantics.specs.Trails.{Passage, trail}
use Rattle.ae_semantics.specs.Regions.{Within, Only}
use Rattle.ae_worked.proofs.ProgramWords.{at}
use Rattle.ae_worked.proofs.ReportWords.{asking_same, carried_same}
use Rattle.ae_semantics.specs.RowTrees.{nothing_gained}
use Rattle.ae_worked.proofs.UnfoldingExamples.{every, no_values}
use Rattle.ae_worked.proofs.GroupUseExamples.{four_in_a_group}

-- the first call's block has answered, and the count is one
abbrev nothing_out : Answer
nothing_out = Gave (record { locals = λ x. None; stores = λ g. None; pieces = None })

abbrev one_counted : Image
one_counted = OfStore (Object 3 (values (OfInt (pos 1) ∷ [])) ∷ [])

abbrev known_so_far : Query → Option Seen
known_so_far (AtBlock ask) = if same_instance (3 ∷ 0 ∷ 0 ∷ []) ask.path then Some (OfBlock nothing_out) else None
known_so_far (AtEnd c first) = Some (OfCell one_counted)

abbrev pub moment_at : List Passage → ℕ → Moment
moment_at xs k = given (slice_get xs k) no_values (λ (x : Passage). x.moment)

abbrev left_at : ℕ → Moment
left_at k = moment_at (trail four_in_a_group [] 100 known_so_far).left k

abbrev found_at : ℕ → Moment
found_at k = moment_at (trail four_in_a_group [] 100 known_so_far).found k

abbrev values_of : Outcome Entry → Moment
values_of (Fine e) = e.values
values_of _ = no_values

abbrev no_asking : Asking
no_asking = record {
  cell = record { path = []; group = 0 };
  ask = record {
    path = [];
    method = 0;
    block = 0;
    fuel = 0;
    depth = 0;
    ins = record { locals = λ x. None; stores = λ g. None; pieces = None };
  };
}

abbrev asked_first : Asking
asked_first = given (slice_get (part four_in_a_group [] 100 known_so_far).asked 0) no_asking (λ (x : Asking). x)

abbrev entered_with : Image
entered_with = OfStore (Object 3 (values (OfInt (pos 0) ∷ [])) ∷ [])

abbrev first_event : Happened
first_event = record { asking = asked_first; out = nothing_out; stamp = 1 }

abbrev count_cell : CellReport
count_cell = record { name = record { path = 3 ∷ []; group = 6 }; first = entered_with; last = one_counted }

abbrev first_done : Gained
first_done = record { events = first_event ∷ []; cells = []; trace = [] }

-- what a block of the statement that is found as the kth is entered with, from what is found there
abbrev entered_at : ℕ → Inner → Moment
entered_at k inner = values_of (given (slice_get (trail four_in_a_group [] 100 known_so_far).found k) Lacks
    (λ x. entry_at four_in_a_group x x.moment inner))

abbrev body_frame : BlockTree
body_frame = Begun (entered_at 6 OfCall) (Then Waiting NoMore)

abbrev split_frame : BlockTree
split_frame = Begun (entered_at 3 OfSplit)
    (Then (Finished (left_at 4) first_done)
    (Then (InCall body_frame)
    (Then (Task nothing_gained)
    (Then Waiting NoMore))))

abbrev tree : BlockTree
tree = Begun (found_at 0)
    (Then (Finished (left_at 0) nothing_gained)
    (Then (Finished (left_at 1) nothing_gained)
    (Then (Finished (left_at 2) nothing_gained)
    (Then (InSplit (count_cell ∷ []) split_frame)
    (Then Waiting NoMore)))))

call_left : IsLeft four_in_a_group (trail_of four_in_a_group [] 100 tree)
    (record { path = 3 ∷ 0 ∷ []; left = left_at 4 })
unfolding part trail one many below
call_left = (
  _,
  (4, omega arith, refl),
  refl,
  record {
    locals = λ x h. refl;
    groups = λ g h. refl;
    result = refl;
    log = λ h. refl;
    cell = λ h. refl;
  },
)

split_entered : IsFrameEntered four_in_a_group (trail_of four_in_a_group [] 100 tree)
    (record {
      path = 3 ∷ [];
      inner = OfSplit;
      cells = (record { path = 3 ∷ []; group = 6 }) ∷ [];
      frame = split_frame;
    })
unfolding part trail one many below
split_entered = record {
  passage = _;
  found = (3, omega arith, refl);
  place = refl;
  values = found_at 3;
  agrees = record { locals = λ x h. refl; groups = λ g h. refl; result = refl; log = λ h. refl; cell = λ h. refl };
  enters = ((record { locals = λ x. refl; groups = λ g. refl; result = refl; log = refl; cell = refl }, refl), refl);
}

body_entered : IsFrameEntered four_in_a_group (trail_of four_in_a_group [] 100 tree)
    (record { path = 3 ∷ 1 ∷ []; inner = OfCall; cells = []; frame = body_frame })
unfolding part trail one many below
body_entered = record {
  passage = _;
  found = (6, omega arith, refl);
  place = refl;
  values = found_at 6;
  agrees = record { locals = λ x h. refl; groups = λ g h. refl; result = refl; log = λ h. refl; cell = λ h. refl };
  enters = ((record { locals = λ x. refl; groups = λ g. refl; result = refl; log = refl; cell = refl }, refl), refl);
}

first_thing : {A : Type 0} (xs : List A) (x : A) → slice_get xs 0 ≡ Some x → Contains xs x
first_thing [] x e = absurd (cc e)
first_thing (y ∷ ys) x e = (0, omega arith, cc e)

-- by the tree's own observations the first block asks the same
asked-same : slice_get (part_of_tree four_in_a_group [] 100 tree).asked 0 ≡ Some asked_first
unfolding part one many below
asked-same = ap Some (asking_same _ _ refl refl refl refl refl refl (carried_same _ _ (λ x. refl) (λ g. refl) refl))

tree-stands : StandsFor four_in_a_group [] 100 tree
unfolding part trail one many below
tree-stands = record {
  each_left = every _ (results tree) (
    (
      (at 6 1, (0, omega arith, refl)),
      (
        _,
        (0, omega arith, refl),
        refl,
        record {
          locals = λ x h. refl;
          groups = λ g h. refl;
          result = refl;
          log = λ h. refl;
          cell = λ h. refl;
        },
      ),
    ),
    (
      (
        (at 7 1, (1, omega arith, refl)),
        (
          _,
          (1, omega arith, refl),
          refl,
          record {
            locals = λ x h. refl;
            groups = λ g h. refl;
            result = refl;
            log = λ h. refl;
            cell = λ h. refl;
          },
        ),
      ),
      (
        (
          (at 8 1, (2, omega arith, refl)),
          (
            _,
            (2, omega arith, refl),
            refl,
            record {
              locals = λ x h. refl;
              groups = λ g h. refl;
              result = refl;
              log = λ h. refl;
              cell = λ h. refl;
            },
          ),
        ),
        (
          ((at 10 1, (4, omega arith, refl)), call_left),
          tt,
        ),
      ),
    ),
  );
  each_turn = every _ [] tt;
  each_between = every _ [] tt;
  first = (
    _,
    refl,
    (
      record {
        locals = λ x. refl;
        groups = λ g. refl;
        result = refl;
        log = refl;
        cell = refl;
      },
      refl,
    ),
  );
  each_unfolded = every _ (unfolded tree) ((at 9 1, (3, omega arith, refl)), ((at 11 1, (6, omega arith, refl)), tt));
  each_entered = every _ (running tree) (split_entered, (body_entered, tt));
  each_halt = every _ [] tt;
  each_left_out = every _ [] tt;
  events_differ = (λ z c. absurd (omega (arith, c.1)), tt);
  cells_differ = (λ z c. absurd (omega (arith, c.1)), tt);
  each_event = every _ (events tree) (
    record {
      answer = refl;
      asked = first_thing
          (part_of_tree four_in_a_group [] 100 tree).asked asked_first asked-same;
    },
    tt,
  );
  each_cell = every _ (cells tree) (record { last = refl; entered = (0, omega arith, refl) }, tt);
  all_others = every _ (part_of_tree four_in_a_group [] 100 tree).ran (
    inl (Within (0 ∷ []), (0, omega arith, refl), refl),
    (
      inl (Within (1 ∷ []), (1, omega arith, refl), refl),
      (
        inl (Within (2 ∷ []), (2, omega arith, refl), refl),
        (
          inr (inl (Only (3 ∷ []), (4, omega arith, refl), refl)),
          (
            inl (Within (3 ∷ 0 ∷ []), (3, omega arith, refl), refl),
            (
              inl (Within (3 ∷ 0 ∷ []), (3, omega arith, refl), refl),
              (
                inr (inl (Only (3 ∷ 1 ∷ []), (5, omega arith, refl), refl)),
                (
                  inr (inl (Within (3 ∷ 1 ∷ 0 ∷ []), (0, omega arith, refl), refl)),
                  (
                    inr (inl (Within (3 ∷ 2 ∷ []), (1, omega arith, refl), refl)),
                    (
                      inr (inl (Within (3 ∷ 2 ∷ []), (1, omega arith, refl), refl)),
                      (
                        inr (inl (Within (3 ∷ 3 ∷ []), (2, omega arith, refl), refl)),
                        (
                          inr (inl (Within (3 ∷ 3 ∷ []), (2, omega arith, refl), refl)),
                          tt,
                        ),
                      ),
                    ),
                  ),
                ),
              ),
            ),
          ),
        ),
      ),
    ),
  );
}
