-- A tree with a loop between two turns.
use Rattle.std.proofs.Common.{◌≡◌, inl, inr, refl, arith, pos, [], ◌∷◌, None, Some}
use Rattle.std.specs.Prelude.{option_map}
use Rattle.ae_semantics.specs.Values.{OfInt}
use Rattle.ae_semantics.specs.Places.{Bound}
use Rattle.ae_semantics.specs.Meaning.{one, many, below}
use Rattle.ae_semantics.specs.Atom.{part}
use Rattle.ae_semantics.specs.Moments.{Moment}
use Rattle.ae_semantics.specs.BlockTrees.{BlockTree, Begun, NoMore, Then, Waiting, Loop, Finished, results, turns}
use Rattle.ae_semantics.specs.BlockTrees.{betweens, unfolded}
use Rattle.ae_semantics.specs.Unfolding.{before_turn, StandsFor, part_of_tree}
use Rattle.ae_semantics.specs.Trails.{Trail, trail}
use Rattle.ae_semantics.specs.Regions.{Within, FromTurn, Only}
use Rattle.ae_worked.proofs.ProgramWords.{at}
use Rattle.ae_semantics.specs.RowTrees.{nothing_gained}
use Rattle.ae_worked.proofs.UnfoldingExamples.{every}
use Rattle.ae_worked.proofs.UnfoldingGroupExamples.{moment_at}
use Rattle.ae_worked.proofs.RunExamples.{loop_of_three_turns}

abbrev noted : Trail
noted = trail loop_of_three_turns [] 3 (λ q. None)

-- what the first turn left
abbrev after_a_turn : Moment
after_a_turn = before_turn noted.left (1 ∷ []) 1 (moment_at noted.found 1)

after_a_turn-is : option_map (λ (b : Bound). b.value) (after_a_turn.state.locals 3) ≡ Some (OfInt (pos 1))
unfolding trail one many below
after_a_turn-is = refl

abbrev between_turns : BlockTree
between_turns = Begun (moment_at noted.found 0)
    (Then (Finished (moment_at noted.left 0) nothing_gained)
    (Then (Loop 1 after_a_turn nothing_gained)
    (Then Waiting NoMore)))

between_turns-stands : StandsFor loop_of_three_turns [] 3 between_turns
unfolding part trail one many below
between_turns-stands = record {
  each_left = every _ (results between_turns) (
    (
      (at 2 1, (0, omega arith, refl)),
      (
        _,
        (0, omega arith, refl),
        refl,
        record {
          locals = λ x h. refl;
          groups = λ g h. refl;
          result = refl;
          log = λ h. refl;
          cell = λ h. refl;
        },
      ),
    ),
    tt,
  );
  each_turn = every _ (turns between_turns) ((1, omega arith, refl), tt);
  each_between = every _ (betweens between_turns) (
    (
      _,
      (1, omega arith, refl),
      refl,
      record {
        locals = λ x h. refl;
        groups = λ g h. refl;
        result = refl;
        log = λ h. refl;
        cell = λ h. refl;
      },
    ),
    tt,
  );
  first = (
    _,
    refl,
    (
      record {
        locals = λ x. refl;
        groups = λ g. refl;
        result = refl;
        log = refl;
        cell = refl;
      },
      refl,
    ),
  );
  each_unfolded = every _ (unfolded between_turns) ((at 3 1, (1, omega arith, refl)), tt);
  each_entered = every _ [] tt;
  each_halt = every _ [] tt;
  each_left_out = every _ [] tt;
  events_differ = tt;
  cells_differ = tt;
  each_event = every _ [] tt;
  each_cell = every _ [] tt;
  all_others = every _ (part_of_tree loop_of_three_turns [] 3 between_turns).ran (
    inl (Within (0 ∷ []), (0, omega arith, refl), refl),
    (
      inr (inl (Only (1 ∷ []), (2, omega arith, refl), refl)),
      (
        inl (Within (1 ∷ 0 ∷ []), (1, omega arith, refl), refl),
        (
          inr (inl (FromTurn (1 ∷ []) 1, (0, omega arith, refl), refl)),
          (
            inr (inl (FromTurn (1 ∷ []) 1, (0, omega arith, refl), refl)),
            (
              inr (inl (Within (2 ∷ []), (1, omega arith, refl), refl)),
              tt,
            ),
          ),
        ),
      ),
    ),
  );
}
