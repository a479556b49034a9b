-- A report of a run in which a block traps, with a block past the ending.
use Rattle.std.proofs.Common.{◌≡◌, ◌<◌, inl, inr, refl, sym, ap, subst, arith, ℕ, zero, suc, true, List, [], ◌∷◌, map}
use Rattle.std.proofs.Common.{Some, Contains}
use Rattle.std.proofs.Math.Dec.{eqb-zero-suc}
use Rattle.ae_text.specs.declared.refusal.Spot.{Spot}
use Rattle.ae_rules.specs.declared.uses.Resource.{Resource}
use Rattle.ae_rules.specs.declared.uses.Resource.TheVariants.{Local, Group}
use Rattle.ae_rules.specs.Edges.{IsConflict}
use Rattle.ae_rules.specs.Instances.{Instance, Ordered}
use Rattle.ae_rules.specs.Paths.{comes_before}
use Rattle.ae_semantics.specs.declared.report.Ending.TheVariants.{Done, Trap}
use Rattle.ae_semantics.specs.declared.report.Piece.{Piece}
use Rattle.ae_semantics.specs.Observations.{OfLog, Trapped}
use Rattle.ae_semantics.specs.Meaning.{one, many, below}
use Rattle.ae_semantics.specs.Means.{Asking, mean}
use Rattle.ae_semantics.specs.Atom.{atom, part}
use Rattle.ae_semantics.specs.Report.{Event, Report, LeadsTo, Legal, Explained, mean_of, part_of_report, asking_of}
use Rattle.ae_worked.proofs.ReportWords.{by_test, one_thing, of_two, pair_of_two, two_differ, carried_same}
use Rattle.ae_worked.proofs.ReportWords.{asking_same, one_same, two_same, unparted, part_so, fork_of, used_at}
use Rattle.ae_worked.proofs.ReportWords.{backwards, side_by_side, hidden, unused, one_cell, nothing_given}
use Rattle.ae_worked.proofs.ProgramWords.{at}
use Rattle.ae_worked.proofs.MeaningWords.{nothing_out}
use Rattle.ae_worked.proofs.ReportExamples.{first_block, second_block, event_at, piece_two, log_cell, IsBlock, free_in}
use Rattle.ae_worked.proofs.ReportExamples.{inside_split, asking, both_asks}
use Rattle.ae_worked.proofs.SplitRunExamples.{trap_before_a_print}
use Rattle.std.proofs.lemmas.Option.{same_Some}

-- ---- a block that traps, and one past it

-- the answer of the block that trapped
abbrev trap_event : Event
trap_event = record (event_at first_block 2 2) { out = Trapped 5 (at 3 22) }

-- The second block went first, and is past the ending.
abbrev trapped : Report
trapped = record {
  ending = Trap 5 (at 3 22);
  out = [];
  events = trap_event ∷ event_at second_block 3 1 ∷ [];
  past = 1;
  order = 1 ∷ 0 ∷ [];
  cells = log_cell (piece_two ∷ []) ∷ [];
  trace = [];
}

-- a block that traps leaves the log as it was
leads_trap : (pieces : List Piece) → LeadsTo trap_before_a_print trap_event (OfLog pieces) (OfLog pieces)
unfolding mean one many below atom
leads_trap pieces = record { image = refl; out = refl }

leads_past : LeadsTo trap_before_a_print (event_at second_block 3 1) (OfLog []) (OfLog (piece_two ∷ []))
unfolding mean one many below atom
leads_past = record {
  image = refl;
  out = nothing_given _ (λ x. by_test 2 x (λ e. rw e refl) (λ e. rw e refl))
      (elim [ zero ↦ refl | suc g ↦ rw (eqb-zero-suc g) refl ]) refl;
}

trap_no_clash : (r : Resource) → IsConflict (used_at trap_before_a_print (inside_split trap_before_a_print) 0 r)
    (used_at trap_before_a_print (inside_split trap_before_a_print) 1 r) → ⊥
trap_no_clash (Local y) h = unused _ _ (hidden _) h
trap_no_clash (Group zero) h = absurd (cc)
trap_no_clash (Group (suc g)) h = unused _ _ (rw (eqb-zero-suc g) refl) h

trap_free : (q r : Instance) → IsBlock q → IsBlock r → Ordered trap_before_a_print q r → ⊥
trap_free = free_in trap_before_a_print (unparted trap_before_a_print first_block first_block refl)
    (part_so trap_before_a_print first_block second_block
    (fork_of trap_before_a_print first_block second_block) refl
    (side_by_side trap_before_a_print (inside_split trap_before_a_print) 0 1 refl refl trap_no_clash))
    (part_so trap_before_a_print second_block first_block
    (fork_of trap_before_a_print second_block first_block) refl
    (backwards trap_before_a_print (inside_split trap_before_a_print) 1 0 refl (omega arith)))
    (unparted trap_before_a_print second_block second_block refl)

is_trapped_block : (e : Event) → Contains trapped.events e → IsBlock e.path
is_trapped_block = of_two (λ (e : Event). IsBlock e.path) trap_event (event_at second_block 3 1) (inl refl) (inr refl)

trapped-legal : Legal trap_before_a_print trapped
trapped-legal = record {
  differ = two_differ 2 1 (λ (e : 2 ≡ 1). omega (arith, e));
  places = elim [
    | zero ↦ (λ l. (1, omega arith, refl), λ c. omega arith)
    | suc zero ↦ (λ l. (0, omega arith, refl), λ c. omega arith)
    | suc (suc i) ↦ (
      λ l. absurd (omega (arith, l)),
      λ c. of_two (λ z. z < 2) 1 0 (omega arith) (omega arith)
          (suc (suc i)) c,
    )
  ];
  once = two_differ 1 0 (λ (e : 1 ≡ 0). omega (arith, e));
  rises = (omega arith, tt);
  leads = one_cell trap_before_a_print (event_at second_block 3 1 ∷ trap_event ∷ []) (log_cell (piece_two ∷ []))
      (OfLog (piece_two ∷ []), leads_past, (OfLog (piece_two ∷ []), leads_trap (piece_two ∷ []), refl));
  ordered = λ d e a b o. absurd (trap_free d.path e.path (is_trapped_block d a) (is_trapped_block e b) o);
}

trapped-asks : (mean_of trap_before_a_print [] 10 trapped).asked ≡ asking first_block 2 ∷ []
unfolding mean one many below
trapped-asks = one_same _ _ (asking_same _ _ refl refl refl refl refl refl
    (carried_same _ nothing_out (λ x. by_test 2 x (λ e. rw e refl) (λ e. rw e refl))
    (elim [ zero ↦ refl | suc g ↦ rw (eqb-zero-suc g) refl ]) refl))

-- past the ending the second block asks too
trapped-asks_past : (part_of_report trap_before_a_print [] 10 trapped).asked ≡ both_asks
unfolding part one many below
trapped-asks_past = two_same _ _ _ _
    (asking_same _ _ refl refl refl refl refl refl
    (carried_same _ nothing_out (λ x. by_test 2 x (λ e. rw e refl) (λ e. rw e refl))
    (elim [ zero ↦ refl | suc g ↦ rw (eqb-zero-suc g) refl ]) refl))
    (asking_same _ _ refl refl refl refl refl refl
    (carried_same _ nothing_out (λ x. by_test 2 x (λ e. rw e refl) (λ e. rw e refl))
    (elim [ zero ↦ refl | suc g ↦ rw (eqb-zero-suc g) refl ]) refl))

is_trapped_asked : (e : Event) (x : Asking) → Contains trapped.events e → asking_of trapped e ≡ Some x
    → Contains both_asks x
is_trapped_asked e x c = of_two (λ (d : Event). asking_of trapped d ≡ Some x → Contains both_asks x) trap_event
    (event_at second_block 3 1)
    (λ q. (0, omega arith, same_Some (asking first_block 2) x q))
    (λ q. (1, omega arith, same_Some (asking second_block 3) x q)) e c

not_done : (code : ℕ) (spot : Spot) → Trap code spot ≡ Done → ⊥
not_done code spot e = cc

-- The trap is the ending, the second block is past it, and nothing is printed.
trapped-explained : Explained trap_before_a_print [] 10 trapped
unfolding mean part one many below atom
trapped-explained = record {
  ending = refl;
  events = record {
    in_order = pair_of_two (λ (d e : Event). comes_before d.path e.path ≡ true) trap_event
        (event_at second_block 3 1) refl;
    own_path = of_two (λ (e : Event). e.ask.path ≡ e.path) trap_event (event_at second_block 3 1) refl refl;
    of_a_cell = of_two (λ (e : Event). e.cell < 1) trap_event (event_at second_block 3 1) (omega arith) (omega arith);
  };
  used = record { from = refl; asks = ap (map Some) trapped-asks };
  past = record {
    within = omega arith;
    later = λ e c. subst (λ (d : Event). comes_before first_block d.path ≡ true)
        (one_thing (event_at second_block 3 1) e c) refl;
    none = λ d. absurd (not_done 5 (at 3 22) d);
  };
  asked = λ e x c q. subst (λ (l : List Asking). Contains l x) (sym trapped-asks_past) (is_trapped_asked e x c q);
  cells = inl (inl (0, omega arith, refl), ([], refl, refl));
  legal = trapped-legal;
  out = refl;
}
