-- Reports of a run in which one block reads what another one writes.
use Rattle.ae_rules.specs.Edges.{Direct}
use Rattle.std.proofs.Common.{◌≡◌, ◌<◌, inl, inr, refl, sym, ap, subst, arith, zero, suc, true, List, [], ◌∷◌, map}
use Rattle.std.proofs.Common.{Some, Contains}
use Rattle.std.proofs.Math.Dec.{eqb-zero-suc}
use Rattle.std.specs.Prelude.{pos}
use Rattle.ae_rules.specs.declared.uses.Resource.TheVariants.{Local}
use Rattle.ae_rules.specs.Instances.{inside, first_point, Ordered}
use Rattle.ae_rules.specs.Paths.{comes_before}
use Rattle.ae_semantics.specs.declared.report.Ending.TheVariants.{Done}
use Rattle.ae_semantics.specs.declared.report.Piece.{Piece}
use Rattle.ae_semantics.specs.Observations.{OfLog, Carried, Gave}
use Rattle.ae_semantics.specs.Meaning.{one, many, below}
use Rattle.ae_semantics.specs.Means.{Asking, mean}
use Rattle.ae_semantics.specs.Atom.{atom, part}
use Rattle.ae_semantics.specs.Report.{Event, CellReport, Report, LeadsTo, Legal, Explained, mean_of, part_of_report}
use Rattle.ae_semantics.specs.Report.{asking_of}
use Rattle.ae_worked.proofs.ReportWords.{of_two, pair_of_two, two_differ, carried_same}
use Rattle.ae_worked.proofs.ReportWords.{asking_same, two_same, unparted, part_so, fork_of, backwards}
use Rattle.ae_worked.proofs.ReportWords.{one_cell, by_test, nothing_given, one_line}
use Rattle.ae_worked.proofs.MeaningWords.{line, nothing_out, number_out}
use Rattle.ae_worked.proofs.ReportExamples.{asked_at}
use Rattle.ae_worked.proofs.SplitRunExamples.{written_then_printed}
use Rattle.ae_worked.proofs.from_text.Basics.{empty_has_nothing}
use Rattle.std.proofs.lemmas.Option.{same_Some}

-- The second block reads what the first one writes, so it comes after it.
pub written_first : Ordered written_then_printed (1 ∷ 0 ∷ []) (1 ∷ 1 ∷ [])
written_first = record {
  fork = fork_of written_then_printed (1 ∷ 0 ∷ []) (1 ∷ 1 ∷ []);
  parts = refl;
  order = inr (Direct 0 1 (record {
    before = omega arith;
    on = Local 3;
    conflict = refl;
    clear = λ k l m. absurd (omega (arith, l, m));
  }));
}

-- in every legal report the block that writes has the lower stamp
written_first-legal : (r : Report) → Legal written_then_printed r → (d e : Event) → Contains r.events d
    → Contains r.events e
    → d.path ≡ 1 ∷ 0 ∷ [] → e.path ≡ 1 ∷ 1 ∷ [] → d.stamp < e.stamp
written_first-legal r l d e a b p q = l.ordered d e a b
    (subst (λ z. Ordered written_then_printed z e.path) (sym p)
    (subst (λ z. Ordered written_then_printed (1 ∷ 0 ∷ []) z) (sym q) written_first))

-- the report with the blocks in that order, which is legal
abbrev writing : Event
writing = record {
  cell = 0;
  path = 1 ∷ 0 ∷ [];
  ask = record (asked_at (1 ∷ 0 ∷ []) 2) { ins = number_out 3 (pos 0) };
  out = Gave (number_out 3 (pos 1));
  stamp = 1;
}

abbrev printing : Event
printing = record {
  cell = 0;
  path = 1 ∷ 1 ∷ [];
  ask = record (asked_at (1 ∷ 1 ∷ []) 3) { ins = number_out 3 (pos 1) };
  out = Gave nothing_out;
  stamp = 2;
}

abbrev printed_one : Piece
printed_one = record { path = 1 ∷ 1 ∷ 0 ∷ []; bytes = line (pos 1) }

abbrev written_cell : CellReport
written_cell = record {
  name = record { path = 1 ∷ []; group = 0 };
  first = OfLog [];
  last = OfLog (printed_one ∷ []);
}

abbrev pub writing_first : Report
writing_first = record {
  ending = Done;
  out = line (pos 1);
  events = writing ∷ printing ∷ [];
  past = 0;
  order = 0 ∷ 1 ∷ [];
  cells = written_cell ∷ [];
  trace = [];
}

-- the same events the other way round
abbrev printing_first : Report
printing_first = record writing_first {
  events = record writing { stamp = 2 } ∷ record printing { stamp = 1 } ∷ [];
  order = 1 ∷ 0 ∷ [];
}

printing_first-refused : Legal written_then_printed printing_first → ⊥
printing_first-refused r = omega (
  arith,
  r.ordered (record writing { stamp = 2 }) (record printing { stamp = 1 }) (0, omega arith, refl)
      (1, omega arith, refl) written_first,
)

leads_writing : LeadsTo written_then_printed writing (OfLog []) (OfLog [])
unfolding mean one many below atom
leads_writing = record {
  image = refl;
  out = ap (λ (c : Carried). Some (Gave c))
      (carried_same _ (number_out 3 (pos 1))
      (λ x. by_test 3 x (λ e. rw e refl) (λ e. by_test 2 x (λ d. rw (e, d) refl) (λ d. rw (e, d) refl)))
      (elim [ zero ↦ refl | suc g ↦ rw (eqb-zero-suc g) refl ]) refl);
}

leads_printing : LeadsTo written_then_printed printing (OfLog []) (OfLog (printed_one ∷ []))
unfolding mean one many below atom
leads_printing = record {
  image = refl;
  out = nothing_given _ (λ x. by_test 3 x (λ e. rw e refl)
      (λ e. by_test 2 x (λ d. rw (e, d) refl) (λ d. rw (e, d) refl)))
      (elim [ zero ↦ refl | suc g ↦ rw (eqb-zero-suc g) refl ]) refl;
}

not_written_last : Ordered written_then_printed (1 ∷ 1 ∷ []) (1 ∷ 0 ∷ []) → ⊥
not_written_last = part_so written_then_printed (1 ∷ 1 ∷ []) (1 ∷ 0 ∷ [])
    (fork_of written_then_printed (1 ∷ 1 ∷ []) (1 ∷ 0 ∷ [])) refl
    (backwards written_then_printed (inside written_then_printed (first_point written_then_printed) 1) 1 0 refl
    (omega arith))

-- of the two blocks only the one that writes keeps its place before the other
abbrev StampsRise : Event → Event → Type 0
StampsRise d e = Ordered written_then_printed d.path e.path → d.stamp < e.stamp

rises_from : (d e : Event) → Contains writing_first.events d → Contains writing_first.events e → StampsRise d e
rises_from d e a b = of_two (λ (x : Event). (y : Event) → Contains writing_first.events y
    → StampsRise x y) writing printing
    (of_two (StampsRise writing) writing printing
    (λ o. absurd (unparted written_then_printed (1 ∷ 0 ∷ []) (1 ∷ 0 ∷ []) refl o)) (λ o. omega arith))
    (of_two (StampsRise printing) writing printing (λ o. absurd (not_written_last o))
    (λ o. absurd (unparted written_then_printed (1 ∷ 1 ∷ []) (1 ∷ 1 ∷ []) refl o)))
    d a e b

writing_first-legal : Legal written_then_printed writing_first
writing_first-legal = record {
  differ = two_differ 1 2 (λ (e : 1 ≡ 2). omega (arith, e));
  places = elim [
    | zero ↦ (λ l. (0, omega arith, refl), λ c. omega arith)
    | suc zero ↦ (λ l. (1, omega arith, refl), λ c. omega arith)
    | suc (suc i) ↦ (
      λ l. absurd (omega (arith, l)),
      λ c. of_two (λ z. z < 2) 0 1 (omega arith) (omega arith)
          (suc (suc i)) c,
    )
  ];
  once = two_differ 0 1 (λ (e : 0 ≡ 1). omega (arith, e));
  rises = (omega arith, tt);
  leads = one_cell written_then_printed writing_first.events written_cell
      (OfLog [], leads_writing, (OfLog (printed_one ∷ []), leads_printing, refl));
  ordered = rises_from;
}

abbrev written_asks : List Asking
written_asks = record { cell = written_cell.name; ask = writing.ask }
    ∷ record { cell = written_cell.name; ask = printing.ask } ∷ []

writing_first-asks : (mean_of written_then_printed [] 10 writing_first).asked ≡ written_asks
unfolding mean one many below
writing_first-asks = two_same _ _ _ _
    (asking_same _ _ refl refl refl refl refl refl
    (carried_same _ (number_out 3 (pos 0))
    (λ x. by_test 3 x (λ e. rw e refl) (λ e. by_test 2 x (λ d. rw (e, d) refl) (λ d. rw (e, d) refl)))
    (elim [ zero ↦ refl | suc g ↦ rw (eqb-zero-suc g) refl ]) refl))
    (asking_same _ _ refl refl refl refl refl refl
    (carried_same _ (number_out 3 (pos 1))
    (λ x. by_test 3 x (λ e. rw e refl) (λ e. by_test 2 x (λ d. rw (e, d) refl) (λ d. rw (e, d) refl)))
    (elim [ zero ↦ refl | suc g ↦ rw (eqb-zero-suc g) refl ]) refl))

writing_first-asks_past : (part_of_report written_then_printed [] 10 writing_first).asked ≡ written_asks
unfolding part one many below
writing_first-asks_past = two_same _ _ _ _
    (asking_same _ _ refl refl refl refl refl refl
    (carried_same _ (number_out 3 (pos 0))
    (λ x. by_test 3 x (λ e. rw e refl) (λ e. by_test 2 x (λ d. rw (e, d) refl) (λ d. rw (e, d) refl)))
    (elim [ zero ↦ refl | suc g ↦ rw (eqb-zero-suc g) refl ]) refl))
    (asking_same _ _ refl refl refl refl refl refl
    (carried_same _ (number_out 3 (pos 1))
    (λ x. by_test 3 x (λ e. rw e refl) (λ e. by_test 2 x (λ d. rw (e, d) refl) (λ d. rw (e, d) refl)))
    (elim [ zero ↦ refl | suc g ↦ rw (eqb-zero-suc g) refl ]) refl))

is_written_asked : (e : Event) (x : Asking) → Contains writing_first.events e → asking_of writing_first e ≡ Some x
    → Contains written_asks x
is_written_asked e x c = of_two
    (λ (d : Event). asking_of writing_first d ≡ Some x → Contains written_asks x) writing printing
    (λ q. (0, omega arith, same_Some (record { cell = written_cell.name; ask = writing.ask }) x q))
    (λ q. (1, omega arith, same_Some (record { cell = written_cell.name; ask = printing.ask }) x q)) e c

-- The block that prints asks with what the other one answered.
writing_first-explained : Explained written_then_printed [] 10 writing_first
unfolding mean part one many below atom
writing_first-explained = record {
  ending = refl;
  events = record {
    in_order = pair_of_two (λ (d e : Event). comes_before d.path e.path ≡ true) writing printing refl;
    own_path = of_two (λ (e : Event). e.ask.path ≡ e.path) writing printing refl refl;
    of_a_cell = of_two (λ (e : Event). e.cell < 1) writing printing (omega arith) (omega arith);
  };
  used = record { from = refl; asks = ap (map Some) writing_first-asks };
  past = record { within = omega arith; later = λ e c. absurd (empty_has_nothing e c); none = λ d. refl };
  asked = λ e x c q. subst (λ (l : List Asking). Contains l x) (sym writing_first-asks_past)
      (is_written_asked e x c q);
  cells = inl (inl (0, omega arith, refl), ([], refl, refl));
  legal = writing_first-legal;
  out = one_line (line (pos 1));
}
