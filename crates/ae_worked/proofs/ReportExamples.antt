-- Reports of runs, worked out: two blocks in either order, and reports that are refused.
use Rattle.std.proofs.Common.{◌≡◌, ◌<◌, ◌⊎◌, inl, inr, refl, sym, ap, subst, arith, ℕ, zero, suc, true, List, [], ◌∷◌}
use Rattle.std.proofs.Common.{◌++◌, ◌∙◌, map, Option, Some, Contains}
use Rattle.std.proofs.Math.Dec.{eqb-zero-suc}
use Rattle.std.specs.Prelude.{pos}
use Rattle.ae_text.specs.declared.refusal.Spot.{Spot}
use Rattle.ae_tree.specs.Plain.{Code}
use Rattle.ae_rules.specs.declared.uses.Resource.{Resource}
use Rattle.ae_rules.specs.declared.uses.Resource.TheVariants.{Local, Group}
use Rattle.ae_rules.specs.Edges.{IsConflict}
use Rattle.ae_rules.specs.Instances.{Instance, Point, inside, first_point, Ordered}
use Rattle.ae_rules.specs.Paths.{comes_before}
use Rattle.ae_semantics.specs.Places.{CellName}
use Rattle.ae_semantics.specs.declared.report.Ending.TheVariants.{Done}
use Rattle.ae_semantics.specs.declared.report.Piece.{Piece}
use Rattle.ae_semantics.specs.Observations.{Image, OfLog, Carried, Ask, Answer, Gave, Trapped}
use Rattle.ae_semantics.specs.Meaning.{one, many, below}
use Rattle.ae_semantics.specs.Means.{Asking, mean, pieces_bytes}
use Rattle.ae_semantics.specs.Atom.{atom, part}
use Rattle.ae_semantics.specs.declared.report.TraceLine.{TraceLine}
use Rattle.ae_semantics.specs.Report.{Event, CellReport, Report, Leads, LeadsTo, Legal, Explained, mean_of}
use Rattle.ae_semantics.specs.Report.{part_of_report, asking_of}
use Rattle.ae_worked.proofs.ReportWords.{of_two, pair_of_two, two_differ, carried_same}
use Rattle.ae_worked.proofs.ReportWords.{asking_same, two_same, unparted, part_so, fork_of, used_at, backwards}
use Rattle.ae_worked.proofs.ReportWords.{side_by_side, hidden, unused, one_cell, by_test, nothing_given}
use Rattle.ae_worked.proofs.ReportWords.{two_lines}
use Rattle.ae_worked.proofs.ProgramWords.{at}
use Rattle.ae_worked.proofs.MeaningWords.{line, nothing_out}
use Rattle.ae_worked.proofs.SplitRunExamples.{two_prints}
use Rattle.ae_worked.proofs.from_text.Basics.{empty_has_nothing}
use Rattle.std.proofs.lemmas.Option.{same_Some}

-- ---- two blocks that print

-- The blocks may go in any order.
abbrev pub first_block : Instance
first_block = 0 ∷ 0 ∷ []

abbrev pub second_block : Instance
second_block = 0 ∷ 1 ∷ []

abbrev pub asked_at : Instance → ℕ → Ask
asked_at q block = record { path = q; method = 0; block = block; fuel = 10; depth = 1; ins = nothing_out }

abbrev pub event_at : Instance → ℕ → ℕ → Event
event_at q block stamp = record { cell = 0; path = q; ask = asked_at q block; out = Gave nothing_out; stamp = stamp }

abbrev pub piece_one : Piece
piece_one = record { path = 0 ∷ 0 ∷ 0 ∷ []; bytes = line (pos 1) }

abbrev pub piece_two : Piece
piece_two = record { path = 0 ∷ 1 ∷ 0 ∷ []; bytes = line (pos 2) }

abbrev pub log_cell : List Piece → CellReport
log_cell pieces = record { name = record { path = 0 ∷ []; group = 0 }; first = OfLog []; last = OfLog pieces }

-- a report of the two blocks, with these stamps, in this order of their places
abbrev pub report : ℕ → ℕ → List ℕ → List Piece → List ℕ → List TraceLine → Report
report s t order pieces out trace = record {
  ending = Done;
  out = out;
  events = event_at first_block 2 s ∷ event_at second_block 3 t ∷ [];
  past = 0;
  order = order;
  cells = log_cell pieces ∷ [];
  trace = trace;
}

abbrev pub block_line : Instance → ℕ → ℕ → ℕ → TraceLine
block_line q number began ended = record { path = q; at = at number 1; began = began; ended = ended }

-- first the one block, then the other
abbrev pub in_order : Report
in_order = report 2 5 (0 ∷ 1 ∷ []) (piece_one ∷ piece_two ∷ []) (line (pos 1) ++ line (pos 2))
    (block_line first_block 3 1 3 ∷ block_line second_block 4 4 6 ∷ [])

-- the second block before the first, and both at once
abbrev pub other_order : Report
other_order = report 5 3 (1 ∷ 0 ∷ []) (piece_two ∷ piece_one ∷ []) (line (pos 2) ++ line (pos 1))
    (block_line first_block 3 2 6 ∷ block_line second_block 4 1 4 ∷ [])

-- ---- their order

abbrev pub IsBlock : Instance → Type 0
IsBlock q = (q ≡ first_block) ⊎ (q ≡ second_block)

-- where no order is kept between the two blocks, none is kept between blocks
pub free_in : (p : Code) → (Ordered p first_block first_block → ⊥) → (Ordered p first_block second_block → ⊥)
    → (Ordered p second_block first_block → ⊥)
    → (Ordered p second_block second_block → ⊥) → (q r : Instance) → IsBlock q → IsBlock r → Ordered p q r → ⊥
free_in p f g h k q r (inl e) (inl d) o = f (subst (λ z. Ordered p first_block z) d (subst (λ z. Ordered p z r) e o))
free_in p f g h k q r (inl e) (inr d) o = g (subst (λ z. Ordered p first_block z) d (subst (λ z. Ordered p z r) e o))
free_in p f g h k q r (inr e) (inl d) o = h (subst (λ z. Ordered p second_block z) d (subst (λ z. Ordered p z r) e o))
free_in p f g h k q r (inr e) (inr d) o = k (subst (λ z. Ordered p second_block z) d (subst (λ z. Ordered p z r) e o))

-- inside the split block
abbrev pub inside_split : Code → Point
inside_split p = inside p (first_point p) 0

-- the blocks conflict on nothing
pub no_clash : (r : Resource) → IsConflict (used_at two_prints (inside_split two_prints) 0 r)
    (used_at two_prints (inside_split two_prints) 1 r) → ⊥
no_clash (Local y) h = unused _ _ (hidden _) h
no_clash (Group zero) h = absurd (cc)
no_clash (Group (suc g)) h = unused _ _ (rw (eqb-zero-suc g) refl) h

pub free : (q r : Instance) → IsBlock q → IsBlock r → Ordered two_prints q r → ⊥
free = free_in two_prints (unparted two_prints first_block first_block refl)
    (part_so two_prints first_block second_block (fork_of two_prints first_block second_block) refl
    (side_by_side two_prints (inside_split two_prints) 0 1 refl refl no_clash))
    (part_so two_prints second_block first_block (fork_of two_prints second_block first_block) refl
    (backwards two_prints (inside_split two_prints) 1 0 refl (omega arith)))
    (unparted two_prints second_block second_block refl)

is_block : (s t : ℕ) (e : Event) → Contains (event_at first_block 2 s ∷ event_at second_block 3 t ∷ []) e
    → IsBlock e.path
is_block s t = of_two (λ (e : Event). IsBlock e.path) _ _ (inl refl) (inr refl)

-- ---- what the blocks do

leads_first : (stamp : ℕ) (pieces : List Piece)
    → LeadsTo two_prints (event_at first_block 2 stamp) (OfLog pieces) (OfLog (pieces ++ (piece_one ∷ [])))
unfolding mean one many below atom
leads_first stamp pieces = record {
  image = refl;
  out = nothing_given _ (λ x. by_test 2 x (λ e. rw e refl) (λ e. rw e refl))
      (elim [ zero ↦ refl | suc g ↦ rw (eqb-zero-suc g) refl ]) refl;
}

leads_second : (stamp : ℕ) (pieces : List Piece)
    → LeadsTo two_prints (event_at second_block 3 stamp) (OfLog pieces) (OfLog (pieces ++ (piece_two ∷ [])))
unfolding mean one many below atom
leads_second stamp pieces = record {
  image = refl;
  out = nothing_given _ (λ x. by_test 2 x (λ e. rw e refl) (λ e. rw e refl))
      (elim [ zero ↦ refl | suc g ↦ rw (eqb-zero-suc g) refl ]) refl;
}

-- ---- legal order

in_order-legal : Legal two_prints in_order
in_order-legal = record {
  differ = two_differ 2 5 (λ (e : 2 ≡ 5). omega (arith, e));
  places = elim [
    | zero ↦ (λ l. (0, omega arith, refl), λ c. omega arith)
    | suc zero ↦ (λ l. (1, omega arith, refl), λ c. omega arith)
    | suc (suc i) ↦ (
      λ l. absurd (omega (arith, l)),
      λ c. of_two (λ z. z < 2) 0 1 (omega arith) (omega arith)
          (suc (suc i)) c,
    )
  ];
  once = two_differ 0 1 (λ (e : 0 ≡ 1). omega (arith, e));
  rises = (omega arith, tt);
  leads = one_cell two_prints (event_at first_block 2 2 ∷ event_at second_block 3 5 ∷ [])
      (log_cell (piece_one ∷ piece_two ∷ [])) (
        OfLog (piece_one ∷ []),
        leads_first 2 [],
        (OfLog (piece_one ∷ piece_two ∷ []), leads_second 5 (piece_one ∷ []), refl),
      );
  ordered = λ d e a b o. absurd (free d.path e.path (is_block 2 5 d a) (is_block 2 5 e b) o);
}

other_order-legal : Legal two_prints other_order
other_order-legal = record {
  differ = two_differ 5 3 (λ (e : 5 ≡ 3). omega (arith, e));
  places = elim [
    | zero ↦ (λ l. (1, omega arith, refl), λ c. omega arith)
    | suc zero ↦ (λ l. (0, omega arith, refl), λ c. omega arith)
    | suc (suc i) ↦ (
      λ l. absurd (omega (arith, l)),
      λ c. of_two (λ z. z < 2) 1 0 (omega arith) (omega arith)
          (suc (suc i)) c,
    )
  ];
  once = two_differ 1 0 (λ (e : 1 ≡ 0). omega (arith, e));
  rises = (omega arith, tt);
  leads = one_cell two_prints (event_at second_block 3 3 ∷ event_at first_block 2 5 ∷ [])
      (log_cell (piece_two ∷ piece_one ∷ [])) (
        OfLog (piece_two ∷ []),
        leads_second 3 [],
        (OfLog (piece_two ∷ piece_one ∷ []), leads_first 5 (piece_two ∷ []), refl),
      );
  ordered = λ d e a b o. absurd (free d.path e.path (is_block 5 3 d a) (is_block 5 3 e b) o);
}

-- ---- explained

abbrev log_name : CellName
log_name = record { path = 0 ∷ []; group = 0 }

abbrev pub asking : Instance → ℕ → Asking
asking q block = record { cell = log_name; ask = asked_at q block }

abbrev pub both_asks : List Asking
both_asks = asking first_block 2 ∷ asking second_block 3 ∷ []

-- in source order, and past what stopped, the two blocks ask alike
asked_in : (s t : ℕ) (order : List ℕ) (pieces : List Piece) (out : List ℕ) (trace : List TraceLine)
    → (mean_of two_prints [] 10 (report s t order pieces out trace)).asked ≡ both_asks
unfolding mean one many below
asked_in s t order pieces out trace = two_same _ _ _ _
    (asking_same _ _ refl refl refl refl refl refl
    (carried_same _ nothing_out (λ x. by_test 2 x (λ e. rw e refl) (λ e. rw e refl))
    (elim [ zero ↦ refl | suc g ↦ rw (eqb-zero-suc g) refl ]) refl))
    (asking_same _ _ refl refl refl refl refl refl
    (carried_same _ nothing_out (λ x. by_test 2 x (λ e. rw e refl) (λ e. rw e refl))
    (elim [ zero ↦ refl | suc g ↦ rw (eqb-zero-suc g) refl ]) refl))

asked_past : (s t : ℕ) (order : List ℕ) (pieces : List Piece) (out : List ℕ) (trace : List TraceLine)
    → (part_of_report two_prints [] 10 (report s t order pieces out trace)).asked ≡ both_asks
unfolding part one many below
asked_past s t order pieces out trace = two_same _ _ _ _
    (asking_same _ _ refl refl refl refl refl refl
    (carried_same _ nothing_out (λ x. by_test 2 x (λ e. rw e refl) (λ e. rw e refl))
    (elim [ zero ↦ refl | suc g ↦ rw (eqb-zero-suc g) refl ]) refl))
    (asking_same _ _ refl refl refl refl refl refl
    (carried_same _ nothing_out (λ x. by_test 2 x (λ e. rw e refl) (λ e. rw e refl))
    (elim [ zero ↦ refl | suc g ↦ rw (eqb-zero-suc g) refl ]) refl))

is_asked : (s t : ℕ) (order : List ℕ) (pieces : List Piece) (out : List ℕ) (trace : List TraceLine) (e : Event)
    (x : Asking) → Contains (report s t order pieces out trace).events e
    → asking_of (report s t order pieces out trace) e ≡ Some x → Contains both_asks x
is_asked s t order pieces out trace e x c = of_two
    (λ (d : Event). asking_of (report s t order pieces out trace) d ≡ Some x → Contains both_asks x)
    (event_at first_block 2 s) (event_at second_block 3 t)
    (λ q. (0, omega arith, same_Some (asking first_block 2) x q))
    (λ q. (1, omega arith, same_Some (asking second_block 3) x q)) e c

explained : (s t : ℕ) (order : List ℕ) (pieces : List Piece) (out : List ℕ) (trace : List TraceLine) → out
    ≡ pieces_bytes pieces ++ [] → Legal two_prints (report s t order pieces out trace)
    → Explained two_prints [] 10 (report s t order pieces out trace)
unfolding mean part one many below atom
explained s t order pieces out trace same legal = record {
  ending = refl;
  events = record {
    in_order = pair_of_two (λ (d e : Event). comes_before d.path e.path ≡ true) (event_at first_block 2 s)
        (event_at second_block 3 t) refl;
    own_path = of_two (λ (e : Event). e.ask.path ≡ e.path) (event_at first_block 2 s)
        (event_at second_block 3 t) refl refl;
    of_a_cell = of_two (λ (e : Event). e.cell < 1) (event_at first_block 2 s) (event_at second_block 3 t)
        (omega arith) (omega arith);
  };
  used = record { from = refl; asks = ap (map Some) (asked_in s t order pieces out trace) };
  past = record { within = omega arith; later = λ e c. absurd (empty_has_nothing e c); none = λ d. refl };
  asked = λ e x c q. subst (λ (l : List Asking). Contains l x) (sym (asked_past s t order pieces out trace))
      (is_asked s t order pieces out trace e x c q);
  cells = inl (inl (0, omega arith, refl), ([], refl, refl));
  legal = legal;
  out = same;
}

in_order-explained : Explained two_prints [] 10 in_order
in_order-explained = explained 2 5 in_order.order (piece_one ∷ piece_two ∷ []) in_order.out in_order.trace
    (two_lines (line (pos 1)) (line (pos 2))) in_order-legal

other_order-explained : Explained two_prints [] 10 other_order
other_order-explained = explained 5 3 other_order.order
    (piece_two ∷ piece_one ∷ []) other_order.out other_order.trace
    (two_lines (line (pos 2)) (line (pos 1))) other_order-legal

-- ---- refused

-- the blocks in the one order, and the log as the other order leaves it
abbrev log_of_the_other : Report
log_of_the_other = record in_order { cells = log_cell (piece_two ∷ piece_one ∷ []) ∷ [] }

one_image : (p : Code) (e : Event) (before after next : Image) → LeadsTo p e before after → LeadsTo p e before next
    → next ≡ after
one_image p e before after next x y = sym y.image ∙ x.image

abbrev log_paths : Image → List Instance
log_paths (OfLog xs) = map (λ (x : Piece). x.path) xs
log_paths _ = []

other_paths : piece_one.path ∷ piece_two.path ∷ [] ≡ piece_two.path ∷ piece_one.path ∷ [] → ⊥
other_paths e = cc

leads_only : (last : Image) → Leads two_prints in_order.events (OfLog []) last → log_paths last ≡ piece_one.path
    ∷ piece_two.path ∷ []
leads_only last (next, x, (after, y, e)) =
    let d : next ≡ OfLog (piece_one ∷ []) = one_image two_prints (event_at first_block 2 2) (OfLog []) _ _
    (leads_first 2 []) x in
    let z : LeadsTo two_prints (event_at second_block 3 5) (OfLog (piece_one ∷ [])) after = subst
    (λ (v : Image). LeadsTo two_prints (event_at second_block 3 5) v after) d y in
    let f : after ≡ OfLog (piece_one ∷ piece_two ∷ []) = one_image two_prints (event_at second_block 3 5)
    (OfLog (piece_one ∷ [])) _ _ (leads_second 5 (piece_one ∷ [])) z in
    ap log_paths (sym e ∙ f)

log_of_the_other-refused : Legal two_prints log_of_the_other → ⊥
log_of_the_other-refused r = other_paths
    (sym (leads_only (OfLog (piece_two ∷ piece_one ∷ [])) (r.leads 0 (log_cell (piece_two ∷ piece_one ∷ [])) refl)))

-- the first block trapped, where its statements give an answer
abbrev other_answer : Report
other_answer = record in_order {
  events = record (event_at first_block 2 2) { out = Trapped 5 (at 3 13) }
      ∷ event_at second_block 3 5 ∷ [];
}

two_answers : (x : Option Answer) (c : Carried) (code : ℕ) (spot : Spot) → x ≡ Some (Gave c) → x
    ≡ Some (Trapped code spot) → ⊥
two_answers x c code spot e d = cc

other_answer-refused : Legal two_prints other_answer → ⊥
other_answer-refused r = two_answers _ nothing_out 5 (at 3 13) (leads_first 2 []).out
    (r.leads 0 (log_cell (piece_one ∷ piece_two ∷ [])) refl).1.out
