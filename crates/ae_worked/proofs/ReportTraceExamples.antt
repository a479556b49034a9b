-- The lines of reports: who ran when.
use Rattle.std.proofs.Common.{◌≡◌, ◌<◌, ◌⊎◌, inl, inr, refl, sym, ap, subst, arith, ℕ, zero, suc, nat_eq, true, ◌&&◌}
use Rattle.std.proofs.Common.{List, [], ◌∷◌, Contains}
use Rattle.std.proofs.Math.Dec.{eqb-zero-suc}
use Rattle.ae_rules.specs.Instances.{Instance, Conflict}
use Rattle.ae_rules.specs.Paths.{comes_before, is_prefix_of, is_simple_at}
use Rattle.ae_semantics.specs.declared.report.Ending.TheVariants.{Done}
use Rattle.ae_semantics.specs.declared.report.Piece.{Piece}
use Rattle.ae_semantics.specs.Meaning.{one, many, below}
use Rattle.ae_semantics.specs.Means.{At, mean}
use Rattle.ae_semantics.specs.Atom.{part}
use Rattle.ae_semantics.specs.declared.report.TraceLine.{TraceLine}
use Rattle.ae_semantics.specs.Report.{Report, AllDiffer, mean_of, Covers, IsLineOf, IsLater, KeepInTime, traced_part}
use Rattle.ae_semantics.specs.Report.{Traced}
use Rattle.ae_worked.proofs.ReportWords.{of_two, of_three, pair_of_two, and_false, not_both, fork_of}
use Rattle.ae_worked.proofs.ReportWords.{conflict_so, all_differ-so, no_line}
use Rattle.ae_worked.proofs.ProgramWords.{at}
use Rattle.ae_worked.proofs.ReportExamples.{first_block, second_block, piece_one, piece_two, report, block_line}
use Rattle.ae_worked.proofs.ReportExamples.{in_order, other_order, no_clash, free}
use Rattle.ae_worked.proofs.ReportOrderExamples.{written_first, writing_first}
use Rattle.ae_worked.proofs.SplitRunExamples.{two_prints, written_then_printed}
use Rattle.ae_worked.proofs.from_text.Basics.{empty_has_nothing}

-- ---- traced

apart : (q : Instance) → is_prefix_of first_block q ≡ true → is_prefix_of second_block q ≡ true → ⊥
apart [] e d = not_both _ refl e
apart (a ∷ []) e d = not_both _ (and_false (nat_eq 0 a)) e
apart (suc a ∷ b ∷ q) e d = not_both _ (ap (λ c. c && (nat_eq 0 b && true)) (eqb-zero-suc a)) e
apart (zero ∷ zero ∷ q) e d = not_both _ refl d
apart (zero ∷ suc b ∷ q) e d = not_both _ (ap (λ c. c && true) (eqb-zero-suc b)) e

abbrev AreApart : Report → TraceLine → TraceLine → Type 0
AreApart r l m = (q : Instance) → Covers (traced_part two_prints [] 10 r) l q
    → Covers (traced_part two_prints [] 10 r) m q → ⊥

-- no loop has turns
lines_apart : (s t : ℕ) (order : List ℕ) (pieces : List Piece) (out : List ℕ) (trace : List TraceLine)
    (l m : TraceLine) → l.path ≡ first_block → m.path ≡ second_block
    → AreApart (report s t order pieces out trace) l m
unfolding part one many below
lines_apart s t order pieces out trace l m e d q (inl x) (inl y) = apart q (subst (λ z. is_prefix_of z q ≡ true) e x)
    (subst (λ z. is_prefix_of z q ≡ true) d y)
lines_apart s t order pieces out trace l m e d q (inl x) (inr y) = absurd (empty_has_nothing y.0 y.1)
lines_apart s t order pieces out trace l m e d q (inr x) y = absurd (empty_has_nothing x.0 x.1)

no_conflict : Conflict two_prints first_block second_block → ⊥
no_conflict = conflict_so two_prints first_block second_block
    (fork_of two_prints first_block second_block) refl no_clash

abbrev HasLine : Report → At → Type 0
HasLine r x = (l : TraceLine) × Contains r.trace l × Covers (traced_part two_prints [] 10 r) l x.path

abbrev both_lines : ℕ → ℕ → ℕ → ℕ → List TraceLine
both_lines a b c d = block_line first_block 3 a b ∷ block_line second_block 4 c d ∷ []

is_covered : (r : Report) (x : At) (l : TraceLine) → Contains r.trace l → is_prefix_of l.path x.path ≡ true
    → HasLine r x
is_covered r x l c e = (l, c, inl e)

-- the statements that ran: the split block, which is not simple, and the two blocks
all_covered : (r : Report) (a b c d : ℕ) → r.trace ≡ both_lines a b c d → (x : At)
    → Contains (record { path = 0 ∷ []; spot = at 2 1 } ∷ record { path = first_block; spot = at 3 1 }
    ∷ record { path = second_block; spot = at 4 1 } ∷ []) x
    → is_simple_at two_prints x.path ≡ true → HasLine r x
all_covered r a b c d t = of_three (λ (x : At). is_simple_at two_prints x.path ≡ true → HasLine r x) _ _ _
    (λ e. absurd (not_both _ refl e))
    (λ e. is_covered r (record { path = first_block; spot = at 3 1 }) (block_line first_block 3 a b)
    (subst (λ (ls : List TraceLine). Contains ls (block_line first_block 3 a b)) (sym t) (0, omega arith, refl)) refl)
    (λ e. is_covered r (record { path = second_block; spot = at 4 1 }) (block_line second_block 4 c d)
    (subst (λ (ls : List TraceLine). Contains ls (block_line second_block 4 c d)) (sym t)
    (1, omega arith, refl)) refl)

-- Two lines whose spans may lie anywhere, at once or one after the other.
traced : (s t : ℕ) (order : List ℕ) (pieces : List Piece) (out : List ℕ) (a b c d : ℕ)
    → AllDiffer (a ∷ b ∷ c ∷ d ∷ s ∷ t ∷ []) → a < b → c < d
    → Traced two_prints [] 10 (report s t order pieces out (both_lines a b c d))
unfolding mean part one many below
traced s t order pieces out a b c d differ first second =
    let l : TraceLine = block_line first_block 3 a b in
    let m : TraceLine = block_line second_block 4 c d in
    let r : Report = report s t order pieces out (both_lines a b c d) in
    record {
      differ = differ;
      spans = of_two (λ (k : TraceLine). k.began < k.ended) l m first second;
      once = pair_of_two (AreApart r) l m (lines_apart s t order pieces out (both_lines a b c d) l m refl refl);
      keeps = pair_of_two (KeepInTime two_prints) l m
          (elim [
            | inl x ↦ absurd (free first_block second_block (inl refl) (inr refl) x)
            | inr x ↦ absurd (no_conflict x)
          ]);
      all_run = all_covered r a b c d refl;
      run_only = of_two (IsLineOf (traced_part two_prints [] 10 r)) l m (inl (1, omega arith, refl))
          (inl (2, omega arith, refl));
      meant = of_two (λ (k : TraceLine). IsLater (mean_of two_prints [] 10 r) Done k.path ⊎ IsLineOf
          (mean_of two_prints [] 10 r) k) l m
          (inr (inl (1, omega arith, refl))) (inr (inl (2, omega arith, refl)));
      rising = pair_of_two (λ (j k : TraceLine). comes_before j.path k.path ≡ true) l m refl;
    }

in_order-traced : Traced two_prints [] 10 in_order
in_order-traced = traced 2 5 in_order.order (piece_one ∷ piece_two ∷ []) in_order.out 1 3 4 6
    (all_differ-so (1 ∷ 3 ∷ 4 ∷ 6 ∷ 2 ∷ 5 ∷ []) refl) (omega arith) (omega arith)

other_order-traced : Traced two_prints [] 10 other_order
other_order-traced = traced 5 3 other_order.order (piece_two ∷ piece_one ∷ []) other_order.out 2 6 1 4
    (all_differ-so (2 ∷ 6 ∷ 1 ∷ 4 ∷ 5 ∷ 3 ∷ []) refl) (omega arith) (omega arith)

-- a trace in which the block that prints ends before the block begins that writes what it prints
abbrev early_print : Report
early_print = record writing_first { trace = block_line (1 ∷ 0 ∷ []) 4 5 6 ∷ block_line (1 ∷ 1 ∷ []) 5 3 4 ∷ [] }

early_print-refused : Traced written_then_printed [] 10 early_print → ⊥
early_print-refused r = omega (
  arith,
  r.keeps.0 (block_line (1 ∷ 1 ∷ []) 5 3 4) (0, omega arith, refl)
      (inl written_first),
)

-- without a line no statement is covered
empty_trace-refused : Traced written_then_printed [] 10 writing_first → ⊥
unfolding mean one many below
empty_trace-refused r = no_line (r.all_run (record { path = 0 ∷ []; spot = at 2 1 }) (0, omega arith, refl) refl)
