-- Reports whose cells are not those of the split blocks that were entered, one for each, in their order: all are refused.
use Rattle.std.proofs.Common.{◌≡◌, inl, inr, refl, ap, arith, ℕ, nat_eq, if◌then◌else◌, List, [], ◌∷◌, Option, None}
use Rattle.std.proofs.Common.{Some}
use Rattle.std.specs.Prelude.{pos}
use Rattle.ae_tree.specs.declared.form.Form.TheVariants as f
use Rattle.ae_tree.specs.declared.form.Perm.TheVariants as perm
use Rattle.ae_tree.specs.declared.form.Kind.TheVariants as kind
use Rattle.ae_rules.specs.Instances.{Instance}
use Rattle.ae_semantics.specs.Values.{Object, OfInt, Member, AndValue, NoValue}
use Rattle.ae_semantics.specs.Places.{Bound}
use Rattle.ae_semantics.specs.declared.report.Ending.TheVariants.{Done}
use Rattle.ae_semantics.specs.Observations.{Image, OfStore, Gave}
use Rattle.ae_semantics.specs.Meaning.{one, many, below}
use Rattle.ae_semantics.specs.Means.{First, mean}
use Rattle.ae_semantics.specs.Atom.{part}
use Rattle.ae_semantics.specs.Report.{Event, CellReport, Report, Picks, first_of, IsReported, Explained}
use Rattle.ae_worked.proofs.MeaningWords.{line, nothing_out}
use Rattle.ae_worked.proofs.GroupUseExamples.{four_in_a_group}
use Rattle.ae_worked.proofs.NewExamples.{two_groups}

-- ---- cells exchanged

-- a group with one counter, which stands at this number
abbrev counter : ℕ → Image
counter n = OfStore (Object 3 (AndValue (OfInt (pos n)) NoValue) ∷ [])

abbrev cell_of : Instance → ℕ → ℕ → ℕ → CellReport
cell_of q g m n = record { name = record { path = q; group = g }; first = counter m; last = counter n }

-- a report with these cells, whose program went through
abbrev with_cells : List Event → List ℕ → List CellReport → ℕ → Report
with_cells events order cells n = record {
  ending = Done;
  out = line (pos n);
  events = events;
  past = 0;
  order = order;
  cells = cells;
  trace = [];
}

-- the first cell that is entered is in the report at its place
first_is_first : (passes : First → Type 0) (x y : First) (xs ys : List First) → passes x
    → Picks passes (x ∷ xs) (y ∷ ys) → y ≡ x
first_is_first passes x y xs ys h (inl (k, (rest, e, more))) = cc
first_is_first passes x y xs ys h (inr (k, more)) = absurd (k h)

-- the cell of the second group stands first
abbrev exchanged : Report
exchanged = with_cells [] [] (cell_of (6 ∷ []) 6 2 2 ∷ cell_of (6 ∷ []) 5 1 1 ∷ []) 2

other_group : ◌≡◌ {A = ℕ} 6 5 → ⊥
other_group e = omega (arith, e)

exchanged-refused : Explained two_groups [] 100 exchanged → ⊥
unfolding mean part one many below
exchanged-refused e = other_group (ap (λ (x : First). x.cell.group)
    (first_is_first (IsReported two_groups [] 100 exchanged) (first_of (cell_of (6 ∷ []) 5 1 1))
    (first_of (cell_of (6 ∷ []) 6 2 2))
    (first_of (cell_of (6 ∷ []) 6 2 2) ∷ []) (first_of (cell_of (6 ∷ []) 5 1 1) ∷ [])
    (inl (0, omega arith, refl)) e.cells))

-- ---- a cell twice

-- the member that the parameter of each call holds
abbrev counted : ℕ → Option Bound
counted x = if nat_eq 7 x then Some
    (record { form = f.Object (perm.Shared 6) (kind.Class 3 []); value = Member 0 }) else None

-- what the block in this call asks, and that it went through
abbrev in_call : ℕ → ℕ → ℕ → Event
in_call cell j stamp = record {
  cell = cell;
  path = 3 ∷ j ∷ 0 ∷ [];
  ask = record {
    path = 3 ∷ j ∷ 0 ∷ [];
    method = 0;
    block = 1;
    fuel = 99;
    depth = 2;
    ins = record nothing_out { locals = counted };
  };
  out = Gave nothing_out;
  stamp = stamp;
}

-- two of the blocks by the one cell and two by the other, so that two of the four are lost
abbrev doubled : Report
doubled = with_cells (in_call 0 0 1 ∷ in_call 0 1 2 ∷ in_call 1 2 3 ∷ in_call 1 3 4 ∷ []) (0 ∷ 1 ∷ 2 ∷ 3 ∷ [])
    (cell_of (3 ∷ []) 6 0 2 ∷ cell_of (3 ∷ []) 6 0 2 ∷ []) 2

one_in_place_of_two : (passes : First → Type 0) (x y z : First) → passes x → Picks passes (x ∷ []) (y ∷ z ∷ []) → ⊥
one_in_place_of_two passes x y z h (inl (k, (rest, e, more))) = absurd (cc)
one_in_place_of_two passes x y z h (inr (k, more)) = k h

doubled-refused : Explained four_in_a_group [] 100 doubled → ⊥
unfolding mean part one many below
doubled-refused e = one_in_place_of_two (IsReported four_in_a_group [] 100 doubled)
    (first_of (cell_of (3 ∷ []) 6 0 2)) _ _ (inl (0, omega arith, refl)) e.cells
