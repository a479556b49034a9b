-- Rows that are right by some answers are right by more.
use Rattle.std.proofs.Common.{◌≡◌, inl, inr, subst, ℕ, List, [], ◌∷◌, Option}
use Rattle.std.specs.Prelude.{⊤}
use Rattle.ae_tree.specs.Plain.{Code}
use Rattle.ae_semantics.specs.Places.{CellName}
use Rattle.ae_semantics.specs.Observations.{Seen, Query, Mark}
use Rattle.ae_semantics.specs.Report.{CellReport}
use Rattle.ae_semantics.specs.Runs.{Run}
use Rattle.ae_semantics.specs.Means.{stops_at}
use Rattle.ae_semantics.specs.Atom.{by_query}
use Rattle.ae_semantics.specs.Gathering.{Extends, StaysAs}
use Rattle.ae_semantics.specs.Moments.{Moment, notes_from}
use Rattle.ae_semantics.specs.BlockTrees.{Gained}
use Rattle.ae_semantics.specs.Stacks.{ToDo}
use Rattle.ae_semantics.specs.BlockRows.{EndedAs, RowStage, Waiting, Finished, Halted, LeftOut, Inside, Loop, InTurn}
use Rattle.ae_semantics.specs.BlockRows.{Paused, BlockRow, RowStatement, row_statements}
use Rattle.ae_semantics.specs.StageClaims.{IsOpenOrSeen, TellsGained, run_from, GoesThrough, EndsSo, RestsAt}
use Rattle.ae_semantics.specs.StageClaims.{IsBeforeTurn}
use Rattle.ae_semantics.specs.Reached.{IsStageRight, AreRight}
use Rattle.ae_semantics.specs.RowSteps.{AnsweringKeeps}
use Rattle.ae_semantics.proofs.Answering.{more_answers_keep}

-- more than more is more
extends_on : (table more most : Query → Option Seen) → Extends table more → Extends more most → Extends table most
extends_on table more most h k q x e = k q x (h q x e)

seen_still : (table more : Query → Option Seen) → Extends table more → (still : List CellName) (c : CellReport)
    → IsOpenOrSeen table still c → IsOpenOrSeen more still c
seen_still table more h still c (inl e) = inl e
seen_still table more h still c (inr e) = inr (h _ _ e)

told_still : (table more : Query → Option Seen) → Extends table more → (still : List CellName) (marks : List Mark)
    (gained : Gained) → TellsGained table still marks gained → TellsGained more still marks gained
told_still table more h still marks gained t = record {
  asked = t.asked;
  entered = t.entered;
  answers = λ e c. h _ _ (t.answers e c);
  ends = λ x c. seen_still table more h still x (t.ends x c);
}

-- what the statement does by the answers that there are
run_still : (p : Code) (table more : Query → Option Seen) → Extends table more → (x : RowStatement) (values : Moment)
    (r : Run ⊤) → run_from (stops_at p (by_query table)) x values ≡ r
    → StaysAs r (run_from (stops_at p (by_query more)) x values)
run_still p table more h x values r e =
    subst (λ (y : Run ⊤). StaysAs y (run_from (stops_at p (by_query more)) x values)) e
    (more_answers_keep p x.fuel table more h x.passage.here x.at x.action values.state (notes_from values))

through_answered : (p : Code) (table more : Query → Option Seen) → Extends table more → (x : RowStatement) (m : Moment)
    (gained : Gained) → GoesThrough p table x m gained → GoesThrough p more x m gained
through_answered p table more h x m gained g = record {
  values = g.values;
  found = g.found;
  state = g.state;
  notes = g.notes;
  runs = run_still p table more h x g.values _ g.runs;
  left = g.left;
  told = told_still table more h [] g.notes.marks gained g.told;
}

ended_answered : (p : Code) (table more : Query → Option Seen) → Extends table more → (x : RowStatement) (e : EndedAs)
    (gained : Gained) → EndsSo p table x e gained → EndsSo p more x e gained
ended_answered p table more h x e gained g = record {
  values = g.values;
  found = g.found;
  notes = g.notes;
  runs = run_still p table more h x g.values _ g.runs;
  log = g.log;
  cell = g.cell;
  asked = g.asked;
  entered = g.entered;
  answers = λ y c. h _ _ (g.answers y c);
  past = λ most k. g.past most (extends_on table more most h k);
}

rests_answered : (p : Code) (table more : Query → Option Seen) → Extends table more → (x : RowStatement)
    (values : Moment) (stack : List ToDo) (now : Moment) (gained : Gained)
    → RestsAt p table x values stack now gained → RestsAt p more x values stack now gained
rests_answered p table more h x values stack now gained g = record {
  found = g.found;
  marks = g.marks;
  comes = λ most k. g.comes most (extends_on table more most h k);
  told = told_still table more h _ g.marks gained g.told;
}

before_turn_answered : (p : Code) (table more : Query → Option Seen) → Extends table more → (x : RowStatement)
    (t fuel : ℕ) (now : Moment) (gained : Gained) → IsBeforeTurn p table x t fuel now gained
    → IsBeforeTurn p more x t fuel now gained
before_turn_answered p table more h x t fuel now gained (e, n, b, values, i, g) =
    (e, n, b, values, i, rests_answered p table more h x values _ now gained g)

right_answered : (p : Code) (table more : Query → Option Seen) → Extends table more → (rows : List BlockRow)
    (x : RowStatement) (s : RowStage) → IsStageRight p table rows x s → IsStageRight p more rows x s
right_answered p table more h rows x Waiting g = tt
right_answered p table more h rows x (Finished m gained) g =
    (g.0, through_answered p table more h x m gained g.1)
right_answered p table more h rows x (Halted e gained) g = (g.0, ended_answered p table more h x e gained g.1)
right_answered p table more h rows x LeftOut g = g
right_answered p table more h rows x (Inside inner cells) g = g
right_answered p table more h rows x (Loop t fuel now gained) g =
    (g.0, before_turn_answered p table more h x t fuel now gained g.1)
right_answered p table more h rows x (InTurn t fuel gained) (f, (r, e, g)) =
    (f, (r, e, (before_turn_answered p table more h x t fuel r.entry.values gained g.0, g.1)))
right_answered p table more h rows x (Paused start stack now gained) g =
    (g.0, rests_answered p table more h x start stack now gained g.1)

all_answered : (p : Code) (table more : Query → Option Seen) → Extends table more → (rows : List BlockRow)
    (xs : List (RowStatement × RowStage)) → AreRight p table rows xs → AreRight p more rows xs
all_answered p table more h rows [] g = tt
all_answered p table more h rows (x ∷ xs) g =
    (right_answered p table more h rows x.0 x.1 g.0, all_answered p table more h rows xs g.1)

pub answering_keeps : AnsweringKeeps
answering_keeps p ints fuel table more rows h g = record {
  begins = g.begins;
  start = g.start;
  body = g.body;
  first = g.first;
  entered = g.entered;
  each = λ r c.
      let a = g.each r c in
      record { counted = a.counted; each = all_answered p table more h rows (row_statements p r) a.each };
  differ = g.differ;
  inside = g.inside;
}
