-- The texts of the whole tool that are not printed yet: the order of events, what lies past an ending, a trace, and a made program.
use Rattle.std.specs.Prelude.{ℕ, zero, suc, Bool, List, [], ◌∷◌, ◌++◌, codes, if◌then◌else◌}
use Rattle.std.specs.Fmt.{decimal}
use Rattle.ae_text.specs.declared.refusal.Spot.{Spot}
use Rattle.ae_semantics.specs.declared.report.Ending.{Ending}
use Rattle.aem.specs.Texts.{feed_after, last_byte, ending_text}
use Rattle.ae_graph.specs.GraphText.{spaced}

-- the ranks of the events, where there is one
abbrev pub order_text : List ℕ → List ℕ
order_text [] = []
order_text (n ∷ ns) = codes "== order" ++ spaced (n ∷ ns) ++ codes "\n"

-- how many events lie past the ending, where one does
abbrev pub past_text : ℕ → List ℕ
past_text zero = []
past_text (suc n) = codes "== past " ++ decimal (suc n) ++ codes "\n"

-- a task that ran: its statement's place, and when it began and ended
pub record TaskLine : Type 0 where
  pub at : Spot
  pub began : ℕ
  pub ended : ℕ

-- == task LINE:COL BEGAN ENDED
abbrev pub task_text : TaskLine → List ℕ
task_text t =
    codes "== task " ++ decimal t.at.line ++ codes ":" ++ decimal t.at.col ++ codes " " ++ decimal t.began
    ++ codes " " ++ decimal t.ended ++ codes "\n"

abbrev pub trace_text : List TaskLine → List ℕ
trace_text [] = []
trace_text (t ∷ ts) = task_text t ++ trace_text ts

-- what a run on workers comes to: the bytes, the ending, the ranks of its events, how many of them lie past the ending, and its tasks
pub record WholeRun : Type 0 where
  pub out : List ℕ
  pub ending : Ending
  pub order : List ℕ
  pub past : ℕ
  pub trace : List TaskLine

-- the bytes printed, with a line feed at their end, and the ending
abbrev pub plain_text : WholeRun → List ℕ
plain_text r = r.out ++ feed_after (last_byte r.out) ++ ending_text r.ending

-- the same with the order, what is past, and where it is asked for the trace
abbrev pub run_text : WholeRun → (traced : Bool) → List ℕ
run_text r traced = plain_text r ++ order_text r.order ++ past_text r.past
    ++ (if traced then trace_text r.trace else [])

-- a made program of this size with that many methods, its number of events, and its run
abbrev pub made_text : (size methods events : ℕ) → WholeRun → List ℕ
made_text size methods events r =
    codes "made " ++ decimal size ++ codes ": methods " ++ decimal methods ++ codes " events " ++ decimal events
    ++ codes "\n" ++ plain_text r
