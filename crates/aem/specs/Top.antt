-- What the top call answers, and why.
use Rattle.std.specs.Prelude.{◌≡◌, ◌⊎◌, ℕ, ◌+◌, ◌≤◌, List, [], length, take, Option, None, Some, IsSome, Result, Ok}
use Rattle.std.specs.Prelude.{Err}
use Rattle.std.specs.Io.KnownBytes.{Consumes, IsAtEnd, Appends}
use Rattle.ae_text.specs.declared.refusal.Spot.{Spot}
use Rattle.ae_text.specs.declared.refusal.Rule.{Rule}
use Rattle.ae_text.specs.declared.refusal.Rule.TheVariants.{TooLong, NotBuilt}
use Rattle.ae_text.specs.Whole.{most}
use Rattle.ae_text.specs.declared.refusal.Deny.{Deny}
use Rattle.ae_text.specs.declared.refusal.Deny.TheVariants as d
use Rattle.ae_tree.specs.Plain.{Code}
use Rattle.ae_tree.specs.Refused.{IsRefused}
use Rattle.ae_soundness.specs.Whole.{IsUnsplit}
use Rattle.ae_rules.specs.OfLanguage.{IsOfLanguage}
use Rattle.ae_rules.specs.Judges.{Accepts, FirstBroken}
use Rattle.ae_code.specs.declared.checked.Checked.{Checked}
use Rattle.ae_tree.specs.Shown.{code as plain}
use Rattle.ae_levels.specs.Meanings.{MeansSo}
use Rattle.aem.specs.declared.answer.Report.{Report}
use Rattle.aem.specs.declared.answer.What.{What}
use Rattle.aem.specs.declared.answer.What.TheVariants as w
use Rattle.ae_text.specs.declared.token.Token.{Token}
use Rattle.ae_text.specs.Tokens.{Lexes, LexFault, place, first_spot}
use Rattle.aem.specs.Small.{IsSource}
use Rattle.ae_graph.specs.GraphText.{graph_text}
use Rattle.aem.specs.declared.answer.Command.{Command}
use Rattle.aem.specs.declared.answer.Command.TheVariants.{Check, Graph, Run}
use Rattle.aem.specs.declared.answer.UsageKind.{UsageKind}
use Rattle.aem.specs.Words.{command_of}

-- the text was read to the end of the source
abbrev pub IsWholeText : List ℕ → Option (List ℕ) → Type 0
IsWholeText taken left = (length taken ≤ most) × IsAtEnd left

-- the first fault of the text, at its place
abbrev pub IsFaultAt : Rule → Spot → List ℕ → Type 0
IsFaultAt rule at text = (offset : ℕ) × LexFault text rule offset × (at ≡ place text offset)

-- the text has tokens, and one of them is refused by this rule, at its place
abbrev pub IsTokenAt : Rule → Spot → List ℕ → Type 0
IsTokenAt rule at text = (tokens : List Token) × Lexes text tokens × IsRefused tokens rule at

-- the program has only forms that this mode has today: `check` and `graph` have all, and `run` all but `split` and `atomic`
abbrev pub IsOfMode : Command → Code → Type 0
IsOfMode Check program = Unit {0}
IsOfMode Graph program = Unit {0}
IsOfMode Run program = IsUnsplit program

-- this rule of the language is the first that the program breaks
abbrev pub IsBrokenFirst : Rule → Spot → Code → Type 0
IsBrokenFirst rule at program = IsOfLanguage rule × FirstBroken program rule at

-- the program has a form that the mode does not have yet, or it is not accepted, and this is the rule that it breaks first
abbrev pub IsRejected : Command → Rule → Spot → Code → Type 0
IsRejected command rule at program = ((rule ≡ NotBuilt) × (at ≡ first_spot) × (IsOfMode command program → ⊥))
    ⊎ (IsOfMode command program × IsBrokenFirst rule at program)

-- why a rule is the first that a whole text breaks, and where: it has no tokens, they are refused, or its program is
pub data IsBroken (command : Command) (rule : Rule) (at : Spot) (text : List ℕ) : Type 0 where
  NoTokens : IsFaultAt rule at text → IsBroken command rule at text
  NoProgram : IsTokenAt rule at text → IsBroken command rule at text
  Rejected : (program : Code) → IsSource text program → IsRejected command rule at program → IsBroken command rule at text

-- why a rule is the first that is broken: the source has a byte too many, or it was read to its end
pub data IsFirstBroken (c : Command) (rule : Rule) (at : Spot) (taken : List ℕ) (left : Option (List ℕ)) : Type 0 where
  Long : rule ≡ TooLong → at ≡ first_spot → length taken ≡ most + 1 → IsFirstBroken c rule at taken left
  Whole : IsWholeText taken left → IsBroken c rule at taken → IsFirstBroken c rule at taken left

-- the answer where a layer refuses, or wants memory
abbrev pub denial : Deny → What
denial (d.Refused r) = w.Refused r
denial d.Memory = w.Memory

-- why a text gives no program, whatever the mode
abbrev pub IsUnread : List ℕ → Deny → Type 0
IsUnread text (d.Refused r) = (command : Command) → IsBroken command r.rule r.at text
IsUnread text d.Memory = Unit {0}

-- the report has the ending and the bytes of the program's meaning, with no integers and a fuel of 100,000
abbrev pub IsMeant : Report → Code → Type 0
IsMeant report program = MeansSo program [] 100000 report.ending report.out

-- what an accepted program comes to: that it is accepted, the text of its graphs, or the report of its run
abbrev pub IsDoneFor : Command → Code → What → Type 0
IsDoneFor command program (w.Usage kind) = ⊥
IsDoneFor command program w.ReadFault = ⊥
IsDoneFor command program (w.Refused r) = ⊥
IsDoneFor command program w.Checked = command ≡ Check
IsDoneFor command program (w.Graph graph) = (command ≡ Graph) × (graph ≡ graph_text program)
IsDoneFor command program (w.Ran report) = (command ≡ Run) × IsMeant report program
IsDoneFor command program w.Memory = Unit {0}

-- the text is a source of an accepted program of forms that the mode has, which comes to this
abbrev pub IsDoneForSource : Command → List ℕ → What → Type 0
IsDoneForSource command text what = (program : Code) × IsSource text program × IsOfMode command program
    × Accepts program × IsDoneFor command program what

-- what is found of a program: it is accepted, or which rule it breaks first
abbrev pub IsFound : Code → Result Checked Deny → Type 0
IsFound program (Ok k) = Accepts program × (plain k.program ≡ program)
IsFound program (Err (d.Refused r)) = IsBrokenFirst r.rule r.at program
IsFound program (Err d.Memory) = Unit {0}

-- why this is the answer for a program: it is refused, or accepted and comes to this
abbrev pub IsDecided : Command → Code → What → Type 0
IsDecided command program (w.Usage kind) = ⊥
IsDecided command program w.ReadFault = ⊥
IsDecided command program (w.Refused r) = IsRejected command r.rule r.at program
IsDecided command program w.Memory = Unit {0}
IsDecided command program what = IsOfMode command program × Accepts program × IsDoneFor command program what

-- why this is the answer to a text: that it is accepted, the text of the graph, or the report of a run
abbrev pub IsAnswer : Command → List ℕ → What → Type 0
IsAnswer command text (w.Usage kind) = ⊥
IsAnswer command text w.ReadFault = ⊥
IsAnswer command text (w.Refused r) = IsBroken command r.rule r.at text
IsAnswer command text w.Checked = IsDoneForSource command text w.Checked
IsAnswer command text (w.Graph graph) = IsDoneForSource command text (w.Graph graph)
IsAnswer command text (w.Ran report) = IsDoneForSource command text (w.Ran report)
IsAnswer command text w.Memory = Unit {0}

-- why this is the answer to a command, where these bytes were taken and this is left
abbrev pub IsDone : Command → List ℕ → Option (List ℕ) → What → Type 0
IsDone command taken left (w.Usage kind) = ⊥
IsDone command taken left w.ReadFault = length taken ≤ most
IsDone command taken left (w.Refused r) = IsFirstBroken command r.rule r.at taken left
IsDone command taken left w.Checked = IsWholeText taken left × IsAnswer command taken w.Checked
IsDone command taken left (w.Graph graph) = IsWholeText taken left × IsAnswer command taken (w.Graph graph)
IsDone command taken left (w.Ran report) = IsWholeText taken left × IsAnswer command taken (w.Ran report)
IsDone command taken left w.Memory = Unit {0}

abbrev pub ByCommand : Result Command UsageKind → List ℕ → Option (List ℕ) → What → Type 0
ByCommand (Ok command) taken left what = IsDone command taken left what
ByCommand (Err kind) taken left what = (what ≡ w.Usage kind) × (taken ≡ [])

-- why this is the answer, where these bytes were taken and this is left
abbrev pub Caused : List (List ℕ) → List ℕ → Option (List ℕ) → What → Type 0
Caused words taken left w.Memory = Unit {0}
Caused words taken left what = ByCommand (command_of words) taken left what

-- some bytes were taken, and the answer has its cause in them
abbrev pub HasItsCause : List (List ℕ) → Option (List ℕ) → Option (List ℕ) → What → Type 0
HasItsCause words before after what = (taken : List ℕ) × Consumes before after taken × Caused words taken after what

-- the words and the bytes tell this answer: it is neither a failed read nor want of memory
abbrev pub IsTold : What → Type 0
IsTold w.ReadFault = ⊥
IsTold w.Memory = ⊥
IsTold _ = Unit {0}

-- two answers that the words and the bytes tell are one, where both have their cause in them
abbrev pub IsOneAnswer : Type 0
IsOneAnswer = (words : List (List ℕ)) (taken : List ℕ) (left : Option (List ℕ)) (a b : What) → IsTold a → IsTold b
    → Caused words taken left a → Caused words taken left b → a ≡ b

-- of the answers that words and known bytes tell, no other one has a cause
abbrev pub IsOnlyAnswer : List (List ℕ) → Option (List ℕ) → Option (List ℕ) → What → Type 0
IsOnlyAnswer words before after what = IsSome before → IsTold what → (other : What) → IsTold other
    → HasItsCause words before after other → other ≡ what

-- the words ask for this command, and the source has a text of this program, which is accepted and of forms that the mode has
pub record IsAsked (words : List (List ℕ)) (before : Option (List ℕ)) (command : Command) (program : Code) : Type
    0 where
  pub asked : command_of words ≡ Ok command
  pub text : List ℕ
  pub has : before ≡ Some text
  pub short : length text ≤ most
  pub source : IsSource text program
  pub built : IsOfMode command program
  pub accepted : Accepts program

-- an accepted program that is asked for has no other answer than that of its command, but for a failed read
abbrev pub IsAnswered : Type 0
IsAnswered = (words : List (List ℕ)) (before after : Option (List ℕ)) (what : What) (command : Command)
    (program : Code) →
    IsAsked words before command program → HasItsCause words before after what → (what ≡ w.ReadFault → ⊥)
    → IsDoneFor command program what

-- each accepted program that is asked for has the answer of its command, or want of memory, and nothing of it was cut
abbrev pub IsComplete : List (List ℕ) → Option (List ℕ) → What → Option ℕ → Type 0
IsComplete words before what cut = (command : Command) (program : Code) → IsAsked words before command program
    → IsDoneFor command program what × (cut ≡ None)

-- the sink took the whole text, or its first bytes where the answer was cut
abbrev pub Wrote : Option (List ℕ) → Option (List ℕ) → List ℕ → Option ℕ → Type 0
Wrote before after text None = Appends before after text
Wrote before after text (Some done) = (done ≤ length text) × Appends before after (take done text)

abbrev pub IsUsage : What → Type 0
IsUsage (w.Usage kind) = Unit {0}
IsUsage _ = ⊥
