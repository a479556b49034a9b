-- The texts that are printed.
use Rattle.std.specs.Prelude.{ℕ, ◌-◌, List, [], ◌∷◌, ◌++◌, length, slice_get, Option, None, Some, codes, nat_eq}
use Rattle.std.specs.Prelude.{if◌then◌else◌}
use Rattle.std.specs.Fmt.{decimal}
use Rattle.ae_text.specs.declared.refusal.Refusal.{Refusal}
use Rattle.ae_text.specs.Rules.{rule_text}
use Rattle.ae_semantics.specs.declared.report.Ending.{Ending}
use Rattle.ae_semantics.specs.declared.report.Ending.TheVariants.{Done, Trap, Fuel}
use Rattle.aem.specs.declared.answer.Report.{Report}
use Rattle.aem.specs.declared.answer.What.{What}
use Rattle.aem.specs.declared.answer.What.TheVariants as w

abbrev pub usage_text : List ℕ
usage_text = codes "usage: aem check | aem graph | aem run [--workers N] [--fuel N] [--trace] [--] [INT]... | aem make N\n"

-- refused CODE NAME at LINE:COL
abbrev pub refusal_text : Refusal → List ℕ
refusal_text r = codes "refused " ++ rule_text r.rule ++ codes " at " ++ decimal r.at.line ++ codes ":"
    ++ decimal r.at.col ++ codes "\n"

abbrev pub ending_text : Ending → List ℕ
ending_text Done = codes "== done\n"
ending_text (Trap code at) = codes "== trap " ++ decimal code ++ codes " at " ++ decimal at.line ++ codes ":"
    ++ decimal at.col ++ codes "\n"
ending_text (Fuel at) = codes "== fuel at " ++ decimal at.line ++ codes ":" ++ decimal at.col ++ codes "\n"

-- a line feed is missing at the end of a text that is not empty
abbrev pub feed_after : Option ℕ → List ℕ
feed_after None = []
feed_after (Some last) = if nat_eq last 10 then [] else 10 ∷ []

abbrev pub last_byte : List ℕ → Option ℕ
last_byte bytes = slice_get bytes (length bytes - 1)

-- the bytes printed, with a line feed at their end, and the ending
abbrev pub report_text : Report → List ℕ
report_text r = r.out ++ feed_after (last_byte r.out) ++ ending_text r.ending

-- what is written for an accepted program that is checked alone
abbrev pub checked_text : List ℕ
checked_text = codes "accepted\n"

-- what is written for an answer
abbrev pub output : What → List ℕ
output (w.Usage kind) = usage_text
output w.ReadFault = []
output (w.Refused r) = refusal_text r
output w.Checked = checked_text
output (w.Graph text) = text
output (w.Ran report) = report_text report
output w.Memory = []

abbrev pub ending_status : Ending → ℕ
ending_status Done = 0
ending_status (Trap code at) = 1
ending_status (Fuel at) = 1

-- the status where the whole text was written
abbrev pub whole_status : What → ℕ
whole_status (w.Usage kind) = 3
whole_status w.ReadFault = 4
whole_status (w.Refused r) = 2
whole_status w.Checked = 0
whole_status (w.Graph text) = 0
whole_status (w.Ran report) = ending_status report.ending
whole_status w.Memory = 6

-- 5 where the writing was cut
abbrev pub status_of : What → Option ℕ → ℕ
status_of what None = whole_status what
status_of what (Some done) = 5
