-- From what the crates below answer to what the top promises.
use Rattle.std.proofs.Common.{◌≡◌, inr, Result, Ok, Err, ℕ, List, ap}
use Rattle.std.specs.Prelude.{⊤, IfOk}
use Rattle.ae_text.specs.declared.refusal.Deny.{Deny}
use Rattle.ae_text.specs.declared.refusal.Deny.TheVariants as d
use Rattle.ae_tree.specs.declared.tree.Program.{Program}
use Rattle.ae_tree.specs.Plain.{Code}
use Rattle.ae_tree.specs.Shown.{code as plain}
use Rattle.ae_rules.specs.declared.table.ClassTable.{ClassTable}
use Rattle.ae_rules.specs.Answers.{Answers}
use Rattle.ae_rules.specs.Verdict.{Verdict, ◌>>◌, each}
use Rattle.ae_rules.specs.Table.{table_verdict}
use Rattle.ae_rules.specs.Judges.{FirstBroken, judge_method, verdict}
use Rattle.ae_rules.specs.OfLanguage.{BrokenIsOfLanguage}
use Rattle.ae_classes.specs.Classes.{passed}
use Rattle.ae_code.specs.declared.checked.Checked.{Checked}
use Rattle.ae_check.specs.Methods.{accepted}
use Rattle.aem.specs.declared.answer.Command.{Command}
use Rattle.aem.specs.declared.answer.What.{What}
use Rattle.aem.specs.declared.answer.What.TheVariants as w
use Rattle.aem.specs.Small.{IsSource}
use Rattle.aem.specs.Top.{denial, Rejected, IsOfMode, IsFound, IsDecided, IsAnswer}

-- what is answered for a text's program is the text's answer
pub decided : (command : Command) (text : List ℕ) (p : Code) → IsSource text p → (what : What)
    → IsDecided command p what → IsAnswer command text what
decided command text p s (w.Usage kind) d = d
decided command text p s w.ReadFault d = d
decided command text p s (w.Refused r) d = Rejected p s d
decided command text p s w.Checked (o, a, d) = (p, s, o, a, d)
decided command text p s (w.Graph graph) (o, a, d) = (p, s, o, a, d)
decided command text p s (w.Ran report) (o, a, d) = (p, s, o, a, d)
decided command text p s w.Memory d = tt

-- a program of the mode's forms that is refused is answered so
pub refusal_is_decided : (command : Command) (p : Code) (e : Deny) → IsOfMode command p → IsFound p (Err e)
    → IsDecided command p (denial e)
refusal_is_decided command p (d.Refused r) o f = inr (o, f)
refusal_is_decided command p d.Memory o f = tt

-- a clause of the class table that is broken is the first rule that the program breaks
pub table_refusal_is_found : BrokenIsOfLanguage → (p : Code) (e : Deny)
    → Answers {B = ClassTable} (table_verdict p) passed (Err e)
    → IsFound p (Err e)
table_refusal_is_found law p (d.Refused r) f =
    let g : FirstBroken p r.rule r.at = ap (λ (v : Verdict ⊤). v >> each (judge_method p) p.methods) f in
    (law p r.rule r.at g, g)
table_refusal_is_found law p d.Memory f = tt

-- a program is found to be what its verdict says
pub verdict_is_found : BrokenIsOfLanguage → (q : Program) (r : Result Checked Deny)
    → Answers (verdict (plain q)) accepted r → IfOk r (λ (k : Checked). k.program ≡ q) → IsFound (plain q) r
verdict_is_found law q (Ok k) f e = (f, ap plain e)
verdict_is_found law q (Err (d.Refused r)) f e = (law (plain q) r.rule r.at f, f)
verdict_is_found law q (Err d.Memory) f e = tt
