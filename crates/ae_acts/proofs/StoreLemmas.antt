-- Facts on writes and on fields that are taken, as acts.
use Rattle.std.proofs.Common.{◌≡◌, refl, ap, Result, Ok, Err}
use Rattle.ae_text.specs.declared.refusal.Spot.{Spot}
use Rattle.ae_tree.specs.declared.tree.Path.{Path}
use Rattle.ae_tree.specs.declared.form.Form.{Form}
use Rattle.ae_tree.specs.Plain.{Code, Taken}
use Rattle.ae_semantics.specs.Values as meant
use Rattle.ae_semantics.specs.Places as place
use Rattle.ae_semantics.specs.Places.{Outcome, Fine, ◌>>=◌, State}
use Rattle.ae_semantics.specs.Meaning.{take_field}
use Rattle.ae_reads.specs.declared.stop.Stop.{Stop}
use Rattle.ae_reads.specs.Answers.{ReadsAs}
use Rattle.ae_running.specs.declared.running.Running.{Running}
use Rattle.ae_running.specs.Seen.{seen}
use Rattle.ae_stores.specs.Changes.{ChangesAs}
use Rattle.ae_acts.specs.Made.{made_low, taken_low, lowered}

-- what changes a run reads as the state that is seen afterwards
pub change_read : (o : Outcome State) (old new : Running) (r : Result (Unit {0}) Stop) → ChangesAs o old r new
    → ReadsAs o (λ (done : Unit {0}). seen new) r
change_read o old new (Ok done) h = h
change_read o old new (Err stop) h = h.0

-- a pair made of its parts
paired : (o : Outcome (meant.Val × State)) → (o >>= λ (r : meant.Val × State). Fine (r.0, r.1)) ≡ o
paired (Fine r) = refl
paired (place.Traps code) = refl
paired place.Lacks = refl

-- a field's value that goes to a local
pub field_goes : (p : Code) (target : Form) (path : Path) (at : Spot) (s : State)
    → made_low p target (Taken path at) s ≡ taken_low p path s
field_goes p target path at s = ap (λ (o : Outcome (meant.Val × State)). o >>= lowered) (paired (take_field p s path))
