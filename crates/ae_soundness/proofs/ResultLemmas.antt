-- A `return` gives a result of its method's form, and no other statement without blocks and calls changes it.
use Rattle.std.proofs.Common.{◌≡◌, refl, sym, subst, List, Option, Some}
use Rattle.std.specs.Prelude.{⊤}
use Rattle.ae_text.specs.declared.refusal.Spot.{Spot}
use Rattle.ae_text.specs.declared.refusal.Rule.TheVariants as rule
use Rattle.ae_tree.specs.declared.tree.Ty.{Ty}
use Rattle.ae_tree.specs.declared.form.Form.{Form}
use Rattle.ae_tree.specs.Form.{form}
use Rattle.ae_tree.specs.Plain.{Code, Definition, Expression}
use Rattle.ae_rules.specs.Verdict.{Holds, found}
use Rattle.ae_rules.specs.Context.{Context, with_name_moved}
use Rattle.ae_rules.specs.Into.{into}
use Rattle.ae_rules.specs.Statements.{judge_return}
use Rattle.ae_semantics.specs.Values.{Val}
use Rattle.ae_semantics.specs.Places.{Outcome, Fine, Traps, Lacks, State}
use Rattle.ae_semantics.specs.Expressions.{value}
use Rattle.ae_semantics.specs.Equations.{one-Returns}
use Rattle.ae_semantics.specs.Observations.{Seen, Notes}
use Rattle.ae_semantics.specs.Runs.{Run, Went, Ends, Stops}
use Rattle.ae_semantics.specs.Meaning.{does, one, returns_value}
use Rattle.ae_soundness.specs.Fits.{IsOfForm, FieldsHaveMembers, FitsContext}
use Rattle.ae_soundness.specs.Laws.{IsValueOf}
use Rattle.ae_soundness.specs.Returns.{IsResultOf, HasResult, LeavesResult, KeepsResult, ReturnsGiveBy, ResultsStayBy}
use Rattle.ae_soundness.specs.Returns.{ReturnsGiveResults}
use Rattle.ae_soundness.proofs.IntoLemmas.{what_goes_in_fits}
use Rattle.ae_soundness.proofs.LastingLemmas.{Gives, then_gives, Leaves, Lasts, statement_lasts}
use Rattle.ae_soundness.proofs.from_rules.PathLemmas.{first_holds}
use Rattle.ae_soundness.proofs.from_rules.SeenLemmas.{found_is}

-- ---- other statements

-- the state has this result
abbrev IsAs : Option Val → State → Type 0
IsAs r s = s.result ≡ r

result_lasts : (r : Option Val) → Lasts (IsAs r)
result_lasts r = record { bound = λ x b s h. h; store = λ g st s h. h }

kept_result : {W : Type 0} (r : Option Val) (x : Run W) → Leaves (IsAs r) x → KeepsResult r x
kept_result r (Went s n) h = h
kept_result r (Ends ending n) h = tt
kept_result r (Stops n) h = tt

results_stay : (W : Type 0) → ResultsStayBy W
results_stay W m below here at a s n o r = kept_result s.result (one m below here at a s n)
    (statement_lasts (IsAs s.result) (result_lasts s.result) m below here at a s n (λ e. absurd (cc (r, e))) o refl)

-- ---- `return`

run_leaves : {W : Type 0} (p : Code) (m : Definition) (at : Spot) (n : Notes W) (o : Outcome State)
    → Gives (HasResult p m) o → LeavesResult p m (does at n o)
run_leaves p m at n (Fine s) h = h
run_leaves p m at n (Traps code) h = tt
run_leaves p m at n Lacks h = tt

value_gives : (p : Code) (t : Form) (o : Outcome Val) → IsValueOf p t o → Gives (IsOfForm p t) o
value_gives p t (Fine v) h = h
value_gives p t (Traps code) h = tt
value_gives p t Lacks h = tt

return_gives : (p : Code) (m : Definition) (c d : Context) (e : Expression) (at : Spot) (s : State)
    → FieldsHaveMembers p → FitsContext p c s → judge_return p m c e at ≡ Holds d
    → Gives (HasResult p m) (returns_value p m e s)
return_gives p m c d e at s w z h =
    let a = first_holds (found m.result rule.TypeMismatch at) _ d h in
    let t : Form = form a.0 in
    let b = first_holds (into p c t e) (λ name. Holds (with_name_moved name c)) d a.2 in
    then_gives (IsOfForm p t) (HasResult p m) (value p s e) _
    (value_gives p t (value p s e) (what_goes_in_fits p c s t e b.0 w z b.1))
    (λ v i. subst (λ (o : Option Ty). IsResultOf p o (Some v))
    (sym (found_is m.result rule.TypeMismatch at a.0 a.1)) i)

returns_give : (W : Type 0) → ReturnsGiveBy W
returns_give W m below here at e d s n w h z = rw (one-Returns m below here at e s n)
    (run_leaves m.code here.method at n (returns_value m.code here.method e s)
    (return_gives m.code here.method here.context d e at s w z h))

-- A `return` gives a result of its method's form, and nothing else changes it.
pub returns_give_results : ReturnsGiveResults
returns_give_results = ((returns_give ⊤, returns_give (List Seen)), (results_stay ⊤, results_stay (List Seen)))
