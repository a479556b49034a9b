-- What comes of what is there or traps, and never lacks.
use Rattle.std.proofs.Common.{sym, subst, ℤ, Bool}
use Rattle.ae_text.specs.declared.refusal.Spot.{Spot}
use Rattle.ae_tree.specs.declared.form.Form.{Form}
use Rattle.ae_tree.specs.declared.form.Form.TheVariants as f
use Rattle.ae_tree.specs.Plain.{Code}
use Rattle.ae_rules.specs.Context.{Context}
use Rattle.ae_semantics.specs.Values.{Val}
use Rattle.ae_semantics.specs.Places.{Outcome, Fine, Traps, Lacks, ◌>>=◌}
use Rattle.ae_semantics.specs.Expressions.{number, truth}
use Rattle.ae_semantics.specs.Observations.{Notes}
use Rattle.ae_semantics.specs.Runs.{Run, outcome_given}
use Rattle.ae_soundness.specs.Fits.{IsOfForm}
use Rattle.ae_soundness.specs.Laws.{IsValueOf, KeepsFitting}
use Rattle.ae_soundness.proofs.OperatorLemmas.{number_is, truth_is}

-- an outcome of which this holds, or a trap; nothing is lacking
abbrev pub Comes : {A : Type 0} → (A → Type 0) → Outcome A → Type 0
Comes P (Fine x) = P x
Comes P (Traps code) = Unit {0}
Comes P Lacks = ⊥

-- anything at all
abbrev pub Anything : {A : Type 0} → A → Type 0
Anything x = Unit {0}

-- First the one comes, and then the next.
pub then_comes : {A B : Type 0} (P : A → Type 0) (Q : B → Type 0) (o : Outcome A) (next : A → Outcome B) → Comes P o
    → ((x : A) → P x → Comes Q (next x)) → Comes Q (o >>= next)
then_comes P Q (Fine x) next h k = k x h
then_comes P Q (Traps code) next h k = tt
then_comes P Q Lacks next h k = absurd h

-- First the one comes, and then a run keeps fitting.
pub then_runs : {A W : Type 0} (P : A → Type 0) (p : Code) (d : Context) (o : Outcome A) (at : Spot) (n : Notes W)
    (go : A → Run W) → Comes P o → ((x : A) → P x → KeepsFitting p d (go x))
    → KeepsFitting p d (outcome_given o at n go)
then_runs P p d (Fine x) at n go h k = k x h
then_runs P p d (Traps code) at n go h k = tt
then_runs P p d Lacks at n go h k = absurd h

-- A value of a form comes.
pub value_comes : (p : Code) (t : Form) (o : Outcome Val) → IsValueOf p t o → Comes (IsOfForm p t) o
value_comes p t (Fine v) h = h
value_comes p t (Traps code) h = tt
value_comes p t Lacks h = h

-- A number comes of a number's form.
pub number_comes : (p : Code) (o : Outcome Val) → IsValueOf p f.Int o → Comes (Anything {A = ℤ}) (o >>= number)
number_comes p o h = then_comes (IsOfForm p f.Int) (Anything {A = ℤ}) o number (value_comes p f.Int o h)
    (λ v i. let n = number_is p v i in subst (λ x. Comes (Anything {A = ℤ}) (number x)) (sym n.1) tt)

-- A truth comes of a truth's form.
pub truth_comes : (p : Code) (o : Outcome Val) → IsValueOf p f.Bool o → Comes (Anything {A = Bool}) (o >>= truth)
truth_comes p o h = then_comes (IsOfForm p f.Bool) (Anything {A = Bool}) o truth (value_comes p f.Bool o h)
    (λ v i. let n = truth_is p v i in subst (λ x. Comes (Anything {A = Bool}) (truth x)) (sym n.1) tt)
