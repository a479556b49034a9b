-- Facts on whole statements, by what they do to the state and what they print.
use Rattle.std.proofs.Common.{◌≡◌, ◌∙◌, sym, ap, ℕ, List, [], ◌∷◌, ◌++◌, None, Some, Result, Ok, Err}
use Rattle.std.specs.Prelude.{OnOk}
use Rattle.std.proofs.lemmas.List.{append-nil}
use Rattle.ae_tree.specs.Plain.{Action, Definition, Code}
use Rattle.ae_semantics.specs.Places.{Outcome, Fine, ◌>>=◌, State}
use Rattle.ae_values.specs.Environments.{running_binds}
use Rattle.ae_values.specs.Shapes.{NameShape, shape_in}
use Rattle.ae_names.specs.Known.{names_declared, DeclaredAreFree}
use Rattle.ae_reads.specs.declared.stop.Stop.{Stop}
use Rattle.ae_reads.specs.Answers.{ReadsAs}
use Rattle.ae_running.specs.declared.running.Running.{Running}
use Rattle.ae_running.specs.Seen.{seen}
use Rattle.ae_acts.specs.Acts.{Acted, silent, silently, printing}
use Rattle.ae_acts.specs.Doing.{names_of, IsReady, ActsAs, PrintsAs}
use Rattle.ae_acts.proofs.from_reads.WalkLemmas.{faults_go_on, faults_equal}
use Rattle.ae_acts.proofs.ShapeLemmas.{unbound_is_free}

-- a statement that changes the state alone
pub acted_silently : {B : Type 0} (target : Outcome Acted) (o : Outcome State) (old new : Running) (r : Result B Stop)
    → target ≡ silently o → new.out ≡ old.out → ReadsAs o (λ (done : B). seen new) r → ActsAs target r old new
acted_silently target o old new (Ok done) same out h =
    (None, same ∙ ap silently h, ap (λ bytes. bytes.items) out ∙ sym (append-nil old.out.items))
acted_silently target o old new (Err stop) same out h = (
  faults_equal target (silently o) stop same (faults_go_on o (λ s. Fine (silent s)) stop h),
  ap (λ bytes. bytes.items) out,
)

-- a statement that prints alone
pub acted_printing : {B : Type 0} (target : Outcome Acted) (o : Outcome (List ℕ)) (old new : Running)
    (r : Result B Stop) → target ≡ (o >>= printing (seen old)) → seen new ≡ seen old
    → PrintsAs o r old.out.items new.out.items → ActsAs target r old new
acted_printing target o old new (Ok done) same stays h = (
  Some h.0,
  same ∙ ap (λ (y : Outcome (List ℕ)). y >>= printing (seen old)) h.1
      ∙ ap (λ s. Fine (record { state = s; printed = Some h.0 })) (sym stays),
  h.2,
)
acted_printing target o old new (Err stop) same stays h = (
  faults_equal target (o >>= printing (seen old)) stop same (faults_go_on o (printing (seen old)) stop h.0),
  h.1,
)

-- a name that a judged statement declares is free
pub declared_free : DeclaredAreFree → (p : Code) (m : Definition) (a : Action) (run : Running) → IsReady p m a run
    → (x : ℕ) (s : NameShape) → names_declared a ≡ (x, s) ∷ [] → shape_in (names_of run) x ≡ None
declared_free law p m a run ready x s is = unbound_is_free (running_binds run.env) x
    (law p m ready.0 a ready.1 ready.2 (running_binds run.env) ready.3 ready.4 x s is)

-- a statement that declares nothing leaves the names
pub names_stay : {B E : Type 0} (a : Action) (old new : Running) (r : Result B E) → names_declared a ≡ []
    → names_of new ≡ names_of old → OnOk r (names_of new ≡ names_of old ++ names_declared a)
names_stay a old new (Ok done) none same = same ∙ sym (append-nil (names_of old))
    ∙ ap (λ (ns : List (ℕ × NameShape)). names_of old ++ ns) (sym none)
names_stay a old new (Err e) none same = tt
