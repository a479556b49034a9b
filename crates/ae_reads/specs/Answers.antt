-- What a call that reads answers, against the outcome that the meaning comes to.
use Rattle.std.specs.Prelude.{◌≡◌, ℕ, [], None, Result, Ok, Err}
use Rattle.ae_semantics.specs.Places.{Outcome, Fine, Traps, Lacks, Address, CellName, State}
use Rattle.ae_values.specs.declared.env.Env.{Env}
use Rattle.ae_values.specs.Environments.{state_in}
use Rattle.ae_reads.specs.declared.stop.Stop.{Stop}
use Rattle.ae_reads.specs.declared.stop.Stop.TheVariants as stop

-- The fault is the outcome: the same trap, or a lack. Of want of memory nothing is said.
abbrev pub FaultsAs : {A : Type 0} → Outcome A → Stop → Type 0
FaultsAs o (stop.Trap code) = o ≡ Traps code
FaultsAs o stop.Lack = o ≡ Lacks
FaultsAs o stop.Memory = Unit {0}

-- The answer is the outcome: it shows what there is, or has its fault.
abbrev pub ReadsAs : {A B : Type 0} → Outcome A → (B → A) → Result B Stop → Type 0
ReadsAs o view (Ok b) = o ≡ Fine (view b)
ReadsAs o view (Err e) = FaultsAs o e

-- an answer that shows itself
abbrev pub as_it_is : {A : Type 0} → A → A
as_it_is x = x

-- each cell has the same name
abbrev pub one_name : ℕ → CellName
one_name n = record { path = []; group = 0 }

-- the state that is seen in an environment, where nothing was returned; what cells are called is not read
abbrev pub state_seen : Env → State
state_seen env = state_in one_name None env

-- it is so of the state that is seen in an environment
abbrev pub AsSeen : Env → (State → Type 0) → Type 0
AsSeen env so = so (state_seen env)

-- The same where the meaning has an address that the answer does not tell: there is one.
abbrev pub AnswersSomewhere : {A B : Type 0} → Env → (State → Outcome A) → (Address → B → A) → Result B Stop → Type 0
AnswersSomewhere env o view (Ok b) = (at : Address) × AsSeen env (λ s. o s ≡ Fine (view at b))
AnswersSomewhere env o view (Err e) = AsSeen env (λ s. FaultsAs (o s) e)
