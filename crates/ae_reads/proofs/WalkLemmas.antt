-- Facts on walks: what is left of a walk from a place on its way.
use Rattle.std.proofs.Common.{◌≡◌, ◌∙◌, ℕ, ◌+◌, ◌<◌, ap, List, ◌∷◌, length, drop, get_or, subst, sym}
use Rattle.std.proofs.lemmas.List.{drop_more}
use Rattle.ae_tree.specs.declared.tree.NameAt.{NameAt}
use Rattle.ae_tree.specs.declared.tree.Path.{Path}
use Rattle.ae_tree.specs.Plain.{Code}
use Rattle.ae_semantics.specs.Places.{Outcome, Fine, ◌>>=◌, Address, walk_to, steps, step_to}
use Rattle.ae_values.specs.declared.env.Env.{Env}
use Rattle.ae_reads.specs.declared.found.Place.{Place}
use Rattle.ae_reads.specs.declared.found.Stepped.{Stepped}
use Rattle.ae_reads.specs.declared.stop.Stop.{Stop}
use Rattle.ae_reads.specs.declared.stop.Stop.TheVariants as stop
use Rattle.ae_reads.specs.Answers.{FaultsAs, AsSeen, state_seen}
use Rattle.ae_reads.specs.Views.{place_at, base_at, field_at, stepped_at}

-- a fault is a fault of whatever would have come next
pub faults_go_on : {A B : Type 0} (o : Outcome A) (next : A → Outcome B) (e : Stop) → FaultsAs o e
    → FaultsAs (o >>= next) e
faults_go_on o next (stop.Trap code) h = ap (λ y. y >>= next) h
faults_go_on o next stop.Lack h = ap (λ y. y >>= next) h
faults_go_on o next stop.Memory h = tt

-- a fault of an equal outcome
pub faults_equal : {A : Type 0} (o q : Outcome A) (e : Stop) → o ≡ q → FaultsAs q e → FaultsAs o e
faults_equal o q e same h = subst (λ x. FaultsAs x e) (sym same) h

-- a walk goes on from this place by these steps
abbrev pub GoesOn : Code → Env → Path → List NameAt → Address → Place → Type 0
GoesOn p env path rest at place = AsSeen env (λ s. walk_to p s path ≡ steps p s rest (place_at at place))

-- after a step it goes on from the place to which the step led
goes_on_after : (p : Code) (env : Env) (path : Path) (x : NameAt) (rest : List NameAt) (at : Address) (place : Place)
    (next : Stepped) → GoesOn p env path (x ∷ rest) at place
    → AsSeen env (λ s. step_to p s x (place_at at place) ≡ Fine (stepped_at at next))
    → GoesOn p env path rest (field_at (base_at at next.member) next.number) next.place
goes_on_after p env path x rest at place next h e = h ∙ ap (λ o. o >>= steps p (state_seen env) rest) e

-- the same, by the numbers of steps
pub goes_on_by_number : (p : Code) (env : Env) (path : Path) (xs : List NameAt) (i : ℕ) (d : NameAt) (at : Address)
    (place : Place) (next : Stepped) → i < length xs → GoesOn p env path (drop i xs) at place
    → step_to p (state_seen env) (get_or xs i d) (place_at at place) ≡ Fine (stepped_at at next)
    → GoesOn p env path (drop (i + 1) xs) (field_at (base_at at next.member) next.number) next.place
goes_on_by_number p env path xs i d at place next below h e =
    (goes_on_after) p env path (get_or xs i d) (drop (i + 1) xs) at place next
    (subst (λ ys. GoesOn p env path ys at place) (drop_more xs i d below) h) e

-- where a step fails the walk does
walk_fails : (p : Code) (env : Env) (path : Path) (x : NameAt) (rest : List NameAt) (at : Address) (place : Place)
    (e : Stop) → GoesOn p env path (x ∷ rest) at place → FaultsAs (step_to p (state_seen env) x (place_at at place)) e
    → FaultsAs (walk_to p (state_seen env) path) e
walk_fails p env path x rest at place e h fails = faults_equal (walk_to p (state_seen env) path)
    (step_to p (state_seen env) x (place_at at place) >>= steps p (state_seen env) rest) e h
    (faults_go_on (step_to p (state_seen env) x (place_at at place)) (steps p (state_seen env) rest) e fails)

-- the same, by the numbers of steps
pub fails_by_number : (p : Code) (env : Env) (path : Path) (xs : List NameAt) (i : ℕ) (d : NameAt) (at : Address)
    (place : Place) (e : Stop) → i < length xs → GoesOn p env path (drop i xs) at place
    → FaultsAs (step_to p (state_seen env) (get_or xs i d) (place_at at place)) e
    → FaultsAs (walk_to p (state_seen env) path) e
fails_by_number p env path xs i d at place e below h fails =
    (walk_fails) p env path (get_or xs i d) (drop (i + 1) xs) at place e
    (subst (λ ys. GoesOn p env path ys at place) (drop_more xs i d below) h) fails
