-- Outcomes and runs that are alike, one after another.
use Rattle.std.proofs.Common.{◌≡◌, refl, sym, ap, ◌∙◌, subst, List, [], ◌++◌}
use Rattle.std.proofs.Common.{append_assoc, append-nil}
use Rattle.ae_text.specs.declared.refusal.Spot.{Spot}
use Rattle.ae_semantics.specs.Places.{Outcome, Fine, Traps, Lacks, ◌>>=◌, State}
use Rattle.ae_semantics.specs.declared.report.Ending.TheVariants.{Trap}
use Rattle.ae_semantics.specs.declared.report.Piece.{Piece}
use Rattle.ae_semantics.specs.Observations.{Notes}
use Rattle.ae_semantics.specs.Runs.{Run, Went, Ends, Stops, Act, and_then, outcome_given}
use Rattle.ae_semantics.specs.Meaning.{does}
use Rattle.ae_needs.specs.Agree.{PrintAlike, GoAlike}

-- ---- outcomes

-- both are there and so related, or both trap alike, or both lack something
abbrev pub Alike : {A : Type 0} → (A → A → Type 0) → Outcome A → Outcome A → Type 0
Alike R (Fine x) (Fine y) = R x y
Alike R (Fine x) (Traps code) = ⊥
Alike R (Fine x) Lacks = ⊥
Alike R (Traps code) (Fine y) = ⊥
Alike R (Traps code) (Traps other) = code ≡ other
Alike R (Traps code) Lacks = ⊥
Alike R Lacks (Fine y) = ⊥
Alike R Lacks (Traps code) = ⊥
Alike R Lacks Lacks = Unit {0}

-- First they are alike, and then the next are.
pub then_alike : {A B : Type 0} (R : A → A → Type 0) (S : B → B → Type 0) (o q : Outcome A)
    (next other : A → Outcome B) → Alike R o q → ((x y : A) → R x y → Alike S (next x) (other y))
    → Alike S (o >>= next) (q >>= other)
then_alike R S (Fine x) (Fine y) next other h k = k x y h
then_alike R S (Fine x) (Traps code) next other h k = absurd h
then_alike R S (Fine x) Lacks next other h k = absurd h
then_alike R S (Traps code) (Fine y) next other h k = absurd h
then_alike R S (Traps code) (Traps same) next other h k = h
then_alike R S (Traps code) Lacks next other h k = absurd h
then_alike R S Lacks (Fine y) next other h k = absurd h
then_alike R S Lacks (Traps code) next other h k = absurd h
then_alike R S Lacks Lacks next other h k = tt

-- First there is one outcome, and then the next are alike.
pub from_one : {A B : Type 0} (S : B → B → Type 0) (o : Outcome A) (next other : A → Outcome B)
    → ((x : A) → o ≡ Fine x → Alike S (next x) (other x)) → Alike S (o >>= next) (o >>= other)
from_one S (Fine x) next other k = k x refl
from_one S (Traps code) next other k = refl
from_one S Lacks next other k = tt

-- First there is the same outcome, and then the next are alike.
pub from_same : {A B : Type 0} (S : B → B → Type 0) (o q : Outcome A) (next other : A → Outcome B) → o ≡ q
    → ((x : A) → o ≡ Fine x → Alike S (next x) (other x)) → Alike S (o >>= next) (q >>= other)
from_same S o q next other e k = subst (λ (y : Outcome _). Alike S (o >>= next) (y >>= other)) e
    (from_one S o next other k)

-- ---- what is printed

-- Nothing was printed.
pub prints_nothing : (before other : List Piece) → PrintAlike before before other other
prints_nothing before other = record {
  pieces = [];
  first = sym (append-nil before);
  second = sym (append-nil other);
}

-- First the same was printed, and then the same again.
pub prints_then : (a b c x y z : List Piece) → PrintAlike a b x y → PrintAlike b c y z → PrintAlike a c x z
prints_then a b c x y z h k = record {
  pieces = h.pieces ++ k.pieces;
  first = k.first ∙ ap (λ (l : List Piece). l ++ k.pieces) h.first ∙ append_assoc a h.pieces k.pieces;
  second = k.second ∙ ap (λ (l : List Piece). l ++ k.pieces) h.second ∙ append_assoc x h.pieces k.pieces;
}

-- ---- runs

-- What follows from how they are related holds where they go alike.
pub alike_so : {W : Type 0} (R S : State → State → Type 0) (n k : Notes W) (r q : Run W) → GoAlike R n k r q
    → ((s t : State) → R s t → S s t) → GoAlike S n k r q
alike_so R S n k (Went s x) (Went t y) h f = (f s t h.0, h.1)
alike_so R S n k (Went s x) (Ends e y) h f = absurd h
alike_so R S n k (Went s x) (Stops y) h f = absurd h
alike_so R S n k (Ends e x) (Went t y) h f = absurd h
alike_so R S n k (Ends e x) (Ends g y) h f = h
alike_so R S n k (Ends e x) (Stops y) h f = absurd h
alike_so R S n k (Stops x) (Went t y) h f = absurd h
alike_so R S n k (Stops x) (Ends e y) h f = absurd h
alike_so R S n k (Stops x) (Stops y) h f = h

-- From outcomes that are alike runs go alike.
pub outcome_alike : {A W : Type 0} (R : A → A → Type 0) (S : State → State → Type 0) (o q : Outcome A) (at : Spot)
    (n k : Notes W) (go other : A → Run W) → Alike R o q
    → ((x y : A) → R x y → GoAlike S n k (go x) (other y))
    → GoAlike S n k (outcome_given o at n go) (outcome_given q at k other)
outcome_alike R S (Fine x) (Fine y) at n k go other h f = f x y h
outcome_alike R S (Fine x) (Traps code) at n k go other h f = absurd h
outcome_alike R S (Fine x) Lacks at n k go other h f = absurd h
outcome_alike R S (Traps code) (Fine y) at n k go other h f = absurd h
outcome_alike R S (Traps code) (Traps same) at n k go other h f =
    (ap (λ c. Trap c at) h, prints_nothing n.log k.log)
outcome_alike R S (Traps code) Lacks at n k go other h f = absurd h
outcome_alike R S Lacks (Fine y) at n k go other h f = absurd h
outcome_alike R S Lacks (Traps code) at n k go other h f = absurd h
outcome_alike R S Lacks Lacks at n k go other h f = prints_nothing n.log k.log

-- From one outcome runs go alike.
pub from_outcome : {A W : Type 0} (S : State → State → Type 0) (o : Outcome A) (at : Spot)
    (n k : Notes W) (go other : A → Run W) → ((x : A) → o ≡ Fine x → GoAlike S n k (go x) (other x))
    → GoAlike S n k (outcome_given o at n go) (outcome_given o at k other)
from_outcome S (Fine x) at n k go other f = f x refl
from_outcome S (Traps code) at n k go other f = (refl, prints_nothing n.log k.log)
from_outcome S Lacks at n k go other f = prints_nothing n.log k.log

-- From the same outcome runs go alike.
pub from_outcomes : {A W : Type 0} (S : State → State → Type 0) (o q : Outcome A) (at : Spot)
    (n k : Notes W) (go other : A → Run W) → o ≡ q → ((x : A) → o ≡ Fine x → GoAlike S n k (go x) (other x))
    → GoAlike S n k (outcome_given o at n go) (outcome_given q at k other)
from_outcomes S o q at n k go other e f =
    subst (λ (y : Outcome _). GoAlike S n k (outcome_given o at n go) (outcome_given y at k other)) e
    (from_outcome S o at n k go other f)

-- Outcomes that are alike are done alike.
pub does_alike : {W : Type 0} (S : State → State → Type 0) (o q : Outcome State) (at : Spot) (n k : Notes W)
    → Alike S o q → GoAlike S n k (does at n o) (does at k q)
does_alike S o q at n k h = outcome_alike S S o q at n k (λ s. Went s n) (λ s. Went s k) h
    (λ s t i. (i, prints_nothing n.log k.log))

-- What goes alike after the same was printed goes alike.
pub after_prints : {W : Type 0} (S : State → State → Type 0) (n k x y : Notes W) (r q : Run W)
    → PrintAlike n.log x.log k.log y.log → GoAlike S x y r q → GoAlike S n k r q
after_prints S n k x y (Went s u) (Went t v) h i = (i.0, prints_then n.log x.log u.log k.log y.log v.log h i.1)
after_prints S n k x y (Went s u) (Ends e v) h i = absurd i
after_prints S n k x y (Went s u) (Stops v) h i = absurd i
after_prints S n k x y (Ends e u) (Went t v) h i = absurd i
after_prints S n k x y (Ends e u) (Ends f v) h i = (i.0, prints_then n.log x.log u.log k.log y.log v.log h i.1)
after_prints S n k x y (Ends e u) (Stops v) h i = absurd i
after_prints S n k x y (Stops u) (Went t v) h i = absurd i
after_prints S n k x y (Stops u) (Ends e v) h i = absurd i
after_prints S n k x y (Stops u) (Stops v) h i = prints_then n.log x.log u.log k.log y.log v.log h i

-- First they go alike, and then what follows does.
pub runs_then : {W : Type 0} (R S : State → State → Type 0) (n k : Notes W) (r q : Run W) (go other : Act W)
    → GoAlike R n k r q → ((s t : State) (x y : Notes W) → R s t → GoAlike S x y (go s x) (other t y))
    → GoAlike S n k (and_then r go) (and_then q other)
runs_then R S n k (Went s x) (Went t y) go other h f = after_prints S n k x y (go s x) (other t y) h.1 (f s t x y h.0)
runs_then R S n k (Went s x) (Ends e y) go other h f = absurd h
runs_then R S n k (Went s x) (Stops y) go other h f = absurd h
runs_then R S n k (Ends e x) (Went t y) go other h f = absurd h
runs_then R S n k (Ends e x) (Ends g y) go other h f = h
runs_then R S n k (Ends e x) (Stops y) go other h f = absurd h
runs_then R S n k (Stops x) (Went t y) go other h f = absurd h
runs_then R S n k (Stops x) (Ends e y) go other h f = absurd h
runs_then R S n k (Stops x) (Stops y) go other h f = h
