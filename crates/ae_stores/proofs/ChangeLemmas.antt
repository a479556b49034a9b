-- Facts on what is answered and left: of equal outcomes, and of what a write makes of a place.
use Rattle.std.proofs.Common.{◌≡◌, ◌∙◌, refl, sym, ap, subst, true, ◌<◌, List, ℕ, Option, None, Some, Result, arith}
use Rattle.std.specs.Prelude.{is_some}
use Rattle.std.proofs.lemmas.Option.{same_Some}
use Rattle.std.proofs.lemmas.Bool.{ltb-true}
use Rattle.ae_semantics.specs.Values.{Val, height, is_low, put_at}
use Rattle.ae_semantics.specs.Places.{Outcome, State, Base}
use Rattle.ae_values.specs.declared.value.Val.{Val as Held}
use Rattle.ae_reads.specs.declared.stop.Stop.{Stop}
use Rattle.ae_running.specs.declared.running.Running.{Running}
use Rattle.ae_stores.specs.Changes.{ChangesAs, TakesAs}
use Rattle.ae_stores.specs.Stand.{whole_at}

-- an answer is one of an equal outcome
pub changes_equal : (o q : Outcome State) (old new : Running) (r : Result (Unit {0}) Stop) → o ≡ q
    → ChangesAs q old r new → ChangesAs o old r new
changes_equal o q old new r same h = subst (λ x. ChangesAs x old r new) (sym same) h

-- an answer that is taken is one of an equal outcome
pub takes_equal : (o q : Outcome (Val × State)) (old new : Running) (r : Result Held Stop) → o ≡ q
    → TakesAs q old r new → TakesAs o old r new
takes_equal o q old new r same h = subst (λ x. TakesAs x old r new) (sym same) h

-- what is there is something
pub some_is : {A : Type 0} (o : Option A) → is_some o ≡ true → (x : A) × (o ≡ Some x)
some_is None e = absurd (cc e)
some_is (Some x) e = (x, refl)

-- what is low has room
pub low_has_room : (s : State) (base : Base) (fields : List ℕ) (new whole other : Val) → whole_at s base ≡ Some whole
    → is_low (put_at fields new whole) ≡ true → whole_at s base ≡ Some other
    → height (put_at fields new other) < 4294967296
low_has_room s base fields new whole other e low is =
    let same : whole ≡ other = same_Some whole other (sym e ∙ is) in
    let below : height (put_at fields new other) < 1001 = ltb-true (height (put_at fields new other)) 1001
    (ap (λ w. is_low (put_at fields new w)) (sym same) ∙ low) in
    omega (arith, below)
