-- Facts on outcomes: what comes of two, and what is there.
use Rattle.std.proofs.Common.{◌≡◌, refl, Bool, true, false, if◌then◌else◌, Option, None, Some}
use Rattle.ae_rules.specs.Verdict.{given}
use Rattle.ae_semantics.specs.Places.{Outcome, Fine, Traps, Lacks, ◌>>=◌, there, reached}

-- what comes of two comes of the first
pub fine_first : {A B : Type 0} (o : Outcome A) (next : A → Outcome B) (y : B) → (o >>= next) ≡ Fine y
    → (x : A) × (o ≡ Fine x) × (next x ≡ Fine y)
fine_first (Fine x) next y e = (x, refl, e)
fine_first (Traps code) next y e = absurd (cc e)
fine_first Lacks next y e = absurd (cc e)

-- what is there was found
pub there_is : {A : Type 0} (o : Option A) (x : A) → there o ≡ Fine x → o ≡ Some x
there_is None x e = absurd (cc e)
there_is (Some y) x e = cc e

-- what is reached was found
pub reached_is : {A : Type 0} (o : Option A) (x : A) → reached o ≡ Fine x → o ≡ Some x
reached_is None x e = absurd (cc e)
reached_is (Some y) x e = cc e

-- what is met, or opened, is the thing itself
pub passed_is : {A : Type 0} (b : Bool) (x y : A) → (if b then Fine x else Traps 3) ≡ Fine y → x ≡ y
passed_is true x y e = cc e
passed_is false x y e = absurd (cc e)

-- what an option gives was given by what it holds
pub given_first : {A B : Type 0} (o : Option A) (f : A → Option B) (y : B) → given o None f ≡ Some y
    → (x : A) × (o ≡ Some x) × (f x ≡ Some y)
given_first None f y e = absurd (cc e)
given_first (Some x) f y e = (x, refl, e)
