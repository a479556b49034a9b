-- Tests, options and verdicts, taken apart.
use Rattle.std.proofs.Common.{◌≡◌, ℕ, nat_eq, Bool, true, false, ◌&&◌, ◌||◌, if◌then◌else◌, Option, None, Some, refl}
use Rattle.std.specs.Prelude.{is_some}
use Rattle.std.proofs.lemmas.Bool.{and_parts, or_parts, eq-eqb}
use Rattle.ae_rules.specs.Verdict.{Holds}

-- an option that has a thing has one
pub thing_is_there : {A : Type 0} (o : Option A) (x : A) → o ≡ Some x → is_some o ≡ true
thing_is_there None x e = absurd (cc)
thing_is_there (Some y) x e = refl

-- a verdict that holds has one value
pub held_is_one : {A : Type 0} (x y : A) → Holds x ≡ Holds y → x ≡ y
held_is_one x y e = cc

-- what is there behind a test that lets it through
pub shown_behind_test : {A : Type 0} (b : Bool) (o : Option A) (x : A) → (if b then o else None) ≡ Some x → o ≡ Some x
shown_behind_test true o x e = e
shown_behind_test false o x e = absurd (cc)

-- what is there behind a test that would hide it
pub left_by_test : {A : Type 0} (b : Bool) (o : Option A) (x : A) → (if b then None else o) ≡ Some x → o ≡ Some x
left_by_test true o x e = absurd (cc)
left_by_test false o x e = e
