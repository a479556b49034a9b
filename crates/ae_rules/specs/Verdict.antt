-- What the premises of a rule come to: they hold and give a value, or the first that fails names the broken rule and its place.
use Rattle.std.specs.Prelude.{Bool, true, false, List, [], ◌∷◌, Option, None, Some, ⊤}
use Rattle.ae_text.specs.declared.refusal.Spot.{Spot}
use Rattle.ae_text.specs.declared.refusal.Rule.{Rule}

pub data Verdict (A : Type 0) : Type 0 where
  Holds : A → Verdict A
  Broken : Rule → Spot → Verdict A

-- first the one, and with its value the next
infixr 10 ◌>>=◌
abbrev pub ◌>>=◌ : {A B : Type 0} → Verdict A → (A → Verdict B) → Verdict B
(Holds x) >>= next = next x
(Broken rule at) >>= next = Broken rule at

-- first the one, then the other
infixr 10 ◌>>◌
abbrev pub ◌>>◌ : {A B : Type 0} → Verdict A → Verdict B → Verdict B
v >> w = v >>= λ _. w

-- nothing is asked
abbrev pub fine : Verdict ⊤
fine = Holds tt

-- a premise that is a test
abbrev pub require : Bool → Rule → Spot → Verdict ⊤
require true rule at = fine
require false rule at = Broken rule at

-- a premise that something is there
abbrev pub found : {A : Type 0} → Option A → Rule → Spot → Verdict A
found None rule at = Broken rule at
found (Some x) rule at = Holds x

-- the premises of each, in order
abbrev pub each : {A : Type 0} → (A → Verdict ⊤) → List A → Verdict ⊤
each premise [] = fine
each premise (x ∷ xs) = premise x >> each premise xs

-- the premises of each, in order, where each is told what those before it came to
abbrev pub in_turn : {A S : Type 0} → (A → S → Verdict S) → List A → S → Verdict S
in_turn premise [] s = Holds s
in_turn premise (x ∷ xs) s = premise x s >>= in_turn premise xs

-- what an optional thing comes to, or else a value
abbrev pub given : {A B : Type 0} → Option A → B → (A → B) → B
given None other f = other
given (Some x) other f = f x

-- what a verdict comes to where it holds, or else a value
abbrev pub judged : {A B : Type 0} → Verdict A → B → (A → B) → B
judged (Holds x) other f = f x
judged (Broken rule at) other f = other

-- the premises of a thing, where it is there
abbrev pub if_there : {A : Type 0} → Option A → (A → Verdict ⊤) → Verdict ⊤
if_there o premise = given o fine premise
