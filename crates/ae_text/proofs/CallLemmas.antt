-- What several calls of a source ask for, and what a sink is offered in several calls.
use Rattle.std.proofs.Common.{◌≡◌, ℕ, ◌+◌, ◌-◌, ◌<◌, ◌≤◌, min, max, List, ◌++◌, length, take, drop, Option, None}
use Rattle.std.proofs.Common.{Some, refl, ap, ◌∙◌, arith, length-append}
use Rattle.std.proofs.lemmas.List.{length-take, length-drop}
use Rattle.std.specs.Io.KnownBytes.{Appends}
use Rattle.ae_text.specs.Calls.{Asks, AsksAtMost, Reaches, ReachesEnd}

-- the first bytes of a text, behind what stands there, and its rest come to all of it
rest_ends : (xs ys text : List ℕ) (done : ℕ) → done ≤ length text → ys ≡ xs ++ take done text
    → length ys + (length text - done) ≡ length xs + length text
rest_ends xs ys text done l e = omega (arith, ap length e ∙ length-append xs (take done text), length-take done text)

-- one more piece, which is the whole rest
pub reaches_end_once_more : (a b c : Option ℕ) (old now : Option (List ℕ)) (text rest : List ℕ) (done : ℕ)
    → done ≤ length text → length rest ≡ length text - done →
    ReachesEnd a b old text → Appends old now (take done text) → Reaches b c now rest → ReachesEnd a c old text
reaches_end_once_more None b c old now text rest done l e p q r = tt
reaches_end_once_more (Some x) None c old now text rest done l e p q r = absurd p
reaches_end_once_more (Some x) (Some y) None old now text rest done l e p q r = absurd r
reaches_end_once_more (Some x) (Some y) (Some z) None now text rest done l e p q r = tt
reaches_end_once_more (Some x) (Some y) (Some z) (Some xs) None text rest done l e p q r = absurd q
reaches_end_once_more (Some x) (Some y) (Some z) (Some xs) (Some ys) text rest done l e p q r =
    omega (arith, p, r, e, rest_ends xs ys text done l q)
