-- Scopes that grow step by step.
use Rattle.std.proofs.Common.{◌≡◌, ◌<◌, ◌+◌, ℕ, List, drop, get_or, length, sym, ap, ◌∙◌, Result, Ok, Err, OnOk}
use Rattle.std.proofs.lemmas.List.{drop_more}
use Rattle.ae_scope.specs.declared.scope.Scope.{Scope}
use Rattle.ae_scope.specs.declared.slot.Slot.{Slot}
use Rattle.ae_scope.specs.declared.slot.Change.{Change}
use Rattle.ae_scope.specs.Slots.{hold_at, replayed}
use Rattle.ae_scope.specs.Grows.{Grows}
use Rattle.ae_scope.proofs.GrowLemmas.{grows_same, grows_on}
use Rattle.ae_scope.proofs.StackLemmas.{grown_longer}

pub grows_then : (s t u : Scope) → Grows s t → Grows t u → Grows s u
grows_then s t u g h = grows_on s t u g h (grown_longer s t g)

-- first to a scope, and from it on where the call succeeds
pub grows_after : {A E : Type 0} (r : Result A E) (s t u : Scope) → Grows s t → OnOk r (Grows t u) → OnOk r (Grows s u)
grows_after (Ok x) s t u g h = grows_then s t u g h
grows_after (Err e) s t u g h = tt

pub ruleset grown = (grows_same, grows_then)

-- one thing more held again
pub replay_step : (cs : List Change) (i : ℕ) (d : Change) (xs ys zs : List Slot) → i < length cs
    → replayed cs zs ≡ replayed (drop i cs) xs → ys ≡ hold_at xs (get_or cs i d).slot (get_or cs i d).held
    → replayed cs zs ≡ replayed (drop (i + 1) cs) ys
replay_step cs i d xs ys zs l e f = e ∙ ap (λ (k : List Change). replayed k xs) (drop_more cs i d l)
    ∙ ap (replayed (drop (i + 1) cs)) (sym f)
