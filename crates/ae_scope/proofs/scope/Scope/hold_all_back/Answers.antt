use Rattle.std.proofs.Common.{arith, ◌<◌, ◌≤◌, List, ℕ, length, sym, ap, ◌∙◌, get_or}
use Rattle.std.proofs.lemmas.List.{at_drop_all}
use Rattle.ae_scope.specs.Scope.{context_of, with_held_back}
use Rattle.ae_scope.proofs.RegroupLemmas.{with_these_held_back, next_is_held_back, listed_are_all}
use Rattle.ae_scope.proofs.ReplayLemmas.{grows_then}
use Rattle.ae_scope.proofs.scope.Scope.hold_all_back.Goals as goal

pub loop-i-preserved : goal.loop-i-preserved
loop-i-preserved c =
    let s0 = c.args.self.now in
    let s = c.loop-i.self in
    let t = c.hold_back.new.self in
    let i = c.loop-i.i in
    let x = c.index-name.result.now in
    let l : i < length s0.known.items = omega (arith, s0.known.ok.0) in
    record {
      rest = next_is_held_back s0.known.items i x (context_of s0) (context_of s) (context_of t) l
          c.loop-i.invariant.rest
          (c.in_ok-hold_back.ensures.context ∙ ap (λ (y : ℕ). with_held_back y (context_of s)) (c.index-name.ensures
          ∙ ap (λ (xs : List ℕ). get_or xs i x) c.loop-i.invariant.known));
      known = c.in_ok-hold_back.ensures.known ∙ c.loop-i.invariant.known;
      grows = grows_then s0 s t c.loop-i.invariant.grows c.in_ok-hold_back.ensures.grows;
    }

pub returns-clause-context : goal.returns-clause-context
returns-clause-context c =
    let s0 = c.args.self.now in
    let l : length s0.known.items ≤ c.loop-i.i = omega (arith, s0.known.ok.0) in
    sym (c.loop-i.invariant.rest ∙ at_drop_all (λ (xs : List ℕ). with_these_held_back xs (context_of c.loop-i.self))
    s0.known.items c.loop-i.i l) ∙ listed_are_all s0
